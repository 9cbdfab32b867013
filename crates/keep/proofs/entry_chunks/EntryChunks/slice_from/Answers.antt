use Rattle.std.proofs.Common.{◌≡◌, ◌<◌, ◌≤◌, ◌/◌, ◌%◌, List, [], ◌∷◌, ◌++◌, length, take, drop, Some, sym, ap, subst, ◌∙◌, arith}
use Rattle.std.specs.Prelude.{slice_get}
use Rattle.std.proofs.lemmas.List.{length-drop}
use Rattle.reads.specs.EncodedEntry.{Entry}
use Rattle.keep.specs.EntryChunks.{all_kept}
use Rattle.keep.proofs.ChunkLists.{stands_in}
use Rattle.keep.proofs.entry_chunks.EntryChunks.slice_from.Goals as goal

pub chunk_of-chunk-requires : goal.chunk_of-chunk-requires
chunk_of-chunk-requires c =
    let was = c.self.inside in
    let number : length (all_kept was.full.items was.last) ≡ length c.args.self.now = ap length c.self.view_is in
    let lt : c.args.place < length c.args.self.now = c.requires in
    let stands = stands_in was.full.items was.last (length was.tally.items) c.args.place c.self.invariant (omega (arith, number, lt)) in
    subst (λ (ps : List (List Entry)). c.args.place / 4096 ≤ length ps) (sym c.deref.ensures.value) stands.numbered

pub slice_from-requires : goal.slice_from-requires
slice_from-requires c =
    let was = c.self.inside in
    let number : length (all_kept was.full.items was.last) ≡ length c.args.self.now = ap length c.self.view_is in
    let lt : c.args.place < length c.args.self.now = c.requires in
    let stands = stands_in was.full.items was.last (length was.tally.items) c.args.place c.self.invariant (omega (arith, number, lt)) in
    stands.within c.chunk_of-chunk.result.now
    (subst (λ (ps : List (List Entry)). slice_get (ps ++ was.last ∷ []) (c.args.place / 4096) ≡ Some c.chunk_of-chunk.result.now) c.deref.ensures.value c.chunk_of-chunk.ensures)

pub returns-clause-some : goal.returns-clause-some
returns-clause-some c =
    let was = c.self.inside in
    let number : length (all_kept was.full.items was.last) ≡ length c.args.self.now = ap length c.self.view_is in
    let lt : c.args.place < length c.args.self.now = c.requires in
    let stands = stands_in was.full.items was.last (length was.tally.items) c.args.place c.self.invariant (omega (arith, number, lt)) in
    let within : c.args.place % 4096 < length c.chunk_of-chunk.result.now = stands.within c.chunk_of-chunk.result.now
    (subst (λ (ps : List (List Entry)). slice_get (ps ++ was.last ∷ []) (c.args.place / 4096) ≡ Some c.chunk_of-chunk.result.now) c.deref.ensures.value c.chunk_of-chunk.ensures) in
    omega (arith, within, length-drop (c.args.place % 4096) c.chunk_of-chunk.result.now, ap length c.slice_from.ensures)

pub returns-clause-front : goal.returns-clause-front
returns-clause-front c =
    let was = c.self.inside in
    let number : length (all_kept was.full.items was.last) ≡ length c.args.self.now = ap length c.self.view_is in
    let lt : c.args.place < length c.args.self.now = c.requires in
    let stands = stands_in was.full.items was.last (length was.tally.items) c.args.place c.self.invariant (omega (arith, number, lt)) in
    let front : take (length (drop (c.args.place % 4096) c.chunk_of-chunk.result.now)) (drop c.args.place (all_kept was.full.items was.last)) ≡ drop (c.args.place % 4096) c.chunk_of-chunk.result.now =
    stands.front c.chunk_of-chunk.result.now
    (subst (λ (ps : List (List Entry)). slice_get (ps ++ was.last ∷ []) (c.args.place / 4096) ≡ Some c.chunk_of-chunk.result.now) c.deref.ensures.value c.chunk_of-chunk.ensures) in
    ap (λ (es : List Entry). take (length c.slice_from.result) (drop c.args.place es)) (sym c.self.view_is)
    ∙ ap (λ (es : List Entry). take (length es) (drop c.args.place (all_kept was.full.items was.last))) c.slice_from.ensures
    ∙ front
    ∙ sym c.slice_from.ensures
