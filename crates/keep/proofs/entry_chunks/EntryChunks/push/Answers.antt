use Rattle.std.proofs.Common.{◌≡◌, ◌+◌, ℕ, List, [], ◌∷◌, ◌++◌, length, sym, ap, subst, ◌∙◌, rules, arith, length-append}
use Rattle.std.specs.Prelude.{nat_eq}
use Rattle.std.specs.List.{common_prefix_len}
use Rattle.reads.specs.EncodedEntry.{Entry}
use Rattle.reads.specs.BuilderView.{last_key}
use Rattle.keep.specs.EntryChunks.{all_kept, AreInChunks}
use Rattle.keep.proofs.LastKept.{last_of_all}
use Rattle.keep.proofs.ChunkLists.{all_kept_push, chunks_same, chunks_push}
use Rattle.keep.proofs.entry_chunks.EntryChunks.push.Goals as goal

pub invariant_of-self-2 : goal.invariant_of-self-2
invariant_of-self-2 c =
    let was = c.self.inside in
    let full : List (List Entry) = c.make_room.new.full.items in
    let last : List Entry = c.make_room.new.last in
    let e : Entry = record { key = c.args.key.bytes.now; value = c.args.value.now } in
    let moved : AreInChunks full last (length was.tally.items) =
    chunks_same was.full.items full was.last last (length was.tally.items) c.self.invariant c.make_room.ensures.same (c.make_room.ensures.full c.self.invariant.full) c.make_room.ensures.last in
    let items : c.push-2.new.self.items ≡ was.tally.items ++ tt ∷ [] = search rules in
    let count : length c.push-2.new.self.items ≡ length was.tally.items + 1 = omega (arith, ap length items, length-append was.tally.items (tt ∷ [])) in
    subst (λ (es : List Entry). AreInChunks full es (length c.push-2.new.self.items)) (sym c.in_ok-push.ensures.ok)
    (chunks_push full last (length was.tally.items) (length c.push-2.new.self.items) e moved count c.args.key.lawful c.in_ok-make_room.ensures.room)

pub returns-clause-ok : goal.returns-clause-ok
returns-clause-ok c =
    let full : List (List Entry) = c.make_room.new.full.items in
    let e : Entry = record { key = c.args.key.bytes.now; value = c.args.value.now } in
    ap (λ (es : List Entry). all_kept full es) c.in_ok-push.ensures.ok
    ∙ all_kept_push full c.make_room.new.last e
    ∙ ap (λ (es : List Entry). es ++ e ∷ []) (c.make_room.ensures.same ∙ c.self.view_is)

pub push-requires-clause-shared : goal.push-requires-clause-shared
push-requires-clause-shared c =
    λ some.
    let was = c.self.inside in
    let full : List (List Entry) = c.make_room.new.full.items in
    let last : List Entry = c.make_room.new.last in
    let key : last_key [] c.args.self.now ≡ last_key [] last =
    ap (last_key []) (sym c.self.view_is ∙ sym c.make_room.ensures.same) ∙ last_of_all full last some in
    c.requires.shared ∙ ap (λ (bytes : List ℕ). common_prefix_len nat_eq bytes c.args.key.bytes.now) key

pub push-requires-clause-room : goal.push-requires-clause-room
push-requires-clause-room c = c.in_ok-make_room.ensures.room
