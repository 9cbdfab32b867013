use Rattle.std.proofs.Common.{◌≡◌, ◌<◌, List, length, sym, ap, ◌∙◌, arith}
use Rattle.std.proofs.lemmas.Option.{get_or_from_slice_get}
use Rattle.std.specs.Prelude.{slice_get}
use Rattle.std.specs.Option.{option_map}
use Rattle.reads.specs.EncodedEntry.{Entry}
use Rattle.keep.proofs.KeyBuffers.{length-entries, entry_at}
use Rattle.keep.proofs.chunk_slice.ChunkSlice.value.Goals as goal

pub entry_of-requires : goal.entry_of-requires
entry_of-requires c =
    let was = c.self.inside in
    let count : length was.kept.now ≡ length c.args.self.now = sym (length-entries was.start was.keys.now was.kept.now) ∙ ap length c.self.view_is in
    let lt : c.args.place < length c.args.self.now = c.requires in
    omega (arith, count, lt)

pub returns : goal.returns
returns c =
    let was = c.self.inside in
    let count : length was.kept.now ≡ length c.args.self.now = sym (length-entries was.start was.keys.now was.kept.now) ∙ ap length c.self.view_is in
    let lt : c.args.place < length c.args.self.now = c.requires in
    ap (λ (es : List Entry). option_map (λ (e : Entry). e.value) (slice_get es c.args.place)) (sym c.self.view_is)
    ∙ ap (option_map (λ (e : Entry). e.value)) (entry_at was.start was.keys.now was.kept.now c.args.place c.entry_of.result.now (omega (arith, count, lt)) (sym (get_or_from_slice_get was.kept.now c.args.place c.entry_of.result.now c.entry_of.result.now c.entry_of.ensures)))
