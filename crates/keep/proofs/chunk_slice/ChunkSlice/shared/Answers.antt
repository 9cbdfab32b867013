use Rattle.std.proofs.Common.{◌≡◌, ◌<◌, List, [], length, sym, ap, ◌∙◌, arith}
use Rattle.std.proofs.lemmas.Option.{get_or_from_slice_get}
use Rattle.std.specs.Prelude.{slice_get}
use Rattle.reads.specs.EncodedEntry.{Entry}
use Rattle.keep.specs.SharedLengths.{shared_lens}
use Rattle.keep.proofs.KeyBuffers.{length-entries, shared_at}
use Rattle.keep.proofs.chunk_slice.ChunkSlice.shared.Goals as goal

pub entry_of-requires : goal.entry_of-requires
entry_of-requires c =
    let was = c.self.inside in
    let count : length was.kept.now ≡ length c.args.self.now = sym (length-entries was.start was.keys.now was.kept.now) ∙ ap length c.self.view_is in
    let lt : c.args.place < length c.args.self.now = c.requires.within in
    omega (arith, count, lt)

pub returns : goal.returns
returns c =
    let was = c.self.inside in
    let count : length was.kept.now ≡ length c.args.self.now = sym (length-entries was.start was.keys.now was.kept.now) ∙ ap length c.self.view_is in
    let lt : c.args.place < length c.args.self.now = c.requires.within in
    ap (λ (es : List Entry). slice_get (shared_lens [] es) c.args.place) (sym c.self.view_is)
    ∙ shared_at was.start was.keys.now was.kept.now c.args.place c.entry_of.result.now c.self.invariant c.requires.before (omega (arith, count, lt)) (sym (get_or_from_slice_get was.kept.now c.args.place c.entry_of.result.now c.entry_of.result.now c.entry_of.ensures))
