use Rattle.keep.proofs.KeyBuffers.{keys_drop, entries_from}
use Rattle.keep.proofs.chunk_slice.ChunkSlice.of.Goals as goal

pub invariant_of-result : goal.invariant_of-result
invariant_of-result c =
    rw (c.start_of-start.ensures, c.split_at.ensures.back) (keys_drop c.args.place c.args.keys.now c.args.kept.now c.requires.keys)

pub returns : goal.returns
returns c =
    rw (c.start_of-start.ensures, c.split_at.ensures.back) (entries_from c.args.place c.args.keys.now c.args.kept.now)
