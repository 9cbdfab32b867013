use Rattle.std.proofs.Common.{length, sym, ap, ◌∙◌}
use Rattle.keep.proofs.KeyBuffers.{length-entries}
use Rattle.keep.proofs.chunk_slice.ChunkSlice.len.Goals as goal

pub returns : goal.returns
returns c = sym (length-entries c.self.inside.start c.self.inside.keys.now c.self.inside.kept.now) ∙ ap length c.self.view_is
