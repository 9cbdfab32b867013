use Rattle.std.proofs.Common.{◌≡◌, length, sym, ap, ◌∙◌, rules}
use Rattle.keep.proofs.KeyBuffers.{length-entries}
use Rattle.keep.proofs.entry_chunk.EntryChunk.len.Goals as goal

pub returns : goal.returns
returns c =
    let count : c.len.result ≡ length c.self.inside.kept.items = search rules in
    count ∙ sym (length-entries 0 c.self.inside.keys.items c.self.inside.kept.items) ∙ ap length c.self.view_is
