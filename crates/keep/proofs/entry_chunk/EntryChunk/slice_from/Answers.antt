use Rattle.std.proofs.Common.{◌≡◌, ◌<◌, ℕ, List, length, drop, sym, ap, ◌∙◌, arith}
use Rattle.keep.specs.declared.kept_entry.KeptEntry.{KeptEntry}
use Rattle.keep.specs.KeyBuffer.{entries_at}
use Rattle.keep.proofs.KeyBuffers.{length-entries}
use Rattle.keep.proofs.entry_chunk.EntryChunk.slice_from.Goals as goal

pub of-requires-clause-place : goal.of-requires-clause-place
of-requires-clause-place c =
    let was = c.self.inside in
    let count : length was.kept.items ≡ length c.args.self.now = sym (length-entries 0 was.keys.items was.kept.items) ∙ ap length c.self.view_is in
    let lt : c.args.place < length c.args.self.now = c.requires in
    omega (arith, count, lt, ap length c.deref-2.ensures.value)

pub of-requires-clause-keys : goal.of-requires-clause-keys
of-requires-clause-keys c = rw (c.deref.ensures.value, c.deref-2.ensures.value) c.self.invariant

pub returns : goal.returns
returns c =
    c.of.ensures
    ∙ ap (λ (bytes : List ℕ). drop c.args.place (entries_at 0 bytes c.deref-2.result.now)) c.deref.ensures.value
    ∙ ap (λ (ks : List KeptEntry). drop c.args.place (entries_at 0 c.self.inside.keys.items ks)) c.deref-2.ensures.value
    ∙ ap (drop c.args.place) c.self.view_is
