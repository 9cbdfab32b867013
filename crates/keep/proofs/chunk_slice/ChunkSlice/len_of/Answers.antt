use Rattle.std.proofs.Common.{◌≡◌, ◌+◌, ◌-◌, ◌<◌, ◌^◌, ℕ, List, [], length, take, drop, sym, ap, subst, rules, ◌∙◌, arith}
use Rattle.reads.specs.EncodedEntry.{Entry}
use Rattle.reads.specs.BuilderView.{last_key}
use Rattle.keep.specs.Sizes.{later_entries_size}
use Rattle.keep.proofs.KeyBuffers.{length-entries, len_between}
use Rattle.keep.proofs.chunk_slice.ChunkSlice.len_of.Goals as goal

pub entry_of-requires : goal.entry_of-requires
entry_of-requires c =
    let was = c.self.inside in
    let count : length was.kept.now ≡ length c.args.self.now = sym (length-entries was.start was.keys.now was.kept.now) ∙ ap length c.self.view_is in
    omega (arith, count, c.requires.before, c.requires.rises, c.requires.within)

pub entry_of-requires-2 : goal.entry_of-requires-2
entry_of-requires-2 c =
    let was = c.self.inside in
    let count : length was.kept.now ≡ length c.args.self.now = sym (length-entries was.start was.keys.now was.kept.now) ∙ ap length c.self.view_is in
    omega (arith, count, c.requires.before, c.requires.rises, c.requires.within)

pub overflow_sub-result : goal.overflow_sub-result
overflow_sub-result c =
    let was = c.self.inside in
    let fits : c.entry_of.result.now.sum < 2 ^ 64 = search rules in
    let is = len_between was.start was.keys.now was.kept.now c.args.place c.args.end c.entry_of-2.result.now c.entry_of.result.now c.self.invariant c.requires.before c.requires.rises c.entry_of-2.ensures c.entry_of.ensures (omega (arith, fits, c.if-sum.false)) in
    omega (arith, is)

pub returns : goal.returns
returns c lt =
    let was = c.self.inside in
    let fits : c.entry_of.result.now.sum < 2 ^ 64 = search rules in
    let is = len_between was.start was.keys.now was.kept.now c.args.place c.args.end c.entry_of-2.result.now c.entry_of.result.now c.self.invariant c.requires.before c.requires.rises c.entry_of-2.ensures c.entry_of.ensures (omega (arith, fits, c.if-sum.false)) in
    rw (sym c.self.view_is) (omega (arith, is))
