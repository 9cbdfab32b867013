use Rattle.std.proofs.Common.{◌≡◌, ◌<◌, ◌+◌, ◌-◌, ◌^◌, ℕ, [], ◌∷◌, ◌++◌, false, min, take, sym, ap, subst, ◌∙◌, rules, arith}
use Rattle.std.specs.Option.{option_map}
use Rattle.table.specs.DataBlocks.{is_full}
use Rattle.cut.specs.declared.planned_block.PlannedBlock.{PlannedBlock}
use Rattle.cut.specs.BlockInProgress.{BlockInProgress, block_after_entries, last_entry_key}
use Rattle.cut.specs.OutputInProgress.{OutputInProgress, IsOpen, entries_in_blocks, ends_by}
use Rattle.cut.specs.Outputs.{outputs_after}
use Rattle.cut.proofs.Opened.{ended_behind, some_taken, parts_by, open_grown, open_flushed, left_taken}
use Rattle.cut.proofs.open_output.OpenOutput.take_in.Goals as goal
use Rattle.cut.proofs.open_output.OpenOutput.take_in.Goals.{then-self, else-self}

pub invariant_of-self-then-is_full : goal.invariant_of-self-then-is_full
invariant_of-self-then-is_full c =
    let was = c.self.inside in
    let n : ℕ = c.take_in-taken.result in
    let last = option_map (λ key. key.bytes.now) was.last in
    let parts : (m : ℕ) → m < n → is_full was.options (block_after_entries m was.current).entries ≡ false = parts_by was.options was.current n c.self.invariant.part c.take_in-taken.ensures.part in
    let full : BlockInProgress = c.take_in-taken.new.self in
    let key = option_map (λ key. key.bytes.now) c.last_key-self-inside.result in
    let some : full.entries ≡ [] → ⊥ =
    λ none. some_taken n was.current.entries was.current.behind c.take_in-taken.ensures.some c.take_in-taken.ensures.within (sym (ap (λ (m : BlockInProgress). m.entries) c.take_in-taken.ensures.new) ∙ none) in
    let key_is : key ≡ last_entry_key (entries_in_blocks was.blocks.items ++ full.entries) = c.last_key-self-inside.ensures ∙ sym (ended_behind (entries_in_blocks was.blocks.items) full.entries some) in
    let b : PlannedBlock = c.end-block.result in
    let items : c.push.new.self.items ≡ was.blocks.items ++ b ∷ [] = search rules in
    let size : c.saturating_add-self-inside.result ≡ min (min (was.flushed + b.len) (2 ^ 64 - 1) + 5) (2 ^ 64 - 1) =
    c.saturating_add-self-inside.ensures ∙ ap (λ (k : ℕ). min (k + 5) (2 ^ 64 - 1)) c.saturating_add-flushed.ensures in
    rw (items, size)
    (open_flushed was.options was.blocks.items was.flushed last key was.current full c.end-block.new.self n b c.self.invariant c.take_in-taken.ensures.new parts
    (sym c.is_full.ensures ∙ c.if-is_full.true) c.end-block.ensures.entries c.end-block.ensures.len c.end-block.ensures.new key_is)

pub invariant_of-self-else-is_full : goal.invariant_of-self-else-is_full
invariant_of-self-else-is_full c =
    let was = c.self.inside in
    let n : ℕ = c.take_in-taken.result in
    let last = option_map (λ key. key.bytes.now) was.last in
    let parts : (m : ℕ) → m < n → is_full was.options (block_after_entries m was.current).entries ≡ false = parts_by was.options was.current n c.self.invariant.part c.take_in-taken.ensures.part in
    let full : BlockInProgress = c.take_in-taken.new.self in
    let key = option_map (λ key. key.bytes.now) c.last_key-self-inside.result in
    let some : full.entries ≡ [] → ⊥ =
    λ none. some_taken n was.current.entries was.current.behind c.take_in-taken.ensures.some c.take_in-taken.ensures.within (sym (ap (λ (m : BlockInProgress). m.entries) c.take_in-taken.ensures.new) ∙ none) in
    let key_is : key ≡ last_entry_key (entries_in_blocks was.blocks.items ++ full.entries) = c.last_key-self-inside.ensures ∙ sym (ended_behind (entries_in_blocks was.blocks.items) full.entries some) in
    subst (λ blocks. IsOpen was.options blocks was.flushed key full) (sym c.in_ok-reserve.ensures.items)
    (open_grown was.options was.blocks.items was.flushed last key was.current full n c.self.invariant c.take_in-taken.ensures.new parts (sym c.is_full.ensures ∙ c.if-is_full.false) key_is)

pub returns-then-is_full-clause-left : goal.returns-then-is_full-clause-left
returns-then-is_full-clause-left c =
    let was = c.self.inside in
    let n : ℕ = c.take_in-taken.result in
    let last = option_map (λ key. key.bytes.now) was.last in
    let parts : (m : ℕ) → m < n → is_full was.options (block_after_entries m was.current).entries ≡ false = parts_by was.options was.current n c.self.invariant.part c.take_in-taken.ensures.part in
    let first : ends_by was.options (entries_in_blocks was.blocks.items ++ was.current.entries) was.current.behind ≡ false =
    subst (λ (s : OutputInProgress). ends_by s.options s.entries s.behind ≡ false) (sym c.self.view_is) c.requires.goes_on in
    let below : 1 < n → was.flushed < was.options.file_size =
    elim c.if-self.branch [
      | then-self w ↦ λ more. w.if-self.true
      | else-self w ↦ λ more. absurd (omega (arith, more, w.fits-is, c.take_in-taken.ensures.most))
    ] in
    λ rest. subst (λ (s : OutputInProgress). outputs_after s.options (s.entries ++ take n s.behind) rest ≡ outputs_after s.options s.entries (take n s.behind ++ rest)) c.self.view_is
    (left_taken was.options was.blocks.items was.flushed last was.current n c.self.invariant parts first below rest)

pub returns-else-is_full-clause-left : goal.returns-else-is_full-clause-left
returns-else-is_full-clause-left c =
    let was = c.self.inside in
    let n : ℕ = c.take_in-taken.result in
    let last = option_map (λ key. key.bytes.now) was.last in
    let parts : (m : ℕ) → m < n → is_full was.options (block_after_entries m was.current).entries ≡ false = parts_by was.options was.current n c.self.invariant.part c.take_in-taken.ensures.part in
    let first : ends_by was.options (entries_in_blocks was.blocks.items ++ was.current.entries) was.current.behind ≡ false =
    subst (λ (s : OutputInProgress). ends_by s.options s.entries s.behind ≡ false) (sym c.self.view_is) c.requires.goes_on in
    let below : 1 < n → was.flushed < was.options.file_size =
    elim c.if-self.branch [
      | then-self w ↦ λ more. w.if-self.true
      | else-self w ↦ λ more. absurd (omega (arith, more, w.fits-is, c.take_in-taken.ensures.most))
    ] in
    λ rest. subst (λ (s : OutputInProgress). outputs_after s.options (s.entries ++ take n s.behind) rest ≡ outputs_after s.options s.entries (take n s.behind ++ rest)) c.self.view_is
    (left_taken was.options was.blocks.items was.flushed last was.current n c.self.invariant parts first below rest)
