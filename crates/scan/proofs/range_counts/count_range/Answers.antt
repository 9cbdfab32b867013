use Rattle.std.proofs.Common.{◌≡◌, ℕ, List, None, Ok, sym, ap, subst, ◌∙◌, arith}
use Rattle.std.specs.Prelude.{OnOk}
use Rattle.table.proofs.Binds.{ok_is}
use Rattle.table.proofs.Refusals.{only_memory}
use Rattle.block.specs.EncodedEntry.{Entry}
use Rattle.reads.specs.Ranges.{key_range}
use Rattle.reads.specs.Tables.{NumberedContents}
use Rattle.checks.specs.HeldTables.{AreFound, held_numbers, IsFoundAnswer}
use Rattle.checks.proofs.FoundTables.{held_found, held_unfound}
use Rattle.scan.specs.Counts.{AreAmountsCounted}
use Rattle.scan.proofs.LevelTables.{held_entries, held_number, metas_of, never_none, numbers_of_levels}
use Rattle.scan.proofs.ScanAnswers.{memory_handed, memory_stopped, stopped_or}
use Rattle.scan.proofs.range_counts.count_range.Goals as goal

pub returns-in_err-needed-clause-errors : goal.returns-in_err-needed-clause-errors
returns-in_err-needed-clause-errors g c files next tables told are own =
    let failed = g.F.Folder.failed in
    memory_handed (failed c.args.folder.now) (failed c.args.folder.now) c.from_residual.result c.in_err-needed.field-0.0 c.from_residual.ensures.1 c.in_err-needed.ensures.memory

pub returns-in_err-numbers-clause-errors : goal.returns-in_err-numbers-clause-errors
returns-in_err-numbers-clause-errors g c files next tables told are own =
    let failed = g.F.Folder.failed in
    memory_handed (failed c.args.folder.now) (failed c.args.folder.now) c.from_residual-in_err-numbers.result c.in_err-numbers.field-0.0 c.from_residual-in_err-numbers.ensures.1 (only_memory c.in_err-numbers.field-0.0 _ (λ no. absurd (cc no)) c.in_err-numbers.ensures)

pub returns-in_err-is_held-clause-errors : goal.returns-in_err-is_held-clause-errors
returns-in_err-is_held-clause-errors g c files next tables told are own =
    let cmp = g.C.Comparator.cmp in
    let failed = g.F.Folder.failed in
    stopped_or (failed c.args.folder.now) (failed c.args.folder.now) (failed c.hold_next.new.folder) c.from_residual-in_err-is_held.result c.in_err-is_held.field-0.0 c.from_residual-in_err-is_held.ensures.1 (omega arith) c.hold_next.ensures.device.later (c.in_err-is_held.ensures.answer files told own)

pub returns-then-not-is_held-clause-counted : goal.returns-then-not-is_held-clause-counted
returns-then-not-is_held-clause-counted g c files next tables told are own =
    absurd
    (let cmp = g.C.Comparator.cmp in
    let range = key_range c.args.seen.range in
    let total = (g.met.C.Comparator g.world.𝓛 g.world.𝓜 g.world.𝓡 ((λ s x. x), (λ x. x), (λ x. x), λ x. x)).total in
    let numbers : List ℕ = c.deref-2.result.now in
    let told_numbers : numbers ≡ numbers_of_levels c.in_ok-needed.needed.items = c.deref-2.ensures.value ∙ sym (ok_is _ _ c.in_ok-numbers.ensures) ∙ ap numbers_of_levels c.deref.ensures.value in
    let none : IsFoundAnswer cmp files numbers (Ok None) = held_unfound cmp files numbers c.in_ok-is_held.is_held c.hold_next.new.held c.if-not-is_held.true (c.in_ok-is_held.ensures.answer files told own) in
    never_none cmp total files next (metas_of c.args.levels.now) tables are.tables_in range c.in_ok-needed.needed.items numbers c.in_ok-needed.ensures.needed told_numbers none)

pub returns-then-not-is_held-clause-errors : goal.returns-then-not-is_held-clause-errors
returns-then-not-is_held-clause-errors g c files next tables told are own =
    absurd
    (let cmp = g.C.Comparator.cmp in
    let range = key_range c.args.seen.range in
    let total = (g.met.C.Comparator g.world.𝓛 g.world.𝓜 g.world.𝓡 ((λ s x. x), (λ x. x), (λ x. x), λ x. x)).total in
    let numbers : List ℕ = c.deref-2.result.now in
    let told_numbers : numbers ≡ numbers_of_levels c.in_ok-needed.needed.items = c.deref-2.ensures.value ∙ sym (ok_is _ _ c.in_ok-numbers.ensures) ∙ ap numbers_of_levels c.deref.ensures.value in
    let none : IsFoundAnswer cmp files numbers (Ok None) = held_unfound cmp files numbers c.in_ok-is_held.is_held c.hold_next.new.held c.if-not-is_held.true (c.in_ok-is_held.ensures.answer files told own) in
    never_none cmp total files next (metas_of c.args.levels.now) tables are.tables_in range c.in_ok-needed.needed.items numbers c.in_ok-needed.ensures.needed told_numbers none)

pub count_held-requires-clause-same : goal.count_held-requires-clause-same
count_held-requires-clause-same g c =
    let numbers : List ℕ = c.deref-2.result.now in
    let told_numbers : numbers ≡ numbers_of_levels c.deref-3.result.now = c.deref-2.ensures.value ∙ sym (ok_is _ _ c.in_ok-numbers.ensures) ∙ ap numbers_of_levels (c.deref.ensures.value ∙ sym c.deref-3.ensures.value) in
    let found : held_numbers c.hold_next.new.held ≡ numbers = c.in_ok-is_held.ensures.numbers c.if-not-is_held.false in
    λ k outlives. held_number c.deref-3.result.now numbers c.hold_next.new.held told_numbers found

pub returns-clause-counted : goal.returns-clause-counted
returns-clause-counted g c files next tables told are own =
    let cmp = g.C.Comparator.cmp in
    let range = key_range c.args.seen.range in
    let total = (g.met.C.Comparator g.world.𝓛 g.world.𝓜 g.world.𝓡 ((λ s x. x), (λ x. x), (λ x. x), λ x. x)).total in
    let numbers : List ℕ = c.deref-2.result.now in
    let held : List NumberedContents = c.hold_next.new.held in
    let told_numbers : numbers ≡ numbers_of_levels c.deref-3.result.now = c.deref-2.ensures.value ∙ sym (ok_is _ _ c.in_ok-numbers.ensures) ∙ ap numbers_of_levels (c.deref.ensures.value ∙ sym c.deref-3.ensures.value) in
    let needed = ap metas_of c.deref-3.ensures.value ∙ c.in_ok-needed.ensures.needed in
    let found : AreFound cmp files numbers held = held_found cmp files numbers c.in_ok-is_held.is_held held c.if-not-is_held.false (c.in_ok-is_held.ensures.answer files told own) in
    subst (λ (ls : List (List Entry)). OnOk c.count_held.result (AreAmountsCounted c.args.seen.last ls c.args.amounts.now c.count_held.new.amounts))
    (held_entries cmp total files next (metas_of c.args.levels.now) tables are.tables_in range c.deref-3.result.now numbers held needed told_numbers found) c.count_held.ensures.counted

pub returns-clause-errors : goal.returns-clause-errors
returns-clause-errors g c files next tables told are own =
    let failed = g.F.Folder.failed in
    memory_stopped (failed c.args.folder.now) (failed c.hold_next.new.folder) c.count_held.result c.count_held.ensures.memory
