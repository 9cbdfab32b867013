use Rattle.std.proofs.Common.{Bor, ℕ, List, map, None, Ok, sym, subst, ◌∙◌, arith}
use Rattle.std.specs.Prelude.{filter}
use Rattle.table.proofs.Binds.{ok_is}
use Rattle.table.proofs.Refusals.{only_memory}
use Rattle.reads.specs.Ranges.{key_range}
use Rattle.folder.specs.meta.FileMeta.{FileMeta}
use Rattle.reads.specs.Tables.{NumberedContents}
use Rattle.checks.specs.HeldTables.{AreFound, IsFoundAnswer}
use Rattle.checks.specs.NeededFiles.{is_file_needed}
use Rattle.checks.proofs.FileTables.{lent_numbers}
use Rattle.checks.proofs.FoundTables.{held_found, held_unfound}
use Rattle.faults.specs.KeyWalk.{misplaced_in}
use Rattle.faults.proofs.FaultAnswers.{memory_handed, memory_stopped, ok_weaker, stopped_handed, stopped_only}
use Rattle.faults.proofs.RangeSteps.{never_unfound, range_keys}
use Rattle.faults.proofs.range_faults.range_faults.Goals as goal

abbrev now_of : Bor FileMeta → FileMeta
now_of f = f.now

pub returns-in_err-needed-clause-errors : goal.returns-in_err-needed-clause-errors
returns-in_err-needed-clause-errors g c files told own sound =
    let failed = g.F.Folder.failed in
    memory_handed (failed c.args.folder.now) (failed c.args.folder.now) c.from_residual.result c.in_err-needed.field-0.0 c.from_residual.ensures.1 c.in_err-needed.ensures.memory

pub returns-in_err-numbers-clause-errors : goal.returns-in_err-numbers-clause-errors
returns-in_err-numbers-clause-errors g c files told own sound =
    let failed = g.F.Folder.failed in
    memory_handed (failed c.args.folder.now) (failed c.args.folder.now) c.from_residual-in_err-numbers.result c.in_err-numbers.field-0.0 c.from_residual-in_err-numbers.ensures.1 (only_memory c.in_err-numbers.field-0.0 _ (λ no. absurd (cc no)) c.in_err-numbers.ensures)

pub returns-in_err-is_held-clause-errors : goal.returns-in_err-is_held-clause-errors
returns-in_err-is_held-clause-errors g c files told own sound =
    let cmp = g.C.Comparator.cmp in
    let failed = g.F.Folder.failed in
    let before = failed c.args.folder.now in
    let now = failed c.hold_next.new.folder in
    let e = c.in_err-is_held.field-0.0 in
    stopped_handed before before now c.from_residual-in_err-is_held.result e c.from_residual-in_err-is_held.ensures.1 (omega arith) c.hold_next.ensures.device.later (stopped_only before now e ⊥ (λ no. no) (c.in_err-is_held.ensures.answer files told own))

pub returns-then-not-is_held-clause-errors : goal.returns-then-not-is_held-clause-errors
returns-then-not-is_held-clause-errors g c files told own sound =
    absurd
    (let cmp = g.C.Comparator.cmp in
    let range = key_range c.args.range in
    let standing : List FileMeta = map now_of c.args.files.now in
    let needed : List FileMeta = filter (is_file_needed cmp range) standing in
    let numbers : List ℕ = c.deref-2.result.now in
    let same = lent_numbers c.deref.result.now c.in_ok-needed.needed.items needed numbers c.deref.ensures.value c.in_ok-needed.ensures.needed (ok_is _ _ c.in_ok-numbers.ensures ∙ sym c.deref-2.ensures.value) in
    let none : IsFoundAnswer cmp files numbers (Ok None) = held_unfound cmp files numbers c.in_ok-is_held.is_held c.hold_next.new.held c.if-not-is_held.true (c.in_ok-is_held.ensures.answer files told own) in
    never_unfound cmp (g.met.C.Comparator g.world.𝓛 g.world.𝓜 g.world.𝓡 ((λ s x. x), (λ x. x), (λ x. x), λ x. x)).total range files standing sound (subst (λ (ns : List ℕ). IsFoundAnswer cmp files ns (Ok None)) same none))

pub returns-clause-faults : goal.returns-clause-faults
returns-clause-faults g c files told own sound =
    let cmp = g.C.Comparator.cmp in
    let range = key_range c.args.range in
    let standing : List FileMeta = map now_of c.args.files.now in
    let needed : List FileMeta = filter (is_file_needed cmp range) standing in
    let numbers : List ℕ = c.deref-2.result.now in
    let held : List NumberedContents = c.hold_next.new.held in
    let same = lent_numbers c.deref.result.now c.in_ok-needed.needed.items needed numbers c.deref.ensures.value c.in_ok-needed.ensures.needed (ok_is _ _ c.in_ok-numbers.ensures ∙ sym c.deref-2.ensures.value) in
    let found : AreFound cmp files numbers held = held_found cmp files numbers c.in_ok-is_held.is_held held c.if-not-is_held.false (c.in_ok-is_held.ensures.answer files told own) in
    ok_weaker c.held_faults.result _ _
    (λ v are. range_keys cmp (g.met.C.Comparator g.world.𝓛 g.world.𝓜 g.world.𝓡 ((λ s x. x), (λ x. x), (λ x. x), λ x. x)).total range files standing sound held (map misplaced_in v.items) (subst (λ (ns : List ℕ). AreFound cmp files ns held) same found) are)
    c.held_faults.ensures.faults

pub returns-clause-errors : goal.returns-clause-errors
returns-clause-errors g c files told own sound =
    let failed = g.F.Folder.failed in
    memory_stopped (failed c.args.folder.now) (failed c.hold_next.new.folder) c.held_faults.result c.held_faults.ensures.memory
