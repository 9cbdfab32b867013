use Rattle.std.proofs.Common.{◌≡◌, true, refl, subst, sym, ◌∙◌, arith, below_more}
use Rattle.folder.proofs.Refusals.{unless}
use Rattle.folder.specs.Answers.{UnlessMemory, fault}
use Rattle.folder.specs.fault.Fault.{Fault}
use Rattle.folder.specs.fault.FaultName.TheVariants.{Lawless}
use Rattle.store.specs.InputsCompaction.{IsOrderly}
use Rattle.store.proofs.version_files.test_files.Goals as goal

pub loop-level-preserved : goal.loop-level-preserved
loop-level-preserved g c =
    below_more _ _ c.loop-level.invariant (c.in_ok-is_orderly_level.ensures.orderly.0 c.if-not-branch.false)

pub returns-then-not-branch : goal.returns-then-not-branch
returns-then-not-branch g c =
    let cmp = g.C.Comparator.cmp in
    let v = c.args.version.now in
    subst (λ (e : Fault). UnlessMemory e ((e ≡ fault Lawless) × (IsOrderly cmp v → ⊥))) (sym c.of.ensures)
    (unless (fault Lawless) ((fault Lawless ≡ fault Lawless) × (IsOrderly cmp v → ⊥))
    (refl, λ all. let both = sym (c.in_ok-is_orderly_level.ensures.orderly.1 (all c.loop-level.level (omega arith))) ∙ c.if-not-branch.true in cc both))

pub returns : goal.returns
returns g c = λ level low. c.loop-level.invariant level (omega (arith, low))
