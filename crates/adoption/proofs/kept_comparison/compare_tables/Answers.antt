use Rattle.std.proofs.Common.{◌≡◌, ℕ, List, map, Ok, Err, refl, sym, ap, subst, ◌∙◌}
use Rattle.std.specs.List.Sorted.{IsStrictlyIncreasing}
use Rattle.edit.proofs.Refusals.{unless}
use Rattle.edit.specs.Answers.{UnlessMemory, fault}
use Rattle.edit.specs.fault.Fault.{Fault}
use Rattle.edit.specs.fault.FaultName.TheVariants.{Lawless}
use Rattle.keep.specs.TableContents.{Contents}
use Rattle.pick.specs.PickedInputs.{picked_in}
use Rattle.keep.specs.Readable.{Readable, floor_of, readable_of}
use Rattle.adoption.specs.Adoption.{IsTablesCompared, compared_request}
use Rattle.adoption.specs.KeptEntries.{HoldsKept}
use Rattle.adoption.proofs.kept_comparison.compare_tables.Goals as goal

pub holds_kept-requires-clause-listed : goal.holds_kept-requires-clause-listed
holds_kept-requires-clause-listed g c =
    let asked = compared_request (picked_in c.args.picked.now) c.args.snapshots c.args.last_sequence c.args.inputs.now in
    subst IsStrictlyIncreasing (sym c.listed-listed.ensures) (c.passed_law.ensures asked c.in_ok-test_asked.ensures).listed

pub returns-then-not-branch : goal.returns-then-not-branch
returns-then-not-branch g c =
    let cmp = g.C.Comparator.cmp in
    let p = picked_in c.args.picked.now in
    let s = c.args.snapshots in
    let last = c.args.last_sequence in
    let outputs = c.args.outputs.now in
    let inputs = c.args.inputs.now in
    let same : readable_of s last ≡ record { listed = c.listed-listed.result.now; floor = c.floor-floor.result } =
    ap (λ (l : List ℕ). record { listed = l; floor = floor_of s last }) (sym c.listed-listed.ensures) ∙ ap (λ (f : ℕ). record { listed = c.listed-listed.result.now; floor = f }) (sym c.floor-floor.ensures) in
    subst (λ (f : Fault). UnlessMemory f (IsTablesCompared cmp p s last outputs inputs (Err f))) (sym c.of.ensures)
    (unless (fault Lawless) (IsTablesCompared cmp p s last outputs inputs (Err (fault Lawless))) (
      Ok tt,
      (
        c.in_ok-test_asked.ensures,
        (
          refl,
          λ held.
              let both = sym (c.in_ok-holds_kept.ensures.exact.1 (subst (λ (r : Readable). HoldsKept cmp r p.deeper (map (λ (t : Contents). t.entries) inputs) (map (λ (t : Contents). t.entries) outputs)) same held)) ∙ c.if-not-branch.true in
              cc both,
        ),
      ),
    ))
