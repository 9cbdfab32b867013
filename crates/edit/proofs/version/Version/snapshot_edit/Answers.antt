use Rattle.std.proofs.Common.{◌≤◌, ap, sym, subst}
use Rattle.std.specs.List.{All}
use Rattle.std.proofs.lemmas.List.Elements.{All-nil}
use Rattle.edit.specs.Edit.{Edit}
use Rattle.edit.specs.Version.{State, IsState}
use Rattle.edit.specs.declared.meta.NewFile.{NewFile}
use Rattle.edit.specs.declared.meta.CompactPointer.{CompactPointer}
use Rattle.edit.specs.declared.meta.DeletedFile.{DeletedFile}
use Rattle.edit.proofs.Snapshots.{added_low, pointers_low}
use Rattle.edit.proofs.version.Version.snapshot_edit.Goals as goal

pub returns-clause-levels : goal.returns-clause-levels
returns-clause-levels g c = record {
  pointers = subst (All (λ (p : CompactPointer). p.level ≤ 6)) (sym c.in_ok-edit.ensures.ok) (pointers_low c.self.inside.pointers.entries c.self.invariant.levels.pointer_levels);
  deleted = subst (All (λ (f : DeletedFile). f.level ≤ 6)) (sym (ap (λ (e : Edit). e.deleted) c.empty-edit.ensures)) (All-nil (λ (f : DeletedFile). f.level ≤ 6));
  added = subst (All (λ (f : NewFile). f.level ≤ 6)) (sym c.in_ok-edit-2.ensures.ok) (added_low g.C.Comparator.cmp c.self.inside.files);
}

pub returns-in_err-from_str-clause-state : goal.returns-in_err-from_str-clause-state
returns-in_err-from_str-clause-state g c = subst (λ (v : State). IsState v.pointers v.files) c.self.view_is c.self.invariant

pub returns-in_err-edit-clause-state : goal.returns-in_err-edit-clause-state
returns-in_err-edit-clause-state g c = subst (λ (v : State). IsState v.pointers v.files) c.self.view_is c.self.invariant

pub returns-in_err-edit-2-clause-state : goal.returns-in_err-edit-2-clause-state
returns-in_err-edit-2-clause-state g c = subst (λ (v : State). IsState v.pointers v.files) c.self.view_is c.self.invariant

pub returns-clause-state : goal.returns-clause-state
returns-clause-state g c = subst (λ (v : State). IsState v.pointers v.files) c.self.view_is c.self.invariant
