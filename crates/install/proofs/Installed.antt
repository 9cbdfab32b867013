-- The promises of an installation, from the calls that it made.
use Rattle.std.proofs.Common.{◌≡◌, ◌<◌, ◌^◌, ℕ, List, Option, Result, Ok, Err, IsErrAnd, OnOk, inl, subst}
use Rattle.std.specs.Cmp.{IsTotalOrder}
use Rattle.std.specs.declared.cmp.Ordering.{Ordering}
use Rattle.edit.specs.Edit.{IsEdit, edit_bytes}
use Rattle.edit.specs.Version.{IsState, State}
use Rattle.edit.specs.VersionOrder.{snapshot_of}
use Rattle.folder.specs.Calls.{Files, Step, Tells}
use Rattle.folder.specs.CallSequence.{MakesCalls}
use Rattle.folder.specs.Crash.{Leads, LeavesOnly, World}
use Rattle.folder.specs.ReadsAs.{ReadsAs, StandsAs}
use Rattle.folder.specs.declared.order.Order.{Order}
use Rattle.folder.specs.Manifest.{order_name}
use Rattle.install.specs.Install.{IsBeforeOrAfter, IsEditedBy, SurvivesCrash, install_calls, manifest_bytes, next_version_tables, version_with}
use Rattle.install.specs.GroupedInstallation.{tables_of_groups}
use Rattle.edit.proofs.Remade.{remade}
use Rattle.install.proofs.Edited.{apart_of, setting_of}
use Rattle.install.proofs.Moments.{any_moment, chained, install_chain, nothing_done, reads_then, stands_installed}
use Rattle.install.proofs.Parts.{runs_same}
use Rattle.install.proofs.Switch.{Setting}
use Rattle.install.proofs.Changes.{change_by}

-- what is asked of the version before and of the snapshot
abbrev pub ReadsBack : List ℕ → (List ℕ → List ℕ → Ordering) → State → Type 0
ReadsBack name cmp v = IsEdit (edit_bytes (snapshot_of name cmp v)) (snapshot_of name cmp v)

module _ (cmp : List ℕ → List ℕ → Ordering) (order : Order) (v next : State) (tables : List (ℕ × List ℕ)) (groups : List (List (ℕ × List ℕ))) (number : ℕ) (bytes : List ℕ) (small : number < 2 ^ 64) (total : IsTotalOrder cmp) (state : IsState v.pointers v.files) where
  abbrev outputs : List (ℕ × List ℕ)
  outputs = tables_of_groups groups

  abbrev after : List (ℕ × List ℕ)
  after = next_version_tables cmp next outputs tables

  abbrev calls : List ℕ → List Rattle.folder.specs.Calls.Call
  calls name = install_chain number groups (manifest_bytes name cmp v bytes)

  setting : IsEditedBy cmp v number outputs bytes next → ReadsBack (order_name order) cmp v → (w : World) → StandsAs cmp order v tables w → Setting cmp order v next tables outputs number (manifest_bytes (order_name order) cmp v bytes)
  setting h back w stands = setting_of cmp order v next number outputs bytes h small tables state (remade total (order_name order) v state) back

  moments : {T E : Type 0} (name : List ℕ) → order_name order ≡ name → IsEditedBy cmp v number outputs bytes next → ReadsBack name cmp v → (start : World) (before now : List Step) (old new : List ℕ → Option (List ℕ) → Type 0) (r : Result T E)
      → ((w : World) → Leads start before w → StandsAs cmp order v tables w) → MakesCalls (calls name) before now old new r → LeavesOnly start before now (IsBeforeOrAfter cmp order v tables next after)
  moments {T = T} {E = E} name named h = subst
      (λ (n : List ℕ). ReadsBack n cmp v → (start : World) (before now : List Step) (old new : List ℕ → Option (List ℕ) → Type 0) (r : Result T E)
      → ((w : World) → Leads start before w → StandsAs cmp order v tables w) → MakesCalls (calls n) before now old new r → LeavesOnly start before now (IsBeforeOrAfter cmp order v tables next after))
      named
      (λ back start before now old new r stands runs.
      any_moment cmp order v next tables groups number (manifest_bytes (order_name order) cmp v bytes) (setting h back) (apart_of cmp order v next number outputs bytes h small (manifest_bytes (order_name order) cmp v bytes)) start before now old new r stands runs)

  installed : {T E : Type 0} (name : List ℕ) → order_name order ≡ name → IsEditedBy cmp v number outputs bytes next → ReadsBack name cmp v → (start : World) (before now : List Step) (old new : List ℕ → Option (List ℕ) → Type 0) (r : Result T E)
      → ((w : World) → Leads start before w → StandsAs cmp order v tables w) → MakesCalls (calls name) before now old new r → OnOk r ((w : World) → Leads start now w → StandsAs cmp order next after w)
  installed {T = T} {E = E} name named h = subst
      (λ (n : List ℕ). ReadsBack n cmp v → (start : World) (before now : List Step) (old new : List ℕ → Option (List ℕ) → Type 0) (r : Result T E)
      → ((w : World) → Leads start before w → StandsAs cmp order v tables w) → MakesCalls (calls n) before now old new r → OnOk r ((w : World) → Leads start now w → StandsAs cmp order next after w))
      named
      (λ back start before now old new r stands runs.
      stands_installed cmp order v next tables groups number (manifest_bytes (order_name order) cmp v bytes) (setting h back) (apart_of cmp order v next number outputs bytes h small (manifest_bytes (order_name order) cmp v bytes)) start before now old new r stands runs)

  reads : {T E : Type 0} (name : List ℕ) → order_name order ≡ name → IsEditedBy cmp v number outputs bytes next → ReadsBack name cmp v → (before now : List Step) (old new : List ℕ → Option (List ℕ) → Type 0) (r : Result T E) → MakesCalls (calls name) before now old new r
      → (files : Files) → Tells old files → ReadsAs cmp order v tables files → (files' : Files) × Tells new files' × IsBeforeOrAfter cmp order v tables next after files' × OnOk r (ReadsAs cmp order next after files')
  reads {T = T} {E = E} name named h = subst
      (λ (n : List ℕ). ReadsBack n cmp v → (before now : List Step) (old new : List ℕ → Option (List ℕ) → Type 0) (r : Result T E) → MakesCalls (calls n) before now old new r
      → (files : Files) → Tells old files → ReadsAs cmp order v tables files → (files' : Files) × Tells new files' × IsBeforeOrAfter cmp order v tables next after files' × OnOk r (ReadsAs cmp order next after files'))
      named
      (λ back before now old new r runs files tells read.
      reads_then cmp order v next tables groups number (manifest_bytes (order_name order) cmp v bytes) (setting h back) (apart_of cmp order v next number outputs bytes h small (manifest_bytes (order_name order) cmp v bytes)) before now old new r runs files tells read)

  -- all three
  pub survives : {T E : Type 0} (name : List ℕ) → order_name order ≡ name → IsEditedBy cmp v number outputs bytes next → ReadsBack name cmp v → (before now : List Step) (old new : List ℕ → Option (List ℕ) → Type 0) (r : Result T E)
      → MakesCalls (install_calls number groups (manifest_bytes name cmp v bytes)) before now old new r → SurvivesCrash cmp order (version_with v tables) (version_with next after) (change_by before now old new) r
  survives name named h back before now old new r made =
      let runs = runs_same (install_calls number groups (manifest_bytes name cmp v bytes)) (calls name) before now old new r (chained number groups (manifest_bytes name cmp v bytes)) made in
      record {
        any_moment = λ start stands. moments name named h back start before now old new r stands runs;
        installed = λ start stands. installed name named h back start before now old new r stands runs;
        read = reads name named h back before now old new r runs;
      }

-- what failed before the first call
pub undone : {T E : Type 0} (P : E → Type 0) (cmp : List ℕ → List ℕ → Ordering) (order : Order) (v next : State) (tables tables' : List (ℕ × List ℕ)) (calls : List Step) (tells : List ℕ → Option (List ℕ) → Type 0) (r : Result T E) → IsErrAnd r P
    → SurvivesCrash cmp order (version_with v tables) (version_with next tables') (change_by calls calls tells tells) r
undone P cmp order v next tables tables' calls tells (Ok x) h = absurd h
undone P cmp order v next tables tables' calls tells (Err e) h = record {
  any_moment = λ start stands. nothing_done cmp order v next tables tables' start calls stands;
  installed = λ start stands. tt;
  read = λ files told read. (files, told, inl read, tt);
}
