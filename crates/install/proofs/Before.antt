-- Until CURRENT is renamed, the version before stands.
use Rattle.std.proofs.Common.{◌≡◌, ◌<◌, ◌^◌, ℕ, true, List, [], ◌∷◌, ◌++◌, map, Option, Result, Ok, Err, IfErr, refl, sym, subst, ◌∙◌, inl, inr}
use Rattle.std.proofs.lemmas.List.{append_cancel_left}
use Rattle.std.specs.declared.cmp.Ordering.{Ordering}
use Rattle.edit.specs.Answers.{fault}
use Rattle.edit.specs.fault.Fault.{Fault}
use Rattle.edit.specs.fault.FaultName.TheVariants.{Changed}
use Rattle.edit.specs.Version.{State}
use Rattle.folder.specs.Calls.{Call, Created, Done, FolderView, Step, Synced}
use Rattle.folder.specs.CallSequence.{AreMade, MakesCalls}
use Rattle.folder.specs.Crash.{Leads, World, open_world}
use Rattle.folder.specs.Names.{current_text, manifest_name, temporary_name}
use Rattle.folder.specs.ReadsAs.{StandsAs}
use Rattle.folder.specs.declared.order.Order.{Order}
use Rattle.folder.proofs.CrashLemmas.{left_reads, shown_left}
use Rattle.folder.proofs.WrittenLemmas.{file_passed}
use Rattle.install.specs.Install.{IsBeforeOrAfter, IsEditedBy, SurvivesCrash, calls_before_rename, temporary_calls, version_with}
use Rattle.install.specs.GroupedInstallation.{tables_of_groups}
use Rattle.install.proofs.Edited.{apart_of}
use Rattle.install.proofs.Files.{settled_stands}
use Rattle.install.proofs.Moments.{Apart, leads_split, made_by, moment_made}
use Rattle.install.proofs.Outputs.{filed, tables_passed}
use Rattle.install.proofs.Changes.{change_by}

module _ (cmp : List ℕ → List ℕ → Ordering) (order : Order) (v : State) (tables : List (ℕ × List ℕ)) (groups : List (List (ℕ × List ℕ))) (number : ℕ) (manifest : List ℕ) (apart : Apart cmp v (tables_of_groups groups) number manifest) where
  abbrev first_calls : List Call
  first_calls = calls_before_rename number groups manifest

  -- whatever part of the calls before the rename was made
  files_stand : (start w : World) (steps : List Step) → StandsAs cmp order v tables start → AreMade first_calls steps → Leads start steps w → StandsAs cmp order v tables w
  files_stand start w steps h made l =
      let m = manifest_name number in
      let t = temporary_name number in
      let rest = Created m manifest ∷ Synced m ∷ temporary_calls number in
      elim (tables_passed cmp order v tables groups [] rest steps start w h apart.outputs_apart tt made l) [
        | inl still ↦ still.0
        | inr one ↦ elim (file_passed cmp order v tables m manifest (temporary_calls number) (filed (tables_of_groups groups) []) one.more one.world w one.stands apart.manifest_free apart.manifest_other one.written one.made one.leads) [
          | inl still ↦ still.0
          | inr two ↦ (settled_stands cmp order v tables t (current_text number) apart.temporary_free two.world w two.more two.stands two.made two.leads).0
        ]
      ]

  -- these calls were made and no others, under a refusal
  stays : {T E : Type 0} (calls : List Call) (before now : List Step) (old new : List ℕ → Option (List ℕ) → Type 0) (e : E) → now ≡ before ++ map Done first_calls → MakesCalls {T = T} calls before now old new (Err e)
      → SurvivesCrash {T = T} cmp order (version_with v tables) (version_with v tables) (change_by before now old new) (Err e)
  stays {T = T} {E = E} calls before now old new e is runs =
      let same : runs.steps ≡ map Done first_calls = append_cancel_left before runs.steps (map Done first_calls) (sym runs.appended ∙ is) in
      let made : AreMade first_calls runs.steps = subst (λ (s : List Step). AreMade first_calls s) (sym same) (made_by {T = Unit {0}} {E = Unit {0}} first_calls (map Done first_calls) (Ok tt) refl) in
      record {
        any_moment = λ start stands. record {
          steps = runs.steps;
          all = runs.appended;
          each = λ sofar moment files left.
              let split = leads_split start left.0 before sofar left.1 in
              let some = moment_made first_calls runs.steps sofar made moment in
              subst (IsBeforeOrAfter cmp order v tables v tables) (sym left.2) (inl (left_reads cmp order v tables left.0 (files_stand split.0 left.0 sofar (stands split.0 split.1) some split.2)));
        };
        installed = λ start stands. tt;
        read = λ files tells reads.
            let s : FolderView = record { files = files; synced = λ name. true } in
            let last = runs.change s tells in
            let stands : StandsAs cmp order v tables (open_world s) = record { reads = reads; settled = λ name rests. record { kept = inl refl; left = refl } } in
            let end = files_stand (open_world s) (open_world last.0) runs.steps stands made (shown_left runs.steps s last.0 last.1) in
            (last.0.files, last.2, inl (left_reads cmp order v tables (open_world last.0) end), tt);
      }

-- at Changed the version before stands
pub stays_before : {T : Type 0} (cmp : List ℕ → List ℕ → Ordering) (order : Order) (v next : State) (tables : List (ℕ × List ℕ)) (groups : List (List (ℕ × List ℕ))) (number : ℕ) (bytes manifest : List ℕ) → number < 2 ^ 64 → IsEditedBy cmp v number (tables_of_groups groups) bytes next
    → (calls : List Call) (before now : List Step) (old new : List ℕ → Option (List ℕ) → Type 0) (r : Result T Fault) → MakesCalls calls before now old new r
    → IfErr r (λ e. e ≡ fault Changed → now ≡ before ++ map Done (calls_before_rename number groups manifest)) → IfErr r (λ e. e ≡ fault Changed → SurvivesCrash cmp order (version_with v tables) (version_with v tables) (change_by before now old new) r)
stays_before cmp order v next tables groups number bytes manifest small h calls before now old new (Ok x) runs left = tt
stays_before cmp order v next tables groups number bytes manifest small h calls before now old new (Err e) runs left =
    λ changed. stays cmp order v tables groups number manifest (apart_of cmp order v next number (tables_of_groups groups) bytes h small manifest) calls before now old new e (left changed) runs
