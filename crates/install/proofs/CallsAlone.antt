-- The calls of an installation, of a folder of which they alone are known.
use Rattle.std.proofs.Common.{◌≡◌, ℕ, List, [], ◌++◌, map, append_assoc, Result, Ok, Err, OnOk, refl, sym, ap, subst, ◌∙◌, inl, inr}
use Rattle.std.proofs.lemmas.List.{map-append}
use Rattle.edit.specs.fault.Fault.{Fault}
use Rattle.folder.specs.CallSequence.{AreMade, AreMadeBy, MakesCalls}
use Rattle.folder.specs.Calls.{Call, Done, Step, ToldFiles}
use Rattle.folder.specs.Crash.{LeavesOnly, World}
use Rattle.folder.specs.Manifest.{order_name}
use Rattle.folder.specs.Orders.{order_cmp}
use Rattle.folder.specs.declared.folder.Folder.{Ghosts}
use Rattle.install.specs.GroupedInstallation.{tables_of_groups}
use Rattle.install.specs.Install.{current_calls, manifest_calls, table_calls}
use Rattle.install.specs.Installation.{InstallCallsSurvive, IsInstallation, ReadsEither, place_with}
use Rattle.install.specs.Naming.{IsNamedEdit, manifest_of, named_bytes, naming_calls, tables_of}
use Rattle.install.specs.ReadsOf.{NamedVersion, Stands}
use Rattle.install.specs.Work.{Place}
use Rattle.install.proofs.Pieces.{made_split}
use Rattle.install.proofs.TwoPieces.{all_written, installation_survives, some_written}

-- three moments of a folder
data Moment : Type 0 where
  First : Moment
  Middle : Moment
  Last : Moment

abbrev calls_at : List Step → List Step → List Step → Moment → List Step
calls_at first middle last First = first
calls_at first middle last Middle = middle
calls_at first middle last Last = last

-- it tells nothing
abbrev silent : ToldFiles
silent = λ name held. ⊥

abbrev alone : List Step → List Step → List Step → Ghosts Moment
alone first middle last = record { tells = λ at. silent; calls = calls_at first middle last; failed = λ at. 0; readings = λ at. [] }

quiet : {T E : Type 0} (calls : List Call) (before steps : List Step) (r : Result T E) → AreMadeBy calls steps r → MakesCalls calls before (before ++ steps) silent silent r
quiet calls before steps r made = record { steps = steps; made = made; appended = refl; change = λ s tells. absurd ((tells [] (s.files [])).1 refl) }

module _ (v next : NamedVersion) (outputs : List (ℕ × List ℕ)) (edit : List ℕ) (groups : List (List (ℕ × List ℕ))) (before : List Step) (tables : List (ℕ × List ℕ)) (start : World)
    (made : IsNamedEdit v outputs edit next) (same : tables_of_groups groups ≡ outputs) (stands : Stands v tables start before) where
  abbrev place : Place
  place = place_with v outputs edit next

  -- what is left after these steps
  abbrev IsLeft : List Step → Result (Unit {0}) Fault → Type 0
  IsLeft after r = LeavesOnly start before after (ReadsEither place tables) × OnOk r (Stands next (tables_of next (outputs ++ tables)) start after)

  of_pieces : (middle after : List Step) (r : Result (Unit {0}) Fault) → IsInstallation (alone before middle after) place groups First Last r → IsLeft after r
  of_pieces middle after r h = let s = installation_survives (alone before middle after) place groups First Last r tables start h stands in (s.0, s.1)

  -- some tables were written
  some_left : (steps : List Step) (e : Fault) → AreMade (table_calls groups) steps → IsLeft (before ++ steps) (Err e)
  some_left steps e h =
      of_pieces before (before ++ steps) (Err e)
      (some_written (alone before before (before ++ steps)) (order_name v.order) (order_cmp v.order) v.version (manifest_of v.version) groups outputs edit same First Last e (Err e) refl
      (quiet {T = Unit {0}} {E = Fault} (table_calls groups) before steps (Err e) h) v next refl refl refl refl made)

  -- all of them, and then the manifest
  all_left : (more : List Step) (r : Result (Unit {0}) Fault) → AreMadeBy (naming_calls v edit) more r → IsLeft ((before ++ map Done (table_calls groups)) ++ more) r
  all_left more r h =
      let middle = before ++ map Done (table_calls groups) in
      of_pieces middle (middle ++ more) r
      (all_written (alone before middle (middle ++ more)) (order_name v.order) (order_cmp v.order) v.version (manifest_of v.version) groups outputs edit same (named_bytes v edit) First Middle Last tt r refl
      (quiet {T = Unit {0}} {E = Fault} (table_calls groups) before (map Done (table_calls groups)) (Ok tt) refl) (quiet (naming_calls v edit) middle more r h) v next refl refl refl refl made)

  left_by : (steps : List Step) (r : Result (Unit {0}) Fault) → AreMadeBy (table_calls groups ++ naming_calls v edit) steps r → IsLeft (before ++ steps) r
  left_by steps (Ok u) h =
      subst (λ (after : List Step). IsLeft after (Ok u))
      (append_assoc before (map Done (table_calls groups)) (map Done (naming_calls v edit)) ∙ ap (λ (t : List Step). before ++ t) (sym (h ∙ map-append Done (table_calls groups) (naming_calls v edit))))
      (all_left (map Done (naming_calls v edit)) (Ok u) refl)
  left_by steps (Err e) h = elim (made_split (table_calls groups) (naming_calls v edit) steps h) [
    | inl some ↦ some_left steps e some
    | inr all ↦
        subst (λ (after : List Step). IsLeft after (Err e)) (append_assoc before (map Done (table_calls groups)) all.0 ∙ ap (λ (t : List Step). before ++ t) (sym all.1))
        (all_left all.0 (Err e) all.2)
  ]

pub install_calls_survive : InstallCallsSurvive
install_calls_survive v next outputs edit groups before steps result tables start made same calls stands =
    let number = manifest_of v.version in
    left_by v next outputs edit groups before tables start made same stands steps result
    (subst (λ (all : List Call). AreMadeBy all steps result) (append_assoc (table_calls groups) (manifest_calls number (named_bytes v edit)) (current_calls number)) calls)
