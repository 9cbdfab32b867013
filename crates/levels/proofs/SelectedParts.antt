-- What a selection takes of a level is among all its parts.
use Rattle.std.proofs.Common.{◌≡◌, ◌≢◌, ℕ, ◌≤◌, Bool, true, false, cond, List, [], ◌∷◌, map, IsErrAnd, Option, Result, Ok, Err, refl, sym, ap, subst}
use Rattle.std.specs.Prelude.{Contains, filter}
use Rattle.std.specs.Global.{Vec}
use Rattle.std.specs.Cmp.{IsTotalOrder}
use Rattle.std.specs.declared.cmp.Ordering.{Ordering}
use Rattle.edit.proofs.Binds.{ok_is}
use Rattle.edit.proofs.Refusals.{unless_from}
use Rattle.edit.specs.Answers.{UnlessMemory}
use Rattle.edit.specs.fault.Fault.{Fault}
use Rattle.edit.specs.Version.{State}
use Rattle.pick.specs.Parts.{IsPartsAnswer}
use Rattle.pick.specs.PickedInputs.{PickedInputs, picked_in}
use Rattle.pick.specs.declared.picked_inputs.Inputs.{Inputs}
use Rattle.keep.specs.Lawful.{IsLawful}
use Rattle.keep.specs.Tables.{NumberedContents}
use Rattle.keep.proofs.Members.{from_filter}
use Rattle.store.specs.InputsCompaction.{ArePartsFound, IsOrderlyAnswer}
use Rattle.store.proofs.Flow.{first_passed, first_refused}
use Rattle.store.proofs.PartFiles.{ArePlaced, part_by, part_placed}
use Rattle.levels.specs.LevelTaken.{AreTaken}
use Rattle.levels.specs.WholeAnswer.{ArePartsFitting, AreSelected, fits}
use Rattle.levels.specs.declared.selection.Selection.{Selection}
use Rattle.levels.specs.declared.selection.Selection.TheVariants.{Fitting, Whole}
use Rattle.levels.proofs.PartsBase.{ShareNoFile, level_low, level_parts, no_refusal, share_no_file, some_there}

-- some parts, which are those of all that a test leaves
pub record AreAmong (cmp : List ℕ → List ℕ → Ordering) (v : State) (level : ℕ) (parts : List PickedInputs) : Type 0 where
  pub all : List PickedInputs
  pub are : IsPartsAnswer cmp v level (Ok all)
  pub keeps : PickedInputs → Bool
  pub these : filter keeps all ≡ parts
  pub some : parts ≢ []

all_kept : (parts : List PickedInputs) → filter (λ (p : PickedInputs). true) parts ≡ parts
all_kept [] = refl
all_kept (p ∷ parts) = ap (λ (l : List PickedInputs). p ∷ l) (all_kept parts)

-- what a test of views leaves
pub kept_in : (keeps : PickedInputs → Bool) (parts : List Inputs) → map picked_in (filter (λ (part : Inputs). keeps (picked_in part)) parts) ≡ filter keeps (map picked_in parts)
kept_in keeps [] = refl
kept_in keeps (part ∷ parts) = by (filter (λ (other : Inputs). keeps (picked_in other)) parts) (filter keeps (map picked_in parts)) (keeps (picked_in part)) (kept_in keeps parts)
  where
    by : (one : List Inputs) (two : List PickedInputs) (b : Bool) → map picked_in one ≡ two → map picked_in (cond b (part ∷ one) one) ≡ cond b (picked_in part ∷ two) two
    by one two true same = ap (λ (l : List PickedInputs). picked_in part ∷ l) same
    by one two false same = same

pub none_viewed : (parts : List Inputs) → map picked_in parts ≡ [] → parts ≡ []
none_viewed [] e = refl
none_viewed (part ∷ parts) e = absurd (cc e)

not_none : (p : PickedInputs) (parts : List PickedInputs) → p ∷ parts ≡ [] → ⊥
not_none p parts e = cc e

module _ (cmp : List ℕ → List ℕ → Ordering) (v : State) (level : ℕ) where
  fitting : (memory : ℕ) (parts : List PickedInputs) → parts ≢ [] → ArePartsFitting memory cmp v level (Ok parts) → AreAmong cmp v level parts
  fitting memory parts some (Err e, (h, is)) = absurd (no_refusal parts e is)
  fitting memory parts some (Ok all, ((Err e, (h, k)), is)) = absurd (no_refusal all e k)
  fitting memory parts some (Ok all, ((Ok passed, (h, k)), is)) = record { all = all; are = k; keeps = fits memory; these = sym (ok_is parts (filter (fits memory) all) is); some = some }

  pub among : (selection : Selection) (parts : List PickedInputs) → AreSelected selection cmp v level (Ok parts) → AreAmong cmp v level parts
  among Whole [] h = absurd (some_there cmp v level h)
  among Whole (p ∷ parts) h = record { all = p ∷ parts; are = level_parts cmp v level (p ∷ parts) h; keeps = λ q. true; these = all_kept (p ∷ parts); some = not_none p parts }
  among (Fitting memory) parts h = fitting memory parts (λ none. h.1 (ap (λ (l : List PickedInputs). Ok l) none)) h.0

  -- each is a part of the level
  pub in_all : (parts : List PickedInputs) (are : AreAmong cmp v level parts) (p : PickedInputs) → Contains parts p → Contains are.all p
  in_all parts are p at = (from_filter are.keeps are.all p (subst (λ (l : List PickedInputs). Contains l p) (sym are.these) at)).0

  pub among_low : (parts : List PickedInputs) → AreAmong cmp v level parts → level ≤ 5
  among_low parts are = level_low cmp v level are.all are.are

  pub among_placed : (total : IsTotalOrder cmp) (parts : List PickedInputs) → AreAmong cmp v level parts → (p : PickedInputs) → Contains parts p → ArePlaced v p
  among_placed total parts are p at = part_placed cmp total v level p (part_by cmp total v level are.all p are.are (in_all parts are p at))

-- its files are files of the version
pub selected_placed : (cmp : List ℕ → List ℕ → Ordering) (total : IsTotalOrder cmp) (v : State) (selection : Selection) (level : ℕ) (parts : List PickedInputs) → AreSelected selection cmp v level (Ok parts) → (p : PickedInputs) → Contains parts p → ArePlaced v p
selected_placed cmp total v selection level parts h = among_placed cmp v level total parts (among cmp v level selection parts h)

share_kept : (keeps : PickedInputs → Bool) (parts : List PickedInputs) → ShareNoFile parts → ShareNoFile (filter keeps parts)
share_kept keeps [] h = tt
share_kept keeps (p ∷ parts) h = by (keeps p) (share_kept keeps parts h.1)
  where
    by : (b : Bool) → ShareNoFile (filter keeps parts) → ShareNoFile (cond b (p ∷ filter keeps parts) (filter keeps parts))
    by true rest = ((λ q at. h.0 q (from_filter keeps parts q at).0), rest)
    by false rest = rest

-- no two of them share a file
pub among_share : (cmp : List ℕ → List ℕ → Ordering) (total : IsTotalOrder cmp) (v : State) (tables : List NumberedContents) → IsLawful cmp v tables → (level : ℕ) (parts : List PickedInputs) → AreAmong cmp v level parts → ShareNoFile parts
among_share cmp total v tables lawful level parts are = subst ShareNoFile are.these (share_kept are.keeps are.all (share_no_file cmp total v tables lawful level are.all are.are))

-- ---- what is answered of them

module _ (cmp : List ℕ → List ℕ → Ordering) (v : State) (level : ℕ) where
  pub taken_refused : (selection : Selection) (r : Result (Option (Vec Inputs)) Fault) (e : Fault) → IsErrAnd r (λ f. f ≡ e) → UnlessMemory e (AreSelected selection cmp v level (Err e)) → AreTaken selection cmp v level r
  taken_refused selection (Ok o) e h why = absurd h
  taken_refused selection (Err f) e h why = subst (λ (d : Fault). UnlessMemory d (AreSelected selection cmp v level (Err d))) (sym h) why

  pub not_orderly : (memory : ℕ) (e : Fault) → UnlessMemory e (IsOrderlyAnswer cmp v (Err e)) → UnlessMemory e (AreSelected (Fitting memory) cmp v level (Err e))
  not_orderly memory e given =
      unless_from e (IsOrderlyAnswer cmp v (Err e)) (AreSelected (Fitting memory) cmp v level (Err e)) (λ h. (
        first_refused (ArePartsFound cmp v level) (λ all answer. answer ≡ Ok (filter (fits memory) all)) e
            (first_refused (IsOrderlyAnswer cmp v) (λ (passed : Unit {0}). IsPartsAnswer cmp v level) e h),
        λ is. no_refusal [] e (sym is),
      )) given

  module _ (memory : ℕ) (orderly : IsOrderlyAnswer cmp v (Ok tt)) where
    found : (answer : Result (List PickedInputs) Fault) → IsPartsAnswer cmp v level answer → ArePartsFound cmp v level answer
    found answer h = first_passed (IsOrderlyAnswer cmp v) (λ (passed : Unit {0}). IsPartsAnswer cmp v level) tt answer orderly h

    pub none_found : (e : Fault) → UnlessMemory e (IsPartsAnswer cmp v level (Err e)) → UnlessMemory e (AreSelected (Fitting memory) cmp v level (Err e))
    none_found e given =
        unless_from e (IsPartsAnswer cmp v level (Err e)) (AreSelected (Fitting memory) cmp v level (Err e)) (λ h. (first_refused (ArePartsFound cmp v level) (λ all answer. answer ≡ Ok (filter (fits memory) all)) e (found (Err e) h), λ is. no_refusal [] e (sym is))) given

    module _ (all : List PickedInputs) (are : IsPartsAnswer cmp v level (Ok all)) where
      pub fit : (kept : List PickedInputs) → kept ≡ filter (fits memory) all → ArePartsFitting memory cmp v level (Ok kept)
      fit kept is = (Ok all, (found (Ok all) are, ap (λ (l : List PickedInputs). Ok l) is))

      pub some_fit : (kept : List PickedInputs) → kept ≢ [] → kept ≡ filter (fits memory) all → AreSelected (Fitting memory) cmp v level (Ok kept)
      some_fit kept some is = (fit kept is, λ none. some (ok_is kept [] none))
