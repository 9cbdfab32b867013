-- The tables of a lawful version, step by step.
use Rattle.std.proofs.Common.{◌≡◌, ℕ, List, Result, Ok, Err, IsErrAnd, refl, sym, ap, subst, ◌∙◌}
use Rattle.std.specs.declared.cmp.Ordering.{Ordering}
use Rattle.ikey.proofs.Refusals.{unless_from}
use Rattle.ikey.proofs.Binds.{done, failed}
use Rattle.ikey.specs.Answers.{HoldsOrMemory, UnlessMemory}
use Rattle.ikey.specs.fault.Fault.{Fault}
use Rattle.folder.specs.Version.{State}
use Rattle.reads.specs.Lawful.{IsLawful}
use Rattle.reads.specs.Tables.{NumberedContents}
use Rattle.checks.specs.TableReadings.{tables_reading}
use Rattle.checks.specs.LawfulTables.{IsLawfulAnswer, IsLawfulTables}

no_refusal : {Y : Type 0} (y : Y) (e : Fault) → done y ≡ failed e → ⊥
no_refusal y e h = cc

-- a call's refusal that `?` hands on
pub handed_on : {X Y Z : Type 0} (view : X → Y) (r : Result X Fault) (e : Fault) (IsFirst : Result Z Fault → Type 0) (IsAnswer : Result Y Fault → Type 0)
    → IsErrAnd r (λ f. f ≡ e) → UnlessMemory e (IsFirst (Err e)) → (IsFirst (Err e) → IsAnswer (Err e)) → HoldsOrMemory view r IsAnswer
handed_on view (Ok x) e IsFirst IsAnswer h given f = absurd h
handed_on view (Err g) e IsFirst IsAnswer h given f =
    subst (λ (x : Fault). UnlessMemory x (IsAnswer (Err x))) (sym h) (unless_from e (IsFirst (Err e)) (IsAnswer (Err e)) f given)

module _ (cmp : List ℕ → List ℕ → Ordering) (v : State) (loaded : List (ℕ × List ℕ)) where
  -- a table is refused
  pub not_checked : (e : Fault) → tables_reading cmp loaded ≡ Err e → IsLawfulTables cmp v loaded (Err e)
  not_checked e h = (Err e, (h, refl))

  -- the version isn't lawful
  pub not_lawful : (tables : List NumberedContents) (e : Fault) → tables_reading cmp loaded ≡ Ok tables → IsLawfulAnswer cmp v tables (Err e) → IsLawfulTables cmp v loaded (Err e)
  not_lawful tables e h l = (Ok tables, (h, l))

  -- it is
  pub sound : (tables : List NumberedContents) → tables_reading cmp loaded ≡ Ok tables → IsLawful cmp v tables → IsLawfulTables cmp v loaded (Ok tables)
  sound tables h l = (Ok tables, (h, (refl, l)))

  pub sound_lawful : (tables : List NumberedContents) → IsLawfulTables cmp v loaded (Ok tables) → IsLawful cmp v tables
  sound_lawful tables (Ok first, h) = subst (IsLawful cmp v) (sym h.1.0) h.1.1
  sound_lawful tables (Err e, h) = absurd (no_refusal tables e h.1)

  pub sound_checked : (tables : List NumberedContents) → IsLawfulTables cmp v loaded (Ok tables) → tables_reading cmp loaded ≡ Ok tables
  sound_checked tables (Ok first, h) = h.0 ∙ ap (λ (ts : List NumberedContents). done ts) (sym h.1.0)
  sound_checked tables (Err e, h) = absurd (no_refusal tables e h.1)
