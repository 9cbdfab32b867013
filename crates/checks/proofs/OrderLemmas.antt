-- Tables that are read and checked in order, round by round.
use Rattle.std.proofs.Common.{◌≡◌, ℕ, Bool, true, false, nat_eq, List, [], ◌∷◌, ◌++◌, length, Option, Some, None, Result, Ok, Err, refl, sym, ap, subst, ◌∙◌, append_assoc}
use Rattle.std.specs.List.{AllZip}
use Rattle.std.specs.declared.cmp.Ordering.{Ordering}
use Rattle.std.specs.Option.{is_some}
use Rattle.std.proofs.lemmas.Bool.{eqb-true}
use Rattle.std.proofs.lemmas.List.{append-nil, nil_from_length}
use Rattle.ikey.specs.Answers.{◌>>=◌, UnlessMemory, UnlessNamed}
use Rattle.ikey.specs.fault.FaultName.{FaultName}
use Rattle.ikey.specs.fault.FaultName.TheVariants.{Memory}
use Rattle.ikey.specs.fault.Fault.{Fault}
use Rattle.folder.specs.Calls.{Files}
use Rattle.folder.specs.LoadedTables.{IsLoaded, IsTableOf}
use Rattle.folder.specs.ReadsAs.{IsFileIn}
use Rattle.reads.specs.Tables.{NumberedContents}
use Rattle.checks.specs.TableReadings.{tables_reading}
use Rattle.checks.specs.InOrder.{AreChecked, AreCheckedSoFar, IsFirstRefusal}
use Rattle.checks.proofs.TableRounds.{reading_append, tables_after}

zip_append : {A B : Type 0} (R : A → B → Type 0) (xs : List A) (ys : List B) (us : List A) (vs : List B) → AllZip R xs ys → AllZip R us vs → AllZip R (xs ++ us) (ys ++ vs)
zip_append R [] [] us vs h k = k
zip_append R [] (y ∷ ys) us vs h k = absurd h
zip_append R (x ∷ xs) [] us vs h k = absurd h
zip_append R (x ∷ xs) (y ∷ ys) us vs h k = (h.0, zip_append R xs ys us vs h.1 k)

module _ (cmp : List ℕ → List ℕ → Ordering) (before more : List (ℕ × List ℕ)) where
  -- tables after those that were refused
  pub refused_still : (e : Fault) → tables_reading cmp before ≡ Err e → tables_reading cmp (before ++ more) ≡ Err e
  refused_still e h = reading_append cmp before more ∙ ap (λ (r : Result (List NumberedContents) Fault). r >>= λ front. tables_after front (tables_reading cmp more)) h

  -- tables that are refused after others
  pub refused_now : (tables : List NumberedContents) (e : Fault) → tables_reading cmp before ≡ Ok tables → tables_reading cmp more ≡ Err e → tables_reading cmp (before ++ more) ≡ Err e
  refused_now tables e h k =
      reading_append cmp before more ∙ ap (λ (r : Result (List NumberedContents) Fault). r >>= λ front. tables_after front (tables_reading cmp more)) h ∙ ap (tables_after tables) k

  -- and tables that are read
  pub read_more : (tables others : List NumberedContents) → tables_reading cmp before ≡ Ok tables → tables_reading cmp more ≡ Ok others → tables_reading cmp (before ++ more) ≡ Ok (tables ++ others)
  read_more tables others h k =
      reading_append cmp before more ∙ ap (λ (r : Result (List NumberedContents) Fault). r >>= λ front. tables_after front (tables_reading cmp more)) h ∙ ap (tables_after tables) k

module _ (cmp : List ℕ → List ℕ → Ordering) (files : Files) (numbers : List ℕ) where
  pub none_so_far : AreCheckedSoFar cmp files numbers numbers None
  none_so_far = record { before = []; loaded = []; parts = refl; read = tt; refusal = ([], refl) }

  -- a round more
  pub round_so_far : (rest round behind : List ℕ) (first found : Option Fault) (loaded : List (ℕ × List ℕ)) → rest ≡ round ++ behind → AreCheckedSoFar cmp files numbers rest first → AllZip (IsTableOf (IsFileIn files)) round loaded
      → ((before : List (ℕ × List ℕ)) → IsFirstRefusal cmp before first → IsFirstRefusal cmp (before ++ loaded) found) → AreCheckedSoFar cmp files numbers behind found
  round_so_far rest round behind first found loaded is h read more = record {
    before = h.before ++ round;
    loaded = h.loaded ++ loaded;
    parts = append_assoc h.before round behind ∙ ap (λ (ns : List ℕ). h.before ++ ns) (sym is) ∙ h.parts;
    read = zip_append (IsTableOf (IsFileIn files)) h.before h.loaded round loaded h.read read;
    refusal = more h.loaded h.refusal;
  }

  -- a table of the round is missing
  pub missing_so_far : (rest round behind : List ℕ) (first : Option Fault) (e : Fault) → rest ≡ round ++ behind → AreCheckedSoFar cmp files numbers rest first → IsLoaded (IsFileIn files) round (Err e) → AreChecked cmp files numbers (Err e)
  missing_so_far rest round behind first e is h m = (
    Err e,
    (
      record {
        before = h.before ++ m.before;
        tables = h.loaded ++ m.tables;
        number = m.number;
        behind = m.behind ++ behind;
        parts = sym h.parts ∙ ap (λ (ns : List ℕ). h.before ++ ns) (is ∙ ap (λ (ns : List ℕ). ns ++ behind) m.parts ∙ append_assoc m.before (m.number ∷ m.behind) behind) ∙ sym (append_assoc h.before m.before (m.number ∷ (m.behind ++ behind)));
        read = zip_append (IsTableOf (IsFileIn files)) h.before h.loaded m.before m.tables h.read m.read;
        missing = m.missing;
      },
      refl,
    ),
  )

  all_before : (before rest : List ℕ) → before ++ rest ≡ numbers → rest ≡ [] → before ≡ numbers
  all_before before rest parts none = sym (append-nil before) ∙ ap (λ (ns : List ℕ). before ++ ns) (sym none) ∙ parts

  -- all of them
  pub refused_at_last : (rest : List ℕ) (e : Fault) → rest ≡ [] → AreCheckedSoFar cmp files numbers rest (Some e) → AreChecked cmp files numbers (Err e)
  refused_at_last rest e none h = (Ok h.loaded, (subst (λ (ns : List ℕ). AllZip (IsTableOf (IsFileIn files)) ns h.loaded) (all_before h.before rest h.parts none) h.read, (Err e, (h.refusal, refl))))

  pub read_at_last : (rest : List ℕ) → rest ≡ [] → AreCheckedSoFar cmp files numbers rest None → AreChecked cmp files numbers (Ok tt)
  read_at_last rest none h = (Ok h.loaded, (subst (λ (ns : List ℕ). AllZip (IsTableOf (IsFileIn files)) ns h.loaded) (all_before h.before rest h.parts none) h.read, (Ok h.refusal.0, (h.refusal.1, refl))))

-- ---- the first refusal

named_other : (n : FaultName) (i : Option ℕ) (P : Type 0) → (n ≡ Memory → ⊥) → UnlessNamed n i P → P
named_other Memory None P never h = absurd (never refl)
named_other _ _ P never h = h

-- a refusal of another name than Memory
pub other_name : (e : Fault) (P : Type 0) → (e.name ≡ Memory → ⊥) → UnlessMemory e P → P
other_name e P never h = named_other e.name e.input P never h

module _ (cmp : List ℕ → List ℕ → Ordering) (more : List (ℕ × List ℕ)) where
  pub still_refused : (first : Option Fault) → is_some first ≡ true → (before : List (ℕ × List ℕ)) → IsFirstRefusal cmp before first → IsFirstRefusal cmp (before ++ more) first
  still_refused (Some e) there before h = refused_still cmp before more e h
  still_refused None there before h = absurd cc

  pub none_refused : (first : Option Fault) (tables : List NumberedContents) → is_some first ≡ false → tables_reading cmp more ≡ Ok tables → (before : List (ℕ × List ℕ)) → IsFirstRefusal cmp before first → IsFirstRefusal cmp (before ++ more) None
  none_refused (Some e) tables there read before h = absurd cc
  none_refused None tables there read before h = (h.0 ++ tables, read_more cmp before more h.0 tables h.1 read)

  pub now_refused : (first : Option Fault) (e : Fault) → is_some first ≡ false → tables_reading cmp more ≡ Err e → (before : List (ℕ × List ℕ)) → IsFirstRefusal cmp before first → IsFirstRefusal cmp (before ++ more) (Some e)
  now_refused (Some d) e there read before h = absurd cc
  now_refused None e there read before h = refused_now cmp before more h.0 e h.1 read

-- a list without elements
pub none_left : (rest : List ℕ) (b : Bool) → b ≡ nat_eq (length rest) 0 → b ≡ true → rest ≡ []
none_left rest b is empty = nil_from_length rest (eqb-true (length rest) 0 (sym is ∙ empty))
