-- Tables that are read from a folder and own their bytes.
use Rattle.std.proofs.Common.{◌≡◌, ◌⊎◌, ℕ, List, [], ◌∷◌, ◌++◌, map, Option, Some, None, Result, Ok, Err, IfOk, IfErr, IfSome, sym, ap, subst, ◌∙◌}
use Rattle.std.specs.List.{AllZip}
use Rattle.std.specs.Option.{MatchOption, option_map}
use Rattle.std.specs.Global.{Vec}
use Rattle.std.specs.declared.cmp.Ordering.{Ordering}
use Rattle.ikey.proofs.Binds.{bind_ok, done}
use Rattle.ikey.specs.Answers.{◌>>=◌, UnlessMemory, fault}
use Rattle.ikey.specs.fault.Fault.{Fault}
use Rattle.ikey.specs.fault.FaultName.TheVariants.{Memory}
use Rattle.table.specs.TableContents.{Contents, contents_reading}
use Rattle.folder.specs.Calls.{Files, ToldFiles}
use Rattle.folder.specs.LoadedTables.{IsTableOf}
use Rattle.folder.specs.OpenAnswer.{FolderAnswers, IsStopped}
use Rattle.folder.specs.ReadsAs.{IsFileIn}
use Rattle.reads.specs.Tables.{NumberedContents}
use Rattle.checks.specs.TableReadings.{tables_reading}
use Rattle.checks.specs.TableAnswers.{IsInvalid, IsRead}
use Rattle.checks.specs.HeldTables.{IsFoundAnswer, held_numbers}
use Rattle.checks.proofs.FoundTables.{checked_parts, found_read, found_tables, loaded_numbers, read_numbers}
use Rattle.checks.proofs.Lent.{lent_table}
use Rattle.checks.proofs.TableRounds.{tables_after}

module _ (cmp : List ℕ → List ℕ → Ordering) where
  -- a table that was read, and one that is invalid
  pub one_read : (t : ℕ × Vec ℕ) (x : NumberedContents) → x.number ≡ t.0 → contents_reading cmp t.1.items ≡ Ok x.contents → tables_reading cmp (lent_table t ∷ []) ≡ Ok (x ∷ [])
  one_read t x number read =
      ap (λ (r : Result Contents Fault). (r >>= λ contents. Ok (record { number = t.0; contents = contents })) >>= λ first. done (first ∷ [])) read
      ∙ ap (λ (n : ℕ). done (record { number = n; contents = x.contents } ∷ [])) (sym number)

  pub one_invalid : (front : List NumberedContents) (t : ℕ × Vec ℕ) (rest : List (ℕ × Vec ℕ)) (total : Result (List NumberedContents) Fault) → ((x : Contents) → contents_reading cmp t.1.items ≡ Ok x → ⊥)
      → tables_after front (tables_reading cmp (map lent_table (t ∷ rest))) ≡ total → (tables : List NumberedContents) → total ≡ Ok tables → ⊥
  one_invalid front t rest total invalid so_far tables h =
      let all = bind_ok (tables_reading cmp (map lent_table (t ∷ rest))) (λ (others : List NumberedContents). Ok (front ++ others)) tables (so_far ∙ h) in
      let parts = checked_parts cmp (lent_table t) (map lent_table rest) all.0 all.1 in
      invalid parts.contents parts.read

  -- ---- what is answered of the tables that were loaded

  module _ (files : Files) (numbers : List ℕ) (loaded : List (ℕ × List ℕ)) (there : AllZip (IsTableOf (IsFileIn files)) numbers loaded) where
    pub read_answer : {V : Type 0} (view : V → List NumberedContents) (found : Option V) → MatchOption found (IsInvalid cmp loaded) (λ v. IsRead cmp loaded (view v)) → IsFoundAnswer cmp files numbers (Ok (option_map view found))
    read_answer view None invalid = λ tables h. invalid tables (found_read cmp files numbers loaded tables there h)
    read_answer view (Some v) read = found_tables cmp files numbers loaded (view v) there read

    pub read_answers : {V : Type 0} (view : V → List NumberedContents) (before now : ℕ) (r : Result (Option V) Fault) → IfErr r (λ e. e ≡ fault Memory) → IfOk r (λ found. MatchOption found (IsInvalid cmp loaded) (λ v. IsRead cmp loaded (view v)))
        → FolderAnswers (λ found. option_map view found) before now r (IsFoundAnswer cmp files numbers)
    read_answers view before now (Ok found) m h = read_answer view found h
    read_answers view before now (Err e) m h = subst (λ (f : Fault). UnlessMemory f (IsStopped before now f ⊎ IsFoundAnswer cmp files numbers (Err f))) (sym m) tt

  pub read_numbered : {V : Type 0} (view : V → List NumberedContents) (tells : ToldFiles) (numbers : List ℕ) (loaded : List (ℕ × List ℕ)) → AllZip (IsTableOf tells) numbers loaded → (r : Result (Option V) Fault)
      → IfOk r (λ found. MatchOption found (IsInvalid cmp loaded) (λ v. IsRead cmp loaded (view v))) → IfOk r (λ found. IfSome found (λ v. held_numbers (view v) ≡ numbers))
  read_numbered view tells numbers loaded there (Ok None) h = tt
  read_numbered view tells numbers loaded there (Ok (Some v)) h = read_numbers cmp loaded (view v) h ∙ loaded_numbers tells numbers loaded there
  read_numbered view tells numbers loaded there (Err e) h = tt
