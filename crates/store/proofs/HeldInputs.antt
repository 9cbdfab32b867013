-- Inputs whose tables are held.
use Rattle.std.proofs.Common.{◌≡◌, ℕ, List, [], ◌∷◌, map, Option, Result, Ok, Err, IfOk, refl, sym, ap, subst, ◌∙◌}
use Rattle.std.specs.declared.cmp.Ordering.{Ordering}
use Rattle.std.proofs.lemmas.List.Elements.{All-head, All-tail}
use Rattle.folder.proofs.Binds.{done, failed, ok_is}
use Rattle.folder.specs.Answers.{◌>>=◌}
use Rattle.folder.specs.fault.Fault.{Fault}
use Rattle.folder.specs.fault.FaultName.TheVariants.{Bounds}
use Rattle.folder.specs.Comparator.{ShortKeys}
use Rattle.reads.specs.TestResult.{test_result}
use Rattle.reads.specs.TableContents.{Contents}
use Rattle.folder.specs.Version.{State}
use Rattle.folder.specs.Calls.{Files, ToldFiles}
use Rattle.folder.specs.LoadedTables.{IsLoaded}
use Rattle.folder.specs.ReadsAs.{IsFileIn}
use Rattle.pick.specs.PickedInputs.{PickedInputs}
use Rattle.reads.specs.Tables.{NumberedContents}
use Rattle.checks.specs.TableReadings.{tables_reading}
use Rattle.checks.specs.HeldTables.{AreHeldBy, IsCheckedAnswer, IsTableBy, held_numbers}
use Rattle.checks.specs.HeldBytes.{held_bytes}
use Rattle.checks.proofs.FoundTables.{checked_parts}
use Rattle.compact.specs.OneThread.{Answer}
use Rattle.compact.specs.declared.settings.Settings.{Settings}
use Rattle.store.specs.FolderRequest.{compaction_from}
use Rattle.store.specs.InputsCompaction.{IsPickedAnswer, IsReadAnswer, are_stated, input_numbers, input_tables}
use Rattle.store.specs.Step.{with_inputs}
use Rattle.store.proofs.Flow.{first_passed, first_refused}
use Rattle.store.proofs.Loaded.{own_bytes}

pub numbers_held : (tables : List NumberedContents) → map (λ (t : ℕ × List ℕ). t.0) (held_bytes tables) ≡ held_numbers tables
numbers_held [] = refl
numbers_held (t ∷ tables) = ap (λ (ns : List ℕ). t.number ∷ ns) (numbers_held tables)

-- held tables are those that a read of their numbers may give
pub bytes_told : (cmp : List ℕ → List ℕ → Ordering) (tells : ToldFiles) (tables : List NumberedContents) → AreHeldBy cmp tells tables → IsLoaded tells (held_numbers tables) (Ok (held_bytes tables))
bytes_told cmp tells [] h = tt
bytes_told cmp tells (t ∷ tables) h =
    let one : IsTableBy cmp tells t.number t.contents = All-head (λ (t : NumberedContents). IsTableBy cmp tells t.number t.contents) t tables h in
    ((refl, one.there), bytes_told cmp tells tables (All-tail (λ (t : NumberedContents). IsTableBy cmp tells t.number t.contents) t tables h))

-- so are those that a call hands on, of these numbers
pub told_bytes : {X : Type 0} (cmp : List ℕ → List ℕ → Ordering) (tells : ToldFiles) (numbers asked : List ℕ) → asked ≡ numbers → (r : Result (List NumberedContents) X)
    → IfOk r (λ ts. held_numbers ts ≡ asked) → IfOk r (AreHeldBy cmp tells) → IfOk r (λ ts. IsLoaded tells numbers (Ok (held_bytes ts)))
told_bytes cmp tells numbers asked same (Ok ts) these held = subst (λ (ns : List ℕ). IsLoaded tells ns (Ok (held_bytes ts))) (these ∙ same) (bytes_told cmp tells ts held)
told_bytes cmp tells numbers asked same (Err e) these held = tt

module _ (cmp : List ℕ → List ℕ → Ordering) where
  -- tables that were read have the bytes that were loaded
  pub held_loaded : (loaded : List (ℕ × List ℕ)) (tables : List NumberedContents) → tables_reading cmp loaded ≡ Ok tables → held_bytes tables ≡ loaded
  held_loaded [] tables h = ap held_bytes (sym (ok_is [] tables h))
  held_loaded (l ∷ loaded) tables h =
      let c = checked_parts cmp l loaded tables h in
      ap held_bytes (sym c.whole)
      ∙ ap (λ (b : List ℕ). (l.0, b) ∷ held_bytes c.behind) (own_bytes cmp l.1 c.contents c.read)
      ∙ ap (λ (ls : List (ℕ × List ℕ)). l ∷ ls) (held_loaded loaded c.behind c.rest)

  pub checked_loaded : (files : Files) (numbers : List ℕ) (tables : List NumberedContents) → IsCheckedAnswer cmp files numbers (Ok tables) → IsLoaded (IsFileIn files) numbers (Ok (held_bytes tables))
  checked_loaded files numbers tables (Ok loaded, (there, read)) = subst (λ (ls : List (ℕ × List ℕ)). IsLoaded (IsFileIn files) numbers (Ok ls)) (sym (held_loaded loaded tables read)) there
  checked_loaded files numbers tables (Err d, h) = absurd (no_error tables d h.1)
    where
      no_error : (tables : List NumberedContents) (e : Fault) → done tables ≡ failed e → ⊥
      no_error tables e h = cc

  -- what they are refused as is what the inputs are refused as
  pub checked_refused : (first : Option ℕ) (short_keys : ShortKeys) (files : Files) (v : State) (s : Settings) (p : PickedInputs) (e : Fault)
      → IsCheckedAnswer cmp files (input_numbers p.files) (Err e) → IsPickedAnswer first cmp short_keys files v s p (Err e)
  checked_refused first short_keys files v s p e (Err d, h) =
      let same : d ≡ e = same_error d e h.1 in
      first_refused (IsLoaded (IsFileIn files) (input_numbers p.files)) (IsReadAnswer first cmp short_keys v s p) e (subst (λ (f : Fault). IsLoaded (IsFileIn files) (input_numbers p.files) (Err f)) same h.0)
    where
      same_error : (d e : Fault) → failed {A = List NumberedContents} e ≡ failed d → d ≡ e
      same_error d e h = cc h
  checked_refused first short_keys files v s p e (Ok loaded, (there, read)) =
      first_passed (IsLoaded (IsFileIn files) (input_numbers p.files)) (IsReadAnswer first cmp short_keys v s p) loaded (Err e) there
      (first_refused (λ r. input_tables cmp p.files loaded ≡ r) (λ (contents : List Contents) (a : Result (PickedInputs × Answer) Fault). a ≡ with_inputs p (compaction_from first cmp short_keys v loaded p s)) e
      (ap (λ (r : Result (List NumberedContents) Fault). r >>= λ ts. test_result (are_stated p.files ts) Bounds >>= λ _. Ok (map (λ (t : NumberedContents). t.contents) ts)) read))
