-- Tables that are held, and the bytes that they read as.
use Rattle.std.proofs.Common.{◌≡◌, ℕ, None, ◌+◌, ◌<◌, List, [], ◌∷◌, ◌++◌, length, take, get_or, Ok, Err, sym, ap, subst, ◌∙◌}
use Rattle.std.specs.List.{AllZip}
use Rattle.std.specs.declared.cmp.Ordering.{Ordering}
use Rattle.std.proofs.lemmas.List.{take_more}
use Rattle.std.proofs.lemmas.List.Elements.{All-append, All-cons, All-nil}
use Rattle.ikey.proofs.Binds.{done, failed}
use Rattle.ikey.specs.fault.Fault.{Fault}
use Rattle.folder.specs.Calls.{Files}
use Rattle.folder.specs.LoadedTables.{IsTableOf}
use Rattle.folder.specs.ReadsAs.{IsFileIn}
use Rattle.table.specs.TableContents.{contents_reading}
use Rattle.reads.specs.Tables.{NumberedContents}
use Rattle.checks.specs.HeldTables.{AreFound, AreReadAs, IsCheckedAnswer, IsFoundAnswer}
use Rattle.checks.specs.HeldBytes.{held_bytes}
use Rattle.checks.specs.InOrder.{AreChecked}
use Rattle.checks.proofs.FoundTables.{found_read, found_tables}

pub take_next : (tables : List NumberedContents) (i : ℕ) (t : NumberedContents) → i < length tables → t ≡ get_or tables i t → take (i + 1) tables ≡ take i tables ++ t ∷ []
take_next tables i t lt is = take_more tables i t lt ∙ ap (λ (x : NumberedContents). take i tables ++ x ∷ []) (sym is)

abbrev reads_own : (List ℕ → List ℕ → Ordering) → NumberedContents → Type 0
reads_own cmp t = contents_reading cmp t.contents.bytes ≡ Ok t.contents

pub read_more : (cmp : List ℕ → List ℕ → Ordering) (tables : List NumberedContents) (i : ℕ) (t : NumberedContents) → i < length tables → t ≡ get_or tables i t
    → AreReadAs cmp (take i tables) → contents_reading cmp t.contents.bytes ≡ Ok t.contents → AreReadAs cmp (take (i + 1) tables)
read_more cmp tables i t lt is before one =
    subst (AreReadAs cmp) (sym (take_next tables i t lt is))
    (All-append (reads_own cmp) (take i tables) (t ∷ []) before (All-cons (reads_own cmp) t [] one (All-nil (reads_own cmp))))

-- ---- the tables that are found are those that are loaded

module _ (cmp : List ℕ → List ℕ → Ordering) (files : Files) where
  pub found_loaded : (numbers : List ℕ) (tables : List NumberedContents) → AreFound cmp files numbers tables → AllZip (IsTableOf (IsFileIn files)) numbers (held_bytes tables)
  found_loaded [] [] h = tt
  found_loaded [] (t ∷ tables) h = absurd h
  found_loaded (n ∷ numbers) [] h = absurd h
  found_loaded (n ∷ numbers) (t ∷ tables) h = ((h.0.0, h.0.1.there), found_loaded numbers tables h.1)

  pub found_checked : (numbers : List ℕ) (tables : List NumberedContents) → AreFound cmp files numbers tables → IsCheckedAnswer cmp files numbers (Ok tables)
  found_checked numbers tables h =
      let there = found_loaded numbers tables h in
      (Ok (held_bytes tables), (there, found_read cmp files numbers (held_bytes tables) tables there h))

  -- else the first refusal
  pub refused_in_order : (numbers : List ℕ) (e : Fault) → AreChecked cmp files numbers (Err e) → IsCheckedAnswer cmp files numbers (Err e)
  refused_in_order numbers e (Err d, h) = (Err d, (h.0, same_error d e h.1))
    where
      same_error : (d e : Fault) → failed {A = Unit {0}} e ≡ failed d → failed {A = List NumberedContents} e ≡ failed d
      same_error d e h = let one : e ≡ d = cc h in ap (λ (f : Fault). failed {A = List NumberedContents} f) one
  refused_in_order numbers e (Ok loaded, (there, (Err d, h))) = (Ok loaded, (there, h.0 ∙ same_error d e h.1))
    where
      same_error : (d e : Fault) → failed {A = Unit {0}} e ≡ failed d → failed {A = List NumberedContents} d ≡ failed e
      same_error d e h = let one : d ≡ e = cc h in ap (λ (f : Fault). failed {A = List NumberedContents} f) one
  refused_in_order numbers e (Ok loaded, (there, (Ok tables, h))) = absurd (no_value e h.1)
    where
      no_value : (e : Fault) → failed {A = Unit {0}} e ≡ done tt → ⊥
      no_value e h = cc

  pub never_passed : (numbers : List ℕ) → IsFoundAnswer cmp files numbers (Ok None) → AreChecked cmp files numbers (Ok tt) → ⊥
  never_passed numbers none (Ok loaded, (there, (Ok tables, h))) = none tables (found_tables cmp files numbers loaded tables there h.0)
  never_passed numbers none (Ok loaded, (there, (Err d, h))) = absurd (no_error d h.1)
    where
      no_error : (e : Fault) → done {A = Unit {0}} tt ≡ failed e → ⊥
      no_error e h = cc
  never_passed numbers none (Err d, h) = absurd (no_error d h.1)
    where
      no_error : (e : Fault) → done {A = Unit {0}} tt ≡ failed e → ⊥
      no_error e h = cc
