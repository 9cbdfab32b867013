-- Tables that files hold.
use Rattle.std.proofs.Common.{◌≡◌, ℕ, List, [], ◌∷◌, refl, sym, ap, ◌∙◌}
use Rattle.std.specs.List.{AllZip}
use Rattle.folder.specs.Calls.{Files}
use Rattle.folder.specs.LoadedTables.{IsTableOf}
use Rattle.folder.specs.ReadsAs.{IsFileIn}
use Rattle.store.proofs.InputNumbers.{one_table}

-- ---- what is loaded

-- files hold one list of tables of some numbers
pub one_loaded : (files : Files) (numbers : List ℕ) (one two : List (ℕ × List ℕ)) → AllZip (IsTableOf (IsFileIn files)) numbers one → AllZip (IsTableOf (IsFileIn files)) numbers two → one ≡ two
one_loaded files [] [] [] h k = refl
one_loaded files [] [] (t ∷ two) h k = absurd k
one_loaded files [] (t ∷ one) two h k = absurd h
one_loaded files (n ∷ numbers) [] two h k = absurd h
one_loaded files (n ∷ numbers) (t ∷ one) [] h k = absurd k
one_loaded files (n ∷ numbers) (t ∷ one) (s ∷ two) h k =
    let number : t.0 ≡ s.0 = h.0.0 ∙ sym k.0.0 in
    let bytes : t.1 ≡ s.1 = one_table files n s.1 t.1 k.0.1 h.0.1 in
    ap (λ (x : ℕ). (x, t.1) ∷ one) number ∙ (ap (λ (x : List ℕ). (s.0, x) ∷ one) bytes ∙ ap (λ (xs : List (ℕ × List ℕ)). s ∷ xs) (one_loaded files numbers one two h.1 k.1))
