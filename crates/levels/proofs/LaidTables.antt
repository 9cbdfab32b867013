-- The tables that installations leave one after the other are those that one installation leaves.
use Rattle.std.proofs.Common.{◌≡◌, ℕ, nat_eq, Bool, true, false, List, [], ◌∷◌, ◌++◌, map, refl, sym, ap, ◌∙◌, inl, inr, append_assoc}
use Rattle.std.specs.Prelude.{◌⊎◌}
use Rattle.std.specs.declared.cmp.Ordering.{Ordering}
use Rattle.std.proofs.lemmas.Bool.{eqb-true, eq-eqb}
use Rattle.edit.specs.Version.{State}
use Rattle.folder.specs.Levels.{file_numbers}
use Rattle.folder.specs.ReadsAs.{IsOneOf}
use Rattle.install.specs.Install.{next_version_tables, numbers_of, table_bytes_of}
use Rattle.install.proofs.Outputs.{among_outputs}
use Rattle.pick.proofs.Lists.{cases}

pub one_or_not : (ns : List ℕ) (n : ℕ) → IsOneOf ns n ⊎ (IsOneOf ns n → ⊥)
one_or_not [] n = inr (λ h. h)
one_or_not (m ∷ ns) n = elim (cases (nat_eq n m)) [
  | inl same ↦ inl (inl (eqb-true n m same))
  | inr other ↦ elim (one_or_not ns n) [
    | inl there ↦ inl (inr there)
    | inr none ↦ inr (λ h. elim h [ inl same ↦ (let both : true ≡ false = sym (eq-eqb n m same) ∙ other in cc both) | inr there ↦ none there ])
  ]
]

-- a number that none of the first tables has
pub passed_by : (one two : List (ℕ × List ℕ)) (n : ℕ) → (IsOneOf (numbers_of one) n → ⊥) → table_bytes_of (one ++ two) n ≡ table_bytes_of two n
passed_by one two n none = elim (among_outputs one two n) [ inl there ↦ absurd (none there) | inr same ↦ same ]

-- a number that one of them has
pub found_first : (one two : List (ℕ × List ℕ)) (n : ℕ) → IsOneOf (numbers_of one) n → table_bytes_of (one ++ two) n ≡ table_bytes_of one n
found_first [] two n there = absurd there
found_first (t ∷ one) two n there = by (nat_eq n t.0) refl there (λ later. found_first one two n later)
  where
    by : (b : Bool) → nat_eq n t.0 ≡ b → (n ≡ t.0) ⊎ IsOneOf (numbers_of one) n → (IsOneOf (numbers_of one) n → table_bytes_of (one ++ two) n ≡ table_bytes_of one n) → table_bytes_of ((t ∷ one) ++ two) n ≡ table_bytes_of (t ∷ one) n
    by true e h on = rw e refl
    by false e (inl same) on = (let both : true ≡ false = sym (eq-eqb n t.0 same) ∙ e in absurd (cc both))
    by false e (inr later) on = rw e (on later)

found_map : (of : ℕ → List ℕ) (numbers : List ℕ) (n : ℕ) → IsOneOf numbers n → table_bytes_of (map (λ (m : ℕ). (m, of m)) numbers) n ≡ of n
found_map of [] n there = absurd there
found_map of (m ∷ numbers) n there = by (nat_eq n m) refl there (λ later. found_map of numbers n later)
  where
    by : (b : Bool) → nat_eq n m ≡ b → (n ≡ m) ⊎ IsOneOf numbers n → (IsOneOf numbers n → table_bytes_of (map (λ (k : ℕ). (k, of k)) numbers) n ≡ of n) → table_bytes_of (map (λ (k : ℕ). (k, of k)) (m ∷ numbers)) n ≡ of n
    by true e h on = rw e (ap of (sym (eqb-true n m e)))
    by false e (inl same) on = (let both : true ≡ false = sym (eq-eqb n m same) ∙ e in absurd (cc both))
    by false e (inr later) on = rw e (on later)

same_map : (f g : ℕ → ℕ × List ℕ) (numbers : List ℕ) → ((n : ℕ) → IsOneOf numbers n → f n ≡ g n) → map f numbers ≡ map g numbers
same_map f g [] h = refl
same_map f g (n ∷ numbers) h =
    ap (λ (t : ℕ × List ℕ). t ∷ map f numbers) (h n (inl refl)) ∙ ap (λ (ts : List (ℕ × List ℕ)). g n ∷ ts) (same_map f g numbers (λ m at. h m (inr at)))

module _ (cmp : List ℕ → List ℕ → Ordering) (w : State) (outs held : List (ℕ × List ℕ)) where
  -- the table of a file of the version
  pub laid_at : (n : ℕ) → IsOneOf (file_numbers cmp w) n → table_bytes_of (next_version_tables cmp w outs held) n ≡ table_bytes_of (outs ++ held) n
  laid_at n there = found_map (table_bytes_of (outs ++ held)) (file_numbers cmp w) n there

  -- that of one that is no output is as before
  pub laid_before : (n : ℕ) → IsOneOf (file_numbers cmp w) n → (IsOneOf (numbers_of outs) n → ⊥) → table_bytes_of (next_version_tables cmp w outs held) n ≡ table_bytes_of held n
  laid_before n there none = laid_at n there ∙ passed_by outs held n none

-- two installations, one after the other
pub laid_twice : (cmp : List ℕ → List ℕ → Ordering) (w after : State) (outs more loaded : List (ℕ × List ℕ))
    → ((n : ℕ) → IsOneOf (file_numbers cmp after) n → IsOneOf (numbers_of more) n ⊎ IsOneOf (file_numbers cmp w) n)
    → ((n : ℕ) → IsOneOf (numbers_of more) n → IsOneOf (numbers_of outs) n → ⊥)
    → next_version_tables cmp after more (next_version_tables cmp w outs loaded) ≡ next_version_tables cmp after (outs ++ more) loaded
laid_twice cmp w after outs more loaded from apart =
    same_map (λ (n : ℕ). (n, table_bytes_of (more ++ next_version_tables cmp w outs loaded) n)) (λ (n : ℕ). (n, table_bytes_of ((outs ++ more) ++ loaded) n)) (file_numbers cmp after)
    (λ n there. ap (λ (b : List ℕ). (n, b)) (at n there (one_or_not (numbers_of more) n)))
  where
    turned : (n : ℕ) → table_bytes_of ((outs ++ more) ++ loaded) n ≡ table_bytes_of (outs ++ (more ++ loaded)) n
    turned n = ap (λ (ts : List (ℕ × List ℕ)). table_bytes_of ts n) (append_assoc outs more loaded)

    older : (n : ℕ) → (IsOneOf (numbers_of more) n → ⊥) → IsOneOf (numbers_of outs) n ⊎ (IsOneOf (numbers_of outs) n → ⊥) → table_bytes_of (outs ++ loaded) n ≡ table_bytes_of (outs ++ (more ++ loaded)) n
    older n none (inl own) = found_first outs loaded n own ∙ sym (found_first outs (more ++ loaded) n own)
    older n none (inr other) = passed_by outs loaded n other ∙ sym (passed_by more loaded n none) ∙ sym (passed_by outs (more ++ loaded) n other)

    at : (n : ℕ) → IsOneOf (file_numbers cmp after) n → IsOneOf (numbers_of more) n ⊎ (IsOneOf (numbers_of more) n → ⊥) → table_bytes_of (more ++ next_version_tables cmp w outs loaded) n ≡ table_bytes_of ((outs ++ more) ++ loaded) n
    at n there (inl own) =
        found_first more (next_version_tables cmp w outs loaded) n own ∙ sym (found_first more loaded n own) ∙ sym (passed_by outs (more ++ loaded) n (apart n own)) ∙ sym (turned n)
    at n there (inr none) =
        passed_by more (next_version_tables cmp w outs loaded) n none
        ∙ laid_at cmp w outs loaded n (elim (from n there) [ inl own ↦ absurd (none own) | inr old ↦ old ])
        ∙ older n none (one_or_not (numbers_of outs) n)
        ∙ sym (turned n)
