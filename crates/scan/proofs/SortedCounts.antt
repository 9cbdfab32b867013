-- Lists that are sorted are counted as they are.
use Rattle.std.proofs.Common.{◌≡◌, ◌<◌, ◌≤◌, ◌+◌, ℕ, zero, suc, Bool, true, false, cond, List, [], ◌∷◌, length, map, refl, sym, ap, ap₂, subst, ◌∙◌}
use Rattle.std.specs.Prelude.{◌||◌}
use Rattle.std.specs.List.{count_by, list_any}
use Rattle.std.specs.Ordering.{is_lt}
use Rattle.std.specs.declared.cmp.Ordering.{Ordering}
use Rattle.std.proofs.lemmas.List.{length-map}
use Rattle.std.proofs.lemmas.List.Folds.{list_any-append}
use Rattle.table.specs.Order.{internal_cmp}
use Rattle.block.specs.EncodedEntry.{Entry}
use Rattle.merge.specs.MergedLists.{entries_of_lists, entries_with, sorted_entries}
use Rattle.scan.specs.Counts.{amounts_at, AreAmountsCounted, AreOnce, counted, HasRoom, is_version, list_at}
use Rattle.scan.specs.HiddenEntries.{hides, is_hidden_among}
use Rattle.scan.specs.Stats.{amounts_plus}
use Rattle.scan.specs.declared.amounts.Amounts.{Amounts}
use Rattle.scan.proofs.CountedEntries.{count_append, count_sorted, counted_same, counted_sorted}

swapped : (a b c : Bool) → (a || (b || c)) ≡ (b || (a || c))
swapped true true c = refl
swapped true false c = refl
swapped false b c = refl

module _ (cmp : List ℕ → List ℕ → Ordering) where
  any_with : (p : Entry → Bool) (e : Entry) (fs : List Entry) → list_any p (entries_with cmp e fs) ≡ (p e || list_any p fs)
  any_with p e [] = refl
  any_with p e (f ∷ fs) = by (any_with p e fs) (is_lt (internal_cmp cmp f.key e.key))
    where
      by : list_any p (entries_with cmp e fs) ≡ (p e || list_any p fs) → (b : Bool) → list_any p (cond b (f ∷ entries_with cmp e fs) (e ∷ (f ∷ fs))) ≡ (p e || (p f || list_any p fs))
      by rest true = ap (λ (b : Bool). p f || b) rest ∙ swapped (p f) (p e) (list_any p fs)
      by rest false = refl

  any_sorted : (p : Entry → Bool) (es : List Entry) → list_any p (sorted_entries cmp es) ≡ list_any p es
  any_sorted p [] = refl
  any_sorted p (e ∷ es) = any_with p e (sorted_entries cmp es) ∙ ap (λ (b : Bool). p e || b) (any_sorted p es)

  abbrev pub sorted_lists : List (List Entry) → List (List Entry)
  sorted_lists lists = map (sorted_entries cmp) lists

  any_joined : (p : Entry → Bool) (lists : List (List Entry)) → list_any p (entries_of_lists (sorted_lists lists)) ≡ list_any p (entries_of_lists lists)
  any_joined p [] = refl
  any_joined p (l ∷ lists) =
      list_any-append p (sorted_entries cmp l) (entries_of_lists (sorted_lists lists))
      ∙ ap₂ (λ (a b : Bool). a || b) (any_sorted p l) (any_joined p lists)
      ∙ sym (list_any-append p l (entries_of_lists lists))

  count_joined : (p : Entry → Bool) (lists : List (List Entry)) → count_by p (entries_of_lists (sorted_lists lists)) ≡ count_by p (entries_of_lists lists)
  count_joined p [] = refl
  count_joined p (l ∷ lists) =
      count_append p (sorted_entries cmp l) (entries_of_lists (sorted_lists lists))
      ∙ ap₂ (λ (n m : ℕ). n + m) (count_sorted p cmp l) (count_joined p lists)
      ∙ sym (count_append p l (entries_of_lists lists))

  sorted_at : (lists : List (List Entry)) (i : ℕ) → list_at (sorted_lists lists) i ≡ sorted_entries cmp (list_at lists i)
  sorted_at [] i = refl
  sorted_at (l ∷ lists) zero = refl
  sorted_at (l ∷ lists) (suc i) = sorted_at lists i

  pub sorted_counted : (last : ℕ) (lists : List (List Entry)) (old new : List Amounts) → AreAmountsCounted last (sorted_lists lists) old new → AreAmountsCounted last lists old new
  sorted_counted last lists old new counts once room =
      let have = counts once_too room_too in
      record {
        number = have.number;
        each = λ i lt.
            have.each i (within i lt)
            ∙ ap (λ (es : List Entry). amounts_plus (amounts_at old i) (counted (is_hidden_among last (entries_of_lists (sorted_lists lists))) es)) (sorted_at lists i)
            ∙ ap (amounts_plus (amounts_at old i)) (counted_sorted (is_hidden_among last (entries_of_lists (sorted_lists lists))) cmp (list_at lists i)
            ∙ counted_same (is_hidden_among last (entries_of_lists (sorted_lists lists))) (is_hidden_among last (entries_of_lists lists)) (list_at lists i) (λ f at. any_joined (λ e. hides last e f) lists));
      }
    where
      within : (i : ℕ) → i < length lists → i < length (sorted_lists lists)
      within i lt = subst (λ (n : ℕ). i < n) (sym (length-map lists (sorted_entries cmp))) lt

      once_too : AreOnce (entries_of_lists (sorted_lists lists))
      once_too user sequence = subst (λ (n : ℕ). n ≤ 1) (sym (count_joined (is_version user sequence) lists)) (once user sequence)

      room_too : (i : ℕ) → i < length (sorted_lists lists) → HasRoom (amounts_at old i) (length (list_at (sorted_lists lists) i))
      room_too i lt =
          let same : length (list_at (sorted_lists lists) i) ≡ length (list_at lists i) = ap length (sorted_at lists i) ∙ ap (λ (a : Amounts). a.entries) (counted_sorted (is_hidden_among last []) cmp (list_at lists i)) in
          subst (HasRoom (amounts_at old i)) (sym same) (room i (subst (λ (n : ℕ). i < n) (length-map lists (sorted_entries cmp)) lt))
