-- The entries of levels, counted a range of user keys after the other.
use Rattle.std.proofs.Common.{◌≡◌, ◌<◌, ◌≤◌, ◌+◌, ◌-◌, ◌^◌, ℕ, zero, suc, Bool, true, false, min, List, [], ◌∷◌, length, map, get_or, Option, refl, sym, ap, subst, ◌∙◌, inl, inr, arith, eq-or-lt_of_le}
use Rattle.std.specs.Prelude.{◌⊎◌, ◌&&◌, ◌||◌, filter}
use Rattle.std.specs.List.{count_by, flat_map, sum_by}
use Rattle.std.specs.declared.cmp.Ordering.{Ordering}
use Rattle.std.proofs.lemmas.List.{ext_get_or, get_or-map, length-append, length-map}
use Rattle.std.proofs.lemmas.List.Sums.{count_by-le-length, length-filter, sum_by-le-sum_by}
use Rattle.std.proofs.lemmas.Bool.{or_cases}
use Rattle.std.proofs.Math.Bool.{or-true}
use Rattle.block.specs.EncodedEntry.{Entry}
use Rattle.folder.specs.meta.FileMeta.{FileMeta}
use Rattle.folder.specs.Calls.{Files}
use Rattle.table.specs.Key.{user_of}
use Rattle.merge.specs.MergedLists.{entries_of_lists}
use Rattle.reads.specs.Ranges.{IsCover, KeyRange, range_at}
use Rattle.merge.specs.InRange.{entries_in, is_in_range}
use Rattle.merge.proofs.InRange.{holds_tells}
use Rattle.reads.specs.Tables.{NumberedContents}
use Rattle.reads.proofs.Members.{from_filter}
use Rattle.scan.specs.Counts.{amounts_at, AreAmountsCounted, AreOnce, capped_files, counted, HasRoom, is_version, list_at}
use Rattle.scan.specs.HiddenEntries.{is_deletion_entry, is_hidden_among}
use Rattle.scan.specs.LevelCounts.{all_of_levels, AreLevelsIn, lists_of_levels}
use Rattle.scan.specs.Stats.{amounts_of, amounts_plus, entries_of_files, no_amounts, told_amounts}
use Rattle.scan.specs.declared.amounts.Amounts.{Amounts}
use Rattle.scan.proofs.AmountSums.{plus_assoc, plus_none, same_amounts}
use Rattle.scan.proofs.CountedEntries.{count_filter, counted_filter, counted_same, one_if, tally, tally_all, tally_either, tally_none}
use Rattle.scan.proofs.HiddenSteps.{hidden_in_range}
use Rattle.scan.proofs.WalkCounts.{joined_ranged, ranged_at, ranged_lists}

-- ---- some that pass are no more than all that pass

part_le : (p q : Entry → Bool) (es : List Entry) → count_by (λ e. p e && q e) es ≤ count_by p es
part_le p q es = sum_by-le-sum_by (λ e. one_if (p e && q e)) (λ e. one_if (p e)) es (λ e. by (p e) (q e))
  where
    by : (a b : Bool) → one_if (a && b) ≤ one_if a
    by true true = omega arith
    by true false = omega arith
    by false b = omega arith

other_le : (p q : Entry → Bool) (es : List Entry) → count_by (λ e. p e && q e) es ≤ count_by q es
other_le p q es = sum_by-le-sum_by (λ e. one_if (p e && q e)) (λ e. one_if (q e)) es (λ e. by (p e) (q e))
  where
    by : (a b : Bool) → one_if (a && b) ≤ one_if b
    by true b = omega arith
    by false true = omega arith
    by false false = omega arith

once_in : (p : Entry → Bool) (es : List Entry) → AreOnce es → AreOnce (filter p es)
once_in p es once user sequence =
    let few = once user sequence in
    let is = count_filter p (is_version user sequence) es in
    let less = other_le p (is_version user sequence) es in
    omega arith

-- ---- the first ranges

module _ (cmp : List ℕ → List ℕ → Ordering) (boundaries : List (List ℕ)) where
  -- whether one of the first n ranges holds a user key
  abbrev pub in_first : ℕ → List ℕ → Bool
  in_first zero user = false
  in_first (suc n) user = in_first n user || is_in_range cmp (range_at boundaries n) user

  abbrev here : ℕ → List ℕ → Bool
  here n user = is_in_range cmp (range_at boundaries n) user

  -- the range that does
  first_of : (n : ℕ) (user : List ℕ) → in_first n user ≡ true → (k : ℕ) × (k < n) × (here k user ≡ true)
  first_of zero user h = absurd cc
  first_of (suc n) user h = elim (or_cases (in_first n user) (here n user) h) [
    | inl before ↦ let at = first_of n user before in (at.0, omega (arith, at.1), at.2)
    | inr own ↦ (n, omega arith, own)
  ]

  among : (n k : ℕ) (user : List ℕ) → k < n → here k user ≡ true → in_first n user ≡ true
  among zero k user lt own = absurd (omega arith)
  among (suc n) k user lt own = elim (last_or n k lt) [
    | inl before ↦ ap (λ (b : Bool). b || here n user) (among n k user before own)
    | inr same ↦ ap (λ (b : Bool). in_first n user || b) (subst (λ (m : ℕ). here m user ≡ true) same own) ∙ or-true (in_first n user)
  ]
    where
      last_or : (n k : ℕ) → k < suc n → (k < n) ⊎ (k ≡ n)
      last_or n k lt = elim (eq-or-lt_of_le (le_of n k lt)) [ inl same ↦ inr same | inr before ↦ inl before ]
        where
          le_of : (n k : ℕ) → k < suc n → k ≤ n
          le_of n k lt = omega arith

  module _ (cover : IsCover cmp boundaries) where
    -- no two ranges do
    pub apart : (n : ℕ) → n ≤ length boundaries → (user : List ℕ) → one_if (in_first n user) + one_if (here n user) ≡ one_if (in_first (suc n) user)
    apart n le user = by (in_first n user) (here n user) refl refl
      where
        by : (a b : Bool) → in_first n user ≡ a → here n user ≡ b → one_if a + one_if b ≡ one_if (a || b)
        by true true before own =
            let at = first_of n user before in
            let one = cover.each_once user in
            let first : at.0 ≡ one.number = one.only at.0 (omega (arith, at.1)) ((holds_tells cmp (range_at boundaries at.0) user).0 at.2) in
            let second : n ≡ one.number = one.only n le ((holds_tells cmp (range_at boundaries n) user).0 own) in
            absurd (omega (arith, at.1, first, second))
        by true false before own = refl
        by false true before own = refl
        by false false before own = refl

    -- all ranges hold each
    pub everywhere : (user : List ℕ) → in_first (length boundaries + 1) user ≡ true
    everywhere user =
        let one = cover.each_once user in
        among (length boundaries + 1) one.number user (omega (arith, one.below)) ((holds_tells cmp (range_at boundaries one.number) user).1 one.within)

-- ---- the amounts of the first ranges

module _ (cmp : List ℕ → List ℕ → Ordering) (boundaries : List (List ℕ)) (last : ℕ) (lists : List (List Entry)) (base : List Amounts) where
  abbrev hidden : Entry → Bool
  hidden = is_hidden_among last (entries_of_lists lists)

  abbrev first : ℕ → Entry → Bool
  first n e = in_first cmp boundaries n (user_of e.key)

  -- the entries of the first n ranges are counted
  pub record AreCountedTo (n : ℕ) (now : List Amounts) : Type 0 where
    pub number : length now ≡ length base
    pub each : (i : ℕ) → i < length lists → amounts_at now i ≡ amounts_plus (amounts_at base i) (tally (first n) hidden (list_at lists i))

  pub none_counted : (now : List Amounts) → now ≡ base → AreCountedTo 0 now
  none_counted now same = record {
    number = ap length same;
    each = λ i lt. ap (λ (list : List Amounts). amounts_at list i) same ∙ sym (plus_none (amounts_at base i)) ∙ ap (amounts_plus (amounts_at base i)) (sym (tally_none (first 0) hidden (list_at lists i) (λ e. refl)));
  }

  module _ (cover : IsCover cmp boundaries) where
    -- all are
    pub all_counted : (n : ℕ) (now : List Amounts) → length boundaries + 1 ≡ n → AreCountedTo n now → (i : ℕ) → i < length lists → amounts_at now i ≡ amounts_plus (amounts_at base i) (counted hidden (list_at lists i))
    all_counted n now end at i lt =
        at.each i lt
        ∙ ap (λ (k : ℕ). amounts_plus (amounts_at base i) (tally (first k) hidden (list_at lists i))) (sym end)
        ∙ ap (amounts_plus (amounts_at base i)) (tally_all (first (length boundaries + 1)) hidden (list_at lists i) (λ e. everywhere cmp boundaries cover (user_of e.key)))

    -- and those of one more
    module _ (n : ℕ) (le : n ≤ length boundaries) (range : KeyRange) (is : range ≡ range_at boundaries n) (once : AreOnce (entries_of_lists lists)) (room : (i : ℕ) → i < length lists → HasRoom (amounts_at base i) (length (list_at lists i))) (now new : List Amounts)
        (at : AreCountedTo n now) where
      abbrev own : List (List Entry)
      own = ranged_lists cmp range lists

      abbrev inside : Entry → Bool
      inside e = is_in_range cmp range (user_of e.key)

      step_test : (e : Entry) → one_if (first n e) + one_if (inside e) ≡ one_if (first (suc n) e)
      step_test e = ap (λ (r : KeyRange). one_if (first n e) + one_if (is_in_range cmp r (user_of e.key))) is ∙ apart cmp boundaries cover n le (user_of e.key)

      own_once : AreOnce (entries_of_lists own)
      own_once = subst AreOnce (sym (joined_ranged cmp range lists)) (once_in inside (entries_of_lists lists) once)

      own_room : (i : ℕ) → i < length own → HasRoom (amounts_at now i) (length (list_at own i))
      own_room i lt =
          let es : List Entry = list_at lists i in
          let there : i < length lists = subst (λ (k : ℕ). i < k) (length-map lists (entries_in cmp range)) lt in
          let free = room i there in
          let more : length (list_at own i) ≡ count_by inside es = ap length (ranged_at cmp range lists i) ∙ length-filter inside es in
          let together = ap (λ (a : Amounts). a.entries) (tally_either (first n) inside (first (suc n)) hidden es step_test) in
          let most = count_by-le-length (first (suc n)) es in
          let deletions = part_le (first n) is_deletion_entry es in
          let hid = part_le (first n) hidden es in
          subst (λ (a : Amounts). HasRoom a (length (list_at own i))) (sym (at.each i there)) (record {
            files = omega (arith, free.files);
            bytes = omega (arith, free.bytes);
            entries = omega (arith, free.entries);
            deletions = omega (arith, free.deletions);
            hidden = omega (arith, free.hidden);
          })

      -- what its entries hide
      own_hidden : (i : ℕ) → counted (is_hidden_among last (entries_of_lists own)) (list_at own i) ≡ tally inside hidden (list_at lists i)
      own_hidden i =
          ap (counted (is_hidden_among last (entries_of_lists own))) (ranged_at cmp range lists i)
          ∙ counted_same (is_hidden_among last (entries_of_lists own)) hidden (entries_in cmp range (list_at lists i)) (λ e there.
          ap (λ (es : List Entry). is_hidden_among last es e) (joined_ranged cmp range lists) ∙ hidden_in_range last cmp range (entries_of_lists lists) e (from_filter inside (list_at lists i) e there).1)
          ∙ counted_filter inside hidden (list_at lists i)

      pub range_counted : AreAmountsCounted last own now new → AreCountedTo (n + 1) new
      range_counted counts =
          let have = counts own_once own_room in
          let next : suc n ≡ n + 1 = omega arith in
          subst (λ (k : ℕ). AreCountedTo k new) next (record {
            number = have.number ∙ at.number;
            each = λ i lt.
                let there : i < length own = subst (λ (k : ℕ). i < k) (sym (length-map lists (entries_in cmp range))) lt in
                have.each i there
                ∙ ap (λ (a : Amounts). amounts_plus a (counted (is_hidden_among last (entries_of_lists own)) (list_at own i))) (at.each i lt)
                ∙ ap (amounts_plus (amounts_plus (amounts_at base i) (tally (first n) hidden (list_at lists i)))) (own_hidden i)
                ∙ plus_assoc (amounts_at base i) (tally (first n) hidden (list_at lists i)) (tally inside hidden (list_at lists i))
                ∙ ap (amounts_plus (amounts_at base i)) (tally_either (first n) inside (first (suc n)) hidden (list_at lists i) step_test);
          })

-- ---- the levels

-- one list is no longer than all
part_len : {X : Type 0} (lists : List (List X)) (i : ℕ) → length (get_or lists i []) ≤ length (flat_map (λ (list : List X). list) lists)
part_len [] i = omega arith
part_len (list ∷ lists) zero = let whole = length-append list (flat_map (λ l. l) lists) in omega arith
part_len (list ∷ lists) (suc i) =
    let whole = length-append list (flat_map (λ l. l) lists) in
    let later = part_len lists i in
    omega arith

module _ (cmp : List ℕ → List ℕ → Ordering) (files : Files) (next : Option ℕ) (levels : List (List FileMeta)) (tables : List NumberedContents) (are : AreLevelsIn cmp files next levels tables) where
  abbrev pub base_of : List Amounts
  base_of = map capped_files levels

  abbrev pub lists_of : List (List Entry)
  lists_of = lists_of_levels tables levels

  abbrev level : ℕ → List FileMeta
  level i = get_or levels i []

  base_at : (i : ℕ) → i < length levels → amounts_at base_of i ≡ capped_files (level i)
  base_at i lt = get_or-map capped_files levels i [] no_amounts lt

  lists_at : (i : ℕ) → i < length levels → list_at lists_of i ≡ entries_of_files tables (level i)
  lists_at i lt = get_or-map (entries_of_files tables) levels i [] [] lt

  pub levels_room : (i : ℕ) → i < length lists_of → HasRoom (amounts_at base_of i) (length (list_at lists_of i))
  levels_room i lt =
      let there : i < length levels = subst (λ (n : ℕ). i < n) (length-map levels (entries_of_files tables)) lt in
      let few = are.few in
      let room = are.room in
      let own = part_len levels i in
      let entries = part_len lists_of i in
      let made : HasRoom (capped_files (level i)) (length (list_at lists_of i)) = record {
        files = omega (arith, own, few);
        bytes = omega arith;
        entries = omega (arith, room, entries);
        deletions = omega (arith, room, entries);
        hidden = omega (arith, room, entries);
      } in
      subst (λ (a : Amounts). HasRoom a (length (list_at lists_of i))) (sym (base_at i there)) made

  none_before : (n : ℕ) → 0 + n ≡ n
  none_before n = omega arith

  none_more : (n : ℕ) → n + 0 ≡ n
  none_more n = omega arith

  -- what is told of a level
  abbrev pub told_of : ℕ → List FileMeta → Amounts
  told_of last fs = told_amounts (amounts_of last (all_of_levels tables levels) tables fs)

  level_told : (last : ℕ) (fs : List FileMeta) → amounts_plus (capped_files fs) (counted (is_hidden_among last (entries_of_lists lists_of)) (entries_of_files tables fs)) ≡ told_of last fs
  level_told last fs = same_amounts (amounts_plus (capped_files fs) (counted (is_hidden_among last (entries_of_lists lists_of)) (entries_of_files tables fs))) (told_of last fs) (none_more (length fs)) (none_more (min (sum_by (λ (f : FileMeta). f.size) fs) (2 ^ 64 - 1)))
      (none_before _) (none_before _) (none_before _)

  -- so all levels have what they are said to have
  pub levels_counted : (boundaries : List (List ℕ)) → IsCover cmp boundaries → (last n : ℕ) (now : List Amounts) → length boundaries + 1 ≡ n → AreCountedTo cmp boundaries last lists_of base_of n now → now ≡ map (told_of last) levels
  levels_counted boundaries cover last n now end at =
      let number : length now ≡ length levels = at.number ∙ length-map levels capped_files in
      ext_get_or no_amounts now (map (told_of last) levels) (number ∙ sym (length-map levels (told_of last))) (λ i lt.
      let there : i < length levels = subst (λ (k : ℕ). i < k) number lt in
      all_counted cmp boundaries last lists_of base_of cover n now end at i (subst (λ (k : ℕ). i < k) (sym (length-map levels (entries_of_files tables))) there)
      ∙ ap (λ (a : Amounts). amounts_plus a (counted (is_hidden_among last (entries_of_lists lists_of)) (list_at lists_of i))) (base_at i there)
      ∙ ap (λ (es : List Entry). amounts_plus (capped_files (level i)) (counted (is_hidden_among last (entries_of_lists lists_of)) es)) (lists_at i there)
      ∙ level_told last (level i)
      ∙ sym (get_or-map (told_of last) levels i [] no_amounts there))
