-- The rows of the files of a lawful version are the rows of the version.
use Rattle.std.proofs.Common.{◌≡◌, ℕ, zero, suc, ◌+◌, ◌<◌, ◌≤◌, Bool, true, List, [], ◌++◌, length, map, get_or, Option, Some, None, sym, subst, ◌∙◌, inl, inr, arith, eq-or-lt_of_le}
use Rattle.std.specs.Prelude.{◌⊎◌, Contains}
use Rattle.std.specs.Cmp.{IsTotalOrder}
use Rattle.std.specs.declared.cmp.Ordering.{Ordering}
use Rattle.std.specs.declared.cmp.Ordering.TheVariants.{Less}
use Rattle.std.proofs.lemmas.List.Elements.{Contains-append_cases, Contains-append_left, Contains-append_right, Contains-get_or}
use Rattle.table.specs.Comparator.{IsExact}
use Rattle.table.specs.Key.{user_of}
use Rattle.block.specs.EncodedEntry.{Entry}
use Rattle.table.specs.EntriesFrom.{NeverFalls}
use Rattle.merge.specs.MergedLists.{entries_of_lists, sorted_entries}
use Rattle.merge.proofs.SortedEntries.{sorted_never_falls}
use Rattle.reads.specs.Ranges.{IsCover, IsIn, KeyRange, range_at}
use Rattle.folder.specs.Version.{State}
use Rattle.folder.specs.meta.FileMeta.{FileMeta}
use Rattle.merge.specs.InRange.{entries_in, is_in_range}
use Rattle.merge.proofs.InRange.{holds_tells}
use Rattle.reads.specs.Gets.{get_of}
use Rattle.reads.specs.NewestFirst.{AreThoseOf}
use Rattle.reads.specs.TableOrder.{AreAllAdded, AreStandingFiles, IsNewer, lists_of_files}
use Rattle.reads.specs.Lawful.{AreDistinct, IsLawful}
use Rattle.reads.specs.Tables.{NumberedContents, all_entries}
use Rattle.reads.proofs.FallingEntries.{answers_newest_first}
use Rattle.reads.proofs.Members.{from_filter, in_filter, none_in}
use Rattle.reads.proofs.Pairs.{Pairs, pairs_append, pairs_from, pairs_map, pairs_to, pairs_weaker}
use Rattle.checks.specs.RangeOrder.{common_of}
use Rattle.checks.proofs.CommonRanges.{common_in, in_common}
use Rattle.scan.specs.Row.{Row}
use Rattle.scan.specs.Rows.{AreRows}
use Rattle.scan.specs.EntryRows.{file_rows, rows_after, rows_from}
use Rattle.scan.proofs.EntryAnswers.{IsBelow, all_rows, answer_of, each_row, is_of, of_user, own, rising_rows, user_is}
use Rattle.scan.proofs.SortedNewer.{distinct_filter, from_sorted, in_sorted, newer_sorted, own_fall, newer_distinct}
use Rattle.scan.proofs.VersionFiles.{from_standing, to_standing}

-- ---- rows of a kind of user keys

-- these are the rows of the user keys of a kind, by what each answers
pub record AreRowsOf (cmp : List ℕ → List ℕ → Ordering) (P : List ℕ → Type 0) (answers : List ℕ → Option (List ℕ)) (rows : List Row) : Type 0 where
  pub rising : Pairs (IsBelow cmp) rows
  pub each : (r : Row) → Contains rows r → P r.key × (answers r.key ≡ Some r.value)
  pub all : (key value : List ℕ) → P key → answers key ≡ Some value → Contains rows (record { key = key; value = value })

module _ (cmp : List ℕ → List ℕ → Ordering) (answers : List ℕ → Option (List ℕ)) where
  -- of no user key
  rows_none : (P : List ℕ → Type 0) → ((key : List ℕ) → P key → ⊥) → AreRowsOf cmp P answers []
  rows_none P never = record { rising = tt; each = λ r at. absurd (none_in r at); all = λ key value own_key answered. absurd (never key own_key) }

  -- of one kind or another, of which the first comes before the second
  rows_append : (P Q : List ℕ → Type 0) (xs ys : List Row) → AreRowsOf cmp P answers xs → AreRowsOf cmp Q answers ys → ((key later : List ℕ) → P key → Q later → cmp key later ≡ Less) → AreRowsOf cmp (λ key. P key ⊎ Q key) answers (xs ++ ys)
  rows_append P Q xs ys one two order = record {
    rising = pairs_append (IsBelow cmp) xs ys one.rising two.rising (λ r s i j. order r.key s.key (one.each r i).0 (two.each s j).0);
    each = λ r at. elim (Contains-append_cases xs ys r at) [
      | inl here ↦ let h = one.each r here in (inl h.0, h.1)
      | inr later ↦ let h = two.each r later in (inr h.0, h.1)
    ];
    all = λ key value own_key answered. by key value answered own_key;
  }
    where
      by : (key value : List ℕ) → answers key ≡ Some value → P key ⊎ Q key → Contains (xs ++ ys) (record { key = key; value = value })
      by key value answered (inl p) = Contains-append_left xs ys (record { key = key; value = value }) (one.all key value p answered)
      by key value answered (inr q) = Contains-append_right xs ys (record { key = key; value = value }) (two.all key value q answered)

  -- the same kind in other words
  rows_same : (P Q : List ℕ → Type 0) (rows : List Row) → ((key : List ℕ) → P key → Q key) → ((key : List ℕ) → Q key → P key) → AreRowsOf cmp P answers rows → AreRowsOf cmp Q answers rows
  rows_same P Q rows to back h = record {
    rising = h.rising;
    each = λ r at. let own_row = h.each r at in (to r.key own_row.0, own_row.1);
    all = λ key value own_key answered. h.all key value (back key own_key) answered;
  }

-- ---- one range

module _ (cmp : List ℕ → List ℕ → Ordering) (total : IsTotalOrder cmp) (exact : IsExact cmp) (v : State) (tables : List NumberedContents) (at : ℕ) where
  abbrev get : List ℕ → Option (List ℕ)
  get user = get_of v tables user at

  -- the entries of the version in some order, of which no two have one user key and one sequence
  module _ (all : List Entry) (into : (e : Entry) → Contains (all_entries tables v.files) e → Contains all e) (back : (e : Entry) → Contains all e → Contains (all_entries tables v.files) e) (distinct : Pairs AreDistinct all) (range : KeyRange) where
    abbrev inside : Entry → Bool
    inside e = is_in_range cmp range (user_of e.key)

    abbrev sorted : List Entry
    sorted = sorted_entries cmp (entries_in cmp range all)

    newer : Pairs IsNewer sorted
    newer = newer_sorted cmp total (entries_in cmp range all) (distinct_filter inside all distinct)

    -- the entries of a user key of the range
    those : (user : List ℕ) → IsIn cmp range user → AreThoseOf user (all_entries tables v.files) (own at user sorted)
    those user within = record {
      each = λ e there same.
          let is_inside : inside e ≡ true = (holds_tells cmp range (user_of e.key)).1 (subst (IsIn cmp range) (sym same) within) in
          in_filter (is_of user) sorted e (user_is user e same) (in_sorted cmp (entries_in cmp range all) e (in_filter inside all e is_inside (into e there)));
      only = λ e there.
          let mine = from_filter (is_of user) sorted e there in
          let ranged = from_filter inside all e (from_sorted cmp (entries_in cmp range all) e mine.0) in
          (back e ranged.0, of_user user e mine.1);
    }

    answered : (user : List ℕ) → IsIn cmp range user → get user ≡ answer_of at user sorted
    answered user within = answers_newest_first v tables user (own at user sorted) at (those user within) (own_fall user sorted newer)

    within_of : (e : Entry) → Contains sorted e → IsIn cmp range (user_of e.key)
    within_of e there = (holds_tells cmp range (user_of e.key)).0 (from_filter inside all e (from_sorted cmp (entries_in cmp range all) e there)).1

    falls : NeverFalls cmp sorted
    falls = sorted_never_falls cmp total (entries_in cmp range all)

    pub range_rows : AreRowsOf cmp (IsIn cmp range) get (rows_after at None sorted)
    range_rows = record {
      rising = rising_rows cmp total exact at None sorted falls (λ f there. tt);
      each = λ r there.
          let row = (each_row cmp total exact at None sorted falls (λ f there. tt) r there).1 in
          let within : IsIn cmp range r.key = subst (IsIn cmp range) row.own_key (within_of row.entry row.there) in
          (within, answered r.key within ∙ row.answer);
      all = λ key value within got. all_rows cmp total exact at None sorted key value tt (sym (answered key within) ∙ got);
    }

  -- rows of the user keys of a range
  are_rows : (range : KeyRange) (rows : List Row) → AreRowsOf cmp (IsIn cmp range) get rows → AreRows cmp v tables range at rows
  are_rows range rows are = record {
    rising = pairs_to (λ key later. cmp key later ≡ Less) (map (λ (r : Row). r.key) rows) (pairs_map (λ key later. cmp key later ≡ Less) (λ (r : Row). r.key) rows are.rising);
    each = λ k d lt. are.each (get_or rows k d) (Contains-get_or rows k d lt);
    all = are.all;
  }

  -- a lawful version has rows
  pub some_rows : IsLawful cmp v tables → (range : KeyRange) → (rows : List Row) × AreRows cmp v tables range at rows
  some_rows lawful range =
      let all : List Entry = all_entries tables v.files in
      let rows : List Row = rows_after at None (sorted_entries cmp (entries_in cmp range all)) in
      (rows, are_rows range rows (range_rows all (λ e there. there) (λ e there. there) (pairs_from AreDistinct all lawful.sequences_once) range))

  -- ---- all ranges

  module _ (standing : List FileMeta) (stand : AreStandingFiles cmp v standing) (added : AreAllAdded cmp v) (lawful : IsLawful cmp v tables) (range : KeyRange) (boundaries : List (List ℕ)) (cover : IsCover cmp boundaries) where
    abbrev joined : List Entry
    joined = entries_of_lists (lists_of_files tables standing)

    distinct : Pairs AreDistinct joined
    distinct =
        let falls = ((stand.lawful tables).0 lawful).1 in
        pairs_weaker IsNewer AreDistinct newer_distinct joined (pairs_from IsNewer joined falls.newer)

    -- a user key in what the range has of n ranges from the i-th on
    pub record IsInSome (i n : ℕ) (key : List ℕ) : Type 0 where
      pub number : ℕ
      pub low : i ≤ number
      pub high : number < i + n
      pub within : IsIn cmp range key
      pub there : IsIn cmp (range_at boundaries number) key

    abbrev part : ℕ → KeyRange
    part i = common_of cmp range (range_at boundaries i)

    part_rows : (i : ℕ) → AreRowsOf cmp (IsIn cmp (part i)) get (file_rows cmp tables standing at (part i))
    part_rows i =
        range_rows joined (to_standing cmp total v standing tables stand.permutation added) (from_standing cmp total v standing tables stand.permutation added) distinct (part i)

    some_in : (i n : ℕ) (key : List ℕ) → IsIn cmp (part i) key ⊎ IsInSome (suc i) n key → IsInSome i (suc n) key
    some_in i n key (inl here) =
        let both = in_common cmp total range (range_at boundaries i) key here in
        record { number = i; low = omega arith; high = omega arith; within = both.0; there = both.1 }
    some_in i n key (inr later) = record { number = later.number; low = omega (arith, later.low); high = omega (arith, later.high); within = later.within; there = later.there }

    in_some : (i n : ℕ) (key : List ℕ) → IsInSome i (suc n) key → IsIn cmp (part i) key ⊎ IsInSome (suc i) n key
    in_some i n key h = elim (eq-or-lt_of_le h.low) [
      | inl same ↦ inl (common_in cmp total range (range_at boundaries i) key (h.within, subst (λ (k : ℕ). IsIn cmp (range_at boundaries k) key) (sym same) h.there))
      | inr later ↦ inr (record { number = h.number; low = below i h.number later; high = moved i n h.number h.high; within = h.within; there = h.there })
    ]
      where
        below : (i k : ℕ) → i < k → suc i ≤ k
        below i k lt = omega arith

        moved : (i n k : ℕ) → k < i + suc n → k < suc i + n
        moved i n k lt = omega arith

    rows_of_some : (i n : ℕ) → i + n ≤ length boundaries + 1 → AreRowsOf cmp (IsInSome i n) get (rows_from (file_rows cmp tables standing at) cmp range boundaries i n)
    rows_of_some i zero le = rows_none cmp get (IsInSome i zero) (λ key h. absurd (omega (arith, h.low, h.high)))
    rows_of_some i (suc n) le =
        rows_same cmp get (λ key. IsIn cmp (part i) key ⊎ IsInSome (suc i) n key) (IsInSome i (suc n)) (rows_from (file_rows cmp tables standing at) cmp range boundaries i (suc n)) (some_in i n) (in_some i n)
        (rows_append cmp get (IsIn cmp (part i)) (IsInSome (suc i) n) (file_rows cmp tables standing at (part i)) (rows_from (file_rows cmp tables standing at) cmp range boundaries (suc i) n)
        (part_rows i) (rows_of_some (suc i) n (omega (arith, le)))
        (λ key later here there. cover.in_order i there.number key later (omega (arith, there.low)) (few i n there.number there.high le) (in_common cmp total range (range_at boundaries i) key here).1 there.there))
      where
        few : (i n k : ℕ) → k < suc i + n → i + suc n ≤ length boundaries + 1 → k ≤ length boundaries
        few i n k lt le = omega arith

    everywhere : (key : List ℕ) → IsIn cmp range key → IsInSome 0 (length boundaries + 1) key
    everywhere key within =
        let one = cover.each_once key in
        record { number = one.number; low = omega arith; high = below one.number one.below; within = within; there = one.within }
      where
        below : (k : ℕ) → k ≤ length boundaries → k < 0 + (length boundaries + 1)
        below k le = omega arith

    pub version_rows : AreRows cmp v tables range at (rows_from (file_rows cmp tables standing at) cmp range boundaries 0 (length boundaries + 1))
    version_rows =
        let rows : List Row = rows_from (file_rows cmp tables standing at) cmp range boundaries 0 (length boundaries + 1) in
        are_rows range rows (rows_same cmp get (IsInSome 0 (length boundaries + 1)) (IsIn cmp range) rows (λ key h. h.within) everywhere (rows_of_some 0 (length boundaries + 1) (omega arith)))
