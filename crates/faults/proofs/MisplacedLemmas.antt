-- The misplaced keys of entries, by what each of them is.
use Rattle.std.proofs.Common.{◌≡◌, ℕ, zero, suc, ◌+◌, ◌<◌, ◌≤◌, Bool, true, false, cond, List, [], ◌∷◌, ◌++◌, length, map, Option, Some, None, refl, sym, ap, subst, ◌∙◌, inl, inr, arith, eq-or-lt_of_le}
use Rattle.std.specs.Prelude.{◌⊎◌, Contains}
use Rattle.std.specs.BTreeSet.{insert_key}
use Rattle.std.specs.List.{cons_option, filter, filter_map, fold}
use Rattle.std.specs.Cmp.{IsTotalOrder}
use Rattle.std.specs.Ordering.{match_ordering}
use Rattle.std.specs.declared.cmp.Ordering.{Ordering}
use Rattle.std.specs.declared.cmp.Ordering.TheVariants.{Less, Equal, Greater}
use Rattle.std.proofs.lemmas.List.Elements.{All-from_recursion, Contains-append_cases, Contains-append_left, Contains-append_right}
use Rattle.std.proofs.lemmas.Option.{same_Some}
use Rattle.table.specs.Comparator.{IsExact, KeyOrder}
use Rattle.table.specs.Key.{user_of}
use Rattle.merge.specs.InRange.{is_in_range}
use Rattle.merge.proofs.InRange.{holds_tells}
use Rattle.reads.specs.Ranges.{IsCover, IsIn, KeyRange, range_at}
use Rattle.reads.proofs.FallingEntries.{of_each}
use Rattle.reads.proofs.Members.{first_in, first_or_later, from_filter, in_filter, in_map, later_in, none_in}
use Rattle.reads.proofs.Orders.{not_before_itself}
use Rattle.reads.proofs.Pairs.{Pairs, pairs_append}
use Rattle.faults.specs.VersionFault.{MisplacedKey}
use Rattle.faults.specs.KeyFaults.{SearchedEntry, is_of, misplaced_at, misplaced_keys, users_of}
use Rattle.faults.specs.KeyWalk.{AreMisplacedIn}
use Rattle.faults.specs.RangeKeys.{keys_from, keys_in}
use Rattle.faults.specs.FaultLaws.{AreMisplaced}
use Rattle.faults.proofs.FileLists.{put_pairs}
use Rattle.faults.proofs.KeySteps.{IsEarlier, misplaced_entry, misplaced_user, of_pairs, rising_pairs}
use Rattle.faults.proofs.UserEntries.{of_user}

pub pairs_filter : {X : Type 0} (R : X → X → Type 0) (p : X → Bool) (xs : List X) → Pairs R xs → Pairs R (filter p xs)
pairs_filter R p [] h = tt
pairs_filter {X = X} R p (x ∷ xs) h = by (p x) (pairs_filter R p xs h.1)
  where
    by : (b : Bool) → Pairs R (filter p xs) → Pairs R (cond b (x ∷ filter p xs) (filter p xs))
    by true rest = (λ y at. h.0 y (from_filter p xs y at).0, rest)
    by false rest = rest

-- every user key
abbrev pub Any : List ℕ → Type 0
Any user = Unit {0}

module _ (cmp : KeyOrder) (total : IsTotalOrder cmp) (exact : IsExact cmp) (entries : List SearchedEntry) where
  -- ---- keys that were put in at their places

  kept_compared : (x : List ℕ) (xs : List (List ℕ)) (k q : List ℕ) → (Contains (x ∷ xs) q ⊎ (q ≡ k)) → (Contains xs q ⊎ (q ≡ k) → Contains (insert_key cmp xs k) q) → (o : Ordering) → cmp k x ≡ o → Contains (match_ordering o (k ∷ x ∷ xs) (x ∷ xs) (x ∷ insert_key cmp xs k)) q
  kept_compared x xs k q (inl at) rest Less e = later_in k (x ∷ xs) q at
  kept_compared x xs k q (inr same) rest Less e = subst (Contains (k ∷ x ∷ xs)) (sym same) (first_in k (x ∷ xs))
  kept_compared x xs k q (inl at) rest Equal e = at
  kept_compared x xs k q (inr same) rest Equal e = subst (Contains (x ∷ xs)) (sym (same ∙ exact k x e)) (first_in x xs)
  kept_compared x xs k q (inl at) rest Greater e =
      elim (first_or_later x xs q at) [
        | inl same ↦ subst (Contains (x ∷ insert_key cmp xs k)) (sym same) (first_in x (insert_key cmp xs k))
        | inr later ↦ later_in x (insert_key cmp xs k) q (rest (inl later))
      ]
  kept_compared x xs k q (inr same) rest Greater e = later_in x (insert_key cmp xs k) q (rest (inr same))

  kept_put : (ks : List (List ℕ)) (k q : List ℕ) → Contains ks q ⊎ (q ≡ k) → Contains (insert_key cmp ks k) q
  kept_put [] k q (inl at) = absurd (none_in q at)
  kept_put [] k q (inr same) = subst (Contains (k ∷ [])) (sym same) (first_in k [])
  kept_put (x ∷ xs) k q h = kept_compared x xs k q h (kept_put xs k q) (cmp k x) refl

  kept_all : (done ks : List (List ℕ)) (q : List ℕ) → Contains done q ⊎ Contains ks q → Contains (fold (insert_key cmp) done ks) q
  kept_all done [] q (inl at) = at
  kept_all done [] q (inr at) = absurd (none_in q at)
  kept_all done (k ∷ ks) q (inl at) = kept_all (insert_key cmp done k) ks q (inl (kept_put done k q (inl at)))
  kept_all done (k ∷ ks) q (inr at) =
      elim (first_or_later k ks q at) [
        | inl same ↦ kept_all (insert_key cmp done k) ks q (inl (kept_put done k q (inr same)))
        | inr later ↦ kept_all (insert_key cmp done k) ks q (inr later)
      ]

  user_there : (e : SearchedEntry) → Contains entries e → Contains (users_of cmp entries) (user_of e.key)
  user_there e at = kept_all [] (map (λ (x : SearchedEntry). user_of x.key) entries) (user_of e.key) (inr (in_map (λ (x : SearchedEntry). user_of x.key) entries e at))

  abbrev Rises : List (List ℕ) → Type 0
  Rises users = Pairs (λ (a b : List ℕ). cmp a b ≡ Less) users

  users_rise : Rises (users_of cmp entries)
  users_rise = put_pairs cmp total (map (λ (x : SearchedEntry). user_of x.key) entries)

  -- ---- the keys among these

  abbrev keys_of : List (List ℕ) → List MisplacedKey
  keys_of users = filter_map (misplaced_at entries) users

  record IsKeyOf (users : List (List ℕ)) (k : MisplacedKey) : Type 0 where
    user : List ℕ
    there : Contains users user
    is : misplaced_at entries user ≡ Some k

  key_from : (users : List (List ℕ)) (k : MisplacedKey) → Contains (keys_of users) k → IsKeyOf users k
  key_from [] k at = absurd (none_in k at)
  key_from (u ∷ us) k at = by (misplaced_at entries u) refl at (λ i. key_from us k i)
    where
      later : IsKeyOf us k → IsKeyOf (u ∷ us) k
      later h = record { user = h.user; there = later_in u us h.user h.there; is = h.is }

      by : (o : Option MisplacedKey) → misplaced_at entries u ≡ o → Contains (cons_option o (keys_of us)) k → (Contains (keys_of us) k → IsKeyOf us k) → IsKeyOf (u ∷ us) k
      by None e at rest = later (rest at)
      by (Some j) e at rest = elim (first_or_later j (keys_of us) k at) [
        | inl same ↦ record { user = u; there = first_in u us; is = e ∙ ap (λ (x : MisplacedKey). Some x) (sym same) }
        | inr after ↦ later (rest after)
      ]

  in_keys : (users : List (List ℕ)) (u : List ℕ) (k : MisplacedKey) → Contains users u → misplaced_at entries u ≡ Some k → Contains (keys_of users) k
  in_keys [] u k at is = absurd (none_in u at)
  in_keys (w ∷ us) u k at is = by (misplaced_at entries w) refl (first_or_later w us u at) (λ i. in_keys us u k i is)
    where
      by : (o : Option MisplacedKey) → misplaced_at entries w ≡ o → (u ≡ w) ⊎ Contains us u → (Contains us u → Contains (keys_of us) k) → Contains (cons_option o (keys_of us)) k
      by None e (inl same) rest = let both : None ≡ Some k = sym e ∙ sym (ap (misplaced_at entries) same) ∙ is in absurd cc
      by (Some j) e (inl same) rest =
          let one : j ≡ k = same_Some j k (sym e ∙ sym (ap (misplaced_at entries) same) ∙ is) in
          subst (Contains (j ∷ keys_of us)) one (first_in j (keys_of us))
      by None e (inr later) rest = rest later
      by (Some j) e (inr later) rest = later_in j (keys_of us) k (rest later)

  keys_rise : (users : List (List ℕ)) → Rises users → Pairs (IsEarlier cmp) (keys_of users)
  keys_rise [] h = tt
  keys_rise (u ∷ us) h = by (misplaced_at entries u) refl (keys_rise us h.1)
    where
      by : (o : Option MisplacedKey) → misplaced_at entries u ≡ o → Pairs (IsEarlier cmp) (keys_of us) → Pairs (IsEarlier cmp) (cons_option o (keys_of us))
      by None e rest = rest
      by (Some j) e rest = (
        λ k at.
            let from = key_from us k at in
            let own : j.user ≡ u = misplaced_user entries u j e in
            let its : k.user ≡ from.user = misplaced_user entries from.user k from.is in
            subst (λ (x : List ℕ). cmp x k.user ≡ Less) (sym own) (subst (λ (x : List ℕ). cmp u x ≡ Less) (sym its) (h.0 from.user from.there)),
        rest,
      )

  -- all keys that are misplaced
  pub all_misplaced : AreMisplacedIn cmp Any entries (misplaced_keys cmp entries)
  all_misplaced = record {
    rising = of_pairs cmp (keys_of (users_of cmp entries)) (keys_rise (users_of cmp entries) users_rise);
    each = λ k at.
        let from = key_from (users_of cmp entries) k at in
        (tt, ap (misplaced_at entries) (misplaced_user entries from.user k from.is) ∙ from.is);
    all = λ user k any is.
        let has = misplaced_entry entries user k is in
        let here = from_filter (is_of user) entries has.0 has.1 in
        in_keys (users_of cmp entries) user k (subst (Contains (users_of cmp entries)) (of_user user has.0 here.1) (user_there has.0 here.0)) is;
  }

  -- ---- one list

  abbrev Rise : List MisplacedKey → Type 0
  Rise keys = Pairs (IsEarlier cmp) keys

  both_earlier : (j k : MisplacedKey) → IsEarlier cmp j k → IsEarlier cmp k j → ⊥
  both_earlier j k a b = not_before_itself cmp total j.user (total.trans j.user k.user j.user a b)

  first_same : (x y : MisplacedKey) (xs ys : List MisplacedKey) → Rise (x ∷ xs) → Rise (y ∷ ys) → (x ≡ y) ⊎ Contains ys x → (y ≡ x) ⊎ Contains xs y → x ≡ y
  first_same x y xs ys rx ry (inl same) other = same
  first_same x y xs ys rx ry (inr later) (inl same) = sym same
  first_same x y xs ys rx ry (inr later) (inr also) = absurd (both_earlier x y (rx.0 y also) (ry.0 x later))

  later_too : (x y : MisplacedKey) (xs ys : List MisplacedKey) → x ≡ y → Rise (x ∷ xs) → ((k : MisplacedKey) → Contains (x ∷ xs) k → Contains (y ∷ ys) k) → (k : MisplacedKey) → Contains xs k → Contains ys k
  later_too x y xs ys same rise to k at = by (first_or_later y ys k (to k (later_in x xs k at)))
    where
      by : (k ≡ y) ⊎ Contains ys k → Contains ys k
      by (inl is) =
          let own : IsEarlier cmp x x = subst (IsEarlier cmp x) (is ∙ sym same) (rise.0 k at) in
          absurd (both_earlier x x own own)
      by (inr later) = later

  same_keys : (xs ys : List MisplacedKey) → Rise xs → Rise ys → ((k : MisplacedKey) → Contains xs k → Contains ys k) → ((k : MisplacedKey) → Contains ys k → Contains xs k) → xs ≡ ys
  same_keys [] [] rx ry to back = refl
  same_keys [] (y ∷ ys) rx ry to back = absurd (none_in y (back y (first_in y ys)))
  same_keys (x ∷ xs) [] rx ry to back = absurd (none_in x (to x (first_in x xs)))
  same_keys (x ∷ xs) (y ∷ ys) rx ry to back =
      let same : x ≡ y = first_same x y xs ys rx ry (first_or_later y ys x (to x (first_in x xs))) (first_or_later x xs y (back y (first_in y ys))) in
      let rest : xs ≡ ys = same_keys xs ys rx.1 ry.1 (later_too x y xs ys same rx to) (later_too y x ys xs (sym same) ry back) in
      ap (λ (k : MisplacedKey). k ∷ xs) same ∙ ap (λ (ks : List MisplacedKey). y ∷ ks) rest

  module _ (P : List ℕ → Type 0) where
    into : (keys others : List MisplacedKey) → AreMisplacedIn cmp P entries keys → AreMisplacedIn cmp P entries others → (k : MisplacedKey) → Contains keys k → Contains others k
    into keys others are also k at = let own = are.each k at in also.all k.user k own.0 own.1

    pub one_list : (keys others : List MisplacedKey) → AreMisplacedIn cmp P entries keys → AreMisplacedIn cmp P entries others → keys ≡ others
    one_list keys others are also = same_keys keys others (rising_pairs cmp keys P entries are) (rising_pairs cmp others P entries also) (into keys others are also) (into others keys also are)

  -- ---- the keys of ranges

  part_keys : (range : KeyRange) (keys : List MisplacedKey) → AreMisplacedIn cmp Any entries keys → AreMisplacedIn cmp (IsIn cmp range) entries (keys_in cmp range keys)
  part_keys range keys are = record {
    rising = of_pairs cmp (keys_in cmp range keys) (pairs_filter (IsEarlier cmp) (λ (k : MisplacedKey). is_in_range cmp range k.user) keys (rising_pairs cmp keys Any entries are));
    each = λ k at.
        let from = from_filter (λ (j : MisplacedKey). is_in_range cmp range j.user) keys k at in
        ((holds_tells cmp range k.user).0 from.1, (are.each k from.0).1);
    all = λ user k within is.
        let own : k.user ≡ user = misplaced_user entries user k is in
        in_filter (λ (j : MisplacedKey). is_in_range cmp range j.user) keys k ((holds_tells cmp range k.user).1 (subst (IsIn cmp range) (sym own) within)) (are.all user k tt is);
  }

  -- what a range has is its part of all
  pub part_is : (range : KeyRange) (own : List MisplacedKey) → AreMisplacedIn cmp (IsIn cmp range) entries own → own ≡ keys_in cmp range (misplaced_keys cmp entries)
  part_is range own are = one_list (IsIn cmp range) own (keys_in cmp range (misplaced_keys cmp entries)) are (part_keys range (misplaced_keys cmp entries) all_misplaced)

  keys_append : (P Q : List ℕ → Type 0) (xs ys : List MisplacedKey) → AreMisplacedIn cmp P entries xs → AreMisplacedIn cmp Q entries ys → ((user later : List ℕ) → P user → Q later → cmp user later ≡ Less)
      → AreMisplacedIn cmp (λ user. P user ⊎ Q user) entries (xs ++ ys)
  keys_append P Q xs ys one two order = record {
    rising = of_pairs cmp (xs ++ ys) (pairs_append (IsEarlier cmp) xs ys (rising_pairs cmp xs P entries one) (rising_pairs cmp ys Q entries two) (λ j k at also. order j.user k.user (one.each j at).0 (two.each k also).0));
    each = λ k at. elim (Contains-append_cases xs ys k at) [
      | inl here ↦ let h = one.each k here in (inl h.0, h.1)
      | inr later ↦ let h = two.each k later in (inr h.0, h.1)
    ];
    all = λ user k either is. by user k is either;
  }
    where
      by : (user : List ℕ) (k : MisplacedKey) → misplaced_at entries user ≡ Some k → P user ⊎ Q user → Contains (xs ++ ys) k
      by user k is (inl p) = Contains-append_left xs ys k (one.all user k p is)
      by user k is (inr q) = Contains-append_right xs ys k (two.all user k q is)

  keys_same : (P Q : List ℕ → Type 0) (keys : List MisplacedKey) → ((user : List ℕ) → P user → Q user) → ((user : List ℕ) → Q user → P user) → AreMisplacedIn cmp P entries keys → AreMisplacedIn cmp Q entries keys
  keys_same P Q keys to back are = record {
    rising = are.rising;
    each = λ k at. let own = are.each k at in (to k.user own.0, own.1);
    all = λ user k q is. are.all user k (back user q) is;
  }

  module _ (boundaries : List (List ℕ)) (cover : IsCover cmp boundaries) where
    -- a user key in one of n ranges, from the i-th on
    record IsInSome (i n : ℕ) (user : List ℕ) : Type 0 where
      number : ℕ
      low : i ≤ number
      high : number < i + n
      there : IsIn cmp (range_at boundaries number) user

    some_in : (i n : ℕ) (user : List ℕ) → IsIn cmp (range_at boundaries i) user ⊎ IsInSome (suc i) n user → IsInSome i (suc n) user
    some_in i n user (inl here) = record { number = i; low = omega arith; high = omega arith; there = here }
    some_in i n user (inr later) = record { number = later.number; low = omega (arith, later.low); high = omega (arith, later.high); there = later.there }

    in_some : (i n : ℕ) (user : List ℕ) → IsInSome i (suc n) user → IsIn cmp (range_at boundaries i) user ⊎ IsInSome (suc i) n user
    in_some i n user h = elim (eq-or-lt_of_le h.low) [
      | inl same ↦ inl (subst (λ (k : ℕ). IsIn cmp (range_at boundaries k) user) (sym same) h.there)
      | inr later ↦ inr (record { number = h.number; low = below i h.number later; high = moved i n h.number h.high; there = h.there })
    ]
      where
        below : (i k : ℕ) → i < k → suc i ≤ k
        below i k lt = omega arith

        moved : (i n k : ℕ) → k < i + suc n → k < suc i + n
        moved i n k lt = omega arith

    few : (i n k : ℕ) → k < suc i + n → i + suc n ≤ length boundaries + 1 → k ≤ length boundaries
    few i n k lt le = omega arith

    keys_of_some : (i n : ℕ) → i + n ≤ length boundaries + 1 → AreMisplacedIn cmp (IsInSome i n) entries (keys_from cmp boundaries (misplaced_keys cmp entries) i n)
    keys_of_some i zero le = record {
      rising = λ j k d lt below. absurd (omega arith);
      each = λ k at. absurd (none_in k at);
      all = λ user k h is. absurd (omega (arith, h.low, h.high));
    }
    keys_of_some i (suc n) le =
        keys_same (λ user. IsIn cmp (range_at boundaries i) user ⊎ IsInSome (suc i) n user) (IsInSome i (suc n)) (keys_from cmp boundaries (misplaced_keys cmp entries) i (suc n)) (some_in i n) (in_some i n)
        (keys_append (IsIn cmp (range_at boundaries i)) (IsInSome (suc i) n) (keys_in cmp (range_at boundaries i) (misplaced_keys cmp entries)) (keys_from cmp boundaries (misplaced_keys cmp entries) (suc i) n)
        (part_keys (range_at boundaries i) (misplaced_keys cmp entries) all_misplaced) (keys_of_some (suc i) n (omega (arith, le)))
        (λ user later here there. cover.in_order i there.number user later (omega (arith, there.low)) (few i n there.number there.high le) here there.there))

    everywhere : (user : List ℕ) → IsInSome 0 (length boundaries + 1) user
    everywhere user =
        let one = cover.each_once user in
        record { number = one.number; low = omega arith; high = below one.number one.below; there = one.within }
      where
        below : (k : ℕ) → k ≤ length boundaries → k < 0 + (length boundaries + 1)
        below k le = omega arith

    -- the keys of all ranges are all
    pub ranges_are : keys_from cmp boundaries (misplaced_keys cmp entries) 0 (length boundaries + 1) ≡ misplaced_keys cmp entries
    ranges_are =
        let keys : List MisplacedKey = keys_from cmp boundaries (misplaced_keys cmp entries) 0 (length boundaries + 1) in
        one_list Any keys (misplaced_keys cmp entries) (keys_same (IsInSome 0 (length boundaries + 1)) Any keys (λ user h. tt) (λ user any. everywhere user) (keys_of_some 0 (length boundaries + 1) (omega arith))) all_misplaced

  pub are_misplaced : AreMisplaced cmp entries (misplaced_keys cmp entries)
  are_misplaced = record {
    rising = all_misplaced.rising;
    each = All-from_recursion (λ (k : MisplacedKey). misplaced_at entries k.user ≡ Some k) (misplaced_keys cmp entries)
        (of_each (λ (k : MisplacedKey). misplaced_at entries k.user ≡ Some k) (misplaced_keys cmp entries) (λ k at. (all_misplaced.each k at).1));
    all = λ user k is. all_misplaced.all user k tt is;
  }
