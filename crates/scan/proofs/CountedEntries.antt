-- Entries that are counted.
use Rattle.std.proofs.Common.{◌≡◌, ◌≤◌, ◌+◌, ℕ, suc, Bool, true, false, cond, List, [], ◌∷◌, ◌++◌, length, get_or, refl, sym, ap, ◌∙◌, arith}
use Rattle.std.specs.Prelude.{◌&&◌, Contains, filter}
use Rattle.std.specs.List.{count_by}
use Rattle.std.specs.Ordering.{is_lt}
use Rattle.std.specs.declared.cmp.Ordering.{Ordering}
use Rattle.std.proofs.lemmas.List.Sums.{get_or-le-sum_by, sum_by-append, sum_by-cons}
use Rattle.std.proofs.Math.Bool.{and-true}
use Rattle.table.specs.Key.{kind_of}
use Rattle.table.specs.Order.{internal_cmp}
use Rattle.block.specs.EncodedEntry.{Entry}
use Rattle.merge.specs.MergedLists.{entries_with, sorted_entries}
use Rattle.reads.proofs.Members.{first_in, later_in}
use Rattle.scan.specs.Counts.{counted, entry_amounts}
use Rattle.scan.specs.HiddenEntries.{is_deletion_entry}
use Rattle.scan.specs.Stats.{amounts_plus}
use Rattle.scan.specs.declared.amounts.Amounts.{Amounts}
use Rattle.scan.proofs.AmountSums.{same_amounts}

-- ---- how many pass a test

abbrev pub one_if : Bool → ℕ
one_if b = cond b 1 0

none_before : (n : ℕ) → n ≡ 0 + n
none_before n = omega arith

module _ {X : Type 0} where
  abbrev ones : (X → Bool) → X → ℕ
  ones p x = one_if (p x)

  pub count_cons : (p : X → Bool) (x : X) (xs : List X) → count_by p (x ∷ xs) ≡ one_if (p x) + count_by p xs
  count_cons p x xs = sum_by-cons (ones p) x xs

  pub count_append : (p : X → Bool) (xs ys : List X) → count_by p (xs ++ ys) ≡ count_by p xs + count_by p ys
  count_append p xs ys = sum_by-append (ones p) xs ys

  pub count_middle : (p : X → Bool) (front : List X) (x : X) (behind : List X) → count_by p (front ++ x ∷ behind) ≡ one_if (p x) + count_by p (front ++ behind)
  count_middle p front x behind =
      let whole = count_append p front (x ∷ behind) in
      let rest = count_cons p x behind in
      let less = count_append p front behind in
      omega arith

  -- two tests that agree on the elements
  pub count_same : (p q : X → Bool) (xs : List X) → ((x : X) → Contains xs x → p x ≡ q x) → count_by p xs ≡ count_by q xs
  count_same p q [] same = refl
  count_same p q (x ∷ xs) same =
      count_cons p x xs
      ∙ ap (λ (b : Bool). one_if b + count_by p xs) (same x (first_in x xs))
      ∙ ap (λ (n : ℕ). one_if (q x) + n) (count_same p q xs (λ y at. same y (later_in x xs y at)))
      ∙ sym (count_cons q x xs)

  -- those that pass another test
  pub count_filter : (p q : X → Bool) (xs : List X) → count_by q (filter p xs) ≡ count_by (λ x. p x && q x) xs
  count_filter p q [] = refl
  count_filter p q (x ∷ xs) = by (p x) (count_filter p q xs) ∙ sym (count_cons (λ y. p y && q y) x xs)
    where
      by : (b : Bool) → count_by q (filter p xs) ≡ count_by (λ y. p y && q y) xs → count_by q (cond b (x ∷ filter p xs) (filter p xs)) ≡ one_if (b && q x) + count_by (λ y. p y && q y) xs
      by true rest = count_cons q x (filter p xs) ∙ ap (λ (n : ℕ). one_if (q x) + n) rest
      by false rest = rest ∙ none_before (count_by (λ y. p y && q y) xs)

  -- a test that is one of two others, of which no element passes both
  pub count_either : (p q r : X → Bool) (xs : List X) → ((x : X) → Contains xs x → one_if (p x) + one_if (q x) ≡ one_if (r x)) → count_by p xs + count_by q xs ≡ count_by r xs
  count_either p q r [] each = refl
  count_either p q r (x ∷ xs) each =
      let own = each x (first_in x xs) in
      let rest = count_either p q r xs (λ y at. each y (later_in x xs y at)) in
      let one = count_cons p x xs in
      let two = count_cons q x xs in
      let three = count_cons r x xs in
      omega arith

  pub count_none : (p : X → Bool) (xs : List X) → ((x : X) → Contains xs x → p x ≡ false) → count_by p xs ≡ 0
  count_none p [] none = refl
  count_none p (x ∷ xs) none = count_cons p x xs ∙ ap (λ (b : Bool). one_if b + count_by p xs) (none x (first_in x xs)) ∙ sym (none_before (count_by p xs)) ∙ count_none p xs (λ y at. none y (later_in x xs y at))

  pub count_some : (p : X → Bool) (xs : List X) (x : X) → Contains xs x → p x ≡ true → 1 ≤ count_by p xs
  count_some p xs x at passes =
      let here = get_or-le-sum_by (ones p) xs at.0 x at.1 in
      let one : ones p (get_or xs at.0 x) ≡ 1 = ap (ones p) at.2 ∙ ap one_if passes in
      omega arith

  -- all of them
  pub count_all : (p : X → Bool) (xs : List X) → ((x : X) → Contains xs x → p x ≡ true) → count_by p xs ≡ length xs
  count_all p [] all = refl
  count_all p (x ∷ xs) all =
      let one = count_cons p x xs ∙ ap (λ (b : Bool). one_if b + count_by p xs) (all x (first_in x xs)) in
      let rest = count_all p xs (λ y at. all y (later_in x xs y at)) in
      omega arith

-- ---- entries

moved : (a b n : ℕ) → a + (b + n) ≡ b + (a + n)
moved a b n = omega arith

count_with : (p : Entry → Bool) (cmp : List ℕ → List ℕ → Ordering) (e : Entry) (fs : List Entry) → count_by p (entries_with cmp e fs) ≡ one_if (p e) + count_by p fs
count_with p cmp e [] = count_cons p e []
count_with p cmp e (f ∷ fs) = by (is_lt (internal_cmp cmp f.key e.key)) (count_with p cmp e fs) ∙ ap (λ (n : ℕ). one_if (p e) + n) (sym (count_cons p f fs))
  where
    by : (b : Bool) → count_by p (entries_with cmp e fs) ≡ one_if (p e) + count_by p fs → count_by p (cond b (f ∷ entries_with cmp e fs) (e ∷ (f ∷ fs))) ≡ one_if (p e) + (one_if (p f) + count_by p fs)
    by true rest = count_cons p f (entries_with cmp e fs) ∙ ap (λ (n : ℕ). one_if (p f) + n) rest ∙ moved (one_if (p f)) (one_if (p e)) (count_by p fs)
    by false rest = count_cons p e (f ∷ fs) ∙ ap (λ (n : ℕ). one_if (p e) + n) (count_cons p f fs)

pub count_sorted : (p : Entry → Bool) (cmp : List ℕ → List ℕ → Ordering) (es : List Entry) → count_by p (sorted_entries cmp es) ≡ count_by p es
count_sorted p cmp [] = refl
count_sorted p cmp (e ∷ es) = count_with p cmp e (sorted_entries cmp es) ∙ ap (λ (n : ℕ). one_if (p e) + n) (count_sorted p cmp es) ∙ sym (count_cons p e es)

abbrev every : Entry → Bool
every e = true

length_is : (es : List Entry) → length es ≡ count_by every es
length_is es = sym (count_all every es (λ e at. refl))

-- the amounts of the entries that pass a test
abbrev pub tally : (Entry → Bool) → (Entry → Bool) → List Entry → Amounts
tally test hidden es = record {
  files = 0;
  bytes = 0;
  entries = count_by test es;
  deletions = count_by (λ e. test e && is_deletion_entry e) es;
  hidden = count_by (λ e. test e && hidden e) es;
}

pub counted_same : (hidden other : Entry → Bool) (es : List Entry) → ((e : Entry) → Contains es e → hidden e ≡ other e) → counted hidden es ≡ counted other es
counted_same hidden other es same = same_amounts (counted hidden es) (counted other es) refl refl refl refl (count_same hidden other es same)

pub counted_sorted : (hidden : Entry → Bool) (cmp : List ℕ → List ℕ → Ordering) (es : List Entry) → counted hidden (sorted_entries cmp es) ≡ counted hidden es
counted_sorted hidden cmp es = same_amounts (counted hidden (sorted_entries cmp es)) (counted hidden es) refl refl (length_is (sorted_entries cmp es) ∙ count_sorted every cmp es ∙ sym (length_is es)) (count_sorted is_deletion_entry cmp es) (count_sorted hidden cmp es)

one_more : (n : ℕ) → suc n ≡ 1 + n
one_more n = omega arith

pub counted_cons : (hidden : Entry → Bool) (e : Entry) (es : List Entry) → counted hidden (e ∷ es) ≡ amounts_plus (entry_amounts (kind_of e.key) (hidden e)) (counted hidden es)
counted_cons hidden e es = same_amounts (counted hidden (e ∷ es)) (amounts_plus (entry_amounts (kind_of e.key) (hidden e)) (counted hidden es)) refl refl (one_more (length es)) (count_cons is_deletion_entry e es) (count_cons hidden e es)

-- the amounts of those that are kept
pub counted_filter : (test hidden : Entry → Bool) (es : List Entry) → counted hidden (filter test es) ≡ tally test hidden es
counted_filter test hidden es = same_amounts (counted hidden (filter test es)) (tally test hidden es) refl refl
    (length_is (filter test es) ∙ count_filter test every es ∙ count_same (λ e. test e && every e) test es (λ e at. and-true (test e))) (count_filter test is_deletion_entry es) (count_filter test hidden es)

-- all pass the test
pub tally_all : (test hidden : Entry → Bool) (es : List Entry) → ((e : Entry) → test e ≡ true) → tally test hidden es ≡ counted hidden es
tally_all test hidden es all = same_amounts (tally test hidden es) (counted hidden es) refl refl (count_all test es (λ e at. all e)) (count_same (λ e. test e && is_deletion_entry e) is_deletion_entry es (λ e at. ap (λ (b : Bool). b && is_deletion_entry e) (all e)))
    (count_same (λ e. test e && hidden e) hidden es (λ e at. ap (λ (b : Bool). b && hidden e) (all e)))

-- none passes it
pub tally_none : (test hidden : Entry → Bool) (es : List Entry) → ((e : Entry) → test e ≡ false) → tally test hidden es ≡ counted hidden []
tally_none test hidden es none = same_amounts (tally test hidden es) (counted hidden []) refl refl (count_none test es (λ e at. none e)) (count_none (λ e. test e && is_deletion_entry e) es (λ e at. ap (λ (b : Bool). b && is_deletion_entry e) (none e)))
    (count_none (λ e. test e && hidden e) es (λ e at. ap (λ (b : Bool). b && hidden e) (none e)))

-- those that pass one of two tests, of which none passes both
pub tally_either : (p q r hidden : Entry → Bool) (es : List Entry) → ((e : Entry) → one_if (p e) + one_if (q e) ≡ one_if (r e)) → amounts_plus (tally p hidden es) (tally q hidden es) ≡ tally r hidden es
tally_either p q r hidden es either = same_amounts (amounts_plus (tally p hidden es) (tally q hidden es)) (tally r hidden es) refl refl (count_either p q r es (λ e at. either e)) (and_either is_deletion_entry) (and_either hidden)
  where
    by : (a b c d : Bool) → one_if a + one_if b ≡ one_if c → one_if (a && d) + one_if (b && d) ≡ one_if (c && d)
    by true true true d sum = absurd (omega arith)
    by true true false d sum = absurd (omega arith)
    by true false true true sum = refl
    by true false true false sum = refl
    by true false false d sum = absurd (omega arith)
    by false true true true sum = refl
    by false true true false sum = refl
    by false true false d sum = absurd (omega arith)
    by false false true d sum = absurd (omega arith)
    by false false false d sum = refl

    and_either : (other : Entry → Bool) → count_by (λ e. p e && other e) es + count_by (λ e. q e && other e) es ≡ count_by (λ e. r e && other e) es
    and_either other = count_either (λ e. p e && other e) (λ e. q e && other e) (λ e. r e && other e) es (λ e at. by (p e) (q e) (r e) (other e) (either e))
