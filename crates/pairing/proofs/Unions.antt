-- Rising lists, cut at a key, merged and joined.
use Rattle.std.proofs.Common.{◌≡◌, ◌≢◌, ℕ, zero, suc, Bool, true, false, cond, nat_lt, Some, None, Result, Ok, Err, ◌+◌, ◌^◌, ◌<◌, ◌≤◌, nat_le, List, [], ◌∷◌, ◌++◌, length, get_or, take, drop, refl, sym, ap, subst, ◌∙◌, append_assoc, arith}
use Rattle.std.specs.List.{AllByRecursion, flat_map}
use Rattle.std.specs.List.Sorted.{IsPermutation}
use Rattle.std.specs.Prelude.{IfOk}
use Rattle.std.specs.Global.{Vec}
use Rattle.std.specs.Cmp.{IsTotalOrder}
use Rattle.std.specs.Ordering.{nat_cmp, ordering_then, ordering_reverse}
use Rattle.std.specs.declared.cmp.Ordering.{Ordering}
use Rattle.std.specs.declared.cmp.Ordering.TheVariants.{Less, Equal, Greater}
use Rattle.std.proofs.lemmas.Cmp.{nat_cmp_total, nat_list_cmp_total, on_total, then_total, back_total}
use Rattle.std.proofs.lemmas.List.{append-nil, drop-map, drop_all}
use Rattle.std.proofs.lemmas.List.Elements.{recursion_from_All, All-from_recursion}
use Rattle.std.proofs.lemmas.List.Sorted.{IsPermutation-trans, IsPermutation-append, IsPermutation-append_comm, IsPermutation-append_right, IsPermutation-append_left, All-permutation}
use Rattle.std.proofs.lemmas.Bool.{lt-leb}
use Rattle.block.specs.EncodedEntry.{Entry}
use Rattle.block.specs.BlockFormat.{block}
use Rattle.block.specs.BuilderView.{BlockBuilding, with_entry}
use Rattle.block.proofs.Sizes.{length-block-append, fits_with_entry}
use Rattle.pairing.specs.Blocks.{block_within}
use Rattle.ikey.specs.Bytewise.{bytewise_cmp}
use Rattle.ikey.specs.Key.{user_of, sequence_of, kind_of, kind_number, internal_key_reading}
use Rattle.ikey.specs.Answers.{EqualOrMemory, fault, ◌>>=◌}
use Rattle.ikey.specs.fault.Fault.{Fault}
use Rattle.ikey.specs.fault.FaultName.TheVariants.{TooLarge, Order}
use Rattle.ikey.specs.Order.{internal_cmp}
use Rattle.ikey.proofs.Ordered.{internal_cmp-total, is_lt-true}
use Rattle.merge.specs.Union.{key_version_cmp, IsUnion, VersionsRise}
use Rattle.table.specs.EntriesFrom.{EntriesRise, NeverFalls}
use Rattle.table.specs.EntryTests.{is_above}
use Rattle.table.proofs.Orders.{rising_never_falls}
use Rattle.pairing.specs.Ranges.{IsBefore, IsFrom}
use Rattle.pairing.specs.TestedUnion.{tested_entry, tested_entries}
use Rattle.pairing.specs.declared.tested_entry.TestedEntry.{TestedEntry}
use Rattle.pairing.specs.EntryTests.{file_entry_test, tested_after}
use Rattle.ikey.proofs.Binds.{bind_ok}
use Rattle.pairing.proofs.TestedLists.{tested_same}

-- versions are totally ordered
pub version_total : IsTotalOrder (key_version_cmp bytewise_cmp)
version_total = then_total (on_total user_of nat_list_cmp_total) (on_total sequence_of (back_total nat_cmp_total))

abbrev pub Below : (List ℕ → List ℕ → Ordering) → List ℕ → Entry → Type 0
Below cmp key f = cmp key f.key ≡ Less

pub all_append : (P : Entry → Type 0) (xs ys : List Entry) → AllByRecursion P xs → AllByRecursion P ys → AllByRecursion P (xs ++ ys)
all_append P [] ys h q = q
all_append P (x ∷ xs) ys h q = (h.0, all_append P xs ys h.1 q)

all_left : (P : Entry → Type 0) (xs ys : List Entry) → AllByRecursion P (xs ++ ys) → AllByRecursion P xs
all_left P [] ys each = tt
all_left P (x ∷ xs) ys each = (each.0, all_left P xs ys each.1)

pub all_weaker : (P Q : Entry → Type 0) → ((x : Entry) → P x → Q x) → (xs : List Entry) → AllByRecursion P xs → AllByRecursion Q xs
all_weaker P Q f [] h = tt
all_weaker P Q f (x ∷ xs) h = (f x h.0, all_weaker P Q f xs h.1)

rising_append : (xs ys : List Entry) → VersionsRise bytewise_cmp xs → VersionsRise bytewise_cmp ys → AllByRecursion (λ e. AllByRecursion (λ f. key_version_cmp bytewise_cmp e.key f.key ≡ Less) ys) xs → VersionsRise bytewise_cmp (xs ++ ys)
rising_append [] ys h q each = q
rising_append (x ∷ xs) ys h q each = (all_append (Below (key_version_cmp bytewise_cmp) x.key) xs ys h.0 each.0, rising_append xs ys h.1 q each.1)

-- ---- what passed its tests rises

abbrev accepted : List ℕ → Result (List ℕ) Fault
accepted key = Ok key

passed_above : (t s : Bool) (d e : Fault) (key internal : List ℕ) → cond t (Err d) (cond s (Ok key) (Err e)) ≡ accepted internal → s ≡ true
passed_above true s d e key internal h = absurd cc
passed_above false true d e key internal h = refl
passed_above false false d e key internal h = absurd cc

-- an entry that passed its tests is above the one before
above_before : (before key value internal : List ℕ) → file_entry_test (Some before) key value ≡ Ok internal → internal_cmp bytewise_cmp before key ≡ Less
above_before before key value internal h =
    let a = bind_ok (internal_key_reading key) _ internal h in
    is_lt-true (internal_cmp bytewise_cmp before key) (passed_above (nat_lt 16777215 (length value)) (is_above bytewise_cmp (Some before) key) (fault TooLarge) (fault Order) a.0 internal a.2)

rising_after : (before : List ℕ) (q es : List Entry) → tested_after (Some before) q ≡ Ok es → AllByRecursion (Below (internal_cmp bytewise_cmp) before) q × EntriesRise bytewise_cmp q
rising_after before [] es h = (tt, tt)
rising_after before (e ∷ q) es h =
    let a = bind_ok (file_entry_test (Some before) e.key e.value) (λ k. tested_after (Some e.key) q >>= λ xs. Ok (e ∷ xs)) es h in
    let b = bind_ok (tested_after (Some e.key) q) (λ xs. Ok (e ∷ xs)) es a.2 in
    let rest = rising_after e.key q b.0 b.1 in
    let up = above_before before e.key e.value a.0 a.1 in
    ((up, all_weaker (Below (internal_cmp bytewise_cmp) e.key) (Below (internal_cmp bytewise_cmp) before) (λ f g. (internal_cmp-total nat_list_cmp_total).trans before e.key f.key up g) q rest.0), (rest.0, rest.1))

pub tested_rising : (q es : List Entry) → tested_after None q ≡ Ok es → EntriesRise bytewise_cmp q
tested_rising [] es h = tt
tested_rising (e ∷ q) es h =
    let a = bind_ok (file_entry_test None e.key e.value) (λ k. tested_after (Some e.key) q >>= λ xs. Ok (e ∷ xs)) es h in
    let b = bind_ok (tested_after (Some e.key) q) (λ xs. Ok (e ∷ xs)) es a.2 in
    let rest = rising_after e.key q b.0 b.1 in
    (rest.0, rest.1)

-- what was tested and accepted rises
pub rising_tested : (q : List Entry) (r : Result (Vec TestedEntry) Fault) → EqualOrMemory (λ v. tested_entries v.items) r (tested_after None q) → IfOk r (λ v. EntriesRise bytewise_cmp (tested_entries v.items))
rising_tested q (Ok v) given = subst (EntriesRise bytewise_cmp) (tested_same None q (tested_entries v.items) given) (tested_rising q (tested_entries v.items) given)
rising_tested q (Err e) given = tt

-- ---- a list cut at a key

-- what holds at each place below n holds of each of the first n
all_of_places : (P : Entry → Type 0) (n : ℕ) (ts : List TestedEntry) (d : TestedEntry) → ((k : ℕ) → k < n → P (tested_entry (get_or ts k d))) → n ≤ length ts → AllByRecursion P (tested_entries (take n ts))
all_of_places P zero ts d h le = tt
all_of_places P (suc n) [] d h le = absurd (omega arith)
all_of_places P (suc n) (t ∷ ts) d h le = (h 0 (omega arith), all_of_places P n ts d (λ k lt. h (suc k) (omega arith)) (omega arith))

pub before_cut : (at : List ℕ) (n : ℕ) (ts : List TestedEntry) → ((k : ℕ) (d : TestedEntry) → k < n → IsBefore at (tested_entry (get_or ts k d))) → n ≤ length ts → AllByRecursion (IsBefore at) (tested_entries (take n ts))
before_cut at zero ts h le = tt
before_cut at (suc n) [] h le = absurd (omega arith)
before_cut at (suc n) (t ∷ ts) h le = all_of_places (IsBefore at) (suc n) (t ∷ ts) t (λ k lt. h k t lt) le

-- a greater internal key has no lesser user key
user_rises : (a b : List ℕ) (o : Ordering) → bytewise_cmp (user_of a) (user_of b) ≡ o → internal_cmp bytewise_cmp a b ≡ Less → o ≢ Greater
unfolding internal_cmp
user_rises a b Less e h = λ g. absurd cc
user_rises a b Equal e h = λ g. absurd cc
user_rises a b Greater e h = λ g.
    let bad : Greater ≡ Less = ap (λ (o : Ordering). ordering_then o (ordering_then (nat_cmp (sequence_of b) (sequence_of a)) (nat_cmp (kind_number (kind_of b)) (kind_number (kind_of a))))) (sym e) ∙ h in
    absurd cc

-- what isn't below at is above what is, or equal
from_after : (at : List ℕ) (x y : Entry) → IsFrom at x → internal_cmp bytewise_cmp x.key y.key ≡ Less → IsFrom at y
from_after at x y from below before =
    let rises = user_rises x.key y.key (bytewise_cmp (user_of x.key) (user_of y.key)) refl below in
    by_order (bytewise_cmp (user_of x.key) (user_of y.key)) refl rises
  where
    by_order : (o : Ordering) → bytewise_cmp (user_of x.key) (user_of y.key) ≡ o → (o ≡ Greater → ⊥) → ⊥
    by_order Less e other = from (nat_list_cmp_total.trans (user_of x.key) (user_of y.key) at e before)
    by_order Equal e other = from (nat_list_cmp_total.congr (user_of x.key) (user_of y.key) at e ∙ before)
    by_order Greater e other = other refl

from_rest : (at : List ℕ) (q : List Entry) → EntriesRise bytewise_cmp q → ((e : Entry) (es : List Entry) → q ≡ e ∷ es → IsFrom at e) → AllByRecursion (IsFrom at) q
from_rest at [] rising first = tt
from_rest at (e ∷ q) rising first =
    let here = first e q refl in
    (here, all_weaker (Below (internal_cmp bytewise_cmp) e.key) (IsFrom at) (λ f g. from_after at e f here g) q rising.0)

rising_drop : (n : ℕ) (q : List Entry) → EntriesRise bytewise_cmp q → EntriesRise bytewise_cmp (drop n q)
rising_drop zero q h = h
rising_drop (suc n) [] h = tt
rising_drop (suc n) (e ∷ q) h = rising_drop n q h.1

head_of_drop : (n : ℕ) (ts : List TestedEntry) (e : Entry) (es : List Entry) (d : TestedEntry) → tested_entries (drop n ts) ≡ e ∷ es → (n < length ts) × (tested_entry (get_or ts n d) ≡ e)
head_of_drop zero [] e es d h = absurd cc
head_of_drop zero (t ∷ ts) e es d h = (omega arith, cc)
head_of_drop (suc n) [] e es d h = absurd cc
head_of_drop (suc n) (t ∷ ts) e es d h = let rest = head_of_drop n ts e es d h in (omega (arith, rest.0), rest.1)

pub from_cut : (at : List ℕ) (n : ℕ) (ts : List TestedEntry) → EntriesRise bytewise_cmp (tested_entries ts) → ((d : TestedEntry) → n < length ts → IsFrom at (tested_entry (get_or ts n d))) → AllByRecursion (IsFrom at) (tested_entries (drop n ts))
from_cut at n [] rising first = subst (λ (ts : List TestedEntry). AllByRecursion (IsFrom at) (tested_entries ts)) (sym (drop_all n [] (omega arith))) tt
from_cut at n (t ∷ ts) rising first =
    from_rest at (tested_entries (drop n (t ∷ ts))) (rw (← drop-map tested_entry n (t ∷ ts)) (rising_drop n (tested_entries (t ∷ ts)) rising))
    (λ e es h. let at_place = head_of_drop n (t ∷ ts) e es t h in subst (IsFrom at) at_place.1 (first t at_place.0))

-- both parts of rising entries never fall
rising_left : (xs ys : List Entry) → EntriesRise bytewise_cmp (xs ++ ys) → EntriesRise bytewise_cmp xs
rising_left [] ys h = tt
rising_left (x ∷ xs) ys h = (all_left (Below (internal_cmp bytewise_cmp) x.key) xs ys h.0, rising_left xs ys h.1)

rising_right : (xs ys : List Entry) → EntriesRise bytewise_cmp (xs ++ ys) → EntriesRise bytewise_cmp ys
rising_right [] ys h = h
rising_right (x ∷ xs) ys h = rising_right xs ys h.1

pub left_never_falls : (q xs ys : List Entry) → q ≡ xs ++ ys → EntriesRise bytewise_cmp q → NeverFalls bytewise_cmp xs
left_never_falls q xs ys parts h = rising_never_falls bytewise_cmp xs (rising_left xs ys (subst (EntriesRise bytewise_cmp) parts h))

pub right_never_falls : (q xs ys : List Entry) → q ≡ xs ++ ys → EntriesRise bytewise_cmp q → NeverFalls bytewise_cmp ys
right_never_falls q xs ys parts h = rising_never_falls bytewise_cmp ys (rising_right xs ys (subst (EntriesRise bytewise_cmp) parts h))

-- ---- two runs joined

All-of : (P : Entry → Type 0) (xs ys : List Entry) → IsPermutation xs ys → AllByRecursion P xs → AllByRecursion P ys
All-of P xs ys h each = recursion_from_All P ys (All-permutation P xs ys h (All-from_recursion P xs each))

-- a key before the cut and one from it on
across : (at : List ℕ) (x y : Entry) → IsBefore at x → IsFrom at y → key_version_cmp bytewise_cmp x.key y.key ≡ Less
across at x y before from = by_order (bytewise_cmp (user_of y.key) (user_of x.key)) refl
  where
    by_order : (o : Ordering) → bytewise_cmp (user_of y.key) (user_of x.key) ≡ o → key_version_cmp bytewise_cmp x.key y.key ≡ Less
    by_order Less e = absurd (from (nat_list_cmp_total.trans (user_of y.key) (user_of x.key) at e before))
    by_order Equal e = absurd (from (nat_list_cmp_total.congr (user_of y.key) (user_of x.key) at e ∙ before))
    by_order Greater e =
        let less : bytewise_cmp (user_of x.key) (user_of y.key) ≡ Less = nat_list_cmp_total.antisymm (user_of x.key) (user_of y.key) ∙ ap ordering_reverse e in
        ap (λ (o : Ordering). ordering_then o (nat_cmp (sequence_of y.key) (sequence_of x.key))) less

all_across : (at : List ℕ) (xs ys : List Entry) → AllByRecursion (IsBefore at) xs → AllByRecursion (IsFrom at) ys → AllByRecursion (λ e. AllByRecursion (Below (key_version_cmp bytewise_cmp) e.key) ys) xs
all_across at [] ys before from = tt
all_across at (x ∷ xs) ys before from = (all_weaker (IsFrom at) (Below (key_version_cmp bytewise_cmp) x.key) (λ y f. across at x y before.0 f) ys from, all_across at xs ys before.1 from)

-- what one file has in the two ranges
pub record Cut (at : List ℕ) (q below above : List Entry) : Type 0 where
  pub parts : q ≡ below ++ above
  pub before : AllByRecursion (IsBefore at) below
  pub from : AllByRecursion (IsFrom at) above

middle_four : (a b c d : List Entry) → IsPermutation ((a ++ b) ++ (c ++ d)) ((a ++ c) ++ (b ++ d))
middle_four a b c d =
    let left : (a ++ b) ++ (c ++ d) ≡ a ++ ((b ++ c) ++ d) = append_assoc a b (c ++ d) ∙ ap (λ (t : List Entry). a ++ t) (sym (append_assoc b c d)) in
    let right : a ++ ((c ++ b) ++ d) ≡ (a ++ c) ++ (b ++ d) = ap (λ (t : List Entry). a ++ t) (append_assoc c b d) ∙ sym (append_assoc a c (b ++ d)) in
    subst (λ (t : List Entry). IsPermutation t ((a ++ c) ++ (b ++ d))) (sym left)
    (subst (IsPermutation (a ++ ((b ++ c) ++ d))) right (IsPermutation-append_right a ((b ++ c) ++ d) ((c ++ b) ++ d) (IsPermutation-append_left d (b ++ c) (c ++ b) (IsPermutation-append_comm b c))))

pub union_of_runs : (at : List ℕ) (qa qb a1 a2 b1 b2 run behind : List Entry) → Cut at qa a1 a2 → Cut at qb b1 b2
    → VersionsRise bytewise_cmp run → IsPermutation (a1 ++ b1) run → VersionsRise bytewise_cmp behind → IsPermutation (a2 ++ b2) behind → IsUnion bytewise_cmp (qa ∷ qb ∷ []) (run ++ behind)
union_of_runs at qa qb a1 a2 b1 b2 run behind a b rising same rising' same' =
    let before = All-of (IsBefore at) (a1 ++ b1) run same (all_append (IsBefore at) a1 b1 a.before b.before) in
    let from = All-of (IsFrom at) (a2 ++ b2) behind same' (all_append (IsFrom at) a2 b2 a.from b.from) in
    let whole : flat_map (λ (input : List Entry). input) (qa ∷ qb ∷ []) ≡ (a1 ++ a2) ++ (b1 ++ b2) =
    ap (λ (t : List Entry). qa ++ t) (append-nil qb) ∙ ap (λ (t : List Entry). t ++ qb) a.parts ∙ ap (λ (t : List Entry). (a1 ++ a2) ++ t) b.parts in
    record {
      rising = rising_append run behind rising rising' (all_across at run behind before from);
      same = subst (λ (t : List Entry). IsPermutation t (run ++ behind)) (sym whole)
          (IsPermutation-trans ((a1 ++ a2) ++ (b1 ++ b2)) ((a1 ++ b1) ++ (a2 ++ b2)) (run ++ behind) (middle_four a1 a2 b1 b2) (IsPermutation-append (a1 ++ b1) run (a2 ++ b2) behind same same'));
    }

-- ---- the block that is written

bounded : (b : Bool) (e : Fault) (x y : List ℕ) → cond b (accepted x) (Err e) ≡ accepted y → x ≡ y
bounded true e x y h = cc
bounded false e x y h = absurd cc

pub block_of : (q : List Entry) (bytes : List ℕ) → block_within q ≡ Ok bytes → bytes ≡ block 16 q
block_of q bytes h = sym (bounded (nat_le (length (block 16 q)) (2 ^ 30)) (fault TooLarge) (block 16 q) bytes h)

-- a block that is too large already stays so
pub too_large : (q es : List Entry) → 2 ^ 30 < length (block 16 q) → block_within (q ++ es) ≡ Err (fault TooLarge)
too_large q es lt =
    let over : nat_le (length (block 16 (q ++ es))) (2 ^ 30) ≡ false = lt-leb _ _ (omega (arith, length-block-append 16 q es)) in
    rw over refl

-- one more entry within the limits leaves the block within what a builder takes
pub room : (b : BlockBuilding) (key value : List ℕ) → b.interval ≡ 16 → length (block 16 b.entries) ≤ 2 ^ 30 → length key ≤ 65535 + 8 → length value ≤ 16777215 → length (block b.interval (with_entry b.entries key value)) ≤ 2 ^ 31
room b key value sixteen small k v =
    let same : length (block b.interval b.entries) ≡ length (block 16 b.entries) = ap (λ (n : ℕ). length (block n b.entries)) sixteen in
    fits_with_entry b key value (omega arith)
