-- The list that is next, found by one list after the other.
use Rattle.std.proofs.Common.{◌≡◌, ℕ, ◌+◌, ◌<◌, Bool, true, false, List, [], ◌∷◌, ◌++◌, length, get_or, take, drop, set, map, suc, zero, Option, Some, None, refl, sym, ap, subst, ◌∙◌, add-one, arith}
use Rattle.std.specs.Prelude.{slice_get, IsTrue, is_some, ◌↔◌}
use Rattle.std.specs.Option.{option_map}
use Rattle.std.specs.List.{AllByRecursion}
use Rattle.std.specs.Cmp.{IsTotalOrder}
use Rattle.std.specs.Ordering.{is_lt, is_le}
use Rattle.std.specs.declared.cmp.Ordering.{Ordering}
use Rattle.std.specs.declared.cmp.Ordering.TheVariants.{Less}
use Rattle.std.proofs.lemmas.List.{take_more, take_at, take-append-le, drop-append-le, drop_all, length-take, map-set, length_push, nil_from_length}
use Rattle.std.proofs.lemmas.Bool.{false≢true}
use Rattle.std.proofs.lemmas.Option.{same_Some, none-some, slice_get-map, slice_get_read, slice_get_within, get_or_from_slice_get}
use Rattle.table.specs.EncodedEntry.{Entry}
use Rattle.table.specs.Order.{internal_cmp}
use Rattle.table.proofs.Ordered.{internal_cmp-total, is_lt-true}
use Rattle.table.specs.EntriesFrom.{NeverFalls}
use Rattle.merge.specs.MergedLists.{merged}
use Rattle.merge.specs.LeastList.{StartsAbove, StartsFrom, IsLeast, IsAdvanced, IsLeastPlace, IsMerging}
use Rattle.merge.proofs.Orders.{all_weaker, all_append, lt_le_trans, at_most}
use Rattle.merge.proofs.Merges.{merged_first, merged_none}

-- ---- lists at places

-- what is read at a place, seen by a function
pub at_place : {X Y : Type 0} (f : X → Y) (xs : List X) (place : ℕ) (x : X) → place < length xs → x ≡ get_or xs place x → slice_get (map f xs) place ≡ Some (f x)
at_place f xs place x within is = slice_get-map f xs place ∙ ap (option_map f) (slice_get_read xs (length xs) place x refl within is)

pub take_next : {X : Type 0} (xs : List X) (place : ℕ) (x : X) → slice_get xs place ≡ Some x → take (place + 1) xs ≡ take place xs ++ x ∷ []
take_next xs place x h =
    take_more xs place x (slice_get_within xs place x h) ∙ ap (λ y. take place xs ++ y ∷ []) (get_or_from_slice_get xs place x x h)

slice_get_take : {X : Type 0} (xs : List X) (n place : ℕ) (x : X) → slice_get (take n xs) place ≡ Some x → slice_get xs place ≡ Some x
slice_get_take xs zero place x h = absurd (none-some x h)
slice_get_take [] (suc n) place x h = h
slice_get_take (y ∷ xs) (suc n) zero x h = h
slice_get_take (y ∷ xs) (suc n) (suc place) x h = slice_get_take xs n place x h

slice_get_push : {X : Type 0} (xs : List X) (y : X) (place : ℕ) (x : X) → slice_get xs place ≡ Some x → slice_get (xs ++ y ∷ []) place ≡ Some x
slice_get_push [] y place x h = absurd (none-some x h)
slice_get_push (z ∷ xs) y zero x h = h
slice_get_push (z ∷ xs) y (suc place) x h = slice_get_push xs y place x h

slice_get_end : {X : Type 0} (xs : List X) (y : X) → slice_get (xs ++ y ∷ []) (length xs) ≡ Some y
slice_get_end [] y = refl
slice_get_end (z ∷ xs) y = slice_get_end xs y

split_at : {X : Type 0} (xs : List X) (place : ℕ) (x : X) → slice_get xs place ≡ Some x → take place xs ++ x ∷ drop (suc place) xs ≡ xs
split_at [] place x h = absurd (none-some x h)
split_at (y ∷ xs) zero x h = ap (λ z. z ∷ xs) (sym (same_Some y x h))
split_at (y ∷ xs) (suc place) x h = ap (λ zs. y ∷ zs) (split_at xs place x h)

set_same : {X : Type 0} (xs : List X) (place : ℕ) (x : X) → slice_get xs place ≡ Some x → set xs place x ≡ xs
set_same [] place x h = refl
set_same (y ∷ xs) zero x h = ap (λ z. z ∷ xs) (sym (same_Some y x h))
set_same (y ∷ xs) (suc place) x h = ap (λ zs. y ∷ zs) (set_same xs place x h)

-- what is written at a place changes nothing if it is seen as what was there
pub map_set_same : {X : Type 0} (f : X → List Entry) (xs : List X) (place : ℕ) (x y : X) → slice_get (map f xs) place ≡ Some (f x) → f y ≡ f x → map f (set xs place y) ≡ map f xs
map_set_same f xs place x y h e = map-set f xs place y ∙ ap (set (map f xs) place) e ∙ set_same (map f xs) place (f x) h

-- a list that has a first key has a first entry
record First (list : List Entry) (key : List ℕ) : Type 0 where
  first : Entry
  others : List Entry
  same : list ≡ first ∷ others
  key_is : first.key ≡ key

first_of : (list : List Entry) (key : List ℕ) → option_map (λ e. e.key) (slice_get list 0) ≡ Some key → First list key
first_of [] key h = absurd (none-some key h)
first_of (e ∷ es) key h = record { first = e; others = es; same = refl; key_is = same_Some e.key key h }

-- ---- one more list

-- if the next list doesn't start below the entry that comes next, it still comes next
pub stays_least : (cmp : List ℕ → List ℕ → Ordering) (lists : List (List Entry)) (place : ℕ) (list : List Entry) → (least : IsLeast cmp lists place) → StartsFrom cmp least.first.key list → IsLeast cmp (lists ++ list ∷ []) place
stays_least cmp lists place list least starts =
    let within : place < length lists = slice_get_within lists place (least.first ∷ least.others) least.here in
    record {
      first = least.first;
      others = least.others;
      here = slice_get_push lists list place (least.first ∷ least.others) least.here;
      before = subst (AllByRecursion (StartsAbove cmp least.first.key)) (sym (take-append-le place lists (list ∷ []) (omega arith))) least.before;
      behind =
          subst (AllByRecursion (StartsFrom cmp least.first.key)) (sym (drop-append-le (place + 1) lists (list ∷ []) (omega arith)))
          (all_append (StartsFrom cmp least.first.key) (drop (place + 1) lists) (list ∷ []) least.behind (starts, tt));
    }

-- if all lists start above an entry, and the next list starts with it, that one comes next
pub becomes_least : (cmp : List ℕ → List ℕ → Ordering) (lists : List (List Entry)) (e : Entry) (es : List Entry) → AllByRecursion (StartsAbove cmp e.key) lists → IsLeast cmp (lists ++ (e ∷ es) ∷ []) (length lists)
becomes_least cmp lists e es above = record {
  first = e;
  others = es;
  here = slice_get_end lists (e ∷ es);
  before = subst (AllByRecursion (StartsAbove cmp e.key)) (sym (take_at lists ((e ∷ es) ∷ []) (length lists) refl)) above;
  behind = subst (AllByRecursion (StartsFrom cmp e.key)) (sym (drop_all (length lists + 1) (lists ++ (e ∷ es) ∷ []) (omega (arith, length_push lists (e ∷ es))))) tt;
}

all_empty_above : (cmp : List ℕ → List ℕ → Ordering) (key : List ℕ) (lists : List (List Entry)) → AllByRecursion (λ list. list ≡ []) lists → AllByRecursion (StartsAbove cmp key) lists
all_empty_above cmp key lists h = all_weaker (λ list. list ≡ []) (StartsAbove cmp key) (λ list none. subst (StartsAbove cmp key) (sym none) tt) lists h

-- what is below the entry that comes next is below the start of each list
all_above_least : (cmp : List ℕ → List ℕ → Ordering) → IsTotalOrder cmp → (key : List ℕ) (lists : List (List Entry)) (place : ℕ) → (least : IsLeast cmp lists place) → internal_cmp cmp key least.first.key ≡ Less → AllByRecursion (StartsAbove cmp key) lists
all_above_least cmp total key lists place least below =
    let behind : AllByRecursion (StartsFrom cmp least.first.key) (drop (suc place) lists) = rw (← add-one) least.behind in
    subst (AllByRecursion (StartsAbove cmp key)) (split_at lists place (least.first ∷ least.others) least.here)
    (all_append (StartsAbove cmp key) (take place lists) ((least.first ∷ least.others) ∷ drop (suc place) lists)
    (all_weaker (StartsAbove cmp least.first.key) (StartsAbove cmp key) above (take place lists) least.before)
    (below, all_weaker (StartsFrom cmp least.first.key) (StartsAbove cmp key) from (drop (suc place) lists) behind))
  where
    above : (list : List Entry) → StartsAbove cmp least.first.key list → StartsAbove cmp key list
    above [] h = tt
    above (e ∷ es) h = (internal_cmp-total total).trans key least.first.key e.key below h

    from : (list : List Entry) → StartsFrom cmp least.first.key list → StartsAbove cmp key list
    from [] h = tt
    from (e ∷ es) h = lt_le_trans cmp total key least.first.key e.key below h

-- ---- the step, as the code takes it

-- the list that comes next of those before a place
pub least_is : (cmp : List ℕ → List ℕ → Ordering) (lists : List (List Entry)) (n place : ℕ) (list : List Entry) → (least : IsLeast cmp (take n lists) place) → slice_get lists place ≡ Some list → list ≡ least.first ∷ least.others
least_is cmp lists n place list least h =
    same_Some list (least.first ∷ least.others) (sym h ∙ slice_get_take lists n place (least.first ∷ least.others) least.here)

pub least_within : (cmp : List ℕ → List ℕ → Ordering) (lists : List (List Entry)) (n place : ℕ) → IsLeast cmp (take n lists) place → place < length lists
least_within cmp lists n place least = slice_get_within lists place (least.first ∷ least.others) (slice_get_take lists n place (least.first ∷ least.others) least.here)

more_lists : (cmp : List ℕ → List ℕ → Ordering) (lists : List (List Entry)) (list : List Entry) (place next : Option ℕ) → IsMerging cmp lists place → NeverFalls cmp list → IsLeastPlace cmp (lists ++ list ∷ []) next → IsMerging cmp (lists ++ list ∷ []) next
more_lists cmp lists list place next m falls least = record { ordered = all_append (NeverFalls cmp) lists (list ∷ []) m.ordered (falls, tt); least = least }

step : (cmp : List ℕ → List ℕ → Ordering) (lists : List (List Entry)) (place : ℕ) (list : List Entry) (next : Option ℕ) → slice_get lists place ≡ Some list → IsMerging cmp (take place lists ++ list ∷ []) next → IsMerging cmp (take (place + 1) lists) next
step cmp lists place list next h m = subst (λ (ls : List (List Entry)). IsMerging cmp ls next) (sym (take_next lists place list h)) m

-- the next list has no entry
pub passes_empty : (cmp : List ℕ → List ℕ → Ordering) (lists : List (List Entry)) (place : ℕ) (list : List Entry) (least : Option ℕ) → slice_get lists place ≡ Some list → NeverFalls cmp list → length list ≡ 0 → IsMerging cmp (take place lists) least → IsMerging cmp (take (place + 1) lists) least
passes_empty cmp lists place list least h falls none m = step cmp lists place list least h (more_lists cmp (take place lists) list least least m falls (of_place least m.least))
  where
    of_place : (next : Option ℕ) → IsLeastPlace cmp (take place lists) next → IsLeastPlace cmp (take place lists ++ list ∷ []) next
    of_place None k = all_append (λ l. l ≡ []) (take place lists) (list ∷ []) k (nil_from_length list none, tt)
    of_place (Some other) k = stays_least cmp (take place lists) other list k (subst (StartsFrom cmp k.first.key) (sym (nil_from_length list none)) tt)

length_front : {X : Type 0} (xs : List X) (n : ℕ) (x : X) → slice_get xs n ≡ Some x → length (take n xs) ≡ n
length_front xs n x h = let within : n < length xs = slice_get_within xs n x h in omega (arith, length-take n xs)

-- the next list is the first that has an entry
pub finds_first : (cmp : List ℕ → List ℕ → Ordering) (lists : List (List Entry)) (place : ℕ) (list : List Entry) → slice_get lists place ≡ Some list → NeverFalls cmp list → 0 < length list → IsMerging cmp (take place lists) None → IsMerging cmp (take (place + 1) lists) (Some place)
finds_first cmp lists place [] h falls some m = absurd (omega arith)
finds_first cmp lists place (e ∷ es) h falls some m =
    step cmp lists place (e ∷ es) (Some place) h (more_lists cmp (take place lists) (e ∷ es) None (Some place) m falls (
    subst (IsLeast cmp (take place lists ++ (e ∷ es) ∷ [])) (length_front lists place (e ∷ es) h)
    (becomes_least cmp (take place lists) e es (all_empty_above cmp e.key (take place lists) m.least))
    ))

pub least_has : (cmp : List ℕ → List ℕ → Ordering) (lists : List (List Entry)) (n place : ℕ) (list : List Entry) → IsMerging cmp (take n lists) (Some place) → slice_get lists place ≡ Some list → 0 < length list
least_has cmp lists n place list m h = subst (λ (l : List Entry). 0 < length l) (sym (least_is cmp lists n place list m.least h)) (omega arith)

-- the key of the entry that comes next of those before a place
old_key_is : (cmp : List ℕ → List ℕ → Ordering) (lists : List (List Entry)) (n place : ℕ) (old : List Entry) (key : List ℕ) → (least : IsLeast cmp (take n lists) place) → slice_get lists place ≡ Some old → option_map (λ e. e.key) (slice_get old 0) ≡ Some key
    → least.first.key ≡ key
old_key_is cmp lists n place old key least h first =
    same_Some least.first.key key (sym (ap (λ (l : List Entry). option_map (λ e. e.key) (slice_get l 0)) (least_is cmp lists n place old least h)) ∙ first)

-- the next list starts below all before it
pub finds_lesser : (cmp : List ℕ → List ℕ → Ordering) → IsTotalOrder cmp → (lists : List (List Entry)) (place other : ℕ) (list old : List Entry) (key old_key : List ℕ) → slice_get lists place ≡ Some list → slice_get lists other ≡ Some old
    → NeverFalls cmp list → IsMerging cmp (take place lists) (Some other) → option_map (λ e. e.key) (slice_get list 0) ≡ Some key → option_map (λ e. e.key) (slice_get old 0) ≡ Some old_key
    → is_lt (internal_cmp cmp key old_key) ≡ true → IsMerging cmp (take (place + 1) lists) (Some place)
finds_lesser cmp total lists place other list old key old_key h k falls m first old_first below =
    let f = first_of list key first in
    let old_is = old_key_is cmp lists place other old old_key m.least k old_first in
    let lt : internal_cmp cmp f.first.key m.least.first.key ≡ Less =
    ap (λ (a : List ℕ). internal_cmp cmp a m.least.first.key) f.key_is ∙ ap (internal_cmp cmp key) old_is ∙ is_lt-true (internal_cmp cmp key old_key) below in
    step cmp lists place list (Some place) h (more_lists cmp (take place lists) list (Some other) (Some place) m falls (
    subst (λ (l : List Entry). IsLeast cmp (take place lists ++ l ∷ []) place) (sym f.same)
    (subst (IsLeast cmp (take place lists ++ (f.first ∷ f.others) ∷ [])) (length_front lists place list h)
    (becomes_least cmp (take place lists) f.first f.others (all_above_least cmp total f.first.key (take place lists) other m.least lt)))
    ))

-- the next list doesn't start below the one that comes next
pub keeps_least : (cmp : List ℕ → List ℕ → Ordering) → IsTotalOrder cmp → (lists : List (List Entry)) (place other : ℕ) (list old : List Entry) (key old_key : List ℕ) → slice_get lists place ≡ Some list → slice_get lists other ≡ Some old
    → NeverFalls cmp list → IsMerging cmp (take place lists) (Some other) → option_map (λ e. e.key) (slice_get list 0) ≡ Some key → option_map (λ e. e.key) (slice_get old 0) ≡ Some old_key
    → is_lt (internal_cmp cmp key old_key) ≡ false → IsMerging cmp (take (place + 1) lists) (Some other)
keeps_least cmp total lists place other list old key old_key h k falls m first old_first not_less =
    let f = first_of list key first in
    let old_is = old_key_is cmp lists place other old old_key m.least k old_first in
    let le : is_le (internal_cmp cmp m.least.first.key f.first.key) ≡ true =
    ap (λ (a : List ℕ). is_le (internal_cmp cmp m.least.first.key a)) f.key_is ∙ ap (λ (a : List ℕ). is_le (internal_cmp cmp a key)) old_is ∙ at_most cmp total old_key key not_less in
    step cmp lists place list (Some other) h (more_lists cmp (take place lists) list (Some other) (Some other) m falls (
    stays_least cmp (take place lists) other list m.least (subst (StartsFrom cmp m.least.first.key) (sym f.same) le)
    ))

-- ---- the whole

pub starts : (cmp : List ℕ → List ℕ → Ordering) → IsMerging cmp [] None
starts cmp = record { ordered = tt; least = tt }

-- some list has an entry if one comes next, and else none
pub some_where_least : (cmp : List ℕ → List ℕ → Ordering) → IsTotalOrder cmp → (lists : List (List Entry)) (place : ℕ) → IsMerging cmp lists (Some place) → 0 < length (merged cmp lists)
some_where_least cmp total lists place m = subst (λ (es : List Entry). 0 < length es) (sym (merged_first cmp total lists place m.ordered m.least)) (omega arith)

pub none_without_least : (cmp : List ℕ → List ℕ → Ordering) (lists : List (List Entry)) → IsMerging cmp lists None → 0 < length (merged cmp lists) → ⊥
none_without_least cmp lists m some = let none : length (merged cmp lists) ≡ 0 = ap length (merged_none cmp lists m.least) in omega arith

pub has_entries : (cmp : List ℕ → List ℕ → Ordering) → IsTotalOrder cmp → (lists : List (List Entry)) (least : Option ℕ) → IsMerging cmp lists least → (b : Bool) → b ≡ is_some least → IsTrue b ↔ (0 < length (merged cmp lists))
has_entries cmp total lists (Some place) m b is = (λ h. some_where_least cmp total lists place m, λ h. is)
has_entries cmp total lists None m b is = (λ h. absurd (false≢true (sym is ∙ h)), λ h. absurd (none_without_least cmp lists m h))

pub place_within : (cmp : List ℕ → List ℕ → Ordering) (lists : List (List Entry)) (place : ℕ) → IsMerging cmp lists (Some place) → place < length lists
place_within cmp lists place m = slice_get_within lists place (m.least.first ∷ m.least.others) m.least.here

-- the first entry of the list that is next
pub first_same : (cmp : List ℕ → List ℕ → Ordering) → IsTotalOrder cmp → (lists : List (List Entry)) (place : ℕ) (list : List Entry) → IsMerging cmp lists (Some place) → slice_get lists place ≡ Some list → slice_get list 0 ≡ slice_get (merged cmp lists) 0
first_same cmp total lists place list m h =
    ap (λ (l : List Entry). slice_get l 0) (same_Some list (m.least.first ∷ m.least.others) (sym h ∙ m.least.here))
    ∙ sym (ap (λ (l : List Entry). slice_get l 0) (merged_first cmp total lists place m.ordered m.least))

pub least_some : (cmp : List ℕ → List ℕ → Ordering) (lists : List (List Entry)) (place : ℕ) (list : List Entry) → IsMerging cmp lists (Some place) → slice_get lists place ≡ Some list → 0 < length list
least_some cmp lists place list m h = subst (λ (l : List Entry). 0 < length l) (sym (same_Some list (m.least.first ∷ m.least.others) (sym h ∙ m.least.here))) (omega arith)

-- the merge after the first entry of the list that is next is taken off
pub merged_behind : (cmp : List ℕ → List ℕ → Ordering) → IsTotalOrder cmp → (lists : List (List Entry)) (place : ℕ) (list other : List Entry) → IsMerging cmp lists (Some place) → slice_get lists place ≡ Some list → other ≡ drop 1 list → merged cmp (set lists place other) ≡ drop 1 (merged cmp lists)
merged_behind cmp total lists place list other m h e =
    let same : list ≡ m.least.first ∷ m.least.others = same_Some list (m.least.first ∷ m.least.others) (sym h ∙ m.least.here) in
    ap (λ (l : List Entry). merged cmp (set lists place l)) (e ∙ ap (drop 1) same)
    ∙ sym (ap (drop 1) (merged_first cmp total lists place m.ordered m.least))

-- what is left after the first entry of the list that is next is taken off
pub advanced : (cmp : List ℕ → List ℕ → Ordering) (lists : List (List Entry)) (place : ℕ) (list other : List Entry) → IsMerging cmp lists (Some place) → slice_get lists place ≡ Some list → other ≡ drop 1 list → IsAdvanced cmp lists (set lists place other)
advanced cmp lists place list other m h e =
    let same : list ≡ m.least.first ∷ m.least.others = same_Some list (m.least.first ∷ m.least.others) (sym h ∙ m.least.here) in
    record { place = place; least = m.least; lost = ap (set lists place) (e ∙ ap (drop 1) same) }
