-- What tables have in a range, and cursors over those that reach into it.
use Rattle.std.proofs.Common.{◌≡◌, ℕ, ◌+◌, ◌-◌, ◌<◌, Bool, true, false, cond, List, [], ◌∷◌, ◌++◌, map, take, length, get_or, Some, None, Option, Ok, refl, sym, ap, subst, ◌∙◌}
use Rattle.std.specs.Prelude.{not, slice_get}
use Rattle.std.specs.List.{AllByRecursion}
use Rattle.std.specs.Option.{option_map, option_map_or}
use Rattle.std.specs.Ordering.{is_lt}
use Rattle.std.specs.Cmp.{IsTotalOrder}
use Rattle.std.specs.declared.cmp.Ordering.{Ordering}
use Rattle.std.proofs.lemmas.Bool.{false≢true, and_right}
use Rattle.std.proofs.lemmas.List.{map_push, take_more, append-nil}
use Rattle.std.proofs.lemmas.Option.{same_Some}
use Rattle.table.proofs.Binds.{bind_ok, ok_is}
use Rattle.table.specs.Answers.{◌>>=◌}
use Rattle.table.specs.Key.{user_of}
use Rattle.table.specs.EncodedEntry.{Entry}
use Rattle.split.specs.BuilderView.{last_key}
use Rattle.table.specs.TableContents.{Contents, DataBlock, blocks_of, contents_of, contents_reading, data_reading, entries_of, index_in}
use Rattle.table.specs.EntriesFrom.{NeverFalls}
use Rattle.table.specs.EntryTests.{first_key}
use Rattle.table.specs.IndexReading.{IndexEntry, index_reading}
use Rattle.table.proofs.CheckedTables.{blocks_by, last_is, read_data}
use Rattle.table.proofs.EntryTests.{all_tests, rising}
use Rattle.split.proofs.Orders.{rising_never_falls}
use Rattle.merge.specs.MergedLists.{entries_of_lists}
use Rattle.split.specs.Ranges.{KeyRange}
use Rattle.merge.specs.InRange.{is_in_range, entries_in}
use Rattle.merge.specs.CursorsLeft.{is_before, LosesOnly}
use Rattle.merge.proofs.Bounds.{below_apart, from_bound}
use Rattle.merge.proofs.LeftEntries.{leaves_filter}

-- ---- the first and the last key of entries

pub first_from : (es : List Entry) (key : List ℕ) → Some key ≡ option_map (λ e. e.key) (slice_get es 0) → key ≡ first_key es
first_from [] key h = absurd cc
first_from (e ∷ es) key h = same_Some key e.key h

pub last_from : (es : List Entry) (key : List ℕ) → Some key ≡ option_map (λ e. e.key) (slice_get es (length es - 1)) → key ≡ last_key [] es
last_from [] key h = absurd cc
last_from (e ∷ es) key h = same_Some key (last_key [] (e ∷ es)) (h ∙ last_is (e ∷ es) (record { first = e; others = es; same = refl }))

-- ---- the entries of a table never fall

pub table_never_falls : (cmp : List ℕ → List ℕ → Ordering) → IsTotalOrder cmp → (bytes : List ℕ) (t : Contents) → contents_reading cmp bytes ≡ Ok t → NeverFalls cmp t.entries
table_never_falls cmp total bytes t h =
    let blocks = bind_ok (blocks_of cmp bytes) (λ (blocks : List DataBlock). Ok (contents_of bytes blocks)) t h in
    let named = bind_ok (index_in bytes) (λ (entries : List Entry). index_reading bytes entries >>= λ index. data_reading cmp index) blocks.0 (sym (blocks_by cmp bytes) ∙ blocks.1) in
    let index = bind_ok (index_reading bytes named.0) (λ (index : List IndexEntry). data_reading cmp index) blocks.0 named.2 in
    let read = read_data cmp index.0 blocks.0 index.2 in
    let all : List Entry = entries_of blocks.0 in
    subst (λ (es : List Entry). NeverFalls cmp es) (ap (λ (c : Contents). c.entries) (ok_is (contents_of bytes blocks.0) t blocks.2))
    (rising_never_falls cmp all (rising cmp None all total (all_tests cmp None index.0 blocks.0 read.read)))

-- ---- a list that doesn't reach into a range

module _ (cmp : List ℕ → List ℕ → Ordering) (total : IsTotalOrder cmp) (range : KeyRange) where
  -- what isn't before the upper bound isn't in the range
  behind_apart : (e : Entry) → is_before cmp range.upper true e ≡ false → is_in_range cmp range (user_of e.key) ≡ false
  behind_apart e h = and_right (option_map_or (λ lower. not (is_lt (cmp (user_of e.key) lower))) range.lower true) (is_before cmp range.upper true e) h

  none_of : (es : List Entry) → AllByRecursion (λ e. is_in_range cmp range (user_of e.key) ≡ false) es → entries_in cmp range es ≡ []
  none_of [] h = refl
  none_of (e ∷ es) h = ap (λ (b : Bool). cond b (e ∷ entries_in cmp range es) (entries_in cmp range es)) h.0 ∙ none_of es h.1

  all_behind : (es : List Entry) → AllByRecursion (λ e. is_before cmp range.upper true e ≡ false) es → AllByRecursion (λ e. is_in_range cmp range (user_of e.key) ≡ false) es
  all_behind [] h = tt
  all_behind (e ∷ es) h = (behind_apart e h.0, all_behind es h.1)

  all_before : (es : List Entry) → AllByRecursion (λ e. is_before cmp range.lower false e ≡ true) es → AllByRecursion (λ e. is_in_range cmp range (user_of e.key) ≡ false) es
  all_before [] h = tt
  all_before (e ∷ es) h = (below_apart cmp range e h.0, all_before es h.1)

  -- the last of entries that all aren't before a bound isn't either
  last_stays : (e : Entry) (es : List Entry) → AllByRecursion (λ f. is_before cmp range.lower false f ≡ false) (e ∷ es)
      → option_map_or (λ limit. is_lt (cmp (user_of (last_key e.key es)) limit)) range.lower false ≡ false
  last_stays e [] h = h.0
  last_stays e (f ∷ fs) h = last_stays f fs h.1

  -- if the last entry is before the lower bound, the first is
  first_before : (e : Entry) (es : List Entry) → NeverFalls cmp (e ∷ es) → option_map_or (λ limit. is_lt (cmp (user_of (last_key e.key es)) limit)) range.lower false ≡ true → is_before cmp range.lower false e ≡ true
  first_before e es falls h = by_test (is_before cmp range.lower false e) refl
    where
      by_test : (b : Bool) → is_before cmp range.lower false e ≡ b → is_before cmp range.lower false e ≡ true
      by_test true is = is
      by_test false is = absurd (false≢true (sym (last_stays e es (from_bound cmp total range.lower false (e ∷ es) falls is)) ∙ h))

  -- and so are all
  last_before : (e : Entry) (es : List Entry) → NeverFalls cmp (e ∷ es) → option_map_or (λ limit. is_lt (cmp (user_of (last_key e.key es)) limit)) range.lower false ≡ true
      → AllByRecursion (λ f. is_before cmp range.lower false f ≡ true) (e ∷ es)
  last_before e [] falls h = (first_before e [] falls h, tt)
  last_before e (f ∷ fs) falls h = (first_before e (f ∷ fs) falls h, last_before f fs falls.1 h)

  -- whether a key's user key is before a bound, or what is said if there is no bound
  abbrev pub key_before : List ℕ → Option (List ℕ) → Bool → Bool
  key_before key bound otherwise = option_map_or (λ limit. is_lt (cmp (user_of key) limit)) bound otherwise

  pub ends_before : (es : List Entry) → NeverFalls cmp es → (key : List ℕ) → Some key ≡ option_map (λ e. e.key) (slice_get es (length es - 1)) → key_before key range.lower false ≡ true → entries_in cmp range es ≡ []
  ends_before [] falls key last h = refl
  ends_before (e ∷ es) falls key last h =
      none_of (e ∷ es) (all_before (e ∷ es) (last_before e es falls (ap (λ (k : List ℕ). key_before k range.lower false) (sym (last_from (e ∷ es) key last)) ∙ h)))

  pub begins_behind : (es : List Entry) → NeverFalls cmp es → (key : List ℕ) → Some key ≡ option_map (λ e. e.key) (slice_get es 0) → key_before key range.upper true ≡ false → entries_in cmp range es ≡ []
  begins_behind [] falls key first h = refl
  begins_behind (e ∷ es) falls key first h =
      none_of (e ∷ es) (all_behind (e ∷ es) (from_bound cmp total range.upper true (e ∷ es) falls (ap (λ (k : List ℕ). key_before k range.upper true) (sym (first_from (e ∷ es) key first)) ∙ h)))

  -- ---- cursors

  -- what lost entries before a range alone has in it what it had
  pub sought_same : (es left : List Entry) → LosesOnly (is_before cmp range.lower false) es left → entries_in cmp range left ≡ entries_in cmp range es
  sought_same es left h = leaves_filter (is_before cmp range.lower false) (λ e. is_in_range cmp range (user_of e.key)) (below_apart cmp range) es left h

  in_both : (xs ys : List Entry) → entries_in cmp range (xs ++ ys) ≡ entries_in cmp range xs ++ entries_in cmp range ys
  in_both [] ys = refl
  in_both (x ∷ xs) ys = by_test (is_in_range cmp range (user_of x.key)) (in_both xs ys)
    where
      by_test : (b : Bool) → entries_in cmp range (xs ++ ys) ≡ entries_in cmp range xs ++ entries_in cmp range ys
          → cond b (x ∷ entries_in cmp range (xs ++ ys)) (entries_in cmp range (xs ++ ys)) ≡ cond b (x ∷ entries_in cmp range xs) (entries_in cmp range xs) ++ entries_in cmp range ys
      by_test true same = ap (λ (zs : List Entry). x ∷ zs) same
      by_test false same = same

  append_join : (xs ys zs : List Entry) → (xs ++ ys) ++ zs ≡ xs ++ (ys ++ zs)
  append_join [] ys zs = refl
  append_join (x ∷ xs) ys zs = ap (λ (ws : List Entry). x ∷ ws) (append_join xs ys zs)

  joined_pushed : (lists : List (List Entry)) (l : List Entry) → entries_of_lists (lists ++ l ∷ []) ≡ entries_of_lists lists ++ l
  joined_pushed [] l = append-nil l
  joined_pushed (x ∷ xs) l = ap (λ (es : List Entry). x ++ es) (joined_pushed xs l) ∙ sym (append_join x (entries_of_lists xs) l)

  -- one list more
  pub in_pushed : (lists : List (List Entry)) (l : List Entry) → entries_in cmp range (entries_of_lists (lists ++ l ∷ [])) ≡ entries_in cmp range (entries_of_lists lists) ++ entries_in cmp range l
  in_pushed lists l = ap (entries_in cmp range) (joined_pushed lists l) ∙ in_both (entries_of_lists lists) l

  -- a list that has nothing in the range
  pub in_left_out : (lists : List (List Entry)) (l : List Entry) → entries_in cmp range l ≡ [] → entries_in cmp range (entries_of_lists lists) ≡ entries_in cmp range (entries_of_lists lists) ++ entries_in cmp range l
  in_left_out lists l none = sym (ap (λ (es : List Entry). entries_in cmp range (entries_of_lists lists) ++ es) none ∙ append-nil (entries_in cmp range (entries_of_lists lists)))

-- one more of a list, as it is seen
pub map_next : {X Y : Type 0} (f : X → Y) (xs : List X) (i : ℕ) (x : X) → i < length xs → x ≡ get_or xs i x → map f (take (i + 1) xs) ≡ map f (take i xs) ++ f x ∷ []
map_next f xs i x h is =
    ap (map f) (take_more xs i x h) ∙ ap (λ (y : _). map f (take i xs ++ y ∷ [])) (sym is) ∙ map_push f (take i xs) x
