-- In version order, a file overlaps none of those after one that it ends before.
use Rattle.std.proofs.Common.{◌≡◌, ℕ, zero, suc, ◌+◌, ◌-◌, ◌<◌, ◌≤◌, Bool, true, false, cond, List, [], ◌∷◌, ◌++◌, length, map, take, drop, get_or, ◌⊎◌, inl, inr, refl, sym, ap, ◌∙◌, arith}
use Rattle.std.proofs.lemmas.List.{append-nil, length-drop, take_all}
use Rattle.std.specs.Prelude.{◌&&◌, ◌||◌, nat_eq, nat_lt, not}
use Rattle.std.specs.List.{filter}
use Rattle.std.specs.Cmp.{IsTotalOrder}
use Rattle.std.specs.Ordering.{is_le, is_lt}
use Rattle.std.proofs.lemmas.Bool.{and_from, and_parts, eq-eqb, eqb-true, lt-ltb, ltb-true, or_cases, or_left, or_right}
use Rattle.table.proofs.Steps.{next_item}
use Rattle.table.proofs.Ordered.{is_lt-true}
use Rattle.merge.proofs.Orders.{lt_le_trans}
use Rattle.table.specs.Comparator.{KeyOrder}
use Rattle.table.specs.Order.{internal_cmp}
use Rattle.folder.specs.meta.NewFile.{NewFile}
use Rattle.reads.specs.FileList.{level_file_in}
use Rattle.faults.specs.FileFaults.{are_disjoint, lies_before, overlap, overlap_faults}
use Rattle.faults.specs.FileOrder.{are_in_order, is_in_order, is_past}
use Rattle.faults.specs.declared.file_fault.FileFault.{FileFault}
use Rattle.faults.specs.declared.file_fault.FileFault.TheVariants.{Overlaps}
use Rattle.faults.specs.declared.table_test.TestedFile.{TestedFile}

module _ {cmp : KeyOrder} (total : IsTotalOrder cmp) where
  -- what the file is past
  past_from : (f g : NewFile) → (f.level ≡ 0) ⊎ ((f.level < g.level) ⊎ ((f.level ≡ g.level) × (lies_before cmp f.meta g.meta ≡ true))) → is_past cmp f g ≡ true
  past_from f g (inl top) = or_left (nat_eq f.level 0) _ (eq-eqb f.level 0 top)
  past_from f g (inr (inl above)) = or_right (nat_eq f.level 0) _ (or_left (nat_lt f.level g.level) _ (lt-ltb f.level g.level above))
  past_from f g (inr (inr beside)) =
      or_right (nat_eq f.level 0) _ (or_right (nat_lt f.level g.level) _ (and_from (nat_eq f.level g.level) (lies_before cmp f.meta g.meta) (eq-eqb f.level g.level beside.0) beside.1))

  past_is : (f g : NewFile) → is_past cmp f g ≡ true → (f.level ≡ 0) ⊎ ((f.level < g.level) ⊎ ((f.level ≡ g.level) × (lies_before cmp f.meta g.meta ≡ true)))
  past_is f g h = elim (or_cases (nat_eq f.level 0) _ h) [
    | inl top ↦ inl (eqb-true f.level 0 top)
    | inr rest ↦ elim (or_cases (nat_lt f.level g.level) _ rest) [
      | inl above ↦ inr (inl (ltb-true f.level g.level above))
      | inr beside ↦ let p = and_parts (nat_eq f.level g.level) (lies_before cmp f.meta g.meta) beside in inr (inr (eqb-true f.level g.level p.0, p.1))
    ]
  ]

  order_is : (f g : NewFile) → is_in_order cmp f g ≡ true → (f.level < g.level) ⊎ ((f.level ≡ g.level) × (is_le (internal_cmp cmp f.meta.smallest g.meta.smallest) ≡ true))
  order_is f g h = elim (or_cases (nat_lt f.level g.level) _ h) [
    | inl above ↦ inl (ltb-true f.level g.level above)
    | inr beside ↦ let p = and_parts (nat_eq f.level g.level) (is_le (internal_cmp cmp f.meta.smallest g.meta.smallest)) beside in inr (eqb-true f.level g.level p.0, p.1)
  ]

  -- the next file is past too
  past_next : (f g h : NewFile) → is_past cmp f g ≡ true → is_in_order cmp g h ≡ true → is_past cmp f h ≡ true
  past_next f g h past order = past_from f h (by (past_is f g past) (order_is g h order))
    where
      by : (f.level ≡ 0) ⊎ ((f.level < g.level) ⊎ ((f.level ≡ g.level) × (lies_before cmp f.meta g.meta ≡ true)))
          → (g.level < h.level) ⊎ ((g.level ≡ h.level) × (is_le (internal_cmp cmp g.meta.smallest h.meta.smallest) ≡ true))
          → (f.level ≡ 0) ⊎ ((f.level < h.level) ⊎ ((f.level ≡ h.level) × (lies_before cmp f.meta h.meta ≡ true)))
      by (inl top) o = inl top
      by (inr (inl above)) (inl below) = inr (inl (omega arith))
      by (inr (inl above)) (inr same) = let e = same.0 in inr (inl (omega arith))
      by (inr (inr beside)) (inl below) = let e = beside.0 in inr (inl (omega arith))
      by (inr (inr beside)) (inr same) =
          inr (inr (
            beside.0 ∙ same.0,
            ap is_lt (lt_le_trans cmp total f.meta.largest g.meta.smallest h.meta.smallest (is_lt-true (internal_cmp cmp f.meta.largest g.meta.smallest) beside.1) same.1),
          ))

  levels_differ : (a b : ℕ) (rest : Bool) → (a ≡ 0) ⊎ (a < b) → ((nat_lt 0 a && nat_eq a b) && rest) ≡ false
  levels_differ a b rest h = by (nat_lt 0 a) refl (nat_eq a b) refl
    where
      by : (p : Bool) → nat_lt 0 a ≡ p → (q : Bool) → nat_eq a b ≡ q → ((p && q) && rest) ≡ false
      by false one q two = refl
      by true one false two = refl
      by true one true two =
          let low = ltb-true 0 a one in
          let same = eqb-true a b two in
          elim h [ inl top ↦ absurd (omega arith) | inr less ↦ absurd (omega arith) ]

  disjoint_not : (x b c : Bool) → b ≡ true → (x && not (b || c)) ≡ false
  disjoint_not true true c h = refl
  disjoint_not false true c h = refl
  disjoint_not x false c h = absurd cc

  past_apart : (f g : NewFile) → is_past cmp f g ≡ true → overlap cmp f g ≡ false
  past_apart f g past = elim (past_is f g past) [
    | inl top ↦ levels_differ f.level g.level (not (are_disjoint cmp f.meta g.meta)) (inl top)
    | inr (inl above) ↦ levels_differ f.level g.level (not (are_disjoint cmp f.meta g.meta)) (inr above)
    | inr (inr beside) ↦ disjoint_not (nat_lt 0 f.level && nat_eq f.level g.level) (lies_before cmp f.meta g.meta) (lies_before cmp g.meta f.meta) beside.1
  ]

  none_left : (f g : NewFile) (rest : List NewFile) → overlap cmp f g ≡ false → filter (overlap cmp f) rest ≡ [] → filter (overlap cmp f) (g ∷ rest) ≡ []
  none_left f g rest apart none = ap (λ (b : Bool). cond b (g ∷ filter (overlap cmp f) rest) (filter (overlap cmp f) rest)) apart ∙ none

  none_behind : (f g : NewFile) (rest : List NewFile) → are_in_order cmp (g ∷ rest) ≡ true → is_past cmp f g ≡ true → filter (overlap cmp f) (g ∷ rest) ≡ []
  none_behind f g [] order past = none_left f g [] (past_apart f g past) refl
  none_behind f g (h ∷ rest) order past =
      let p = and_parts (is_in_order cmp g h) (are_in_order cmp (h ∷ rest)) order in
      none_left f g (h ∷ rest) (past_apart f g past) (none_behind f h rest p.1 (past_next f g h past p.0))

order_tail : (cmp : KeyOrder) (f : NewFile) (files : List NewFile) → are_in_order cmp (f ∷ files) ≡ true → are_in_order cmp files ≡ true
order_tail cmp f [] h = refl
order_tail cmp f (g ∷ files) h = (and_parts (is_in_order cmp f g) (are_in_order cmp (g ∷ files)) h).1

-- ---- files that were tested

abbrev pub own : TestedFile → NewFile
own t = level_file_in t.file

-- files in order are so without the first ones
pub order_drop : (cmp : KeyOrder) (i : ℕ) (ts : List TestedFile) → are_in_order cmp (map own ts) ≡ true → are_in_order cmp (map own (drop i ts)) ≡ true
order_drop cmp zero ts h = h
order_drop cmp (suc i) [] h = refl
order_drop cmp (suc i) (t ∷ ts) h = order_drop cmp i ts (order_tail cmp (own t) (map own ts) h)

-- the same of those behind a place
pub order_behind : (cmp : KeyOrder) (i : ℕ) (ts : List TestedFile) (b : Bool) → b ≡ are_in_order cmp (map own ts) → b ≡ true → are_in_order cmp (map own (take (length ts - i) (drop i ts))) ≡ true
order_behind cmp i ts b is holds =
    let whole : take (length ts - i) (drop i ts) ≡ drop i ts = take_all (length ts - i) (drop i ts) (omega (arith, length-drop i ts)) in
    ap (λ (xs : List TestedFile). are_in_order cmp (map own xs)) whole ∙ order_drop cmp i ts (sym is ∙ holds)

-- no two files are left
pub order_end : (cmp : KeyOrder) (ts : List TestedFile) (i : ℕ) → length ts ≤ i + 1 → are_in_order cmp (map own (drop i ts)) ≡ true
order_end cmp [] zero h = refl
order_end cmp [] (suc i) h = refl
order_end cmp (t ∷ []) zero h = refl
order_end cmp (t ∷ s ∷ ts) zero h = absurd (omega arith)
order_end cmp (t ∷ ts) (suc i) h = order_end cmp ts i (omega arith)

-- ---- what a file overlaps

abbrev as_fault : NewFile → FileFault
as_fault g = Overlaps g.meta.number

overlaps_parts : (cmp : KeyOrder) (f : NewFile) (i : ℕ) (ts : List TestedFile) → overlap_faults cmp f (map own ts) ≡ overlap_faults cmp f (map own (take i ts)) ++ overlap_faults cmp f (map own (drop i ts))
overlaps_parts cmp f zero ts = refl
overlaps_parts cmp f (suc i) [] = refl
overlaps_parts cmp f (suc i) (t ∷ ts) = by (overlap cmp f (own t)) (overlaps_parts cmp f i ts)
  where
    by : (b : Bool) → overlap_faults cmp f (map own ts) ≡ overlap_faults cmp f (map own (take i ts)) ++ overlap_faults cmp f (map own (drop i ts))
        → map as_fault (cond b (own t ∷ filter (overlap cmp f) (map own ts)) (filter (overlap cmp f) (map own ts)))
        ≡ map as_fault (cond b (own t ∷ filter (overlap cmp f) (map own (take i ts))) (filter (overlap cmp f) (map own (take i ts)))) ++ overlap_faults cmp f (map own (drop i ts))
    by true h = ap (λ (xs : List FileFault). Overlaps t.file.meta.now.number ∷ xs) h
    by false h = h

-- of files in order none from one on is overlapped that the file is past
pub none_from : {cmp : KeyOrder} → IsTotalOrder cmp → (f : NewFile) (t : TestedFile) (i : ℕ) (ts : List TestedFile) (before : List FileFault) → i < length ts → t ≡ get_or ts i t → are_in_order cmp (map own ts) ≡ true → is_past cmp f (own t) ≡ true
    → before ++ overlap_faults cmp f (map own (take i ts)) ≡ before ++ overlap_faults cmp f (map own ts)
none_from {cmp} total f t i ts before lt is order past =
    let parts : drop i ts ≡ t ∷ drop (i + 1) ts = next_item ts i t lt is in
    let sorted : are_in_order cmp (own t ∷ map own (drop (i + 1) ts)) ≡ true = sym (ap (λ (xs : List TestedFile). are_in_order cmp (map own xs)) parts) ∙ order_drop cmp i ts order in
    let none : overlap_faults cmp f (map own (drop i ts)) ≡ [] =
    ap (λ (xs : List TestedFile). overlap_faults cmp f (map own xs)) parts
    ∙ ap (map (λ (h : NewFile). Overlaps h.meta.number)) (none_behind total f (own t) (map own (drop (i + 1) ts)) sorted past) in
    let front : List FileFault = overlap_faults cmp f (map own (take i ts)) in
    ap (λ (xs : List FileFault). before ++ xs)
    (sym (append-nil front) ∙ sym (ap (λ (xs : List FileFault). front ++ xs) none) ∙ sym (overlaps_parts cmp f i ts))
