-- No file of a level that is left goes on within the user key of a chosen file's largest key.
use Rattle.std.proofs.Common.{◌≡◌, ℕ, Bool, true, false, not, cond, eqb, ◌&&◌, List, [], ◌∷◌, ◌++◌, Option, Some, None, refl, sym, ap, subst, ◌∙◌, inl, inr, append_assoc, append-nil}
use Rattle.std.specs.Prelude.{◌⊎◌}
use Rattle.std.specs.List.{filter, find, fold}
use Rattle.std.specs.List.Sorted.{IsStrictlySortedBy}
use Rattle.std.specs.Cmp.{IsTotalOrder}
use Rattle.std.specs.Ordering.{is_lt, is_le, is_eq, nat_cmp, ordering_then, ordering_reverse}
use Rattle.std.specs.declared.cmp.Ordering.{Ordering}
use Rattle.std.specs.declared.cmp.Ordering.TheVariants.{Less, Equal, Greater}
use Rattle.ikey.specs.Key.{user_of}
use Rattle.ikey.specs.Order.{internal_cmp}
use Rattle.edit.specs.VersionOrder.{file_cmp}
use Rattle.edit.specs.declared.meta.FileMeta.{FileMeta}
use Rattle.edit.proofs.SortedFiles.{same_number}
use Rattle.pick.specs.Ranges.{is_at_most, begins_by, ends_at_or_after, overlaps}
use Rattle.pick.specs.Boundaries.{greater_key, with_largest, largest_key, goes_on, is_among, next_boundary, IsChain}
use Rattle.reads.specs.Lawful.{AreDisjoint}
use Rattle.pick.proofs.Lists.{IsIn, all_in, any_from, any_gives, and_both, and_first, and_second, cond_true, false_true, filter_in, in_filter, in_front, in_back, in_either, find_some, find_none}
use Rattle.pick.proofs.UserOrders.{le_refl, le_trans}
use Rattle.pick.proofs.VersionFiles.{AreLevelFiles}
use Rattle.pick.proofs.Chains.{is_next, largest-push}
use Rattle.compact.proofs.FileKeys.{IsUpTo, keys_total, upto_below, below_upto, below_not_upto, tied_both, tied_back, less_upto, user_upto}
use Rattle.compact.proofs.ClosedLevels.{among_own, other_number}

is_less : (o : Ordering) → is_lt o ≡ true → o ≡ Less
is_less Less e = refl
is_less Equal e = absurd cc
is_less Greater e = absurd cc

is_equal : (o : Ordering) → is_eq o ≡ true → o ≡ Equal
is_equal Less e = absurd cc
is_equal Equal e = refl
is_equal Greater e = absurd cc

not_less_back : (o : Ordering) → is_lt o ≡ false → is_le (ordering_reverse o) ≡ true
not_less_back Less e = absurd cc
not_less_back Equal e = refl
not_less_back Greater e = refl

first_upto : (o p : Ordering) → ordering_then o p ≡ Less → is_le o ≡ true
first_upto Less p e = refl
first_upto Equal p e = refl
first_upto Greater p e = absurd cc

not_on : (a b : Bool) → a ≡ false → b ≡ true → (not a && b) ≡ true
not_on a b e f = rw (e, f) refl

pub not_first : (a : Bool) → not a ≡ true → a ≡ false
not_first true e = absurd cc
not_first false e = refl

-- the first of rising files that passes a test is before each other one that does
found_first : (R : FileMeta → FileMeta → Ordering) (p : FileMeta → Bool) (files : List FileMeta) (g f : FileMeta) → IsStrictlySortedBy R files → find p files ≡ Some g → IsIn files f → p f ≡ true → (f ≡ g) ⊎ (R g f ≡ Less)
unfolding IsStrictlySortedBy
found_first R p [] g f rise found i passes = absurd i
found_first R p (x ∷ xs) g f rise found i passes = by_head (p x) refl found i (λ h later. found_first R p xs g f rise.1 h later passes)
  where
    some : (y z : FileMeta) → Some y ≡ Some z → y ≡ z
    some y z e = cc

    by_head : (b : Bool) → p x ≡ b → cond b (Some x) (find p xs) ≡ Some g → (f ≡ x) ⊎ IsIn xs f → (find p xs ≡ Some g → IsIn xs f → (f ≡ g) ⊎ (R g f ≡ Less)) → (f ≡ g) ⊎ (R g f ≡ Less)
    by_head true e h (inl same) rest = inl (same ∙ some x g h)
    by_head true e h (inr later) rest = inr (subst (λ (y : FileMeta). R y f ≡ Less) (some x g h) (all_in (λ (y : FileMeta). R x y ≡ Less) xs rise.0 f later))
    by_head false e h (inl same) rest = false_true (p x) (ap p (sym same) ∙ passes) e
    by_head false e h (inr later) rest = rest h later

module _ (cmp : List ℕ → List ℕ → Ordering) (total : IsTotalOrder cmp) where
  -- a file begins after the end of another, within its user key
  pub record Follows (i f : FileMeta) : Type 0 where
    pub behind : internal_cmp cmp i.largest f.smallest ≡ Less
    pub within : cmp (user_of i.largest) (user_of f.smallest) ≡ Equal

  -- a key between two of one user key has that user key
  user_between : (a b c : List ℕ) → IsUpTo cmp a b → internal_cmp cmp b c ≡ Less → cmp (user_of a) (user_of c) ≡ Equal → cmp (user_of b) (user_of c) ≡ Equal
  user_between a b c h lt e =
      tied_both cmp total (user_of b) (user_of c) (user_upto cmp total b c (less_upto cmp total b c lt))
      (le_trans cmp total (user_of c) (user_of a) (user_of b) (tied_back cmp total (user_of a) (user_of c) e) (user_upto cmp total a b h))

  -- a range that begins by a user key begins by each later one, and one that ends from it ends from each earlier one
  pub begins_on : (upper : List FileMeta) (u w : List ℕ) → begins_by cmp upper u ≡ true → is_at_most cmp u w ≡ true → begins_by cmp upper w ≡ true
  begins_on upper u w h le =
      let x = any_gives (λ (g : FileMeta). is_at_most cmp (user_of g.smallest) u) upper h in
      any_from (λ (g : FileMeta). is_at_most cmp (user_of g.smallest) w) upper x.item x.inside (le_trans cmp total (user_of x.item.smallest) u w x.passes le)

  pub ends_on : (upper : List FileMeta) (u w : List ℕ) → ends_at_or_after cmp upper u ≡ true → is_at_most cmp w u ≡ true → ends_at_or_after cmp upper w ≡ true
  ends_on upper u w h le =
      let x = any_gives (λ (g : FileMeta). is_at_most cmp u (user_of g.largest)) upper h in
      any_from (λ (g : FileMeta). is_at_most cmp w (user_of g.largest)) upper x.item x.inside (le_trans cmp total w u (user_of x.item.largest) le x.passes)

  goes_from : (key : List ℕ) (f : FileMeta) → internal_cmp cmp key f.smallest ≡ Less → cmp (user_of key) (user_of f.smallest) ≡ Equal → goes_on cmp (Some key) f ≡ true
  goes_from key f lt e = and_both (is_lt (internal_cmp cmp key f.smallest)) (is_eq (cmp (user_of key) (user_of f.smallest))) (ap is_lt lt) (ap is_eq e)

  goes_behind : (key : List ℕ) (f : FileMeta) → goes_on cmp (Some key) f ≡ true → internal_cmp cmp key f.smallest ≡ Less
  goes_behind key f h = is_less (internal_cmp cmp key f.smallest) (and_first (is_lt (internal_cmp cmp key f.smallest)) (is_eq (cmp (user_of key) (user_of f.smallest))) h)

  pub goes_within : (key : List ℕ) (f : FileMeta) → goes_on cmp (Some key) f ≡ true → cmp (user_of key) (user_of f.smallest) ≡ Equal
  goes_within key f h = is_equal (cmp (user_of key) (user_of f.smallest)) (and_second (is_lt (internal_cmp cmp key f.smallest)) (is_eq (cmp (user_of key) (user_of f.smallest))) h)

  -- ---- the largest key

  -- the largest key is at least a key and those of the files, and is one of them
  record LargestFrom (key : List ℕ) (files : List FileMeta) : Type 0 where
    top : List ℕ
    is : fold (with_largest cmp) (Some key) files ≡ Some top
    above_key : IsUpTo cmp key top
    above : (f : FileMeta) → IsIn files f → IsUpTo cmp f.largest top
    source : (top ≡ key) ⊎ ((f : FileMeta) × (IsIn files f × (top ≡ f.largest)))

  greater_first : (a b : List ℕ) (t : Bool) → is_lt (internal_cmp cmp a b) ≡ t → IsUpTo cmp a (cond t b a)
  greater_first a b true e = less_upto cmp total a b (is_less (internal_cmp cmp a b) e)
  greater_first a b false e = le_refl (internal_cmp cmp) (keys_total cmp total) a

  greater_second : (a b : List ℕ) (t : Bool) → is_lt (internal_cmp cmp a b) ≡ t → IsUpTo cmp b (cond t b a)
  greater_second a b true e = le_refl (internal_cmp cmp) (keys_total cmp total) b
  greater_second a b false e = ap is_le ((keys_total cmp total).antisymm b a) ∙ not_less_back (internal_cmp cmp a b) e

  greater_either : (a b : List ℕ) (t : Bool) → (cond t b a ≡ a) ⊎ (cond t b a ≡ b)
  greater_either a b true = inr refl
  greater_either a b false = inl refl

  largest_from : (key : List ℕ) (files : List FileMeta) → LargestFrom key files
  largest_from key [] = record { top = key; is = refl; above_key = le_refl (internal_cmp cmp) (keys_total cmp total) key; above = λ f i. absurd i; source = inl refl }
  largest_from key (g ∷ files) =
      let next = greater_key cmp key g.largest in
      let rest = largest_from next files in
      let first : IsUpTo cmp key next = greater_first key g.largest (is_lt (internal_cmp cmp key g.largest)) refl in
      let second : IsUpTo cmp g.largest next = greater_second key g.largest (is_lt (internal_cmp cmp key g.largest)) refl in
      let upto = le_trans (internal_cmp cmp) (keys_total cmp total) in
      record {
        top = rest.top;
        is = rest.is;
        above_key = upto key next rest.top first rest.above_key;
        above = λ f i. elim i [
          | inl same ↦ subst (λ (x : FileMeta). IsUpTo cmp x.largest rest.top) (sym same) (upto g.largest next rest.top second rest.above_key)
          | inr later ↦ rest.above f later
        ];
        source = elim rest.source [
          | inl e ↦ elim (greater_either key g.largest (is_lt (internal_cmp cmp key g.largest))) [ inl k ↦ inl (e ∙ k) | inr k ↦ inr (g, (inl refl, e ∙ k)) ]
          | inr x ↦ inr (x.0, (inr x.1.0, x.1.1))
        ];
      }

  -- of files, one has the largest key, and none a greater one
  pub record HasLargest (files : List FileMeta) : Type 0 where
    pub last : FileMeta
    pub there : IsIn files last
    pub is : largest_key cmp files ≡ Some last.largest
    pub above : (f : FileMeta) → IsIn files f → IsUpTo cmp f.largest last.largest

  pub has_largest : (files : List FileMeta) (f : FileMeta) → IsIn files f → HasLargest files
  has_largest [] f i = absurd i
  has_largest (g ∷ files) f i = of_source from.source
    where
      from : LargestFrom g.largest files
      from = largest_from g.largest files

      here : (last : FileMeta) → IsIn (g ∷ files) last → from.top ≡ last.largest → HasLargest (g ∷ files)
      here last there e = record {
        last = last;
        there = there;
        is = from.is ∙ ap (λ (k : List ℕ). Some k) e;
        above = λ q j. elim j [
          | inl same ↦ subst (λ (x : FileMeta). IsUpTo cmp x.largest last.largest) (sym same) (subst (IsUpTo cmp g.largest) e from.above_key)
          | inr later ↦ subst (IsUpTo cmp q.largest) e (from.above q later)
        ];
      }

      of_source : (from.top ≡ g.largest) ⊎ ((x : FileMeta) × (IsIn files x × (from.top ≡ x.largest))) → HasLargest (g ∷ files)
      of_source (inl e) = here g (inl refl) e
      of_source (inr x) = here x.0 (inr x.1.0) x.1.1

  -- ---- a level whose files' ranges are disjoint

  module _ (files : List FileMeta) (level : AreLevelFiles cmp files) (ordered : (f : FileMeta) → IsIn files f → IsUpTo cmp f.smallest f.largest)
      (disjoint : (f g : FileMeta) → IsIn files f → IsIn files g → same_number f g ≡ false → AreDisjoint cmp f g) where
    -- each file left by the final ones that follows a chosen one goes on within the user key of the chosen files' largest key
    abbrev pub Leads : List FileMeta → List FileMeta → Type 0
    Leads final chosen = (f i : FileMeta) → IsIn files f → is_among final f ≡ false → IsIn chosen i → Follows i f → goes_on cmp (largest_key cmp chosen) f ≡ true

    first_stands : (g f : FileMeta) → file_cmp cmp g f ≡ Less → IsUpTo cmp g.smallest f.smallest
    first_stands g f e = first_upto (internal_cmp cmp g.smallest f.smallest) (nat_cmp g.number f.number) e

    -- the largest key is that of the boundary file that is added
    pushed : (o : Option (List ℕ)) (g : FileMeta) → IsIn files g → goes_on cmp o g ≡ true → with_largest cmp o g ≡ Some g.largest
    pushed None g at goes = absurd cc
    pushed (Some key) g at goes =
        let lt : internal_cmp cmp key g.largest ≡ Less = below_upto (internal_cmp cmp) (keys_total cmp total) key g.smallest g.largest (goes_behind key g goes) (ordered g at) in
        ap (λ (k : List ℕ). Some k) (cond_true (is_lt (internal_cmp cmp key g.largest)) g.largest key (ap is_lt lt))

    -- what goes on after the boundary file that is added goes on within its user key
    goes_past : (o : Option (List ℕ)) (g f : FileMeta) → IsIn files g → goes_on cmp o g ≡ true → goes_on cmp o f ≡ true → internal_cmp cmp g.largest f.smallest ≡ Less → goes_on cmp (Some g.largest) f ≡ true
    goes_past None g f at goes also behind = absurd cc
    goes_past (Some key) g f at goes also behind =
        let lt : internal_cmp cmp key g.largest ≡ Less = below_upto (internal_cmp cmp) (keys_total cmp total) key g.smallest g.largest (goes_behind key g goes) (ordered g at) in
        goes_from g.largest f behind (user_between key g.largest f.smallest (less_upto cmp total key g.largest lt) behind (goes_within key f also))

    leads_on : (final chosen : List FileMeta) (g : FileMeta) → IsIn final g → ((q : FileMeta) → IsIn chosen q → IsIn final q) → next_boundary cmp files chosen ≡ Some g → Leads final chosen → Leads final (chosen ++ g ∷ [])
    leads_on final chosen g final_g inside found leads f i at out there follows = subst (λ (o : Option (List ℕ)). goes_on cmp o f ≡ true) (sym now) (of_side (in_either chosen (g ∷ []) i there))
      where
        of_g : IsIn files g × (is_next cmp total chosen g ≡ true)
        of_g = find_some (is_next cmp total chosen) files g found

        goes : goes_on cmp (largest_key cmp chosen) g ≡ true
        goes = and_second (not (is_among chosen g)) (goes_on cmp (largest_key cmp chosen) g) of_g.1

        now : largest_key cmp (chosen ++ g ∷ []) ≡ Some g.largest
        now = largest-push cmp total chosen g ∙ pushed (largest_key cmp chosen) g of_g.0 goes

        still_out : (b : Bool) → is_among chosen f ≡ b → b ≡ false
        still_out true e = absurd (among_out e)
          where
            among_out : is_among chosen f ≡ true → ⊥
            among_out e =
                let x = any_gives (λ (q : FileMeta). eqb q.number f.number) chosen e in
                false_true (is_among final f) (any_from (λ (q : FileMeta). eqb q.number f.number) final x.item (inside x.item x.inside) x.passes) out
        still_out false e = refl

        behind_g : goes_on cmp (largest_key cmp chosen) f ≡ true → internal_cmp cmp g.largest f.smallest ≡ Less
        behind_g also =
            let passes : is_next cmp total chosen f ≡ true = not_on (is_among chosen f) (goes_on cmp (largest_key cmp chosen) f) (still_out (is_among chosen f) refl) also in
            elim (found_first (file_cmp cmp) (is_next cmp total chosen) files g f level.rise found at passes) [
              | inl same ↦ false_true (is_among final f) (among_own final f (subst (IsIn final) (sym same) final_g)) out
              | inr before ↦ elim (disjoint g f of_g.0 at (other_number final g f final_g out)) [
                | inl lt ↦ lt
                | inr lt ↦ absurd (below_not_upto (internal_cmp cmp) (keys_total cmp total) f.smallest g.smallest
                    (upto_below (internal_cmp cmp) (keys_total cmp total) f.smallest f.largest g.smallest (ordered f at) lt) (first_stands g f before))
              ]
            ]

        of_side : IsIn chosen i ⊎ IsIn (g ∷ []) i → goes_on cmp (Some g.largest) f ≡ true
        of_side (inl j) = let also = leads f i at out j follows in goes_past (largest_key cmp chosen) g f of_g.0 goes also (behind_g also)
        of_side (inr (inl same)) = goes_from g.largest f (subst (λ (x : FileMeta). internal_cmp cmp x.largest f.smallest ≡ Less) same follows.behind) (subst (λ (x : FileMeta). cmp (user_of x.largest) (user_of f.smallest) ≡ Equal) same follows.within)
        of_side (inr (inr j)) = absurd j

    chain_closed : (final chosen added : List FileMeta) → final ≡ chosen ++ added → IsChain cmp files chosen added → Leads final chosen → (f i : FileMeta) → IsIn files f → is_among final f ≡ false → IsIn final i → Follows i f → ⊥
    chain_closed final chosen [] is chain leads f i at out there follows =
        let same : final ≡ chosen = is ∙ append-nil chosen in
        let goes = leads f i at out (subst (λ (l : List FileMeta). IsIn l i) same there) follows in
        let none : is_next cmp total chosen f ≡ false = find_none (is_next cmp total chosen) files chain f at in
        false_true (is_next cmp total chosen f) (not_on (is_among chosen f) (goes_on cmp (largest_key cmp chosen) f) (ap (λ (l : List FileMeta). is_among l f) (sym same) ∙ out) goes) none
    chain_closed final chosen (g ∷ added) is chain leads f i at out there follows =
        chain_closed final (chosen ++ g ∷ []) added (is ∙ sym (append_assoc chosen (g ∷ []) added)) chain.1
        (leads_on final chosen g (subst (λ (l : List FileMeta). IsIn l g) (sym is) (in_back chosen (g ∷ added) g (inl refl))) (λ q j. subst (λ (l : List FileMeta). IsIn l q) (sym is) (in_front chosen (g ∷ added) q j)) chain.0 leads)
        f i at out there follows

    -- no file that is left follows one that is chosen or a boundary file
    pub none_follows : (chosen added : List FileMeta) → IsChain cmp files chosen added → Leads (chosen ++ added) chosen → (f i : FileMeta) → IsIn files f → is_among (chosen ++ added) f ≡ false → IsIn (chosen ++ added) i → Follows i f → ⊥
    none_follows chosen added chain leads = chain_closed (chosen ++ added) chosen added refl chain leads

    -- ---- where the chain begins

    -- one file alone
    pub one_leads : (final : List FileMeta) (first : FileMeta) → Leads final (first ∷ [])
    one_leads final first f i at out (inl same) follows =
        goes_from first.largest f (subst (λ (x : FileMeta). internal_cmp cmp x.largest f.smallest ≡ Less) same follows.behind) (subst (λ (x : FileMeta). cmp (user_of x.largest) (user_of f.smallest) ≡ Equal) same follows.within)
    one_leads final first f i at out (inr j) follows = absurd j

    -- the files that overlap a range
    pub overlapping_leads : (upper added : List FileMeta) → Leads (filter (overlaps cmp upper) files ++ added) (filter (overlaps cmp upper) files)
    overlapping_leads upper added f i at out there follows = subst (λ (o : Option (List ℕ)). goes_on cmp o f ≡ true) (sym most.is) (of_side (disjoint most.last f of_last.0 at (other_number final most.last f (in_front chosen added most.last most.there) out)))
      where
        chosen : List FileMeta
        chosen = filter (overlaps cmp upper) files

        final : List FileMeta
        final = filter (overlaps cmp upper) files ++ added

        most : HasLargest (filter (overlaps cmp upper) files)
        most = has_largest (filter (overlaps cmp upper) files) i there

        of_i : IsIn files i × (overlaps cmp upper i ≡ true)
        of_i = filter_in (overlaps cmp upper) files i there

        of_last : IsIn files most.last × (overlaps cmp upper most.last ≡ true)
        of_last = filter_in (overlaps cmp upper) files most.last most.there

        own : is_at_most cmp (user_of f.smallest) (user_of f.largest) ≡ true
        own = user_upto cmp total f.smallest f.largest (ordered f at)

        between : internal_cmp cmp f.largest most.last.smallest ≡ Less → overlaps cmp upper f ≡ true
        between lt =
            and_both (begins_by cmp upper (user_of f.largest)) (ends_at_or_after cmp upper (user_of f.smallest))
            (begins_on upper (user_of i.largest) (user_of f.largest) (and_first (begins_by cmp upper (user_of i.largest)) (ends_at_or_after cmp upper (user_of i.smallest)) of_i.1)
            (le_trans cmp total (user_of i.largest) (user_of f.smallest) (user_of f.largest) (ap is_le follows.within) own))
            (ends_on upper (user_of most.last.smallest) (user_of f.smallest) (and_second (begins_by cmp upper (user_of most.last.largest)) (ends_at_or_after cmp upper (user_of most.last.smallest)) of_last.1)
            (le_trans cmp total (user_of f.smallest) (user_of f.largest) (user_of most.last.smallest) own (user_upto cmp total f.largest most.last.smallest (less_upto cmp total f.largest most.last.smallest lt))))

        of_side : AreDisjoint cmp most.last f → goes_on cmp (Some most.last.largest) f ≡ true
        of_side (inl lt) = goes_from most.last.largest f lt (user_between i.largest most.last.largest f.smallest (most.above i there) lt follows.within)
        of_side (inr lt) = false_true (is_among (filter (overlaps cmp upper) files ++ added) f) (among_own (filter (overlaps cmp upper) files ++ added) f (in_front (filter (overlaps cmp upper) files) added f (in_filter (overlaps cmp upper) files f at (between lt)))) out
