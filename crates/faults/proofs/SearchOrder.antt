-- The files of a version in the order of search: of two files the one of newer entries comes first.
use Rattle.std.proofs.Common.{◌≡◌, ℕ, zero, suc, ◌+◌, ◌<◌, Bool, true, false, cond, not, ◌&&◌, List, [], ◌∷◌, ◌++◌, length, map, get_or, refl, sym, ap, ap₂, subst, ◌∙◌, inl, inr, arith}
use Rattle.std.specs.Prelude.{◌⊎◌, Contains, nat_eq, nat_lt}
use Rattle.std.specs.BTreeSet.{insert_key}
use Rattle.std.specs.List.{IsDistinct, filter, fold}
use Rattle.std.specs.List.Sorted.{IsPermutation, IsSortedBy}
use Rattle.std.specs.Cmp.{IsTotalOrder}
use Rattle.std.specs.Ordering.{is_le, is_lt, nat_cmp, ordering_reverse, ordering_then}
use Rattle.std.specs.declared.cmp.Ordering.{Ordering}
use Rattle.std.specs.declared.cmp.Ordering.TheVariants.{Less, Equal, Greater}
use Rattle.std.proofs.lemmas.Bool.Decides.{Decides-eqb, Decides-ltb}
use Rattle.std.proofs.lemmas.List.{map-append}
use Rattle.std.proofs.lemmas.List.Elements.{Contains-get_or}
use Rattle.std.proofs.lemmas.List.Sorted.{Contains-permutation, IsPermutation-append_left, IsPermutation-filter_both, IsPermutation-map, IsPermutation-sym, IsPermutation-trans}
use Rattle.std.proofs.lemmas.Map.Keys.{IsDistinct-IsPermutation}
use Rattle.std.proofs.lemmas.Bool.{or_cases}
use Rattle.table.specs.Comparator.{KeyOrder}
use Rattle.table.specs.Order.{internal_cmp}
use Rattle.table.proofs.Ordered.{internal_cmp-total, is_lt-true}
use Rattle.folder.specs.VersionOrder.{at_level}
use Rattle.folder.specs.meta.FileMeta.{FileMeta}
use Rattle.folder.specs.meta.NewFile.{NewFile}
use Rattle.folder.proofs.Inserted.{all_permute}
use Rattle.folder.proofs.SortedFiles.{same_number}
use Rattle.folder.proofs.Tested.{eqb-sym}
use Rattle.reads.specs.FileChecks.{newest_first_cmp}
use Rattle.reads.specs.FileList.{AreAll, same_file, newer_number}
use Rattle.reads.proofs.FileOrder.{IsRange, comes_before, newest_first_cmp-total}
use Rattle.reads.proofs.Members.{first_in, from_filter, from_map, in_map, later_in}
use Rattle.reads.proofs.OrderedFiles.{Before, depth_at, top_at}
use Rattle.reads.proofs.Orders.{less_is as number_less}
use Rattle.reads.proofs.Pairs.{Pairs, pairs_append, pairs_both, pairs_map, pairs_to, pairs_unmap, pairs_weaker, pairs_within}
use Rattle.faults.specs.FileFaults.{are_disjoint, lies_before, overlap}
use Rattle.faults.specs.KeyFaults.{is_deep, is_sound, is_top, metas_where, searched_files}
use Rattle.faults.proofs.FileLists.{Follows, put_pairs}
use Rattle.faults.proofs.FindingLemmas.{distinct_kept}
use Rattle.faults.proofs.MisplacedLemmas.{pairs_filter}
use Rattle.faults.proofs.SearchLemmas.{falling_total, flips, tie_same}
use Rattle.folder.specs.Calls.{Files}

-- ---- lists

itself : {X : Type 0} (xs : List X) → map (λ x. x) xs ≡ xs
itself [] = refl
itself (x ∷ xs) = ap (λ ys. x ∷ ys) (itself xs)

-- ---- internal keys

module _ (T : List ℕ → List ℕ → Ordering) (total : IsTotalOrder T) where
  never_both : (a b : List ℕ) → T a b ≡ Less → (T b a ≡ Less) ⊎ (T b a ≡ Equal) → ⊥
  never_both a b h (inl k) = let both : Greater ≡ Less = sym (total.antisymm b a ∙ ap ordering_reverse h) ∙ k in absurd cc
  never_both a b h (inr k) = let both : Greater ≡ Equal = sym (total.antisymm b a ∙ ap ordering_reverse h) ∙ k in absurd cc

  up_to : (a b c : List ℕ) → is_le (T a b) ≡ true → T b c ≡ Less → T a c ≡ Less
  up_to a b c le less = by (T a b) refl le
    where
      by : (o : Ordering) → T a b ≡ o → is_le o ≡ true → T a c ≡ Less
      by Less e h = total.trans a b c e less
      by Equal e h = total.congr a b c e ∙ less
      by Greater e h = absurd cc

then_less : (a b : Ordering) → ordering_then a b ≡ Less → (a ≡ Less) ⊎ (a ≡ Equal)
then_less Less b e = inl refl
then_less Equal b e = inr refl
then_less Greater b e = absurd cc

-- ---- files of level 0, and the others

abbrev pub is_top_file : NewFile → Bool
is_top_file f = nat_eq f.level 0

abbrev pub is_deep_file : NewFile → Bool
is_deep_file f = not (nat_eq f.level 0)

positive : (n : ℕ) → not (nat_eq n 0) ≡ true → 0 < n
positive zero h = absurd cc
positive (suc n) h = omega arith

deep_level : (f : NewFile) → is_deep_file f ≡ true → 0 < f.level
deep_level f h = positive f.level h

again : (fs : List NewFile) → map (at_level 0) (metas_where is_top_file fs) ≡ filter is_top_file fs
again [] = refl
again (f ∷ fs) = by (nat_eq f.level 0) refl (again fs)
  where
    by : (b : Bool) → nat_eq f.level 0 ≡ b → map (at_level 0) (metas_where is_top_file fs) ≡ filter is_top_file fs → map (at_level 0) (map (λ (g : NewFile). g.meta) (cond b (f ∷ filter is_top_file fs) (filter is_top_file fs))) ≡ cond b (f ∷ filter is_top_file fs) (filter is_top_file fs)
    by true e rest = ap₂ (λ (g : NewFile) (gs : List NewFile). g ∷ gs) (ap (λ (n : ℕ). at_level n f.meta) (sym ((Decides-eqb f.level 0).0 e))) rest
    by false e rest = rest

-- the files in the order of search
abbrev pub search_list : List NewFile → List NewFile
search_list all = map (at_level 0) (fold (insert_key newer_number) [] (metas_where is_top_file all)) ++ filter is_deep_file all

module _ (all : List NewFile) where
  abbrev tops : List FileMeta
  tops = metas_where is_top_file all

  abbrev sorted : List FileMeta
  sorted = fold (insert_key newer_number) [] tops

  abbrev deep : List NewFile
  deep = filter is_deep_file all

  tops_distinct : IsDistinct same_file all → IsDistinct same_number tops
  tops_distinct apart = distinct_kept (λ (f : NewFile). f) is_top_file all (subst (IsDistinct same_file) (sym (itself all)) apart)

  pub permuted : IsDistinct same_file all → IsPermutation all (search_list all)
  permuted apart =
      IsPermutation-trans all (filter is_top_file all ++ deep) (search_list all)
      (IsPermutation-filter_both is_top_file is_deep_file (λ f. refl) all)
      (subst (λ (fs : List NewFile). IsPermutation (fs ++ deep) (search_list all)) (again all)
      (IsPermutation-append_left deep (map (at_level 0) tops) (map (at_level 0) sorted)
      (IsPermutation-map (at_level 0) tops sorted (all_permute newer_number falling_total same_number flips tie_same [] tops (tops_distinct apart)))))

module _ (cmp : KeyOrder) (total : IsTotalOrder cmp) (all : List NewFile) (follows : Pairs (Follows cmp) all) (ranges : (f : NewFile) → Contains all f → IsRange cmp total f) (apart : Pairs (λ f g. overlap cmp f g ≡ false) all) where
  abbrev T : List ℕ → List ℕ → Ordering
  T = internal_cmp cmp

  disjoint_by : (one two three : Bool) → one ≡ true → two ≡ true → ((one && two) && not three) ≡ false → three ≡ true
  disjoint_by true true true a b h = refl
  disjoint_by true true false a b h = absurd cc
  disjoint_by true false three a b h = absurd cc
  disjoint_by false two three a b h = absurd cc

  deep_two : (f g : NewFile) → Contains (filter is_deep_file all) f → Contains (filter is_deep_file all) g → Follows cmp f g × (overlap cmp f g ≡ false) → Before cmp f g
  deep_two f g i j (inl lt, h) = inl lt
  deep_two f g i j (inr at, h) =
      let below : 0 < f.level = deep_level f (from_filter is_deep_file all f i).1 in
      let level : f.level ≡ g.level = at.0 in
      let disjoint : are_disjoint cmp f.meta g.meta ≡ true = disjoint_by (nat_lt 0 f.level) (nat_eq f.level g.level) (are_disjoint cmp f.meta g.meta) ((Decides-ltb 0 f.level).1 below) ((Decides-eqb f.level g.level).1 level) h in
      elim (or_cases (lies_before cmp f.meta g.meta) (lies_before cmp g.meta f.meta) disjoint) [
        | inl first ↦ inr (level, depth_at cmp f g below (is_lt-true (T f.meta.largest g.meta.smallest) first))
        | inr back ↦
            let behind : T g.meta.smallest f.meta.smallest ≡ Less = up_to T (internal_cmp-total total) g.meta.smallest g.meta.largest f.meta.smallest (ranges g (from_filter is_deep_file all g j).0) (is_lt-true (T g.meta.largest f.meta.smallest) back) in
            absurd (never_both T (internal_cmp-total total) g.meta.smallest f.meta.smallest behind (then_less (T f.meta.smallest g.meta.smallest) (nat_cmp f.meta.number g.meta.number) at.1))
      ]

  deep_before : Pairs (Before cmp) (deep all)
  deep_before =
      pairs_within (λ f g. Follows cmp f g × (overlap cmp f g ≡ false)) (Before cmp) (deep all) deep_two
      (pairs_filter (λ f g. Follows cmp f g × (overlap cmp f g ≡ false)) is_deep_file all (pairs_both (Follows cmp) (λ f g. overlap cmp f g ≡ false) all follows apart))

  top_before : Pairs (Before cmp) (map (at_level 0) (sorted all))
  top_before =
      pairs_map (Before cmp) (at_level 0) (sorted all)
      (pairs_weaker (λ f g. newer_number f g ≡ Less) (λ f g. Before cmp (at_level 0 f) (at_level 0 g)) (λ f g h. inr (refl, top_at cmp (at_level 0 f) (at_level 0 g) refl (number_less g.number f.number h))) (sorted all)
      (put_pairs newer_number falling_total (tops all)))

  top_level : (f : NewFile) → Contains (map (at_level 0) (sorted all)) f → f.level ≡ 0
  top_level f at = let m = from_map (at_level 0) (sorted all) f at in sym (ap (λ (x : NewFile). x.level) m.is)

  pub before : Pairs (Before cmp) (search_list all)
  before =
      pairs_append (Before cmp) (map (at_level 0) (sorted all)) (deep all) top_before deep_before
      (λ f g i j. inl (omega (arith, top_level f i, deep_level g (from_filter is_deep_file all g j).1)))

  -- ---- so they stand

  module _ (files : List NewFile) (listed : AreAll files all) where
    abbrev list : List NewFile
    list = search_list all

    moved : IsPermutation all list
    moved = permuted all listed.distinct

    pub from_search : (f : NewFile) → Contains list f → Contains all f
    from_search f at = Contains-permutation list all f (IsPermutation-sym all list moved) at

    pub all_again : AreAll files list
    all_again = record {
      apart = listed.apart;
      distinct = IsDistinct-IsPermutation same_file (λ (f : NewFile) (g : NewFile). eqb-sym f.meta.number g.meta.number) all list moved listed.distinct;
      all = λ f at. Contains-permutation all list f moved (listed.all f at);
      only = λ f at. listed.only f (from_search f at);
    }

    -- the same of what stands for the files
    module _ {L : Type 0} (file_in : L → NewFile) (lend_file : NewFile → L) (same : (f : NewFile) → file_in (lend_file f) ≡ f) where
      abbrev pub items : List L
      items = map lend_file list

      pub files_again : (fs : List NewFile) → map file_in (map lend_file fs) ≡ fs
      files_again [] = refl
      files_again (f ∷ fs) = ap₂ (λ (g : NewFile) (gs : List NewFile). g ∷ gs) (same f) (files_again fs)

      two : (k : ℕ) (d : L) → k + 1 < length items → Before cmp (file_in (get_or items k d)) (file_in (get_or items (k + 1) d))
      two k d lt = pairs_to (λ x y. Before cmp (file_in x) (file_in y)) items (pairs_unmap (Before cmp) file_in items (subst (Pairs (Before cmp)) (sym (files_again list)) before)) k (k + 1) d (omega arith) lt

      in_range : (k : ℕ) (d : L) → k < length items → IsRange cmp total (file_in (get_or items k d))
      in_range k d lt =
          let f = file_in (get_or items k d) in
          ranges f (from_search f (subst (λ (fs : List NewFile). Contains fs f) (files_again list) (in_map file_in items (get_or items k d) (Contains-get_or items k d lt))))

      not_back : (f g : NewFile) → is_lt (newest_first_cmp cmp f g) ≡ true → is_lt (newest_first_cmp cmp g f) ≡ false
      not_back f g h = ap is_lt ((newest_first_cmp-total total).antisymm g f ∙ ap ordering_reverse (is_lt-true (newest_first_cmp cmp f g) h))

      pub in_order : IsSortedBy (λ f g. is_lt (newest_first_cmp cmp (file_in f) (file_in g))) items
      in_order k d le lt =
          let f = file_in (get_or items k d) in
          let g = file_in (get_or items (k + 1) d) in
          not_back f g (comes_before cmp total f g (in_range k d (omega arith)) (two k d lt))

-- ---- they are those that are searched

tops_again : (ms : List FileMeta) → map (λ (f : NewFile). f.meta) (map (at_level 0) ms) ≡ ms
tops_again [] = refl
tops_again (m ∷ ms) = ap (λ (t : List FileMeta). m ∷ t) (tops_again ms)

kept_same : {X : Type 0} (p q : X → Bool) (xs : List X) → ((x : X) → Contains xs x → p x ≡ q x) → filter p xs ≡ filter q xs
kept_same p q [] h = refl
kept_same {X} p q (x ∷ xs) h =
    ap₂ (λ (b : Bool) (ys : List X). cond b (x ∷ ys) ys) (h x (first_in x xs)) (kept_same p q xs (λ y at. h y (later_in x xs y at)))

both_of : (b s : Bool) → s ≡ true → (b && s) ≡ b
both_of true s h = h
both_of false s h = refl

pub searched_is : (cmp : KeyOrder) (files : Files) (all : List NewFile) → ((f : NewFile) → Contains all f → is_sound cmp files f.meta ≡ true) → searched_files cmp files all ≡ map (λ (f : NewFile). f.meta) (search_list all)
searched_is cmp files all sound =
    ap₂ (λ (ts ds : List NewFile). fold (insert_key newer_number) [] (map (λ (f : NewFile). f.meta) ts) ++ map (λ (f : NewFile). f.meta) ds)
    (kept_same (is_top cmp files) is_top_file all (λ f at. both_of (is_top_file f) (is_sound cmp files f.meta) (sound f at)))
    (kept_same (is_deep cmp files) is_deep_file all (λ f at. both_of (is_deep_file f) (is_sound cmp files f.meta) (sound f at)))
    ∙ ap (λ (ms : List FileMeta). ms ++ map (λ (f : NewFile). f.meta) (filter is_deep_file all)) (sym (tops_again (fold (insert_key newer_number) [] (metas_where is_top_file all))))
    ∙ sym (map-append (λ (f : NewFile). f.meta) (map (at_level 0) (fold (insert_key newer_number) [] (metas_where is_top_file all))) (filter is_deep_file all))
