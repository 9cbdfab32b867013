-- The files of a version, by level and in version order.
use Rattle.std.proofs.Common.{Bor, ◌≡◌, ℕ, zero, suc, ◌+◌, ◌<◌, ◌≤◌, true, List, [], ◌∷◌, ◌++◌, map, refl, sym, ap, subst, ◌∙◌, append_assoc, append-nil, inl, inr, arith}
use Rattle.std.specs.Prelude.{◌⊎◌, Contains}
use Rattle.std.specs.BTreeSet.{insert_key}
use Rattle.std.specs.List.{All, fold}
use Rattle.std.specs.List.Sorted.{IsStrictlySortedBy}
use Rattle.std.specs.Cmp.{IsTotalOrder}
use Rattle.std.specs.declared.cmp.Ordering.{Ordering}
use Rattle.std.specs.declared.cmp.Ordering.TheVariants.{Less}
use Rattle.std.proofs.lemmas.List.Elements.{Contains-append_cases}
use Rattle.table.specs.Comparator.{KeyOrder}
use Rattle.folder.specs.Version.{are_apart}
use Rattle.folder.specs.VersionOrder.{added_from, at_level, file_cmp, files_at, in_version_order}
use Rattle.folder.specs.meta.FileMeta.{FileMeta}
use Rattle.folder.specs.meta.NewFile.{NewFile}
use Rattle.folder.proofs.Inserted.{sorted_all}
use Rattle.folder.proofs.Snapshots.{added_from-suc, added_from-zero, one_level}
use Rattle.folder.proofs.SortedFiles.{version_cmp-total}
use Rattle.reads.specs.FileList.{AreAll}
use Rattle.reads.proofs.FallingEntries.{each_of}
use Rattle.reads.proofs.GatheredFiles.{AreGathered, all_gathered, more_gathered, none_gathered}
use Rattle.reads.proofs.Members.{from_map, none_in}
use Rattle.reads.proofs.Pairs.{Pairs, pairs_append, pairs_map, pairs_weaker}
use Rattle.reads.proofs.StandingFiles.{level_lent}

abbrev pub lend : FileMeta → Bor FileMeta
lend m = record { ref_ptr = (0, 0); now = m }

lent_again : (ms : List FileMeta) → map (λ (f : Bor FileMeta). f.now) (map lend ms) ≡ ms
lent_again [] = refl
lent_again (m ∷ ms) = ap (λ (t : List FileMeta). m ∷ t) (lent_again ms)

-- a list that rises strictly, by pairs
strict_pairs : {X : Type 0} (R : X → X → Ordering) (xs : List X) → IsStrictlySortedBy R xs → Pairs (λ x y. R x y ≡ Less) xs
unfolding IsStrictlySortedBy
strict_pairs R [] h = tt
strict_pairs R (x ∷ xs) h = (λ y at. each_of (λ z. R x z ≡ Less) xs h.0 y at, strict_pairs R xs h.1)

none_sorted : {X : Type 0} (R : X → X → Ordering) → IsStrictlySortedBy R []
unfolding IsStrictlySortedBy
none_sorted R = tt

-- what is put in one by one at its place rises
pub put_pairs : {X : Type 0} (R : X → X → Ordering) → IsTotalOrder R → (xs : List X) → Pairs (λ x y. R x y ≡ Less) (fold (insert_key R) [] xs)
put_pairs R total xs = strict_pairs R (fold (insert_key R) [] xs) (sorted_all R total [] xs (none_sorted R))

-- a file comes after another: at a deeper level, or later in version order
abbrev pub Follows : KeyOrder → NewFile → NewFile → Type 0
Follows cmp f g = (f.level < g.level) ⊎ ((f.level ≡ g.level) × (file_cmp cmp f.meta g.meta ≡ Less))

module _ (cmp : KeyOrder) (total : IsTotalOrder cmp) (files : List NewFile) where
  abbrev metas_at : ℕ → List FileMeta
  metas_at level = in_version_order cmp (files_at files level)

  -- ---- they are all files

  gathered_on : are_apart files ≡ true → All (λ (f : NewFile). f.level ≤ 6) files → (listed : List NewFile) (level n : ℕ) → AreGathered files listed level → AreGathered files (listed ++ added_from cmp files level n) (level + n)
  gathered_on apart low listed level zero g =
      let same : level + 0 ≡ level = omega arith in
      subst (λ (k : ℕ). AreGathered files (listed ++ added_from cmp files level zero) k) (sym same)
      (subst (λ (fs : List NewFile). AreGathered files fs level) (sym (ap (λ (t : List NewFile). listed ++ t) (added_from-zero cmp files level) ∙ append-nil listed)) g)
  gathered_on apart low listed level (suc n) g =
      let one : List NewFile = one_level cmp files level in
      let behind : List NewFile = added_from cmp files (level + 1) n in
      let made = ap (λ (t : List NewFile). listed ++ t) (sym (level_lent cmp files level (map lend (metas_at level)) (lent_again (metas_at level)))) in
      let more : AreGathered files (listed ++ one) (level + 1) = more_gathered cmp total files listed (listed ++ one) level (map lend (metas_at level)) (lent_again (metas_at level)) apart low made g in
      let same : level + suc n ≡ level + 1 + n = omega arith in
      let whole : (listed ++ one) ++ behind ≡ listed ++ added_from cmp files level (suc n) = append_assoc listed one behind ∙ ap (λ (t : List NewFile). listed ++ t) (sym (added_from-suc cmp files level n)) in
      subst (λ (k : ℕ). AreGathered files (listed ++ added_from cmp files level (suc n)) k) (sym same)
      (subst (λ (fs : List NewFile). AreGathered files fs (level + 1 + n)) whole (gathered_on apart low (listed ++ one) (level + 1) n more))

  pub all_listed : are_apart files ≡ true → All (λ (f : NewFile). f.level ≤ 6) files → AreAll files (added_from cmp files 0 7)
  all_listed apart low = all_gathered files (added_from cmp files 0 7) 7 (omega arith) (gathered_on apart low [] 0 7 (none_gathered files))

  -- ---- they are in order

  own_level : (level : ℕ) (f : NewFile) → Contains (one_level cmp files level) f → f.level ≡ level
  own_level level f at = let m = from_map (at_level level) (metas_at level) f at in sym (ap (λ (x : NewFile). x.level) m.is)

  from_this : (level n : ℕ) (f : NewFile) → Contains (added_from cmp files level n) f → level ≤ f.level
  from_this level zero f at = absurd (none_in f (subst (λ (fs : List NewFile). Contains fs f) (added_from-zero cmp files level) at))
  from_this level (suc n) f at =
      elim (Contains-append_cases (one_level cmp files level) (added_from cmp files (level + 1) n) f (subst (λ (fs : List NewFile). Contains fs f) (added_from-suc cmp files level n) at)) [
        | inl here ↦ omega (arith, own_level level f here)
        | inr later ↦ omega (arith, from_this (level + 1) n f later)
      ]

  one_pairs : (level : ℕ) → Pairs (Follows cmp) (one_level cmp files level)
  one_pairs level =
      pairs_map (Follows cmp) (at_level level) (metas_at level)
      (pairs_weaker (λ f g. file_cmp cmp f g ≡ Less) (λ f g. Follows cmp (at_level level f) (at_level level g)) (λ f g h. inr (refl, h)) (metas_at level)
      (put_pairs (file_cmp cmp) (version_cmp-total total) (files_at files level)))

  pub all_follow : (level n : ℕ) → Pairs (Follows cmp) (added_from cmp files level n)
  all_follow level zero = subst (Pairs (Follows cmp)) (sym (added_from-zero cmp files level)) tt
  all_follow level (suc n) =
      let one : List NewFile = one_level cmp files level in
      let behind : List NewFile = added_from cmp files (level + 1) n in
      subst (Pairs (Follows cmp)) (sym (added_from-suc cmp files level n))
      (pairs_append (Follows cmp) one behind (one_pairs level) (all_follow (level + 1) n) (λ f g i j. inl (omega (arith, own_level level f i, from_this (level + 1) n g j))))
