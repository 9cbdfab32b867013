-- The files of a lawful version as they are read: those of newer entries come first.
use Rattle.std.proofs.Common.{◌≡◌, ℕ, zero, suc, ◌+◌, ◌<◌, ◌≤◌, true, false, List, [], ◌∷◌, ◌++◌, refl, sym, ap, subst, ◌∙◌, inl, inr, arith, zero-add, add-zero, append_assoc, eq-or-lt_of_le}
use Rattle.std.specs.Prelude.{◌⊎◌, Contains}
use Rattle.std.specs.List.Sorted.{IsStrictlySortedBy, IsPermutation}
use Rattle.std.specs.Cmp.{IsTotalOrder}
use Rattle.std.specs.Ordering.{nat_cmp, is_eq, is_le, ordering_then}
use Rattle.std.specs.declared.cmp.Ordering.{Ordering}
use Rattle.std.specs.declared.cmp.Ordering.TheVariants.{Less, Equal, Greater}
use Rattle.std.proofs.lemmas.Cmp.{nat_cmp_total, on_total, back_total, tied_itself}
use Rattle.std.proofs.lemmas.List.Elements.{Contains-append_left, Contains-append_right, Contains-append_cases}
use Rattle.std.proofs.lemmas.List.Sorted.{Contains-permutation, IsPermutation-sym}
use Rattle.ikey.specs.Key.{user_of, sequence_of}
use Rattle.ikey.specs.Order.{internal_cmp}
use Rattle.table.specs.EncodedEntry.{Entry}
use Rattle.edit.specs.Version.{State}
use Rattle.edit.specs.VersionOrder.{file_cmp, in_version_order, files_at, level_files}
use Rattle.edit.specs.declared.meta.FileMeta.{FileMeta}
use Rattle.edit.specs.declared.meta.NewFile.{NewFile}
use Rattle.edit.proofs.Tested.{eqb-sym, is_eq-nat_cmp}
use Rattle.edit.proofs.Inserted.{sorted_all, all_permute}
use Rattle.edit.proofs.SortedFiles.{version_cmp-total, same_number, distinct_at, order_permutes}
use Rattle.pick.proofs.Lists.{one_alone, cases}
use Rattle.pick.proofs.UserOrders.{le_trans}
use Rattle.reads.specs.Lawful.{IsLawful, AreNewer}
use Rattle.reads.specs.Tables.{NumberedContents, table_entries}
use Rattle.reads.proofs.FallingEntries.{each_of}
use Rattle.reads.proofs.Levels.{IsAtLevel, from_level, at_level, is_in}
use Rattle.reads.proofs.Members.{later_in, first_in, none_in}
use Rattle.reads.proofs.Newer.{newer_at}
use Rattle.reads.proofs.Orders.{less_is, not_before_itself}
use Rattle.reads.proofs.Pairs.{Pairs, pairs_append}
use Rattle.compact.specs.InputsTogether.{level_read, files_read}
use Rattle.reads.specs.FileList.{newer_number}
use Rattle.compact.proofs.ClosedLevels.{level_of, level_disjoint, level_file_of}
use Rattle.compact.proofs.FileKeys.{IsUpTo, keys_total, upto_below, before_newer, range_rises}

-- ---- lists

none_sorted : {A : Type 0} (R : A → A → Ordering) → IsStrictlySortedBy R []
unfolding IsStrictlySortedBy
none_sorted R = tt

-- what holds of each two that one order puts one before the other
sorted_pairs : {A : Type 0} (R : A → A → Ordering) (Q : A → A → Type 0) (xs : List A) → IsStrictlySortedBy R xs → ((x y : A) → Contains xs x → Contains xs y → R x y ≡ Less → Q x y) → Pairs Q xs
unfolding IsStrictlySortedBy
sorted_pairs R Q [] sorted h = tt
sorted_pairs R Q (x ∷ xs) sorted h = (
  λ y at. h x y (first_in x xs) (later_in x xs y at) (each_of (λ z. R x z ≡ Less) xs sorted.0 y at),
  sorted_pairs R Q xs sorted.1 (λ a b i j. h a b (later_in x xs a i) (later_in x xs b j)),
)

first_upto : (o p : Ordering) → ordering_then o p ≡ Less → is_le o ≡ true
first_upto Less p e = refl
first_upto Equal p e = refl
first_upto Greater p e = absurd cc

-- ---- files by falling number

number_order : IsTotalOrder newer_number
number_order =
    let by_number : IsTotalOrder (λ (f g : FileMeta). nat_cmp f.number g.number) = on_total (λ (f : FileMeta). f.number) nat_cmp_total in
    back_total by_number

number_ties : (f g : FileMeta) → newer_number f g ≡ Equal → same_number f g ≡ true
number_ties f g e = eqb-sym f.number g.number ∙ sym (is_eq-nat_cmp g.number f.number) ∙ ap is_eq e

number_flips : (f g : FileMeta) → same_number f g ≡ same_number g f
number_flips f g = eqb-sym f.number g.number

module _ (cmp : List ℕ → List ℕ → Ordering) (total : IsTotalOrder cmp) (v : State) (tables : List NumberedContents) (lawful : IsLawful cmp v tables) where
  -- a file's entries are newer than another's
  abbrev pub IsNewer : FileMeta → FileMeta → Type 0
  IsNewer f g = (a b : Entry) → Contains (table_entries tables f.number) a → Contains (table_entries tables g.number) b → user_of a.key ≡ user_of b.key → sequence_of b.key < sequence_of a.key

  -- ---- one level

  level_permutes : (n : ℕ) → IsPermutation (files_at v.files n) (level_read cmp v n)
  level_permutes zero = all_permute newer_number number_order same_number number_flips number_ties [] (files_at v.files 0) (distinct_at v.files 0 lawful.apart)
  level_permutes (suc n) = order_permutes total v.files (suc n) lawful.apart

  pub from_read : (n : ℕ) (m : FileMeta) → Contains (level_read cmp v n) m → IsAtLevel v.files n m
  from_read n m at =
      let back = IsPermutation-sym (files_at v.files n) (level_read cmp v n) (level_permutes n) in
      from_level cmp total v.files n m
      (Contains-permutation (files_at v.files n) (in_version_order cmp (files_at v.files n)) m (order_permutes total v.files n lawful.apart) (Contains-permutation (level_read cmp v n) (files_at v.files n) m back at))

  pub at_read : (f : NewFile) → Contains v.files f → (n : ℕ) → f.level ≡ n → Contains (level_read cmp v n) f.meta
  at_read f at n own =
      let back = IsPermutation-sym (files_at v.files n) (in_version_order cmp (files_at v.files n)) (order_permutes total v.files n lawful.apart) in
      Contains-permutation (files_at v.files n) (level_read cmp v n) f.meta (level_permutes n)
      (Contains-permutation (in_version_order cmp (files_at v.files n)) (files_at v.files n) f.meta back (at_level cmp total v.files n lawful.apart f at own))

  -- entries of files of the version, by the files
  of_files : (m k : FileMeta) (f g : NewFile) → f.meta ≡ m → g.meta ≡ k → AreNewer (table_entries tables f.meta.number) (table_entries tables g.meta.number) → IsNewer m k
  of_files m k f g is also newer a b i j =
      newer_at (table_entries tables f.meta.number) (table_entries tables g.meta.number) newer a b
      (subst (λ (x : FileMeta). Contains (table_entries tables x.number) a) (sym is) i)
      (subst (λ (x : FileMeta). Contains (table_entries tables x.number) b) (sym also) j)

  zeroth_newer : (f g : FileMeta) → Contains (level_read cmp v 0) f → Contains (level_read cmp v 0) g → newer_number f g ≡ Less → IsNewer f g
  zeroth_newer f g i j less =
      let a = from_read 0 f i in
      let b = from_read 0 g j in
      let lt : g.number < f.number = less_is g.number f.number less in
      let above : b.file.meta.number < a.file.meta.number = subst (λ (x : FileMeta). x.number < a.file.meta.number) (sym b.is) (subst (λ (x : FileMeta). g.number < x.number) (sym a.is) lt) in
      of_files f g a.file b.file a.is b.is (lawful.newer_above a.file b.file a.there b.there (inr (a.stands, b.stands, above)))

  later_newer : (n : ℕ) (f g : FileMeta) → Contains (level_files cmp v (suc n)) f → Contains (level_files cmp v (suc n)) g → file_cmp cmp f g ≡ Less → IsNewer f g
  later_newer n f g i j less = of_side (level_disjoint cmp total v tables lawful (suc n) (omega arith) f g (is_in files f i) (is_in files g j) (other (cases (same_number f g))))
    where
      files : List FileMeta
      files = level_files cmp v (suc n)

      a : IsAtLevel v.files (suc n) f
      a = from_level cmp total v.files (suc n) f i

      b : IsAtLevel v.files (suc n) g
      b = from_level cmp total v.files (suc n) g j

      not_itself : f ≡ g → ⊥
      not_itself same =
          let tied : file_cmp cmp f f ≡ Equal = tied_itself (version_cmp-total total) f in
          let less_too : file_cmp cmp f f ≡ Less = ap (file_cmp cmp f) same ∙ less in
          let both : Less ≡ Equal = sym less_too ∙ tied in absurd cc

      other : (same_number f g ≡ true) ⊎ (same_number f g ≡ false) → same_number f g ≡ false
      other (inl e) =
          absurd (not_itself (one_alone same_number number_flips (level_files cmp v (suc n)) (level_of cmp total v tables lawful (suc n)).differ f g (is_in (level_files cmp v (suc n)) f i) (is_in (level_files cmp v (suc n)) g j) e))
      other (inr e) = e

      before : internal_cmp cmp f.largest g.smallest ≡ Less → IsNewer f g
      before lt =
          of_files f g a.file b.file a.is b.is
          (before_newer cmp total v tables lawful a.file b.file a.there b.there
          (subst (λ (x : FileMeta). internal_cmp cmp x.largest b.file.meta.smallest ≡ Less) (sym a.is) (subst (λ (x : FileMeta). internal_cmp cmp f.largest x.smallest ≡ Less) (sym b.is) lt)))

      -- the later file doesn't end before the earlier one begins
      behind : internal_cmp cmp g.largest f.smallest ≡ Less → ⊥
      behind lt =
          let low : IsUpTo cmp f.smallest g.smallest = first_upto (internal_cmp cmp f.smallest g.smallest) (nat_cmp f.number g.number) less in
          let own : IsUpTo cmp g.smallest g.largest = range_rises cmp total tables g (level_file_of cmp total v tables lawful (suc n) g (is_in (level_files cmp v (suc n)) g j)) in
          let upto : IsUpTo cmp f.smallest g.largest = le_trans (internal_cmp cmp) (keys_total cmp total) f.smallest g.smallest g.largest low own in
          not_before_itself (internal_cmp cmp) (keys_total cmp total) f.smallest (upto_below (internal_cmp cmp) (keys_total cmp total) f.smallest g.largest f.smallest upto lt)

      of_side : (internal_cmp cmp f.largest g.smallest ≡ Less) ⊎ (internal_cmp cmp g.largest f.smallest ≡ Less) → IsNewer f g
      of_side (inl lt) = before lt
      of_side (inr lt) = absurd (behind lt)

  level_order : (n : ℕ) → Pairs IsNewer (level_read cmp v n)
  level_order zero = sorted_pairs newer_number IsNewer (level_read cmp v 0) (sorted_all newer_number number_order [] (files_at v.files 0) (none_sorted newer_number)) zeroth_newer
  level_order (suc n) = sorted_pairs (file_cmp cmp) IsNewer (level_files cmp v (suc n)) (level_of cmp total v tables lawful (suc n)).rise (later_newer n)

  -- ---- several levels

  -- a file that is read stands at one of the levels
  pub record IsReadAt (from n : ℕ) (m : FileMeta) : Type 0 where
    pub level : ℕ
    pub low : from ≤ level
    pub high : level < from + n
    pub at : IsAtLevel v.files level m

  pub of_read : (n from : ℕ) (m : FileMeta) → Contains (files_read cmp v from n) m → IsReadAt from n m
  unfolding files_read
  of_read zero from m there = absurd (none_in m there)
  of_read (suc n) from m there =
      elim (Contains-append_cases (level_read cmp v from) (files_read cmp v (from + 1) n) m there) [
        | inl here ↦ record { level = from; low = omega arith; high = omega arith; at = from_read from m here }
        | inr later ↦ (let rest = of_read n (from + 1) m later in record { level = rest.level; low = omega (arith, rest.low); high = omega (arith, rest.high); at = rest.at })
      ]

  pub into_read : (n from level : ℕ) → from ≤ level → level < from + n → (m : FileMeta) → Contains (level_read cmp v level) m → Contains (files_read cmp v from n) m
  unfolding files_read
  into_read zero from level low high m there = absurd (omega arith)
  into_read (suc n) from level low high m there =
      elim (eq-or-lt_of_le low) [
        | inl own ↦ Contains-append_left (level_read cmp v from) (files_read cmp v (from + 1) n) m (subst (λ (k : ℕ). Contains (level_read cmp v k) m) (sym own) there)
        | inr less ↦ Contains-append_right (level_read cmp v from) (files_read cmp v (from + 1) n) m (into_read n (from + 1) level (omega arith) (omega arith) m there)
      ]

  pub read_order : (n from : ℕ) → Pairs IsNewer (files_read cmp v from n)
  unfolding files_read
  read_order zero from = tt
  read_order (suc n) from =
      pairs_append IsNewer (level_read cmp v from) (files_read cmp v (from + 1) n) (level_order from) (read_order n (from + 1))
      (λ f g i j.
      let a = from_read from f i in
      let b = of_read n (from + 1) g j in
      let above : a.file.level < b.at.file.level = omega (arith, a.stands, b.at.stands, b.low) in
      of_files f g a.file b.at.file a.is b.at.is (lawful.newer_above a.file b.at.file a.there b.at.there (inl above)))

-- the levels of two ranges, one after the other
pub read_split : (cmp : List ℕ → List ℕ → Ordering) (v : State) (m n from : ℕ) → files_read cmp v from (m + n) ≡ files_read cmp v from m ++ files_read cmp v (from + m) n
unfolding files_read
read_split cmp v zero n from = ap (λ (k : ℕ). files_read cmp v from k) (zero-add n) ∙ ap (λ (k : ℕ). files_read cmp v k n) (sym (add-zero from))
read_split cmp v (suc m) n from =
    let here = level_read cmp v from in
    let more : suc m + n ≡ suc (m + n) = omega arith in
    let behind : from + 1 + m ≡ from + suc m = omega arith in
    ap (λ (k : ℕ). files_read cmp v from k) more ∙ ap (λ (l : List FileMeta). here ++ l) (read_split cmp v m n (from + 1))
    ∙ sym (append_assoc here (files_read cmp v (from + 1) m) (files_read cmp v (from + 1 + m) n))
    ∙ ap (λ (k : ℕ). (here ++ files_read cmp v (from + 1) m) ++ files_read cmp v k n) behind
