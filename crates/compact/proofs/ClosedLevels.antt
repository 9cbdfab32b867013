-- The files of a level of a lawful version, and those of the version that they are.
use Rattle.std.proofs.Common.{◌≡◌, ℕ, ◌+◌, ◌<◌, Bool, true, false, eqb, List, ◌++◌, map, get_or, sym, ap, subst, ◌∙◌, inl, inr, refl, arith}
use Rattle.std.specs.Prelude.{◌≢◌, ◌⊎◌, Contains}
use Rattle.std.specs.List.{All}
use Rattle.std.specs.Cmp.{IsTotalOrder}
use Rattle.std.specs.declared.cmp.Ordering.{Ordering}
use Rattle.std.proofs.lemmas.Bool.Decides.{Decides-eqb}
use Rattle.std.proofs.lemmas.List.Elements.{All-contains, Contains-get_or, Contains-append_cases, Contains-append_left, Contains-append_right}
use Rattle.edit.specs.Version.{State}
use Rattle.edit.specs.VersionOrder.{level_files}
use Rattle.edit.specs.declared.meta.FileMeta.{FileMeta}
use Rattle.edit.specs.declared.meta.NewFile.{NewFile}
use Rattle.edit.proofs.Tested.{eqb-sym}
use Rattle.edit.proofs.SortedFiles.{same_number}
use Rattle.pick.specs.Boundaries.{is_among}
use Rattle.reads.specs.Tables.{NumberedContents, table_entries}
use Rattle.reads.specs.Lawful.{IsFileOf, IsLawful, AreDisjoint, AreNewer}
use Rattle.pick.specs.declared.picked_inputs.InputFile.{InputFile}
use Rattle.pick.specs.PickedInputs.{input_at}
use Rattle.pick.proofs.Lists.{IsIn, any_from, any_gives, false_true, one_alone}
use Rattle.reads.proofs.Members.{in_map, from_map}
use Rattle.reads.proofs.Levels.{IsAtLevel, from_level, at_level, is_in, contains_in}
use Rattle.pick.proofs.VersionFiles.{AreLevelFiles, are_level_files}

-- ---- which files are among others

pub same_itself : (n : ℕ) → eqb n n ≡ true
same_itself n = grind arith

-- a file with the number of one of the files is among them
pub among_by : (xs : List FileMeta) (f q : FileMeta) → IsIn xs f → same_number f q ≡ true → is_among xs q ≡ true
among_by xs f q i same = any_from (λ (g : FileMeta). eqb g.number q.number) xs f i same

pub among_own : (xs : List FileMeta) (q : FileMeta) → IsIn xs q → is_among xs q ≡ true
among_own xs q i = among_by xs q q i (same_itself q.number)

by_test : (b : Bool) (P : Type 0) → (b ≡ true → ⊥) → b ≡ false
by_test true P h = absurd (h refl)
by_test false P h = refl

-- a file that isn't among files has another number than each of them
pub other_number : (xs : List FileMeta) (f q : FileMeta) → IsIn xs f → is_among xs q ≡ false → same_number f q ≡ false
other_number xs f q i out = by_test (same_number f q) ⊥ (λ same. false_true (is_among xs q) (among_by xs f q i same) out)

-- a file of a level that is among some of its files is one of them
pub among_is : (cmp : List ℕ → List ℕ → Ordering) (files xs : List FileMeta) → AreLevelFiles cmp files → ((q : FileMeta) → IsIn xs q → IsIn files q) → (f : FileMeta) → IsIn files f → is_among xs f ≡ true → IsIn xs f
among_is cmp files xs level inside f i among =
    let x = any_gives (λ (g : FileMeta). eqb g.number f.number) xs among in
    subst (IsIn xs) (one_alone same_number (λ a b. eqb-sym a.number b.number) files level.differ x.item f (inside x.item x.inside) i x.passes) x.inside

-- ---- the inputs of two levels

module _ (level : ℕ) (upper lower : List FileMeta) (inputs : List InputFile) (are : inputs ≡ map (input_at level) upper ++ map (input_at (level + 1)) lower) where
  -- what holds of the files of both levels holds of the inputs
  pub all_inputs : (P : FileMeta → Type 0) → ((m : FileMeta) → Contains upper m → P m) → ((m : FileMeta) → Contains lower m → P m) → All (λ (i : InputFile). P i.meta) inputs
  all_inputs P first second k d lt = of_side (Contains-append_cases (map (input_at level) upper) (map (input_at (level + 1)) lower) input (subst (λ (l : List InputFile). Contains l input) are (Contains-get_or inputs k d lt)))
    where
      input : InputFile
      input = get_or inputs k d

      of_side : Contains (map (input_at level) upper) (get_or inputs k d) ⊎ Contains (map (input_at (level + 1)) lower) (get_or inputs k d) → P (get_or inputs k d).meta
      of_side (inl i) = let x = from_map (input_at level) upper (get_or inputs k d) i in subst (λ (q : InputFile). P q.meta) x.is (first x.source x.there)
      of_side (inr i) = let x = from_map (input_at (level + 1)) lower (get_or inputs k d) i in subst (λ (q : InputFile). P q.meta) x.is (second x.source x.there)

  -- the files of both levels are inputs
  pub upper_input : (m : FileMeta) → Contains upper m → Contains inputs (input_at level m)
  upper_input m i = subst (λ (l : List InputFile). Contains l (input_at level m)) (sym are) (Contains-append_left (map (input_at level) upper) (map (input_at (level + 1)) lower) (input_at level m) (in_map (input_at level) upper m i))

  pub lower_input : (m : FileMeta) → Contains lower m → Contains inputs (input_at (level + 1) m)
  lower_input m i = subst (λ (l : List InputFile). Contains l (input_at (level + 1) m)) (sym are) (Contains-append_right (map (input_at level) upper) (map (input_at (level + 1)) lower) (input_at (level + 1) m) (in_map (input_at (level + 1)) lower m i))

-- ---- a level of a lawful version

module _ (cmp : List ℕ → List ℕ → Ordering) (total : IsTotalOrder cmp) (v : State) (tables : List NumberedContents) (lawful : IsLawful cmp v tables) where
  pub level_of : (n : ℕ) → AreLevelFiles cmp (level_files cmp v n)
  level_of n = are_level_files total v n lawful.apart

  pub file_at : (n : ℕ) (m : FileMeta) → IsIn (level_files cmp v n) m → IsAtLevel v.files n m
  file_at n m i = from_level cmp total v.files n m (contains_in (level_files cmp v n) m i)

  pub in_level : (f : NewFile) → Contains v.files f → (n : ℕ) → f.level ≡ n → IsIn (level_files cmp v n) f.meta
  in_level f at n own = is_in (level_files cmp v n) f.meta (at_level cmp total v.files n lawful.apart f at own)

  pub file_of : (f : NewFile) → Contains v.files f → IsFileOf cmp tables f.meta
  file_of f at = All-contains (λ (x : NewFile). IsFileOf cmp tables x.meta) v.files f lawful.files at

  pub level_file_of : (n : ℕ) (m : FileMeta) → IsIn (level_files cmp v n) m → IsFileOf cmp tables m
  level_file_of n m i = let at = file_at n m i in subst (IsFileOf cmp tables) at.is (file_of at.file at.there)

  not_same : (x y : ℕ) → eqb x y ≡ false → x ≢ y
  not_same x y e same = false_true (eqb x y) ((Decides-eqb x y).1 same) e

  -- from level 1 on the ranges of a level's files are disjoint
  pub level_disjoint : (n : ℕ) → 0 < n → (f g : FileMeta) → IsIn (level_files cmp v n) f → IsIn (level_files cmp v n) g → same_number f g ≡ false → AreDisjoint cmp f g
  level_disjoint n deep f g i j other =
      let a = file_at n f i in
      let b = file_at n g j in
      let differ : a.file.meta.number ≢ b.file.meta.number = λ same. not_same f.number g.number other (sym (ap (λ (m : FileMeta). m.number) a.is) ∙ same ∙ ap (λ (m : FileMeta). m.number) b.is) in
      let apart : AreDisjoint cmp a.file.meta b.file.meta = lawful.disjoint a.file b.file a.there b.there (a.stands ∙ sym b.stands) (subst (λ (k : ℕ). 0 < k) (sym a.stands) deep) differ in
      subst (λ (m : FileMeta). AreDisjoint cmp f m) b.is (subst (λ (m : FileMeta). AreDisjoint cmp m b.file.meta) a.is apart)

  -- a file of a shallower level has the newer entries
  pub shallower_newer : (f : NewFile) → Contains v.files f → (n : ℕ) → f.level < n → (m : FileMeta) → IsIn (level_files cmp v n) m → AreNewer (table_entries tables f.meta.number) (table_entries tables m.number)
  shallower_newer f at n lt m i =
      let b = file_at n m i in
      subst (λ (x : FileMeta). AreNewer (table_entries tables f.meta.number) (table_entries tables x.number)) b.is (lawful.newer_above f b.file at b.there (inl (subst (λ (k : ℕ). f.level < k) (sym b.stands) lt)))

  pub deeper_older : (f : NewFile) → Contains v.files f → (n : ℕ) → n < f.level → (m : FileMeta) → IsIn (level_files cmp v n) m → AreNewer (table_entries tables m.number) (table_entries tables f.meta.number)
  deeper_older f at n lt m i =
      let b = file_at n m i in
      subst (λ (x : FileMeta). AreNewer (table_entries tables x.number) (table_entries tables f.meta.number)) b.is (lawful.newer_above b.file f b.there at (inl (subst (λ (k : ℕ). k < f.level) (sym b.stands) lt)))
