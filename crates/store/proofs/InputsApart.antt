-- The inputs of a compaction have numbers of their own, so each has the bytes that were read for it.
use Rattle.std.proofs.Common.{◌≡◌, ◌≢◌, ℕ, ◌+◌, nat_eq, Bool, true, cond, List, [], ◌∷◌, ◌++◌, map, Some, Option, Ok, refl, sym, ap, subst, ◌∙◌, arith}
use Rattle.std.specs.Prelude.{Contains, unwrap_or}
use Rattle.std.specs.List.{filter}
use Rattle.std.specs.Map.{lookup}
use Rattle.std.specs.Cmp.{IsTotalOrder}
use Rattle.std.specs.declared.cmp.Ordering.{Ordering}
use Rattle.std.proofs.lemmas.Bool.{eq-eqb}
use Rattle.std.proofs.lemmas.List.Kept.{AllPairs-filter}
use Rattle.folder.specs.Version.{State, are_apart}
use Rattle.folder.specs.VersionOrder.{level_files}
use Rattle.folder.specs.meta.FileMeta.{FileMeta}
use Rattle.folder.specs.meta.NewFile.{NewFile}
use Rattle.folder.specs.LoadedTables.{IsLoaded}
use Rattle.install.specs.Install.{table_bytes_of}
use Rattle.pick.proofs.VersionFiles.{are_level_files}
use Rattle.pick.specs.Boundaries.{AreWithBoundaries, is_among}
use Rattle.pick.specs.PickedInputs.{IsPicked, PickedInputs, input_at}
use Rattle.pick.specs.Ranges.{overlaps}
use Rattle.pick.specs.declared.picked_inputs.InputFile.{InputFile}
use Rattle.reads.proofs.Apart.{AreTwoMetas, metas_apart, one_number}
use Rattle.reads.proofs.Levels.{IsAtLevel, from_level}
use Rattle.reads.proofs.Members.{first_in, from_filter, from_map, later_in}
use Rattle.reads.proofs.Pairs.{Pairs, pairs_append, pairs_from, pairs_map, pairs_to}
use Rattle.store.specs.InputsCompaction.{input_numbers}
use Rattle.compact.proofs.AppliedEdit.{not_equal}

abbrev pub AreTwoInputs : InputFile → InputFile → Type 0
AreTwoInputs i j = i.meta.number ≢ j.meta.number

module _ (cmp : List ℕ → List ℕ → Ordering) (total : IsTotalOrder cmp) (v : State) (apart : are_apart v.files ≡ true) (level : ℕ) (p : PickedInputs) (picked : IsPicked cmp v level p) where
  level_apart : (n : ℕ) (chosen : List FileMeta) → Pairs AreTwoMetas (filter (is_among chosen) (level_files cmp v n))
  level_apart n chosen =
      let differ = (are_level_files total v n apart).differ in
      pairs_from AreTwoMetas (filter (is_among chosen) (level_files cmp v n))
      (AllPairs-filter AreTwoMetas (is_among chosen) (level_files cmp v n) (pairs_to AreTwoMetas (level_files cmp v n) (metas_apart (level_files cmp v n) differ)))

  bounded_apart : (n : ℕ) (chosen all : List FileMeta) → AreWithBoundaries cmp (level_files cmp v n) chosen all → Pairs AreTwoMetas all
  bounded_apart n chosen all with = subst (Pairs AreTwoMetas) (sym with.these) (level_apart n (chosen ++ with.added))

  bounded_at : (n : ℕ) (chosen all : List FileMeta) → AreWithBoundaries cmp (level_files cmp v n) chosen all → (m : FileMeta) → Contains all m → IsAtLevel v.files n m
  bounded_at n chosen all with m at =
      from_level cmp total v.files n m (from_filter (is_among (chosen ++ with.added)) (level_files cmp v n) m (subst (λ (l : List FileMeta). Contains l m) with.these at)).0

  abbrev overlapping : List FileMeta
  overlapping = filter (overlaps cmp picked.upper) (level_files cmp v (level + 1))

  abbrev uppers : List InputFile
  uppers = map (input_at level) picked.upper

  abbrev lowers : List InputFile
  lowers = map (input_at (level + 1)) picked.lower

  -- an input of one level has another number than one of the other
  across : (i j : InputFile) → Contains uppers i → Contains lowers j → AreTwoInputs i j
  across i j at to same =
      let x = from_map (input_at level) picked.upper i at in
      let y = from_map (input_at (level + 1)) picked.lower j to in
      let f = bounded_at level picked.are_upper.chosen picked.upper picked.are_upper.with_boundaries x.source x.there in
      let g = bounded_at (level + 1) overlapping picked.lower picked.are_lower y.source y.there in
      let number : f.file.meta.number ≡ g.file.meta.number =
      ap (λ (m : FileMeta). m.number) f.is ∙ ap (λ (k : InputFile). k.meta.number) x.is ∙ same ∙ sym (ap (λ (k : InputFile). k.meta.number) y.is) ∙ sym (ap (λ (m : FileMeta). m.number) g.is) in
      let levels : level ≡ level + 1 = sym f.stands ∙ ap (λ (k : NewFile). k.level) (one_number v.files apart f.file g.file f.there g.there number) ∙ g.stands in
      absurd (omega (arith, levels))

  pub inputs_apart : Pairs AreTwoInputs p.files
  inputs_apart =
      subst (Pairs AreTwoInputs) (sym picked.files_are)
      (pairs_append AreTwoInputs uppers lowers
      (pairs_map AreTwoInputs (input_at level) picked.upper (bounded_apart level picked.are_upper.chosen picked.upper picked.are_upper.with_boundaries))
      (pairs_map AreTwoInputs (input_at (level + 1)) picked.lower (bounded_apart (level + 1) overlapping picked.lower picked.are_lower)) across)

-- ---- bytes

pub found_here : (n : ℕ) (t : ℕ × List ℕ) (tables : List (ℕ × List ℕ)) → t.0 ≡ n → table_bytes_of (t ∷ tables) n ≡ t.1
found_here n t tables same =
    ap (λ (b : Bool). unwrap_or (cond b (Some t.1) (lookup (nat_eq n) tables)) []) (eq-eqb n t.0 (sym same))

pub found_later : (n : ℕ) (t : ℕ × List ℕ) (tables : List (ℕ × List ℕ)) → (n ≡ t.0 → ⊥) → table_bytes_of (t ∷ tables) n ≡ table_bytes_of tables n
found_later n t tables other =
    ap (λ (b : Bool). unwrap_or (cond b (Some t.1) (lookup (nat_eq n) tables)) []) (not_equal n t.0 other)

all_later : (t : ℕ × List ℕ) (tables : List (ℕ × List ℕ)) (is : List InputFile) → ((i : InputFile) → Contains is i → t.0 ≢ i.meta.number)
    → map (λ (i : InputFile). table_bytes_of (t ∷ tables) i.meta.number) is ≡ map (λ (i : InputFile). table_bytes_of tables i.meta.number) is
all_later t tables [] other = refl
all_later t tables (i ∷ is) other =
    ap (λ (b : List ℕ). b ∷ map (λ (j : InputFile). table_bytes_of (t ∷ tables) j.meta.number) is) (found_later i.meta.number t tables (λ same. other i (first_in i is) (sym same)))
    ∙ ap (λ (bs : List (List ℕ)). table_bytes_of tables i.meta.number ∷ bs) (all_later t tables is (λ j at. other j (later_in i is j at)))

-- the numbers of the tables that were read
pub numbers_loaded : (tells : List ℕ → Option (List ℕ) → Type 0) (numbers : List ℕ) (own : List (ℕ × List ℕ)) → IsLoaded tells numbers (Ok own) → map (λ (t : ℕ × List ℕ). t.0) own ≡ numbers
numbers_loaded tells [] [] h = refl
numbers_loaded tells [] (t ∷ own) h = absurd h
numbers_loaded tells (n ∷ numbers) [] h = absurd h
numbers_loaded tells (n ∷ numbers) (t ∷ own) h =
    ap (λ (m : ℕ). m ∷ map (λ (x : ℕ × List ℕ). x.0) own) h.0.0 ∙ ap (λ (ms : List ℕ). n ∷ ms) (numbers_loaded tells numbers own h.1)

-- the bytes that were read of inputs in their order are those under their numbers
pub in_order : (is : List InputFile) (own : List (ℕ × List ℕ)) → Pairs AreTwoInputs is → map (λ (t : ℕ × List ℕ). t.0) own ≡ input_numbers is
    → map (λ (t : ℕ × List ℕ). t.1) own ≡ map (λ (i : InputFile). table_bytes_of own i.meta.number) is
in_order [] [] pairs h = refl
in_order [] (t ∷ own) pairs h = absurd cc
in_order (i ∷ is) [] pairs h = absurd cc
in_order (i ∷ is) (t ∷ own) pairs h =
    let first : t.0 ≡ i.meta.number = cc in
    let rest : map (λ (x : ℕ × List ℕ). x.0) own ≡ input_numbers is = cc in
    ap (λ (b : List ℕ). b ∷ map (λ (x : ℕ × List ℕ). x.1) own) (sym (found_here i.meta.number t own first))
    ∙ ap (λ (bs : List (List ℕ)). table_bytes_of (t ∷ own) i.meta.number ∷ bs)
    (in_order is own pairs.1 rest ∙ sym (all_later t own is (λ j at same. pairs.0 j at (sym first ∙ same))))
