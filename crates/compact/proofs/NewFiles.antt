-- Outputs of a plan as new files.
use Rattle.std.proofs.Common.{◌≡◌, ℕ, zero, suc, ◌+◌, ◌≤◌, ◌<◌, true, eqb, ◌||◌, List, [], ◌∷◌, ◌++◌, map, take, length, sym, ap, ◌∙◌, arith}
use Rattle.std.specs.Prelude.{slice_get, nat_le, IfSome}
use Rattle.std.specs.List.{All, list_all}
use Rattle.std.proofs.lemmas.Bool.{and_parts}
use Rattle.std.proofs.lemmas.Bool.Decides.{nat_tests}
use Rattle.std.proofs.lemmas.List.Elements.{All-nil, All-cons}
use Rattle.table.specs.EntryTests.{first_key}
use Rattle.edit.specs.declared.meta.NewFile.{NewFile}
use Rattle.cut.specs.OutputMeta.{IsMetaOf}
use Rattle.cut.specs.Plan.{OutputView}
use Rattle.cut.specs.declared.output_meta.OutputMeta.{OutputMeta}
use Rattle.pick.specs.PickedInputs.{PickedInputs}
use Rattle.pick.specs.declared.picked_inputs.InputFile.{InputFile}
use Rattle.compact.specs.WrittenOutputs.{planned_file}
use Rattle.compact.specs.Request.{has_levels}

-- ---- an output

abbrev file_of : ℕ → ℕ → ℕ → List ℕ → List ℕ → NewFile
file_of level number size smallest largest = record { level = level; meta = record { number = number; size = size; smallest = smallest; largest = largest } }

-- what is known of an output is what a new file of it says
pub file_is : (p : OutputView) (m : OutputMeta) (level : ℕ) (smallest largest : List ℕ) → IsMetaOf p m → smallest ≡ m.smallest.bytes.now → largest ≡ m.largest.bytes.now
    → file_of level m.number m.len smallest largest ≡ planned_file level p
file_is p m level smallest largest is s l =
    ap (λ (n : ℕ). file_of level n m.len smallest largest) is.number
    ∙ ap (λ (n : ℕ). file_of level p.number n smallest largest) is.len
    ∙ ap (λ (k : List ℕ). file_of level p.number p.length k largest) (s ∙ is.smallest)
    ∙ ap (λ (k : List ℕ). file_of level p.number p.length (first_key p.entries) k) (l ∙ is.largest)

-- ---- one output more

pub one_more : (level : ℕ) (ps : List OutputView) (place : ℕ) (m : OutputMeta) (file : NewFile) → place < length ps → IfSome (slice_get ps place) (λ p. IsMetaOf p m)
    → ((p : OutputView) → IsMetaOf p m → file ≡ planned_file level p) → map (planned_file level) (take (place + 1) ps) ≡ map (planned_file level) (take place ps) ++ file ∷ []
one_more level [] place m file h is same = absurd (omega (arith, h))
one_more level (p ∷ ps) zero m file h is same = ap (λ (f : NewFile). f ∷ []) (sym (same p is))
one_more level (p ∷ ps) (suc place) m file h is same =
    let next : suc place + 1 ≡ suc (place + 1) = omega arith in
    ap (λ (n : ℕ). map (planned_file level) (take n (p ∷ ps))) next
    ∙ ap (λ (fs : List NewFile). planned_file level p ∷ fs) (one_more level ps place m file (omega (arith, h)) is same)

-- ---- the level

low_told : (m n : ℕ) → nat_le m n ≡ true → m ≤ n
low_told m n h = grind (arith, nat_tests)

-- a compaction's next level
pub low_level : (p : PickedInputs) → has_levels p ≡ true → p.level + 1 ≤ 6
low_level p h =
    let parts = and_parts (nat_le p.level 5) (list_all (λ (i : InputFile). eqb i.level p.level || eqb i.level (p.level + 1)) p.files) h in
    let low = low_told p.level 5 parts.0 in
    omega (arith, low)

pub low_files : (level : ℕ) → level ≤ 6 → (ps : List OutputView) → All (λ (f : NewFile). f.level ≤ 6) (map (planned_file level) ps)
low_files level low [] = All-nil (λ (f : NewFile). f.level ≤ 6)
low_files level low (p ∷ ps) = All-cons (λ (f : NewFile). f.level ≤ 6) (planned_file level p) (map (planned_file level) ps) low (low_files level low ps)
