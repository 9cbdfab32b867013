-- The edit that makes a version of an empty one.
use Rattle.std.proofs.Common.{Bor, ◌≡◌, ℕ, zero, suc, ◌+◌, ◌<◌, ◌≤◌, List, [], ◌∷◌, ◌++◌, map, refl, sym, ap, subst, ◌∙◌, append_assoc, arith}
use Rattle.std.specs.List.{All}
use Rattle.std.specs.Map.{keys_of}
use Rattle.std.specs.declared.cmp.Ordering.{Ordering}
use Rattle.std.proofs.lemmas.List.{append-nil}
use Rattle.std.proofs.lemmas.List.Elements.{All-nil, All-cons, All-append, All-head, All-tail}
use Rattle.edit.specs.VersionOrder.{in_version_order, files_at, at_level, added_from, pointer_entry}
use Rattle.edit.specs.declared.meta.FileMeta.{FileMeta}
use Rattle.edit.specs.declared.meta.NewFile.{NewFile}
use Rattle.edit.specs.declared.meta.CompactPointer.{CompactPointer}

-- the files of one level as new files
abbrev pub one_level : (List ℕ → List ℕ → Ordering) → List NewFile → ℕ → List NewFile
one_level cmp files level = map (at_level level) (in_version_order cmp (files_at files level))

pub added_from-suc : (cmp : List ℕ → List ℕ → Ordering) (files : List NewFile) (level n : ℕ) → added_from cmp files level (suc n) ≡ one_level cmp files level ++ added_from cmp files (level + 1) n
unfolding added_from
added_from-suc cmp files level n = refl

pub added_from-zero : (cmp : List ℕ → List ℕ → Ordering) (files : List NewFile) (level : ℕ) → added_from cmp files level zero ≡ []
unfolding added_from
added_from-zero cmp files level = refl

-- the levels so far, and those that are left
pub record Levels (cmp : List ℕ → List ℕ → Ordering) (files added : List NewFile) (level : ℕ) : Type 0 where
  pub left : ℕ
  pub all : level + left ≡ 7
  pub whole : added ++ added_from cmp files level left ≡ added_from cmp files 0 7

pub levels_begin : (cmp : List ℕ → List ℕ → Ordering) (files added : List NewFile) → added ≡ [] → Levels cmp files added 0
levels_begin cmp files added none = record { left = 7; all = omega arith; whole = ap (λ (t : List NewFile). t ++ added_from cmp files 0 7) none }

levels_by : (cmp : List ℕ → List ℕ → Ordering) (files added : List NewFile) (level left : ℕ) → level + left ≡ 7 → added ++ added_from cmp files level left ≡ added_from cmp files 0 7 → level < 7 → Levels cmp files (added ++ one_level cmp files level) (level + 1)
levels_by cmp files added level zero all whole lt = absurd (omega arith)
levels_by cmp files added level (suc left) all whole lt = record {
  left = left;
  all = omega arith;
  whole = append_assoc added (one_level cmp files level) (added_from cmp files (level + 1) left) ∙ ap (λ (t : List NewFile). added ++ t) (sym (added_from-suc cmp files level left)) ∙ whole;
}

pub levels_on : (cmp : List ℕ → List ℕ → Ordering) (files added : List NewFile) (level : ℕ) → Levels cmp files added level → level < 7 → Levels cmp files (added ++ one_level cmp files level) (level + 1)
levels_on cmp files added level l lt = levels_by cmp files added level l.left l.all l.whole lt

levels_none : (cmp : List ℕ → List ℕ → Ordering) (files added : List NewFile) (level left : ℕ) → level + left ≡ 7 → added ++ added_from cmp files level left ≡ added_from cmp files 0 7 → 7 ≤ level → added ≡ added_from cmp files 0 7
levels_none cmp files added level zero all whole le = sym (append-nil added) ∙ ap (λ (t : List NewFile). added ++ t) (sym (added_from-zero cmp files level)) ∙ whole
levels_none cmp files added level (suc left) all whole le = absurd (omega arith)

pub levels_end : (cmp : List ℕ → List ℕ → Ordering) (files added : List NewFile) (level : ℕ) → Levels cmp files added level → 7 ≤ level → added ≡ added_from cmp files 0 7
levels_end cmp files added level l le = levels_none cmp files added level l.left l.all l.whole le

-- ---- the levels are from 0 to 6

abbrev low : NewFile → Type 0
low f = f.level ≤ 6

low_level : (level : ℕ) (files : List FileMeta) → level ≤ 6 → All low (map (at_level level) files)
low_level level [] le = All-nil low
low_level level (f ∷ files) le = All-cons low (at_level level f) (map (at_level level) files) le (low_level level files le)

low_from : (cmp : List ℕ → List ℕ → Ordering) (files : List NewFile) (level n : ℕ) → level + n ≤ 7 → All low (added_from cmp files level n)
low_from cmp files level zero le = subst (All low) (sym (added_from-zero cmp files level)) (All-nil low)
low_from cmp files level (suc n) le =
    subst (All low) (sym (added_from-suc cmp files level n))
    (All-append low (one_level cmp files level) (added_from cmp files (level + 1) n) (low_level level (in_version_order cmp (files_at files level)) (omega arith)) (low_from cmp files (level + 1) n (omega arith)))

pub added_low : (cmp : List ℕ → List ℕ → Ordering) (files : List NewFile) → All (λ (f : NewFile). f.level ≤ 6) (added_from cmp files 0 7)
added_low cmp files = low_from cmp files 0 7 (omega arith)

pub pointers_low : (pointers : List (ℕ × List ℕ)) → All (λ (level : ℕ). level ≤ 6) (keys_of pointers) → All (λ (p : CompactPointer). p.level ≤ 6) (map pointer_entry pointers)
pointers_low [] h = All-nil (λ (p : CompactPointer). p.level ≤ 6)
pointers_low (p ∷ ps) h =
    All-cons (λ (q : CompactPointer). q.level ≤ 6) (pointer_entry p) (map pointer_entry ps) (All-head (λ (level : ℕ). level ≤ 6) p.0 (keys_of ps) h) (pointers_low ps (All-tail (λ (level : ℕ). level ≤ 6) p.0 (keys_of ps) h))

pub lent_at_level : (level : ℕ) (files : List (Bor FileMeta)) → map (λ (f : Bor FileMeta). at_level level f.now) files ≡ map (at_level level) (map (λ (f : Bor FileMeta). f.now) files)
lent_at_level level [] = refl
lent_at_level level (f ∷ files) = ap (λ (t : List NewFile). at_level level f.now ∷ t) (lent_at_level level files)
