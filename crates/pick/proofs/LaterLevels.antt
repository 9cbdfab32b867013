-- The files of the levels from one on.
use Rattle.std.proofs.Common.{◌≡◌, ℕ, zero, suc, ◌+◌, ◌-◌, ◌<◌, ◌≤◌, List, [], ◌++◌, sym, ap, ◌∙◌, arith, append_assoc, append-nil}
use Rattle.std.specs.declared.cmp.Ordering.{Ordering}
use Rattle.edit.specs.Version.{State}
use Rattle.edit.specs.VersionOrder.{level_files}
use Rattle.edit.specs.declared.meta.FileMeta.{FileMeta}
use Rattle.pick.specs.PickedInputs.{files_from}

-- the files of one level and those of the rest
pub deeper_more : (cmp : List ℕ → List ℕ → Ordering) (v : State) (level : ℕ) → level < 7 → files_from cmp v level (7 - level) ≡ level_files cmp v level ++ files_from cmp v (level + 1) (7 - (level + 1))
unfolding files_from
deeper_more cmp v level below =
    let this : 7 - level ≡ suc (6 - level) = omega arith in
    let next : 6 - level ≡ 7 - (level + 1) = omega arith in
    ap (files_from cmp v level) this ∙ ap (λ n. level_files cmp v level ++ files_from cmp v (level + 1) n) next

pub deeper_none : (cmp : List ℕ → List ℕ → Ordering) (v : State) (level : ℕ) → 7 ≤ level → files_from cmp v level (7 - level) ≡ []
unfolding files_from
deeper_none cmp v level above = let none : 7 - level ≡ zero = omega arith in ap (files_from cmp v level) none

-- a step of the loop over the levels
pub deeper_on : (cmp : List ℕ → List ℕ → Ordering) (v : State) (level : ℕ) (so_far more files all : List FileMeta) → level < 7 → so_far ++ files_from cmp v level (7 - level) ≡ all → files ≡ level_files cmp v level → more ≡ so_far ++ files
    → more ++ files_from cmp v (level + 1) (7 - (level + 1)) ≡ all
deeper_on cmp v level so_far more files all below h same e =
    let rest = files_from cmp v (level + 1) (7 - (level + 1)) in
    ap (λ (l : List FileMeta). l ++ rest) (e ∙ ap (λ (l : List FileMeta). so_far ++ l) same) ∙ append_assoc so_far (level_files cmp v level) rest ∙ ap (λ (l : List FileMeta). so_far ++ l) (sym (deeper_more cmp v level below)) ∙ h

pub deeper_all : (cmp : List ℕ → List ℕ → Ordering) (v : State) (level : ℕ) (so_far all : List FileMeta) → 7 ≤ level → so_far ++ files_from cmp v level (7 - level) ≡ all → all ≡ so_far
deeper_all cmp v level so_far all above h = sym h ∙ ap (λ (l : List FileMeta). so_far ++ l) (deeper_none cmp v level above) ∙ append-nil so_far
