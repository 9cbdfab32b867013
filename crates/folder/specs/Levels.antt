-- Lists over the levels of a version.
use Rattle.std.specs.Prelude.{ℕ, zero, suc, ◌+◌, List, [], ◌++◌, map}
use Rattle.ikey.specs.Comparator.{KeyOrder}
use Rattle.edit.specs.Version.{State}
use Rattle.edit.specs.VersionOrder.{level_files}
use Rattle.edit.specs.declared.meta.FileMeta.{FileMeta}
use Rattle.edit.specs.declared.meta.TheConstants.{LEVELS}

-- the lists of n levels from this one on, one after the other
abbrev pub by_level : {A : Type 0} → (ℕ → List A) → ℕ → ℕ → List A
by_level of level zero = []
by_level of level (suc n) = of level ++ by_level of (level + 1) n

-- the lists of levels 0 to 6, one after the other
abbrev pub all_levels : {A : Type 0} → (ℕ → List A) → List A
all_levels of = by_level of 0 LEVELS

-- the numbers of a level's files, in version order
abbrev pub numbers_at : KeyOrder → State → ℕ → List ℕ
numbers_at cmp v level = map (λ (f : FileMeta). f.number) (level_files cmp v level)

-- the numbers of a version's files: by level, and in each level in version order
abbrev pub file_numbers : KeyOrder → State → List ℕ
file_numbers cmp v = all_levels (numbers_at cmp v)
