-- Which levels `--all` compacts.
use Rattle.std.specs.Prelude.{◌≡◌, ◌⊎◌, ◌<◌, ◌≤◌, ℕ, length, Option, Some, None}
use Rattle.folder.specs.Bytewise.{bytewise_cmp}
use Rattle.folder.specs.Version.{State}
use Rattle.folder.specs.VersionOrder.{level_files}
use Rattle.folder.specs.meta.TheConstants.{LAST_LEVEL}

-- the number of a level's files, whatever their order is
abbrev pub file_count : State → ℕ → ℕ
file_count v level = length (level_files bytewise_cmp v level)

-- a level has no file
abbrev pub IsEmptyLevel : State → ℕ → Type 0
IsEmptyLevel v level = file_count v level ≡ 0

-- the deepest level that has a file, and at least level 1
abbrev pub IsBottom : State → ℕ → Type 0
IsBottom v bottom = (1 ≤ bottom) × (bottom ≤ LAST_LEVEL)
    × ((bottom ≡ 1) ⊎ (IsEmptyLevel v bottom → ⊥))
    × ((level : ℕ) → bottom < level → level ≤ LAST_LEVEL → IsEmptyLevel v level)

-- the first level above the bottom that has a file, if there is one
abbrev pub IsNextLevel : State → ℕ → Option ℕ → Type 0
IsNextLevel v bottom None = (level : ℕ) → level < bottom → IsEmptyLevel v level
IsNextLevel v bottom (Some next) = (next < bottom) × (IsEmptyLevel v next → ⊥)
    × ((level : ℕ) → level < next → IsEmptyLevel v level)
