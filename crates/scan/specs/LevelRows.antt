-- What is told of levels, one after the other.
use Rattle.std.specs.Prelude.{ℕ, ◌+◌, List, [], ◌∷◌, ◌++◌}
use Rattle.table.specs.Comparator.{KeyOrder}
use Rattle.folder.specs.meta.FileMeta.{FileMeta}
use Rattle.scan.specs.Stats.{level_stats}
use Rattle.scan.specs.declared.amounts.Amounts.{Amounts}
use Rattle.scan.specs.declared.level_stats.LevelStats.{LevelStats}

-- of levels from this one on, with these files in version order and these amounts
abbrev pub level_rows : KeyOrder → ℕ → List (List FileMeta) → List Amounts → List LevelStats
level_rows cmp level [] amounts = []
level_rows cmp level (files ∷ levels) [] = []
level_rows cmp level (files ∷ levels) (a ∷ amounts) =
    level_stats cmp level a files ++ level_rows cmp (level + 1) levels amounts
