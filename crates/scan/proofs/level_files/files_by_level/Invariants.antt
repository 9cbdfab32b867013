use Rattle.std.proofs.Common.{◌≡◌, ◌++◌, ◌-◌, [], ◌∷◌, map}
use Rattle.folder.specs.VersionOrder.{level_files}
use Rattle.folder.specs.Levels.{all_levels, by_level}
use Rattle.scan.proofs.level_files.files_by_level.Given as goal

-- the files so far, and those of the levels that are left, are all
abbrev pub invariant-loop-level : goal.invariant-loop-level
invariant-loop-level g l =
    let cmp = g.C.Comparator.cmp in
    map (λ files. map (λ f. f.now) files.items) l.levels.items ++ by_level (λ level. level_files cmp l.version level ∷ []) l.level (7 - l.level) ≡ all_levels (λ level. level_files cmp l.version level ∷ [])
