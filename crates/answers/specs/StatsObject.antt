-- The JSON object of how much a version has.
use Rattle.std.specs.Prelude.{List, [], ◌∷◌, map, codes}
use Rattle.serde_json.specs.Data.{Data, array}
use Rattle.serde_json.specs.View.{items_of}
use Rattle.table.specs.Saturated.{saturated}
use Rattle.table.specs.Key.{user_of}
use Rattle.scan.specs.declared.file_total.FileTotal.{FileTotal}
use Rattle.scan.specs.declared.level_stats.LevelStats.{LevelStats}
use Rattle.texts.specs.declared.spelling.Spelling.{Spelling}
use Rattle.answers.specs.Objects.{key_data, natural, object_of}

-- a level, with user keys
abbrev pub level_object : Spelling → LevelStats → Data
level_object spelling s = object_of ((codes "bytes", natural s.amounts.bytes)
    ∷ (codes "deletions", natural (saturated s.amounts.deletions))
    ∷ (codes "entries", natural (saturated s.amounts.entries))
    ∷ (codes "files", natural s.amounts.files)
    ∷ (codes "hidden", natural (saturated s.amounts.hidden))
    ∷ (codes "largest", key_data spelling (user_of s.largest)) ∷ (codes "level", natural s.level)
    ∷ (codes "smallest", key_data spelling (user_of s.smallest)) ∷ [])

-- files that are counted
abbrev pub total_object : FileTotal → Data
total_object total =
    object_of ((codes "bytes", natural total.bytes) ∷ (codes "files", natural total.files) ∷ [])

-- a version's levels, then the logs and the files that no version names
abbrev pub stats_object : Spelling → List LevelStats → FileTotal → FileTotal → Data
stats_object spelling levels logs unnamed =
    object_of ((codes "levels", array (items_of (map (level_object spelling) levels)))
    ∷ (codes "logs", total_object logs) ∷ (codes "unnamed", total_object unnamed) ∷ [])
