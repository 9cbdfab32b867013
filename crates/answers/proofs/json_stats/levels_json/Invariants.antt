use Rattle.std.proofs.Common.{◌≡◌, map, take}
use Rattle.serde_json.specs.View.{view}
use Rattle.answers.specs.StatsObject.{level_object}
use Rattle.answers.proofs.json_stats.levels_json.Given as goal

abbrev pub invariant-loop-level : goal.invariant-loop-level
invariant-loop-level l = map view l.values.items ≡ map (level_object l.spelling) (take l.level-index l.levels)
