use Rattle.std.proofs.Common.{◌≡◌, map, take}
use Rattle.serde_json.specs.View.{view}
use Rattle.answers.specs.Rows.{row_object}
use Rattle.answers.specs.Seen.{seen}
use Rattle.answers.proofs.rows.objects.Given as goal

abbrev pub invariant-loop-row : goal.invariant-loop-row
invariant-loop-row l = map view l.values.items ≡ map (λ row. row_object l.spelling (seen row)) (take l.row-index l.rows)
