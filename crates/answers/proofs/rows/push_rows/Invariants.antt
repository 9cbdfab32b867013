use Rattle.std.proofs.Common.{◌≡◌, ◌++◌, take, string_bytes}
use Rattle.std.specs.List.{flat_map}
use Rattle.answers.specs.Rows.{row_line}
use Rattle.answers.specs.Seen.{seen}
use Rattle.answers.proofs.rows.push_rows.Given as goal

abbrev pub invariant-loop-row : goal.invariant-loop-row
invariant-loop-row l = string_bytes l.text ≡ string_bytes l.fn.text ++ flat_map (λ row. row_line l.spelling (seen row)) (take l.row-index l.rows)
