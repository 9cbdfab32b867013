-- The lines and the objects of rows whose keys and files are lent.
use Rattle.std.proofs.Common.{◌≡◌, List, map, sym, ap, ◌∙◌}
use Rattle.std.specs.List.{flat_map}
use Rattle.std.proofs.lemmas.List.Folds.{flat_map-map}
use Rattle.folder.proofs.LoadingLemmas.{map_fused}
use Rattle.texts.specs.declared.spelling.Spelling.{Spelling}
use Rattle.answers.specs.Rows.{AnswerRow, row_line, row_object, rows_lines}
use Rattle.answers.specs.Seen.{seen}
use Rattle.answers.specs.declared.rows.Row.{Row}

module _ (spelling : Spelling) (rows : List Row) (all : List AnswerRow) (is : map seen rows ≡ all) where
  pub lines_of : flat_map (λ (row : Row). row_line spelling (seen row)) rows ≡ rows_lines spelling all
  lines_of = sym (flat_map-map (row_line spelling) seen rows) ∙ ap (flat_map (row_line spelling)) is

  pub objects_of : map (λ (row : Row). row_object spelling (seen row)) rows ≡ map (row_object spelling) all
  objects_of = map_fused seen (row_object spelling) rows ∙ ap (map (row_object spelling)) is
