-- The fields of an object as data.
use Rattle.std.specs.Prelude.{List, ℕ, true, option_map}
use Rattle.std.specs.Borrow.{Bor}
use Rattle.serde_json.specs.Data.{Data, boolean, string}
use Rattle.texts.specs.declared.spelling.Spelling.{Spelling}
use Rattle.answers.specs.Objects.{key_data, natural, number_or_null, value_data}
use Rattle.answers.specs.declared.json_object.Cell.{Cell}
use Rattle.answers.specs.declared.json_object.Cell.TheVariants as cell

-- what a field holds
abbrev pub cell_data : Spelling → Cell → Data
cell_data spelling cell.True = boolean true
cell_data spelling (cell.Number n) = natural n
cell_data spelling (cell.Count n) = number_or_null n
cell_data spelling (cell.Text text) = string text.now
cell_data spelling (cell.Key key) = key_data spelling key.now
cell_data spelling (cell.Value value) = value_data spelling (option_map (λ bytes. bytes.now) value)

-- a field
abbrev pub field_data : Spelling → Bor (List ℕ) × Cell → List ℕ × Data
field_data spelling field = (field.0.now, cell_data spelling field.1)
