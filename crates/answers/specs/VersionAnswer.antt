-- The lines that show a folder's order and version, and the JSON object of these.
use Rattle.std.specs.Prelude.{◌≡◌, ℕ, List, [], ◌∷◌, ◌++◌, map, codes, decimal, Result, Ok}
use Rattle.std.specs.Prelude.{unwrap_or}
use Rattle.std.specs.Option.{option_map_or}
use Rattle.serde_json.specs.Data.{Data, string}
use Rattle.table.specs.Answers.{IsThen}
use Rattle.table.specs.fault.Fault.{Fault}
use Rattle.table.specs.Comparator.{KeyOrder}
use Rattle.edit.specs.Version.{State, pointer_of}
use Rattle.edit.specs.VersionOrder.{level_files}
use Rattle.folder.specs.Calls.{ToldFiles}
use Rattle.folder.specs.Levels.{all_levels}
use Rattle.folder.specs.Manifest.{order_name}
use Rattle.folder.specs.OpenAnswer.{IsOpened}
use Rattle.folder.specs.Orders.{order_cmp}
use Rattle.folder.specs.declared.order.Order.{Order}
use Rattle.texts.specs.declared.spelling.Spelling.{Spelling}
use Rattle.answers.specs.Objects.{natural, object_of}
use Rattle.answers.specs.Rows.{AnswerRow, listed, pointer, rows_array, rows_lines}
use Rattle.answers.specs.declared.version_answer.Counters.{Counters}

-- the counters of a version: each is 0 if it was never set
abbrev pub counters_of : State → Counters
counters_of v = record {
  last = unwrap_or v.last_sequence 0;
  log = unwrap_or v.log_number 0;
  next = unwrap_or v.next_file 0;
  previous = unwrap_or v.previous_log 0;
}

-- a level's compact pointer, if it has one
abbrev pub pointer_row : State → ℕ → List AnswerRow
pointer_row v level = option_map_or (λ key. pointer level key ∷ []) (pointer_of v level) []

-- the pointers by level
abbrev pub pointer_rows : State → List AnswerRow
pointer_rows v = all_levels (pointer_row v)

-- the files of a level, in version order
abbrev pub files_at : KeyOrder → State → ℕ → List AnswerRow
files_at cmp v level = map (listed level) (level_files cmp v level)

-- all files by level
abbrev pub file_rows : KeyOrder → State → List AnswerRow
file_rows cmp v = all_levels (files_at cmp v)

-- the lines of a comparator's name and of counters
abbrev pub head_lines : List ℕ → Counters → List ℕ
head_lines name n = codes "comparator " ++ (name ++ (codes "\nlog " ++ (decimal n.log
    ++ (codes "\nprevious " ++ (decimal n.previous ++ (codes "\nnext " ++ (decimal n.next
    ++ (codes "\nlast " ++ (decimal n.last ++ codes "\n")))))))))

-- those of a version, then the lines of the pointers, then those of the files
abbrev pub version_lines : Spelling → Order → State → List ℕ
version_lines spelling order v = head_lines (order_name order) (counters_of v)
    ++ rows_lines spelling (pointer_rows v)
    ++ rows_lines spelling (file_rows (order_cmp order) v)

-- a folder is opened, and these are the lines of what that gives
abbrev pub IsShown : Spelling → ToldFiles → Result (List ℕ) Fault → Type 0
IsShown spelling tells = IsThen (IsOpened tells)
    (λ opened answer. answer ≡ Ok (version_lines spelling opened.0 opened.1))

-- a comparator's name and counters, as fields
abbrev pub head_fields : List ℕ → Counters → List (List ℕ × Data)
head_fields name n = (codes "comparator", string name) ∷ (codes "last", natural n.last)
    ∷ (codes "log", natural n.log) ∷ (codes "next", natural n.next)
    ∷ (codes "previous", natural n.previous) ∷ []

-- those of a version, with the files and the pointers
abbrev pub version_object : Spelling → Order → State → Data
version_object spelling order v = object_of (head_fields (order_name order) (counters_of v)
    ++ (codes "files", rows_array spelling (file_rows (order_cmp order) v))
    ∷ (codes "pointers", rows_array spelling (pointer_rows v)) ∷ [])
