-- The version edit of a compaction whose outputs the host has numbered.
use Rattle.std.specs.Prelude.{ℕ, nat_le, nat_lt, Bool, ◌&&◌, if◌then◌else◌, List, [], ◌∷◌, map}
use Rattle.std.specs.Prelude.{Option, None, Some, Result, Ok, Err}
use Rattle.std.specs.List.{list_all}
use Rattle.ikey.specs.Answers.{fault}
use Rattle.ikey.specs.fault.Fault.{Fault}
use Rattle.ikey.specs.fault.FaultName.TheVariants.{NoInput, Level}
use Rattle.ikey.specs.Comparator.{KeyOrder}
use Rattle.edit.specs.Edit.{Edit, edit_bytes}
use Rattle.edit.specs.declared.meta.TheConstants.{LAST_LEVEL}
use Rattle.pick.specs.declared.input_choice.TheConstants.{LAST_INPUT_LEVEL}
use Rattle.compact.specs.EditOf.{deletions_of}
use Rattle.c_api.specs.Closed.{are_files, new_file}
use Rattle.c_api.specs.Codes.{coded}
use Rattle.c_api.specs.Files.{has_keys}
use Rattle.c_api.specs.Orders.{by_order}
use Rattle.c_api.specs.Requests.{input_file, pointer_of}
use Rattle.c_api.specs.declared.code.TheConstants.{MISUSE}
use Rattle.c_api.specs.declared.edit_calls.Numbers.{Numbers}
use Rattle.c_api.specs.declared.file.File.{File}
use Rattle.c_api.specs.declared.lent.Lent.{Lent}

-- whether each file has a level from 0 to 6
abbrev pub have_levels : List File → Bool
have_levels files = list_all (λ (f : File). nat_le f.level LAST_LEVEL) files

-- An edit that is asked for: its order and level, the bytes in which all keys lie, the host's
-- numbers, the files of the inputs, and the new files.
pub record AskedEdit : Type 0 where
  pub order : ℕ
  pub level : ℕ
  pub keys : List ℕ
  pub numbers : Numbers
  pub files : List File
  pub added : List File

-- whether all keys are lent, and all levels are from 0 to 6
abbrev pub is_edit_lent : AskedEdit → Bool
is_edit_lent m = list_all (has_keys m.keys) m.files && have_levels m.files
    && are_files m.keys m.added

-- The edit of a compaction of these files that adds others: that of `edit_of`, but for the host's
-- numbers. It has these numbers and the compact pointer of the level, deletes each input, and has
-- the added files in their order.
abbrev pub edit_with : AskedEdit → List ℕ → Edit
edit_with m key = record {
  comparator = None;
  log_number = Some m.numbers.log_number;
  previous_log = Some m.numbers.previous_log;
  next_file = Some m.numbers.next_file;
  last_sequence = Some m.numbers.last_sequence;
  pointers = record { level = m.level; key = key } ∷ [];
  deleted = deletions_of (map (input_file m.keys) m.files);
  added = map (new_file m.keys) m.added;
}

-- its bytes, if the level's new compact pointer is known; without an input of the level NoInput or
-- Level
abbrev pub pointed_edit : AskedEdit → List File → Option (List ℕ) → Result (List ℕ) Fault
pointed_edit m files (Some key) = Ok (edit_bytes (edit_with m key))
pointed_edit m [] None = Err (fault NoInput)
pointed_edit m (f ∷ fs) None = Err (fault Level)

-- the bytes of the edit; Level if the level is above 5
abbrev pub edit_reading : AskedEdit → KeyOrder → Result (List ℕ) Fault
edit_reading m cmp =
    if nat_lt LAST_INPUT_LEVEL m.level
    then Err (fault Level)
    else pointed_edit m m.files (pointer_of cmp m.keys m.level m.files)

-- the same in the order of this number; MISUSE if a file's keys aren't lent or its level is above 6
abbrev pub edit_answer : AskedEdit → Result (List ℕ) ℕ
edit_answer m =
    if is_edit_lent m then coded (by_order m.order (edit_reading m)) else Err MISUSE

-- what is lent, as an edit that is asked for over these files of the inputs
abbrev pub edit_over : Lent → List File → Numbers → List File → AskedEdit
edit_over l files numbers added = record {
  order = l.request.order;
  level = l.request.level;
  keys = l.keys.now;
  numbers = numbers;
  files = files;
  added = added;
}
