-- The version edit of a compaction.
use Rattle.std.specs.Prelude.{ℕ, ◌+◌, List, [], ◌∷◌, length, map, Some, None}
use Rattle.std.specs.List.{fold}
use Rattle.std.specs.BTreeSet.{insert_key}
use Rattle.reads.specs.BuilderView.{last_key}
use Rattle.table.specs.EntryTests.{first_key}
use Rattle.edit.specs.Edit.{Edit, deleted_cmp}
use Rattle.edit.specs.declared.meta.NewFile.{NewFile}
use Rattle.edit.specs.declared.meta.DeletedFile.{DeletedFile}
use Rattle.pick.specs.declared.picked_inputs.InputFile.{InputFile}
use Rattle.compact.specs.OutputTables.{Output}
use Rattle.compact.specs.Request.{RequestView}

-- the deletion of an input
abbrev pub deletion_of : InputFile → DeletedFile
deletion_of i = record { level = i.level; number = i.meta.number }

-- the deletions of inputs by level and number, each once
abbrev pub deletions_of : List InputFile → List DeletedFile
deletions_of files = fold (insert_key deleted_cmp) [] (map deletion_of files)

-- an output as a new file: its number, the length of its table, its first and last key
abbrev pub new_file : ℕ → Output → NewFile
new_file level w = record {
  level = level;
  meta = record {
    number = w.number;
    size = length w.bytes;
    smallest = first_key w.entries;
    largest = last_key [] w.entries;
  };
}

-- the outputs as new files of the next level
abbrev pub new_files : RequestView → List Output → List NewFile
new_files r outputs = map (new_file (r.picked.level + 1)) outputs

-- The edit of a compaction whose outputs are these new files. It has the request's counters, as
-- next file the number after the last output's, and the compact pointer of the level. It deletes
-- each input, and has the new files. It names no comparator.
abbrev pub edit_of : RequestView → List NewFile → Edit
edit_of r files = record {
  comparator = None;
  log_number = Some r.log_number;
  previous_log = Some r.previous_log;
  next_file = Some (r.first_number + length files);
  last_sequence = Some r.last_sequence;
  pointers = record { level = r.picked.level; key = r.picked.pointer.key } ∷ [];
  deleted = deletions_of r.picked.files;
  added = files;
}
