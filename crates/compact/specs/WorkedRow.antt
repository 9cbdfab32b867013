-- A worked row: level 1 has a file A with the user key u at sequence 10, and a file B with u at 5.
use Rattle.std.specs.Prelude.{ℕ, List, [], ◌∷◌, None, Some}
use Rattle.ikey.specs.Key.{internal_key}
use Rattle.ikey.specs.declared.kind.Kind.TheVariants.{Put}
use Rattle.table.specs.EncodedEntry.{Entry}
use Rattle.edit.specs.Version.{State}
use Rattle.edit.specs.declared.meta.FileMeta.{FileMeta}
use Rattle.pick.specs.PickedInputs.{PickedInputs}
use Rattle.reads.specs.Tables.{NumberedContents}

-- the key of u, which is the byte 117, at a sequence
abbrev pub key_of_sequence : ℕ → List ℕ
key_of_sequence sequence = internal_key (117 ∷ []) sequence Put

-- a file that has only u at this sequence
abbrev pub file_at : ℕ → ℕ → FileMeta
file_at number sequence =
    record {
      number = number;
      size = 113;
      smallest = key_of_sequence sequence;
      largest =
          key_of_sequence sequence;
    }

-- its entry
abbrev pub entry_of_sequence : ℕ → Entry
entry_of_sequence sequence = record { key = key_of_sequence sequence; value = [] }

-- its table
abbrev pub table_at : ℕ → ℕ → NumberedContents
table_at number sequence =
    record {
      number = number;
      contents =
          record { bytes = []; entries = entry_of_sequence sequence ∷ []; index_users = [] };
    }

-- A has number 8, B has number 9
abbrev pub two_files : State
two_files = record {
  log_number = None;
  previous_log = None;
  next_file = Some 10;
  last_sequence = None;
  pointers = [];
  files = record { level = 1; meta = file_at 8 10 } ∷ record { level = 1; meta = file_at 9 5 } ∷ [];
}

-- the tables of A and B
abbrev pub two_tables : List NumberedContents
two_tables = table_at 8 10 ∷ table_at 9 5 ∷ []

-- A alone as the inputs of level 1
abbrev pub first_alone : PickedInputs
first_alone = record {
  level = 1;
  files = record { level = 1; meta = file_at 8 10 } ∷ [];
  grandparents = [];
  deeper = [];
  pointer = record { level = 1; key = key_of_sequence 10 };
}
