-- The user keys whose entries are not in their order.
use Rattle.std.specs.Prelude.{ℕ, nat_le, nat_eq, Bool, false, not, ◌&&◌, if◌then◌else◌}
use Rattle.std.specs.Prelude.{List, [], ◌∷◌, ◌++◌, length, map, filter, fold}
use Rattle.std.specs.Prelude.{Option, Some, None, Result, Ok, Err}
use Rattle.std.specs.BTreeSet.{insert_key}
use Rattle.std.specs.List.{filter_map, flat_map}
use Rattle.std.specs.Option.{option_map}
use Rattle.std.specs.Str.{bytes_eq}
use Rattle.table.specs.fault.Fault.{Fault}
use Rattle.table.specs.Comparator.{KeyOrder}
use Rattle.table.specs.Key.{user_of, sequence_of}
use Rattle.table.specs.EncodedEntry.{Entry}
use Rattle.table.specs.TableContents.{Contents}
use Rattle.folder.specs.meta.FileMeta.{FileMeta}
use Rattle.folder.specs.meta.NewFile.{NewFile}
use Rattle.folder.specs.Calls.{Files}
use Rattle.reads.specs.Bounds.{has_bounds}
use Rattle.reads.specs.FileList.{newer_number}
use Rattle.faults.specs.VersionFault.{MisplacedKey}
use Rattle.faults.specs.FileFaults.{file_reading, largest_of, smallest_of}

-- ---- the files whose entries are compared

-- whether a file's table can be read, and has the length and bounds that the version states
abbrev pub is_as_stated : FileMeta → Result Contents Fault → Bool
is_as_stated f (Err e) = false
is_as_stated f (Ok x) = has_bounds f (length x.bytes) (smallest_of x) (largest_of x)

-- the same of the table that files hold
abbrev pub is_sound : KeyOrder → Files → FileMeta → Bool
is_sound cmp files f = is_as_stated f (file_reading cmp files f.number)

-- a sound file of level 0
abbrev pub is_top : KeyOrder → Files → NewFile → Bool
is_top cmp files f = nat_eq f.level 0 && is_sound cmp files f.meta

-- a sound file of another level
abbrev pub is_deep : KeyOrder → Files → NewFile → Bool
is_deep cmp files f = not (nat_eq f.level 0) && is_sound cmp files f.meta

-- files that pass a test
abbrev pub metas_where : (NewFile → Bool) → List NewFile → List FileMeta
metas_where test files = map (λ (f : NewFile). f.meta) (filter test files)

-- The sound files in the order in which a get searches them, of files by level and in version
-- order: those of level 0 by falling number, then the others.
abbrev pub searched_files : KeyOrder → Files → List NewFile → List FileMeta
searched_files cmp files all =
    fold (insert_key newer_number) [] (metas_where (is_top cmp files) all)
    ++ metas_where (is_deep cmp files) all

-- ---- their entries

-- the key of an entry, and the number of the file that has it
pub record SearchedEntry : Type 0 where
  pub file : ℕ
  pub key : List ℕ

-- the entries of a file
pub record FileEntries : Type 0 where
  pub number : ℕ
  pub entries : List Entry

-- the entries that a table holds; none if it can't be read
abbrev pub read_entries : Result Contents Fault → List Entry
read_entries (Err e) = []
read_entries (Ok x) = x.entries

-- those of a file's table
abbrev pub read_file : KeyOrder → Files → FileMeta → FileEntries
read_file cmp files f =
    record { number = f.number; entries = read_entries (file_reading cmp files f.number) }

abbrev pub searched_in : FileEntries → List SearchedEntry
searched_in f = map (λ (e : Entry). record { file = f.number; key = e.key }) f.entries

-- the entries of files, one file after the other
abbrev pub searched_of : List FileEntries → List SearchedEntry
searched_of fs = flat_map searched_in fs

-- the entries of the sound files, in the order of search
abbrev pub searched_entries : KeyOrder → Files → List NewFile → List SearchedEntry
searched_entries cmp files all =
    searched_of (map (read_file cmp files) (searched_files cmp files all))

-- ---- the order of one user key's entries

-- the first of these entries that isn't older than the one before it, by the files of both; before
-- the first there is one of this file and sequence
abbrev pub break_after : ℕ → ℕ → List SearchedEntry → Option (ℕ × ℕ)
break_after file sequence [] = None
break_after file sequence (e ∷ rest) =
    if nat_le sequence (sequence_of e.key) then Some (file, e.file)
    else break_after e.file (sequence_of e.key) rest

-- the same of entries without one before them
abbrev pub first_break : List SearchedEntry → Option (ℕ × ℕ)
first_break [] = None
first_break (e ∷ rest) = break_after e.file (sequence_of e.key) rest

-- the entries of a user key
abbrev pub is_of : List ℕ → SearchedEntry → Bool
is_of user e = bytes_eq (user_of e.key) user

-- a user key whose entries are not in their order, with the files of the first two that aren't
abbrev pub misplaced_at : List SearchedEntry → List ℕ → Option MisplacedKey
misplaced_at entries user =
    option_map (λ files. record { user = user; file = files.0; other = files.1 })
    (first_break (filter (is_of user) entries))

-- the user keys of entries, each once, in their order
abbrev pub users_of : KeyOrder → List SearchedEntry → List (List ℕ)
users_of cmp entries =
    fold (insert_key cmp) [] (map (λ (e : SearchedEntry). user_of e.key) entries)

-- all user keys whose entries are not in their order, in the order of the keys
abbrev pub misplaced_keys : KeyOrder → List SearchedEntry → List MisplacedKey
misplaced_keys cmp entries = filter_map (misplaced_at entries) (users_of cmp entries)
