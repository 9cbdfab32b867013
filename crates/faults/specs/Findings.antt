-- What is wrong with files, by what the tests of their tables find.
use Rattle.std.specs.Prelude.{◌≡◌, ℕ, nat_eq, Bool, false, not, ◌&&◌, List, [], ◌∷◌}
use Rattle.std.specs.Prelude.{◌++◌, length, map, filter, fold, Option, unwrap_or, Result, Ok, Err}
use Rattle.std.specs.BTreeSet.{insert_key}
use Rattle.std.specs.Option.{option_map}
use Rattle.std.specs.Str.{bytes_eq}
use Rattle.table.specs.fault.Fault.{Fault}
use Rattle.table.specs.Comparator.{KeyOrder}
use Rattle.table.specs.TableContents.{Contents, contents_reading}
use Rattle.folder.specs.meta.FileMeta.{FileMeta}
use Rattle.folder.specs.meta.NewFile.{NewFile}
use Rattle.folder.specs.Calls.{Files}
use Rattle.reads.specs.StatedFiles.{is_below}
use Rattle.reads.specs.FileList.{level_file_in, newer_number}
use Rattle.faults.specs.VersionFault.{VersionFault, OfFile}
use Rattle.faults.specs.FileFaults.{file_reading, largest_of, overlap_faults, smallest_of, unless}
use Rattle.faults.specs.declared.file_fault.FileFault.{FileFault}
use Rattle.faults.specs.declared.file_fault.FileFault.TheVariants.{NotBelow, Refused, Length}
use Rattle.faults.specs.declared.file_fault.FileFault.TheVariants.{Smallest, Largest}
use Rattle.faults.specs.declared.table_test.TableFinding.{TableFinding}
use Rattle.faults.specs.declared.table_test.TableFinding.TheVariants.{Readable, Unreadable}
use Rattle.faults.specs.declared.table_test.TestedFile.{TestedFile}

-- what is found of a file's table, by what it holds
abbrev pub finding_of : FileMeta → Result Contents Fault → TableFinding
finding_of f (Err e) = Unreadable e.name
finding_of f (Ok x) =
    Readable (length x.bytes) (bytes_eq f.smallest (smallest_of x))
    (bytes_eq f.largest (largest_of x))

-- what is found of a file's table under a name; None if no file has this name
abbrev pub finding_under : KeyOrder → FileMeta → Option (List ℕ) → Option TableFinding
finding_under cmp f held = option_map (λ bytes. finding_of f (contents_reading cmp bytes)) held

-- a file, and what is found of its table
pub record FoundFile : Type 0 where
  pub file : NewFile
  pub finding : TableFinding

abbrev pub found_in : TestedFile → FoundFile
found_in t = record { file = level_file_in t.file; finding = t.finding }

-- what is found of a file whose table these files hold
abbrev pub found_file : KeyOrder → Files → NewFile → FoundFile
found_file cmp files f =
    record { file = f; finding = finding_of f.meta (file_reading cmp files f.meta.number) }

-- the answer of the test of files, one by one
abbrev pub IsTestAnswer : KeyOrder → Files → List NewFile → Result (List FoundFile) Fault → Type 0
IsTestAnswer cmp files listed (Ok found) = found ≡ map (found_file cmp files) listed
IsTestAnswer cmp files listed (Err e) = Unit {0} → ⊥

-- what is wrong with a table
abbrev pub finding_faults : FileMeta → TableFinding → List FileFault
finding_faults f (Unreadable name) = Refused name ∷ []
finding_faults f (Readable held has_smallest has_largest) =
    unless (nat_eq f.size held) (Length held f.size)
    ++ (unless has_smallest Smallest ++ unless has_largest Largest)

-- what is wrong with a file, if these come after it
abbrev pub found_faults : KeyOrder → Option ℕ → FoundFile → List NewFile → List FileFault
found_faults cmp next f behind =
    unless (is_below next f.file.meta.number) (NotBelow (unwrap_or next 0))
    ++ (finding_faults f.file.meta f.finding ++ overlap_faults cmp f.file behind)

-- what is wrong with files, one after the other
abbrev pub faults_of_found : KeyOrder → Option ℕ → List FoundFile → List VersionFault
faults_of_found cmp next [] = []
faults_of_found cmp next (f ∷ behind) =
    map (OfFile f.file.meta.number)
    (found_faults cmp next f (map (λ (g : FoundFile). g.file) behind))
    ++ faults_of_found cmp next behind

-- whether a table can be read, and has the length and bounds that the version states
abbrev pub is_sound_finding : FileMeta → TableFinding → Bool
is_sound_finding f (Unreadable name) = false
is_sound_finding f (Readable held has_smallest has_largest) =
    nat_eq f.size held && (has_smallest && has_largest)

-- a sound file of level 0
abbrev pub is_top_found : FoundFile → Bool
is_top_found f = nat_eq f.file.level 0 && is_sound_finding f.file.meta f.finding

-- a sound file of another level
abbrev pub is_deep_found : FoundFile → Bool
is_deep_found f = not (nat_eq f.file.level 0) && is_sound_finding f.file.meta f.finding

-- what is stated of the files that pass a test
abbrev pub metas_found : (FoundFile → Bool) → List FoundFile → List FileMeta
metas_found test fs = map (λ (f : FoundFile). f.file.meta) (filter test fs)

-- the sound files in the order of search
abbrev pub searched_found : List FoundFile → List FileMeta
searched_found fs =
    fold (insert_key newer_number) [] (metas_found is_top_found fs) ++ metas_found is_deep_found fs
