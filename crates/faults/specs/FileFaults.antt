-- What is wrong with the files of a version.
use Rattle.std.specs.Prelude.{ℕ, ◌-◌, nat_lt, nat_eq, Bool, not, ◌&&◌, ◌||◌, if◌then◌else◌}
use Rattle.std.specs.Prelude.{List, [], ◌∷◌, ◌++◌, length, map, filter, slice_get}
use Rattle.std.specs.Prelude.{Option, unwrap_or, Result, Ok, Err}
use Rattle.std.specs.Option.{option_map_or, option_or, ok_or}
use Rattle.std.specs.Ordering.{is_lt}
use Rattle.std.specs.Str.{bytes_eq}
use Rattle.table.specs.Answers.{◌>>=◌, fault}
use Rattle.table.specs.fault.Fault.{Fault}
use Rattle.table.specs.fault.FaultName.TheVariants.{Missing}
use Rattle.table.specs.Order.{internal_cmp}
use Rattle.table.specs.Comparator.{KeyOrder}
use Rattle.table.specs.EncodedEntry.{Entry}
use Rattle.table.specs.TableContents.{Contents, contents_reading}
use Rattle.folder.specs.meta.FileMeta.{FileMeta}
use Rattle.folder.specs.meta.NewFile.{NewFile}
use Rattle.folder.specs.Calls.{Files}
use Rattle.folder.specs.Names.{old_table_name, table_name}
use Rattle.reads.specs.StatedFiles.{is_below}
use Rattle.faults.specs.VersionFault.{VersionFault, OfFile}
use Rattle.faults.specs.declared.file_fault.FileFault.{FileFault}
use Rattle.faults.specs.declared.file_fault.FileFault.TheVariants.{NotBelow, Refused, Length}
use Rattle.faults.specs.declared.file_fault.FileFault.TheVariants.{Smallest, Largest, Overlaps}

-- the bytes of the table of a number: those under its name, or if there are none those under its
-- older name
abbrev pub table_held : Files → ℕ → Option (List ℕ)
table_held files number = option_or (files (table_name number)) (files (old_table_name number))

-- what the table of a number holds; else Missing, or the first test that its bytes fail
abbrev pub file_reading : KeyOrder → Files → ℕ → Result Contents Fault
file_reading cmp files number =
    ok_or (table_held files number) (fault Missing) >>= contents_reading cmp

-- the key of a table's first entry
abbrev pub smallest_of : Contents → List ℕ
smallest_of x = option_map_or (λ (e : Entry). e.key) (slice_get x.entries 0) []

-- the key of its last entry
abbrev pub largest_of : Contents → List ℕ
largest_of x = option_map_or (λ (e : Entry). e.key) (slice_get x.entries (length x.entries - 1)) []

-- this fault, unless a test holds
abbrev pub unless : Bool → FileFault → List FileFault
unless holds f = if holds then [] else f ∷ []

-- what is wrong with a file's table, by what it holds
abbrev pub table_faults : FileMeta → Result Contents Fault → List FileFault
table_faults f (Err e) = Refused e.name ∷ []
table_faults f (Ok x) = unless (nat_eq f.size (length x.bytes)) (Length (length x.bytes) f.size)
    ++ (unless (bytes_eq f.smallest (smallest_of x)) Smallest
    ++ unless (bytes_eq f.largest (largest_of x)) Largest)

-- whether a file ends before another one begins
abbrev pub lies_before : KeyOrder → FileMeta → FileMeta → Bool
lies_before cmp f g = is_lt (internal_cmp cmp f.largest g.smallest)

-- whether two files have no internal key in common, by their ranges
abbrev pub are_disjoint : KeyOrder → FileMeta → FileMeta → Bool
are_disjoint cmp f g = lies_before cmp f g || lies_before cmp g f

-- whether two files are at one level from 1 on, and their ranges are not disjoint
abbrev pub overlap : KeyOrder → NewFile → NewFile → Bool
overlap cmp f g =
    (nat_lt 0 f.level && nat_eq f.level g.level) && not (are_disjoint cmp f.meta g.meta)

-- that a file overlaps some of these files
abbrev pub overlap_faults : KeyOrder → NewFile → List NewFile → List FileFault
overlap_faults cmp f others =
    map (λ (g : NewFile). Overlaps g.meta.number) (filter (overlap cmp f) others)

-- what is wrong with a file, if these come after it
abbrev pub file_faults : KeyOrder → Files → Option ℕ → NewFile → List NewFile → List FileFault
file_faults cmp files next f behind =
    unless (is_below next f.meta.number) (NotBelow (unwrap_or next 0))
    ++ (table_faults f.meta (file_reading cmp files f.meta.number) ++ overlap_faults cmp f behind)

-- what is wrong with files, one after the other
abbrev pub faults_of_files : KeyOrder → Files → Option ℕ → List NewFile → List VersionFault
faults_of_files cmp files next [] = []
faults_of_files cmp files next (f ∷ behind) =
    map (OfFile f.meta.number) (file_faults cmp files next f behind)
    ++ faults_of_files cmp files next behind
