-- Whether a choice of inputs is closed in the host's version.
use Rattle.std.specs.Prelude.{◌≡◌, ◌⊎◌, ℕ, nat_le, Bool, ◌&&◌, if◌then◌else◌, List, map, Option}
use Rattle.std.specs.Prelude.{None, Some, Result, Ok, Err}
use Rattle.std.specs.List.{list_all}
use Rattle.std.specs.Option.{ok_or}
use Rattle.ikey.specs.Answers.{◌>>=◌, fault}
use Rattle.ikey.specs.fault.Fault.{Fault}
use Rattle.ikey.specs.fault.FaultName.TheVariants.{Apply}
use Rattle.ikey.specs.Comparator.{KeyOrder}
use Rattle.edit.specs.Edit.{Edit, empty_edit}
use Rattle.edit.specs.Version.{State, applied, empty_state}
use Rattle.edit.specs.declared.meta.NewFile.{NewFile}
use Rattle.edit.specs.declared.meta.TheConstants.{LAST_LEVEL}
use Rattle.pick.specs.ClosedChoice.{missing_answer}
use Rattle.pick.specs.declared.picked_inputs.InputFile.{InputFile}
use Rattle.c_api.specs.Codes.{coded}
use Rattle.c_api.specs.Files.{has_keys, meta_at}
use Rattle.c_api.specs.Orders.{by_order}
use Rattle.c_api.specs.declared.closed_calls.FilePlace.{FilePlace}
use Rattle.c_api.specs.declared.code.TheConstants.{MEMORY, MISUSE, OPEN_INPUTS}
use Rattle.c_api.specs.declared.file.File.{File}

-- whether a file has internal keys and a level from 0 to 6
abbrev pub is_file : List ℕ → File → Bool
is_file keys file = has_keys keys file && nat_le file.level LAST_LEVEL

-- whether each of them has
abbrev pub are_files : List ℕ → List File → Bool
are_files keys files = list_all (is_file keys) files

-- a file as a new one of a version
abbrev pub new_file : List ℕ → File → NewFile
new_file keys file = record { level = file.level; meta = meta_at keys file }

-- the edit that adds these files
abbrev pub adding : List NewFile → Edit
adding files = record empty_edit { added = files }

-- the version that has these files alone; Apply if two have one number
abbrev pub version_of : List ℕ → List File → Result State Fault
version_of keys files =
    ok_or (applied empty_state (adding (map (new_file keys) files))) (fault Apply)

-- The first file of a version that has to be taken with those of these numbers, if a compaction of
-- a level takes them.
abbrev pub closed_reading : ℕ → List ℕ → List File → List ℕ → KeyOrder →
    Result (Option InputFile) Fault
closed_reading level keys files numbers cmp = do
  version ← version_of keys files
  missing_answer cmp version level numbers

-- the same in the order of this number; MISUSE if a file's keys aren't lent or its level is above 6
abbrev pub closed_answer : ℕ → ℕ → List ℕ → List File → List ℕ → Result (Option InputFile) ℕ
closed_answer order level keys files numbers =
    if are_files keys files
    then coded (by_order order (closed_reading level keys files numbers))
    else Err MISUSE

-- A call's number and what it has set say this answer: 0 if no file is missing, else OPEN_INPUTS,
-- and the file; or the number of the refusal.
abbrev pub IsClosedAnswer : ℕ → FilePlace → FilePlace → Result (Option InputFile) ℕ → Type 0
IsClosedAnswer code old new (Ok None) = (code ≡ 0) × (new ≡ old)
IsClosedAnswer code old new (Ok (Some f)) =
    (code ≡ OPEN_INPUTS) × (new ≡ record { level = f.level; number = f.meta.number })
IsClosedAnswer code old new (Err n) = (code ≡ n) × (new ≡ old)

-- the same, or 99 for want of memory, and nothing is set
abbrev pub IsClosedAnswerOrMemory : ℕ → FilePlace → FilePlace → Result (Option InputFile) ℕ →
    Type 0
IsClosedAnswerOrMemory code old new answer =
    IsClosedAnswer code old new answer ⊎ ((code ≡ MEMORY) × (new ≡ old))
