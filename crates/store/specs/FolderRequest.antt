-- What is asked of a compaction, if a folder holds this version and these tables.
use Rattle.std.specs.Prelude.{ℕ, ◌+◌, ◌-◌, ◌^◌, nat_le, nat_lt, ◌&&◌, if◌then◌else◌, List, map}
use Rattle.std.specs.Prelude.{unwrap_or, Option, Some, None, Result, Ok}
use Rattle.std.specs.Option.{ok_or}
use Rattle.folder.specs.Answers.{fault, ◌>>=◌}
use Rattle.folder.specs.fault.Fault.{Fault}
use Rattle.folder.specs.fault.FaultName.TheVariants.{Numbers, SplitCount}
use Rattle.reads.specs.TestResult.{test_result}
use Rattle.folder.specs.Version.{State}
use Rattle.pick.specs.PickedInputs.{PickedInputs}
use Rattle.pick.specs.declared.picked_inputs.InputFile.{InputFile}
use Rattle.install.specs.Install.{table_bytes_of}
-- the number of the new manifest
pub use Rattle.install.specs.Naming.{manifest_of}
use Rattle.compact.specs.OneThread.{Answer, compaction_result}
use Rattle.compact.specs.Request.{RequestView}
use Rattle.folder.specs.Comparator.{KeyOrder, ShortKeys}
use Rattle.compact.specs.declared.settings.Settings.{Settings}
use Rattle.split.specs.declared.split.TheConstants.{MAX_RANGES}

-- the version's last sequence
abbrev pub last_of : State → ℕ
last_of v = unwrap_or v.last_sequence 0

-- The request for these inputs, if the outputs have the numbers from this first one on: the bytes
-- loaded of each, and the version's counters. A previous log number that was never set is 0.
abbrev pub request_from : ℕ → State → List (ℕ × List ℕ) → PickedInputs → Settings → RequestView
request_from number v loaded p s = record {
  picked = p;
  tables = map (λ (i : InputFile). table_bytes_of loaded i.meta.number) p.files;
  snapshots = s.snapshots;
  first_number = number;
  log_number = unwrap_or v.log_number 0;
  previous_log = unwrap_or v.previous_log 0;
  last_sequence = last_of v;
  options = s.options;
}

-- The number of the first output: the one after the manifest's, if one is left; or the one that is
-- asked for, if it is above the manifest's.
abbrev pub first_output : State → Option ℕ → Option ℕ
first_output v None = if nat_lt (manifest_of v) (2 ^ 64 - 1) then Some (manifest_of v + 1) else None
first_output v (Some asked) = if nat_lt (manifest_of v) asked then Some asked else None

-- the request with that first number, or Numbers if there is none
abbrev pub numbered_request : Option ℕ → State → List (ℕ × List ℕ) → PickedInputs → Settings →
    Result RequestView Fault
numbered_request first v loaded p s = ok_or (first_output v first) (fault Numbers) >>=
    λ number. Ok (request_from number v loaded p s)

-- What a compaction of these inputs answers, for outputs with the numbers after the manifest's, or
-- from a first one on that is asked for. It is SplitCount if the ranges are outside 1 to 4,096,
-- then Numbers if there is no such first number, then what the request for them answers.
abbrev pub compaction_from : Option ℕ → KeyOrder → ShortKeys → State → List (ℕ × List ℕ) →
    PickedInputs → Settings → Result Answer Fault
compaction_from first cmp short_keys v loaded p s = do
  _ ← test_result (nat_le 1 s.ranges && nat_le s.ranges MAX_RANGES) SplitCount
  r ← numbered_request first v loaded p s
  compaction_result cmp short_keys s.workers r
