-- Tests, one after the other: the first that fails is the answer.
use Rattle.std.specs.Prelude.{Bool, if◌then◌else◌, Result, Ok, Err}
use Rattle.coding.specs.Answers.{fault}
use Rattle.coding.specs.declared.fault.Fault.{Fault}
use Rattle.coding.specs.declared.fault.FaultName.{FaultName}

-- a test, which is refused by this name if it fails
abbrev pub test_result : Bool → FaultName → Result (Unit {0}) Fault
test_result holds name = if holds then Ok tt else Err (fault name)
