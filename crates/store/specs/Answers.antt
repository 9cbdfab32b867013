-- What the compaction of a folder answers, if the folder holds these files.
use Rattle.std.specs.Prelude.{ℕ, Option, Some, Result}
use Rattle.folder.specs.Answers.{IsThen}
use Rattle.folder.specs.fault.Fault.{Fault}
use Rattle.folder.specs.Comparator.{KeyOrder, ShortKeys}
use Rattle.folder.specs.Version.{State}
use Rattle.folder.specs.Calls.{Files}
use Rattle.folder.specs.OpenAnswer.{IsOpened}
use Rattle.folder.specs.Orders.{order_cmp, order_short_keys}
use Rattle.folder.specs.ReadsAs.{IsFileIn}
use Rattle.compact.specs.declared.settings.Settings.{Settings}
use Rattle.store.specs.InputsCompaction.{IsInputsCompacted}
use Rattle.store.specs.Outcome.{IsTestAnswer}
use Rattle.store.specs.Step.{StepView}

-- The step of the compaction of a level of a version, or its first refusal: that of the test of the
-- version, if one is asked for; then that of the compaction of its inputs. A version that passes
-- the test is lawful, and so are the tables of its inputs.
abbrev pub IsCompacted : Option ℕ → KeyOrder → ShortKeys → Files → State → ℕ → Settings →
    Result StepView Fault → Type 0
IsCompacted test cmp short_keys files v level s = IsThen (IsTestAnswer test files cmp v)
    (λ passed. IsInputsCompacted cmp short_keys files v level s)

-- The same of the version that the folder opens as, by the order of its user keys, after a test.
-- How much that holds makes no difference.
abbrev pub IsFolderCompacted : Files → ℕ → Settings → Result StepView Fault → Type 0
IsFolderCompacted files level s = IsThen (IsOpened (IsFileIn files)) (λ opened.
    IsCompacted (Some 0) (order_cmp opened.0) (order_short_keys opened.0) files opened.1 level s)
