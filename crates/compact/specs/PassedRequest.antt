-- What a request has that passes its tests.
use Rattle.std.specs.Prelude.{◌≡◌, ◌≢◌, ◌⊎◌, ◌+◌, ◌<◌, ◌≤◌, [], length, Ok}
use Rattle.std.specs.List.{All}
use Rattle.std.specs.List.Sorted.{IsStrictlyIncreasing}
use Rattle.table.specs.Options.{AreInLimits}
use Rattle.pick.specs.declared.picked_inputs.InputFile.{InputFile}
use Rattle.pick.specs.declared.input_choice.TheConstants.{LAST_INPUT_LEVEL}
use Rattle.keep.specs.Marks.{LargestRise}
use Rattle.keep.specs.Readable.{listed_of}
use Rattle.compact.specs.Request.{RequestView, request_test}
use Rattle.ikey.specs.declared.key.TheConstants.{MAX_SEQUENCE}
use Rattle.ikey.specs.Comparator.{KeyOrder}
use Rattle.compact.specs.declared.request_conditions.TheConstants.{MAX_INPUTS}

-- What a request has that passes its tests: an input, at most 256, and a table for each. Its level
-- is from 0 to 5, and its inputs are of that level or of the next. Its options are in their limits.
-- The grandparents' largest keys and the listed snapshots rise strictly, and the last sequence is
-- below MAX_SEQUENCE.
pub record IsPassed (cmp : KeyOrder) (r : RequestView) : Type 0 where
  pub some : r.picked.files ≢ []
  pub few : length r.picked.files ≤ MAX_INPUTS
  pub tables : length r.tables ≡ length r.picked.files
  pub level : r.picked.level ≤ LAST_INPUT_LEVEL
  pub levels : All (λ (i : InputFile). (i.level ≡ r.picked.level) ⊎ (i.level ≡ r.picked.level + 1))
      r.picked.files
  pub limits : AreInLimits r.options
  pub grandparents : LargestRise cmp r.picked.grandparents
  pub listed : IsStrictlyIncreasing (listed_of r.snapshots)
  pub last_sequence : r.last_sequence < MAX_SEQUENCE

-- each request that passes its tests has all of this
abbrev pub PassedLaw : KeyOrder → Type 0
PassedLaw cmp = (r : RequestView) → request_test cmp r ≡ Ok tt → IsPassed cmp r
