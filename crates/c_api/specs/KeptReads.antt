-- What a host that makes these calls leaves of its version.
use Rattle.std.specs.Prelude.{◌≡◌, ℕ, List, None, Some, Ok}
use Rattle.ikey.specs.Comparator.{KeyOrder, ShortKeys}
use Rattle.edit.specs.Version.{State}
use Rattle.pick.specs.ClosedChoice.{IsClosedChoice, has_number_of}
use Rattle.compact.specs.OneThread.{Answer}
use Rattle.compact.specs.SurvivingReads.{LeavesClosedReads}
use Rattle.c_api.specs.Closed.{closed_answer, version_of}
use Rattle.c_api.specs.HostWork.{HostWork, IsOrder, KeepsTo, host_result}
use Rattle.c_api.specs.Hosts.{thread_request}
use Rattle.c_api.specs.Requests.{files_of, pointer_of}
use Rattle.c_api.specs.declared.file.File.{File}

-- A host that makes these calls and has tables and an edit at the end leaves reads as they were, in
-- each lawful version over which its inputs are: the edit applies, and the version after is lawful.
pub record CallsKeepReads (cmp : KeyOrder) (short_keys : ShortKeys) : Type 0 where
  pub survives : (w : HostWork) (boundaries : List (List ℕ)) (key : List ℕ) (answer : Answer) →
      IsOrder w.asked.request.order cmp short_keys →
      pointer_of cmp w.asked.keys w.asked.request.level (files_of w.asked.inputs) ≡ Some key →
      KeepsTo cmp boundaries w → host_result w ≡ Ok answer →
      LeavesClosedReads cmp (thread_request cmp w.asked key w.first w.numbers.log_number
      w.numbers.previous_log) answer
  -- inputs are closed in the version of these files if no file is told that is missing
  pub closed : (order level : ℕ) (keys : List ℕ) (files : List File) (numbers : List ℕ)
      (v : State) → IsOrder order cmp short_keys → version_of keys files ≡ Ok v →
      closed_answer order level keys files numbers ≡ Ok None →
      IsClosedChoice cmp v level (has_number_of numbers)
