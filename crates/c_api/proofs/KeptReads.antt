-- What a host that makes these calls leaves of its version.
use Rattle.std.proofs.Common.{◌≡◌, ℕ, List, Option, None, Result, Ok, refl, sym, ap, ◌∙◌}
use Rattle.ikey.specs.Answers.{◌>>=◌}
use Rattle.ikey.specs.Comparator.{KeyOrder, ShortKeys}
use Rattle.ikey.specs.fault.Fault.{Fault}
use Rattle.edit.specs.Version.{State}
use Rattle.pick.specs.ClosedChoice.{IsClosedChoice, has_number_of, missing_answer}
use Rattle.pick.specs.declared.picked_inputs.InputFile.{InputFile}
use Rattle.pick.proofs.ToldChoices.{answer_told}
use Rattle.compact.specs.OneThread.{one_thread}
use Rattle.compact.specs.SurvivingReads.{ClosedReadsSurvive}
use Rattle.c_api.specs.Closed.{are_files, closed_answer, closed_reading, version_of}
use Rattle.c_api.specs.HostWork.{CallsLaw, IsOrder}
use Rattle.c_api.specs.Hosts.{thread_request}
use Rattle.c_api.specs.KeptReads.{CallsKeepReads}
use Rattle.c_api.specs.Orders.{by_order}
use Rattle.c_api.specs.declared.code.TheConstants.{MISUSE}
use Rattle.c_api.specs.declared.file.File.{File}
use Rattle.c_api.proofs.HostWork.{coded_ok, picked}
use Rattle.c_api.proofs.Merging.{answered}

module _ (cmp : KeyOrder) (short_keys : ShortKeys) where
  none_missing : (order level : ℕ) (keys : List ℕ) (files : List File) (numbers : List ℕ) (v : State) → IsOrder order cmp short_keys → version_of keys files ≡ Ok v → closed_answer order level keys files numbers ≡ Ok None
      → missing_answer cmp v level numbers ≡ Ok None
  none_missing order level keys files numbers v own is told =
      let reading : KeyOrder → Result (Option InputFile) Fault = closed_reading level keys files numbers in
      sym (ap (λ (r : Result State Fault). r >>= λ version. missing_answer cmp version level numbers) is)
      ∙ sym (picked order cmp short_keys own (λ c s. reading c))
      ∙ answered (are_files keys files) (by_order order reading) MISUSE None told

  pub reads_kept : CallsLaw cmp short_keys → ClosedReadsSurvive cmp short_keys → CallsKeepReads cmp short_keys
  reads_kept calls survive = record {
    survives = λ w boundaries key answer own pointer keeps done.
        let r = thread_request cmp w.asked key w.first w.numbers.log_number w.numbers.previous_log in
        survive r answer (coded_ok (one_thread cmp short_keys r) answer (sym (calls.same w boundaries key own pointer keeps) ∙ done));
    closed = λ order level keys files numbers v own is told.
        (answer_told cmp v level numbers (Ok None) (none_missing order level keys files numbers v own is told)).0 refl;
  }
