-- The number after those of the outputs is below 2 ^ 64.
use Rattle.std.proofs.Common.{◌≡◌, ℕ, ◌+◌, ◌<◌, ◌^◌, Bool, true, false, List, length, Some, None, Ok, if◌then◌else◌, sym, ap, subst, ◌∙◌, arith}
use Rattle.std.specs.Prelude.{◌&&◌, nat_le, nat_lt}
use Rattle.std.specs.Option.{ok_or}
use Rattle.std.specs.declared.cmp.Ordering.{Ordering}
use Rattle.std.proofs.lemmas.List.{length-map}
use Rattle.edit.proofs.Binds.{bind_ok, ok_is}
use Rattle.edit.specs.Answers.{fault, ◌>>=◌}
use Rattle.edit.specs.fault.FaultName.TheVariants.{Numbers, SplitCount, Workers}
use Rattle.edit.specs.Comparator.{ShortKeys}
use Rattle.edit.specs.Edit.{edit_bytes}
use Rattle.edit.specs.Version.{State}
use Rattle.pick.specs.PickedInputs.{PickedInputs}
use Rattle.keep.specs.TestResult.{test_result}
use Rattle.keep.proofs.EntryTests.{passed}
use Rattle.compact.specs.Outputs.{outputs}
use Rattle.compact.specs.EditOf.{edit_of, new_files}
use Rattle.compact.specs.Inputs.{inputs_reading, union_reading}
use Rattle.compact.specs.OneThread.{Answer, compaction_result, one_thread, outputs_answer, table_for}
use Rattle.compact.specs.OutputTables.{Output, numbered_tables, outputs_from, outputs_test}
use Rattle.compact.specs.Request.{RequestView, below_request, request_test}
use Rattle.compact.specs.declared.settings.Settings.{Settings}
use Rattle.store.specs.FolderRequest.{compaction_from, first_output, manifest_of, numbered_request, request_from}
use Rattle.store.proofs.ClosedJoint.{found_is}
use Rattle.levels.proofs.PartEdits.{below_told as below}

-- what an answer of one thread tells of its request
pub record Told (cmp : List ℕ → List ℕ → Ordering) (r : RequestView) (answer : Answer) : Type 0 where
  pub tested : request_test cmp r ≡ Ok tt
  pub few : r.first_number + length answer.tables < 2 ^ 64

abbrev answer_of : RequestView → List Output → Answer
answer_of r all = record { tables = numbered_tables all; edit = edit_bytes (edit_of r (new_files r all)) }

few_outputs : (r : RequestView) (all : List Output) (answer : Answer) → outputs_answer r all ≡ Ok answer → r.first_number + length answer.tables < 2 ^ 64
few_outputs r all answer h =
    let test = nat_lt (r.first_number + length all) (2 ^ 64) in
    let one = bind_ok (outputs_test r.options r.first_number all) (λ _. Ok (answer_of r all)) answer h in
    let two = bind_ok (test_result test Numbers) _ one.0 one.1 in
    let lt = below (r.first_number + length all) (2 ^ 64) (passed test Numbers two.0 two.1) in
    let tables : numbered_tables all ≡ answer.tables = ap (λ (a : Answer). a.tables) (ok_is (answer_of r all) answer one.2) in
    let count : length answer.tables ≡ length all = ap length (sym tables) ∙ length-map all (λ (w : Output). (w.number, w.bytes)) in
    omega (arith, lt, count)

pub told_by : (cmp : List ℕ → List ℕ → Ordering) (short_keys : ShortKeys) (r : RequestView) (answer : Answer) → one_thread cmp short_keys r ≡ Ok answer → Told cmp r answer
told_by cmp short_keys r answer h =
    let one = bind_ok (request_test cmp r) (λ _. inputs_reading cmp 0 r.picked.files r.tables >>= λ inputs. union_reading cmp inputs >>= λ union. outputs_answer r (outputs_from (table_for cmp short_keys r) r.first_number (outputs cmp (below_request r) r.options union))) answer h in
    let two = bind_ok (inputs_reading cmp 0 r.picked.files r.tables) (λ inputs. union_reading cmp inputs >>= λ union. outputs_answer r (outputs_from (table_for cmp short_keys r) r.first_number (outputs cmp (below_request r) r.options union))) answer one.2 in
    let three = bind_ok (union_reading cmp two.0) (λ union. outputs_answer r (outputs_from (table_for cmp short_keys r) r.first_number (outputs cmp (below_request r) r.options union))) answer two.2 in
    record {
      tested = one.1;
      few = few_outputs r _ answer three.2;
    }

-- the first number of a compaction that is answered
pub record FirstTold (cmp : List ℕ → List ℕ → Ordering) (v : State) (loaded : List (ℕ × List ℕ)) (p : PickedInputs) (s : Settings) (n : ℕ) (answer : Answer) : Type 0 where
  pub tested : request_test cmp (request_from n v loaded p s) ≡ Ok tt
  pub few : n + length answer.tables < 2 ^ 64

some_number : (b : Bool) (n m : ℕ) → (if b then Some n else None) ≡ Some m → m ≡ n
some_number true n m h = cc h
some_number false n m h = absurd (cc h)

pub first_told : (cmp : List ℕ → List ℕ → Ordering) (short_keys : ShortKeys) (v : State) (loaded : List (ℕ × List ℕ)) (p : PickedInputs) (s : Settings) (n : ℕ) (answer : Answer)
    → compaction_from (Some n) cmp short_keys v loaded p s ≡ Ok answer → FirstTold cmp v loaded p s n answer
first_told cmp short_keys v loaded p s n answer h =
    let one = bind_ok (test_result (nat_le 1 s.ranges && nat_le s.ranges 4096) SplitCount) (λ _. numbered_request (Some n) v loaded p s >>= λ r. compaction_result cmp short_keys s.workers r) answer h in
    let two = bind_ok (numbered_request (Some n) v loaded p s) (λ (r : RequestView). compaction_result cmp short_keys s.workers r) answer one.2 in
    let three = bind_ok (ok_or (first_output v (Some n)) (fault Numbers)) (λ (m : ℕ). Ok (request_from m v loaded p s)) two.0 two.1 in
    let four = bind_ok (test_result (nat_le 1 s.workers && nat_le s.workers 64) Workers) (λ _. one_thread cmp short_keys two.0) answer two.2 in
    let number : three.0 ≡ n = some_number (nat_lt (manifest_of v) n) n three.0 (found_is (first_output v (Some n)) Numbers three.0 three.1) in
    let request : two.0 ≡ request_from n v loaded p s = sym (ok_is (request_from three.0 v loaded p s) two.0 three.2) ∙ ap (λ (m : ℕ). request_from m v loaded p s) number in
    let told = told_by cmp short_keys (request_from n v loaded p s) answer (subst (λ (r : RequestView). one_thread cmp short_keys r ≡ Ok answer) request four.2) in
    record { tested = told.tested; few = told.few }
