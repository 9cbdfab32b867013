use Rattle.std.proofs.Common.{◌≡◌, ℕ, List, [], map, Result, Ok, Err, sym, ap, ◌∙◌}
use Rattle.std.specs.Borrow.{Bor}
use Rattle.ikey.proofs.Refusals.{FailsOrMemory-from}
use Rattle.ikey.specs.Answers.{EqualOrMemory}
use Rattle.ikey.specs.fault.Fault.{Fault}
use Rattle.edit.proofs.Binds.{ok_is}
use Rattle.pick.specs.PickedInputs.{PickedInputs, picked_in}
use Rattle.compact.specs.Request.{RequestView, request_test}
use Rattle.compact.specs.snapshots.Snapshots.{Snapshots}
use Rattle.table.specs.declared.options.Options.{Options}
use Rattle.c_api.specs.Held.{picked_over}
use Rattle.c_api.specs.Requests.{no_table, options_of, snapshots_of}
use Rattle.c_api.specs.declared.lent.LentFiles.{LentFiles}
use Rattle.c_api.proofs.request_calls.pointed.Goals as goal

same_test : (r test : Result (Unit {0}) Fault) → r ≡ test → EqualOrMemory (λ none. none) r test
same_test (Ok u) test h = sym h
same_test (Err e) test h = FailsOrMemory-from e test (sym h)

-- the tests of a request read no deeper file
pub returns : goal.returns
returns g c =
    let cmp = g.C.Comparator.cmp in
    let l : LentFiles = c.args.asked.now in
    let o = l.lent.now in
    let whole : PickedInputs = picked_over cmp l c.args.pointer in
    let test : PickedInputs → List (List ℕ) → Snapshots → Options → Result (Unit {0}) Fault = λ p ts s options. request_test cmp (record {
      picked = p;
      tables = ts;
      snapshots = s;
      first_number = 0;
      log_number = 0;
      previous_log = 0;
      last_sequence = o.request.last_sequence;
      options = options;
    }) in
    let picked : PickedInputs = picked_in c.in_ok-picked.picked in
    let seen : List (Bor (List ℕ)) → List (List ℕ) = λ v. map (λ t. t.now) v in
    let tables : List (List ℕ) = seen c.deref.result.now in
    let fewer : PickedInputs = record whole { deeper = [] } in
    same_test c.check.result (test whole (map no_table l.files.now) (snapshots_of o.request o.snapshots) (options_of o.request))
    (c.check.ensures ∙ ap (λ (p : PickedInputs). test p tables c.snapshots.result c.options.result) (sym (ok_is fewer picked c.in_ok-picked.ensures))
    ∙ ap (λ (ts : List (List ℕ)). test fewer ts c.snapshots.result c.options.result) (ap seen c.deref.ensures.value ∙ sym (ok_is (map no_table l.files.now) (seen c.in_ok-tables.tables.items) c.in_ok-tables.ensures))
    ∙ ap (λ (s : Snapshots). test fewer (map no_table l.files.now) s c.options.result) c.snapshots.ensures
    ∙ ap (λ (options : Options). test fewer (map no_table l.files.now) (snapshots_of o.request o.snapshots) options) c.options.ensures)
