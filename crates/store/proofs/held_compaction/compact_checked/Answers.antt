use Rattle.std.proofs.Common.{◌≡◌, Bor, List, ℕ, Result, map, sym, ap, subst, ◌∙◌}
use Rattle.std.specs.Prelude.{◌&&◌, nat_le}
use Rattle.std.proofs.lemmas.Result.{err_from_is_err_and}
use Rattle.folder.proofs.Binds.{ok_is}
use Rattle.folder.specs.Answers.{EqualOrMemory}
use Rattle.folder.specs.fault.Fault.{Fault}
use Rattle.folder.specs.fault.FaultName.TheVariants.{SplitCount}
use Rattle.reads.specs.TableContents.{Contents}
use Rattle.reads.specs.TestResult.{test_result}
use Rattle.pick.specs.PickedInputs.{picked_in}
use Rattle.pick.specs.declared.picked_inputs.Inputs.{Inputs}
use Rattle.compact.specs.Inputs.{inputs_reading}
use Rattle.compact.specs.OneThread.{Answer, compaction_result}
use Rattle.compact.specs.Request.{RequestView, request_in}
use Rattle.compact.specs.AnswerIn.{answer_in}
use Rattle.store.specs.FolderRequest.{numbered_request}
use Rattle.store.proofs.Compactions.{answer_behind, refused_behind}
use Rattle.store.proofs.held_compaction.compact_checked.Goals as goal

pub compact_tables-requires-clause-read : goal.compact_tables-requires-clause-read
compact_tables-requires-clause-read g c κs within =
    let cmp = g.C.Comparator.cmp in
    let files = c.args.picked.now.files.items in
    let bytes : map (λ (b : Bor (List ℕ)). b.now) c.deref.result.now ≡ map (λ (t : Contents). t.bytes) c.args.tables.now =
    ap (map (λ (b : Bor (List ℕ)). b.now)) c.deref.ensures.value ∙ sym (ok_is _ _ c.in_ok-bytes.ensures) in
    let lent = c.in_ok-request.ensures.lent in
    ap (λ (p : Inputs). inputs_reading cmp 0 p.files.items (map (λ (b : Bor (List ℕ)). b.now) c.in_ok-request.request.tables.now)) lent.0
    ∙ ap (λ (ts : List (Bor (List ℕ))). inputs_reading cmp 0 files (map (λ (b : Bor (List ℕ)). b.now) ts)) lent.1
    ∙ ap (inputs_reading cmp 0 files) bytes
    ∙ c.requires.read

pub returns-in_err-request-clause-answer : goal.returns-in_err-request-clause-answer
returns-in_err-request-clause-answer g c loaded given =
    let bytes = ap (map (λ (b : Bor (List ℕ)). b.now)) c.deref.ensures.value ∙ sym (ok_is _ _ c.in_ok-bytes.ensures) ∙ given in
    let p = err_from_is_err_and c.from_residual-in_err-request.result c.from_residual-in_err-request.ensures.1 in
    rw (p.1, p.2)
    (refused_behind (test_result (nat_le 1 c.args.settings.now.ranges && nat_le c.args.settings.now.ranges 4096) SplitCount) (numbered_request c.args.first c.args.version.now loaded (picked_in c.args.picked.now) c.args.settings.now)
    (λ (r : RequestView). compaction_result g.C.Comparator.cmp g.C.Comparator.short_keys c.args.settings.now.workers r) c.in_err-request.field-0.0 c.in_ok-split.ensures (c.in_err-request.ensures.asked loaded bytes))

pub returns-clause-answer : goal.returns-clause-answer
returns-clause-answer g c loaded given =
    let bytes = ap (map (λ (b : Bor (List ℕ)). b.now)) c.deref.ensures.value ∙ sym (ok_is _ _ c.in_ok-bytes.ensures) ∙ given in
    subst (λ (a : Result Answer Fault). EqualOrMemory answer_in c.compact_tables.result a)
    (sym (answer_behind (test_result (nat_le 1 c.args.settings.now.ranges && nat_le c.args.settings.now.ranges 4096) SplitCount) (numbered_request c.args.first c.args.version.now loaded (picked_in c.args.picked.now) c.args.settings.now)
    (λ (r : RequestView). compaction_result g.C.Comparator.cmp g.C.Comparator.short_keys c.args.settings.now.workers r) (request_in c.in_ok-request.request) c.in_ok-split.ensures (c.in_ok-request.ensures.asked loaded bytes)))
    c.compact_tables.ensures.same
