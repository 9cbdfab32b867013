use Rattle.std.proofs.Common.{◌≡◌, ℕ, List, Result, Ok, Err, sym, ap, subst, ◌∙◌}
use Rattle.folder.specs.Answers.{UnlessMemory, ◌>>=◌}
use Rattle.folder.specs.fault.Fault.{Fault}
use Rattle.checks.proofs.LawfulLemmas.{handed_on}
use Rattle.folder.specs.Edit.{Edit, IsEdit, IsEditRefused, edit_in}
use Rattle.folder.specs.Version.{State, applied_by}
use Rattle.folder.specs.Manifest.{order_name}
use Rattle.folder.specs.declared.order.Order.{Order}
use Rattle.store.specs.FolderRequest.{manifest_of}
use Rattle.store.specs.OpenedAfter.{IsEditAnswer, IsOpenedAfter}
use Rattle.store.proofs.Flow.{first_passed, first_refused}
use Rattle.store.proofs.next_opened.opened_after.Goals as goal

-- what is answered for an edit
abbrev Next : Order → State → Edit → Result (Order × State × ℕ) Fault → Type 0
Next order v edit answer = answer ≡ (applied_by (order_name order) v edit >>= λ next. Ok (order, next, manifest_of v))

pub returns-in_err-edit : goal.returns-in_err-edit
returns-in_err-edit c =
    let o = c.args.opened.now in
    let bytes = c.args.step.now.edit.items in
    let e = c.in_err-edit.field-0.0 in
    handed_on (λ o. (o.order, o.version, o.manifest)) c.from_residual.result e (IsEditAnswer bytes) (IsOpenedAfter o.order o.version bytes) c.from_residual.ensures.1
    (subst (λ (b : List ℕ). UnlessMemory e (IsEditRefused b e)) c.deref.ensures.value c.in_err-edit.ensures.refused) (λ h. first_refused (IsEditAnswer bytes) (Next o.order o.version) e h)

pub returns-in_err-version : goal.returns-in_err-version
returns-in_err-version c =
    let o = c.args.opened.now in
    let bytes = c.args.step.now.edit.items in
    let e = c.in_err-version.field-0.0 in
    let edit = edit_in c.in_ok-edit.edit in
    let found = subst (λ (b : List ℕ). IsEdit b edit) c.deref.ensures.value c.in_ok-edit.ensures.found in
    handed_on {Z = State} (λ o. (o.order, o.version, o.manifest)) c.from_residual-in_err-version.result e (λ a. applied_by (order_name o.order) o.version edit ≡ a) (IsOpenedAfter o.order o.version bytes) c.from_residual-in_err-version.ensures.1
    c.in_err-version.ensures
    (λ h. first_passed (IsEditAnswer bytes) (Next o.order o.version) edit (Err e) found (sym (ap (λ (r : Result State Fault). r >>= λ next. Ok (o.order, next, manifest_of o.version)) h)))

pub returns : goal.returns
returns c =
    let o = c.args.opened.now in
    let bytes = c.args.step.now.edit.items in
    let edit = edit_in c.in_ok-edit.edit in
    let found = subst (λ (b : List ℕ). IsEdit b edit) c.deref.ensures.value c.in_ok-edit.ensures.found in
    first_passed (IsEditAnswer bytes) (Next o.order o.version) edit (Ok (o.order, c.in_ok-version.version, c.manifest_of.result)) found
    (ap (λ (n : ℕ). Ok (o.order, c.in_ok-version.version, n)) c.manifest_of.ensures
    ∙ sym (ap (λ (r : Result State Fault). r >>= λ next. Ok (o.order, next, manifest_of o.version)) c.in_ok-version.ensures))
