use Rattle.std.proofs.Common.{◌≡◌, Ok, subst}
use Rattle.std.proofs.lemmas.Result.{err_from_is_err_and}
use Rattle.coding.specs.Answers.{fault, FailsOrMemory}
use Rattle.coding.specs.declared.fault.FaultName.TheVariants.{Apply}
use Rattle.edit.specs.Edit.{edit_in}
use Rattle.std.specs.Option.{ok_or}
use Rattle.edit.specs.Version.{State, files_after, applied}
use Rattle.edit.proofs.Applied.{from_ok_or, refused_after, state_after, applied_is}
use Rattle.edit.proofs.version.Version.changed.Goals as goal

pub returns-in_err-files : goal.returns-in_err-files
returns-in_err-files c =
    let p = err_from_is_err_and c.from_residual.result c.from_residual.ensures.1 in
    let before : State = record {
      log_number = c.self.inside.log_number;
      previous_log = c.self.inside.previous_log;
      next_file = c.self.inside.next_file;
      last_sequence = c.self.inside.last_sequence;
      pointers = c.self.inside.pointers.entries;
      files = c.self.inside.files;
    } in
    record {
      after = rw (p.1, p.2) (subst (λ (v : State). FailsOrMemory c.in_err-files.field-0.0 (ok_or (applied v (edit_in c.args.edit)) (fault Apply))) c.self.view_is
          (refused_after before (edit_in c.args.edit) c.in_err-files.field-0.0 c.in_err-files.ensures));
    }

pub invariant_of-result : goal.invariant_of-result
invariant_of-result c =
    state_after c.self.inside.pointers.entries c.in_ok-pointers.pointers.entries c.self.inside.files c.in_ok-files.files (edit_in c.args.edit) c.self.invariant c.requires
    (from_ok_or (files_after c.self.inside.files c.args.edit.deleted.keys c.args.edit.added.items) (fault Apply) c.in_ok-files.files c.in_ok-files.ensures)
    c.in_ok-pointers.ensures.ok

pub returns : goal.returns
returns c =
    let before : State = record {
      log_number = c.self.inside.log_number;
      previous_log = c.self.inside.previous_log;
      next_file = c.self.inside.next_file;
      last_sequence = c.self.inside.last_sequence;
      pointers = c.self.inside.pointers.entries;
      files = c.self.inside.files;
    } in
    let after : State = record {
      log_number = c.or.result;
      previous_log = c.or-2.result;
      next_file = c.or-3.result;
      last_sequence = c.or-4.result;
      pointers = c.in_ok-pointers.pointers.entries;
      files = c.in_ok-files.files;
    } in
    record {
      after = subst (λ (v : State). ok_or (applied v (edit_in c.args.edit)) (fault Apply) ≡ Ok after) c.self.view_is
          (applied_is before after (edit_in c.args.edit)
          (from_ok_or (files_after c.self.inside.files c.args.edit.deleted.keys c.args.edit.added.items) (fault Apply) c.in_ok-files.files c.in_ok-files.ensures)
          c.in_ok-pointers.ensures.ok c.or.ensures c.or-2.ensures c.or-3.ensures c.or-4.ensures);
    }
