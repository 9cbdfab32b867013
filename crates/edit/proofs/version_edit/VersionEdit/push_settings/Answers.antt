use Rattle.edit.specs.Edit.{edit_in}
use Rattle.edit.proofs.Written.{settings_written}
use Rattle.edit.proofs.version_edit.VersionEdit.push_settings.Goals as goal

pub returns-clause-ok : goal.returns-clause-ok
returns-clause-ok c =
    settings_written (edit_in c.args.self.now) c.args.out.now.items c.push_comparator.new.out.items c.push_optional.new.out.items c.push_optional-2.new.out.items c.push_optional-3.new.out.items c.push_optional-4.new.out.items
    c.in_ok-push_comparator.ensures.ok c.in_ok-push_optional.ensures.ok c.in_ok-push_optional-2.ensures.ok c.in_ok-push_optional-3.ensures.ok c.in_ok-push_optional-4.ensures.ok
