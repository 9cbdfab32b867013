use Rattle.std.proofs.Common.{List, ℕ, ◌++◌, map, ap, ◌∙◌, subst, sym}
use Rattle.std.specs.List.{flat_map, AllByRecursion}
use Rattle.edit.specs.Field.{SetPointer, AddFile, IsField, spelling}
use Rattle.edit.specs.Edit.{IsEdit, edit_in, settings_of}
use Rattle.edit.specs.declared.meta.NewFile.{NewFile}
use Rattle.edit.specs.declared.meta.CompactPointer.{CompactPointer}
use Rattle.edit.proofs.Written.{edit_written, fields_lawful, reads_back}
use Rattle.edit.proofs.version_edit.VersionEdit.encode.Goals as goal

pub returns-clause-bytes : goal.returns-clause-bytes
returns-clause-bytes c =
    edit_written (edit_in c.args.self.now) c.push_settings.new.out.items c.push_pointers.new.out.items c.push_deleted.new.out.items c.push_added.new.out.items
    (c.in_ok-push_settings.ensures.ok ∙ ap (λ (t : List ℕ). t ++ flat_map spelling (settings_of (edit_in c.args.self.now))) c.new-bytes.ensures.items)
    (c.in_ok-push_pointers.ensures.ok ∙ ap (λ (t : List CompactPointer). c.push_settings.new.out.items ++ flat_map spelling (map SetPointer t)) c.deref.ensures.value)
    c.in_ok-push_deleted.ensures.ok
    (c.in_ok-push_added.ensures.ok ∙ ap (λ (t : List NewFile). c.push_deleted.new.out.items ++ flat_map spelling (map AddFile t)) c.deref-2.ensures.value)

pub returns-clause-reads_back : goal.returns-clause-reads_back
returns-clause-reads_back c =
    let pointers = subst (λ (t : List CompactPointer). AllByRecursion IsField (map SetPointer t)) c.deref.ensures.value c.in_ok-push_pointers.ensures.lawful in
    let added = subst (λ (t : List NewFile). AllByRecursion IsField (map AddFile t)) c.deref-2.ensures.value c.in_ok-push_added.ensures.lawful in
    subst (λ (b : List ℕ). IsEdit b (edit_in c.args.self.now)) (sym (returns-clause-bytes c))
    (reads_back (edit_in c.args.self.now) c.in_ok-push_deleted.ensures.ordered
    (fields_lawful (edit_in c.args.self.now) c.in_ok-push_settings.ensures.lawful pointers c.in_ok-push_deleted.ensures.lawful added))
