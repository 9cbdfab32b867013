use Rattle.std.proofs.Common.{◌≡◌, ℕ, List, [], ◌∷◌, string_bytes, sym, subst, ◌∙◌}
use Rattle.ikey.proofs.Binds.{ok_is}
use Rattle.shelf.specs.Alters.{Alters}
use Rattle.folder.specs.Calls.{Written, step_of}
use Rattle.folder.specs.Names.{table_name}
use Rattle.shelf.specs.Shelf.{files_after_steps}
use Rattle.shelf.proofs.call_record.CallRecord.record_table.Goals as goal

pub returns-in-Ok-clause-change : goal.returns-in-Ok-clause-change
returns-in-Ok-clause-change c = λ files.
    let old = c.args.self.now in
    let new = c.record_file.new.self in
    let name = table_name c.args.number in
    let named : c.as_str.result.now ≡ name = c.as_str.ensures.value ∙ sym (ok_is name (string_bytes c.in-Ok.name) c.in-Ok.ensures) in
    subst (λ (n : List ℕ). Alters (step_of (Written ((n, c.args.bytes.now) ∷ [])) c.record_file.result) (files_after_steps old.steps files) (files_after_steps new.steps files)) named (c.record_file.ensures.change files)
