use Rattle.std.proofs.Common.{◌++◌, ◌∷◌, [], List, sym, ap, ◌∙◌}
use Rattle.std.specs.List.{list_all}
use Rattle.edit.proofs.Binds.{ok_is}
use Rattle.edit.specs.declared.meta.CompactPointer.{CompactPointer}
use Rattle.compact.specs.EditOf.{deletions_of}
use Rattle.c_api.specs.Closed.{are_files}
use Rattle.c_api.specs.Edits.{AskedEdit, have_levels}
use Rattle.c_api.specs.Files.{has_keys}
use Rattle.c_api.specs.Held.{edit_held}
use Rattle.c_api.proofs.Levelled.{levels_of_edit}
use Rattle.c_api.proofs.Merging.{three_parts}
use Rattle.c_api.proofs.edit_calls.edit_with.Goals as goal

pub returns-clause-levels : goal.returns-clause-levels
returns-clause-levels c =
    let m : AskedEdit = edit_held c.args.asked.now in
    let pointer : CompactPointer = record { level = m.level; key = c.args.pointer } in
    let parts = three_parts (list_all (has_keys m.keys) m.files) (have_levels m.files) (are_files m.keys m.added) c.requires.lent in
    levels_of_edit m.keys m.files m.added pointer _ c.requires.low parts.1 parts.2
    (c.in_ok-push.ensures.items ∙ ap (λ (l : List CompactPointer). l ++ pointer ∷ []) c.new-pointers.ensures.items)
    (sym (ok_is _ _ c.in_ok-deleted.ensures) ∙ ap deletions_of (c.deref.ensures.value ∙ sym (ok_is _ _ c.in_ok-inputs.ensures)))
    (sym (ok_is _ _ c.in_ok-added.ensures))
