use Rattle.std.proofs.Common.{◌≡◌, [], map, take}
use Rattle.std.specs.List.{fold}
use Rattle.std.specs.BTreeSet.{insert_key}
use Rattle.edit.specs.Edit.{deleted_cmp}
use Rattle.compact.specs.EditOf.{deletion_of}
use Rattle.compact.proofs.outputs_edit.deletions_of.Given as goal

abbrev pub invariant-loop-input : goal.invariant-loop-input
invariant-loop-input l = l.deleted.keys ≡ fold (insert_key deleted_cmp) [] (map deletion_of (take l.input-index l.files))
