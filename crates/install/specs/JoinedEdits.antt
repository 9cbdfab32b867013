-- Two edits as one.
use Rattle.std.specs.Prelude.{◌≡◌, ℕ, true, false, List, ◌++◌, fold, Some}
use Rattle.std.specs.List.{AllByRecursion, list_all}
use Rattle.std.specs.Option.{option_or}
use Rattle.std.specs.BTreeSet.{insert_key}
use Rattle.edit.specs.Edit.{Edit, IsEdit, deleted_cmp}
use Rattle.edit.specs.Version.{IsState, State, applied, has_place, is_deleted}
use Rattle.edit.specs.declared.meta.NewFile.{NewFile}

-- Two edits as one: what the later one sets counts, its pointers and new files come behind those of
-- the first, and deleted files are a set.
abbrev pub joined_edit : Edit → Edit → Edit
joined_edit e f = record {
  comparator = option_or f.comparator e.comparator;
  log_number = option_or f.log_number e.log_number;
  previous_log = option_or f.previous_log e.previous_log;
  next_file = option_or f.next_file e.next_file;
  last_sequence = option_or f.last_sequence e.last_sequence;
  pointers = e.pointers ++ f.pointers;
  deleted = fold (insert_key deleted_cmp) e.deleted f.deleted;
  added = e.added ++ f.added;
}

-- the bytes of two edits, one after the other, read as the two as one
abbrev pub EditsJoin : Type 0
EditsJoin = (one two : List ℕ) (e f : Edit) → IsEdit one e → IsEdit two f →
    IsEdit (one ++ two) (joined_edit e f)

-- Two edits as one make the version that they make one after the other, if the later one deletes
-- files of the version alone, and none that the first one adds.
abbrev pub JoinedApplies : Type 0
JoinedApplies = (v next last : State) (e f : Edit) → IsState v.pointers v.files →
    applied v e ≡ Some next → applied next f ≡ Some last →
    list_all (has_place v.files) f.deleted ≡ true →
    AllByRecursion (λ (a : NewFile). is_deleted f.deleted a ≡ false) e.added →
    applied v (joined_edit e f) ≡ Some last
