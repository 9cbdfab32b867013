-- The bytes of two edits, one after the other.
use Rattle.std.proofs.Common.{◌≡◌, ℕ, List, [], ◌∷◌, ◌++◌, refl, sym, ap, ◌∙◌, append_assoc}
use Rattle.std.specs.List.{AllByRecursion, flat_map, fold}
use Rattle.std.specs.List.Sorted.{IsStrictlySortedBy}
use Rattle.std.proofs.lemmas.List.{append-nil}
use Rattle.std.proofs.lemmas.List.Sums.{fold-append}
use Rattle.std.proofs.lemmas.Grind.{flat_map-append}
use Rattle.edit.specs.Field.{Field, SetComparator, SetLogNumber, SetPreviousLog, SetNextFile, SetLastSequence, SetPointer, DeleteFile, AddFile, IsField, spelling}
use Rattle.edit.specs.Edit.{Edit, deleted_cmp, edit_from, empty_edit, with_field}
use Rattle.edit.specs.declared.meta.CompactPointer.{CompactPointer}
use Rattle.edit.specs.declared.meta.DeletedFile.{DeletedFile}
use Rattle.edit.specs.declared.meta.NewFile.{NewFile}
use Rattle.install.specs.JoinedEdits.{EditsJoin, joined_edit}
use Rattle.install.proofs.DeletedSets.{put_later, put_sorted}

abbrev AreSets : Edit → Type 0
AreSets e = IsStrictlySortedBy deleted_cmp e.deleted

none_sorted : AreSets empty_edit
unfolding IsStrictlySortedBy
none_sorted = tt

-- deleted files stay a set
set_on : (e : Edit) (field : Field) → AreSets e → AreSets (with_field e field)
set_on e (SetComparator name) h = h
set_on e (SetLogNumber n) h = h
set_on e (SetPreviousLog n) h = h
set_on e (SetNextFile n) h = h
set_on e (SetLastSequence n) h = h
set_on e (SetPointer p) h = h
set_on e (DeleteFile f) h = put_sorted e.deleted f h
set_on e (AddFile f) h = h

set_from : (e : Edit) (fields : List Field) → AreSets e → AreSets (fold with_field e fields)
set_from e [] h = h
set_from e (x ∷ fields) h = set_from (with_field e x) fields (set_on e x h)

-- one more field of the later edit
joined_on : (e f : Edit) (field : Field) → AreSets e → AreSets f → with_field (joined_edit e f) field ≡ joined_edit e (with_field f field)
joined_on e f (SetComparator name) h k = refl
joined_on e f (SetLogNumber n) h k = refl
joined_on e f (SetPreviousLog n) h k = refl
joined_on e f (SetNextFile n) h k = refl
joined_on e f (SetLastSequence n) h k = refl
joined_on e f (SetPointer p) h k = ap (λ (ps : List CompactPointer). record (joined_edit e f) { pointers = ps }) (append_assoc e.pointers f.pointers (p ∷ []))
joined_on e f (DeleteFile d) h k = ap (λ (ds : List DeletedFile). record (joined_edit e f) { deleted = ds }) (sym (put_later e.deleted f.deleted d h k))
joined_on e f (AddFile a) h k = ap (λ (fs : List NewFile). record (joined_edit e f) { added = fs }) (append_assoc e.added f.added (a ∷ []))

joined_from : (e f : Edit) (fields : List Field) → AreSets e → AreSets f → fold with_field (joined_edit e f) fields ≡ joined_edit e (fold with_field f fields)
joined_from e f [] h k = refl
joined_from e f (x ∷ fields) h k =
    ap (λ (j : Edit). fold with_field j fields) (joined_on e f x h k) ∙ joined_from e (with_field f x) fields h (set_on f x k)

joined_none : (e : Edit) → joined_edit e empty_edit ≡ e
joined_none e =
    ap (λ (ps : List CompactPointer). record e { pointers = ps; added = e.added ++ [] }) (append-nil e.pointers)
    ∙ ap (λ (fs : List NewFile). record e { added = fs }) (append-nil e.added)

all_joined : (one two : List Field) → AllByRecursion IsField one → AllByRecursion IsField two → AllByRecursion IsField (one ++ two)
all_joined [] two h k = k
all_joined (x ∷ one) two h k = (h.0, all_joined one two h.1 k)

pub edits_join : EditsJoin
edits_join one two e f h k =
    let sets : AreSets (edit_from h.fields) = set_from empty_edit h.fields none_sorted in
    record {
      fields = h.fields ++ k.fields;
      lawful = all_joined h.fields k.fields h.lawful k.lawful;
      spelled = ap (λ (b : List ℕ). b ++ two) h.spelled ∙ ap (λ (b : List ℕ). flat_map spelling h.fields ++ b) k.spelled ∙ sym (flat_map-append spelling h.fields k.fields);
      sets =
          fold-append with_field empty_edit h.fields k.fields
          ∙ ap (λ (x : Edit). fold with_field x k.fields) (sym (joined_none (edit_from h.fields)))
          ∙ joined_from (edit_from h.fields) empty_edit k.fields sets none_sorted
          ∙ ap (λ (x : Edit). joined_edit x (edit_from k.fields)) h.sets
          ∙ ap (joined_edit e) k.sets;
    }
