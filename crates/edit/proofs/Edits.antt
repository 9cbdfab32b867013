-- What a loop over the fields of an edit keeps, and that bytes read as one edit at most.
use Rattle.std.proofs.Common.{◌≡◌, ◌≢◌, ℕ, ◌^◌, ◌<◌, ◌≤◌, Option, Some, List, [], ◌∷◌, ◌++◌, length, Result, Ok, Err, refl, sym, ap, subst, ◌∙◌, append_assoc, arith}
use Rattle.std.specs.List.{flat_map, AllByRecursion}
use Rattle.std.specs.Result.{IfOk, IfErr}
use Rattle.std.proofs.lemmas.List.{append-nil, length-append}
use Rattle.std.proofs.lemmas.List.Elements.{All-nil, All-push}
use Rattle.std.proofs.lemmas.List.Sums.{fold_push}
use Rattle.std.proofs.lemmas.Grind.{flat_map-append}
use Rattle.std.proofs.lemmas.Map.Views.{All-insert_key}
use Rattle.coding.specs.Answers.{UnlessMemory, EqualOrMemory}
use Rattle.coding.specs.declared.fault.Fault.{Fault}
use Rattle.coding.specs.Varint.{varint}
use Rattle.coding.proofs.Varints.{length-varint_pos}
use Rattle.coding.proofs.Bytes.{IsBytes}
use Rattle.coding.proofs.Refusals.{unless_from}
use Rattle.edit.specs.Tag.{tag_number}
use Rattle.edit.specs.Field.{Field, SetComparator, SetLogNumber, SetPreviousLog, SetNextFile, SetLastSequence, SetPointer, DeleteFile, AddFile, field_tag, content, spelling, IsField}
use Rattle.edit.specs.FieldReader.{field_at}
use Rattle.edit.specs.Edit.{Edit, IsEdit, IsEditRefused, HasValidLevels, HasShortName, empty_edit, with_field, edit_from, deleted_cmp}
use Rattle.edit.specs.declared.meta.NewFile.{NewFile}
use Rattle.edit.specs.declared.meta.CompactPointer.{CompactPointer}
use Rattle.edit.specs.declared.meta.DeletedFile.{DeletedFile}
use Rattle.edit.proofs.Fields.{field_takes, field_refused, no_field, fields_apart}

pub AllByRecursion-push : {X : Type 0} (P : X → Type 0) (xs : List X) (x : X) → AllByRecursion P xs → P x → AllByRecursion P (xs ++ x ∷ [])
AllByRecursion-push P [] x h p = (p, tt)
AllByRecursion-push P (y ∷ ys) x h p = (h.0, AllByRecursion-push P ys x h.1 p)

-- ---- levels

levels_empty : HasValidLevels empty_edit
levels_empty = record {
  pointers = All-nil (λ (p : CompactPointer). p.level ≤ 6);
  deleted = All-nil (λ (f : DeletedFile). f.level ≤ 6);
  added = All-nil (λ (f : NewFile). f.level ≤ 6);
}

levels_on : (e : Edit) (field : Field) → HasValidLevels e → IsField field → HasValidLevels (with_field e field)
levels_on e (SetComparator name) h lawful = record { pointers = h.pointers; deleted = h.deleted; added = h.added }
levels_on e (SetLogNumber n) h lawful = record { pointers = h.pointers; deleted = h.deleted; added = h.added }
levels_on e (SetPreviousLog n) h lawful = record { pointers = h.pointers; deleted = h.deleted; added = h.added }
levels_on e (SetNextFile n) h lawful = record { pointers = h.pointers; deleted = h.deleted; added = h.added }
levels_on e (SetLastSequence n) h lawful = record { pointers = h.pointers; deleted = h.deleted; added = h.added }
levels_on e (SetPointer p) h lawful = record {
  pointers = All-push (λ (q : CompactPointer). q.level ≤ 6) e.pointers p h.pointers lawful.0;
  deleted = h.deleted;
  added = h.added;
}
levels_on e (DeleteFile f) h lawful = record {
  pointers = h.pointers;
  deleted = All-insert_key deleted_cmp f (λ (g : DeletedFile). g.level ≤ 6) e.deleted h.deleted lawful.0;
  added = h.added;
}
levels_on e (AddFile f) h lawful = record {
  pointers = h.pointers;
  deleted = h.deleted;
  added = All-push (λ (g : NewFile). g.level ≤ 6) e.added f h.added lawful.0;
}

abbrev named : List ℕ → Option (List ℕ)
named name = Some name

same_name : (a b : List ℕ) → named a ≡ named b → a ≡ b
same_name a b e = cc

no_name : (x : List ℕ) → empty_edit.comparator ≡ named x → ⊥
no_name x e = cc

name_on : (e : Edit) (field : Field) → HasShortName e → IsField field → HasShortName (with_field e field)
name_on e (SetComparator name) h lawful = λ x same. subst (λ (n : List ℕ). length n < 2 ^ 32) (same_name name x same) lawful.1
name_on e (SetLogNumber n) h lawful = h
name_on e (SetPreviousLog n) h lawful = h
name_on e (SetNextFile n) h lawful = h
name_on e (SetLastSequence n) h lawful = h
name_on e (SetPointer p) h lawful = h
name_on e (DeleteFile f) h lawful = h
name_on e (AddFile f) h lawful = h

-- ---- the loop of a reader

-- the fields that were read, and the bytes after them
pub record ReadsEdit (bytes : List ℕ) (e : Edit) (rest : List ℕ) : Type 0 where
  pub read : List Field
  pub lawful : AllByRecursion IsField read
  pub parts : bytes ≡ flat_map spelling read ++ rest
  pub sets : edit_from read ≡ e
  pub levels : HasValidLevels e
  pub name : HasShortName e
  pub rest_fits : IsBytes rest

pub reads_begin : (bytes : List ℕ) → IsBytes bytes → ReadsEdit bytes empty_edit bytes
reads_begin bytes fits = record { read = []; lawful = tt; parts = refl; sets = refl; levels = levels_empty; name = λ x e. absurd (no_name x e); rest_fits = fits }

flat_map-push : (fields : List Field) (field : Field) (rest : List ℕ) → flat_map spelling fields ++ (spelling field ++ rest) ≡ flat_map spelling (fields ++ field ∷ []) ++ rest
flat_map-push fields field rest =
    sym (append_assoc (flat_map spelling fields) (spelling field) rest)
    ∙ ap (λ (t : List ℕ). (flat_map spelling fields ++ t) ++ rest) (sym (append-nil (spelling field)))
    ∙ ap (λ (t : List ℕ). t ++ rest) (sym (flat_map-append spelling fields (field ∷ [])))

pub reads_on : (bytes : List ℕ) (e : Edit) (rest : List ℕ) (x : Field × List ℕ) → ReadsEdit bytes e rest → field_at rest ≡ Ok x → ReadsEdit bytes (with_field e x.0) x.1
reads_on bytes e rest x r h =
    let t = field_takes rest x r.rest_fits h in
    record {
      read = r.read ++ x.0 ∷ [];
      lawful = AllByRecursion-push IsField r.read x.0 r.lawful t.lawful;
      parts = r.parts ∙ ap (λ (s : List ℕ). flat_map spelling r.read ++ s) t.parts ∙ flat_map-push r.read x.0 x.1;
      sets = fold_push with_field empty_edit r.read x.0 ∙ ap (λ (d : Edit). with_field d x.0) r.sets;
      levels = levels_on e x.0 r.levels t.lawful;
      name = name_on e x.0 r.name t.lawful;
      rest_fits = t.rest_fits;
    }

pub spelling_some : (field : Field) → 0 < length (spelling field)
spelling_some field = omega (arith, length-append (varint (tag_number (field_tag field))) (content field), length-varint_pos (tag_number (field_tag field)))

pub field_shorter : (bytes : List ℕ) (e : Edit) (rest : List ℕ) (x : Field × List ℕ) → ReadsEdit bytes e rest → field_at rest ≡ Ok x → length x.1 < length rest
field_shorter bytes e rest x r h =
    let t = field_takes rest x r.rest_fits h in
    omega (arith, ap length t.parts, length-append (spelling x.0) x.1, spelling_some x.0)

pub reads_end : (bytes : List ℕ) (e : Edit) (rest : List ℕ) → ReadsEdit bytes e rest → rest ≡ [] → IsEdit bytes e
reads_end bytes e rest r none = record {
  fields = r.read;
  lawful = r.lawful;
  spelled = r.parts ∙ ap (λ (s : List ℕ). flat_map spelling r.read ++ s) none ∙ append-nil (flat_map spelling r.read);
  sets = r.sets;
}

pub reads_refused : (bytes : List ℕ) (e : Edit) (rest : List ℕ) (d : Fault) → ReadsEdit bytes e rest → rest ≢ [] → field_at rest ≡ Err d → IsEditRefused bytes d
reads_refused bytes e rest d r some h = record {
  read = r.read;
  rest = rest;
  lawful = r.lawful;
  parts = r.parts;
  some = some;
  no_field = no_field rest d h;
  named = field_refused rest d h;
}

-- ---- one edit at most

-- fields that stand at the front of fields are the first of them
record Begins (fs gs : List Field) (rest : List ℕ) : Type 0 where
  others : List Field
  whole : gs ≡ fs ++ others
  lawful : AllByRecursion IsField others
  left : rest ≡ flat_map spelling others

nothing_spelt : (field : Field) (rest : List ℕ) → spelling field ++ rest ≡ [] → ⊥
nothing_spelt field rest e = omega (arith, ap length e, length-append (spelling field) rest, spelling_some field)

fields_begin : (fs gs : List Field) (rest : List ℕ) → AllByRecursion IsField fs → AllByRecursion IsField gs → flat_map spelling fs ++ rest ≡ flat_map spelling gs → Begins fs gs rest
fields_begin [] gs rest hf hg e = record { others = gs; whole = refl; lawful = hg; left = e }
fields_begin (f ∷ fs) [] rest hf hg e = absurd (nothing_spelt f (flat_map spelling fs ++ rest) (sym (append_assoc (spelling f) (flat_map spelling fs) rest) ∙ e))
fields_begin (f ∷ fs) (g ∷ gs) rest hf hg e =
    let same = fields_apart f g (flat_map spelling fs ++ rest) (flat_map spelling gs) hf.0 hg.0 (sym (append_assoc (spelling f) (flat_map spelling fs) rest) ∙ e) in
    let b = fields_begin fs gs rest hf.1 hg.1 same.1 in
    record {
      others = b.others;
      whole = ap (λ (h : Field). h ∷ gs) (sym same.0) ∙ ap (λ (hs : List Field). f ∷ hs) b.whole;
      lawful = b.lawful;
      left = b.left;
    }

no_more : (fs : List Field) → [] ≡ flat_map spelling fs → fs ≡ []
no_more [] e = refl
no_more (f ∷ fs) e = absurd (nothing_spelt f (flat_map spelling fs) (sym e))

pub one_edit : (bytes : List ℕ) (a b : Edit) → IsEdit bytes a → IsEdit bytes b → a ≡ b
one_edit bytes a b x y =
    let begins = fields_begin x.fields y.fields [] x.lawful y.lawful (append-nil (flat_map spelling x.fields) ∙ sym x.spelled ∙ y.spelled) in
    let same : y.fields ≡ x.fields = begins.whole ∙ ap (λ (t : List Field). x.fields ++ t) (no_more begins.others begins.left) ∙ append-nil x.fields in
    sym x.sets ∙ ap edit_from (sym same) ∙ y.sets

left_over : (others : List Field) (rest : List ℕ) → AllByRecursion IsField others → rest ≢ [] → rest ≡ flat_map spelling others
    → ((field : Field) (behind : List ℕ) → IsField field → rest ≡ spelling field ++ behind → ⊥) → ⊥
left_over [] rest lawful some left none = some left
left_over (f ∷ fs) rest lawful some left none = none f (flat_map spelling fs) lawful.0 left

pub not_both : (bytes : List ℕ) (d : Fault) (e : Edit) → IsEditRefused bytes d → IsEdit bytes e → ⊥
not_both bytes d e r x =
    let begins = fields_begin r.read x.fields r.rest r.lawful x.lawful (sym r.parts ∙ x.spelled) in
    left_over begins.others r.rest begins.lawful r.some begins.left r.no_field

abbrev edits : Edit → Result Edit Fault
edits e = Ok e

-- what is read is the one edit that the bytes read as
pub only_edit : {X : Type 0} (view : X → Edit) (bytes : List ℕ) (result : Result X Fault) → IfOk result (λ x. IsEdit bytes (view x)) → IfErr result (λ d. UnlessMemory d (IsEditRefused bytes d))
    → (e : Edit) → IsEdit bytes e → EqualOrMemory view result (edits e)
only_edit view bytes (Ok x) found refused e h = ap edits (one_edit bytes e (view x) h found)
only_edit view bytes (Err d) found refused e h = unless_from d (IsEditRefused bytes d) (edits e ≡ Err d) (λ r. absurd (not_both bytes d e r h)) refused
