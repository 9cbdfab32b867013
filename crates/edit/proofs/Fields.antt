-- A field that is read is the field that was spelt, and what was spelt is read again.
use Rattle.std.proofs.Common.{◌≡◌, ℕ, ◌^◌, ◌<◌, ◌≤◌, ◌⊎◌, inl, inr, Bool, true, false, cond, eqb, List, [], ◌∷◌, ◌++◌, drop, Option, Some, None, Result, Ok, Err, refl, sym, ap, subst, ◌∙◌, append_assoc, arith, lit≤}
use Rattle.std.specs.List.{find}
use Rattle.std.specs.Option.{option_map, option_map_or, ok_or, is_none}
use Rattle.std.proofs.lemmas.Bool.{eqb-true}
use Rattle.std.proofs.lemmas.Option.{same_Some}
use Rattle.coding.specs.Answers.{fault}
use Rattle.coding.specs.Varint.{varint, varint_reading, length_prefixed}
use Rattle.coding.specs.declared.fault.Fault.{Fault}
use Rattle.coding.specs.declared.fault.FaultName.TheVariants.{EditTag, EditField}
use Rattle.coding.proofs.Bytes.{IsBytes}
use Rattle.ikey.specs.Key.{IsInternalKey}
use Rattle.edit.specs.Tag.{tag_number, tags, listed_tag}
use Rattle.edit.specs.Field.{Field, SetComparator, SetLogNumber, SetPreviousLog, SetNextFile, SetLastSequence, SetPointer, DeleteFile, AddFile, field_tag, content, spelling, IsField}
use Rattle.edit.specs.FieldReader.{◌>>=◌, varint_at, level_at, text_at, key_at, pointer_at, deleted_at, added_at, number_field, content_at, tagged_at, field_at}
use Rattle.edit.specs.Edit.{field_fault}
use Rattle.edit.specs.declared.meta.NewFile.{NewFile}
use Rattle.edit.specs.declared.meta.CompactPointer.{CompactPointer}
use Rattle.edit.specs.declared.meta.DeletedFile.{DeletedFile}
use Rattle.edit.specs.declared.tag.Tag.{Tag}
use Rattle.edit.specs.declared.tag.Tag.TheVariants.{Comparator, LogNumber, NextFile, LastSequence, Pointer, Deleted, Added, PreviousLog}
use Rattle.edit.proofs.Steps.{bind_some, map_some}
use Rattle.edit.proofs.Contents.{varint_takes, varint_again, level_takes, level_again, text_takes, text_again, key_takes, key_again}

-- what the content of a field of this tag says of the bytes
pub record TakesContent (tag : Tag) (bytes : List ℕ) (x : Field × List ℕ) : Type 0 where
  pub tag_is : field_tag x.0 ≡ tag
  pub parts : bytes ≡ content x.0 ++ x.1
  pub lawful : IsField x.0
  pub rest_fits : IsBytes x.1

number_takes : (field : ℕ → Field) (tag : Tag) (tagged : (n : ℕ) → field_tag (field n) ≡ tag) (spelt : (n : ℕ) → content (field n) ≡ varint n) (lawful : (n : ℕ) → n < 2 ^ 64 → IsField (field n))
    (bytes : List ℕ) (x : Field × List ℕ) → IsBytes bytes → number_field field bytes ≡ Some x → TakesContent tag bytes x
number_takes field tag tagged spelt lawful bytes x fits e =
    let m = map_some (λ (n : ℕ × List ℕ). (field n.0, n.1)) (varint_at (2 ^ 64) bytes) x e in
    let t = varint_takes (2 ^ 64) bytes m.0 fits m.1 in
    let made : TakesContent tag bytes (field m.0.0, m.0.1) = record {
      tag_is = tagged m.0.0;
      parts = t.parts ∙ ap (λ (c : List ℕ). c ++ m.0.1) (sym (spelt m.0.0));
      lawful = lawful m.0.0 t.below;
      rest_fits = t.rest_fits;
    } in
    subst (TakesContent tag bytes) m.2 made

pointer_takes : (bytes : List ℕ) (x : Field × List ℕ) → IsBytes bytes → pointer_at bytes ≡ Some x → TakesContent Pointer bytes x
unfolding pointer_at
pointer_takes bytes x fits e =
    let a = bind_some (level_at bytes) (λ level. key_at level.1 >>= λ key. Some (SetPointer (record { level = level.0; key = key.0 }), key.1)) x e in
    let b = bind_some (key_at a.0.1) (λ key. Some (SetPointer (record { level = a.0.0; key = key.0 }), key.1)) x a.2 in
    let l = level_takes bytes a.0 fits a.1 in
    let k = key_takes a.0.1 b.0 l.rest_fits b.1 in
    let made : TakesContent Pointer bytes (SetPointer (record { level = a.0.0; key = b.0.0 }), b.0.1) = record {
      tag_is = refl;
      parts = l.parts ∙ ap (λ (r : List ℕ). varint a.0.0 ++ r) k.parts ∙ sym (append_assoc (varint a.0.0) (length_prefixed b.0.0) b.0.1);
      lawful = (l.within, k.key);
      rest_fits = k.rest_fits;
    } in
    subst (TakesContent Pointer bytes) (same_Some _ _ b.2) made

deleted_takes : (bytes : List ℕ) (x : Field × List ℕ) → IsBytes bytes → deleted_at bytes ≡ Some x → TakesContent Deleted bytes x
unfolding deleted_at
deleted_takes bytes x fits e =
    let a = bind_some (level_at bytes) (λ level. varint_at (2 ^ 64) level.1 >>= λ number. Some (DeleteFile (record { level = level.0; number = number.0 }), number.1)) x e in
    let b = bind_some (varint_at (2 ^ 64) a.0.1) (λ number. Some (DeleteFile (record { level = a.0.0; number = number.0 }), number.1)) x a.2 in
    let l = level_takes bytes a.0 fits a.1 in
    let n = varint_takes (2 ^ 64) a.0.1 b.0 l.rest_fits b.1 in
    let made : TakesContent Deleted bytes (DeleteFile (record { level = a.0.0; number = b.0.0 }), b.0.1) = record {
      tag_is = refl;
      parts = l.parts ∙ ap (λ (r : List ℕ). varint a.0.0 ++ r) n.parts ∙ sym (append_assoc (varint a.0.0) (varint b.0.0) b.0.1);
      lawful = (l.within, n.below);
      rest_fits = n.rest_fits;
    } in
    subst (TakesContent Deleted bytes) (same_Some _ _ b.2) made

-- the parts of a new file
abbrev file_of : ℕ → ℕ → ℕ → List ℕ → List ℕ → NewFile
file_of level number size smallest largest = record { level = level; meta = record { number = number; size = size; smallest = smallest; largest = largest } }

abbrev ends_file : ℕ → ℕ → ℕ → List ℕ → List ℕ × List ℕ → Option (Field × List ℕ)
ends_file level number size smallest largest = Some (AddFile (file_of level number size smallest largest.0), largest.1)

abbrev after_smallest : ℕ → ℕ → ℕ → List ℕ × List ℕ → Option (Field × List ℕ)
after_smallest level number size smallest = key_at smallest.1 >>= ends_file level number size smallest.0

abbrev after_size : ℕ → ℕ → ℕ × List ℕ → Option (Field × List ℕ)
after_size level number size = key_at size.1 >>= after_smallest level number size.0

abbrev after_number : ℕ → ℕ × List ℕ → Option (Field × List ℕ)
after_number level number = varint_at (2 ^ 64) number.1 >>= after_size level number.0

abbrev after_level : ℕ × List ℕ → Option (Field × List ℕ)
after_level level = varint_at (2 ^ 64) level.1 >>= after_number level.0

file_bytes : (l n s a b rest : List ℕ) → (l ++ (n ++ (s ++ (a ++ b)))) ++ rest ≡ l ++ (n ++ (s ++ (a ++ (b ++ rest))))
file_bytes l n s a b rest = simp append_assoc

-- five parts one after the other
five_parts : (bytes l after_l n after_n s after_s a after_a b rest : List ℕ) → bytes ≡ l ++ after_l → after_l ≡ n ++ after_n → after_n ≡ s ++ after_s → after_s ≡ a ++ after_a → after_a ≡ b ++ rest
    → bytes ≡ (l ++ (n ++ (s ++ (a ++ b)))) ++ rest
five_parts bytes l after_l n after_n s after_s a after_a b rest p q r t u =
    p ∙ ap (λ (x : List ℕ). l ++ x) (q ∙ ap (λ (x : List ℕ). n ++ x) (r ∙ ap (λ (x : List ℕ). s ++ x) (t ∙ ap (λ (x : List ℕ). a ++ x) u))) ∙ sym (file_bytes l n s a b rest)

added_takes : (bytes : List ℕ) (x : Field × List ℕ) → IsBytes bytes → added_at bytes ≡ Some x → TakesContent Added bytes x
unfolding added_at
added_takes bytes x fits e =
    let a = bind_some (level_at bytes) after_level x e in
    let b = bind_some (varint_at (2 ^ 64) a.0.1) (after_number a.0.0) x a.2 in
    let d = bind_some (varint_at (2 ^ 64) b.0.1) (after_size a.0.0 b.0.0) x b.2 in
    let f = bind_some (key_at d.0.1) (after_smallest a.0.0 b.0.0 d.0.0) x d.2 in
    let g = bind_some (key_at f.0.1) (ends_file a.0.0 b.0.0 d.0.0 f.0.0) x f.2 in
    let level = level_takes bytes a.0 fits a.1 in
    let number = varint_takes (2 ^ 64) a.0.1 b.0 level.rest_fits b.1 in
    let size = varint_takes (2 ^ 64) b.0.1 d.0 number.rest_fits d.1 in
    let smallest = key_takes d.0.1 f.0 size.rest_fits f.1 in
    let largest = key_takes f.0.1 g.0 smallest.rest_fits g.1 in
    let made : TakesContent Added bytes (AddFile (file_of a.0.0 b.0.0 d.0.0 f.0.0 g.0.0), g.0.1) = record {
      tag_is = refl;
      parts = five_parts bytes (varint a.0.0) a.0.1 (varint b.0.0) b.0.1 (varint d.0.0) d.0.1 (length_prefixed f.0.0) f.0.1 (length_prefixed g.0.0) g.0.1 level.parts number.parts size.parts smallest.parts largest.parts;
      lawful = (level.within, number.below, size.below, smallest.key, largest.key);
      rest_fits = largest.rest_fits;
    } in
    subst (TakesContent Added bytes) (same_Some _ _ g.2) made

pub content_takes : (tag : Tag) (bytes : List ℕ) (x : Field × List ℕ) → IsBytes bytes → content_at tag bytes ≡ Some x → TakesContent tag bytes x
content_takes Comparator bytes x fits e =
    let m = map_some (λ (t : List ℕ × List ℕ). (SetComparator t.0, t.1)) (text_at bytes) x e in
    let t = text_takes bytes m.0 fits m.1 in
    let made : TakesContent Comparator bytes (SetComparator m.0.0, m.0.1) = record { tag_is = refl; parts = t.parts; lawful = (t.text, t.short); rest_fits = t.rest_fits } in
    subst (TakesContent Comparator bytes) m.2 made
content_takes LogNumber bytes x fits e = number_takes SetLogNumber LogNumber (λ n. refl) (λ n. refl) (λ n lt. lt) bytes x fits e
content_takes NextFile bytes x fits e = number_takes SetNextFile NextFile (λ n. refl) (λ n. refl) (λ n lt. lt) bytes x fits e
content_takes LastSequence bytes x fits e = number_takes SetLastSequence LastSequence (λ n. refl) (λ n. refl) (λ n lt. lt) bytes x fits e
content_takes Pointer bytes x fits e = pointer_takes bytes x fits e
content_takes Deleted bytes x fits e = deleted_takes bytes x fits e
content_takes Added bytes x fits e = added_takes bytes x fits e
content_takes PreviousLog bytes x fits e = number_takes SetPreviousLog PreviousLog (λ n. refl) (λ n. refl) (λ n lt. lt) bytes x fits e

-- ---- what was spelt is read again

number_again : (field : ℕ → Field) (n : ℕ) (rest : List ℕ) → n < 2 ^ 64 → number_field field (varint n ++ rest) ≡ Some (field n, rest)
number_again field n rest lt = rw (varint_again (2 ^ 64) n rest lt (lit≤ tt)) refl

pointer_again : (p : CompactPointer) (rest : List ℕ) → p.level ≤ 6 → IsInternalKey p.key → pointer_at ((varint p.level ++ length_prefixed p.key) ++ rest) ≡ Some (SetPointer p, rest)
unfolding pointer_at
pointer_again p rest level key =
    ap pointer_at (append_assoc (varint p.level) (length_prefixed p.key) rest)
    ∙ rw (level_again p.level (length_prefixed p.key ++ rest) level, key_again p.key rest key) refl

deleted_again : (f : DeletedFile) (rest : List ℕ) → f.level ≤ 6 → f.number < 2 ^ 64 → deleted_at ((varint f.level ++ varint f.number) ++ rest) ≡ Some (DeleteFile f, rest)
unfolding deleted_at
deleted_again f rest level number =
    ap deleted_at (append_assoc (varint f.level) (varint f.number) rest)
    ∙ rw (level_again f.level (varint f.number ++ rest) level, varint_again (2 ^ 64) f.number rest number (lit≤ tt)) refl

added_again : (f : NewFile) (rest : List ℕ) → IsField (AddFile f) → added_at (content (AddFile f) ++ rest) ≡ Some (AddFile f, rest)
unfolding added_at
added_again f rest h =
    ap added_at (file_bytes (varint f.level) (varint f.meta.number) (varint f.meta.size) (length_prefixed f.meta.smallest) (length_prefixed f.meta.largest) rest)
    ∙ rw (level_again f.level _ h.0, varint_again (2 ^ 64) f.meta.number _ h.1 (lit≤ tt), varint_again (2 ^ 64) f.meta.size _ h.2 (lit≤ tt), key_again f.meta.smallest _ h.3, key_again f.meta.largest rest h.4) refl

pub content_again : (field : Field) (rest : List ℕ) → IsField field → content_at (field_tag field) (content field ++ rest) ≡ Some (field, rest)
content_again (SetComparator name) rest h = rw (text_again name rest h.0 h.1) refl
content_again (SetLogNumber n) rest h = number_again SetLogNumber n rest h
content_again (SetPreviousLog n) rest h = number_again SetPreviousLog n rest h
content_again (SetNextFile n) rest h = number_again SetNextFile n rest h
content_again (SetLastSequence n) rest h = number_again SetLastSequence n rest h
content_again (SetPointer p) rest h = pointer_again p rest h.0 h.1
content_again (DeleteFile f) rest h = deleted_again f rest h.0 h.1
content_again (AddFile f) rest h = added_again f rest h

-- ---- tags

tested : {A : Type 0} (b : Bool) (y : A) (o : Option A) (x : A) → cond b (Some y) o ≡ Some x → ((b ≡ true) × (y ≡ x)) ⊎ (o ≡ Some x)
tested true y o x e = inl (refl, cc)
tested false y o x e = inr e

found_passes : {A : Type 0} (p : A → Bool) (xs : List A) (x : A) → find p xs ≡ Some x → p x ≡ true
found_passes p [] x e = absurd cc
found_passes p (y ∷ ys) x e =
    elim (tested (p y) y (find p ys) x e) [
      | inl h ↦ ap p (sym h.1) ∙ h.0
      | inr h ↦ found_passes p ys x h
    ]

listed_is : (n : ℕ) (tag : Tag) → listed_tag n ≡ Some tag → tag_number tag ≡ n
listed_is n tag e = eqb-true _ _ (found_passes (λ (t : Tag). eqb (tag_number t) n) tags tag e)

pub listed_number : (tag : Tag) → listed_tag (tag_number tag) ≡ Some tag
listed_number Comparator = refl
listed_number LogNumber = refl
listed_number NextFile = refl
listed_number LastSequence = refl
listed_number Pointer = refl
listed_number Deleted = refl
listed_number Added = refl
listed_number PreviousLog = refl

tag_number_small : (tag : Tag) → tag_number tag < 2 ^ 32
tag_number_small Comparator = omega arith
tag_number_small LogNumber = omega arith
tag_number_small NextFile = omega arith
tag_number_small LastSequence = omega arith
tag_number_small Pointer = omega arith
tag_number_small Deleted = omega arith
tag_number_small Added = omega arith
tag_number_small PreviousLog = omega arith

-- ---- whole fields

pub record TakesField (bytes : List ℕ) (x : Field × List ℕ) : Type 0 where
  pub parts : bytes ≡ spelling x.0 ++ x.1
  pub lawful : IsField x.0
  pub rest_fits : IsBytes x.1

abbrev field_error : Fault → Result (Field × List ℕ) Fault
field_error e = Err e

abbrev field_read : Field × List ℕ → Result (Field × List ℕ) Fault
field_read x = Ok x

map_or_ok : {A B : Type 0} (f : A → Result B Fault) (o : Option A) (d : Fault) (y : B) → option_map_or f o (Err d) ≡ Ok y → (x : A) × (o ≡ Some x) × (f x ≡ Ok y)
map_or_ok f None d y e = absurd cc
map_or_ok f (Some x) d y e = (x, refl, e)

ok_or_ok : {A : Type 0} (o : Option A) (d : Fault) (y : A) → ok_or o d ≡ Ok y → o ≡ Some y
ok_or_ok None d y e = absurd cc
ok_or_ok (Some x) d y e = cc

pub field_takes : (bytes : List ℕ) (x : Field × List ℕ) → IsBytes bytes → field_at bytes ≡ Ok x → TakesField bytes x
unfolding field_at
field_takes bytes x fits e =
    let a = map_or_ok tagged_at (varint_at (2 ^ 32) bytes) (fault EditField) x e in
    let b = map_or_ok (λ (tag : Tag). ok_or (content_at tag a.0.1) (fault EditField)) (listed_tag a.0.0) (fault EditTag) x a.2 in
    let n = varint_takes (2 ^ 32) bytes a.0 fits a.1 in
    let t = content_takes b.0 a.0.1 x n.rest_fits (ok_or_ok (content_at b.0 a.0.1) (fault EditField) x b.2) in
    let number : a.0.0 ≡ tag_number (field_tag x.0) = sym (listed_is a.0.0 b.0 b.1) ∙ ap tag_number (sym t.tag_is) in
    record {
      parts = n.parts ∙ ap (λ (r : List ℕ). varint a.0.0 ++ r) t.parts ∙ ap (λ (k : ℕ). varint k ++ (content x.0 ++ x.1)) number ∙ sym (append_assoc (varint (tag_number (field_tag x.0))) (content x.0) x.1);
      lawful = t.lawful;
      rest_fits = t.rest_fits;
    }

pub field_again : (field : Field) (rest : List ℕ) → IsField field → field_at (spelling field ++ rest) ≡ field_read (field, rest)
unfolding field_at
field_again field rest h =
    ap field_at (append_assoc (varint (tag_number (field_tag field))) (content field) rest)
    ∙ rw (varint_again (2 ^ 32) (tag_number (field_tag field)) (content field ++ rest) (tag_number_small (field_tag field)) (lit≤ tt), listed_number (field_tag field), content_again field rest h) refl

-- ---- the refusal

abbrev tag_fault : Option Tag → Fault
tag_fault listed = cond (is_none listed) (fault EditTag) (fault EditField)

ok_or_err : {A : Type 0} (o : Option A) (d e : Fault) → ok_or o d ≡ Err e → e ≡ d
ok_or_err None d e h = cc
ok_or_err (Some x) d e h = absurd cc

refused_tag : (listed : Option Tag) (rest : List ℕ) (e : Fault) → option_map_or (λ (tag : Tag). ok_or (content_at tag rest) (fault EditField)) listed (Err (fault EditTag)) ≡ Err e → e ≡ tag_fault listed
refused_tag None rest e h = cc
refused_tag (Some tag) rest e h = ok_or_err (content_at tag rest) (fault EditField) e h

refused_number : (bytes : List ℕ) (o : Option (ℕ × ℕ)) (e : Fault)
    → option_map_or tagged_at (option_map (λ (x : ℕ × ℕ). (x.0, drop x.1 bytes)) o) (Err (fault EditField)) ≡ Err e
    → e ≡ option_map_or (λ (x : ℕ × ℕ). tag_fault (listed_tag x.0)) o (fault EditField)
refused_number bytes None e h = cc
refused_number bytes (Some x) e h = refused_tag (listed_tag x.0) (drop x.1 bytes) e h

pub field_refused : (bytes : List ℕ) (e : Fault) → field_at bytes ≡ Err e → e ≡ field_fault bytes
unfolding field_at varint_at
field_refused bytes e h = refused_number bytes (varint_reading (2 ^ 32) bytes) e h

both_read : (x : Field × List ℕ) (e : Fault) → field_error e ≡ field_read x → ⊥
both_read x e h = cc

-- if a reading is refused, no field begins the bytes
pub no_field : (bytes : List ℕ) (e : Fault) → field_at bytes ≡ Err e → (field : Field) (behind : List ℕ) → IsField field → bytes ≡ spelling field ++ behind → ⊥
no_field bytes e h field behind lawful is = both_read (field, behind) e (sym h ∙ ap field_at is ∙ field_again field behind lawful)

ok_is : (x y : Field × List ℕ) → field_read x ≡ field_read y → x ≡ y
ok_is x y e = cc

-- no spelling of a field begins another
pub fields_apart : (f g : Field) (a b : List ℕ) → IsField f → IsField g → spelling f ++ a ≡ spelling g ++ b → (f ≡ g) × (a ≡ b)
fields_apart f g a b hf hg e =
    let same = ok_is (f, a) (g, b) (sym (field_again f a hf) ∙ ap field_at e ∙ field_again g b hg) in
    (ap (λ (x : Field × List ℕ). x.0) same, ap (λ (x : Field × List ℕ). x.1) same)
