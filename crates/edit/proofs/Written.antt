-- What the loops of a writer keep, and what the fields of an edit set.
use Rattle.std.proofs.Common.{◌≡◌, ℕ, suc, ◌+◌, ◌<◌, List, [], ◌∷◌, ◌++◌, map, length, drop, get_or, Option, Some, None, refl, sym, ap, subst, ◌∙◌, append_assoc, add-one}
use Rattle.std.specs.List.{All, fold, flat_map, AllByRecursion}
use Rattle.std.specs.List.Sorted.{IsStrictlySortedBy}
use Rattle.std.specs.BTreeSet.{insert_key}
use Rattle.std.specs.Cmp.{IsTotalOrder}
use Rattle.std.specs.Ordering.{ordering_reverse}
use Rattle.std.specs.declared.cmp.Ordering.TheVariants.{Less, Greater}
use Rattle.std.proofs.Math.Seq.{drop-cons}
use Rattle.std.proofs.lemmas.Cmp.{nat_cmp_total, on_total, then_total}
use Rattle.std.proofs.lemmas.List.{append-nil, map-append}
use Rattle.std.proofs.lemmas.List.Elements.{All-head, All-tail}
use Rattle.std.proofs.lemmas.List.Sums.{fold-append}
use Rattle.std.proofs.lemmas.Grind.{flat_map-append}
use Rattle.edit.specs.Field.{Field, SetComparator, SetLogNumber, SetPreviousLog, SetNextFile, SetLastSequence, SetPointer, DeleteFile, AddFile, spelling, IsField}
use Rattle.coding.specs.Varint.{varint}
use Rattle.edit.specs.Edit.{Edit, IsEdit, empty_edit, with_field, edit_from, deleted_cmp, optional_field, settings_of, fields_of, edit_bytes}
use Rattle.edit.specs.Tag.{tag_number}
use Rattle.edit.specs.declared.tag.Tag.{Tag}
use Rattle.edit.specs.declared.tag.Tag.TheVariants.{LogNumber, NextFile, LastSequence, PreviousLog}
use Rattle.std.specs.Option.{option_map_or}
use Rattle.edit.specs.declared.meta.NewFile.{NewFile}
use Rattle.edit.specs.declared.meta.CompactPointer.{CompactPointer}
use Rattle.edit.specs.declared.meta.DeletedFile.{DeletedFile}
use Rattle.edit.proofs.Edits.{AllByRecursion-push}

-- ---- a loop over parts of an edit

-- the parts that were written, and those that are left
pub record Writes {A : Type 0} (field : A → Field) (P : A → Type 0) (all : List A) (old out : List ℕ) (rest : List A) : Type 0 where
  pub before : List A
  pub whole : before ++ rest ≡ all
  pub written : out ≡ old ++ flat_map spelling (map field before)
  pub lawful : AllByRecursion IsField (map field before)
  pub left : All P rest

pub writes_begin : {A : Type 0} (field : A → Field) (P : A → Type 0) (all : List A) (old : List ℕ) → All P all → Writes field P all old old all
writes_begin field P all old h = record { before = []; whole = refl; written = sym (append-nil old); lawful = tt; left = h }

pub writes_on : {A : Type 0} (field : A → Field) (P : A → Type 0) (all : List A) (old out : List ℕ) (x : A) (rest : List A) → Writes field P all old out (x ∷ rest) → IsField (field x)
    → Writes field P all old (out ++ spelling (field x)) rest
writes_on field P all old out x rest w lawful = record {
  before = w.before ++ x ∷ [];
  whole = append_assoc w.before (x ∷ []) rest ∙ w.whole;
  written = ap (λ (t : List ℕ). t ++ spelling (field x)) w.written
      ∙ append_assoc old (flat_map spelling (map field w.before)) (spelling (field x))
      ∙ ap (λ (t : List ℕ). old ++ (flat_map spelling (map field w.before) ++ t)) (sym (append-nil (spelling (field x))))
      ∙ ap (λ (t : List ℕ). old ++ t) (sym (flat_map-append spelling (map field w.before) (field x ∷ [])))
      ∙ ap (λ (fs : List Field). old ++ flat_map spelling fs) (sym (map-append field w.before (x ∷ [])));
  lawful = subst (λ (fs : List Field). AllByRecursion IsField fs) (sym (map-append field w.before (x ∷ []))) (AllByRecursion-push IsField (map field w.before) (field x) w.lawful lawful);
  left = All-tail P x rest w.left;
}

pub writes_next : {A : Type 0} (field : A → Field) (P : A → Type 0) (all : List A) (old out : List ℕ) (x : A) (rest : List A) → Writes field P all old out (x ∷ rest) → P x
writes_next field P all old out x rest w = All-head P x rest w.left

-- the same of a slice, at an index
stands_next : {A : Type 0} (xs : List A) (i : ℕ) (x : A) → i < length xs → x ≡ get_or xs i x → drop i xs ≡ x ∷ drop (i + 1) xs
stands_next xs i x lt is = drop-cons xs i x lt ∙ ap (λ (y : _). y ∷ drop (suc i) xs) (sym is) ∙ ap (λ (k : ℕ). x ∷ drop k xs) (sym (add-one i))

pub writes_next_at : {A : Type 0} (field : A → Field) (P : A → Type 0) (all : List A) (old out : List ℕ) (i : ℕ) (x : A) → Writes field P all old out (drop i all) → i < length all → x ≡ get_or all i x → P x
writes_next_at field P all old out i x w lt is =
    writes_next field P all old out x (drop (i + 1) all) (subst (Writes field P all old out) (stands_next all i x lt is) w)

pub writes_on_at : {A : Type 0} (field : A → Field) (P : A → Type 0) (all : List A) (old out : List ℕ) (i : ℕ) (x : A) → Writes field P all old out (drop i all) → i < length all → x ≡ get_or all i x
    → IsField (field x) → Writes field P all old (out ++ spelling (field x)) (drop (i + 1) all)
writes_on_at field P all old out i x w lt is lawful =
    writes_on field P all old out x (drop (i + 1) all) (subst (Writes field P all old out) (stands_next all i x lt is) w) lawful

-- all parts are written
pub record Written {A : Type 0} (field : A → Field) (all : List A) (old out : List ℕ) : Type 0 where
  pub written : out ≡ old ++ flat_map spelling (map field all)
  pub lawful : AllByRecursion IsField (map field all)

pub writes_end : {A : Type 0} (field : A → Field) (P : A → Type 0) (all : List A) (old out : List ℕ) (rest : List A) → Writes field P all old out rest → rest ≡ [] → Written field all old out
writes_end field P all old out rest w none =
    let whole : w.before ≡ all = sym (append-nil w.before) ∙ ap (λ (t : List _). w.before ++ t) (sym none) ∙ w.whole in
    record {
      written = w.written ∙ ap (λ (t : List _). old ++ flat_map spelling (map field t)) whole;
      lawful = subst (λ (t : List _). AllByRecursion IsField (map field t)) whole w.lawful;
    }

-- ---- what the fields of an edit set

abbrev settings : Option (List ℕ) → Option ℕ → Option ℕ → Option ℕ → Option ℕ → Edit
settings comparator log previous next last = record {
  comparator = comparator;
  log_number = log;
  previous_log = previous;
  next_file = next;
  last_sequence = last;
  pointers = [];
  deleted = [];
  added = [];
}

set_comparator : (o : Option (List ℕ)) → fold with_field (settings None None None None None) (optional_field SetComparator o) ≡ settings o None None None None
set_comparator None = refl
set_comparator (Some x) = refl

set_log : (c : Option (List ℕ)) (o : Option ℕ) → fold with_field (settings c None None None None) (optional_field SetLogNumber o) ≡ settings c o None None None
set_log c None = refl
set_log c (Some x) = refl

set_previous : (c : Option (List ℕ)) (l o : Option ℕ) → fold with_field (settings c l None None None) (optional_field SetPreviousLog o) ≡ settings c l o None None
set_previous c l None = refl
set_previous c l (Some x) = refl

set_next : (c : Option (List ℕ)) (l p o : Option ℕ) → fold with_field (settings c l p None None) (optional_field SetNextFile o) ≡ settings c l p o None
set_next c l p None = refl
set_next c l p (Some x) = refl

set_last : (c : Option (List ℕ)) (l p n o : Option ℕ) → fold with_field (settings c l p n None) (optional_field SetLastSequence o) ≡ settings c l p n o
set_last c l p n None = refl
set_last c l p n (Some x) = refl

set_pointers : (e : Edit) (ps : List CompactPointer) → fold with_field e (map SetPointer ps) ≡ record e { pointers = e.pointers ++ ps }
set_pointers e [] = ap (λ (t : List CompactPointer). record e { pointers = t }) (sym (append-nil e.pointers))
set_pointers e (p ∷ ps) =
    set_pointers (record e { pointers = e.pointers ++ p ∷ [] }) ps ∙ ap (λ (t : List CompactPointer). record e { pointers = t }) (append_assoc e.pointers (p ∷ []) ps)

set_deleted : (e : Edit) (fs : List DeletedFile) → fold with_field e (map DeleteFile fs) ≡ record e { deleted = fold (insert_key deleted_cmp) e.deleted fs }
set_deleted e [] = refl
set_deleted e (f ∷ fs) = set_deleted (record e { deleted = insert_key deleted_cmp e.deleted f }) fs

set_added : (e : Edit) (fs : List NewFile) → fold with_field e (map AddFile fs) ≡ record e { added = e.added ++ fs }
set_added e [] = ap (λ (t : List NewFile). record e { added = t }) (sym (append-nil e.added))
set_added e (f ∷ fs) =
    set_added (record e { added = e.added ++ f ∷ [] }) fs ∙ ap (λ (t : List NewFile). record e { added = t }) (append_assoc e.added (f ∷ []) fs)

-- a fold over eight lists
eight : {A B : Type 0} (f : B → A → B) (x : B) (a b c d e g h i : List A)
    → fold f x (a ++ b ++ c ++ d ++ e ++ g ++ h ++ i) ≡ fold f (fold f (fold f (fold f (fold f (fold f (fold f (fold f x a) b) c) d) e) g) h) i
eight f x a b c d e g h i = simp fold-append

-- ---- a set that is filled in order

deleted_cmp_total : IsTotalOrder deleted_cmp
deleted_cmp_total = then_total (on_total (λ (f : DeletedFile). f.level) nat_cmp_total) (on_total (λ (f : DeletedFile). f.number) nat_cmp_total)

stands_below : (x k : DeletedFile) (done rest : List DeletedFile) → AllByRecursion (λ y. deleted_cmp x y ≡ Less) (done ++ k ∷ rest) → deleted_cmp x k ≡ Less
stands_below x k [] rest h = h.0
stands_below x k (y ∷ done) rest h = stands_below x k done rest h.1

below_all : (k : DeletedFile) (done rest : List DeletedFile) → IsStrictlySortedBy deleted_cmp (done ++ k ∷ rest) → insert_key deleted_cmp done k ≡ done ++ k ∷ []
unfolding IsStrictlySortedBy
below_all k [] rest h = refl
below_all k (x ∷ done) rest h =
    let above : deleted_cmp k x ≡ Greater = deleted_cmp_total.antisymm k x ∙ ap ordering_reverse (stands_below x k done rest h.0) in
    rw above (ap (λ (t : List DeletedFile). x ∷ t) (below_all k done rest h.1))

filled : (done fs : List DeletedFile) → IsStrictlySortedBy deleted_cmp (done ++ fs) → fold (insert_key deleted_cmp) done fs ≡ done ++ fs
filled done [] h = sym (append-nil done)
filled done (f ∷ fs) h =
    ap (λ (t : List DeletedFile). fold (insert_key deleted_cmp) t fs) (below_all f done fs h)
    ∙ filled (done ++ f ∷ []) fs (subst (IsStrictlySortedBy deleted_cmp) (sym (append_assoc done (f ∷ []) fs)) h)
    ∙ append_assoc done (f ∷ []) fs

-- ---- the whole

-- what an edit's fields set is the edit, and its bytes read as it
pub fields_set : (e : Edit) → IsStrictlySortedBy deleted_cmp e.deleted → edit_from (fields_of e) ≡ e
fields_set e ordered =
    let c = optional_field SetComparator e.comparator in
    let l = optional_field SetLogNumber e.log_number in
    let p = optional_field SetPreviousLog e.previous_log in
    let n = optional_field SetNextFile e.next_file in
    let s = optional_field SetLastSequence e.last_sequence in
    let ps = map SetPointer e.pointers in
    let ds = map DeleteFile e.deleted in
    let fs = map AddFile e.added in
    eight with_field empty_edit c l p n s ps ds fs
    ∙ ap (λ (a : Edit). fold with_field (fold with_field (fold with_field (fold with_field (fold with_field (fold with_field (fold with_field a l) p) n) s) ps) ds) fs) (set_comparator e.comparator)
    ∙ ap (λ (a : Edit). fold with_field (fold with_field (fold with_field (fold with_field (fold with_field (fold with_field a p) n) s) ps) ds) fs) (set_log e.comparator e.log_number)
    ∙ ap (λ (a : Edit). fold with_field (fold with_field (fold with_field (fold with_field (fold with_field a n) s) ps) ds) fs) (set_previous e.comparator e.log_number e.previous_log)
    ∙ ap (λ (a : Edit). fold with_field (fold with_field (fold with_field (fold with_field a s) ps) ds) fs) (set_next e.comparator e.log_number e.previous_log e.next_file)
    ∙ ap (λ (a : Edit). fold with_field (fold with_field (fold with_field a ps) ds) fs) (set_last e.comparator e.log_number e.previous_log e.next_file e.last_sequence)
    ∙ ap (λ (a : Edit). fold with_field (fold with_field a ds) fs) (set_pointers (settings e.comparator e.log_number e.previous_log e.next_file e.last_sequence) e.pointers)
    ∙ ap (λ (a : Edit). fold with_field a fs) (set_deleted (record e { deleted = []; added = [] }) e.deleted ∙ ap (λ (t : List DeletedFile). record e { deleted = t; added = [] }) (filled [] e.deleted ordered))
    ∙ set_added (record e { added = [] }) e.added

-- the spelling of each field that is written
pub reads_back : (e : Edit) → IsStrictlySortedBy deleted_cmp e.deleted → AllByRecursion IsField (fields_of e) → IsEdit (edit_bytes e) e
reads_back e ordered lawful = record { fields = fields_of e; lawful = lawful; spelled = refl; sets = fields_set e ordered }

-- ---- what a writer appends

abbrev number_bytes : Tag → Option ℕ → List ℕ
number_bytes tag number = option_map_or (λ n. varint (tag_number tag) ++ varint n) number []

spelt_number : (field : ℕ → Field) (tag : Tag) (spelt : (n : ℕ) → spelling (field n) ≡ varint (tag_number tag) ++ varint n) (o : Option ℕ) → flat_map spelling (optional_field field o) ≡ number_bytes tag o
spelt_number field tag spelt None = refl
spelt_number field tag spelt (Some n) = append-nil (spelling (field n)) ∙ spelt n

five : {A : Type 0} (x a b c d e : List A) → ((((x ++ a) ++ b) ++ c) ++ d) ++ e ≡ x ++ ((((a ++ b) ++ c) ++ d) ++ e)
five x a b c d e = simp append_assoc

flat_map-settings : (a b c d e : List Field) → flat_map spelling (a ++ b ++ c ++ d ++ e) ≡ (((flat_map spelling a ++ flat_map spelling b) ++ flat_map spelling c) ++ flat_map spelling d) ++ flat_map spelling e
flat_map-settings a b c d e = simp flat_map-append

pub settings_written : (e : Edit) (old a b c d out : List ℕ) → a ≡ old ++ flat_map spelling (optional_field SetComparator e.comparator) → b ≡ a ++ number_bytes LogNumber e.log_number
    → c ≡ b ++ number_bytes PreviousLog e.previous_log → d ≡ c ++ number_bytes NextFile e.next_file → out ≡ d ++ number_bytes LastSequence e.last_sequence → out ≡ old ++ flat_map spelling (settings_of e)
settings_written e old a b c d out p q r s t =
    let l = spelt_number SetLogNumber LogNumber (λ n. refl) e.log_number in
    let m = spelt_number SetPreviousLog PreviousLog (λ n. refl) e.previous_log in
    let n = spelt_number SetNextFile NextFile (λ n. refl) e.next_file in
    let k = spelt_number SetLastSequence LastSequence (λ n. refl) e.last_sequence in
    rw (t, s, r, q, p, ← l, ← m, ← n, ← k)
    (five old (flat_map spelling (optional_field SetComparator e.comparator)) (flat_map spelling (optional_field SetLogNumber e.log_number)) (flat_map spelling (optional_field SetPreviousLog e.previous_log)) (flat_map spelling (optional_field SetNextFile e.next_file)) (flat_map spelling (optional_field SetLastSequence e.last_sequence))
    ∙ ap (λ (x : List ℕ). old ++ x) (sym (flat_map-settings (optional_field SetComparator e.comparator) (optional_field SetLogNumber e.log_number) (optional_field SetPreviousLog e.previous_log) (optional_field SetNextFile e.next_file) (optional_field SetLastSequence e.last_sequence))))

flat_map-groups : (a b c d : List Field) → flat_map spelling (a ++ b ++ c ++ d) ≡ ((flat_map spelling a ++ flat_map spelling b) ++ flat_map spelling c) ++ flat_map spelling d
flat_map-groups a b c d = simp flat_map-append

pub edit_written : (e : Edit) (a b c out : List ℕ) → a ≡ [] ++ flat_map spelling (settings_of e) → b ≡ a ++ flat_map spelling (map SetPointer e.pointers) → c ≡ b ++ flat_map spelling (map DeleteFile e.deleted)
    → out ≡ c ++ flat_map spelling (map AddFile e.added) → out ≡ edit_bytes e
edit_written e a b c out p q r s = rw (s, r, q, p) (sym (flat_map-groups (settings_of e) (map SetPointer e.pointers) (map DeleteFile e.deleted) (map AddFile e.added)))

AllByRecursion-append : {X : Type 0} (P : X → Type 0) (xs ys : List X) → AllByRecursion P xs → AllByRecursion P ys → AllByRecursion P (xs ++ ys)
AllByRecursion-append P [] ys h k = k
AllByRecursion-append P (x ∷ xs) ys h k = (h.0, AllByRecursion-append P xs ys h.1 k)

pub fields_lawful : (e : Edit) → AllByRecursion IsField (settings_of e) → AllByRecursion IsField (map SetPointer e.pointers) → AllByRecursion IsField (map DeleteFile e.deleted)
    → AllByRecursion IsField (map AddFile e.added) → AllByRecursion IsField (fields_of e)
fields_lawful e p q r s =
    AllByRecursion-append IsField ((settings_of e ++ map SetPointer e.pointers) ++ map DeleteFile e.deleted) (map AddFile e.added)
    (AllByRecursion-append IsField (settings_of e ++ map SetPointer e.pointers) (map DeleteFile e.deleted) (AllByRecursion-append IsField (settings_of e) (map SetPointer e.pointers) p q) r) s
