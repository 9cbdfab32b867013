-- A version that a manifest gave is as the code's types say of each version.
use Rattle.std.proofs.Common.{◌≡◌, ◌<◌, ◌≤◌, ◌+◌, ◌^◌, ℕ, zero, suc, nat_eq, nat_lt, lit<, Bool, true, false, not, ◌&&◌, List, [], ◌∷◌, ◌++◌, map, length, Option, Some, None, Result, Ok, Err, refl, sym, ap, subst, ◌∙◌, inl, inr, arith, if◌then◌else◌}
use Rattle.std.proofs.lemmas.List.Elements.{All-append, All-cons, All-filter, All-head, All-nil, All-push, All-tail}
use Rattle.std.proofs.lemmas.Map.Views.{All-insert_key}
use Rattle.std.proofs.lemmas.Str.{IsUtf8-from_ascii}
use Rattle.std.proofs.lemmas.Str.Ascii.{IsAscii-from_all}
use borrow.Author.Tests.{ltb-true}
use Rattle.std.specs.BTreeSet.{insert_key}
use Rattle.std.specs.BTreeMap.{insert_entry}
use Rattle.std.specs.List.{All, AllByRecursion, AllZip, filter, fold, list_all}
use Rattle.std.specs.List.Sorted.{IsStrictlySortedBy}
use Rattle.std.specs.Option.{ok_or, option_map}
use Rattle.std.specs.Str.{IsUtf8}
use Rattle.std.specs.Ordering.{match_ordering, nat_cmp}
use Rattle.std.specs.declared.cmp.Ordering.{Ordering}
use Rattle.std.specs.declared.cmp.Ordering.TheVariants.{Equal, Greater, Less}
use Rattle.edit.proofs.Applied.{state_after}
use Rattle.edit.proofs.RisingFiles.{empty_holds}
use Rattle.edit.proofs.Snapshots.{added_from-suc, added_from-zero}
use Rattle.edit.proofs.Written.{fields_lawful, reads_back}
use Rattle.edit.specs.Answers.{fault, ◌>>=◌}
use Rattle.edit.specs.Edit.{Edit, HasValidLevels, IsEdit, deleted_cmp, edit_bytes, empty_edit, settings_of, with_field}
use Rattle.edit.specs.fault.Fault.{Fault}
use Rattle.edit.specs.fault.FaultName.TheVariants.{Apply, Comparator}
use Rattle.edit.specs.Field.{AddFile, DeleteFile, Field, IsField, SetComparator, SetLastSequence, SetLogNumber, SetNextFile, SetPointer, SetPreviousLog}
use Rattle.edit.specs.Version.{IsState, State, applied, applied_by, are_new, empty_state, files_after, has_place, is_deleted, names_another, number_cmp, undeleted_files, with_file, with_pointer}
use Rattle.edit.specs.VersionOrder.{added_from, at_level, file_cmp, files_at, in_version_order, pointer_entry, snapshot_of}
use Rattle.edit.specs.declared.meta.CompactPointer.{CompactPointer}
use Rattle.edit.specs.declared.meta.DeletedFile.{DeletedFile}
use Rattle.edit.specs.declared.meta.FileMeta.{FileMeta}
use Rattle.edit.specs.declared.meta.NewFile.{NewFile}
use Rattle.edit.specs.Key.{IsInternalKey}
use Rattle.folder.specs.Calls.{Files}
use Rattle.folder.specs.Manifest.{order_name, version_after_edits}
use Rattle.folder.specs.Orders.{order_cmp}
use Rattle.folder.specs.ReadsAs.{IsOneOf}
use Rattle.folder.specs.declared.order.Order.{Order}
use Rattle.folder.specs.declared.order.Order.TheVariants.{Bytewise, Shortlex}
use Rattle.folder.proofs.CrashLemmas.{from_version, manifest_parts}
use Rattle.folder.proofs.ReadsLemmas.{opened_parts}
use Rattle.install.specs.ReadsOf.{NamedVersion, Reads, numbers_in}
use Rattle.install.proofs.Numbers as numbers
use Rattle.install.proofs.Options.{made, option_parts}
use Rattle.std.proofs.lemmas.Bool.{and_parts as both_true}
use Rattle.install.proofs.Numbers.{some_value as value_of}

-- A version that a manifest gave: the code's types say so of each version.
pub record IsSound (v : NamedVersion) : Type 0 where
  pub state : IsState v.version.pointers v.version.files
  pub again : IsEdit (edit_bytes (snapshot_of (order_name v.order) (order_cmp v.order) v.version))
      (snapshot_of (order_name v.order) (order_cmp v.order) v.version)
  pub small : (n : ℕ) → IsOneOf (numbers_in v) n → n < 2 ^ 64

abbrev pub OpenedIsSound : Type 0
OpenedIsSound = (v : NamedVersion) (tables : List (ℕ × List ℕ)) (files : Files) →
    Reads v tables files → IsSound v

-- ---- fields

abbrev pub IsFile : NewFile → Type 0
IsFile f = IsField (AddFile f)

abbrev IsPointer : CompactPointer → Type 0
IsPointer p = IsField (SetPointer p)

abbrev IsDeletion : DeletedFile → Type 0
IsDeletion d = IsField (DeleteFile d)

-- all fields of an edit are within their limits, but for its name and numbers
pub record AreLawful (e : Edit) : Type 0 where
  pub pointers : All IsPointer e.pointers
  pub deleted : All IsDeletion e.deleted
  pub added : All IsFile e.added

lawful_on : (e : Edit) (field : Field) → AreLawful e → IsField field → AreLawful (with_field e field)
lawful_on e (SetComparator name) h is = record { pointers = h.pointers; deleted = h.deleted; added = h.added }
lawful_on e (SetLogNumber n) h is = record { pointers = h.pointers; deleted = h.deleted; added = h.added }
lawful_on e (SetPreviousLog n) h is = record { pointers = h.pointers; deleted = h.deleted; added = h.added }
lawful_on e (SetNextFile n) h is = record { pointers = h.pointers; deleted = h.deleted; added = h.added }
lawful_on e (SetLastSequence n) h is = record { pointers = h.pointers; deleted = h.deleted; added = h.added }
lawful_on e (SetPointer p) h is = record { pointers = All-push IsPointer e.pointers p h.pointers is; deleted = h.deleted; added = h.added }
lawful_on e (DeleteFile f) h is = record { pointers = h.pointers; deleted = All-insert_key deleted_cmp f IsDeletion e.deleted h.deleted is; added = h.added }
lawful_on e (AddFile f) h is = record { pointers = h.pointers; deleted = h.deleted; added = All-push IsFile e.added f h.added is }

lawful_from : (fields : List Field) (e : Edit) → AllByRecursion IsField fields → AreLawful e → AreLawful (fold with_field e fields)
lawful_from [] e are h = h
lawful_from (f ∷ fields) e are h = lawful_from fields (with_field e f) are.1 (lawful_on e f h are.0)

pub lawful_edit : (bytes : List ℕ) (e : Edit) → IsEdit bytes e → AreLawful e
lawful_edit bytes e h = subst AreLawful h.sets (lawful_from h.fields empty_edit h.lawful (record { pointers = All-nil IsPointer; deleted = All-nil IsDeletion; added = All-nil IsFile }))

pub all_of : {A : Type 0} (P Q : A → Type 0) → ((x : A) → P x → Q x) → (xs : List A) → All P xs → All Q xs
all_of P Q f [] h = All-nil Q
all_of P Q f (x ∷ xs) h = All-cons Q x xs (f x (All-head P x xs h)) (all_of P Q f xs (All-tail P x xs h))

levels_of : (e : Edit) → AreLawful e → HasValidLevels e
levels_of e h = record {
  pointers = all_of IsPointer (λ (p : CompactPointer). p.level ≤ 6) (λ p is. is.0) e.pointers h.pointers;
  deleted = all_of IsDeletion (λ (d : DeletedFile). d.level ≤ 6) (λ d is. is.0) e.deleted h.deleted;
  added = all_of IsFile (λ (f : NewFile). f.level ≤ 6) (λ f is. is.0) e.added h.added;
}

-- ---- a version after edits

abbrev HasKey : ℕ × List ℕ → Type 0
HasKey p = IsInternalKey p.1

pub record IsGood (s : State) : Type 0 where
  pub state : IsState s.pointers s.files
  pub files : All IsFile s.files
  pub keys : All HasKey s.pointers

good_empty : IsGood empty_state
good_empty = record { state = empty_holds [] [] refl refl; files = All-nil IsFile; keys = All-nil HasKey }

files_good : (files added : List NewFile) → All IsFile files → All IsFile added → All IsFile (fold with_file files added)
files_good files [] h k = h
files_good files (f ∷ added) h k = files_good (with_file files f) added (All-insert_key number_cmp f IsFile files h (All-head IsFile f added k)) (All-tail IsFile f added k)

entry_by : (o : Ordering) (x k l : ℕ × List ℕ) (xs rest : List (ℕ × List ℕ)) → HasKey k → HasKey l → All HasKey (x ∷ xs) → All HasKey rest → All HasKey (match_ordering o (k ∷ x ∷ xs) (l ∷ xs) (x ∷ rest))
entry_by Less x k l xs rest is js h r = All-cons HasKey k (x ∷ xs) is h
entry_by Equal x k l xs rest is js h r = All-cons HasKey l xs js (All-tail HasKey x xs h)
entry_by Greater x k l xs rest is js h r = All-cons HasKey x rest (All-head HasKey x xs h) r

entry_good : (m : List (ℕ × List ℕ)) (level : ℕ) (key : List ℕ) → IsInternalKey key → All HasKey m → All HasKey (insert_entry nat_cmp m level key)
entry_good [] level key is h = All-cons HasKey (level, key) [] is (All-nil HasKey)
entry_good (x ∷ xs) level key is h = entry_by (nat_cmp level x.0) x (level, key) (x.0, key) xs (insert_entry nat_cmp xs level key) is is h (entry_good xs level key is (All-tail HasKey x xs h))

pointers_good : (m : List (ℕ × List ℕ)) (ps : List CompactPointer) → All HasKey m → All IsPointer ps → All HasKey (fold with_pointer m ps)
pointers_good m [] h k = h
pointers_good m (p ∷ ps) h k = let is = All-head IsPointer p ps k in pointers_good (with_pointer m p) ps (entry_good m p.level p.key is.1 h) (All-tail IsPointer p ps k)

good_after : (s next : State) (e : Edit) → IsGood s → AreLawful e → applied s e ≡ Some next → IsGood next
good_after s next e h are is =
    let parts = option_parts (made s e) (files_after s.files e.deleted e.added) next is in
    let left = undeleted_files e.deleted s.files in
    let files : fold with_file left e.added ≡ parts.0 = value_of (list_all (has_place s.files) e.deleted && are_new left e.added) (fold with_file left e.added) parts.0 parts.1 in
    let kept : All IsFile left = All-filter (λ (f : NewFile). not (is_deleted e.deleted f)) IsFile s.files h.files in
    subst IsGood parts.2 (record {
      state = state_after s.pointers (fold with_pointer s.pointers e.pointers) s.files parts.0 e h.state (levels_of e are) parts.1 refl;
      files = subst (All IsFile) files (files_good left e.added kept are.added);
      keys = pointers_good s.pointers e.pointers h.keys are.pointers;
    })

pub ok_value : (o : Option State) (e : Fault) (w : State) → ok_or o e ≡ Ok w → o ≡ Some w
ok_value None e w h = absurd (cc h)
ok_value (Some x) e w h = let same : x ≡ w = cc h in ap (λ (y : State). Some y) same

pub unnamed_value : (b : Bool) (e : Fault) (r : Result State Fault) (w : State) → (if b then Err e else r) ≡ Ok w → r ≡ Ok w
unnamed_value true e r w h = absurd (cc h)
unnamed_value false e r w h = h

pub bound_value : (r : Result State Fault) (f : State → Result State Fault) (y : State) → (r >>= f) ≡ Ok y → (x : State) × (r ≡ Ok x) × (f x ≡ Ok y)
bound_value (Ok x) f y h = (x, refl, h)
bound_value (Err e) f y h = absurd (cc h)

pub good_edits : (name : List ℕ) (records : List (List ℕ)) (edits : List Edit) (s v : State) → AllZip IsEdit records edits → IsGood s → version_after_edits name s edits ≡ Ok v → IsGood v
good_edits name [] [] s v are h is = let same : s ≡ v = cc is in subst IsGood same h
good_edits name [] (e ∷ edits) s v are h is = absurd are
good_edits name (r ∷ records) [] s v are h is = absurd are
good_edits name (r ∷ records) (e ∷ edits) s v are h is =
    let one = bound_value (applied_by name s e) (λ (w : State). version_after_edits name w edits) v is in
    let app : applied s e ≡ Some one.0 = ok_value (applied s e) (fault Apply) one.0 (unnamed_value (names_another name e) (fault Comparator) (ok_or (applied s e) (fault Apply)) one.0 one.1) in
    good_edits name records edits one.0 v are.1 (good_after s one.0 e h (lawful_edit r e are.0) app) one.2

-- ---- its snapshot reads back

pub by_all : {A : Type 0} (field : A → Field) (xs : List A) → All (λ (x : A). IsField (field x)) xs → AllByRecursion IsField (map field xs)
by_all field [] h = tt
by_all field (x ∷ xs) h = (All-head (λ (y : _). IsField (field y)) x xs h, by_all field xs (All-tail (λ (y : _). IsField (field y)) x xs h))

abbrev IsMeta : FileMeta → Type 0
IsMeta f = (f.number < 2 ^ 64) × (f.size < 2 ^ 64) × IsInternalKey f.smallest × IsInternalKey f.largest

metas_good : (files : List NewFile) → All IsFile files → All IsMeta (map (λ (f : NewFile). f.meta) files)
metas_good [] h = All-nil IsMeta
metas_good (f ∷ files) h =
    let is = All-head IsFile f files h in
    All-cons IsMeta f.meta (map (λ (g : NewFile). g.meta) files) (is.1, is.2, is.3, is.4) (metas_good files (All-tail IsFile f files h))

order_good : (cmp : List ℕ → List ℕ → Ordering) (xs files : List FileMeta) → All IsMeta xs → All IsMeta files → All IsMeta (fold (insert_key (file_cmp cmp)) xs files)
order_good cmp xs [] h k = h
order_good cmp xs (f ∷ files) h k = order_good cmp (insert_key (file_cmp cmp) xs f) files (All-insert_key (file_cmp cmp) f IsMeta xs h (All-head IsMeta f files k)) (All-tail IsMeta f files k)

level_good : (level : ℕ) (files : List FileMeta) → level ≤ 6 → All IsMeta files → All IsFile (map (at_level level) files)
level_good level [] low h = All-nil IsFile
level_good level (f ∷ files) low h =
    let is = All-head IsMeta f files h in
    All-cons IsFile (at_level level f) (map (at_level level) files) (low, is.0, is.1, is.2, is.3) (level_good level files low (All-tail IsMeta f files h))

added_good : (cmp : List ℕ → List ℕ → Ordering) (files : List NewFile) (level n : ℕ) → level + n ≤ 7 → All IsFile files → All IsFile (added_from cmp files level n)
added_good cmp files level zero le h = subst (All IsFile) (sym (added_from-zero cmp files level)) (All-nil IsFile)
added_good cmp files level (suc n) le h =
    let here : All IsMeta (in_version_order cmp (files_at files level)) = order_good cmp [] (files_at files level) (All-nil IsMeta) (metas_good (filter (λ (f : NewFile). nat_eq f.level level) files) (All-filter (λ (f : NewFile). nat_eq f.level level) IsFile files h)) in
    subst (All IsFile) (sym (added_from-suc cmp files level n))
    (All-append IsFile (map (at_level level) (in_version_order cmp (files_at files level))) (added_from cmp files (level + 1) n) (level_good level (in_version_order cmp (files_at files level)) (omega arith) here) (added_good cmp files (level + 1) n (omega arith) h))

pointers_lawful : (m : List (ℕ × List ℕ)) → All (λ (level : ℕ). level ≤ 6) (map (λ (p : ℕ × List ℕ). p.0) m) → All HasKey m → All IsPointer (map pointer_entry m)
pointers_lawful [] h k = All-nil IsPointer
pointers_lawful (p ∷ m) h k =
    let levels = map (λ (x : ℕ × List ℕ). x.0) m in
    All-cons IsPointer (pointer_entry p) (map pointer_entry m) (All-head (λ (level : ℕ). level ≤ 6) p.0 levels h, All-head HasKey p m k) (pointers_lawful m (All-tail (λ (level : ℕ). level ≤ 6) p.0 levels h) (All-tail HasKey p m k))

all_below : (xs : List ℕ) → list_all (λ (c : ℕ). nat_lt c 128) xs ≡ true → All (λ (c : ℕ). c < 128) xs
all_below [] h = All-nil (λ (c : ℕ). c < 128)
all_below (x ∷ xs) h = let both = both_true (nat_lt x 128) (list_all (λ (c : ℕ). nat_lt c 128) xs) h in All-cons (λ (c : ℕ). c < 128) x xs (ltb-true x 128 both.0) (all_below xs both.1)

name_lawful : (order : Order) → IsUtf8 (order_name order) × (length (order_name order) < 2 ^ 32)
name_lawful Bytewise = (IsUtf8-from_ascii (order_name Bytewise) (IsAscii-from_all (order_name Bytewise) (all_below (order_name Bytewise) refl)), lit< tt)
name_lawful Shortlex = (IsUtf8-from_ascii (order_name Shortlex) (IsAscii-from_all (order_name Shortlex) (all_below (order_name Shortlex) refl)), lit< tt)

none_deleted : IsStrictlySortedBy deleted_cmp []
unfolding IsStrictlySortedBy
none_deleted = tt

pub snapshot_again : (order : Order) (cmp : List ℕ → List ℕ → Ordering) (v : State) → IsGood v → IsEdit (edit_bytes (snapshot_of (order_name order) cmp v)) (snapshot_of (order_name order) cmp v)
snapshot_again order cmp v h =
    let e = snapshot_of (order_name order) cmp v in
    reads_back e none_deleted (fields_lawful e (name_lawful order, tt) (by_all SetPointer (map pointer_entry v.pointers) (pointers_lawful v.pointers h.state.levels.pointer_levels h.keys)) tt
    (by_all AddFile (added_from cmp v.files 0 7) (added_good cmp v.files 0 7 (omega arith) h.files)))

-- ---- all

small_in : (files : List NewFile) (n : ℕ) → All IsFile files → IsOneOf (numbers.numbers_in files) n → n < 2 ^ 64
small_in [] n h m = absurd m
small_in (f ∷ files) n h (inl same) = subst (λ (k : ℕ). k < 2 ^ 64) (sym same) (All-head IsFile f files h).1
small_in (f ∷ files) n h (inr m) = small_in files n (All-tail IsFile f files h) m

pub opened_sound : OpenedIsSound
opened_sound v tables files h =
    let o = opened_parts files v.order v.version h.reads.opened in
    let parts = manifest_parts o.number o.bytes v.order v.version o.answer in
    let from = from_version o.number parts.edits v.order v.version parts.from in
    let good : IsGood v.version = good_edits (order_name v.order) parts.records parts.edits empty_state v.version parts.read good_empty from.after in
    record {
      state = good.state;
      again = snapshot_again v.order (order_cmp v.order) v.version good;
      small = λ n m. small_in v.version.files n good.files (numbers.in_files (order_cmp v.order) v.version n m);
    }
