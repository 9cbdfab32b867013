-- Which refusals come of what a folder holds.
use Rattle.std.proofs.Common.{◌≡◌, ◌⊎◌, ℕ, suc, zero, ◌^◌, nat_lt, length, drop, is_none, Bool, true, false, List, [], ◌∷◌, Option, Some, None, Result, Ok, Err, IfErr, sym, subst, if◌then◌else◌, inl, inr}
use Rattle.std.specs.Option.{option_map_or, ok_or}
use Rattle.ikey.proofs.Binds.{failed}
use Rattle.ikey.proofs.Refusals.{unless_device}
use Rattle.ikey.specs.Answers.{◌>>=◌, IsThen, fault}
use Rattle.ikey.specs.fault.Fault.{Fault}
use Rattle.ikey.specs.fault.FaultName.{FaultName}
use Rattle.ikey.specs.Varint.{varint_reading}
use Rattle.ikey.specs.fault.FaultName.TheVariants.{Apply, Comparator, EditField, EditTag, LogChecksum, LogShape, Missing}
use Rattle.logrec.specs.LogReader.{after_zeros, content_len, ends_record, left_at, fragment_reading, record_at, records_in, records_of}
use Rattle.edit.specs.Edit.{Edit, field_fault}
use Rattle.edit.specs.Tag.{listed_tag}
use Rattle.edit.specs.Version.{State, applied_by, empty_state}
use Rattle.folder.specs.LoadedTables.{IsLoaded}
use Rattle.folder.specs.Manifest.{IsEditsAnswer, IsManifestAnswer, first_name, order_name, order_named, order_of, version_after_edits, version_from}
use Rattle.folder.specs.Names.{IsNumberAnswer}
use Rattle.folder.specs.OpenAnswer.{FolderAnswers, HasDeviceFailed, IsFileReading, IsOfContents, IsOpened, IsStopped}
use Rattle.folder.specs.declared.order.Order.TheVariants.{Bytewise, Shortlex}

-- the refusal comes of what a folder holds
abbrev pub OfContents : Fault → Type 0
OfContents e = IsOfContents e.name

-- each refusal of an answer does
unfoldable AllOfContents : {A : Type 0} → Result A Fault → Type 0
AllOfContents r = IfErr r OfContents

value : {A : Type 0} (x : A) → AllOfContents (Ok x)
unfolding AllOfContents
value x = tt

named : (A : Type 0) (n : FaultName) → IsOfContents n → AllOfContents {A = A} (Err (fault n))
unfolding AllOfContents
named A n h = h

-- of two steps
bound : {A B : Type 0} (r : Result A Fault) (f : A → Result B Fault) → AllOfContents r → ((x : A) → AllOfContents (f x)) → AllOfContents (r >>= f)
unfolding AllOfContents
bound (Ok x) f one two = two x
bound (Err e) f one two = one

-- of both sides of a test
tested : {A : Type 0} (b : Bool) (r s : Result A Fault) → AllOfContents r → AllOfContents s → AllOfContents (if b then r else s)
tested true r s one two = one
tested false r s one two = two

-- of an answer that is this refusal
refused_by : {A : Type 0} (r : Result A Fault) (e : Fault) → failed e ≡ r → AllOfContents r → OfContents e
unfolding AllOfContents
refused_by {A = A} r e same h = subst (λ (x : Result A Fault). IfErr x OfContents) (sym same) h

-- a log's refusals
piece_refused : (room : ℕ) (bytes : List ℕ) → AllOfContents (fragment_reading room bytes)
unfolding fragment_reading
piece_refused room bytes =
    let content = drop 7 bytes in
    tested (nat_lt (length bytes) 7) _ _ (named _ LogShape tt)
    (tested (nat_lt room (content_len bytes)) _ _ (named _ LogShape tt)
    (tested (nat_lt (length content) (content_len bytes)) _ _ (named _ LogShape tt)
    (tested _ _ _ (value _) (named _ LogChecksum tt))))

ends_refused : (begins : Bool) (room kind len : ℕ) → AllOfContents (ends_record begins room kind len)
unfolding ends_record
ends_refused begins room kind len = tested _ _ _ (value true) (tested _ _ _ (value false) (named _ LogShape tt))

left_refused : (n : ℕ) (begins : Bool) (room : ℕ) (bytes : List ℕ) → AllOfContents (left_at n begins room bytes)
unfolding left_at
left_refused zero begins room bytes = named _ LogShape tt
left_refused (suc n) begins room bytes =
    bound (fragment_reading room bytes) _ (piece_refused room bytes) (λ first.
    bound (ends_record begins room first.kind _) _ (ends_refused begins room first.kind _) (λ ends.
    tested ends _ _ (value _) (bound (left_at n false 32761 first.rest) _ (left_refused n false 32761 first.rest) (λ others. value _))))

zeros_refused : (offset : ℕ) (bytes : List ℕ) → AllOfContents (after_zeros offset bytes)
unfolding after_zeros
zeros_refused offset bytes = tested _ _ _ (value _) (named _ LogShape tt)

record_refused : (offset : ℕ) (bytes : List ℕ) → AllOfContents (record_at offset bytes)
unfolding record_at
record_refused offset bytes = bound (after_zeros offset bytes) _ (zeros_refused offset bytes) (λ body. left_refused _ true _ body)

in_refused : (n offset : ℕ) (bytes : List ℕ) → AllOfContents (records_in n offset bytes)
unfolding records_in
in_refused n offset [] = value []
in_refused zero offset (b ∷ bytes) = value []
in_refused (suc n) offset (b ∷ bytes) =
    bound (record_at offset (b ∷ bytes)) _ (record_refused offset (b ∷ bytes)) (λ first.
    bound (records_in n _ first.1) _ (in_refused n _ first.1) (λ others. value _))

log_refused : (bytes : List ℕ) → AllOfContents (records_of bytes)
unfolding records_of
log_refused bytes = in_refused _ 0 bytes

-- a record's refusals
by_test : (b : Bool) → OfContents (if b then fault EditTag else fault EditField)
by_test true = tt
by_test false = tt

by_reading : {X : Type 0} (unknown : X → Bool) (reading : Option X) → OfContents (option_map_or (λ x. if unknown x then fault EditTag else fault EditField) reading (fault EditField))
by_reading unknown None = tt
by_reading unknown (Some x) = by_test (unknown x)

field_refused : (bytes : List ℕ) → OfContents (field_fault bytes)
field_refused bytes = by_reading (λ tag. is_none (listed_tag tag.0)) (varint_reading (2 ^ 32) bytes)

edits_refused : (records : List (List ℕ)) (e : Fault) → IsEditsAnswer records (Err e) → OfContents e
edits_refused records e h = subst OfContents (sym h.refused.named) (field_refused h.refused.rest)

-- the refusals of edits, one after the other
by_name : (name : Option (List ℕ)) → AllOfContents (option_map_or order_named name (Err (fault Comparator)))
by_name None = named _ Comparator tt
by_name (Some text) = tested _ _ _ (value Bytewise) (tested _ _ _ (value Shortlex) (named _ Comparator tt))

fits : (next : Option State) → AllOfContents (ok_or next (fault Apply))
fits None = named _ Apply tt
fits (Some v) = value v

version_refused : (text : List ℕ) (v : State) (edits : List Edit) → AllOfContents (version_after_edits text v edits)
version_refused text v [] = value v
version_refused text v (e ∷ edits) = bound (applied_by text v e) _ (tested _ _ _ (named _ Comparator tt) (fits _)) (λ w. version_refused text w edits)

edits_by : (number : ℕ) (edits : List Edit) → AllOfContents (version_from number edits)
edits_by number edits =
    bound (order_of edits) _ (by_name (first_name edits)) (λ order.
    bound (version_after_edits (order_name order) empty_state edits) _ (version_refused (order_name order) empty_state edits) (λ v. tested _ _ _ (value (order, v)) (named _ Apply tt)))

-- two steps, one after the other
same_err : {A : Type 0} (d e : Fault) → failed {A = A} e ≡ failed d → d ≡ e
same_err d e h = cc

then_refused : {A B : Type 0} (IsFirst : Result A Fault → Type 0) (IsNext : A → Result B Fault → Type 0) (e : Fault) → ((d : Fault) → IsFirst (Err d) → OfContents d) → ((x : A) → IsNext x (Err e) → OfContents e)
    → IsThen IsFirst IsNext (Err e) → OfContents e
then_refused IsFirst IsNext e one two (Ok x, h) = two x h.1
then_refused {B = B} IsFirst IsNext e one two (Err d, h) = subst OfContents (same_err {A = B} d e h.1) (one d h.0)

manifest_refused : (number : ℕ) (bytes : List ℕ) (e : Fault) → IsManifestAnswer number bytes (Err e) → OfContents e
manifest_refused number bytes e h =
    then_refused _ _ e (λ d is. refused_by _ d is (log_refused bytes)) (λ records next.
    then_refused _ _ e (edits_refused records) (λ edits is. refused_by _ e is (edits_by number edits)) next) h

number_refused : (bytes : List ℕ) (e : Fault) → IsNumberAnswer bytes (Err e) → OfContents e
number_refused bytes e h = subst OfContents (sym h.1) tt

held_refused : (tells : List ℕ → Option (List ℕ) → Type 0) (name : List ℕ) (e : Fault) → IsFileReading tells name (Err e) → OfContents e
held_refused tells name e h = subst OfContents (sym h.1) tt

-- opening's refusals
pub open_refused : (tells : List ℕ → Option (List ℕ) → Type 0) (e : Fault) → IsOpened tells (Err e) → IsOfContents e.name
open_refused tells e h =
    then_refused _ _ e (held_refused tells _) (λ current next.
    then_refused _ _ e (number_refused current) (λ number next.
    then_refused _ _ e (held_refused tells _) (λ bytes. manifest_refused number bytes e) next) next) h

-- the one refusal of loading
pub load_refused : (tells : List ℕ → Option (List ℕ) → Type 0) (numbers : List ℕ) (e : Fault) → IsLoaded tells numbers (Err e) → e ≡ fault Missing
load_refused tells numbers e h = h.missing.2

-- if no answer is Device, a call answers Device only if the device failed
pub device_failed : {X Y : Type 0} (view : X → Y) (before now : ℕ) (r : Result X Fault) (IsAnswer : Result Y Fault → Type 0) → ((e : Fault) → IsAnswer (Err e) → OfContents e)
    → FolderAnswers view before now r IsAnswer → IfErr r (HasDeviceFailed before now)
device_failed view before now (Ok x) IsAnswer of_contents h = tt
device_failed view before now (Err e) IsAnswer of_contents h = λ is.
    elim (unless_device e (IsStopped before now e ⊎ IsAnswer (Err e)) is h) [
      | inl stopped ↦ stopped.1
      | inr answer ↦ absurd (subst IsOfContents is (of_contents e answer))
    ]
