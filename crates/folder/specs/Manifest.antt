-- What the bytes of a manifest say: a log of edits, which give a version.
use Rattle.std.specs.Prelude.{◌≡◌, ℕ, nat_lt, Bool, ◌&&◌, false, if◌then◌else◌, List, [], ◌∷◌, ◌++◌}
use Rattle.std.specs.Prelude.{Option, None, is_some, Result, Ok, Err}
use Rattle.std.specs.List.{AllZip}
use Rattle.std.specs.Option.{option_map_or, option_or}
use Rattle.std.specs.Str.{bytes_eq}
use Rattle.ikey.specs.Answers.{fault, IsThen, ◌>>=◌}
use Rattle.ikey.specs.fault.Fault.{Fault}
use Rattle.ikey.specs.fault.FaultName.TheVariants as name
use Rattle.logrec.specs.LogReader.{records_of}
use Rattle.ikey.specs.Bytewise.{bytewise_name}
use Rattle.ikey.specs.Shortlex.{shortlex_name}
use Rattle.edit.specs.Edit.{Edit, IsEdit, IsEditRefused}
use Rattle.edit.specs.Version.{State, applied_by, empty_state}
use Rattle.folder.specs.declared.order.Order.{Order}
use Rattle.folder.specs.declared.order.Order.TheVariants.{Bytewise, Shortlex}

-- each record reads as its edit
abbrev pub AreEdits : List (List ℕ) → List Edit → Type 0
AreEdits records edits = AllZip IsEdit records edits

-- the refusal of a record, after some records that read as edits
pub record IsFirstRefused (records : List (List ℕ)) (e : Fault) : Type 0 where
  pub before : List (List ℕ)
  pub edits : List Edit
  pub bytes : List ℕ
  pub behind : List (List ℕ)
  pub parts : records ≡ before ++ bytes ∷ behind
  pub read : AreEdits before edits
  pub refused : IsEditRefused bytes e

-- the edits that records read as, or the refusal of the first that is no edit
abbrev pub IsEditsAnswer : List (List ℕ) → Result (List Edit) Fault → Type 0
IsEditsAnswer records (Ok edits) = AreEdits records edits
IsEditsAnswer records (Err e) = IsFirstRefused records e

-- the first comparator's name in the edits
abbrev pub first_name : List Edit → Option (List ℕ)
first_name [] = None
first_name (e ∷ edits) = option_or e.comparator (first_name edits)

-- the comparator's name of an order
abbrev pub order_name : Order → List ℕ
order_name Bytewise = bytewise_name
order_name Shortlex = shortlex_name

-- the order of a comparator's name, or Comparator if it is neither of the two
abbrev pub order_named : List ℕ → Result Order Fault
order_named text = if bytes_eq text bytewise_name then Ok Bytewise
    else if bytes_eq text shortlex_name then Ok Shortlex else Err (fault name.Comparator)

-- the order of the first name, or Comparator if no edit has one
abbrev pub order_of : List Edit → Result Order Fault
order_of edits = option_map_or order_named (first_name edits) (Err (fault name.Comparator))

-- the version after all edits, applied one after the other by the comparator of this name
abbrev pub version_after_edits : List ℕ → State → List Edit → Result State Fault
version_after_edits text v [] = Ok v
version_after_edits text v (e ∷ edits) = applied_by text v e >>=
    λ w. version_after_edits text w edits

-- whether log number, last sequence and next file were set, and this number is below next file
abbrev pub is_complete : ℕ → State → Bool
is_complete number v = is_some v.log_number && is_some v.last_sequence
    && option_map_or (nat_lt number) v.next_file false

-- the order and the version that the edits of the manifest of this number give, or Apply if the
-- version isn't complete
abbrev pub version_from : ℕ → List Edit → Result (Order × State) Fault
version_from number edits = do
  order ← order_of edits
  v ← version_after_edits (order_name order) empty_state edits
  if is_complete number v then Ok (order, v) else Err (fault name.Apply)

-- What the bytes of the manifest of a number answer: they are read as a log, then each record as an
-- edit, then the edits give a version.
abbrev pub IsManifestAnswer : ℕ → List ℕ → Result (Order × State) Fault → Type 0
IsManifestAnswer number bytes = IsThen (λ records. records ≡ records_of bytes) (λ records.
    IsThen (IsEditsAnswer records) (λ edits answer. answer ≡ version_from number edits))
