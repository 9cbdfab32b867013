-- What the passes over a manifest answer.
use Rattle.std.specs.Prelude.{◌≡◌, ℕ, List, Option, Some, None, Result, Ok}
use Rattle.std.specs.Option.{option_map}
use Rattle.ikey.specs.Answers.{IsThen}
use Rattle.ikey.specs.fault.Fault.{Fault}
use Rattle.logrec.specs.LogReader.{records_of}
use Rattle.edit.specs.Edit.{Edit}
use Rattle.folder.specs.Manifest.{IsEditsAnswer, order_named, order_of}
use Rattle.folder.specs.declared.order.Order.{Order}

-- bytes are a log
pub record IsLog (bytes : List ℕ) : Type 0 where
  pub records : List (List ℕ)
  pub is : records_of bytes ≡ Ok records

-- what the records of a log answer to the question of their order: they are read as edits, and
-- then the first name of these is looked for
abbrev pub IsOrderAnswer : List (List ℕ) → Result Order Fault → Type 0
IsOrderAnswer records =
    IsThen (IsEditsAnswer records) (λ edits answer. answer ≡ order_of edits)

-- the order of the first name, if that of earlier edits is this one
abbrev pub order_with : Option (Result Order Fault) → Edit → Option (Result Order Fault)
order_with (Some order) e = Some order
order_with None e = option_map order_named e.comparator
