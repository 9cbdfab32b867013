-- The orders of user keys, by their numbers.
use Rattle.std.specs.Prelude.{ℕ, nat_eq, if◌then◌else◌, Result, Err}
use Rattle.ikey.specs.Answers.{fault}
use Rattle.ikey.specs.fault.Fault.{Fault}
use Rattle.ikey.specs.fault.FaultName.TheVariants.{Comparator}
use Rattle.ikey.specs.Bytewise.{bytewise_cmp, bytewise_short_keys}
use Rattle.ikey.specs.Shortlex.{shortlex_cmp, shortlex_short_keys}
use Rattle.ikey.specs.Comparator.{KeyOrder, ShortKeys}
use Rattle.c_api.specs.declared.order.TheConstants.{BYTEWISE, SHORTLEX}

-- what is answered in the order of this number, with its short keys, or Comparator
abbrev pub by_orders : {A : Type 0} → ℕ → (KeyOrder → ShortKeys → Result A Fault) → Result A Fault
by_orders number answer_by =
    if nat_eq number BYTEWISE then answer_by bytewise_cmp bytewise_short_keys
    else (if nat_eq number SHORTLEX then answer_by shortlex_cmp shortlex_short_keys
    else Err (fault Comparator))

-- the same, if short keys don't matter
abbrev pub by_order : {A : Type 0} → ℕ → (KeyOrder → Result A Fault) → Result A Fault
by_order number answer_by = by_orders number (λ cmp short_keys. answer_by cmp)
