-- One walk that tests a block and its entries.
use Rattle.std.proofs.Common.{◌≡◌, ℕ, List, Option, Result, Ok, Err, refl, sym, ap, subst, ◌∙◌}
use Rattle.std.specs.Prelude.{IfOk, IsOk}
use Rattle.std.specs.declared.cmp.Ordering.{Ordering}
use Rattle.coding.specs.Answers.{EqualOrMemory, FailsOrMemory, ◌>>=◌}
use Rattle.coding.specs.declared.fault.Fault.{Fault}
use Rattle.block.specs.EncodedEntry.{Entry}
use Rattle.table.specs.BoundsReading.{bounds_reading}
use Rattle.table.specs.declared.bounds.Bounds.{Bounds}
use Rattle.table.specs.declared.tally.Tally.{Tally}
use Rattle.table.proofs.Refused.{memory_alone}
use Rattle.table.proofs.Steps.{fails_map}

-- a walk over a block is refused as Memory alone
pub walk_refused : {X Y : Type 0} (e : Fault) (reading : Result X Fault) (total : Result Y Fault) → IsOk reading → FailsOrMemory e reading → FailsOrMemory e total
walk_refused e (Ok x) total ok h = subst (λ (f : Fault). FailsOrMemory f total) (sym (memory_alone e x (Ok x) refl h)) tt
walk_refused e (Err f) total ok h = absurd cc

-- what a first step is refused by, both are
pub first_fails : {X Y : Type 0} (e : Fault) (reading : Result X Fault) (f : X → Result Y Fault) → FailsOrMemory e reading → FailsOrMemory e (reading >>= f)
first_fails e reading f h = fails_map e reading (reading >>= f) (λ same. ap (λ r. r >>= f) same) h

-- the bounds of what was walked over are those of the block
pub walked : {X : Type 0} (view : X → Bounds) (cmp : List ℕ → List ℕ → Ordering) (before : Option (List ℕ)) (so_far : Tally) (r : Result X Fault) (reading : Result (List Entry) Fault) (all ahead : List Entry) → ahead ≡ all → IfOk reading (λ q. all ≡ q)
    → (IsOk reading → EqualOrMemory view r (bounds_reading cmp before so_far ahead)) → IsOk reading → EqualOrMemory view r (reading >>= bounds_reading cmp before so_far)
walked view cmp before so_far r (Ok q) all ahead same is h ok = subst (λ (es : List Entry). EqualOrMemory view r (bounds_reading cmp before so_far es)) (same ∙ is) (h ok)
walked view cmp before so_far r (Err e) all ahead same is h ok = absurd cc
