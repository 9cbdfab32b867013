-- What the outputs of a compaction hold.
use Rattle.std.specs.Prelude.{◌≡◌, List, Result, Ok, Err}
use Rattle.edit.specs.Answers.{fault}
use Rattle.edit.specs.fault.Fault.{Fault}
use Rattle.edit.specs.fault.FaultName.TheVariants.{Lawless}
use Rattle.edit.specs.Comparator.{KeyOrder}
use Rattle.keep.specs.EncodedEntry.{Entry}
use Rattle.edit.specs.declared.meta.FileMeta.{FileMeta}
use Rattle.merge.specs.MergedLists.{merged}
use Rattle.merge.specs.Union.{IsUnion}
use Rattle.keep.specs.DropRule.{kept}
use Rattle.keep.specs.Readable.{Readable}

-- The inputs have a union, and the outputs together hold just the entries of it that a compaction
-- keeps. How these are cut into outputs makes no difference.
pub record HoldsKept (cmp : KeyOrder) (r : Readable) (deeper : List FileMeta)
    (inputs outputs : List (List Entry)) : Type 0 where
  pub union : List Entry
  pub is_union : IsUnion cmp inputs union
  pub same : kept cmp r deeper union ≡ merged cmp outputs

-- what the comparison answers: Lawless unless the outputs hold that
abbrev pub IsKeptAnswer : KeyOrder → Readable → List FileMeta → List (List Entry) →
    List (List Entry) → Result (Unit {0}) Fault → Type 0
IsKeptAnswer cmp r deeper inputs outputs (Ok u) = HoldsKept cmp r deeper inputs outputs
IsKeptAnswer cmp r deeper inputs outputs (Err e) = (e ≡ fault Lawless)
    × (HoldsKept cmp r deeper inputs outputs → ⊥)
