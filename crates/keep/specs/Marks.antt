-- How many grandparents lie below the entries of a compaction, and where that number changes.
use Rattle.std.specs.Prelude.{ℕ, ◌+◌, nat_eq, Bool, true, not, if◌then◌else◌, List, [], ◌∷◌}
use Rattle.std.specs.Prelude.{◌++◌, count_by, IsTrue, Option, Some, None}
use Rattle.std.specs.Ordering.{is_lt}
use Rattle.ikey.specs.Order.{internal_cmp}
use Rattle.ikey.specs.Comparator.{KeyOrder}
use Rattle.reads.specs.EncodedEntry.{Entry}
use Rattle.reads.specs.meta.FileMeta.{FileMeta}
use Rattle.pick.specs.PickedInputs.{picked_in}
use Rattle.pick.specs.declared.picked_inputs.Inputs.{Inputs}
use Rattle.keep.specs.declared.mark.Mark.{Mark}
use Rattle.keep.specs.Readable.{Readable}
use Rattle.keep.specs.DropRule.{is_same_user, keeps}
use Rattle.keep.specs.RisesBy.{rises_by}

-- how many grandparents lie below an internal key: their largest keys are below it
abbrev pub grandparents_below : KeyOrder → List FileMeta → List ℕ → ℕ
grandparents_below cmp grandparents key =
    count_by (λ (f : FileMeta). is_lt (internal_cmp cmp f.largest key)) grandparents

-- whether the largest keys of files rise strictly
abbrev pub largest_rise : KeyOrder → List FileMeta → Bool
largest_rise cmp files = rises_by (λ (f g : FileMeta). is_lt (internal_cmp cmp f.largest g.largest))
    files

-- the largest keys of grandparents rise strictly
abbrev pub LargestRise : KeyOrder → List FileMeta → Type 0
LargestRise cmp grandparents = IsTrue (largest_rise cmp grandparents)

-- what the drop rule and the marks need to know: which sequences stay readable, the deeper files,
-- and the grandparents
pub record CompactionContext : Type 0 where
  pub readable : Readable
  pub deeper : List FileMeta
  pub grandparents : List FileMeta

-- that of inputs, if the listed sequences stay readable and all from the floor on
abbrev pub context_of : List ℕ → ℕ → Inputs → CompactionContext
context_of listed floor inputs = record {
  readable = record { listed = listed; floor = floor };
  deeper = (picked_in inputs).deeper;
  grandparents = inputs.grandparents.items;
}

-- whether an entry is the first of its user key, with `before` as the previous one
abbrev pub is_first : Option Entry → Entry → Bool
is_first None e = true
is_first (Some before) e = not (is_same_user before e)

-- A mark at the first entry of each user key, kept or dropped, with `before` as the entry previous
-- to the first, and n kept entries before it.
abbrev pub heads_after : KeyOrder → CompactionContext → Option Entry → ℕ → List Entry → List Mark
heads_after cmp b before n [] = []
heads_after cmp b before n (e ∷ es) =
    let mark : Mark = record { below = grandparents_below cmp b.grandparents e.key; kept = n } in
    (if is_first before e then mark ∷ [] else [])
    ++ heads_after cmp b (Some e) (if keeps cmp b.readable b.deeper before e then n + 1 else n) es

-- a mark at the first entry of each user key, kept or dropped
abbrev pub heads : KeyOrder → CompactionContext → List Entry → List Mark
heads cmp b entries = heads_after cmp b None 0 entries

-- the marks that differ in their number from the mark before, the first being after one with
-- `below`
abbrev pub changes_after : ℕ → List Mark → List Mark
changes_after below [] = []
changes_after below (m ∷ ms) = if nat_eq m.below below then changes_after below ms else m ∷
    changes_after m.below ms

-- the first mark, and each whose number of grandparents differs from that of the mark before
abbrev pub changes : List Mark → List Mark
changes [] = []
changes (m ∷ ms) = m ∷ changes_after m.below ms

-- The marks of entries. One is at the first of all. The others are at the first entry of each user
-- key at which the number of grandparents below differs from that of the user key before.
abbrev pub marks : KeyOrder → CompactionContext → List Entry → List Mark
marks cmp b entries = changes (heads cmp b entries)
