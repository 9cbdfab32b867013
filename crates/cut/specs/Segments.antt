-- The outputs of a compaction over the union of its inputs alone, as docs/RULES.md has them under
-- "Where outputs end".
--
-- An output that overlaps many of the grandparents, the files two levels below the compaction,
-- makes its next compaction costly. So the union is cut into segments, and no output has entries of
-- two. The first segment begins with the first entry. After the start of a segment, the next one
-- begins with the first entry of which both hold:
-- (1) Its user key is not that of the entry before it. So all entries of a user key go to one
--     output.
-- (2) The grandparents that were passed since that start have more than MAX_OVERLAP times the
--     maximal file size together. A grandparent is passed if it lies below the entry.
-- All entries of the union count, dropped ones too. What is kept of a segment is then cut by size.
use Rattle.std.specs.Prelude.{◌≡◌, ◌≢◌, ℕ, ◌*◌, ◌<◌, List, [], ◌∷◌, flat_map}
use Rattle.std.specs.List.{AllByRecursion}
use Rattle.ikey.specs.Key.{user_of}
use Rattle.ikey.specs.Comparator.{KeyOrder}
use Rattle.block.specs.EncodedEntry.{Entry}
use Rattle.table.specs.declared.options.Options.{Options}
use Rattle.keep.specs.meta.FileMeta.{FileMeta}
use Rattle.keep.specs.DropRule.{kept}
use Rattle.keep.specs.Marks.{CompactionContext, grandparents_below}
use Rattle.keep.specs.Union.{VersionsRise}
use Rattle.keep.specs.MergedLists.{entries_of_lists}
use Rattle.cut.specs.Outputs.{outputs, outputs_in, AreOutputs}
use Rattle.cut.specs.Stops.{size_between}
use Rattle.cut.specs.declared.stops.TheConstants.{MAX_OVERLAP}

-- An entry begins a segment. `first` began the segment before, and `before` is the last entry of
-- it.
pub record BeginsSegment (cmp : KeyOrder) (grandparents : List FileMeta) (file_size : ℕ)
    (first before e : Entry) : Type 0 where
  pub other : user_of before.key ≢ user_of e.key
  pub passed : MAX_OVERLAP * file_size < size_between grandparents
      (grandparents_below cmp grandparents first.key) (grandparents_below cmp grandparents e.key)

-- In a segment that `first` began, and after `before`: none of these entries begins another
-- segment, and the first of the rest does, if there is a rest.
abbrev pub ReachesNext : KeyOrder → List FileMeta → ℕ → Entry → Entry → List Entry → List Entry →
    Type 0
ReachesNext cmp grandparents file_size first before [] [] = Unit {0}
ReachesNext cmp grandparents file_size first before [] (next ∷ rest) =
    BeginsSegment cmp grandparents file_size first before next
ReachesNext cmp grandparents file_size first before (e ∷ es) rest =
    (BeginsSegment cmp grandparents file_size first before e → ⊥)
    × ReachesNext cmp grandparents file_size first e es rest

-- each list has an entry, and reaches to where the next one begins
abbrev pub EachReachesNext : KeyOrder → List FileMeta → ℕ → List (List Entry) → Type 0
EachReachesNext cmp grandparents file_size [] = Unit {0}
EachReachesNext cmp grandparents file_size ([] ∷ segments) = ⊥
EachReachesNext cmp grandparents file_size ((first ∷ es) ∷ segments) =
    ReachesNext cmp grandparents file_size first first es (entries_of_lists segments)
    × EachReachesNext cmp grandparents file_size segments

-- the lists are the segments of a union
pub record AreSegments (cmp : KeyOrder) (grandparents : List FileMeta) (file_size : ℕ)
    (union : List Entry) (segments : List (List Entry)) : Type 0 where
  pub all : entries_of_lists segments ≡ union
  pub each : EachReachesNext cmp grandparents file_size segments

-- A union has segments, and only these. What is kept of the union is what is kept of each of them.
-- The outputs are those of what is kept of each: of entries in order, the shortest beginnings that
-- may end.
pub record SegmentsLaw (cmp : KeyOrder) : Type 0 where
  pub found : (grandparents : List FileMeta) (file_size : ℕ) (union : List Entry) →
      (segments : List (List Entry)) × AreSegments cmp grandparents file_size union segments
  pub only : (grandparents : List FileMeta) (file_size : ℕ) (union : List Entry)
      (segments others : List (List Entry)) →
      AreSegments cmp grandparents file_size union segments →
      AreSegments cmp grandparents file_size union others →
      segments ≡ others
  pub all_kept : (b : CompactionContext) (file_size : ℕ) (union : List Entry)
      (segments : List (List Entry)) →
      AreSegments cmp b.grandparents file_size union segments →
      kept cmp b.readable b.deeper union
      ≡ flat_map (λ segment. kept cmp b.readable b.deeper segment) segments
  pub all_outputs : (b : CompactionContext) (o : Options) (union : List Entry)
      (segments : List (List Entry)) →
      AreSegments cmp b.grandparents o.file_size union segments →
      outputs cmp b o union
      ≡ flat_map (λ segment. outputs_in o (kept cmp b.readable b.deeper segment)) segments
  pub each_output : (b : CompactionContext) (o : Options) (union : List Entry)
      (segments : List (List Entry)) →
      VersionsRise cmp union → AreSegments cmp b.grandparents o.file_size union segments →
      AllByRecursion
      (λ segment. AreOutputs o (kept cmp b.readable b.deeper segment)
      (outputs_in o (kept cmp b.readable b.deeper segment))) segments
