-- Overlap stops: where an output ends because it would overlap too much of the grandparents. A
-- later compaction of the output would have to merge the grandparents that it overlaps.
use Rattle.std.specs.Prelude.{◌≡◌, ◌↔◌, ℕ, ◌+◌, ◌-◌, ◌*◌, ◌≤◌, nat_lt, Bool, true, false}
use Rattle.std.specs.Prelude.{if◌then◌else◌, List, [], ◌∷◌, ◌++◌, take, drop}
use Rattle.std.specs.List.{sum_by, AllByRecursion}
use Rattle.keep.specs.meta.FileMeta.{FileMeta}
use Rattle.keep.specs.declared.mark.Mark.{Mark}
use Rattle.keep.specs.Marks.{changes}
use Rattle.cut.specs.declared.stops.TheConstants.{MAX_OVERLAP}

-- the sizes of the grandparents at places `from` to before `to`, together
abbrev pub size_between : List FileMeta → ℕ → ℕ → ℕ
size_between grandparents from to =
    sum_by (λ (f : FileMeta). f.size) (take (to - from) (drop from grandparents))

-- Whether there is a stop at a mark, if `since` grandparents lie below the stop before: those
-- passed since have more than MAX_OVERLAP times the maximal file size together.
abbrev pub is_stop : List FileMeta → ℕ → ℕ → Mark → Bool
is_stop grandparents file_size since m =
    nat_lt (MAX_OVERLAP * file_size) (size_between grandparents since m.below)

-- the stops at the marks after a stop with `since` grandparents below it
abbrev pub stops_after : List FileMeta → ℕ → ℕ → List Mark → List ℕ
stops_after grandparents file_size since [] = []
stops_after grandparents file_size since (m ∷ ms) =
    if is_stop grandparents file_size since m
    then m.kept ∷ stops_after grandparents file_size m.below ms
    else stops_after grandparents file_size since ms

-- The stops of a compaction, each by the number of kept entries before it. A stop is asked at the
-- first entry of each user key, kept or dropped. The count begins at the first entry of all, and
-- anew at each stop. The next stop is the first mark at which the grandparents passed since then
-- have more than MAX_OVERLAP times the maximal file size together.
abbrev pub stops : List FileMeta → ℕ → List Mark → List ℕ
stops grandparents file_size [] = []
stops grandparents file_size (m ∷ ms) = stops_after grandparents file_size m.below ms

-- these are the stops at marks after a stop: each is at the first mark that is one, and after the
-- last no mark is one
abbrev pub AreStops : List FileMeta → ℕ → ℕ → List Mark → List ℕ → Type 0
AreStops grandparents file_size since ms [] =
    AllByRecursion (λ m. is_stop grandparents file_size since m ≡ false) ms
AreStops grandparents file_size since ms (place ∷ places) =
    (passed : List Mark) × (m : Mark) × (rest : List Mark) × (ms ≡ passed ++ m ∷ rest)
    × AllByRecursion (λ earlier. is_stop grandparents file_size since earlier ≡ false) passed
    × (is_stop grandparents file_size since m ≡ true) × (place ≡ m.kept)
    × AreStops grandparents file_size m.below rest places

-- Marks have these stops and no others. A mark that repeats the number of the mark before is never
-- a stop. Sizes add up, so a running sum finds them.
pub record StopsLaw : Type 0 where
  pub these : (grandparents : List FileMeta) (file_size since : ℕ) (ms : List Mark)
      (places : List ℕ) →
      AreStops grandparents file_size since ms places
      ↔ (stops_after grandparents file_size since ms ≡ places)
  pub changes_alone : (grandparents : List FileMeta) (file_size : ℕ) (ms : List Mark) →
      stops grandparents file_size (changes ms) ≡ stops grandparents file_size ms
  pub running : (grandparents : List FileMeta) (from middle to : ℕ) → from ≤ middle → middle ≤ to →
      size_between grandparents from to
      ≡ size_between grandparents from middle + size_between grandparents middle to
