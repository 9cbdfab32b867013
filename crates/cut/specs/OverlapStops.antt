-- How the stops at marks are found, mark by mark.
use Rattle.std.specs.Prelude.{◌≡◌, ℕ, ◌+◌, ◌-◌, ◌*◌, ◌≤◌, nat_lt, if◌then◌else◌, List, ◌++◌, Option}
use Rattle.std.specs.Prelude.{Some, None, IfSome}
use Rattle.keep.specs.meta.FileMeta.{FileMeta}
use Rattle.keep.specs.declared.mark.Mark.{Mark}
use Rattle.cut.specs.declared.stops.Overlap.{Overlap}
use Rattle.cut.specs.declared.stops.Stopping.{Stopping}
use Rattle.cut.specs.Stops.{size_between, stops, stops_after}
use Rattle.cut.specs.declared.stops.TheConstants.{MAX_OVERLAP}

-- what is left of the room after `passed` bytes; None if they exceed it
abbrev pub room_left : ℕ → ℕ → Option ℕ
room_left room passed = if nat_lt room passed then None else Some (room - passed)

-- the stops at further marks: since the last stop or the first mark, if there is one
abbrev pub stops_since : List FileMeta → ℕ → Option Overlap → List Mark → List ℕ
stops_since grandparents file_size None ms = stops grandparents file_size ms
stops_since grandparents file_size (Some o) ms = stops_after grandparents file_size o.since ms

-- the stops found so far, and those at the marks that are left
abbrev pub all_stops : List FileMeta → ℕ → Stopping → List Mark → List ℕ
all_stops grandparents file_size s rest = s.places.items
    ++ stops_since grandparents file_size s.overlap rest

-- The room is what the counted grandparents leave of MAX_OVERLAP times the maximal file size.
pub record HasOverlapRoom (grandparents : List FileMeta) (file_size : ℕ) (o : Overlap) : Type 0
  where
    pub rises : o.since ≤ o.counted
    pub room : o.room + size_between grandparents o.since o.counted ≡ MAX_OVERLAP * file_size

-- the same, if there is a stop or a first mark
abbrev pub AreCounted : List FileMeta → ℕ → Stopping → Type 0
AreCounted grandparents file_size s = IfSome s.overlap (HasOverlapRoom grandparents file_size)
