-- How much of the grandparents is passed, by a running sum.
use Rattle.std.proofs.Common.{◌≡◌, ℕ, ◌+◌, ◌-◌, ◌*◌, ◌<◌, ◌≤◌, Bool, true, false, max, cond, List, [], ◌∷◌, ◌++◌, refl, sym, ap, ◌∙◌, append_assoc, subst, take, drop, inl, inr, arith}
use Rattle.std.specs.Prelude.{nat_lt, Option, Some, None, IfSome}
use Rattle.std.specs.Option.{option_map}
use Rattle.std.specs.List.{sum_by}
use Rattle.std.proofs.lemmas.Bool.{cases_lt, ltb-true, ltb-false, lt-ltb, le-ltb}
use Rattle.std.proofs.lemmas.Option.{none-some, same_Some}
use Rattle.keep.specs.meta.FileMeta.{FileMeta}
use Rattle.keep.specs.declared.mark.Mark.{Mark}
use Rattle.cut.specs.declared.stops.Overlap.{Overlap}
use Rattle.cut.specs.declared.stops.Stopping.{Stopping}
use Rattle.cut.specs.Stops.{size_between, is_stop, stops_after}
use Rattle.cut.specs.OverlapStops.{room_left, stops_since, all_stops, HasOverlapRoom, AreCounted}
use Rattle.cut.proofs.RepeatedMarks.{running}

-- the sizes of files together
abbrev pub sizes : List FileMeta → ℕ
sizes files = sum_by (λ (f : FileMeta). f.size) files

-- the room that a limit leaves after i files
abbrev pub IsRoom : List FileMeta → ℕ → ℕ → ℕ → Type 0
IsRoom files limit i room = room + sizes files ≡ limit + sizes (drop i files)

-- ---- the room that is left

left_by : (more : Bool) (x y : ℕ) → cond more None (Some x) ≡ Some y → (more ≡ false) × (x ≡ y)
left_by true x y e = absurd (none-some y e)
left_by false x y e = (refl, same_Some x y e)

none_by : (more : Bool) (x : ℕ) → cond more None (Some x) ≡ None → more ≡ true
none_by true x e = refl
none_by false x e = absurd (none-some x (sym e))

pub some_left : (room passed left : ℕ) → room_left room passed ≡ Some left → left + passed ≡ room
some_left room passed left e =
    let h = left_by (nat_lt room passed) (room - passed) left e in
    omega (arith, ltb-false room passed h.0, h.1)

pub none_left : (room passed : ℕ) → room_left room passed ≡ None → room < passed
none_left room passed e = ltb-true room passed (none_by (nat_lt room passed) (room - passed) e)

-- ---- sizes between numbers, if the last may be below the first

none_behind_it : (gs : List FileMeta) (from to : ℕ) → to ≤ from → size_between gs from to ≡ 0
none_behind_it gs from to le = let e : to - from ≡ 0 = omega (arith, le) in ap (λ (n : ℕ). sizes (take n (drop from gs))) e

at_most : (gs : List FileMeta) (first last further : ℕ) → last ≤ further → size_between gs first last ≤ size_between gs first further
at_most gs first last further le = elim (cases_lt last first) [
  | inl below ↦ omega (arith, none_behind_it gs first last (omega (arith, below)))
  | inr above ↦ omega (arith, running gs first last further above le)
]

to_the_further : (gs : List FileMeta) (first middle last : ℕ) → first ≤ middle → size_between gs first (max middle last) ≡ size_between gs first middle + size_between gs middle last
to_the_further gs first middle last le = elim (cases_lt last middle) [
  | inl below ↦
      let further : max middle last ≡ middle = omega (arith, below) in
      ap (size_between gs first) further ∙ omega (arith, none_behind_it gs middle last (omega (arith, below)))
  | inr above ↦
      let further : max middle last ≡ last = omega (arith, above) in
      ap (size_between gs first) further ∙ running gs first middle last le above
]

-- ---- marks

-- if room is left, there is no stop
pub no_stop : (gs : List FileMeta) (size : ℕ) (o : Overlap) (m : Mark) (left : ℕ) → HasOverlapRoom gs size o → room_left o.room (size_between gs o.counted m.below) ≡ Some left → is_stop gs size o.since m ≡ false
no_stop gs size o m left h e =
    le-ltb (10 * size) (size_between gs o.since m.below)
    (omega (arith, some_left o.room (size_between gs o.counted m.below) left e, h.room, to_the_further gs o.since o.counted m.below h.rises, at_most gs o.since m.below (max o.counted m.below) (omega arith)))

pub counted_further : (gs : List FileMeta) (size : ℕ) (o : Overlap) (below left : ℕ) → HasOverlapRoom gs size o → room_left o.room (size_between gs o.counted below) ≡ Some left
    → HasOverlapRoom gs size (record { since = o.since; counted = max o.counted below; room = left })
counted_further gs size o below left h e = record {
  rises = omega (arith, h.rises);
  room = omega (arith, some_left o.room (size_between gs o.counted below) left e, h.room, to_the_further gs o.since o.counted below h.rises);
}

-- if none is left there is a stop
pub a_stop : (gs : List FileMeta) (size : ℕ) (o : Overlap) (m : Mark) → HasOverlapRoom gs size o → room_left o.room (size_between gs o.counted m.below) ≡ None → is_stop gs size o.since m ≡ true
a_stop gs size o m h e =
    let more = none_left o.room (size_between gs o.counted m.below) e in
    lt-ltb (10 * size) (size_between gs o.since m.below) (elim (cases_lt m.below o.counted) [
      | inl below ↦ absurd (omega (arith, more, none_behind_it gs o.counted m.below (omega (arith, below))))
      | inr above ↦ omega (arith, more, h.room, running gs o.since o.counted m.below h.rises above)
    ])

passes_mark : (gs : List FileMeta) (size since : ℕ) (m : Mark) (rest : List Mark) → is_stop gs size since m ≡ false → stops_after gs size since (m ∷ rest) ≡ stops_after gs size since rest
passes_mark gs size since m rest s = rw s refl

stops_at_mark : (gs : List FileMeta) (size since : ℕ) (m : Mark) (rest : List Mark) → is_stop gs size since m ≡ true → stops_after gs size since (m ∷ rest) ≡ m.kept ∷ stops_after gs size m.below rest
stops_at_mark gs size since m rest s = rw s refl

-- ---- one mark is passed

counted_at : (gs : List FileMeta) (size : ℕ) (s : Stopping) (o : Overlap) → AreCounted gs size s → s.overlap ≡ Some o → HasOverlapRoom gs size o
counted_at gs size s o h is = subst (λ (x : Option Overlap). IfSome x (HasOverlapRoom gs size)) is h

-- what is passed at a number, if `left` bytes of room are left
abbrev pub overlap_at : Overlap → ℕ → ℕ → Overlap
overlap_at o below left = record { since = o.since; counted = max o.counted below; room = left }

abbrev pub next_overlap : List FileMeta → Overlap → ℕ → Option Overlap
next_overlap gs o below = option_map (overlap_at o below) (room_left o.room (size_between gs o.counted below))

mapped_none : (f : ℕ → Overlap) (x : Option ℕ) → option_map f x ≡ None → x ≡ None
mapped_none f None e = refl
mapped_none f (Some left) e = absurd (none-some (f left) (sym e))

mapped_some : (f : ℕ → Overlap) (x : Option ℕ) (o : Overlap) → option_map f x ≡ Some o → (left : ℕ) × (x ≡ Some left) × (f left ≡ o)
mapped_some f None o e = absurd (none-some o e)
mapped_some f (Some left) o e = (left, refl, same_Some (f left) o e)

pub counted_next : (gs : List FileMeta) (size : ℕ) (s : Stopping) (o further : Overlap) (below : ℕ) → AreCounted gs size s → s.overlap ≡ Some o → next_overlap gs o below ≡ Some further → HasOverlapRoom gs size further
counted_next gs size s o further below h is next =
    let found = mapped_some (overlap_at o below) (room_left o.room (size_between gs o.counted below)) further next in
    subst (HasOverlapRoom gs size) found.2 (counted_further gs size o below found.0 (counted_at gs size s o h is) found.1)

pub goes_on : (gs : List FileMeta) (size : ℕ) (s : Stopping) (o further : Overlap) (m : Mark) (rest : List Mark) → AreCounted gs size s → s.overlap ≡ Some o → next_overlap gs o m.below ≡ Some further
    → s.places.items ++ stops_after gs size further.since rest ≡ all_stops gs size s (m ∷ rest)
goes_on gs size s o further m rest h is next =
    let found = mapped_some (overlap_at o m.below) (room_left o.room (size_between gs o.counted m.below)) further next in
    let quiet = no_stop gs size o m found.0 (counted_at gs size s o h is) found.1 in
    ap (λ (x : List ℕ). s.places.items ++ x)
    (ap (λ (p : Overlap). stops_after gs size p.since rest) (sym found.2)
    ∙ sym (passes_mark gs size o.since m rest quiet)
    ∙ ap (λ (p : Option Overlap). stops_since gs size p (m ∷ rest)) (sym is))

pub stops_here : (gs : List FileMeta) (size : ℕ) (s : Stopping) (o fresh : Overlap) (m : Mark) (places : List ℕ) (rest : List Mark) → AreCounted gs size s → s.overlap ≡ Some o → next_overlap gs o m.below ≡ None
    → fresh.since ≡ m.below → places ≡ s.places.items ++ m.kept ∷ []
    → places ++ stops_after gs size fresh.since rest ≡ all_stops gs size s (m ∷ rest)
stops_here gs size s o fresh m places rest h is next since more =
    let none = mapped_none (overlap_at o m.below) (room_left o.room (size_between gs o.counted m.below)) next in
    let stop = a_stop gs size o m (counted_at gs size s o h is) none in
    ap (λ (x : List ℕ). x ++ stops_after gs size fresh.since rest) more
    ∙ append_assoc s.places.items (m.kept ∷ []) (stops_after gs size fresh.since rest)
    ∙ ap (λ (n : ℕ). s.places.items ++ m.kept ∷ stops_after gs size n rest) since
    ∙ ap (λ (x : List ℕ). s.places.items ++ x)
    (sym (stops_at_mark gs size o.since m rest stop) ∙ ap (λ (p : Option Overlap). stops_since gs size p (m ∷ rest)) (sym is))
