-- A mark that repeats the number of the mark before is never a stop.
use Rattle.std.proofs.Common.{◌≡◌, ℕ, ◌+◌, ◌≤◌, ◌*◌, ◌-◌, Bool, true, false, List, [], ◌∷◌, ◌++◌, refl, sym, ap, subst, ◌∙◌, take, drop, arith}
use Rattle.std.specs.Prelude.{nat_lt, nat_eq, if◌then◌else◌, sum_by, flat_map}
use Rattle.std.specs.List.{AllByRecursion}
use Rattle.std.specs.Cmp.{IsTotalOrder}
use Rattle.std.specs.declared.cmp.Ordering.{Ordering}
use Rattle.block.specs.EncodedEntry.{Entry}
use Rattle.keep.specs.Runs.{joined_run, runs_of}
use Rattle.keep.proofs.ComposedRanges.{ranges_compose_law}
use Rattle.cut.specs.Outputs.{segments, outputs_in, RangesCutLaw}
use Rattle.std.proofs.lemmas.Bool.{eqb-true, both_ways, le-ltb}
use Rattle.std.proofs.lemmas.List.{drop-drop}
use Rattle.std.proofs.lemmas.List.Sums.{sum_by-append}
use Rattle.std.proofs.Math.Seq.{take-add}
use Rattle.keep.specs.meta.FileMeta.{FileMeta}
use Rattle.keep.specs.declared.mark.Mark.{Mark}
use Rattle.keep.specs.Marks.{heads, changes, changes_after}
use Rattle.cut.specs.Stops.{size_between, is_stop, stops_after, stops, AreStops, StopsLaw}

module _ (gs : List FileMeta) (size : ℕ) where
  pub none_between : (n : ℕ) → size_between gs n n ≡ 0
  none_between n = let e : n - n ≡ 0 = omega arith in ap (λ k. sum_by (λ (f : FileMeta). f.size) (take k (drop n gs))) e

  -- the grandparents from one number to before another are no stop
  abbrev is_quiet : ℕ → ℕ → Type 0
  is_quiet since below = nat_lt (10 * size) (size_between gs since below) ≡ false

  quiet_itself : (n : ℕ) → is_quiet n n
  quiet_itself n = ap (nat_lt (10 * size)) (none_between n) ∙ le-ltb (10 * size) 0 (omega arith)

  abbrev SameBehind : List Mark → Type 0
  SameBehind ms = (since below : ℕ) → is_quiet since below → stops_after gs size since (changes_after below ms) ≡ stops_after gs size since ms

  same_by : (m : Mark) (ms : List Mark) (since below : ℕ) (same stop : Bool) → nat_eq m.below below ≡ same → is_stop gs size since m ≡ stop → is_quiet since below → SameBehind ms
      → stops_after gs size since (if same then changes_after below ms else m ∷ changes_after m.below ms)
      ≡ (if stop then m.kept ∷ stops_after gs size m.below ms else stops_after gs size since ms)
  same_by m ms since below true true e s quiet ih =
      absurd (both_ways (nat_lt (10 * size) (size_between gs since below)) quiet (sym (ap (λ k. nat_lt (10 * size) (size_between gs since k)) (eqb-true m.below below e)) ∙ s))
  same_by m ms since below true false e s quiet ih = ih since below quiet
  same_by m ms since below false true e s quiet ih = rw s (ap (λ xs. m.kept ∷ xs) (ih m.below m.below (quiet_itself m.below)))
  same_by m ms since below false false e s quiet ih = rw s (ih since m.below s)

  same_behind : (ms : List Mark) → SameBehind ms
  same_behind [] since below quiet = refl
  same_behind (m ∷ ms) since below quiet = same_by m ms since below (nat_eq m.below below) (is_stop gs size since m) refl refl quiet (same_behind ms)

  pub changes_alone : (ms : List Mark) → stops gs size (changes ms) ≡ stops gs size ms
  changes_alone [] = refl
  changes_alone (m ∷ ms) = same_behind ms m.below m.below (quiet_itself m.below)

  -- ---- stops, as a relation

  none_behind : (since : ℕ) (ms : List Mark) → AllByRecursion (λ m. is_stop gs size since m ≡ false) ms → stops_after gs size since ms ≡ []
  none_behind since [] h = refl
  none_behind since (m ∷ ms) h = rw h.0 (none_behind since ms h.1)

  next_behind : (since : ℕ) (passed : List Mark) (m : Mark) (rest : List Mark) → AllByRecursion (λ e. is_stop gs size since e ≡ false) passed → is_stop gs size since m ≡ true
      → stops_after gs size since (passed ++ m ∷ rest) ≡ m.kept ∷ stops_after gs size m.below rest
  next_behind since [] m rest h s = rw s refl
  next_behind since (p ∷ passed) m rest h s = rw h.0 (next_behind since passed m rest h.1 s)

  are_stops_only : (places : List ℕ) (since : ℕ) (ms : List Mark) → AreStops gs size since ms places → stops_after gs size since ms ≡ places
  are_stops_only [] since ms h = none_behind since ms h
  are_stops_only (place ∷ places) since ms h =
      ap (stops_after gs size since) h.3 ∙ next_behind since h.0 h.1 h.2 h.4 h.5
      ∙ ap (λ k. k ∷ stops_after gs size h.1.below h.2) (sym h.6) ∙ ap (λ ks. place ∷ ks) (are_stops_only places h.1.below h.2 h.7)

  one_more : (places : List ℕ) (since : ℕ) (m : Mark) (ms : List Mark) → is_stop gs size since m ≡ false → AreStops gs size since ms places → AreStops gs size since (m ∷ ms) places
  one_more [] since m ms s h = (s, h)
  one_more (place ∷ places) since m ms s h = (m ∷ h.0, h.1, h.2, ap (λ zs. m ∷ zs) h.3, (s, h.4), h.5, h.6, h.7)

  found_by : (since : ℕ) (m : Mark) (ms : List Mark) (stop : Bool) → is_stop gs size since m ≡ stop → ((n : ℕ) → AreStops gs size n ms (stops_after gs size n ms))
      → AreStops gs size since (m ∷ ms) (if stop then m.kept ∷ stops_after gs size m.below ms else stops_after gs size since ms)
  found_by since m ms true s ih = ([], m, ms, refl, tt, s, refl, ih m.below)
  found_by since m ms false s ih = one_more (stops_after gs size since ms) since m ms s (ih since)

  are_stops_found : (ms : List Mark) (since : ℕ) → AreStops gs size since ms (stops_after gs size since ms)
  are_stops_found [] since = tt
  are_stops_found (m ∷ ms) since = found_by since m ms (is_stop gs size since m) refl (are_stops_found ms)

pub running : (gs : List FileMeta) (first middle last : ℕ) → first ≤ middle → middle ≤ last → size_between gs first last ≡ size_between gs first middle + size_between gs middle last
running gs first middle last h k =
    let size = λ (f : FileMeta). f.size in
    let whole : last - first ≡ (middle - first) + (last - middle) = omega (arith, h, k) in
    let there : first + (middle - first) ≡ middle = omega (arith, h) in
    ap (λ n. sum_by size (take n (drop first gs))) whole
    ∙ ap (sum_by size) (take-add (middle - first) (last - middle) (drop first gs))
    ∙ sum_by-append size (take (middle - first) (drop first gs)) (take (last - middle) (drop (middle - first) (drop first gs)))
    ∙ ap (λ xs. sum_by size (take (middle - first) (drop first gs)) + sum_by size (take (last - middle) xs)) (drop-drop (middle - first) first gs ∙ ap (λ n. drop n gs) there)

pub stops_law : StopsLaw
stops_law = record {
  these = λ gs size since ms places. (are_stops_only gs size places since ms, λ e. subst (AreStops gs size since ms) e (are_stops_found gs size ms since));
  changes_alone = λ gs size ms. changes_alone gs size ms;
  running = running;
}

-- the runs of ranges have the outputs of the union
pub of_ranges : (cmp : List ℕ → List ℕ → Ordering) → IsTotalOrder cmp → RangesCutLaw cmp
of_ranges cmp total b o boundaries union split rises =
    let law = ranges_compose_law cmp total in
    let run = joined_run (runs_of cmp b boundaries union) in
    let cut = λ (places : List ℕ) (es : List Entry). flat_map (outputs_in o) (segments 0 places es) in
    ap (λ places. cut places run.kept)
    (sym (changes_alone b.grandparents o.file_size run.marks) ∙ ap (stops b.grandparents o.file_size) (law.marks b boundaries union split rises) ∙ changes_alone b.grandparents o.file_size (heads cmp b union))
    ∙ ap (cut (stops b.grandparents o.file_size (heads cmp b union))) (law.kept b boundaries union split rises)
