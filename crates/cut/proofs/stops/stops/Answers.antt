use Rattle.std.proofs.Common.{◌≡◌, ℕ, ◌+◌, ◌<◌, ◌≤◌, List, [], ◌∷◌, ◌++◌, Ok, length, map, drop, get_or, refl, sym, ap, ◌∙◌, append-nil, arith}
use Rattle.std.specs.Prelude.{Option, Some, None}
use Rattle.std.proofs.lemmas.List.{drop_more, drop_all}
use Rattle.keep.specs.meta.FileMeta.{FileMeta}
use Rattle.keep.specs.declared.mark.Mark.{Mark}
use Rattle.keep.specs.Runs.{Run, joined_marks, moved_mark}
use Rattle.cut.specs.declared.stops.Overlap.{Overlap}
use Rattle.cut.specs.declared.stops.Stopping.{Stopping}
use Rattle.cut.specs.OverlapStops.{stops_since, all_stops}
use Rattle.cut.proofs.stops.stops.Goals as goal

none_since : (gs : List FileMeta) (size : ℕ) (o : Option Overlap) → stops_since gs size o [] ≡ []
none_since gs size None = refl
none_since gs size (Some o) = refl

-- the marks of the next run are passed
next_run : (gs : List FileMeta) (size : ℕ) (old new : Stopping) (runs : List Run) (i passed count : ℕ) (r : Run) (ms : List Mark) → i < length runs → get_or runs i r ≡ r → ms ≡ r.marks → count ≡ length r.kept
    → ((rest : List Mark) → all_stops gs size new rest ≡ all_stops gs size old (map (moved_mark passed) ms ++ rest))
    → all_stops gs size new (joined_marks (passed + count) (drop (i + 1) runs)) ≡ all_stops gs size old (joined_marks passed (drop i runs))
next_run gs size old new runs i passed count r ms lt is marks_are count_is step =
    let behind : List Run = drop (i + 1) runs in
    let front : drop i runs ≡ r ∷ behind = drop_more runs i r lt ∙ ap (λ (x : Run). x ∷ behind) is in
    step (joined_marks (passed + count) behind)
    ∙ ap (λ (xs : List Mark). all_stops gs size old (map (moved_mark passed) xs ++ joined_marks (passed + count) behind)) marks_are
    ∙ ap (λ (n : ℕ). all_stops gs size old (map (moved_mark passed) r.marks ++ joined_marks (passed + n) behind)) count_is
    ∙ sym (ap (λ (rs : List Run). all_stops gs size old (joined_marks passed rs)) front)

-- all marks are passed
all_passed : (gs : List FileMeta) (size : ℕ) (s : Stopping) (runs : List Run) (i passed : ℕ) → length runs ≤ i → all_stops gs size s (joined_marks passed (drop i runs)) ≡ s.places.items
all_passed gs size s runs i passed le =
    let none : drop i runs ≡ [] = drop_all i runs le in
    ap (λ (rs : List Run). all_stops gs size s (joined_marks passed rs)) none
    ∙ ap (λ (xs : List ℕ). s.places.items ++ xs) (none_since gs size s.overlap)
    ∙ append-nil s.places.items

pub loop-run-preserved : goal.loop-run-preserved
loop-run-preserved c =
    let r : Run = c.run-item.result in
    let lt : c.loop-run.run-index < length c.args.runs.now = omega (arith, c.loop-run-test.true) in
    record {
      found =
          next_run c.args.grandparents.now c.args.file_size c.loop-run.found c.pass_all.new.self c.args.runs.now c.loop-run.run-index c.loop-run.passed c.len.result r c.marks.result.now lt (sym c.run-item.is)
          c.marks.ensures c.len.ensures.number c.in_ok-pass_all.ensures.ok
          ∙ c.loop-run.invariant.found;
      counted = c.in_ok-pass_all.ensures.counted;
      few = omega arith;
    }

pub returns : goal.returns
returns c =
    ap Ok (sym c.loop-run.invariant.found ∙ all_passed c.args.grandparents.now c.args.file_size c.loop-run.found c.args.runs.now c.loop-run.run-index c.loop-run.passed (omega (arith, c.loop-run-test.false)))
