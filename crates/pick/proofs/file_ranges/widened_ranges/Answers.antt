use Rattle.std.proofs.Common.{◌≡◌, ◌+◌, ◌++◌, ◌∷◌, [], drop, sym, ap, subst, ◌∙◌, arith}
use Rattle.std.proofs.lemmas.List.{drop_all}
use Rattle.pick.specs.FileRanges.{AreFileRanges}
use Rattle.pick.specs.declared.range.UserRange.{UserRange}
use Rattle.pick.proofs.LevelInputs.{head_lent}
use Rattle.pick.proofs.Lists.{lent}
use Rattle.pick.proofs.PartRanges.{step_rest}
use Rattle.pick.proofs.Widened.{IsWidened, all_widened, first_widened, more_widened, next_widened, same_widened}
use Rattle.pick.proofs.file_ranges.widened_ranges.Goals as goal
use Rattle.pick.proofs.file_ranges.widened_ranges.Goals.{then-overlaps, else-overlaps+in_ok-push}

pub loop-file-init : goal.loop-file-init
loop-file-init g c =
    let first = c.in-Some.first.now in
    rw (c.new-ranges.ensures.items, c.of-range.ensures.smallest, c.of-range.ensures.largest)
    (first_widened g.C.Comparator.cmp g.met.C.Comparator.total (lent c.args.files.now) c.requires.ranges first.now (head_lent c.args.files.now first (sym c.in-Some.ensures.value)) c.requires.order)

pub loop-file-preserved : goal.loop-file-preserved
loop-file-preserved g c =
    let cmp = g.C.Comparator.cmp in
    let total = g.met.C.Comparator.total in
    let files = c.args.files.now in
    let k = c.loop-file.file-index in
    let file = c.file-item.result in
    let ranges = c.loop-file.ranges.items in
    let range = c.loop-file.range in
    let after = lent (drop (k + 1) files) in
    let rest : lent (drop k files) ≡ file.now ∷ after = ap lent (step_rest files k file c.loop-file-test.true c.file-item.is) in
    let so_far : IsWidened cmp total (lent files) ranges range.smallest.now range.largest.now (file.now ∷ after) = subst (IsWidened cmp total (lent files) ranges range.smallest.now range.largest.now) rest c.loop-file.invariant in
    elim c.if-overlaps.branch [
      | then-overlaps w ↦ same_widened cmp total (lent files) ranges c.if-overlaps.ranges.items w.with-range.result.smallest.now c.if-overlaps.range.smallest.now w.with-range.result.largest.now c.if-overlaps.range.largest.now after (ap (λ x. x.items) w.ranges-is)
          (ap (λ (r : UserRange). r.smallest.now) w.range-is) (ap (λ (r : UserRange). r.largest.now) w.range-is)
          (rw (w.with-range.ensures.smallest, w.with-range.ensures.largest) (more_widened cmp total (lent files) ranges range.smallest.now range.largest.now file.now after so_far (sym c.overlaps.ensures ∙ w.if-overlaps.true)))
      | else-overlaps+in_ok-push w ↦ same_widened cmp total (lent files) (ranges ++ range ∷ []) c.if-overlaps.ranges.items w.of-range-else-overlaps.result.smallest.now c.if-overlaps.range.smallest.now w.of-range-else-overlaps.result.largest.now c.if-overlaps.range.largest.now after
          (ap (λ x. x.items) w.ranges-is ∙ w.in_ok-push.ensures.items) (ap (λ (r : UserRange). r.smallest.now) w.range-is) (ap (λ (r : UserRange). r.largest.now) w.range-is)
          (rw (w.of-range-else-overlaps.ensures.smallest, w.of-range-else-overlaps.ensures.largest) (next_widened cmp total (lent files) ranges range file.now after so_far (sym c.overlaps.ensures ∙ w.if-overlaps.false)))
    ]

pub returns-clause-ok : goal.returns-clause-ok
returns-clause-ok g c =
    let cmp = g.C.Comparator.cmp in
    let total = g.met.C.Comparator.total in
    let files = c.args.files.now in
    let k = c.loop-file.file-index in
    let range = c.loop-file.range in
    let ended : lent (drop k files) ≡ [] = ap lent (drop_all k files (omega (arith, c.loop-file-test.false))) in
    subst (AreFileRanges cmp (lent files)) (sym c.in_ok-push-2.ensures.items)
    (all_widened cmp total (lent files) c.loop-file.ranges.items range (subst (IsWidened cmp total (lent files) c.loop-file.ranges.items range.smallest.now range.largest.now) ended c.loop-file.invariant))
