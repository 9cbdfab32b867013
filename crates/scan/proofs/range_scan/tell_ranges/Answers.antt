use Rattle.std.proofs.Common.{Bor, ◌≡◌, ℕ, ◌+◌, ◌-◌, true, List, Ok, length, map, refl, ap, subst, ◌∙◌, inl, inr, arith}
use Rattle.folder.specs.meta.FileMeta.{FileMeta}
use Rattle.folder.proofs.CountLemmas.{steady}
use Rattle.folder.proofs.ReportLemmas.{reads_then}
use Rattle.reads.proofs.Covers.{covers}
use Rattle.reads.specs.Ranges.{key_range}
use Rattle.checks.specs.RangeOrder.{common_of}
use Rattle.checks.proofs.FolderTests.{told_still}
use Rattle.checks.proofs.HeldAnswers.{held_in, held_through}
use Rattle.scan.specs.EntryRows.{file_rows, rows_from}
use Rattle.scan.specs.RowParts.{AreTelling, IsRowPart}
use Rattle.scan.specs.declared.row_limit.RowLimit.{RowLimit}
use Rattle.scan.proofs.RangeSteps.{ranges_begun, ranges_end, ranges_enough, ranges_more}
use Rattle.scan.proofs.ScanAnswers.{stopped_handed}
use Rattle.scan.proofs.Told.{handed_scanned, none_told}
use Rattle.scan.specs.ToldRows.{telling_by}
use Rattle.scan.proofs.range_scan.tell_ranges.Goals as goal

abbrev now_of : Bor FileMeta → FileMeta
now_of f = f.now

pub loop-number-init : goal.loop-number-init
loop-number-init g c = record {
  told = λ files next tables told are own.
      let all : ℕ = length c.args.split.now + 1 in
      let rows = rows_from (file_rows g.C.Comparator.cmp tables (map now_of c.args.rows.standing.now) c.args.rows.at) g.C.Comparator.cmp (key_range c.args.rows.range) c.args.split.now 0 in
      let taker = c.args.taker.now in
      let same : all ≡ all - 0 = omega arith in
      subst (λ (n : ℕ). IsRowPart (telling_by g.T.RowTaker.tells taker taker) (rows all) c.args.rows.limit (rows n) c.args.rows.limit true) same (none_told g.T.RowTaker.tells (rows all) taker taker c.args.rows.limit refl);
  held = λ own. own;
  reads = record { same = λ name held. (λ h. h, λ h. h); calls = refl };
  failures = refl;
}

pub loop-number-preserved : goal.loop-number-preserved
loop-number-preserved g c =
    let cmp = g.C.Comparator.cmp in
    let tells = g.F.Folder.tells in
    let failed = g.F.Folder.failed in
    let telling = g.T.RowTaker.tells in
    let standing : List FileMeta = map now_of c.args.rows.standing.now in
    let boundaries = c.args.split.now in
    let all : ℕ = length boundaries + 1 in
    let now = c.loop-number in
    let n : ℕ = now.number in
    let range = key_range c.args.rows.range in
    let part = key_range c.common_range-part.result in
    let is = c.common_range-part.ensures ∙ ap (common_of cmp range) c.range.ensures.bounds in
    record {
      told = λ files next tables told are own.
          ranges_more cmp tables standing c.args.rows.at range boundaries all telling (rows_from (file_rows cmp tables standing c.args.rows.at) cmp range boundaries 0 all) c.args.taker.now now.taker c.tell_range.new.taker c.args.rows.limit now.left n (now.invariant.told files next tables told are own) part (omega (arith, c.len-number-end.ensures.number)) is c.in-More.less
          (subst (λ (w : RowLimit). AreTelling telling (file_rows cmp tables standing c.args.rows.at part) now.taker now.left c.tell_range.new.taker (Ok w)) c.in-More.is
          (c.in_ok-wanted.ensures.told files next tables (told_still (tells c.args.folder.now) (tells now.folder) files now.invariant.reads.same told) are (held_in g.C.Comparator.cmp (tells c.args.folder.now) files told now.held (now.invariant.held own))));
      held = λ own. held_through g.C.Comparator.cmp (tells c.args.folder.now) (tells now.folder) now.invariant.reads.same now.held c.tell_range.new.held c.in_ok-wanted.ensures.held (now.invariant.held own);
      reads = reads_then now.invariant.reads c.tell_range.ensures.reads;
      failures = steady (failed c.args.folder.now) (failed now.folder) (failed c.tell_range.new.folder) c.in_ok-wanted.wanted c.tell_range.result c.in_ok-wanted.was now.invariant.failures c.tell_range.ensures.device.later c.tell_range.ensures.device.at_once;
    }

pub returns-in_err-wanted-clause-told : goal.returns-in_err-wanted-clause-told
returns-in_err-wanted-clause-told g c files next tables told are own =
    let cmp = g.C.Comparator.cmp in
    let tells = g.F.Folder.tells in
    let telling = g.T.RowTaker.tells in
    let standing : List FileMeta = map now_of c.args.rows.standing.now in
    let boundaries = c.args.split.now in
    let all : ℕ = length boundaries + 1 in
    let now = c.loop-number in
    let range = key_range c.args.rows.range in
    let part = key_range c.common_range-part.result in
    let rows = rows_from (file_rows cmp tables standing c.args.rows.at) cmp range boundaries 0 all in
    let is = c.common_range-part.ensures ∙ ap (common_of cmp range) c.range.ensures.bounds in
    handed_scanned telling rows c.args.taker.now c.tell_range.new.taker c.args.rows.limit c.from_residual.result c.in_err-wanted.field-0.0 c.from_residual.ensures.1
    (ranges_begun cmp tables standing c.args.rows.at range boundaries all telling rows c.args.taker.now now.taker c.tell_range.new.taker c.args.rows.limit now.left now.number (now.invariant.told files next tables told are own) part (omega (arith, c.len-number-end.ensures.number)) is
    (c.in_err-wanted.ensures.told files next tables (told_still (tells c.args.folder.now) (tells now.folder) files now.invariant.reads.same told) are (held_in g.C.Comparator.cmp (tells c.args.folder.now) files told now.held (now.invariant.held own))))

pub returns-in_err-wanted-clause-errors : goal.returns-in_err-wanted-clause-errors
returns-in_err-wanted-clause-errors g c files next tables told are own =
    let tells = g.F.Folder.tells in
    let failed = g.F.Folder.failed in
    let now = c.loop-number in
    stopped_handed (failed c.args.folder.now) (failed now.folder) (failed c.tell_range.new.folder) c.from_residual.result c.in_err-wanted.field-0.0 c.from_residual.ensures.1 (omega (arith, now.invariant.failures)) c.tell_range.ensures.device.later
    (c.in_err-wanted.ensures.errors files next tables (told_still (tells c.args.folder.now) (tells now.folder) files now.invariant.reads.same told) are (held_in g.C.Comparator.cmp (tells c.args.folder.now) files told now.held (now.invariant.held own)))

pub returns-in_default-clause-told : goal.returns-in_default-clause-told
returns-in_default-clause-told g c files next tables told are own =
    let cmp = g.C.Comparator.cmp in
    let tells = g.F.Folder.tells in
    let telling = g.T.RowTaker.tells in
    let standing : List FileMeta = map now_of c.args.rows.standing.now in
    let boundaries = c.args.split.now in
    let all : ℕ = length boundaries + 1 in
    let now = c.loop-number in
    let range = key_range c.args.rows.range in
    let part = key_range c.common_range-part.result in
    let is = c.common_range-part.ensures ∙ ap (common_of cmp range) c.range.ensures.bounds in
    inl
    (ranges_enough cmp tables standing c.args.rows.at range boundaries all telling (rows_from (file_rows cmp tables standing c.args.rows.at) cmp range boundaries 0 all) c.args.taker.now now.taker c.tell_range.new.taker c.args.rows.limit now.left now.number (now.invariant.told files next tables told are own) part (omega (arith, c.len-number-end.ensures.number)) is
    (subst (λ (w : RowLimit). AreTelling telling (file_rows cmp tables standing c.args.rows.at part) now.taker now.left c.tell_range.new.taker (Ok w)) c.in_default.is
    (c.in_ok-wanted.ensures.told files next tables (told_still (tells c.args.folder.now) (tells now.folder) files now.invariant.reads.same told) are (held_in g.C.Comparator.cmp (tells c.args.folder.now) files told now.held (now.invariant.held own)))))

pub returns-clause-told : goal.returns-clause-told
returns-clause-told g c files next tables told are own =
    let cmp = g.C.Comparator.cmp in
    let standing : List FileMeta = map now_of c.args.rows.standing.now in
    let boundaries = c.args.split.now in
    let all : ℕ = length boundaries + 1 in
    let now = c.loop-number in
    let n : ℕ = now.number in
    let range = key_range c.args.rows.range in
    let end : all ≡ n = omega (arith, c.loop-number-test.false, now.auto.number-end, c.len-number-end.ensures.number) in
    inr (now.left, ranges_end cmp tables standing c.args.rows.at range boundaries all g.T.RowTaker.tells (rows_from (file_rows cmp tables standing c.args.rows.at) cmp range boundaries 0 all) c.args.taker.now now.taker now.taker c.args.rows.limit now.left n (now.invariant.told files next tables told are own) end)

pub returns-clause-cover : goal.returns-clause-cover
returns-clause-cover g c = covers g.C.Comparator.cmp (g.met.C.Comparator g.world.𝓛 g.world.𝓜 g.world.𝓡 ((λ s x. x), (λ x. x), (λ x. x), λ x. x)).total c.args.split.now c.len-number-end.ensures.split.rising
