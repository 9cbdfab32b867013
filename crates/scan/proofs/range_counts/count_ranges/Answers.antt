use Rattle.std.proofs.Common.{◌≡◌, ℕ, ◌+◌, ◌≤◌, List, ◌++◌, drop, length, map, take, refl, sym, ap, subst, ◌∙◌, arith}
use Rattle.std.proofs.lemmas.List.{length-map, take_at}
use Rattle.table.proofs.Binds.{ok_is}
use Rattle.table.proofs.Refusals.{only_memory}
use Rattle.folder.proofs.CountLemmas.{steady}
use Rattle.folder.proofs.ReportLemmas.{reads_then}
use Rattle.reads.proofs.Covers.{covers}
use Rattle.reads.specs.Ranges.{key_range}
use Rattle.checks.proofs.FolderTests.{told_still}
use Rattle.checks.proofs.HeldAnswers.{held_in, held_through}
use Rattle.merge.specs.InRange.{entries_in}
use Rattle.scan.specs.Counts.{AreAmountsCounted, capped_files}
use Rattle.scan.specs.LevelCounts.{lists_of_levels}
use Rattle.scan.specs.declared.amounts.Amounts.{Amounts}
use Rattle.scan.proofs.LevelRanges.{AreCountedTo, levels_counted, levels_room, none_counted, range_counted}
use Rattle.scan.proofs.LevelTables.{metas_of}
use Rattle.scan.proofs.ScanAnswers.{memory_handed, stopped_handed}
use Rattle.scan.proofs.range_counts.count_ranges.Goals as goal

pub returns-in_err-amounts-clause-errors : goal.returns-in_err-amounts-clause-errors
returns-in_err-amounts-clause-errors g c files next tables told are own =
    let failed = g.F.Folder.failed in
    memory_handed (failed c.args.folder.now) (failed c.args.folder.now) c.from_residual.result c.in_err-amounts.field-0.0 c.from_residual.ensures.1 (only_memory c.in_err-amounts.field-0.0 _ (λ no. absurd (cc no)) c.in_err-amounts.ensures)

pub loop-number-init : goal.loop-number-init
loop-number-init g c =
    let is : c.in_ok-amounts.amounts.items ≡ map capped_files (metas_of c.args.levels.now) = sym (ok_is _ _ c.in_ok-amounts.ensures) in
    record {
      number = ap length is ∙ length-map (metas_of c.args.levels.now) capped_files ∙ length-map c.args.levels.now _;
      counted = λ files next tables told are own.
          none_counted g.C.Comparator.cmp c.args.split.now c.args.last (lists_of_levels tables (metas_of c.args.levels.now)) (map capped_files (metas_of c.args.levels.now)) c.in_ok-amounts.amounts.items is;
      held = λ own. own;
      reads = record { same = λ name held. (λ h. h, λ h. h); calls = refl };
      failures = refl;
    }

pub loop-number-preserved : goal.loop-number-preserved
loop-number-preserved g c =
    let cmp = g.C.Comparator.cmp in
    let tells = g.F.Folder.tells in
    let failed = g.F.Folder.failed in
    let now = c.loop-number in
    let n : ℕ = now.number in
    let levels = metas_of c.args.levels.now in
    let low : n ≤ length c.args.split.now = omega (arith, c.loop-number-test.true, c.len-number-end.ensures.number) in
    let total = (g.met.C.Comparator g.world.𝓛 g.world.𝓜 g.world.𝓡 ((λ s x. x), (λ x. x), (λ x. x), λ x. x)).total in
    let range = key_range c.range-range.result in
    let before : List Amounts = now.amounts.items in
    let after : List Amounts = c.count_range.new.amounts in
    let number : length after ≡ length before = omega (arith, c.count_range.auto.amounts, ap length c.deref_mut.ensures.value) in
    let written : take now.amounts.len (after ++ drop (length after) before) ≡ after = take_at after (drop (length after) before) now.amounts.len (omega (arith, number, c.deref_mut.ensures.len, ap length c.deref_mut.ensures.value)) in
    record {
      number = ap length written ∙ number ∙ now.invariant.number;
      counted = λ files next tables told are own.
          let counts = c.in_ok-count_range.ensures.counted files next tables (told_still (tells c.args.folder.now) (tells now.folder) files now.invariant.reads.same told) are (held_in g.C.Comparator.cmp (tells c.args.folder.now) files told now.held (now.invariant.held own)) in
          subst (AreCountedTo cmp c.args.split.now c.args.last (lists_of_levels tables levels) (map capped_files levels) (n + 1)) (sym written)
          (range_counted cmp c.args.split.now c.args.last (lists_of_levels tables levels) (map capped_files levels) (covers cmp total c.args.split.now c.len-number-end.ensures.split.rising) n low range c.range-range.ensures.bounds are.once (levels_room cmp files next levels tables are) before after
          (now.invariant.counted files next tables told are own)
          (subst (λ (old : List Amounts). AreAmountsCounted c.args.last (map (entries_in cmp range) (lists_of_levels tables levels)) old after) c.deref_mut.ensures.value counts));
      held = λ own. held_through g.C.Comparator.cmp (tells c.args.folder.now) (tells now.folder) now.invariant.reads.same now.held c.count_range.new.held c.in_ok-count_range.ensures.held (now.invariant.held own);
      reads = reads_then now.invariant.reads c.count_range.ensures.reads;
      failures = steady (failed c.args.folder.now) (failed now.folder) (failed c.count_range.new.folder) c.in_ok-count_range.field-0 c.count_range.result c.in_ok-count_range.was now.invariant.failures c.count_range.ensures.device.later c.count_range.ensures.device.at_once;
    }

pub returns-in_err-count_range-clause-errors : goal.returns-in_err-count_range-clause-errors
returns-in_err-count_range-clause-errors g c files next tables told are own =
    let tells = g.F.Folder.tells in
    let failed = g.F.Folder.failed in
    let now = c.loop-number in
    stopped_handed (failed c.args.folder.now) (failed now.folder) (failed c.count_range.new.folder) c.from_residual-in_err-count_range.result c.in_err-count_range.field-0.0 c.from_residual-in_err-count_range.ensures.1 (omega (arith, now.invariant.failures)) c.count_range.ensures.device.later
    (c.in_err-count_range.ensures.errors files next tables (told_still (tells c.args.folder.now) (tells now.folder) files now.invariant.reads.same told) are (held_in g.C.Comparator.cmp (tells c.args.folder.now) files told now.held (now.invariant.held own)))

pub returns-clause-counted : goal.returns-clause-counted
returns-clause-counted g c files next tables told are own =
    let cmp = g.C.Comparator.cmp in
    let now = c.loop-number in
    let n : ℕ = now.number in
    let end : length c.args.split.now + 1 ≡ n = omega (arith, c.loop-number-test.false, now.auto.number-end, c.len-number-end.ensures.number) in
    let cover = covers cmp (g.met.C.Comparator g.world.𝓛 g.world.𝓜 g.world.𝓡 ((λ s x. x), (λ x. x), (λ x. x), λ x. x)).total c.args.split.now c.len-number-end.ensures.split.rising in
    levels_counted cmp files next (metas_of c.args.levels.now) tables are c.args.split.now cover c.args.last n now.amounts.items end (now.invariant.counted files next tables told are own)
