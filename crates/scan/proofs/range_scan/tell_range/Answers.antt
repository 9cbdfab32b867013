use Rattle.std.proofs.Common.{Bor, ℕ, true, List, [], map, None, Ok, refl, sym, ap, subst, ◌∙◌, inr, arith}
use Rattle.std.specs.Prelude.{filter}
use Rattle.table.proofs.Binds.{ok_is}
use Rattle.table.proofs.Refusals.{only_memory}
use Rattle.block.specs.EncodedEntry.{Entry}
use Rattle.merge.specs.MergedLists.{entries_of_lists, sorted_entries}
use Rattle.reads.specs.Ranges.{key_range}
use Rattle.folder.specs.meta.FileMeta.{FileMeta}
use Rattle.reads.specs.TableOrder.{lists_of_files}
use Rattle.reads.specs.Tables.{NumberedContents}
use Rattle.checks.specs.HeldTables.{AreFound, IsFoundAnswer}
use Rattle.checks.specs.NeededFiles.{is_file_needed}
use Rattle.checks.proofs.FileTables.{lent_numbers}
use Rattle.checks.proofs.FoundTables.{held_found, held_unfound}
use Rattle.scan.specs.Row.{Row}
use Rattle.scan.specs.EntryRows.{file_rows, rows_after}
use Rattle.scan.specs.RowParts.{AreTelling, IsRowPart}
use Rattle.scan.proofs.ScanAnswers.{found_rows, memory_handed, memory_stopped, never_unfound, stopped_or}
use Rattle.scan.proofs.Told.{handed_begun, none_told, refused_first}
use Rattle.scan.specs.ToldRows.{telling_by}
use Rattle.scan.proofs.range_scan.tell_range.Goals as goal

abbrev now_of : Bor FileMeta → FileMeta
now_of f = f.now

pub returns-then-is_over-clause-told : goal.returns-then-is_over-clause-told
returns-then-is_over-clause-told g c files next tables told are own =
    let rows = file_rows g.C.Comparator.cmp tables (map now_of c.args.rows.standing.now) c.args.rows.at (key_range c.args.rows.range) in
    record {
      untold = rows;
      left = c.args.rows.limit;
      goes = true;
      part = none_told g.T.RowTaker.tells rows c.args.taker.now c.args.taker.now c.args.rows.limit refl;
      ended = inr (c.is_done-is_over.ensures.done c.if-is_over.true);
    }

pub returns-then-is_none-clause-told : goal.returns-then-is_none-clause-told
returns-then-is_none-clause-told g c files next tables told are own =
    let cmp = g.C.Comparator.cmp in
    let tells = g.T.RowTaker.tells in
    let at : ℕ = c.args.rows.at in
    let taker = c.args.taker.now in
    let none = c.is_empty-is_none.ensures c.if-is_none.true (entries_of_lists (lists_of_files tables (map now_of c.args.rows.standing.now))) in (
      c.is_done-is_over.ensures.wanted c.if-is_over.false,
      subst (λ (rs : List Row). IsRowPart (telling_by tells taker taker) rs c.args.rows.limit [] c.args.rows.limit true) (sym (ap (λ (es : List Entry). rows_after at None (sorted_entries cmp es)) none)) (none_told tells [] taker taker c.args.rows.limit refl),
    )

pub returns-in_err-needed-clause-told : goal.returns-in_err-needed-clause-told
returns-in_err-needed-clause-told g c files next tables told are own =
    let tells = g.T.RowTaker.tells in
    let rows = file_rows g.C.Comparator.cmp tables (map now_of c.args.rows.standing.now) c.args.rows.at (key_range c.args.rows.range) in
    handed_begun tells rows c.args.taker.now c.args.taker.now c.args.rows.limit c.from_residual.result c.in_err-needed.field-0.0 c.from_residual.ensures.1 (refused_first tells rows c.args.taker.now c.args.taker.now c.args.rows.limit refl)

pub returns-in_err-needed-clause-errors : goal.returns-in_err-needed-clause-errors
returns-in_err-needed-clause-errors g c files next tables told are own =
    let failed = g.F.Folder.failed in
    memory_handed (failed c.args.folder.now) (failed c.args.folder.now) c.from_residual.result c.in_err-needed.field-0.0 c.from_residual.ensures.1 c.in_err-needed.ensures.memory

pub returns-in_err-numbers-clause-told : goal.returns-in_err-numbers-clause-told
returns-in_err-numbers-clause-told g c files next tables told are own =
    let tells = g.T.RowTaker.tells in
    let rows = file_rows g.C.Comparator.cmp tables (map now_of c.args.rows.standing.now) c.args.rows.at (key_range c.args.rows.range) in
    handed_begun tells rows c.args.taker.now c.args.taker.now c.args.rows.limit c.from_residual-in_err-numbers.result c.in_err-numbers.field-0.0 c.from_residual-in_err-numbers.ensures.1 (refused_first tells rows c.args.taker.now c.args.taker.now c.args.rows.limit refl)

pub returns-in_err-numbers-clause-errors : goal.returns-in_err-numbers-clause-errors
returns-in_err-numbers-clause-errors g c files next tables told are own =
    let failed = g.F.Folder.failed in
    memory_handed (failed c.args.folder.now) (failed c.args.folder.now) c.from_residual-in_err-numbers.result c.in_err-numbers.field-0.0 c.from_residual-in_err-numbers.ensures.1 (only_memory c.in_err-numbers.field-0.0 _ (λ no. absurd (cc no)) c.in_err-numbers.ensures)

pub returns-in_err-is_held-clause-told : goal.returns-in_err-is_held-clause-told
returns-in_err-is_held-clause-told g c files next tables told are own =
    let tells = g.T.RowTaker.tells in
    let rows = file_rows g.C.Comparator.cmp tables (map now_of c.args.rows.standing.now) c.args.rows.at (key_range c.args.rows.range) in
    handed_begun tells rows c.args.taker.now c.args.taker.now c.args.rows.limit c.from_residual-in_err-is_held.result c.in_err-is_held.field-0.0 c.from_residual-in_err-is_held.ensures.1 (refused_first tells rows c.args.taker.now c.args.taker.now c.args.rows.limit refl)

pub returns-in_err-is_held-clause-errors : goal.returns-in_err-is_held-clause-errors
returns-in_err-is_held-clause-errors g c files next tables told are own =
    let cmp = g.C.Comparator.cmp in
    let failed = g.F.Folder.failed in
    stopped_or (failed c.args.folder.now) (failed c.args.folder.now) (failed c.hold_next.new.folder) c.from_residual-in_err-is_held.result c.in_err-is_held.field-0.0 c.from_residual-in_err-is_held.ensures.1 (omega arith) c.hold_next.ensures.device.later (c.in_err-is_held.ensures.answer files told own)

pub returns-then-not-is_held-clause-told : goal.returns-then-not-is_held-clause-told
returns-then-not-is_held-clause-told g c files next tables told are own =
    absurd
    (let cmp = g.C.Comparator.cmp in
    let range = key_range c.args.rows.range in
    let standing : List FileMeta = map now_of c.args.rows.standing.now in
    let needed : List FileMeta = filter (is_file_needed cmp range) standing in
    let numbers : List ℕ = c.deref-2.result.now in
    let same = lent_numbers c.deref.result.now c.in_ok-needed.needed.items needed numbers c.deref.ensures.value c.in_ok-needed.ensures.needed (ok_is _ _ c.in_ok-numbers.ensures ∙ sym c.deref-2.ensures.value) in
    let none : IsFoundAnswer cmp files numbers (Ok None) = held_unfound cmp files numbers c.in_ok-is_held.is_held c.hold_next.new.held c.if-not-is_held.true (c.in_ok-is_held.ensures.answer files told own) in
    never_unfound cmp (g.met.C.Comparator g.world.𝓛 g.world.𝓜 g.world.𝓡 ((λ s x. x), (λ x. x), (λ x. x), λ x. x)).total files next standing tables are range (subst (λ (ns : List ℕ). IsFoundAnswer cmp files ns (Ok None)) same none))

pub returns-then-not-is_held-clause-errors : goal.returns-then-not-is_held-clause-errors
returns-then-not-is_held-clause-errors g c files next tables told are own =
    absurd
    (let cmp = g.C.Comparator.cmp in
    let range = key_range c.args.rows.range in
    let standing : List FileMeta = map now_of c.args.rows.standing.now in
    let needed : List FileMeta = filter (is_file_needed cmp range) standing in
    let numbers : List ℕ = c.deref-2.result.now in
    let same = lent_numbers c.deref.result.now c.in_ok-needed.needed.items needed numbers c.deref.ensures.value c.in_ok-needed.ensures.needed (ok_is _ _ c.in_ok-numbers.ensures ∙ sym c.deref-2.ensures.value) in
    let none : IsFoundAnswer cmp files numbers (Ok None) = held_unfound cmp files numbers c.in_ok-is_held.is_held c.hold_next.new.held c.if-not-is_held.true (c.in_ok-is_held.ensures.answer files told own) in
    never_unfound cmp (g.met.C.Comparator g.world.𝓛 g.world.𝓜 g.world.𝓡 ((λ s x. x), (λ x. x), (λ x. x), λ x. x)).total files next standing tables are range (subst (λ (ns : List ℕ). IsFoundAnswer cmp files ns (Ok None)) same none))

pub returns-clause-told : goal.returns-clause-told
returns-clause-told g c files next tables told are own =
    let cmp = g.C.Comparator.cmp in
    let range = key_range c.args.rows.range in
    let standing : List FileMeta = map now_of c.args.rows.standing.now in
    let needed : List FileMeta = filter (is_file_needed cmp range) standing in
    let numbers : List ℕ = c.deref-2.result.now in
    let held : List NumberedContents = c.hold_next.new.held in
    let same = lent_numbers c.deref.result.now c.in_ok-needed.needed.items needed numbers c.deref.ensures.value c.in_ok-needed.ensures.needed (ok_is _ _ c.in_ok-numbers.ensures ∙ sym c.deref-2.ensures.value) in
    let found : AreFound cmp files numbers held = held_found cmp files numbers c.in_ok-is_held.is_held held c.if-not-is_held.false (c.in_ok-is_held.ensures.answer files told own) in
    subst (λ (rs : List Row). AreTelling g.T.RowTaker.tells rs c.args.taker.now c.args.rows.limit c.tell_held.new.taker c.tell_held.result)
    (found_rows cmp (g.met.C.Comparator g.world.𝓛 g.world.𝓜 g.world.𝓡 ((λ s x. x), (λ x. x), (λ x. x), λ x. x)).total files next standing tables are range held (subst (λ (ns : List ℕ). AreFound cmp files ns held) same found) c.args.rows.at) c.tell_held.ensures.told

pub returns-clause-errors : goal.returns-clause-errors
returns-clause-errors g c files next tables told are own =
    let failed = g.F.Folder.failed in
    memory_stopped (failed c.args.folder.now) (failed c.hold_next.new.folder) c.tell_held.result c.tell_held.ensures.memory
