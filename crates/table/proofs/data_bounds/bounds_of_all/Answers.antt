use Rattle.std.proofs.Common.{◌≡◌, ℕ, ◌+◌, ◌&&◌, Bool, not, List, ◌∷◌, Some, None, Result, sym, ap, subst, ◌∙◌, drop}
use Rattle.std.specs.Ordering.{is_gt}
use Rattle.std.proofs.lemmas.Result.{err_from_is_err_and}
use Rattle.coding.specs.Answers.{FailsOrMemory, ◌>>=◌}
use Rattle.coding.specs.declared.fault.Fault.{Fault}
use Rattle.coding.specs.declared.fault.FaultName.TheVariants.{Index}
use Rattle.coding.proofs.Binds.{done, bind_ok}
use Rattle.ikey.specs.Order.{internal_cmp}
use Rattle.table.specs.TestResult.{test_result}
use Rattle.table.specs.EntryTests.{is_above}
use Rattle.table.specs.BoundsReading.{bounds_reading}
use Rattle.table.specs.TallySteps.{tally_of_none}
use Rattle.table.specs.declared.bounds.Bounds.{Bounds}
use Rattle.table.specs.declared.tally.Tally.{Tally}
use Rattle.table.specs.IndexReading.{IndexEntry, block_in}
use Rattle.table.specs.IndexEntries.{index_entry_of, index_entries_of}
use Rattle.table.specs.declared.indexed_block.IndexedBlock.{IndexedBlock}
use Rattle.table.proofs.Steps.{fails_map, handed_on, next_item, past_end, both_hold, one_fails}
use Rattle.table.proofs.DataSteps.{all_bounds, rest_bounds, stands, blocks_begin, blocks_go_on, blocks_done, first_refused, next_refused}
use Rattle.table.proofs.data_bounds.bounds_of_all.Goals as goal
use Rattle.table.proofs.data_bounds.bounds_of_all.Goals.{then-is_between, else-is_between}

pub returns-in_err-bounds : goal.returns-in_err-bounds
returns-in_err-bounds g c =
    let p = err_from_is_err_and c.from_residual.result c.from_residual.ensures.1 in
    let cmp = g.C.Comparator.cmp in
    let d = c.in_err-bounds.field-0.0 in
    let i : IndexEntry = index_entry_of c.in-Some.first.now in
    let is : List IndexEntry = index_entries_of c.in-Some.others.now in
    let total : Result Bounds Fault = all_bounds cmp (index_entries_of c.args.index.now) in
    let whole : total ≡ all_bounds cmp (i ∷ is) = ap (λ (xs : List IndexedBlock). all_bounds cmp (index_entries_of xs)) c.in-Some.ensures.cases.0 in
    handed_on (λ b. b) c.from_residual.result p.0 d total p.1 p.2
    (fails_map d (block_in i.stored >>= bounds_reading cmp None tally_of_none) total (λ h. whole ∙ first_refused cmp i is d h)
    (subst (λ (t : Tally). FailsOrMemory d (block_in i.stored >>= bounds_reading cmp None t)) c.none.ensures c.in_err-bounds.ensures))

pub loop-entry-init : goal.loop-entry-init
loop-entry-init g c =
    let cmp = g.C.Comparator.cmp in
    let i : IndexEntry = index_entry_of c.in-Some.first.now in
    let is : List IndexEntry = index_entries_of c.in-Some.others.now in
    let y : Bounds = c.in_ok-bounds.bounds in
    let passed : (block_in i.stored >>= bounds_reading cmp None tally_of_none) ≡ done y = subst (λ (t : Tally). (block_in i.stored >>= bounds_reading cmp None t) ≡ done y) c.none.ensures c.in_ok-bounds.ensures in
    let q = bind_ok (block_in i.stored) (bounds_reading cmp None tally_of_none) y passed in
    let whole : all_bounds cmp (index_entries_of c.args.index.now) ≡ all_bounds cmp (i ∷ is) = ap (λ (xs : List IndexedBlock). all_bounds cmp (index_entries_of xs)) c.in-Some.ensures.cases.0 in
    subst (λ (t : Bool). rest_bounds cmp y i.key t is ≡ all_bounds cmp (index_entries_of c.args.index.now)) (sym c.is_between-fits.ensures)
    (blocks_begin cmp i is q.0 y q.1 (stands cmp None tally_of_none q.0 y q.2) ∙ sym whole)

pub returns-in_err-next : goal.returns-in_err-next
returns-in_err-next g c =
    let p = err_from_is_err_and c.from_residual-in_err-next.result c.from_residual-in_err-next.ensures.1 in
    let cmp = g.C.Comparator.cmp in
    let d = c.in_err-next.field-0.0 in
    let x : Bounds = c.loop-entry.bounds in
    let i : IndexEntry = index_entry_of c.entry-item.result in
    let is : List IndexEntry = index_entries_of (drop (c.loop-entry.entry-index + 1) c.in-Some.others.now) in
    let total : Result Bounds Fault = all_bounds cmp (index_entries_of c.args.index.now) in
    let next = next_item c.in-Some.others.now c.loop-entry.entry-index c.entry-item.result c.loop-entry-test.true c.entry-item.is in
    let so_far : rest_bounds cmp x c.loop-entry.below.now c.loop-entry.fits (i ∷ is) ≡ total = sym (ap (λ (xs : List IndexedBlock). rest_bounds cmp x c.loop-entry.below.now c.loop-entry.fits (index_entries_of xs)) next) ∙ c.loop-entry.invariant in
    handed_on (λ b. b) c.from_residual-in_err-next.result p.0 d total p.1 p.2
    (fails_map d (block_in i.stored >>= bounds_reading cmp (Some c.as_key.result.bytes.now) x.tally) total
    (λ h. sym so_far ∙ next_refused cmp x c.loop-entry.below.now c.loop-entry.fits i is d (ap (λ (k : List ℕ). block_in i.stored >>= bounds_reading cmp (Some k) x.tally) (sym c.as_key.ensures) ∙ h)) c.in_err-next.ensures)

pub loop-entry-preserved : goal.loop-entry-preserved
loop-entry-preserved g c =
    let cmp = g.C.Comparator.cmp in
    let below = c.loop-entry.below.now in
    let fits = c.loop-entry.fits in
    let x : Bounds = c.loop-entry.bounds in
    let y : Bounds = c.in_ok-next.next in
    let i : IndexEntry = index_entry_of c.entry-item.result in
    let is : List IndexEntry = index_entries_of (drop (c.loop-entry.entry-index + 1) c.in-Some.others.now) in
    let total : Result Bounds Fault = all_bounds cmp (index_entries_of c.args.index.now) in
    let next = next_item c.in-Some.others.now c.loop-entry.entry-index c.entry-item.result c.loop-entry-test.true c.entry-item.is in
    let so_far : rest_bounds cmp x below fits (i ∷ is) ≡ total = sym (ap (λ (xs : List IndexedBlock). rest_bounds cmp x below fits (index_entries_of xs)) next) ∙ c.loop-entry.invariant in
    let q = bind_ok (block_in i.stored) (bounds_reading cmp (Some x.largest) x.tally) y (ap (λ (k : List ℕ). block_in i.stored >>= bounds_reading cmp (Some k) x.tally) (sym c.as_key.ensures) ∙ c.in_ok-next.ensures) in
    let now : c.if-is_between.fits ≡ (c.is_between.result && fits) =
    elim c.if-is_between.branch [
      | then-is_between w ↦ both_hold c.is_between.result fits c.if-is_between.fits w.if-is_between.true w.fits-is
      | else-is_between w ↦ one_fails c.is_between.result fits c.if-is_between.fits w.if-is_between.false (w.fits-is ∙ w.if-is_between.false)
    ] in
    let tested : c.if-is_between.fits ≡ ((is_above cmp (Some below) y.smallest && not (is_gt (internal_cmp cmp y.largest i.key))) && fits) = now ∙ ap (λ (t : Bool). t && fits) c.is_between.ensures in
    subst (λ (t : Bool). rest_bounds cmp (record { smallest = x.smallest; largest = y.largest; tally = y.tally }) i.key t is ≡ total) (sym tested)
    (blocks_go_on cmp x below fits i is q.0 y q.1 (stands cmp (Some x.largest) x.tally q.0 y q.2) ∙ so_far)

pub returns-then-not-fits : goal.returns-then-not-fits
returns-then-not-fits g c =
    let cmp = g.C.Comparator.cmp in
    let below = c.loop-entry.below.now in
    let fits = c.loop-entry.fits in
    let x : Bounds = c.loop-entry.bounds in
    let none = past_end c.in-Some.others.now c.loop-entry.entry-index c.loop-entry-test.false in
    rw c.of-then-not-fits.ensures
    (sym c.loop-entry.invariant
    ∙ ap (λ (xs : List IndexedBlock). rest_bounds cmp x below fits (index_entries_of xs)) none
    ∙ blocks_done cmp x below fits
    ∙ ap (λ (t : Bool). test_result t Index >>= λ _. done x) c.if-not-fits.true)

pub returns : goal.returns
returns g c =
    let cmp = g.C.Comparator.cmp in
    let below = c.loop-entry.below.now in
    let fits = c.loop-entry.fits in
    let x : Bounds = c.loop-entry.bounds in
    let none = past_end c.in-Some.others.now c.loop-entry.entry-index c.loop-entry-test.false in
    sym c.loop-entry.invariant
    ∙ ap (λ (xs : List IndexedBlock). rest_bounds cmp x below fits (index_entries_of xs)) none
    ∙ blocks_done cmp x below fits
    ∙ ap (λ (t : Bool). test_result t Index >>= λ _. done x) c.if-not-fits.false
