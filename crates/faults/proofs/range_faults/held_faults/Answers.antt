use Rattle.std.proofs.Common.{◌≡◌, List, map, sym, ap, ◌∙◌}
use Rattle.std.specs.List.{filter}
use Rattle.table.proofs.Binds.{ok_is}
use Rattle.reads.specs.Ranges.{IsIn, key_range}
use Rattle.reads.specs.Tables.{NumberedContents}
use Rattle.faults.specs.KeyFaults.{FileEntries, is_of, searched_of}
use Rattle.faults.specs.KeyWalk.{misplaced_in}
use Rattle.faults.proofs.FaultAnswers.{ok_weaker}
use Rattle.faults.proofs.RangeEntries.{cursors_same, misplaced_same, table_file}
use Rattle.faults.proofs.range_faults.held_faults.Goals as goal

pub returns-clause-faults : goal.returns-clause-faults
returns-clause-faults g c =
    let cmp = g.C.Comparator.cmp in
    let range = key_range c.args.range in
    let tables : List NumberedContents = c.args.held.now in
    let cursors : List FileEntries = c.in_ok-cursors.cursors.items in
    let same : c.deref.result.now ≡ tables = c.deref.ensures.value ∙ sym (ok_is _ _ c.in_ok-tables.ensures.tables) in
    ok_weaker c.key_faults.result _ _
    (λ v are. misplaced_same cmp (IsIn cmp range) (searched_of cursors) (searched_of (map table_file tables)) (map misplaced_in v.items)
    (λ user within. cursors_same cmp g.met.C.Comparator.total range user within c.deref.result.now cursors c.in_ok-cursors.ensures.cursors ∙ ap (λ (ts : List NumberedContents). filter (is_of user) (searched_of (map table_file ts))) same) are)
    c.key_faults.ensures.faults
