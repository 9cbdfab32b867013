use Rattle.std.proofs.Common.{sym, ◌∙◌}
use Rattle.reads.specs.FileList.{level_file_in}
use Rattle.faults.proofs.OverlapLemmas.{none_from}
use Rattle.faults.proofs.file_faults.push_overlaps.Goals as goal

pub returns-then-is_past-clause-ok : goal.returns-then-is_past-clause-ok
returns-then-is_past-clause-ok g c =
    let now = c.loop-tested in
    now.invariant
    ∙ none_from g.met.C.Comparator.total (level_file_in c.args.file) c.tested-item.result now.tested-index c.args.behind.now c.args.faults.now.items c.loop-tested-test.true c.tested-item.is (c.requires c.if-is_ordered.true) (sym c.is_past.ensures ∙ c.if-is_past.true)
