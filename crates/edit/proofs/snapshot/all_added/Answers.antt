use Rattle.edit.proofs.Snapshots.{levels_begin, levels_on, levels_end}
use Rattle.edit.proofs.snapshot.all_added.Goals as goal

pub loop-level-init : goal.loop-level-init
loop-level-init g c = levels_begin g.C.Comparator.cmp c.args.files.now c.in_ok-added.added.items c.in_ok-added.ensures.items

pub loop-level-preserved : goal.loop-level-preserved
loop-level-preserved g c =
    rw c.in_ok-push_level.ensures.ok (levels_on g.C.Comparator.cmp c.args.files.now c.loop-level.added.items c.loop-level.level c.loop-level.invariant c.loop-level-test.true)

pub returns-clause-ok : goal.returns-clause-ok
returns-clause-ok g c = levels_end g.C.Comparator.cmp c.args.files.now c.loop-level.added.items c.loop-level.level c.loop-level.invariant c.loop-level-test.false
