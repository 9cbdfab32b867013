use Rattle.std.proofs.Common.{map, Result, sym, ap, subst, ◌∙◌}
use Rattle.ikey.specs.Answers.{EqualOrMemory}
use Rattle.ikey.specs.fault.Fault.{Fault}
use Rattle.edit.proofs.Binds.{ok_is}
use Rattle.keep.specs.Marks.{CompactionContext, LargestRise}
use Rattle.keep.specs.Runs.{Run, range_run}
use Rattle.c_api.specs.InputTables.{entries_at}
use Rattle.c_api.specs.Merges.{AskedMerge, asked_in, context_at}
use Rattle.c_api.specs.Held.{context_with}
use Rattle.c_api.specs.Ranges.{range_in}
use Rattle.c_api.specs.Requests.{files_of, pointer_of, request_with}
use Rattle.c_api.proofs.Merging.{grandparents_are, pointed, run_is}
use Rattle.c_api.proofs.range_run.passed_run.Goals as goal

pub run_of-requires-clause-listed : goal.run_of-requires-clause-listed
run_of-requires-clause-listed g c =
    let cmp = g.C.Comparator.cmp in
    let m : AskedMerge = asked_in c.args.lent.now in
    let p = pointed cmp m.keys m.request m.snapshots (files_of m.inputs) m.deeper (pointer_of cmp m.keys m.request.level (files_of m.inputs)) c.requires.passed in
    (c.passed_law.ensures (request_with cmp m.keys m.request m.snapshots (files_of m.inputs) m.deeper p.0) p.2).listed

pub run_of-requires-clause-grandparents : goal.run_of-requires-clause-grandparents
run_of-requires-clause-grandparents g c =
    let cmp = g.C.Comparator.cmp in
    let m : AskedMerge = asked_in c.args.lent.now in
    let p = pointed cmp m.keys m.request m.snapshots (files_of m.inputs) m.deeper (pointer_of cmp m.keys m.request.level (files_of m.inputs)) c.requires.passed in
    subst (LargestRise cmp) (grandparents_are cmp m c.in_ok-picked.picked c.in_ok-picked.ensures)
    (c.passed_law.ensures (request_with cmp m.keys m.request m.snapshots (files_of m.inputs) m.deeper p.0) p.2).grandparents

pub returns : goal.returns
returns g c =
    let cmp = g.C.Comparator.cmp in
    let m : AskedMerge = asked_in c.args.lent.now in
    let picked = c.in_ok-picked.picked in
    subst (λ (a : Result Run Fault). EqualOrMemory (λ (r : Run). r) c.run_of.result a)
    (ap (λ (b : CompactionContext). range_run cmp b (map (entries_at cmp m.keys m.tables) m.inputs) (range_in m.keys m.range)) (sym (ok_is (context_at cmp m) (context_with m picked) c.in_ok-picked.ensures))
    ∙ sym (run_is cmp m c.requires.read))
    c.run_of.ensures
