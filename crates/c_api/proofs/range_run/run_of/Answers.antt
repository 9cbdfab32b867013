use Rattle.std.proofs.Common.{◌≡◌, ℕ, List, map, Result, ap, subst, ◌∙◌}
use Rattle.ikey.specs.Answers.{EqualOrMemory}
use Rattle.ikey.specs.fault.Fault.{Fault}
use Rattle.reads.specs.EncodedEntry.{Entry}
use Rattle.reads.specs.Ranges.{KeyRange, key_range}
use Rattle.keep.specs.Marks.{context_of}
use Rattle.keep.specs.Readable.{floor_of, listed_of}
use Rattle.keep.specs.Runs.{Run, range_run}
use Rattle.keep.proofs.RangeWalks.{run_same}
use Rattle.compact.proofs.RangeAnswers.{map_same}
use Rattle.compact.specs.snapshots.Snapshots.{Snapshots}
use Rattle.c_api.specs.InputTables.{entries_at}
use Rattle.c_api.specs.Merges.{AskedMerge, asked_in}
use Rattle.c_api.specs.Held.{context_with}
use Rattle.c_api.specs.Ranges.{range_in}
use Rattle.c_api.proofs.range_run.run_of.Goals as goal

pub returns : goal.returns
returns g c =
    let cmp = g.C.Comparator.cmp in
    let m : AskedMerge = asked_in c.args.lent.now in
    let picked = c.args.picked.now in
    let cursors : List (List Entry) = c.in_ok-cursors.cursors.items in
    let inputs : List (List Entry) = map (entries_at cmp m.keys m.tables) m.inputs in
    let range : KeyRange = range_in m.keys m.range in
    let here : KeyRange = key_range c.range_of-range.result in
    let listed : c.listed-listed.result.now ≡ listed_of m.snapshots = c.listed-listed.ensures ∙ ap listed_of c.snapshots-snapshots.ensures in
    subst (λ (a : Result Run Fault). EqualOrMemory (λ (r : Run). r) c.merge_range.result a)
    (ap (λ (l : List ℕ). range_run cmp (context_of l c.floor-floor.result picked) (map (λ (es : List Entry). es) cursors) here) listed
    ∙ ap (λ (n : ℕ). range_run cmp (context_of (listed_of m.snapshots) n picked) (map (λ (es : List Entry). es) cursors) here) (c.floor-floor.ensures ∙ ap (λ (s : Snapshots). floor_of s m.request.last_sequence) c.snapshots-snapshots.ensures)
    ∙ ap (λ (ls : List (List Entry)). range_run cmp (context_with m picked) ls here) (map_same cursors)
    ∙ run_same cmp g.met.C.Comparator.total here (context_with m picked) inputs cursors c.in_ok-cursors.ensures.held
    ∙ ap (λ (r : KeyRange). range_run cmp (context_with m picked) inputs r) c.range_of-range.ensures)
    c.merge_range.ensures.run
