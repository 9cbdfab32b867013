use Rattle.std.proofs.Common.{◌≡◌, ℕ, List, map, sym, ap, subst, ◌∙◌}
use Rattle.std.specs.List.Sorted.{IsStrictlyIncreasing}
use Rattle.ikey.specs.Answers.{EqualOrMemory}
use Rattle.table.specs.EncodedEntry.{Entry}
use Rattle.keep.specs.Marks.{CompactionContext, context_of}
use Rattle.keep.specs.Readable.{listed_of}
use Rattle.compact.specs.Request.{RequestView, request_in, below_request}
use Rattle.compact.specs.RangeMerges.{by_workers, runs_reading}
use Rattle.compact.proofs.Joined.{runs_merged, runs_refused}
use Rattle.compact.proofs.compaction.merge_tested.Goals as goal

pub merge_ranges-requires-clause-listed : goal.merge_ranges-requires-clause-listed
merge_ranges-requires-clause-listed g c κs within =
    subst IsStrictlyIncreasing (sym c.listed-listed.ensures) (c.passed_law.ensures (request_in c.args.request.now) c.requires.tested).listed

pub merge_ranges-requires-clause-grandparents : goal.merge_ranges-requires-clause-grandparents
merge_ranges-requires-clause-grandparents g c κs within = (c.passed_law.ensures (request_in c.args.request.now) c.requires.tested).grandparents

pub returns : goal.returns
returns g c =
    let cmp = g.C.Comparator.cmp in
    let short_keys = g.C.Comparator.short_keys in
    let r : RequestView = request_in c.args.request.now in
    let inputs : List (List Entry) = map (λ t. t.entries) c.args.tables.now in
    let below : CompactionContext = context_of c.listed-listed.result.now c.floor-floor.result c.args.request.now.picked.now in
    let same : below ≡ below_request r =
    ap (λ (l : List ℕ). context_of l c.floor-floor.result c.args.request.now.picked.now) c.listed-listed.ensures
    ∙ ap (λ (n : ℕ). context_of (listed_of c.args.request.now.snapshots) n c.args.request.now.picked.now) c.floor-floor.ensures in
    let merged = subst (λ (b : CompactionContext). EqualOrMemory (λ v. v.items) c.merge_ranges.result (by_workers c.args.workers (runs_reading cmp b c.args.split.now inputs))) same c.merge_ranges.ensures in
    record {
      merged = runs_merged cmp short_keys r inputs c.args.workers c.requires.some c.requires.limited c.requires.tested c.requires.read c.args.split.now (λ v. v.items)
          c.distinct_law.ensures c.ranges_cut.ensures c.split_law.ensures c.merge_ranges.result merged;
      refused = runs_refused cmp short_keys r inputs c.args.workers c.requires.some c.requires.limited c.requires.tested c.requires.read c.args.split.now (λ v. v.items) c.merge_ranges.result merged;
    }
