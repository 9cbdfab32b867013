use Rattle.std.proofs.Common.{◌≡◌, ◌+◌, ◌++◌, drop, length, map}
use Rattle.std.specs.List.{sum_by}
use Rattle.merge.specs.MergedLists.{entries_of_lists, merged, sorted_entries}
use Rattle.reads.specs.Ranges.{key_range}
use Rattle.merge.specs.InRange.{entries_in}
use Rattle.scan.specs.ListParts.{in_parts}
use Rattle.scan.proofs.level_merges.level_merges.Given as goal

-- the merges so far, and those of the tables that are left, are all
abbrev pub invariant-loop-files : goal.invariant-loop-files
invariant-loop-files g l =
    let cmp = g.C.Comparator.cmp in
    let range = key_range l.range in
    record {
      left : l.start + sum_by (λ files. length files.items) (drop l.files-index l.levels) ≡ length l.tables;
      all : map (λ lists. entries_in cmp range (merged cmp lists)) l.merges.items
          ++ map (λ lists. sorted_entries cmp (entries_in cmp range (entries_of_lists lists))) (in_parts (drop l.files-index (map (λ files. length files.items) l.levels)) (map (λ t. t.now.entries) (drop l.start l.tables)))
          ≡ map (λ lists. sorted_entries cmp (entries_in cmp range (entries_of_lists lists))) (in_parts (map (λ files. length files.items) l.levels) (map (λ t. t.now.entries) l.tables));
    }
