use Rattle.std.proofs.Common.{◌≡◌, ◌+◌, ◌*◌, ◌≤◌, ◌^◌, map, take, drop}
use Rattle.split.specs.Ranges.{key_range}
use Rattle.checks.specs.GroupTest.{AreStatedBy, contents_of_all, counts_of}
use Rattle.checks.proofs.entry_counts.counted_files.Given as goal

-- the tables so far are what the version states, and the rest is still to be counted
abbrev pub invariant-loop-place : goal.invariant-loop-place
invariant-loop-place g l =
    let cmp = g.C.Comparator.cmp in
    let metas = map (λ f. f.now) l.files in
    let tables = contents_of_all l.tables in
    let range = key_range l.range in
    record {
      stated : AreStatedBy cmp l.next (take l.place metas) (take l.place tables);
      all : l.count + counts_of cmp range (drop l.place metas) (drop l.place tables) ≡ counts_of cmp range metas tables;
      small : l.count ≤ l.place * 2 ^ 60;
    }
