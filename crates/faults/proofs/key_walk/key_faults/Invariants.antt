use Rattle.std.proofs.Common.{◌≡◌, true, false, length, map}
use Rattle.std.specs.List.{AllByRecursion}
use Rattle.table.specs.EntriesFrom.{NeverFalls}
use Rattle.reads.specs.Ranges.{key_range}
use Rattle.merge.specs.MergedLists.{entries_of_lists}
use Rattle.faults.specs.KeyFaults.{searched_of}
use Rattle.faults.specs.KeyWalk.{AreAllFrom, IsNextUser, misplaced_in}
use Rattle.faults.proofs.KeySteps.{IsWalkedTo}
use Rattle.faults.proofs.key_walk.key_faults.Given as goal

abbrev pub invariant-loop-is_there : goal.invariant-loop-is_there
invariant-loop-is_there g l =
    let cmp = g.C.Comparator.cmp in
    record {
      walked : IsWalkedTo cmp g.met.C.Comparator.total g.met.C.Comparator.exact (key_range l.range) (searched_of l.fn.files.items) l.files.items (map misplaced_in l.faults.items);
      some : l.is_there ≡ true → IsNextUser cmp (key_range l.range).upper (entries_of_lists (map (λ f. f.entries) l.files.items)) l.user.items;
      none : l.is_there ≡ false → AreAllFrom cmp (key_range l.range).upper (entries_of_lists (map (λ f. f.entries) l.files.items));
      ordered : AllByRecursion (NeverFalls cmp) (map (λ f. f.entries) l.files.items);
    }

abbrev pub decreases-loop-is_there : goal.decreases-loop-is_there
decreases-loop-is_there g l = length (searched_of l.files.items)
