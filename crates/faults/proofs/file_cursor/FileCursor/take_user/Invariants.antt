use Rattle.std.proofs.Common.{◌≡◌, ◌++◌, List, length}
use Rattle.faults.specs.KeyFaults.{SearchedEntry, searched_in}
use Rattle.faults.specs.KeyWalk.{after_user, break_of, with_user}
use Rattle.faults.proofs.file_cursor.FileCursor.take_user.Given as goal

-- the entries so far were taken off
abbrev pub invariant-loop-self : goal.invariant-loop-self
invariant-loop-self g l = record {
  order : (rest : List SearchedEntry) → break_of l.order (searched_in (with_user l.user l.self) ++ rest) ≡ break_of l.initial.order (searched_in (with_user l.user l.initial.self) ++ rest);
  rest : after_user l.user l.self ≡ after_user l.user l.initial.self;
}

abbrev pub decreases-loop-self : goal.decreases-loop-self
decreases-loop-self g l = length l.self.entries
