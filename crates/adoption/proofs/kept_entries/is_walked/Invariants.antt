use Rattle.adoption.proofs.KeptLemmas.{IsWalkedTo}
use Rattle.adoption.proofs.kept_entries.is_walked.Given as goal

abbrev pub invariant-loop-place : goal.invariant-loop-place
invariant-loop-place g l = IsWalkedTo l.run.kept (g.M.Entries.remaining l.fn.cursor) l.place (g.M.Entries.remaining l.cursor)
