use Rattle.folder.specs.Reports.{OnlyReads}
use Rattle.refusals.proofs.stated_tables.unlike_edit.Given as goal

abbrev pub invariant-loop-file : goal.invariant-loop-file
invariant-loop-file g l = OnlyReads g.F.Folder l.fn.folder l.folder
