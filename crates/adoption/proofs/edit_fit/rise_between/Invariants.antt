use Rattle.std.proofs.Common.{◌≡◌, drop}
use Rattle.adoption.specs.EditFit.{rise_between}
use Rattle.adoption.proofs.edit_fit.rise_between.Given as goal

-- the files that are left decide
abbrev pub invariant-loop-file : goal.invariant-loop-file
invariant-loop-file l = rise_between l.low l.high l.files ≡ rise_between l.last l.high (drop l.file-index l.files)
