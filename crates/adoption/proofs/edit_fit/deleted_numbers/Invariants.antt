use Rattle.std.proofs.Common.{◌≡◌, ◌++◌, map}
use Rattle.edit.specs.declared.meta.DeletedFile.{DeletedFile}
use Rattle.adoption.proofs.edit_fit.deleted_numbers.Given as goal

-- the numbers so far, and those of the rest
abbrev pub invariant-loop-file : goal.invariant-loop-file
invariant-loop-file l = l.numbers.items ++ map (λ (d : DeletedFile). d.number) l.file-iterator ≡ map (λ (d : DeletedFile). d.number) l.edit.deleted.keys
