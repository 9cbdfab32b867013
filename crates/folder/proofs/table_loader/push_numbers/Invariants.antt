use Rattle.std.proofs.Common.{◌≡◌, ◌++◌, map, take}
use Rattle.folder.proofs.table_loader.push_numbers.Given as goal

abbrev pub invariant-loop-file : goal.invariant-loop-file
invariant-loop-file l = l.numbers.items ≡ l.fn.numbers.items ++ map (λ f. f.now.number) (take l.file-index l.files)
