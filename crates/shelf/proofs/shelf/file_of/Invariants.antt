use Rattle.std.proofs.Common.{◌≡◌, map, drop}
use Rattle.shelf.specs.Shelf.{files_in}
use Rattle.shelf.proofs.shelf.file_of.Given as goal

-- the files that are left hold under the name what all hold
abbrev pub invariant-loop-file : goal.invariant-loop-file
invariant-loop-file l =
    files_in (map (λ f. (f.0.now, f.1.now)) (drop l.file-index l.files)) l.name ≡ files_in (map (λ f. (f.0.now, f.1.now)) l.files) l.name
