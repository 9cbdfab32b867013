use Rattle.std.proofs.Common.{◌≡◌, ◌+◌, ◌++◌, drop}
use Rattle.edit.specs.FilePlaces.{file_places_from}
use Rattle.edit.proofs.file_insertion.numbered.Given as goal

-- the entries so far, and then the rest; the places count on
abbrev pub invariant-loop-file : goal.invariant-loop-file
invariant-loop-file l = (l.entries.items ++ file_places_from l.place (drop l.file-index l.files) ≡ file_places_from l.first l.files) × (l.place ≡ l.first + l.file-index)
