use Rattle.std.proofs.Common.{◌≡◌, ◌+◌, drop, fold}
use Rattle.edit.specs.FilePlaces.{file_places_from, with_place}
use Rattle.edit.proofs.file_insertion.insert_each.Given as goal

-- the entries so far, and then the rest; the places count on
abbrev pub invariant-loop-file : goal.invariant-loop-file
invariant-loop-file l =
    (fold with_place l.places.entries (file_places_from l.place (drop l.file-index l.files)) ≡ fold with_place l.fn.places.entries (file_places_from l.first l.files))
    × (l.place ≡ l.first + l.file-index)
