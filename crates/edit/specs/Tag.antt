-- The tags of a version edit's fields.
use Rattle.std.specs.Prelude.{ℕ, nat_eq, List, [], ◌∷◌, find, Option}
use Rattle.edit.specs.declared.tag.Tag.{Tag}
use Rattle.edit.specs.declared.tag.Tag.TheVariants.{Comparator, LogNumber, NextFile, LastSequence}
use Rattle.edit.specs.declared.tag.Tag.TheVariants.{Pointer, Deleted, Added, PreviousLog}

-- the number of each tag
abbrev pub tag_number : Tag → ℕ
tag_number Comparator = 1
tag_number LogNumber = 2
tag_number NextFile = 3
tag_number LastSequence = 4
tag_number Pointer = 5
tag_number Deleted = 6
tag_number Added = 7
tag_number PreviousLog = 9

abbrev pub tags : List Tag
tags = Comparator ∷ LogNumber ∷ NextFile ∷ LastSequence ∷ Pointer ∷ Deleted ∷ Added ∷ PreviousLog ∷
    []

-- the tag of a number; None if no tag has it
abbrev pub listed_tag : ℕ → Option Tag
listed_tag number = find (λ tag. nat_eq (tag_number tag) number) tags
