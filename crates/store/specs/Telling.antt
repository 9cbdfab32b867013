-- Whether to go on after a compaction.
use Rattle.std.specs.Prelude.{Bool, Option, is_some, ◌≡◌}

-- it goes on, as it was told to
abbrev pub IsGoTold : {X : Type 0} → Bool → Option X → Type 0
IsGoTold goes next = goes ≡ is_some next
