-- The range before a user key, and the range from it on.
use Rattle.std.specs.Prelude.{◌≡◌, ◌≢◌, ℕ, List}
use Rattle.std.specs.declared.cmp.Ordering.TheVariants.{Less}
use Rattle.block.specs.EncodedEntry.{Entry}
use Rattle.ikey.specs.Bytewise.{bytewise_cmp}
use Rattle.ikey.specs.Key.{user_of}

-- the entry's user key is before this one
abbrev pub IsBefore : List ℕ → Entry → Type 0
IsBefore at e = bytewise_cmp (user_of e.key) at ≡ Less

-- the entry's user key is this one or after it
abbrev pub IsFrom : List ℕ → Entry → Type 0
IsFrom at e = bytewise_cmp (user_of e.key) at ≢ Less
