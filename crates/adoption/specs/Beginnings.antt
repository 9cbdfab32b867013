-- Lists that begin with others.
use Rattle.std.specs.Prelude.{Bool, false, ◌&&◌, List, [], ◌∷◌}
use Rattle.std.specs.Str.{bytes_eq}
use Rattle.keep.specs.EncodedEntry.{Entry}

-- whether the first of the entries is this one
abbrev pub begins_with : Entry → List Entry → Bool
begins_with e [] = false
begins_with e (f ∷ fs) = bytes_eq f.key e.key && bytes_eq f.value e.value
