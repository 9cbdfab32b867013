-- What bytes that were checked as a table hold.
use Rattle.std.specs.Prelude.{ℕ, List, []}
use Rattle.std.specs.Result.{result_unwrap_or}
use Rattle.ikey.specs.Comparator.{KeyOrder}
use Rattle.table.specs.TableContents.{Contents, contents_of, contents_reading}

-- what bytes hold as a table; if they are invalid, the bytes without an entry
abbrev pub contents_in : KeyOrder → List ℕ → Contents
contents_in cmp bytes = result_unwrap_or (contents_reading cmp bytes) (contents_of bytes [])
