-- A table that was read, as its number and its bytes.
use Rattle.std.specs.Prelude.{ℕ, List}
use Rattle.std.specs.Global.{Vec}

abbrev pub lent_table : ℕ × Vec ℕ → ℕ × List ℕ
lent_table t = (t.0, t.1.items)
