-- A row: a user key and its value.
use Rattle.std.specs.Prelude.{ℕ, List}

pub record Row : Type 0 where
  pub key : List ℕ
  pub value : List ℕ
