use Rattle.checks.proofs.table_bounds.is_settled.Goals as goal

pub returns : goal.returns
returns g c told = record {
  falling = c.falls_alone.ensures c.if-not-falls_alone.false;
  below = c.are_newer.ensures c.if-not-are_newer.false;
  above = c.is_newer.ensures told;
}
