use Rattle.std.proofs.Common.{subst, List, ℕ}
use Rattle.table.specs.SoundTables.{IsCheckedTable}
use Rattle.table.proofs.OwnedTables.{own_bytes}
use Rattle.table.proofs.owned_table.checked_bounds.Goals as goal

pub returns-clause-ok : goal.returns-clause-ok
returns-clause-ok g c =
    let cmp = g.C.Comparator.cmp in
    subst (λ (bytes : List ℕ). IsCheckedTable cmp bytes c.into_bounds.result)
    (own_bytes cmp c.args.bytes.now c.in_ok-table.table c.in_ok-table.ensures.exact) c.into_bounds.ensures
