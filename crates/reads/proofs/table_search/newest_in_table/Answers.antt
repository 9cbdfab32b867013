use Rattle.std.proofs.Common.{◌≡◌, ap, sym, ◌∙◌}
use Rattle.table.specs.EntriesFrom.{entries_from}
use Rattle.ikey.proofs.Binds.{ok_is}
use Rattle.reads.proofs.table_search.newest_in_table.Goals as goal

pub returns-clause-found : goal.returns-clause-found
returns-clause-found g c =
    let cmp = g.C.Comparator.cmp in
    let t = c.args.target.bytes.now in
    let is : c.seek.new.self ≡ entries_from cmp t c.args.table.now.entries = c.in_ok-seek.ensures.ok ∙ ap (entries_from cmp t) (sym (ok_is _ _ c.in_ok-cursor.ensures)) in
    c.first_of_user.ensures c.args.table.now.entries is
