use Rattle.std.proofs.Common.{List, ap, ◌∙◌}
use Rattle.table.specs.EncodedEntry.{Entry}
use Rattle.table.proofs.Walks.{none_valid}
use Rattle.merge.proofs.Heads.{head_of_first, head_of_none}
use Rattle.merge.proofs.tournament.first_head.Goals as goal

pub returns-then-not-valid-clause-head : goal.returns-then-not-valid-clause-head
returns-then-not-valid-clause-head g c =
    let list : List Entry = g.S.Entries.remaining c.args.cursor.now in
    head_of_none g.C.Comparator.head_of list (none_valid c.valid.result list c.valid.ensures.some.1 c.if-not-valid.true)

pub returns-clause-head : goal.returns-clause-head
returns-clause-head g c =
    head_of_first g.C.Comparator.head_of (g.S.Entries.remaining c.args.cursor.now) c.key.result.bytes.now c.head.result c.key.ensures (c.head.ensures ∙ ap g.C.Comparator.head_of c.user.ensures)
