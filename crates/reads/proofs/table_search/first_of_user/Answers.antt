use Rattle.std.proofs.Common.{List, sym, ◌∙◌}
use Rattle.table.specs.EncodedEntry.{Entry}
use Rattle.table.proofs.Walks.{none_valid}
use Rattle.reads.proofs.Sought.{sought_end, sought_other, sought_own}
use Rattle.reads.proofs.ByteTests.{bytes_differ, bytes_same}
use Rattle.reads.proofs.table_search.first_of_user.Goals as goal

pub returns-then-not-valid : goal.returns-then-not-valid
returns-then-not-valid g c es is =
    let cmp = g.C.Comparator.cmp in
    let t = c.args.target.bytes.now in
    let rest : List Entry = c.args.cursor.now in
    sought_end cmp g.met.C.Comparator.total g.met.C.Comparator.exact t c.requires es rest is (none_valid c.valid.result rest c.valid.ensures.some.1 c.if-not-valid.true)

pub returns-then-ne : goal.returns-then-ne
returns-then-ne g c es is =
    let cmp = g.C.Comparator.cmp in
    let t = c.args.target.bytes.now in
    let rest : List Entry = c.args.cursor.now in
    sought_other cmp g.met.C.Comparator.total g.met.C.Comparator.exact t c.requires es rest c.key-key.result.bytes.now is c.valid.ensures.rising c.key-key.ensures
    (λ own. bytes_differ _ _ c.ne.result c.ne.ensures c.if-ne.true (c.user.ensures ∙ own ∙ sym c.user-2.ensures))

pub returns : goal.returns
returns g c es is =
    let cmp = g.C.Comparator.cmp in
    let t = c.args.target.bytes.now in
    let rest : List Entry = c.args.cursor.now in
    let same = bytes_same _ _ c.ne.result c.ne.ensures c.if-ne.false in
    sought_own cmp g.met.C.Comparator.total g.met.C.Comparator.exact t c.requires es rest c.key-key.result.bytes.now c.value.result.now c.sequence.result c.kind.result c.sequence.ensures.value c.kind.ensures is
    c.valid.ensures.rising c.key-key.ensures c.value.ensures (sym c.user.ensures ∙ same ∙ c.user-2.ensures)
