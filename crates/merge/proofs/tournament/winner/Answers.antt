use Rattle.std.proofs.Common.{List, map, sym}
use Rattle.table.specs.EncodedEntry.{Entry}
use Rattle.table.proofs.Walks.{none_valid}
use Rattle.merge.proofs.Leasts.{at_place}
use Rattle.merge.proofs.Tournaments.{wins_of_none, none_wins, lesser_wins, greater_loses, lower_wins}
use Rattle.merge.proofs.tournament.winner.Goals as goal

pub returns-then-not-right_has : goal.returns-then-not-right_has
returns-then-not-right_has g c =
    let remaining = g.S.Entries.remaining in
    let more : List Entry = remaining c.index-cursors-other.result in
    wins_of_none g.C.Comparator.cmp g.met.C.Comparator.total (map remaining c.args.cursors.now) c.args.one c.args.other more
    (at_place remaining c.args.cursors.now c.args.other c.index-cursors-other.result c.requires.other c.index-cursors-other.is)
    (none_valid c.valid-right_has.result more c.valid-right_has.ensures.some.1 c.if-not-right_has.true)

pub returns-then-not-left_has : goal.returns-then-not-left_has
returns-then-not-left_has g c =
    let remaining = g.S.Entries.remaining in
    let list : List Entry = remaining c.index-cursors-one.result in
    none_wins g.C.Comparator.cmp g.met.C.Comparator.total (map remaining c.args.cursors.now) c.args.one c.args.other list
    (at_place remaining c.args.cursors.now c.args.one c.index-cursors-one.result c.requires.one c.index-cursors-one.is)
    (none_valid c.valid-left_has.result list c.valid-left_has.ensures.some.1 c.if-not-left_has.true)

pub returns-in-Less : goal.returns-in-Less
returns-in-Less g c =
    let remaining = g.S.Entries.remaining in
    lesser_wins g.C.Comparator.cmp g.met.C.Comparator.total (map remaining c.args.cursors.now) c.args.one c.args.other (remaining c.index-cursors-one.result) (remaining c.index-cursors-other.result)
    c.key-left_key.result.bytes.now c.key-right_key.result.bytes.now
    (at_place remaining c.args.cursors.now c.args.one c.index-cursors-one.result c.requires.one c.index-cursors-one.is)
    (at_place remaining c.args.cursors.now c.args.other c.index-cursors-other.result c.requires.other c.index-cursors-other.is)
    c.key-left_key.ensures c.key-right_key.ensures (sym c.in-Less.ensures.order)

pub returns-in-Greater : goal.returns-in-Greater
returns-in-Greater g c =
    let remaining = g.S.Entries.remaining in
    greater_loses g.C.Comparator.cmp g.met.C.Comparator.total (map remaining c.args.cursors.now) c.args.one c.args.other (remaining c.index-cursors-one.result) (remaining c.index-cursors-other.result)
    c.key-left_key.result.bytes.now c.key-right_key.result.bytes.now
    (at_place remaining c.args.cursors.now c.args.one c.index-cursors-one.result c.requires.one c.index-cursors-one.is)
    (at_place remaining c.args.cursors.now c.args.other c.index-cursors-other.result c.requires.other c.index-cursors-other.is)
    c.key-left_key.ensures c.key-right_key.ensures (sym c.in-Greater.ensures.order)

pub returns-in-Equal : goal.returns-in-Equal
returns-in-Equal g c =
    let remaining = g.S.Entries.remaining in
    lower_wins g.C.Comparator.cmp g.met.C.Comparator.total (map remaining c.args.cursors.now) c.args.one c.args.other (remaining c.index-cursors-one.result) (remaining c.index-cursors-other.result)
    c.key-left_key.result.bytes.now c.key-right_key.result.bytes.now
    (at_place remaining c.args.cursors.now c.args.one c.index-cursors-one.result c.requires.one c.index-cursors-one.is)
    (at_place remaining c.args.cursors.now c.args.other c.index-cursors-other.result c.requires.other c.index-cursors-other.is)
    c.key-left_key.ensures c.key-right_key.ensures c.lower.result (sym c.in-Equal.ensures.order) c.lower.ensures.either c.lower.ensures.one c.lower.ensures.other
