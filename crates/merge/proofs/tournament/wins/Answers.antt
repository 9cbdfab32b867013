use Rattle.std.proofs.Common.{refl, map}
use Rattle.merge.proofs.Heads.{lower_head_wins, higher_head_loses, one_of_two}
use Rattle.merge.proofs.tournament.wins.Goals as goal

pub returns-then-head-best_head : goal.returns-then-head-best_head
returns-then-head-best_head g c =
    lower_head_wins g.C.Comparator.cmp g.met.C.Comparator.total g.C.Comparator.head_of g.met.C.Comparator.rising (map g.S.Entries.remaining c.args.cursors.now) c.args.best c.args.other c.args.best_head c.args.head c.requires.best_head c.requires.head
    c.if-head-best_head.true c.ranges.best_head.fits

pub returns-then-best_head-head : goal.returns-then-best_head-head
returns-then-best_head-head g c =
    higher_head_loses g.C.Comparator.cmp g.met.C.Comparator.total g.C.Comparator.head_of g.met.C.Comparator.rising (map g.S.Entries.remaining c.args.cursors.now) c.args.best c.args.other c.args.best_head c.args.head c.requires.best_head c.requires.head
    c.if-best_head-head.true c.ranges.head.fits

pub returns : goal.returns
returns g c = one_of_two g.C.Comparator.cmp (map g.S.Entries.remaining c.args.cursors.now) c.args.best c.args.other c.winner.result _ refl c.winner.ensures
