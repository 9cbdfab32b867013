use Rattle.std.proofs.Common.{◌+◌, ◌*◌, length, map, get_or, refl}
use Rattle.merge.proofs.Tournaments.{winner_within, bracket_next, left_in, right_in}
use Rattle.merge.proofs.tournament.play.Goals as goal

pub returns-clause-bracket : goal.returns-clause-bracket
returns-clause-bracket g c =
    let number = length c.args.cursors.now in
    let winners = c.args.winners.now in
    let node = c.args.node in
    bracket_next number winners node c.winner.result c.requires.bracket c.requires.some c.requires.within
    (winner_within g.C.Comparator.cmp (map g.S.Entries.remaining c.args.cursors.now) (get_or winners (2 * node) 0) (get_or winners (2 * node + 1) 0) c.winner.result number c.winner.ensures
    (left_in number winners node c.requires.bracket c.requires.within) (right_in number winners node c.requires.bracket c.requires.within))

pub returns-clause-played : goal.returns-clause-played
returns-clause-played g c = record { winner = c.winner.result; wins = c.winner.ensures; noted = refl }
