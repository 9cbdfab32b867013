use Rattle.std.proofs.Common.{List, ℕ, [], length, map, get_or, ◌<◌, refl}
use Rattle.table.specs.EncodedEntry.{Entry}
use Rattle.merge.proofs.Tournaments.{has_root, root_has, one_next, stands_at}
use Rattle.merge.proofs.tournament.first_place.Goals as goal

pub returns : goal.returns
returns g c =
    let cmp = g.C.Comparator.cmp in
    let total = g.met.C.Comparator.total in
    let winners : List ℕ = c.args.winners.now in
    let lists : List (List Entry) = map g.S.Entries.remaining c.args.cursors.now in
    let root : ℕ = get_or winners 1 0 in
    let within : 1 < length winners = has_root cmp total lists winners c.requires.tournament c.requires.some in
    let here = stands_at lists root (c.requires.tournament.bracket.within 1 within) in
    one_next cmp total lists winners c.requires.tournament root (get_or lists root []) refl here
    (root_has cmp total lists winners c.requires.tournament root (get_or lists root []) refl here c.requires.some)
