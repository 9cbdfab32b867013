use Rattle.std.proofs.Common.{List, ℕ, length, map, get_or, ◌<◌, refl, subst}
use Rattle.std.proofs.lemmas.List.{length-map}
use Rattle.table.specs.EncodedEntry.{Entry}
use Rattle.merge.proofs.Leasts.{at_place, first_same}
use Rattle.merge.proofs.Tournaments.{has_root, root_has, one_next}
use Rattle.merge.proofs.tournament.next_cursor.Goals as goal

pub returns-clause-some : goal.returns-clause-some
returns-clause-some g c =
    let cmp = g.C.Comparator.cmp in
    let total = g.met.C.Comparator.total in
    let remaining = g.S.Entries.remaining in
    let cursors = c.args.cursors.now in
    let winners : List ℕ = c.args.winners.now in
    let lists : List (List Entry) = map remaining cursors in
    let within : 1 < length winners = has_root cmp total lists winners c.requires.tournament c.requires.some in
    let inner : get_or winners 1 0 < length cursors = subst (λ n. get_or winners 1 0 < n) (length-map cursors remaining) (c.requires.tournament.bracket.within 1 within) in
    root_has cmp total lists winners c.requires.tournament (get_or winners 1 0) (remaining c.index-cursors-winners.result) refl
    (at_place remaining cursors (get_or winners 1 0) c.index-cursors-winners.result inner c.index-cursors-winners.is) c.requires.some

pub returns-clause-first : goal.returns-clause-first
returns-clause-first g c =
    let cmp = g.C.Comparator.cmp in
    let total = g.met.C.Comparator.total in
    let remaining = g.S.Entries.remaining in
    let cursors = c.args.cursors.now in
    let winners : List ℕ = c.args.winners.now in
    let lists : List (List Entry) = map remaining cursors in
    let list : List Entry = remaining c.index-cursors-winners.result in
    let within : 1 < length winners = has_root cmp total lists winners c.requires.tournament c.requires.some in
    let inner : get_or winners 1 0 < length cursors = subst (λ n. get_or winners 1 0 < n) (length-map cursors remaining) (c.requires.tournament.bracket.within 1 within) in
    let here = at_place remaining cursors (get_or winners 1 0) c.index-cursors-winners.result inner c.index-cursors-winners.is in
    first_same cmp total lists (get_or winners 1 0) list (one_next cmp total lists winners c.requires.tournament (get_or winners 1 0) list refl here (returns-clause-some g c)) here
