use Rattle.std.proofs.Common.{List, ℕ, length, map, get_or, ◌≡◌, ◌<◌, subst, sym, ◌∙◌}
use Rattle.std.proofs.lemmas.List.{length-map, get_or_default}
use Rattle.table.specs.EncodedEntry.{Entry}
use Rattle.table.proofs.Walks.{none_valid}
use Rattle.merge.proofs.Leasts.{at_place}
use Rattle.merge.proofs.Tournaments.{none_next, one_next}
use Rattle.merge.proofs.tournament.next_place.Goals as goal

pub returns-then-valid : goal.returns-then-valid
returns-then-valid g c =
    let remaining = g.S.Entries.remaining in
    let cursors = c.args.cursors.now in
    let winners : List ℕ = c.args.winners.now in
    let place = c.in_ok-place.field-0.now in
    let within : 1 < length winners = c.in_ok-place.ensures.lookup.3.0 in
    let root : place ≡ get_or winners 1 0 = c.in_ok-place.ensures.lookup.1 ∙ get_or_default winners 1 place 0 within in
    let inner : place < length cursors = subst (λ n. n < length cursors) (sym root) (subst (λ n. get_or winners 1 0 < n) (length-map cursors remaining) (c.requires.bracket.within 1 within)) in
    one_next g.C.Comparator.cmp g.met.C.Comparator.total (map remaining cursors) winners c.requires place (remaining c.index-cursors-place.result) root
    (at_place remaining cursors place c.index-cursors-place.result inner c.index-cursors-place.is) (c.valid.ensures.some.0 c.if-valid.true)

pub returns-else-valid : goal.returns-else-valid
returns-else-valid g c =
    let remaining = g.S.Entries.remaining in
    let cursors = c.args.cursors.now in
    let winners : List ℕ = c.args.winners.now in
    let place = c.in_ok-place.field-0.now in
    let list : List Entry = remaining c.index-cursors-place.result in
    let within : 1 < length winners = c.in_ok-place.ensures.lookup.3.0 in
    let root : place ≡ get_or winners 1 0 = c.in_ok-place.ensures.lookup.1 ∙ get_or_default winners 1 place 0 within in
    let inner : place < length cursors = subst (λ n. n < length cursors) (sym root) (subst (λ n. get_or winners 1 0 < n) (length-map cursors remaining) (c.requires.bracket.within 1 within)) in
    none_next g.C.Comparator.cmp g.met.C.Comparator.total (map remaining cursors) winners c.requires place list root
    (at_place remaining cursors place c.index-cursors-place.result inner c.index-cursors-place.is) (none_valid c.valid.result list c.valid.ensures.some.1 c.if-valid.false)
