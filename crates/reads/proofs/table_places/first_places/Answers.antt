use Rattle.std.proofs.Common.{◌≡◌, ◌-◌, ◌<◌, ℕ, suc, List, length, refl, sym, subst, arith}
use Rattle.std.specs.BTreeMap.{insert_entry}
use Rattle.std.specs.Ordering.{nat_cmp}
use Rattle.reads.specs.Tables.{NumberedContents}
use Rattle.reads.proofs.Places.{ArePlacesFrom, none_placed, one_placed}
use Rattle.reads.proofs.table_places.first_places.Goals as goal

pub loop-place-init : goal.loop-place-init
loop-place-init g c =
    let tables : List NumberedContents = c.args.tables.now in
    (subst (λ (es : List (ℕ × ℕ)). ArePlacesFrom tables es (length tables)) (sym c.new-places.ensures.empty) (none_placed tables (length tables) refl), omega arith)

pub loop-place-preserved : goal.loop-place-preserved
loop-place-preserved g c =
    let tables : List NumberedContents = c.args.tables.now in
    let before : ℕ = c.loop-place.place in
    let next : before ≡ suc (before - 1) = omega (arith, c.loop-place-test.true) in
    let within : before - 1 < length tables = omega (arith, c.loop-place-test.true, c.loop-place.invariant.1) in
    let placed = one_placed tables c.loop-place.places.entries before (before - 1) c.index-tables-place.result next within c.index-tables-place.is c.loop-place.invariant.0 in
    let numbered = subst (λ (n : ℕ). ArePlacesFrom tables (insert_entry nat_cmp c.loop-place.places.entries n (before - 1)) (before - 1)) (sym c.number.ensures) placed in
    (subst (λ (es : List (ℕ × ℕ)). ArePlacesFrom tables es (before - 1)) (sym c.in_ok-insert.ensures.entries) numbered, omega (arith, c.loop-place.invariant.1))

pub returns-clause-places : goal.returns-clause-places
returns-clause-places g c =
    let at_front : c.loop-place.place ≡ 0 = omega (arith, c.loop-place-test.false) in
    subst (λ (n : ℕ). ArePlacesFrom c.args.tables.now c.loop-place.places.entries n) at_front c.loop-place.invariant.0
