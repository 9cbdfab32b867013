use Rattle.std.proofs.Common.{◌≡◌, ℕ, List, Option, Ok, sym, ap, subst, ◌∙◌}
use Rattle.ikey.proofs.Binds.{ok_is}
use Rattle.reads.specs.Tables.{NumberedContents}
use Rattle.checks.specs.HeldTables.{AreHeldBy, AreHeldIn, IsFoundAnswer, held_if, held_numbers}
use Rattle.checks.specs.TablePlaces.{place_numbers, wanted_numbers, placed_tables}
use Rattle.checks.proofs.HeldAnswers.{placed_held}
use Rattle.checks.proofs.KeptTables.{placed_answer, placed_numbers}
use Rattle.checks.proofs.held_tables.hold_tables.Goals as goal

pub returns-clause-answer : goal.returns-clause-answer
returns-clause-answer g c files told are =
    let cmp = g.C.Comparator.cmp in
    let held : List NumberedContents = c.held.inside.tables.items in
    let places : List (ℕ × Option NumberedContents) = c.in_ok-places.places.items in
    let fresh : List NumberedContents = c.fresh.inside.tables.items in
    let all = c.in_ok-found.found.are_all in
    let tables : List NumberedContents = c.of-tables.result in
    let wanted : List ℕ = c.deref-2.result.now in
    let wanted_is : wanted_numbers places ≡ wanted = ap wanted_numbers (sym c.deref.ensures.value) ∙ ok_is _ _ c.in_ok-wanted.ensures ∙ sym c.deref-2.ensures.value in
    let own : AreHeldIn cmp files held = subst (AreHeldIn cmp files) (sym c.held.view_is) are in
    let placed : placed_tables places fresh ≡ tables = ok_is _ _ c.in_ok-placed_tables.ensures ∙ sym c.of-tables.ensures in
    subst (λ (ns : List ℕ). IsFoundAnswer cmp files ns (Ok (held_if all tables))) c.in_ok-places.ensures.numbers
    (subst (λ (ts : List NumberedContents). IsFoundAnswer cmp files (place_numbers places) (Ok (held_if all ts))) placed
    (placed_answer cmp files held own places fresh all c.in_ok-places.ensures.kept
    (subst (λ (ns : List ℕ). IsFoundAnswer cmp files ns (Ok (held_if all fresh))) (sym wanted_is)
    (subst (λ (ts : List NumberedContents). IsFoundAnswer cmp files wanted (Ok (held_if all ts))) (sym c.fresh.view_is) (c.in_ok-found.ensures.answer files told)))))

pub returns-clause-numbers : goal.returns-clause-numbers
returns-clause-numbers g c all =
    let held : List NumberedContents = c.held.inside.tables.items in
    let places : List (ℕ × Option NumberedContents) = c.in_ok-places.places.items in
    let fresh : List NumberedContents = c.fresh.inside.tables.items in
    let tables : List NumberedContents = c.of-tables.result in
    let wanted : List ℕ = c.deref-2.result.now in
    let wanted_is : wanted_numbers places ≡ wanted = ap wanted_numbers (sym c.deref.ensures.value) ∙ ok_is _ _ c.in_ok-wanted.ensures ∙ sym c.deref-2.ensures.value in
    let placed : placed_tables places fresh ≡ tables = ok_is _ _ c.in_ok-placed_tables.ensures ∙ sym c.of-tables.ensures in
    ap held_numbers (sym placed) ∙ placed_numbers held places fresh c.in_ok-places.ensures.kept (ap held_numbers c.fresh.view_is ∙ c.in_ok-found.ensures.numbers all ∙ sym wanted_is) ∙ c.in_ok-places.ensures.numbers

pub returns-clause-held : goal.returns-clause-held
returns-clause-held g c are =
    let cmp = g.C.Comparator.cmp in
    let tells = g.F.Folder.tells c.args.folder.now in
    let held : List NumberedContents = c.held.inside.tables.items in
    let places : List (ℕ × Option NumberedContents) = c.in_ok-places.places.items in
    let fresh : List NumberedContents = c.fresh.inside.tables.items in
    let own : AreHeldBy cmp tells held = subst (AreHeldBy cmp tells) (sym c.held.view_is) are in
    subst (AreHeldBy cmp tells) (ok_is _ _ c.in_ok-placed_tables.ensures ∙ sym c.of-tables.ensures)
    (placed_held cmp tells held own places fresh c.in_ok-places.ensures.kept (subst (AreHeldBy cmp tells) (sym c.fresh.view_is) c.in_ok-found.ensures.told))
