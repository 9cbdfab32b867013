use Rattle.std.proofs.Common.{Vec, Global, ◌≡◌, ℕ, List, Option, None, Ok, IfSome, sym, ap, subst, ◌∙◌}
use Rattle.std.specs.Option.{option_map}
use Rattle.ikey.proofs.Binds.{ok_is}
use Rattle.reads.specs.Tables.{NumberedContents}
use Rattle.checks.specs.HeldTables.{AreFound, AreHeldBy, IsFoundAnswer, held_numbers}
use Rattle.checks.specs.TablePlaces.{place_numbers, wanted_numbers}
use Rattle.checks.proofs.HeldAnswers.{held_in, none_held, placed_held}
use Rattle.checks.proofs.KeptTables.{placed_found, placed_numbers, placed_unfound}
use Rattle.checks.proofs.ToldTables.{had_held, had_kept, places_numbers, tables_had}
use Rattle.checks.proofs.found_tables.read_tables.Goals as goal

abbrev Read : Type 0
Read = Vec NumberedContents Global

abbrev read_items : Read → List NumberedContents
read_items v = v.items

pub returns-in_default-clause-answer : goal.returns-in_default-clause-answer
returns-in_default-clause-answer g c files told =
    let cmp = g.C.Comparator.cmp in
    let tells = g.F.Folder.tells c.args.folder.now in
    let places : List (ℕ × Option NumberedContents) = c.in_ok-places.places.items in
    let wanted : List ℕ = c.deref-2.result.now in
    let wanted_is : wanted_numbers places ≡ wanted = ap wanted_numbers (sym c.deref.ensures.value) ∙ ok_is _ _ c.in_ok-wanted.ensures ∙ sym c.deref-2.ensures.value in
    let none : IsFoundAnswer cmp files wanted (Ok None) =
    subst (λ (o : Option Read). IsFoundAnswer cmp files wanted (Ok (option_map read_items o))) c.in_default.is (c.in_ok-found.ensures.answer files told) in
    subst (λ (ns : List ℕ). IsFoundAnswer cmp files ns (Ok None)) (places_numbers cmp tells places c.args.numbers.now c.in_ok-places.ensures.places)
    (placed_unfound cmp files places (subst (λ (ns : List ℕ). IsFoundAnswer cmp files ns (Ok None)) (sym wanted_is) none))

pub returns-in_default-clause-told : goal.returns-in_default-clause-told
returns-in_default-clause-told g c =
    let cmp = g.C.Comparator.cmp in
    let tells = g.F.Folder.tells c.args.folder.now in
    let places : List (ℕ × Option NumberedContents) = c.in_ok-places.places.items in
    let are = c.in_ok-places.ensures.places in
    let none : AreHeldBy cmp tells c.new.result.items = subst (AreHeldBy cmp tells) (sym c.new.ensures.items) (none_held cmp tells) in
    subst (AreHeldBy cmp tells) (ok_is _ _ c.in_ok-had.ensures ∙ sym c.of.ensures)
    (placed_held cmp tells (tables_had cmp tells places) (had_held cmp tells places c.args.numbers.now are) places c.new.result.items (had_kept cmp tells places c.args.numbers.now are) none)

pub returns-clause-answer : goal.returns-clause-answer
returns-clause-answer g c files told =
    let cmp = g.C.Comparator.cmp in
    let tells = g.F.Folder.tells c.args.folder.now in
    let places : List (ℕ × Option NumberedContents) = c.in_ok-places.places.items in
    let are = c.in_ok-places.ensures.places in
    let had = tables_had cmp tells places in
    let held = had_held cmp tells places c.args.numbers.now are in
    let fresh : List NumberedContents = c.in-Some.fresh.items in
    let wanted : List ℕ = c.deref-2.result.now in
    let wanted_is : wanted_numbers places ≡ wanted = ap wanted_numbers (sym c.deref.ensures.value) ∙ ok_is _ _ c.in_ok-wanted.ensures ∙ sym c.deref-2.ensures.value in
    let found : AreFound cmp files wanted fresh =
    subst (λ (o : Option Read). IsFoundAnswer cmp files wanted (Ok (option_map read_items o))) c.in-Some.is (c.in_ok-found.ensures.answer files told) in
    subst (λ (ns : List ℕ). AreFound cmp files ns c.of-2.result) (places_numbers cmp tells places c.args.numbers.now are)
    (subst (AreFound cmp files (place_numbers places)) (ok_is _ _ c.in_ok-tables.ensures ∙ sym c.of-2.ensures)
    (placed_found had cmp files (held_in cmp tells files told had held) places fresh (had_kept cmp tells places c.args.numbers.now are) (subst (λ (ns : List ℕ). AreFound cmp files ns fresh) (sym wanted_is) found)))

pub returns-clause-numbers : goal.returns-clause-numbers
returns-clause-numbers g c all =
    let cmp = g.C.Comparator.cmp in
    let tells = g.F.Folder.tells c.args.folder.now in
    let places : List (ℕ × Option NumberedContents) = c.in_ok-places.places.items in
    let are = c.in_ok-places.ensures.places in
    let fresh : List NumberedContents = c.in-Some.fresh.items in
    let wanted : List ℕ = c.deref-2.result.now in
    let wanted_is : wanted_numbers places ≡ wanted = ap wanted_numbers (sym c.deref.ensures.value) ∙ ok_is _ _ c.in_ok-wanted.ensures ∙ sym c.deref-2.ensures.value in
    let own : held_numbers fresh ≡ wanted = subst (λ (o : Option Read). IfSome o (λ v. held_numbers v.items ≡ wanted)) c.in-Some.is c.in_ok-found.ensures.numbers in
    ap held_numbers (c.of-2.ensures ∙ sym (ok_is _ _ c.in_ok-tables.ensures))
    ∙ placed_numbers (tables_had cmp tells places) places fresh (had_kept cmp tells places c.args.numbers.now are) (own ∙ sym wanted_is)
    ∙ places_numbers cmp tells places c.args.numbers.now are

pub returns-clause-told : goal.returns-clause-told
returns-clause-told g c =
    let cmp = g.C.Comparator.cmp in
    let tells = g.F.Folder.tells c.args.folder.now in
    let places : List (ℕ × Option NumberedContents) = c.in_ok-places.places.items in
    let are = c.in_ok-places.ensures.places in
    let read : AreHeldBy cmp tells c.in-Some.fresh.items = subst (λ (o : Option Read). IfSome o (λ v. AreHeldBy cmp tells v.items)) c.in-Some.is c.in_ok-found.ensures.told in
    subst (AreHeldBy cmp tells) (ok_is _ _ c.in_ok-tables.ensures ∙ sym c.of-2.ensures)
    (placed_held cmp tells (tables_had cmp tells places) (had_held cmp tells places c.args.numbers.now are) places c.in-Some.fresh.items (had_kept cmp tells places c.args.numbers.now are) read)
