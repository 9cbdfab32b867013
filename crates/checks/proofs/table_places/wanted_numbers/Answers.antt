use Rattle.std.proofs.Common.{◌≡◌, ◌++◌, ℕ, List, Vec, Global, Option, sym, ap, ◌∙◌}
use Rattle.std.specs.Option.{option_to_list}
use Rattle.std.proofs.lemmas.List.{append-nil}
use Rattle.checks.proofs.KeptTables.{wanted_more}
use Rattle.checks.proofs.table_places.wanted_numbers.Goals as goal
use Rattle.checks.proofs.table_places.wanted_numbers.Goals.{in-Some+in_ok-push, in_default}

pub loop-place-preserved : goal.loop-place-preserved
loop-place-preserved g c =
    let items : Vec ℕ Global → List ℕ = λ v. v.items in
    let before : List ℕ = c.loop-place.wanted.items in
    let more : c.match-wanted.wanted.items ≡ before ++ option_to_list c.wanted.result =
    elim c.match-wanted.branch [
      | in-Some+in_ok-push w ↦ ap items w.wanted-is ∙ w.in_ok-push.ensures.items ∙ ap (λ (o : Option ℕ). before ++ option_to_list o) (sym w.in-Some.is)
      | in_default w ↦ ap items w.wanted-is ∙ sym (append-nil before) ∙ ap (λ (o : Option ℕ). before ++ option_to_list o) (sym w.in_default.is)
    ] in
    wanted_more c.args.places.now c.loop-place.place-index c.place-item.result c.loop-place-test.true c.place-item.is c.wanted.result c.wanted.ensures before c.match-wanted.wanted.items c.loop-place.invariant more
