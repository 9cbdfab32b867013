use Rattle.std.proofs.Common.{◌-◌, ℕ, length, get_or, take, drop, ap, ◌∙◌, arith}
use Rattle.std.proofs.lemmas.List.{length-drop}
use Rattle.table.proofs.KeyLists.{cut_found, cut_is}
use Rattle.table.proofs.key_list.cut.Goals as goal

pub split_at-requires : goal.split_at-requires
split_at-requires c =
    let found = cut_found 0 c.args.ends.now c.args.bytes.now c.args.place c.requires.ends c.requires.inside in
    omega (arith, found.ends_behind, found.within, c.start_of-start.ensures)

pub overflow_sub-ends : goal.overflow_sub-ends
overflow_sub-ends c =
    let found = cut_found 0 c.args.ends.now c.args.bytes.now c.args.place c.requires.ends c.requires.inside in
    omega (arith, found.ends_behind, c.start_of-start.ensures)

pub split_at-requires-2 : goal.split_at-requires-2
split_at-requires-2 c =
    let found = cut_found 0 c.args.ends.now c.args.bytes.now c.args.place c.requires.ends c.requires.inside in
    omega (arith, found.ends_behind, found.within, c.start_of-start.ensures, ap length c.split_at.ensures.back, length-drop c.start_of-start.result c.args.bytes.now)

pub returns : goal.returns
returns c =
    let end = get_or c.args.ends.now c.args.place 0 in
    c.split_at-2.ensures.front
    ∙ ap (take (end - c.start_of-start.result)) c.split_at.ensures.back
    ∙ ap (λ (start : ℕ). take (end - start) (drop start c.args.bytes.now)) c.start_of-start.ensures
    ∙ cut_is c.args.ends.now c.args.bytes.now c.args.place c.requires.ends c.requires.inside
