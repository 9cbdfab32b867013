use Rattle.std.proofs.Common.{◌≡◌, ◌-◌, ℕ, suc, sym, ap, ◌∙◌, arith}
use Rattle.table.specs.KeyLists.{key_start}
use Rattle.table.proofs.KeyLists.{start_is}
use Rattle.table.proofs.key_list.start_of.Goals as goal

pub returns-else-place-eq0 : goal.returns-else-place-eq0
returns-else-place-eq0 c =
    let before : ℕ = c.args.place - 1 in
    let here : suc before ≡ c.args.place = omega arith in
    sym (start_is 0 c.args.ends.now before (omega arith)) ∙ ap (key_start 0 c.args.ends.now) here
