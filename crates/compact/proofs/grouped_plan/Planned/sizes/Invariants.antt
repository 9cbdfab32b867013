use Rattle.std.proofs.Common.{◌≡◌, ◌++◌, drop}
use Rattle.compact.proofs.GroupedAnswers.{sizes_in}
use Rattle.compact.proofs.grouped_plan.Planned.sizes.Given as goal

-- the sizes so far, and those of the groups that are left
abbrev pub invariant-loop-place : goal.invariant-loop-place
invariant-loop-place g l =
    let cmp = g.C.Comparator.cmp in
    let short_keys = g.C.Comparator.short_keys in
    l.sizes.items ++ sizes_in cmp short_keys (drop l.place l.self-inside.groups.items) ≡ sizes_in cmp short_keys l.self-inside.groups.items
