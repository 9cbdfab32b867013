use Rattle.std.proofs.Common.{◌≡◌, Some, rules}
use Rattle.std.specs.Prelude.{slice_get}
use Rattle.keep.proofs.RisingSearch.{first_of_all}
use Rattle.keep.proofs.rule.is_below_all.Goals as goal

pub returns-in-Some : goal.returns-in-Some
returns-in-Some c =
    let at : slice_get c.args.listed.now 0 ≡ Some c.in-Some.least.now = search rules in
    first_of_all c.args.sequence c.in-Some.least.now c.args.listed.now c.requires at
