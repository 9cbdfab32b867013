use Rattle.std.proofs.Common.{not, ap, rules, tests}
use Rattle.std.proofs.lemmas.Iterator.{YieldsList-from_slice}
use Rattle.std.proofs.lemmas.Iterator.Search.{any_from_yields_List}
use Rattle.pick.specs.PickedInputs.{picked_in}
use Rattle.pick.specs.Ranges.{holds_user}
use Rattle.pick.proofs.picked_inputs.is_base.Goals as goal

pub returns : goal.returns
returns g c =
    ap not (any_from_yields_List (holds_user g.C.Comparator.cmp c.args.user_key.now) _ _ c.any.result c.any.ensures.ran (YieldsList-from_slice (picked_in c.args.inputs.now).deeper cc) (λ x b q k. search (rules, tests)))
