use Rattle.std.proofs.Common.{ℕ, List, subst}
use Rattle.split.specs.Ranges.{IsCover}
use Rattle.split.proofs.Covers.{covers}
use Rattle.split.proofs.split.Split.range.Goals as goal

pub returns-clause-cover : goal.returns-clause-cover
returns-clause-cover g c =
    let P : List (List ℕ) → Type 0 = λ boundaries. IsCover g.C.Comparator.cmp boundaries in
    subst P c.self.view_is (covers g.C.Comparator.cmp g.met.C.Comparator.total _ c.self.invariant.rising)
