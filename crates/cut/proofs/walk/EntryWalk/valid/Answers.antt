use Rattle.std.proofs.Common.{◌↔◌, ◌<◌, length, subst, arith}
use Rattle.std.specs.Prelude.{IsTrue, nat_lt}
use Rattle.std.proofs.lemmas.Bool.{ltb-true, lt-ltb}
use Rattle.cut.specs.EntryWalkView.{EntryWalkView}
use Rattle.cut.proofs.Walks.{in_slice, more_in_slice}
use Rattle.cut.proofs.walk.EntryWalk.valid.Goals as goal

pub returns : goal.returns
returns c =
    let was = c.self.inside in
    subst (λ (w : EntryWalkView). IsTrue (nat_lt was.passed c.len.result) ↔ (0 < length w.rest)) c.self.view_is
    ((
      λ yes. more_in_slice was.start was.slice was.passed _ c.self.invariant (omega (arith, ltb-true was.passed c.len.result yes, c.len.ensures)),
      λ some. lt-ltb was.passed c.len.result (omega (arith, in_slice was.start was.slice was.passed _ c.self.invariant some, c.len.ensures)),
    ))
