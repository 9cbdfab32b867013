use Rattle.std.proofs.Common.{◌≡◌, Bool, true, false, not, Some, None, Option, refl, ap, ◌∙◌}
use Rattle.std.specs.Option.{is_some, is_none}
use Rattle.keep.specs.Versions.{StoredVersion}
use Rattle.keep.proofs.last_version.LastVersion.is_none.Goals as goal

none_is : {X : Type 0} (o : Option X) (b : Bool) → is_some o ≡ not b → b ≡ is_none o
none_is None true h = refl
none_is None false h = absurd cc
none_is (Some x) true h = absurd cc
none_is (Some x) false h = refl

pub returns : goal.returns
returns c = none_is c.self.inside.sequence c.is_none.result c.is_none.ensures ∙ ap (λ (v : StoredVersion). is_none v.sequence) c.self.view_is
