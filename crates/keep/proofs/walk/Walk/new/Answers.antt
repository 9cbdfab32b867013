use Rattle.std.proofs.Common.{false, sym, ap, ◌∙◌}
use Rattle.std.proofs.lemmas.Bool.{false≢true}
use Rattle.keep.specs.Versions.{StoredVersion}
use Rattle.keep.proofs.walk.Walk.new.Goals as goal

pub invariant_of-result : goal.invariant_of-result
invariant_of-result c = λ kept. absurd (false≢true (ap (λ (v : StoredVersion). v.is_kept) (sym c.none.ensures) ∙ kept))
