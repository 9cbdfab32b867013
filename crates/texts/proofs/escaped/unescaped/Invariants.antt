use Rattle.std.proofs.Common.{◌≡◌, length}
use Rattle.texts.specs.Escaped.{unescaped}
use Rattle.texts.proofs.EscapedLemmas.{with_front}
use Rattle.texts.proofs.escaped.unescaped.Given as goal

abbrev pub invariant-loop-rest : goal.invariant-loop-rest
invariant-loop-rest l = with_front l.bytes.items (unescaped l.rest) ≡ unescaped l.text

abbrev pub decreases-loop-rest : goal.decreases-loop-rest
decreases-loop-rest l = length l.rest
