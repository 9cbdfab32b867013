use Rattle.std.proofs.Common.{sym, ◌∙◌}
use Rattle.adoption.proofs.KeptLemmas.{walked_off, walked_one}
use Rattle.adoption.proofs.kept_entries.is_walked.Goals as goal

pub returns-then-not-is_same-clause-exact : goal.returns-then-not-is_same-clause-exact
returns-then-not-is_same-clause-exact g c =
    let left = g.M.Entries.remaining in
    walked_off c.args.run.now.kept (left c.args.cursor.now) (left c.loop-place.cursor) c.loop-place.place c.key.result.bytes.now c.value.result.now c.key.ensures c.value.ensures
    (sym c.is_next-is_same.ensures ∙ c.if-not-is_same.true) c.loop-place.invariant

pub loop-place-preserved : goal.loop-place-preserved
loop-place-preserved g c =
    let left = g.M.Entries.remaining in
    walked_one c.args.run.now.kept (left c.args.cursor.now) (left c.loop-place.cursor) c.loop-place.place c.key.result.bytes.now c.value.result.now c.key.ensures c.value.ensures
    (left c.advance.new.self) (sym c.is_next-is_same.ensures ∙ c.if-not-is_same.false) c.in_ok-advance.ensures.ok c.loop-place.invariant
