use Rattle.std.proofs.Common.{◌≡◌, ◌∷◌, List, sym, ap, subst, ◌∙◌}
use Rattle.edit.specs.Version.{undeleted_files}
use Rattle.edit.specs.declared.meta.DeletedFile.{DeletedFile}
use Rattle.edit.proofs.Kept.{TakesOut, takes_on, kept_all}
use Rattle.edit.proofs.edit_effect.take_out_all.Goals as goal

pub loop-place-preserved : goal.loop-place-preserved
loop-place-preserved c =
    let next : c.loop-place.place-iterator ≡ c.in-Some.place.now ∷ c.next.new.self = c.in-Some.ensures.steps in
    let t = subst (TakesOut c.args.files.now c.args.deleted.now.keys c.loop-place.files) next c.loop-place.invariant in
    takes_on c.args.files.now c.args.deleted.now.keys c.loop-place.files c.take_out.new.self c.in-Some.place.now c.next.new.self t (sym c.take_out.ensures.there ∙ c.if-not-take_out.false)
    (c.take_out.ensures.others c.if-not-take_out.false)

pub returns-clause-kept : goal.returns-clause-kept
returns-clause-kept c =
    sym (c.loop-place.invariant.kept ∙ ap (λ (ds : List DeletedFile). undeleted_files ds c.loop-place.files) c.in-None.ensures.steps.0 ∙ kept_all c.loop-place.files)
