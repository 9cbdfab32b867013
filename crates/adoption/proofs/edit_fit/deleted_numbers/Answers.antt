use Rattle.std.proofs.Common.{◌≡◌, ℕ, List, [], ◌∷◌, ◌++◌, map, ap, sym, ◌∙◌, append_assoc}
use Rattle.edit.specs.declared.meta.DeletedFile.{DeletedFile}
use Rattle.adoption.proofs.edit_fit.deleted_numbers.Goals as goal

pub loop-file-preserved : goal.loop-file-preserved
loop-file-preserved c =
    let numbers_of : List DeletedFile → List ℕ = λ ds. map (λ (d : DeletedFile). d.number) ds in
    let next : c.loop-file.file-iterator ≡ c.in-Some.file.now ∷ c.next.new.self = c.in-Some.ensures.steps in
    ap (λ (ns : List ℕ). ns ++ numbers_of c.next.new.self) c.in_ok-push.ensures.items
    ∙ append_assoc c.loop-file.numbers.items (c.in-Some.file.now.number ∷ []) (numbers_of c.next.new.self)
    ∙ ap (λ (ds : List DeletedFile). c.loop-file.numbers.items ++ numbers_of ds) (sym next)
    ∙ c.loop-file.invariant
