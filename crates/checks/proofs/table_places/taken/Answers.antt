use Rattle.std.proofs.Common.{◌+◌, ◌++◌, ◌<◌, ℕ, List, length, take, drop, get_or, Option, IfSome, sym, ap, subst, ◌∙◌}
use Rattle.std.specs.Prelude.{Contains}
use Rattle.std.proofs.lemmas.List.Elements.{All-append, All-drop, All-get_or, All-same, All-take}
use Rattle.reads.specs.Tables.{NumberedContents}
use Rattle.checks.proofs.table_places.taken.Goals as goal

pub returns-in_err-place-clause-held : goal.returns-in_err-place-clause-held
returns-in_err-place-clause-held g c = λ held all. (all, subst (λ (o : Option NumberedContents). IfSome o (Contains held)) (sym c.from_residual.ensures) tt)

pub returns-clause-held : goal.returns-clause-held
returns-clause-held g c = λ held all.
    let before : List NumberedContents = c.args.ahead.now.items in
    let i : ℕ = c.in_ok-place.place in
    let lt : i < length before = subst (λ (ts : List NumberedContents). i < length ts) c.deref.ensures.value c.in_ok-place.ensures.within in
    let P = Contains held in (
      All-same P c.remove.new.self.items (take i before ++ drop (i + 1) before) c.remove.ensures.by_index.2
          (All-append P (take i before) (drop (i + 1) before) (All-take P i before all) (All-drop P (i + 1) before all)),
      subst P (sym c.remove.ensures.value) (All-get_or P before i c.remove.result lt all),
    )

pub returns-clause-number : goal.returns-clause-number
returns-clause-number g c =
    let number : List NumberedContents → ℕ = λ ts. (get_or ts c.in_ok-place.place c.remove.result).number in
    ap (λ (t : NumberedContents). t.number) c.remove.ensures.value ∙ ap number (sym c.deref.ensures.value) ∙ c.in_ok-place.ensures.number c.remove.result
