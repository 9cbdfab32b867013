use Rattle.std.proofs.Common.{List, ℕ, Option, Result, IfOk, map, sym, subst, ◌∙◌, ◌++◌}
use Rattle.ikey.specs.fault.Fault.{Fault}
use Rattle.checks.specs.InOrder.{IsFirstRefusal}
use Rattle.checks.proofs.Lent.{lent_table}
use Rattle.checks.proofs.OrderLemmas.{none_refused, now_refused, other_name, still_refused}
use Rattle.checks.proofs.first_refusal.first_refusal.Goals as goal
use Rattle.checks.proofs.first_refusal.first_refusal.Goals.{in-Ok, in-Err+in-Memory, in-Err+in_default}

pub returns-then-is_some-clause-refusal : goal.returns-then-is_some-clause-refusal
returns-then-is_some-clause-refusal g c =
    still_refused g.C.Comparator.cmp (map lent_table c.args.loaded.now) c.args.first (sym c.is_some.ensures ∙ c.if-is_some.true)

pub returns-clause-refusal : goal.returns-clause-refusal
returns-clause-refusal g c =
    let cmp = g.C.Comparator.cmp in
    let more : List (ℕ × List ℕ) = map lent_table c.args.loaded.now in
    let none = sym c.is_some.ensures ∙ c.if-is_some.false in
    let Answers : Result (Option Fault) Fault → Type 0 = λ r. IfOk r (λ found. (before : List (ℕ × List ℕ)) → IsFirstRefusal cmp before c.args.first → IsFirstRefusal cmp (before ++ more) found) in
    elim c.match-check_rounds.branch [
      | in-Ok w ↦ subst Answers (sym w.result-is) (none_refused cmp more c.args.first _ none w.in-Ok.ensures)
      | in-Err+in-Memory w ↦ subst Answers (sym w.result-is) tt
      | in-Err+in_default w ↦ subst Answers (sym w.result-is) (now_refused cmp more c.args.first w.in-Err.refused none (other_name w.in-Err.refused _ w.in_default.not-Memory w.in-Err.ensures))
    ]
