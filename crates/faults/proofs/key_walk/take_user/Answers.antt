use Rattle.std.proofs.Common.{◌≡◌, ℕ, ◌<◌, ◌++◌, List, length, get_or, set, sym, ap, ◌∙◌, add-one, arith}
use Rattle.faults.specs.KeyFaults.{FileEntries, first_break, searched_in}
use Rattle.faults.specs.KeyWalk.{after_user, break_of, with_user}
use Rattle.faults.proofs.TakenFiles.{behind_all, behind_at, behind_next, part_behind, taken_more}
use Rattle.faults.proofs.key_walk.take_user.Goals as goal

pub loop-file-preserved : goal.loop-file-preserved
loop-file-preserved g c =
    let fs : List FileEntries = c.args.files.now in
    let user : List ℕ = c.args.user.now in
    let now = c.loop-file in
    let i : ℕ = now.file-index in
    let f : FileEntries = c.file-item.result in
    let lt : i < length fs = omega (arith, now.auto.files, c.loop-file-test.true) in
    let is : f ≡ get_or fs i f = c.file-item.is ∙ ap (λ (xs : List FileEntries). get_or xs i f) now.invariant.files ∙ behind_at user i fs f in
    record {
      order = λ rest.
          c.in_ok-order.ensures.order rest
          ∙ ap (λ (x : FileEntries). break_of now.order (searched_in (with_user user x) ++ rest)) (sym c.file-item.is)
          ∙ now.invariant.order (searched_in (with_user user f) ++ rest)
          ∙ sym (ap first_break (taken_more user i fs f rest lt is));
      files = ap (λ (xs : List FileEntries). set xs i c.take_user.new.self) now.invariant.files
          ∙ ap (set (part_behind user i fs) i) (c.in_ok-order.ensures.rest ∙ ap (after_user user) (sym c.file-item.is))
          ∙ behind_next user i fs f lt is
          ∙ ap (λ (n : ℕ). part_behind user n fs) (sym (add-one i));
    }

pub returns-clause-rest : goal.returns-clause-rest
returns-clause-rest g c = c.loop-file.invariant.files ∙ behind_all c.args.user.now c.loop-file.file-index c.args.files.now (omega (arith, c.loop-file.auto.files, c.loop-file-test.false))
