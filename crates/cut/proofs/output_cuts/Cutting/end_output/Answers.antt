use Rattle.std.proofs.Common.{◌≡◌, List, [], ◌∷◌, ◌++◌, vec_len, length, map, sym, ap, subst, ◌∙◌, rules, arith}
use Rattle.std.specs.List.{AllByRecursion}
use Rattle.std.proofs.lemmas.Bool.{eqb-true, eqb-false}
use Rattle.std.proofs.lemmas.List.{map-append, nil_from_length}
use Rattle.block.specs.EncodedEntry.{Entry}
use Rattle.cut.specs.OutputCuts.{OutputsInProgress, outputs_left}
use Rattle.cut.specs.OutputInProgress.{OutputInProgress, ArePlanned, entries_in_blocks}
use Rattle.cut.specs.Outputs.{outputs_after}
use Rattle.cut.proofs.Cuts.{ended_none, ended_some, same_options, planned_push, planned_are}
use Rattle.cut.proofs.output_cuts.Cutting.end_output.Goals as goal

pub invariant_of-self : goal.invariant_of-self
invariant_of-self c = same_options c.self.inside.latest.options (λ blocks. blocks.items) c.end.new.self.options c.self.inside.ended.items c.end.ensures.options c.self.invariant

pub invariant_of-self-in-Continue-branch-2 : goal.invariant_of-self-in-Continue-branch-2
invariant_of-self-in-Continue-branch-2 c =
    let o = c.self.inside.latest.options in
    let items : c.push.new.self.items ≡ c.self.inside.ended.items ++ c.in_ok-blocks.blocks ∷ [] = search rules in
    same_options o (λ blocks. blocks.items) c.end.new.self.options c.push.new.self.items c.end.ensures.options
    (subst (AllByRecursion (λ blocks. ArePlanned o blocks.items)) (sym items)
    (planned_push o (λ blocks. blocks.items) c.self.inside.ended.items c.in_ok-blocks.blocks c.self.invariant
    (planned_are o c.self.inside.latest.entries c.in_ok-blocks.blocks.items c.in_ok-blocks.ensures.blocks c.in_ok-blocks.ensures.lens)))

pub invariant_of-self-in_err-push : goal.invariant_of-self-in_err-push
invariant_of-self-in_err-push c =
    let o = c.self.inside.latest.options in
    let items : c.push.new.self.items ≡ c.self.inside.ended.items = search rules in
    same_options o (λ blocks. blocks.items) c.end.new.self.options c.push.new.self.items c.end.ensures.options
    (subst (AllByRecursion (λ blocks. ArePlanned o blocks.items)) (sym items) c.self.invariant)

pub invariant_of-self-else-not-is_empty : goal.invariant_of-self-else-not-is_empty
invariant_of-self-else-not-is_empty c = same_options c.self.inside.latest.options (λ blocks. blocks.items) c.end.new.self.options c.self.inside.ended.items c.end.ensures.options c.self.invariant

pub returns-in_ok-push-clause-ended : goal.returns-in_ok-push-clause-ended
returns-in_ok-push-clause-ended c =
    let was = c.self.inside in
    let o = was.latest.options in
    let q : List Entry = was.latest.entries in
    let blocks = c.in_ok-blocks.blocks in
    let before : List (List Entry) = map (λ b. entries_in_blocks b.items) was.ended.items in
    let items : c.push.new.self.items ≡ was.ended.items ++ blocks ∷ [] = search rules in
    let some : blocks.items ≡ [] → ⊥ = λ none. omega (arith, eqb-false (vec_len blocks) 0 (sym c.if-not-is_empty.ensures), ap length none) in
    let outputs : map (λ b. entries_in_blocks b.items) c.push.new.self.items ≡ before ++ outputs_after o q [] =
    ap (map (λ b. entries_in_blocks b.items)) items ∙ map-append (λ b. entries_in_blocks b.items) was.ended.items (blocks ∷ []) ∙ ended_some o before q blocks.items c.in_ok-blocks.ensures.blocks some in
    let seen : OutputInProgress → List (List Entry) → OutputsInProgress = λ s ps. record { options = s.options; outputs = ps; latest = s.entries; behind = s.behind } in
    let after : OutputsInProgress → OutputsInProgress = λ cut. record { options = cut.options; outputs = outputs_left cut []; latest = []; behind = cut.behind } in
    ap (λ (s : OutputInProgress). seen s (map (λ b. entries_in_blocks b.items) c.push.new.self.items)) c.in_ok-blocks.ensures.new
    ∙ ap (seen (record { options = o; entries = []; behind = was.latest.behind })) outputs
    ∙ ap after c.self.view_is

pub returns-else-not-is_empty-clause-ended : goal.returns-else-not-is_empty-clause-ended
returns-else-not-is_empty-clause-ended c =
    let was = c.self.inside in
    let o = was.latest.options in
    let q : List Entry = was.latest.entries in
    let blocks = c.in_ok-blocks.blocks in
    let before : List (List Entry) = map (λ b. entries_in_blocks b.items) was.ended.items in
    let none : blocks.items ≡ [] = nil_from_length blocks.items (omega (arith, eqb-true (vec_len blocks) 0 (sym c.if-not-is_empty.ensures))) in
    let outputs : before ≡ before ++ outputs_after o q [] = ended_none o before q blocks.items c.in_ok-blocks.ensures.blocks none in
    let seen : OutputInProgress → List (List Entry) → OutputsInProgress = λ s ps. record { options = s.options; outputs = ps; latest = s.entries; behind = s.behind } in
    let after : OutputsInProgress → OutputsInProgress = λ cut. record { options = cut.options; outputs = outputs_left cut []; latest = []; behind = cut.behind } in
    ap (λ (s : OutputInProgress). seen s before) c.in_ok-blocks.ensures.new
    ∙ ap (seen (record { options = o; entries = []; behind = was.latest.behind })) outputs
    ∙ ap after c.self.view_is
