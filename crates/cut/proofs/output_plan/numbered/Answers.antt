use Rattle.std.proofs.Common.{◌≡◌, ◌+◌, ◌<◌, ◌++◌, ◌∷◌, [], List, ℕ, length, get_or, sym, ap, subst, ◌∙◌, arith}
use Rattle.std.specs.Global.{Vec}
use Rattle.std.proofs.lemmas.Iterator.Adapters.{YieldsList-from_vec}
use Rattle.std.proofs.lemmas.Iterator.Consumers.{YieldsList-turn}
use Rattle.std.proofs.lemmas.List.{length_push}
use Rattle.keep.proofs.OnAnswers.{same_ok}
use Rattle.table.specs.Table.{index_keys}
use Rattle.cut.specs.declared.planned_block.PlannedBlock.{PlannedBlock}
use Rattle.cut.specs.declared.planned_output.PlannedOutput.{PlannedOutput}
use Rattle.cut.specs.PlanInvariant.{HaveEntries, numbered_from}
use Rattle.cut.specs.TableLength.{table_size}
use Rattle.cut.proofs.PlanBlocks.{at}
use Rattle.cut.proofs.Planned.{numbered_push}
use Rattle.cut.proofs.output_plan.numbered.Goals as goal
use Rattle.cut.proofs.output_plan.numbered.Goals.{After-deref}

-- the output of this turn is the next
turn : (g : _) (c : After-deref g) → (length c.loop-blocks.yielded < length c.args.ended.items) × (c.in-Some.blocks ≡ get_or c.args.ended.items (length c.loop-blocks.yielded) c.in-Some.blocks)
turn g c =
    let all : c.into_iter-blocks-iterator.result.rest.items ≡ c.args.ended.items = cc in
    let len : c.into_iter-blocks-iterator.result.rest.len ≡ length c.args.ended.items = omega (arith, ap (λ (l : List (Vec PlannedBlock)). length l) all) in
    YieldsList-turn (YieldsList-from_vec c.args.ended.items all len) c.loop-blocks.yielded c.loop-blocks.blocks-iterator c.loop-blocks.yielded_by c.next.result c.next.new.self c.in-Some.blocks c.in-Some.is c.next.ensures.steps

-- it has entries
have : (g : _) (c : After-deref g) → HaveEntries c.deref.result.now
have g c =
    let t = turn g c in
    subst HaveEntries (sym c.deref.ensures.value)
    (at (λ (blocks : Vec PlannedBlock). HaveEntries blocks.items) c.args.ended.items (length c.loop-blocks.yielded) c.in-Some.blocks t.0 c.requires.some (sym t.1))

pub table_len-requires-clause-any : goal.table_len-requires-clause-any
table_len-requires-clause-any g c = (have g c).any

pub table_len-requires-clause-some : goal.table_len-requires-clause-some
table_len-requires-clause-some g c = (have g c).some

pub loop-blocks-preserved : goal.loop-blocks-preserved
loop-blocks-preserved g c =
    let size : List PlannedBlock → ℕ = table_size (index_keys g.C.Comparator.cmp g.C.Comparator.short_keys) in
    let first : ℕ = c.args.first_number in
    let yielded = c.loop-blocks.yielded in
    let b = c.in-Some.blocks in
    let len : ℕ = c.in_ok-len.len in
    let len_is : len ≡ size b.items = sym (same_ok _ _ c.in_ok-len.ensures) ∙ ap size c.deref.ensures.value in
    let before : List PlannedOutput = numbered_from size first yielded in
    let pushed : c.push.new.self.items ≡ c.loop-blocks.outputs.items ++ record { number = c.loop-blocks.number; blocks = b; len = len } ∷ [] = c.in_ok-push.ensures.items in
    record {
      outputs =
          pushed
          ∙ ap (λ (ps : List PlannedOutput). ps ++ record { number = c.loop-blocks.number; blocks = b; len = len } ∷ []) c.loop-blocks.invariant.outputs
          ∙ ap (λ (n : ℕ). before ++ record { number = n; blocks = b; len = len } ∷ []) c.loop-blocks.invariant.number
          ∙ ap (λ (n : ℕ). before ++ record { number = first + length yielded; blocks = b; len = n } ∷ []) len_is
          ∙ sym (numbered_push size first yielded b);
      number = omega (arith, length_push yielded b, c.loop-blocks.invariant.number);
    }
