use Rattle.std.proofs.Common.{◌≡◌, ℕ, ◌<◌, ◌++◌, ◌∷◌, [], List, take, length, sym, ap, ◌∙◌, append_assoc, append-nil, arith}
use Rattle.table.specs.EncodedEntry.{Entry}
use Rattle.table.specs.Table.{table}
use Rattle.cut.specs.Plan.{OutputView, plan_tables}
use Rattle.cut.specs.declared.output_meta.OutputMeta.{OutputMeta}
use Rattle.compact.specs.GroupedAnswer.{table_sizes}
use Rattle.compact.proofs.GroupedAnswers.{size_more}
use Rattle.compact.proofs.grouped_plan.push_sizes.Goals as goal

pub loop-place-init : goal.loop-place-init
loop-place-init g c = sym (append-nil c.args.sizes.now.items)

pub loop-place-preserved : goal.loop-place-preserved
loop-place-preserved g c =
    let outputs : List OutputView = c.args.plan.now.outputs in
    let T : List Entry → List ℕ = table g.C.Comparator.cmp g.C.Comparator.short_keys c.args.plan.now.options in
    let m : OutputMeta = c.output-output.result in
    let before : List (ℕ × ℕ) = c.args.sizes.now.items in
    let within : c.loop-place.place < length outputs = omega (arith, c.loop-place-test.true, c.len-place-end.ensures.number) in
    let pushed : c.push.new.self.items ≡ c.loop-place.sizes.items ++ (m.number, m.len) ∷ [] = c.in_ok-push.ensures.items in
    pushed ∙ ap (λ (ts : List (ℕ × ℕ)). ts ++ (m.number, m.len) ∷ []) c.loop-place.invariant
    ∙ append_assoc before (table_sizes (plan_tables T (take c.loop-place.place outputs))) ((m.number, m.len) ∷ [])
    ∙ ap (λ (ts : List (ℕ × ℕ)). before ++ ts) (sym (size_more T outputs c.loop-place.place m within c.output-output.ensures.meta c.output-output.ensures.sized))
