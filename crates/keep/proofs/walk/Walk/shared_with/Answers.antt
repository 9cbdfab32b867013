use Rattle.std.proofs.Common.{◌≤◌, ℕ, List, [], length, ap, subst, ◌∙◌}
use Rattle.std.specs.Prelude.{nat_eq}
use Rattle.std.specs.List.{common_prefix_len}
use Rattle.reads.specs.BuilderView.{last_key}
use Rattle.keep.specs.WalkedRange.{WalkedRange}
use Rattle.keep.proofs.walk.Walk.shared_with.Goals as goal

pub returns-clause-value : goal.returns-clause-value
returns-clause-value c =
    c.common_len.ensures.value
    ∙ ap (λ (kept : List ℕ). common_prefix_len nat_eq kept c.bytes.result.now) c.last_key.ensures.value
    ∙ ap (common_prefix_len nat_eq (last_key [] c.self.inside.run.kept)) c.bytes.ensures
    ∙ ap (λ (w : WalkedRange). common_prefix_len nat_eq (last_key [] w.run.kept) c.args.key.bytes.now) c.self.view_is

pub returns-clause-within : goal.returns-clause-within
returns-clause-within c = subst (λ (key : List ℕ). c.common_len.result ≤ length key) c.bytes.ensures c.common_len.ensures.within.1
