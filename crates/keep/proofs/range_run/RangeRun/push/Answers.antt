use Rattle.std.proofs.Common.{[], sym, ap, ◌∙◌}
use Rattle.std.specs.Prelude.{nat_eq}
use Rattle.std.specs.List.{common_prefix_len}
use Rattle.reads.specs.BuilderView.{last_key}
use Rattle.keep.specs.Runs.{Run}
use Rattle.keep.proofs.range_run.RangeRun.push.Goals as goal

pub push-requires-clause-shared : goal.push-requires-clause-shared
push-requires-clause-shared c =
    c.requires.shared ∙ ap (λ (r : Run). common_prefix_len nat_eq (last_key [] r.kept) c.args.key.bytes.now) (sym c.self.view_is)
