use Rattle.std.proofs.Common.{subst, sym}
use Rattle.folder.specs.OpenAnswer.{FolderAnswers}
use Rattle.folder.specs.Orders.{order_cmp}
use Rattle.folder.specs.ReadsAs.{IsFileIn}
use Rattle.folder.specs.declared.order.Order.{Order}
use Rattle.scan.specs.Stats.{seen_stats}
use Rattle.scan.specs.TestedStats.{IsTestedStats}
use Rattle.scan.proofs.counted_version.version_stats.Goals as goal

pub returns-in-Bytewise-clause-stats : goal.returns-in-Bytewise-clause-stats
returns-in-Bytewise-clause-stats g c files told =
    let failed = g.F.Folder.failed in
    let f = c.version_stats_by in
    subst (λ (order : Order). FolderAnswers seen_stats (failed c.args.folder.now) (failed f.new.folder) f.result (IsTestedStats (IsFileIn files) (order_cmp order) c.args.opened.now.version)) (sym c.in-Bytewise.is) (f.ensures.stats files told)

pub returns-in-Shortlex-clause-stats : goal.returns-in-Shortlex-clause-stats
returns-in-Shortlex-clause-stats g c files told =
    let failed = g.F.Folder.failed in
    let f = c.version_stats_by-in-Shortlex in
    subst (λ (order : Order). FolderAnswers seen_stats (failed c.args.folder.now) (failed f.new.folder) f.result (IsTestedStats (IsFileIn files) (order_cmp order) c.args.opened.now.version)) (sym c.in-Shortlex.is) (f.ensures.stats files told)
