use Rattle.std.proofs.Common.{map, refl}
use Rattle.folder.proofs.LoadingLemmas.{level_more}
use Rattle.answers.specs.Seen.{seen}
use Rattle.answers.specs.VersionAnswer.{pointer_row}
use Rattle.answers.proofs.version_answer.pointer_rows.Goals as goal

pub loop-level-preserved : goal.loop-level-preserved
loop-level-preserved c =
    let rows = pointer_row c.args.version.now in
    level_more rows (map seen c.loop-level.rows.items) (rows c.loop-level.level) (map seen c.push_pointer.new.rows.items) _ c.loop-level.level c.loop-level-test.true c.in_ok-push_pointer.ensures.ok refl c.loop-level.invariant
