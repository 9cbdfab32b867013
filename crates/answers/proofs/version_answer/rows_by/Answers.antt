use Rattle.std.proofs.Common.{◌≡◌, Bor, List, map, ap, sym, ◌∙◌}
use Rattle.table.proofs.Binds.{ok_is}
use Rattle.edit.specs.declared.meta.FileMeta.{FileMeta}
use Rattle.folder.proofs.LoadingLemmas.{level_more, map_fused}
use Rattle.answers.specs.Rows.{AnswerRow, listed}
use Rattle.answers.specs.Seen.{seen}
use Rattle.answers.specs.VersionAnswer.{files_at}
use Rattle.answers.proofs.version_answer.rows_by.Goals as goal

pub loop-level-preserved : goal.loop-level-preserved
loop-level-preserved g c =
    let cmp = g.C.Comparator.cmp in
    let v = c.args.version.now in
    let level = c.loop-level.level in
    let held : Bor FileMeta → FileMeta = λ f. f.now in
    let rows : List (Bor FileMeta) → List AnswerRow = map (λ (f : Bor FileMeta). listed level f.now) in
    let added : rows c.deref.result.now ≡ files_at cmp v level =
    ap rows c.deref.ensures.value ∙ map_fused held (listed level) c.in_ok-files.field-0.items ∙ ap (map (listed level)) (sym (ok_is _ _ c.in_ok-files.ensures.ordered)) in
    level_more (files_at cmp v) (map seen c.loop-level.rows.items) _ (map seen c.push_files.new.rows.items) _ level c.loop-level-test.true c.in_ok-push_files.ensures.ok added c.loop-level.invariant
