use Rattle.std.proofs.Common.{◌≡◌, ℕ, map, ap, sym, ◌∙◌}
use Rattle.std.proofs.Common.{Bor}
use Rattle.edit.specs.declared.meta.FileMeta.{FileMeta}
use Rattle.folder.specs.Levels.{file_numbers, numbers_at}
use Rattle.folder.proofs.LoadingLemmas.{level_more, map_fused}
use Rattle.ikey.proofs.Binds.{ok_is}
use Rattle.folder.proofs.table_loader.file_numbers.Goals as goal

pub loop-level-preserved : goal.loop-level-preserved
loop-level-preserved g c =
    let cmp = g.C.Comparator.cmp in
    let number : FileMeta → ℕ = λ f. f.number in
    let there = ok_is _ _ c.in_ok-files.ensures.ordered in
    let numbers : map (λ (f : Bor FileMeta). f.now.number) c.deref.result.now ≡ numbers_at cmp c.args.version.now c.loop-level.level =
    ap (map (λ (f : Bor FileMeta). f.now.number)) c.deref.ensures.value ∙ map_fused (λ (f : Bor FileMeta). f.now) number _ ∙ ap (map number) (sym there) in
    level_more (numbers_at cmp c.args.version.now) c.loop-level.numbers.items _ c.push_numbers.new.numbers.items (file_numbers cmp c.args.version.now) c.loop-level.level c.loop-level-test.true c.in_ok-push_numbers.ensures.ok numbers c.loop-level.invariant
