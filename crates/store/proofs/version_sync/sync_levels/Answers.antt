use Rattle.std.proofs.Common.{◌≡◌, ◌+◌, ◌-◌, ◌++◌, Bor, ℕ, List, ap, map, refl, sym, ◌∙◌}
use Rattle.folder.proofs.Binds.{ok_is}
use Rattle.folder.proofs.Refusals.{only_memory}
use Rattle.folder.specs.meta.FileMeta.{FileMeta}
use Rattle.folder.proofs.LoadingLemmas.{level_more, map_fused}
use Rattle.folder.specs.Levels.{by_level, file_numbers, numbers_at}
use Rattle.store.specs.VersionSync.{table_syncs}
use Rattle.store.proofs.Flow.{no_refusal}
use Rattle.store.proofs.Runs.{run_handed, run_none, run_ok, run_same, run_then}
use Rattle.store.proofs.TableSyncs.{levels_around, levels_left, syncs_append}
use Rattle.store.proofs.version_sync.sync_levels.Goals as goal

pub returns-in_err-files : goal.returns-in_err-files
returns-in_err-files g c =
    let of = numbers_at g.C.Comparator.cmp c.args.version.now in
    let total = file_numbers g.C.Comparator.cmp c.args.version.now in
    let level = c.loop-level.level in
    let so_far = c.loop-level.invariant.numbers in
    let e = c.in_err-files.field-0.0 in
    let r = c.from_residual.result in
    run_same _ (table_syncs total) c.args.folder.now c.loop-level.folder r (levels_left of so_far total level c.loop-level.invariant.all)
    (run_then (table_syncs so_far) _ c.args.folder.now c.loop-level.folder c.loop-level.folder _ tt r refl c.loop-level.invariant.run
    (run_none (table_syncs (by_level of level (7 - level))) c.loop-level.folder e r (only_memory e _ (no_refusal _ e) c.in_err-files.ensures.ordered) c.from_residual.ensures.1))

pub returns-in_err-sync_files : goal.returns-in_err-sync_files
returns-in_err-sync_files g c =
    let number : FileMeta → ℕ = λ f. f.number in
    let of = numbers_at g.C.Comparator.cmp c.args.version.now in
    let total = file_numbers g.C.Comparator.cmp c.args.version.now in
    let level = c.loop-level.level in
    let so_far = c.loop-level.invariant.numbers in
    let piece : List ℕ = map (λ (f : Bor FileMeta). f.now.number) c.deref.result.now in
    let there = ok_is _ _ c.in_ok-files.ensures.ordered in
    let is : piece ≡ of level = ap (map (λ (f : Bor FileMeta). f.now.number)) c.deref.ensures.value ∙ map_fused (λ (f : Bor FileMeta). f.now) number _ ∙ ap (map number) (sym there) in
    let rest = table_syncs (by_level of (level + 1) (7 - (level + 1))) in
    let r = c.from_residual-in_err-sync_files.result in
    run_same _ (table_syncs total) c.args.folder.now c.sync_files.new.folder r (levels_around of so_far piece total level c.loop-level-test.true is c.loop-level.invariant.all)
    (run_then (table_syncs so_far) _ c.args.folder.now c.loop-level.folder c.sync_files.new.folder _ tt r refl c.loop-level.invariant.run
    (run_handed (table_syncs piece) rest c.loop-level.folder c.sync_files.new.folder c.sync_files.result c.in_err-sync_files.field-0.0 r c.in_err-sync_files.was c.from_residual-in_err-sync_files.ensures.1 c.sync_files.ensures))

pub loop-level-preserved : goal.loop-level-preserved
loop-level-preserved g c =
    let number : FileMeta → ℕ = λ f. f.number in
    let of = numbers_at g.C.Comparator.cmp c.args.version.now in
    let total = file_numbers g.C.Comparator.cmp c.args.version.now in
    let level = c.loop-level.level in
    let so_far = c.loop-level.invariant.numbers in
    let piece : List ℕ = map (λ (f : Bor FileMeta). f.now.number) c.deref.result.now in
    let there = ok_is _ _ c.in_ok-files.ensures.ordered in
    let is : piece ≡ of level = ap (map (λ (f : Bor FileMeta). f.now.number)) c.deref.ensures.value ∙ map_fused (λ (f : Bor FileMeta). f.now) number _ ∙ ap (map number) (sym there) in
    record {
      numbers = so_far ++ piece;
      all = level_more of so_far piece (so_far ++ piece) total level c.loop-level-test.true refl is c.loop-level.invariant.all;
      run = run_same _ (table_syncs (so_far ++ piece)) c.args.folder.now c.sync_files.new.folder _ (sym (syncs_append so_far piece))
          (run_then (table_syncs so_far) (table_syncs piece) c.args.folder.now c.loop-level.folder c.sync_files.new.folder _ tt _ refl c.loop-level.invariant.run
          (run_ok (table_syncs piece) c.loop-level.folder c.sync_files.new.folder c.sync_files.result c.in_ok-sync_files.field-0 tt c.in_ok-sync_files.was c.sync_files.ensures));
    }
