use Rattle.std.proofs.Common.{Bor, ◌≡◌, ◌+◌, ◌++◌, List, [], map, ap, sym, subst, ◌∙◌}
use Rattle.ikey.proofs.Binds.{ok_is}
use Rattle.edit.specs.VersionOrder.{in_version_order, files_at}
use Rattle.edit.specs.declared.meta.FileMeta.{FileMeta}
use Rattle.edit.specs.declared.meta.NewFile.{NewFile}
use Rattle.edit.proofs.Snapshots.{Levels, one_level, levels_begin, levels_on, levels_end}
use Rattle.reads.specs.FileList.{level_file_in}
use Rattle.reads.proofs.StandingFiles.{level_lent}
use Rattle.reads.proofs.GatheredFiles.{AreGathered, none_gathered, more_gathered, all_gathered}
use Rattle.reads.proofs.file_list.all_files.Goals as goal

pub loop-level-init : goal.loop-level-init
loop-level-init g c =
    let none : map level_file_in c.new-all.result.items ≡ [] = ap (map level_file_in) c.new-all.ensures.items in
    record {
      gathered = subst (λ (l : List NewFile). AreGathered c.args.version.now.files l 0) (sym none) (none_gathered c.args.version.now.files);
      levels = levels_begin g.C.Comparator.cmp c.args.version.now.files (map level_file_in c.new-all.result.items) none;
    }

pub loop-level-preserved : goal.loop-level-preserved
loop-level-preserved g c =
    let cmp = g.C.Comparator.cmp in
    let files = c.args.version.now.files in
    let level = c.loop-level.level in
    let items = c.deref.result.now in
    let is : map (λ (f : Bor FileMeta). f.now) items ≡ in_version_order cmp (files_at files level) = ap (map (λ (f : Bor FileMeta). f.now)) c.deref.ensures.value ∙ sym (ok_is _ _ c.in_ok-files.ensures.ordered) in
    let so_far : List NewFile = map level_file_in c.loop-level.all.items in
    let made : so_far ++ one_level cmp files level ≡ map level_file_in c.push_level.new.all.items = sym (c.in_ok-push_level.ensures.ok ∙ ap (λ (t : List NewFile). so_far ++ t) (level_lent cmp files level items is)) in
    record {
      gathered = more_gathered cmp g.met.C.Comparator.total files so_far (map level_file_in c.push_level.new.all.items) level items is c.in_ok-files.ensures.state.apart c.in_ok-files.ensures.state.levels.file_levels c.in_ok-push_level.ensures.ok c.loop-level.invariant.gathered;
      levels = subst (λ (t : List NewFile). Levels cmp files t (level + 1)) made (levels_on cmp files so_far level c.loop-level.invariant.levels c.loop-level-test.true);
    }

pub returns-clause-all : goal.returns-clause-all
returns-clause-all g c = all_gathered c.args.version.now.files (map level_file_in c.loop-level.all.items) c.loop-level.level c.loop-level-test.false c.loop-level.invariant.gathered

pub returns-clause-order : goal.returns-clause-order
returns-clause-order g c = levels_end g.C.Comparator.cmp c.args.version.now.files (map level_file_in c.loop-level.all.items) c.loop-level.level c.loop-level.invariant.levels c.loop-level-test.false
