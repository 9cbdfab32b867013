use Rattle.std.proofs.Common.{◌≡◌, ◌+◌, ◌++◌, List, [], ◌∷◌, map, take, refl, ap, sym, subst, ◌∙◌, arith}
use Rattle.std.proofs.lemmas.List.{map-append, take_all, take_more}
use Rattle.std.specs.List.{IsDistinct}
use Rattle.block.specs.EncodedEntry.{Entry}
use Rattle.folder.specs.meta.NewFile.{NewFile}
use Rattle.folder.proofs.CountLemmas.{steady}
use Rattle.folder.proofs.ReportLemmas.{reads_then}
use Rattle.reads.specs.FileList.{level_file_in}
use Rattle.reads.specs.Lawful.{IsFileOf}
use Rattle.reads.specs.declared.level_file.LevelFile.{LevelFile}
use Rattle.scan.specs.KeyHistory.{ArePlaced}
use Rattle.scan.specs.PlacedEntries.{placed, same_place}
use Rattle.scan.specs.declared.placed_entry.PlacedEntry.{PlacedEntry}
use Rattle.scan.proofs.Giving.{handed}
use Rattle.scan.proofs.KeyHistories.{apart_more, none_apart, none_placed, other_numbers, placed_more}
use Rattle.scan.proofs.Parts.{tables_later}
use Rattle.scan.proofs.version_history.entries_in_files.Goals as goal

pub loop-file-init : goal.loop-file-init
loop-file-init g c =
    let user = c.args.user.now in
    record {
      placed = λ tables held stated distinct.
          (subst (λ (found : List PlacedEntry). ArePlaced user tables [] found) (sym c.new-found.ensures.items) (none_placed user tables), subst (IsDistinct same_place) (sym c.new-found.ensures.items) (none_apart user tables));
      reads = record { same = λ name told. ((λ h. h), (λ h. h)); calls = refl };
      failures = refl;
    }

pub loop-file-preserved : goal.loop-file-preserved
loop-file-preserved g c =
    let failed = g.F.Folder.failed in
    let user = c.args.user.now in
    let files : List LevelFile = c.args.files.now in
    let i = c.loop-file.file-index in
    let file : LevelFile = c.file-item.result in
    let found : List PlacedEntry = c.loop-file.found.items in
    let es : List Entry = c.in_ok-entries.entries.items in
    let step : take (i + 1) files ≡ take i files ++ file ∷ [] = take_more files i file c.loop-file-test.true ∙ ap (λ (f : LevelFile). take i files ++ f ∷ []) (sym c.file-item.is) in
    let more : map level_file_in (take i files) ++ level_file_in file ∷ [] ≡ map level_file_in (take (i + 1) files) = sym (ap (map level_file_in) step ∙ map-append level_file_in (take i files) (file ∷ [])) in
    record {
      placed = λ tables held stated distinct.
          let is : IsFileOf g.C.Comparator.cmp tables file.meta.now = subst (λ (f : LevelFile). IsFileOf g.C.Comparator.cmp tables f.meta.now) (sym c.file-item.is) (stated i file c.loop-file-test.true) in
          let there = tables_later _ _ tables c.loop-file.invariant.reads.same held in
          let before = c.loop-file.invariant.placed tables held stated distinct in
          let own = c.in_ok-entries.ensures.given tables there is in
          let all = placed_more user tables (map level_file_in (take i files)) (level_file_in file) found es before.0 own in
          let apart = apart_more user tables (map level_file_in (take i files)) (level_file_in file) found es before.0 before.1 own (other_numbers files i file step distinct) in (
            subst (λ (now : List PlacedEntry). ArePlaced user tables (map level_file_in (take (i + 1) files)) now) (sym c.in_ok-push_placed.ensures.ok)
                (subst (λ (fs : List NewFile). ArePlaced user tables fs (found ++ map (placed file.level file.meta.now.number) es)) more all),
            subst (IsDistinct same_place) (sym c.in_ok-push_placed.ensures.ok) apart,
          );
      reads = reads_then c.loop-file.invariant.reads c.entries_in_file.ensures.reads;
      failures = steady (failed c.args.folder.now) (failed c.loop-file.folder) (failed c.entries_in_file.new.folder) c.in_ok-entries.entries c.entries_in_file.result c.in_ok-entries.was c.loop-file.invariant.failures c.entries_in_file.ensures.device.later
          c.entries_in_file.ensures.device.at_once;
    }

pub returns-in_err-entries-clause-given : goal.returns-in_err-entries-clause-given
returns-in_err-entries-clause-given g c tables held stated distinct =
    let file : LevelFile = c.file-item.result in
    let is : IsFileOf g.C.Comparator.cmp tables file.meta.now = subst (λ (f : LevelFile). IsFileOf g.C.Comparator.cmp tables f.meta.now) (sym c.file-item.is) (stated c.loop-file.file-index file c.loop-file-test.true) in
    handed c.from_residual.result c.in_err-entries.field-0.0 _ c.from_residual.ensures.1 (c.in_err-entries.ensures.given tables (tables_later _ _ tables c.loop-file.invariant.reads.same held) is)

pub returns-clause-given : goal.returns-clause-given
returns-clause-given g c tables held stated distinct =
    let files : List LevelFile = c.args.files.now in
    let all : take c.loop-file.file-index files ≡ files = take_all c.loop-file.file-index files (omega arith) in
    let is = c.loop-file.invariant.placed tables held stated distinct in
    (subst (λ (fs : List LevelFile). ArePlaced c.args.user.now tables (map level_file_in fs) c.loop-file.found.items) all is.0, is.1)
