use Rattle.std.proofs.Common.{Bor, ◌≡◌, List, [], ◌++◌, map, take, rules, sym, ap, ap₂, subst, ◌∙◌, arith}
use Rattle.std.specs.BTreeSet.{insert_key}
use Rattle.std.specs.List.{IsDistinct, fold}
use Rattle.std.specs.List.Sorted.{IsPermutation}
use Rattle.std.specs.Ordering.{is_lt}
use Rattle.std.proofs.lemmas.List.{map-append, take_all}
use Rattle.std.proofs.lemmas.List.Sorted.{answers_always, ranks_by, IsPermutation-map}
use Rattle.folder.specs.meta.FileMeta.{FileMeta}
use Rattle.folder.proofs.SortedFiles.{lent, lent_sorted, same_number}
use Rattle.reads.specs.FileList.{same_file, newer_number}
use Rattle.faults.specs.Findings.{FoundFile, found_in, is_deep_found, is_top_found, metas_found}
use Rattle.faults.specs.declared.table_test.TestedFile.{TestedFile}
use Rattle.faults.proofs.FindingLemmas.{distinct_kept, files_found}
use Rattle.faults.proofs.SearchLemmas.{falling_is, falling_total}
use Rattle.faults.proofs.search_order.searched_files.Goals as goal

pub returns-clause-searched : goal.returns-clause-searched
returns-clause-searched c =
    let now = c.loop-file in
    let whole : take now.file-index c.args.tested.now ≡ c.args.tested.now = take_all now.file-index c.args.tested.now (omega (arith, c.loop-file-test.false)) in
    let found = map found_in c.args.tested.now in
    let tops = metas_found is_top_found found in
    let sorted = c.sort_unstable_by.new.self.items in
    let up = c.sort_unstable_by.ensures.sorted (λ (x y : Bor FileMeta). is_lt (newer_number x.now y.now)) (ranks_by falling_total (λ (f : Bor FileMeta). f.now)) (answers_always _ _ _ (λ f a r k h. search rules)) in
    let p : IsPermutation tops (lent sorted) =
    subst (λ (fs : List FileMeta). IsPermutation fs (lent sorted)) (now.invariant.top ∙ ap (λ (ts : List TestedFile). metas_found is_top_found (map found_in ts)) whole)
    (IsPermutation-map (λ (f : Bor FileMeta). f.now) now.files.items sorted c.sort_unstable_by.ensures.permutation) in
    let apart : IsDistinct same_number tops = distinct_kept (λ (f : FoundFile). f.file) is_top_found found (subst (IsDistinct same_file) (files_found c.args.tested.now) c.requires) in
    let front : fold (insert_key newer_number) [] tops ≡ lent sorted = falling_is tops (lent sorted) p (lent_sorted newer_number sorted up) apart in
    ap lent c.in_ok-append.ensures.items
    ∙ map-append (λ (f : Bor FileMeta). f.now) sorted now.deep.items
    ∙ ap₂ (λ (xs ys : List FileMeta). xs ++ ys) (sym front) (now.invariant.deep ∙ ap (λ (ts : List TestedFile). metas_found is_deep_found (map found_in ts)) whole)
