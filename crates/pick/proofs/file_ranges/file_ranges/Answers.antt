use Rattle.std.proofs.Common.{Bor, Vec, Global, List, Result, Ok, Err, ◌≡◌, ◌++◌, rules, sym, ap, subst, ◌∙◌}
use Rattle.std.specs.Prelude.{IfOk}
use Rattle.std.specs.List.Sorted.{IsPermutation}
use Rattle.std.specs.Ordering.{is_lt}
use Rattle.std.proofs.lemmas.List.{map-append}
use Rattle.std.proofs.lemmas.List.Sorted.{answers_always, ranks_by, IsPermutation-map, IsPermutation-sym}
use Rattle.edit.proofs.SortedFiles.{lent_sorted}
use Rattle.edit.specs.fault.Fault.{Fault}
use Rattle.edit.specs.declared.meta.FileMeta.{FileMeta}
use Rattle.pick.specs.FileRanges.{AreByStart, AreFileRanges}
use Rattle.pick.specs.declared.range.UserRange.{UserRange}
use Rattle.pick.proofs.Lists.{lent}
use Rattle.pick.proofs.Starts.{by_sort, start_cmp, start_total}
use Rattle.pick.proofs.Widened.{have_same, permuted_in, ranges_same}
use Rattle.pick.proofs.file_ranges.file_ranges.Goals as goal

-- the files of both levels, as they are sorted
same_files : (upper lower joined sorted all : List (Bor FileMeta)) → joined ≡ upper ++ lower → IsPermutation joined sorted → all ≡ sorted → IsPermutation (lent upper ++ lent lower) (lent all)
same_files upper lower joined sorted all joined_is p all_is =
    subst (λ (fs : List FileMeta). IsPermutation fs (lent all)) (ap lent joined_is ∙ map-append (λ (f : Bor FileMeta). f.now) upper lower)
    (subst (λ (fs : List (Bor FileMeta)). IsPermutation (lent joined) (lent fs)) (sym all_is) (IsPermutation-map (λ (f : Bor FileMeta). f.now) joined sorted p))

if_ok : {X : Type 0} (r : Result X Fault) (P Q : X → Type 0) → ((x : X) → P x → Q x) → IfOk r P → IfOk r Q
if_ok (Ok x) P Q f p = f x p
if_ok (Err e) P Q f p = tt

pub widened_ranges-requires-clause-order : goal.widened_ranges-requires-clause-order
widened_ranges-requires-clause-order g c =
    let cmp = g.C.Comparator.cmp in
    let total = g.met.C.Comparator.total in
    let sorted = c.sort_unstable_by.new.self.items in
    let up = c.sort_unstable_by.ensures.sorted (λ (x y : Bor FileMeta). is_lt (start_cmp cmp total x.now y.now)) (ranks_by (start_total cmp total) (λ (f : Bor FileMeta). f.now)) (answers_always _ _ _ (λ f a r k h. search rules)) in
    subst (λ (fs : List (Bor FileMeta)). AreByStart cmp (lent fs)) (sym c.deref.ensures.value) (by_sort cmp total (lent sorted) (lent_sorted (start_cmp cmp total) sorted up))

pub widened_ranges-requires-clause-ranges : goal.widened_ranges-requires-clause-ranges
widened_ranges-requires-clause-ranges g c =
    let upper = c.args.upper.now in
    let lower = c.args.lower.now in
    let all = c.deref.result.now in
    let p = same_files upper lower c.extend_from_slice.new.self.items c.sort_unstable_by.new.self.items all
    (c.in_ok-extend_from_slice.ensures.items ∙ ap (λ (fs : List (Bor FileMeta)). fs ++ lower) c.in_ok-files.ensures.items) c.sort_unstable_by.ensures.permutation c.deref.ensures.value in
    have_same g.C.Comparator.cmp g.met.C.Comparator.total (lent upper ++ lent lower) (lent all) (permuted_in (lent all) (lent upper ++ lent lower) (IsPermutation-sym (lent upper ++ lent lower) (lent all) p)) c.requires

pub returns-clause-ok : goal.returns-clause-ok
returns-clause-ok g c =
    let cmp = g.C.Comparator.cmp in
    let upper = c.args.upper.now in
    let lower = c.args.lower.now in
    let all = c.deref.result.now in
    let p = same_files upper lower c.extend_from_slice.new.self.items c.sort_unstable_by.new.self.items all
    (c.in_ok-extend_from_slice.ensures.items ∙ ap (λ (fs : List (Bor FileMeta)). fs ++ lower) c.in_ok-files.ensures.items) c.sort_unstable_by.ensures.permutation c.deref.ensures.value in
    if_ok c.widened_ranges.result (λ (v : Vec UserRange Global). AreFileRanges cmp (lent all) v.items) (λ (v : Vec UserRange Global). AreFileRanges cmp (lent upper ++ lent lower) v.items)
    (λ v. ranges_same cmp g.met.C.Comparator.total (lent all) (lent upper ++ lent lower) (permuted_in (lent all) (lent upper ++ lent lower) (IsPermutation-sym (lent upper ++ lent lower) (lent all) p)) (permuted_in (lent upper ++ lent lower) (lent all) p) v.items)
    c.widened_ranges.ensures.ok
