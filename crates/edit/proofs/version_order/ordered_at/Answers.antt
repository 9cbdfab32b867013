use Rattle.std.proofs.Common.{Bor, List, Result, Ok, rules, sym, ap, subst}
use Rattle.std.specs.Ordering.{is_lt}
use Rattle.std.specs.List.Sorted.{IsPermutation}
use Rattle.std.proofs.lemmas.List.Sorted.{answers_always, ranks_by, IsPermutation-map}
use Rattle.coding.specs.declared.fault.Fault.{Fault}
use Rattle.edit.specs.VersionOrder.{file_cmp, files_at}
use Rattle.edit.specs.declared.meta.FileMeta.{FileMeta}
use Rattle.edit.proofs.SortedFiles.{version_cmp-total, lent, lent_sorted, metas_are, order_is}
use Rattle.edit.proofs.version_order.ordered_at.Goals as goal

abbrev metas : List FileMeta → Result (List FileMeta) Fault
metas files = Ok files

pub returns-clause-ordered : goal.returns-clause-ordered
returns-clause-ordered g c =
    let up = c.sort_unstable_by.ensures.sorted (λ (x y : Bor FileMeta). is_lt (file_cmp g.C.Comparator.cmp x.now y.now)) (ranks_by (version_cmp-total g.met.C.Comparator.total) (λ (f : Bor FileMeta). f.now)) (answers_always _ _ _ (λ f a r k h. search rules)) in
    let found = metas_are (files_at c.args.files.now c.args.level) (lent c.in_ok-found.found.items) c.in_ok-found.ensures.files in
    let p : IsPermutation (files_at c.args.files.now c.args.level) (lent c.sort_unstable_by.new.self.items) =
    subst (λ (fs : List FileMeta). IsPermutation fs (lent c.sort_unstable_by.new.self.items)) (sym found) (IsPermutation-map (λ (f : Bor FileMeta). f.now) c.in_ok-found.found.items c.sort_unstable_by.new.self.items c.sort_unstable_by.ensures.permutation) in
    ap metas (order_is g.met.C.Comparator.total c.args.files.now c.args.level (lent c.sort_unstable_by.new.self.items) c.in_ok-found.ensures.apart p (lent_sorted (file_cmp g.C.Comparator.cmp) c.sort_unstable_by.new.self.items up))
