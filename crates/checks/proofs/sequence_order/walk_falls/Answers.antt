use Rattle.std.proofs.Common.{Bool, List, length, map, get_or, Err, refl, sym, ap, subst, ◌∙◌, arith}
use mathlib.Core.List.{not-mem-nil}
use Rattle.std.proofs.lemmas.Result.{err_from_is_err_and}
use Rattle.table.specs.EncodedEntry.{Entry}
use Rattle.split.specs.Ranges.{key_range}
use Rattle.checks.specs.CommonRange.{TellsRange}
use Rattle.checks.proofs.FallingRanges.{all_told, only_memory_left}
use Rattle.checks.proofs.sequence_order.walk_falls.Goals as goal

pub returns-in_err-found-clause-memory : goal.returns-in_err-found-clause-memory
returns-in_err-found-clause-memory g c =
    let lists : List (List Entry) = map (λ t. t.now.entries) c.args.tables.now in
    let p = err_from_is_err_and c.from_residual.result c.from_residual.ensures.1 in
    let e = c.in_err-found.ensures in
    let why = c.in_err-found.field-0.0 in
    rw (p.1, p.2) (only_memory_left (TellsRange g.C.Comparator.cmp (key_range c.args.within) c.args.split.now lists) c.count_ranges.result (Err why) why refl e.refused e.workers)

pub returns-clause-falls : goal.returns-clause-falls
returns-clause-falls g c =
    let cmp = g.C.Comparator.cmp in
    let boundaries : List (List _) = c.args.split.now in
    let lists : List (List Entry) = map (λ t. t.now.entries) c.args.tables.now in
    let ok = c.in_ok-found.ensures.ok in
    all_told cmp (key_range c.args.within) boundaries c.count_ranges.ensures.cover lists c.deref.result.now (ap length c.deref.ensures.value ∙ ok.len ∙ c.count_ranges.ensures.number)
    (λ i d lt. subst (λ (outs : List Bool). TellsRange cmp (key_range c.args.within) boundaries lists i (get_or outs i d)) (sym c.deref.ensures.value) (ok.each i d (omega (arith, c.count_ranges.ensures.number, lt))).1) c.are_all_true.result (sym c.are_all_true.ensures)

pub run-requires-lives-L-Labour-2 : goal.run-requires-lives-L-Labour-2
run-requires-lives-L-Labour-2 g c κs within = λ a at. absurd (not-mem-nil (c.type_bounds.static-C a at))
