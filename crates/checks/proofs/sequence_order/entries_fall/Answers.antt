use Rattle.std.proofs.Common.{◌≡◌, true, List, [], map, sym, ap, subst, ◌∙◌, IfOk}
use Rattle.std.specs.Prelude.{◌↔◌}
use Rattle.std.proofs.lemmas.Bool.{eqb-true}
use Rattle.std.proofs.lemmas.List.{nil_from_length}
use Rattle.table.specs.EncodedEntry.{Entry}
use Rattle.reads.specs.MergedLists.{entries_of_lists}
use Rattle.split.specs.Ranges.{IsIn, key_range}
use Rattle.reads.specs.TableOrder.{AreFallingIn}
use Rattle.checks.proofs.BoundsLemmas.{none_walked, told_alike}
use Rattle.checks.proofs.sequence_order.entries_fall.Goals as goal

pub returns-then-is_empty-clause-falls : goal.returns-then-is_empty-clause-falls
returns-then-is_empty-clause-falls g c =
    let all : List (List Entry) = map (λ t. t.now.entries) c.args.tables.now in
    let walked : List (List Entry) = map (λ t. t.now.entries) c.in_ok-walked.walked.items in
    let none : walked ≡ [] = ap (map (λ t. t.now.entries)) (nil_from_length c.in_ok-walked.walked.items (sym c.in_ok-walked.walked.ok.0 ∙ eqb-true _ _ (sym c.is_empty.ensures ∙ c.if-is_empty.true))) in
    none_walked g.C.Comparator.cmp (key_range c.args.within) walked all c.in_ok-walked.ensures.walked none

pub returns-clause-falls : goal.returns-clause-falls
returns-clause-falls g c =
    let cmp = g.C.Comparator.cmp in
    let range = key_range c.args.within in
    let all : List (List Entry) = map (λ t. t.now.entries) c.args.tables.now in
    let walked : List (List Entry) = map (λ t. t.now.entries) c.in_ok-walked.walked.items in
    told_alike cmp range walked all c.in_ok-walked.ensures.walked c.walk_falls.result
    (subst (λ ts. IfOk c.walk_falls.result (λ falls. (falls ≡ true) ↔ AreFallingIn (IsIn cmp range) (entries_of_lists (map (λ t. t.now.entries) ts)))) c.deref-2.ensures.value c.walk_falls.ensures.falls)
