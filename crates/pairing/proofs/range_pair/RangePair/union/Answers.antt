use Rattle.std.proofs.Common.{◌≡◌, List, [], ◌∷◌, ◌++◌, None, Err, false, sym, ap, subst, ◌∙◌}
use Rattle.std.proofs.lemmas.Result.{err_from_is_err_and}
use Rattle.ikey.specs.Answers.{UnlessMemory, fault}
use Rattle.ikey.specs.fault.Fault.{Fault}
use Rattle.ikey.specs.fault.FaultName.TheVariants.{Duplicate}
use Rattle.ikey.proofs.Refusals.{unless_from}
use Rattle.block.specs.EncodedEntry.{Entry}
use Rattle.ikey.specs.Bytewise.{bytewise_cmp}
use Rattle.table.proofs.Walks.{none_valid}
use Rattle.table.proofs.Steps.{first_entry}
use Rattle.merge.specs.MergedLists.{merged}
use Rattle.pairing.specs.TestedUnion.{distinct_after, is_after_key, last_key_or, tested_entries, union_of}
use Rattle.pairing.proofs.TestedLists.{with_front}
use Rattle.pairing.proofs.RangeUnions.{begins_with, begins_behind, goes_on_behind, ends_behind, is_done_behind, merged_limited, first_limited, rest_limited}
use Rattle.pairing.proofs.range_pair.RangePair.union.Goals as goal

pub loop-alloc-init : goal.loop-alloc-init
loop-alloc-init c =
    let same = begins_with c.in_ok-merging.merging c.in_ok-cursors.field-0.items c.args.self.now c.in_ok-cursors.ensures.all c.in_ok-merging.ensures in
    record {
      so_far = begins_behind c.new-union.result.items c.in_ok-merging.merging c.args.self.now c.new-union.ensures.items same;
      limited = merged_limited c.in_ok-merging.merging c.args.self.now same c.in_ok-cursors.ensures.limited;
    }

pub returns-in_err-push_above : goal.returns-in_err-push_above
returns-in_err-push_above c =
    let p = err_from_is_err_and c.from_residual-in_err-push_above.result c.from_residual-in_err-push_above.ensures.1 in
    let run = tested_entries c.loop-alloc.union.items in
    let key = c.key.result.bytes.now in
    let e : Fault = c.in_err-push_above.field-0.0 in
    let answer : UnlessMemory e (union_of c.args.self.now ≡ Err e) =
    unless_from e ((is_after_key (last_key_or None run) key ≡ false) × (e ≡ fault Duplicate)) (union_of c.args.self.now ≡ Err e)
    (λ refused. ends_behind run (merged bytewise_cmp c.loop-alloc.merging) key (union_of c.args.self.now) c.key.ensures refused.0 c.loop-alloc.invariant.so_far ∙ ap (λ (f : Fault). Err f) (sym refused.1))
    c.in_err-push_above.ensures.refused in
    rw (p.1) (subst (λ (f : Fault). UnlessMemory f (union_of c.args.self.now ≡ Err f)) (sym p.2) answer)

pub push_above-requires : goal.push_above-requires
push_above-requires c =
    first_limited (merged bytewise_cmp c.loop-alloc.merging) c.value.result.now c.value.ensures c.loop-alloc.invariant.limited

pub loop-alloc-preserved : goal.loop-alloc-preserved
loop-alloc-preserved c =
    let run = tested_entries c.loop-alloc.union.items in
    let q : List Entry = merged bytewise_cmp c.loop-alloc.merging in
    let key = c.key.result.bytes.now in
    let value = c.value.result.now in
    let entry : Entry = record { key = key; value = value } in
    let first = first_entry q key value c.key.ensures c.value.ensures in
    let on = goes_on_behind run q key value (union_of c.args.self.now) first c.in_ok-push_above.ensures.behind c.loop-alloc.invariant.so_far in
    record {
      so_far = subst (λ (es : List Entry). with_front es (distinct_after (last_key_or None es) (merged bytewise_cmp c.advance.new.self)) ≡ union_of c.args.self.now) (sym c.in_ok-push_above.ensures.ok)
          (subst (λ (es : List Entry). with_front (run ++ entry ∷ []) (distinct_after (last_key_or None (run ++ entry ∷ [])) es) ≡ union_of c.args.self.now) (sym c.in_ok-advance.ensures.ok) on);
      limited = rest_limited q (merged bytewise_cmp c.advance.new.self) c.in_ok-advance.ensures.ok c.loop-alloc.invariant.limited;
    }

pub returns : goal.returns
returns c =
    let q : List Entry = merged bytewise_cmp c.loop-alloc.merging in
    is_done_behind (tested_entries c.loop-alloc.union.items) q (union_of c.args.self.now) (none_valid c.valid.result q c.valid.ensures.some.1 c.loop-alloc-test.false) c.loop-alloc.invariant.so_far
