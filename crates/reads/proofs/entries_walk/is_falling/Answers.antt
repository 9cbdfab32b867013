use Rattle.std.proofs.Common.{◌≡◌, ◌<◌, List, [], ◌∷◌, drop, length, Some, true, false, refl, sym, ap, subst, ◌∙◌, arith}
use Rattle.table.specs.EncodedEntry.{Entry}
use Rattle.ikey.specs.Key.{IsInternalKey, user_of}
use Rattle.split.specs.Ranges.{KeyRange, key_range, IsIn}
use Rattle.merge.specs.LeastList.{IsMerging}
use Rattle.merge.specs.MergedLists.{merged}
use Rattle.merge.proofs.Leasts.{some_where_least}
use Rattle.split.specs.Bounds.{is_user_before}
use Rattle.reads.specs.FileChecks.{is_from}
use Rattle.reads.proofs.EntriesInOrder.{all_left, key_is, came_to_end, goes_on, went_back, none_there, none_of_kind, behind_bound, are_falling, fall}
use Rattle.reads.proofs.Ranged.{within, before_it, bound_of}
use Rattle.reads.proofs.entries_walk.is_falling.Goals.{else-within-via-then-within+else-steps_back, else-within-via-else-within}
use Rattle.reads.proofs.entries_walk.is_falling.Goals as goal

fewer : (es fs : List Entry) → 0 < length es → fs ≡ drop 1 es → length fs < length es
fewer [] fs h k = absurd (omega arith)
fewer (e ∷ es) fs h k = let n : length fs ≡ length es = ap length k in omega (arith, n)

pub loop-place-init : goal.loop-place-init
loop-place-init g c = all_left g.C.Comparator.cmp g.met.C.Comparator.total g.met.C.Comparator.exact (IsIn g.C.Comparator.cmp (key_range c.args.range)) c.args.merging.now c.args.merging.now refl

pub loop-place-smaller : goal.loop-place-smaller
loop-place-smaller g c =
    fewer (merged g.C.Comparator.cmp c.loop-place.merging) (merged g.C.Comparator.cmp c.advance.new.self) (some_where_least g.C.Comparator.cmp g.met.C.Comparator.total c.loop-place.merging c.in-Some.place c.in-Some.ensures) c.in_ok-advance.ensures.ok

pub advance-requires : goal.advance-requires
advance-requires g c κs = ((refl, tt), some_where_least g.C.Comparator.cmp g.met.C.Comparator.total c.loop-place.merging c.in-Some.place c.in-Some.ensures)

pub key-begun-requires : goal.key-begun-requires
key-begun-requires g c κs = ((refl, tt), some_where_least g.C.Comparator.cmp g.met.C.Comparator.total c.loop-place.merging c.in-Some.place c.in-Some.ensures)

pub returns-then-not-is_before-clause-falls : goal.returns-then-not-is_before-clause-falls
returns-then-not-is_before-clause-falls g c =
    let cmp = g.C.Comparator.cmp in
    let total = g.met.C.Comparator.total in
    let exact = g.met.C.Comparator.exact in
    let range : KeyRange = key_range c.args.range in
    let lists : List (List Entry) = c.loop-place.merging in
    let all : List (List Entry) = c.args.merging.now in
    let m : IsMerging cmp lists (Some c.in-Some.place) = c.in-Some.ensures in
    let first = key_is cmp total exact lists c.in-Some.place m c.key-begun.result.bytes.now c.key-begun.ensures in
    let test : is_user_before cmp range.upper true (user_of c.key-begun.result.bytes.now) ≡ false = sym c.is_before.ensures ∙ c.if-not-is_before.true in
    let bound = bound_of cmp (user_of m.least.first.key) range.upper (ap (λ (k : List _). is_user_before cmp range.upper true (user_of k)) first ∙ test) in (
      λ e. are_falling cmp total exact (IsIn cmp range) all (none_of_kind cmp total exact (IsIn cmp range) lists all
          (λ x at is. behind_bound cmp total exact lists c.in-Some.place m bound.0 bound.2 x at (is.before bound.0 bound.1)) c.loop-place.invariant),
      λ h. refl,
    )

pub returns-in_default-place-clause-falls : goal.returns-in_default-place-clause-falls
returns-in_default-place-clause-falls g c =
    let cmp = g.C.Comparator.cmp in
    let total = g.met.C.Comparator.total in
    let exact = g.met.C.Comparator.exact in
    let range : KeyRange = key_range c.args.range in
    let all : List (List Entry) = c.args.merging.now in
    let m : IsMerging cmp c.loop-place.merging (Some c.in-Some.place) = c.in-Some.ensures in
    let first = key_is cmp total exact c.loop-place.merging c.in-Some.place m c.key-begun.result.bytes.now c.key-begun.ensures in
    let lawful = subst IsInternalKey (sym first) c.key-begun.result.lawful in (
      λ e. are_falling cmp total exact (IsIn cmp range) all
          (came_to_end cmp total exact (IsIn cmp range) c.loop-place.merging c.advance.new.self all c.in-Some.place m lawful c.in_ok-advance.ensures.advanced c.loop-place.invariant c.in_default-place.ensures),
      λ h. refl,
    )

pub key-requires : goal.key-requires
key-requires g c κs = ((refl, tt), some_where_least g.C.Comparator.cmp g.met.C.Comparator.total c.advance.new.self c.in-Some-place.next c.in-Some-place.ensures)

pub returns-then-steps_back-clause-falls : goal.returns-then-steps_back-clause-falls
returns-then-steps_back-clause-falls g c =
    let cmp = g.C.Comparator.cmp in
    let total = g.met.C.Comparator.total in
    let exact = g.met.C.Comparator.exact in
    let range : KeyRange = key_range c.args.range in
    let all : List (List Entry) = c.args.merging.now in
    let m : IsMerging cmp c.loop-place.merging (Some c.in-Some.place) = c.in-Some.ensures in
    let n : IsMerging cmp c.advance.new.self (Some c.in-Some-place.next) = c.in-Some-place.ensures in
    let first = key_is cmp total exact c.loop-place.merging c.in-Some.place m c.key-begun.result.bytes.now c.key-begun.ensures in
    let next = key_is cmp total exact c.advance.new.self c.in-Some-place.next n c.key.result.bytes.now c.key.ensures in
    let lawful = subst IsInternalKey (sym first) c.key-begun.result.lawful in
    let again : c.as_key.result.bytes.now ≡ c.key-begun.result.bytes.now = c.as_key.ensures ∙ c.in_ok-set.ensures.ok in
    let last : c.as_key-then-within.result.bytes.now ≡ c.key-begun.result.bytes.now = c.as_key-then-within.ensures ∙ c.in_ok-set.ensures.ok in
    let before : is_user_before cmp range.upper true (user_of m.least.first.key) ≡ true = ap (λ (k : List _). is_user_before cmp range.upper true (user_of k)) first ∙ sym c.is_before.ensures ∙ c.if-not-is_before.false in
    let from : is_from cmp range (user_of m.least.first.key) ≡ true = ap (λ (k : List _). is_from cmp range (user_of k)) (first ∙ sym again) ∙ sym c.is_from-within.ensures ∙ c.if-within.true in (
      λ e. absurd cc,
      λ h. absurd (went_back cmp total exact (IsIn cmp range) c.loop-place.merging c.advance.new.self all c.in-Some.place m lawful c.in_ok-advance.ensures.advanced c.loop-place.invariant c.in-Some-place.next n c.as_key-then-within.result.bytes.now c.key.result.bytes.now (first ∙ sym last) next
          (within cmp range (user_of m.least.first.key) before from) (sym c.steps_back.ensures ∙ c.if-steps_back.true) (fall cmp total exact (IsIn cmp range) all h)),
    )

pub loop-place-preserved : goal.loop-place-preserved
loop-place-preserved g c =
    let cmp = g.C.Comparator.cmp in
    let total = g.met.C.Comparator.total in
    let exact = g.met.C.Comparator.exact in
    let range : KeyRange = key_range c.args.range in
    let all : List (List Entry) = c.args.merging.now in
    let m : IsMerging cmp c.loop-place.merging (Some c.in-Some.place) = c.in-Some.ensures in
    let n : IsMerging cmp c.advance.new.self (Some c.in-Some-place.next) = c.in-Some-place.ensures in
    let first = key_is cmp total exact c.loop-place.merging c.in-Some.place m c.key-begun.result.bytes.now c.key-begun.ensures in
    let lawful = subst IsInternalKey (sym first) c.key-begun.result.lawful in
    let again : c.as_key.result.bytes.now ≡ c.key-begun.result.bytes.now = c.as_key.ensures ∙ c.in_ok-set.ensures.ok in
    elim c.else-within.branch [
      | else-within-via-then-within+else-steps_back w ↦
          let last : w.as_key-then-within.result.bytes.now ≡ c.key-begun.result.bytes.now = w.as_key-then-within.ensures ∙ c.in_ok-set.ensures.ok in
          let next = key_is cmp total exact c.advance.new.self c.in-Some-place.next n w.key.result.bytes.now w.key.ensures in
          goes_on cmp total exact (IsIn cmp range) c.loop-place.merging c.advance.new.self all c.in-Some.place m lawful c.in_ok-advance.ensures.advanced c.loop-place.invariant c.in-Some-place.next n w.as_key-then-within.result.bytes.now w.key.result.bytes.now (first ∙ sym last) next
          (λ is. sym w.steps_back.ensures ∙ w.if-steps_back.false)
      | else-within-via-else-within w ↦
          let from : is_from cmp range (user_of m.least.first.key) ≡ false = ap (λ (k : List _). is_from cmp range (user_of k)) (first ∙ sym again) ∙ sym c.is_from-within.ensures ∙ w.if-within.false in
          goes_on cmp total exact (IsIn cmp range) c.loop-place.merging c.advance.new.self all c.in-Some.place m lawful c.in_ok-advance.ensures.advanced c.loop-place.invariant c.in-Some-place.next n m.least.first.key n.least.first.key refl refl
          (λ is. absurd (before_it cmp range (user_of m.least.first.key) from is))
    ]

pub returns-clause-falls : goal.returns-clause-falls
returns-clause-falls g c =
    let cmp = g.C.Comparator.cmp in
    let total = g.met.C.Comparator.total in
    let exact = g.met.C.Comparator.exact in
    let range : KeyRange = key_range c.args.range in
    let all : List (List Entry) = c.args.merging.now in
    (λ e. are_falling cmp total exact (IsIn cmp range) all (none_there cmp total exact (IsIn cmp range) c.loop-place.merging all c.in_default.ensures c.loop-place.invariant), λ h. refl)
