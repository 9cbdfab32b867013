use Rattle.std.proofs.Common.{Bor, ◌≡◌, ℕ, ◌+◌, ◌-◌, ◌++◌, nat_lt, Bool, true, false, cond, [], ◌∷◌, List, map, drop, length, get_or, sym, ap, subst, ◌∙◌, inl, refl, arith, append-nil}
use Rattle.std.specs.Arc.{arc_value}
use Rattle.std.specs.List.{filter}
use Rattle.std.specs.Cmp.{IsTotalOrder}
use Rattle.std.specs.declared.cmp.Ordering.{Ordering}
use Rattle.std.proofs.lemmas.Bool.{eqb-false, eqb-true}
use Rattle.std.proofs.lemmas.List.{drop_all, length-map, map-append}
use Rattle.edit.proofs.Binds.{ok_is}
use Rattle.edit.specs.Version.{State, are_apart}
use Rattle.edit.specs.VersionOrder.{level_files}
use Rattle.edit.specs.declared.meta.FileMeta.{FileMeta}
use Rattle.pick.specs.ApartChoice.{both_files}
use Rattle.pick.specs.Choices.{is_in}
use Rattle.pick.specs.FileRanges.{AreByStart, AreFileRanges, AreRising}
use Rattle.pick.specs.PickedInputs.{files_from, input_at, picked_in}
use Rattle.pick.specs.declared.picked_inputs.InputFile.{InputFile}
use Rattle.pick.specs.declared.range.UserRange.{UserRange}
use Rattle.pick.proofs.LevelInputs.{inputs_lent}
use Rattle.pick.proofs.Lists.{lent}
use Rattle.pick.proofs.PartRanges.{has_file, in_at, made_all, made_of, none_pass, parts_of_ranges, range_part, some_pass, step_at, with_none, with_part}
use Rattle.pick.proofs.Starts.{by_version, ending_order, left_all, left_next, left_on, rising_from}
use Rattle.pick.proofs.VersionFiles.{are_level_files}
use Rattle.pick.proofs.Widened.{all_ranges}
use Rattle.pick.proofs.level_parts.parts_of.Goals as goal
use Rattle.pick.proofs.level_parts.parts_of.Goals.{then-not-is_empty+in_ok-part+in_ok-push, else-not-is_empty}

-- what a range is outside of the list
abbrev nothing : UserRange
nothing = record { smallest = record { ref_ptr = (0, 0); now = [] }; largest = record { ref_ptr = (0, 0); now = [] } }

module _ (cmp : List ℕ → List ℕ → Ordering) (total : IsTotalOrder cmp) (v : State) where
  order_of : (level : ℕ) → are_apart v.files ≡ true → AreByStart cmp (level_files cmp v level)
  order_of level apart = by_version cmp total (level_files cmp v level) (are_level_files total v level apart).rise

  none_or : (b : Bool) (files : List FileMeta) → AreByStart cmp files → AreByStart cmp (cond b [] files)
  none_or true files order = tt
  none_or false files order = order

  filled_by : (level : ℕ) (upper lower : List FileMeta) (ranges all : List UserRange) → upper ≡ level_files cmp v level → lower ≡ level_files cmp v (level + 1) → all ≡ ranges → AreFileRanges cmp (upper ++ lower) ranges → AreFileRanges cmp (both_files cmp v level) all
  filled_by level upper lower ranges all upper_is lower_is all_is h =
      subst (λ (us : List FileMeta). AreFileRanges cmp (us ++ level_files cmp v (level + 1)) all) upper_is
      (subst (λ (ls : List FileMeta). AreFileRanges cmp (upper ++ ls) all) lower_is (subst (AreFileRanges cmp (upper ++ lower)) (sym all_is) h))

pub loop-range-init : goal.loop-range-init
loop-range-init g c =
    let cmp = g.C.Comparator.cmp in
    let total = g.met.C.Comparator.total in
    let v = c.args.sides.version.now in
    let level = c.args.sides.level in
    let ranges = c.deref-range-items.result.now in
    let near = ok_is (cond (nat_lt 6 (level + 2)) [] (level_files cmp v (level + 2))) (lent c.in_ok-near.near.items) c.in_ok-near.ensures ∙ ap lent (sym c.deref.ensures.value) in
    record {
      upper = left_all cmp total ranges (lent c.args.sides.upper.now) (subst (AreByStart cmp) (sym c.requires.upper) (order_of cmp total v level c.requires.state.apart));
      lower = left_all cmp total ranges (lent c.args.sides.lower.now) (subst (AreByStart cmp) (sym c.requires.lower) (order_of cmp total v (level + 1) c.requires.state.apart));
      near = left_all cmp total ranges (lent c.deref.result.now) (subst (AreByStart cmp) near (none_or cmp total v (nat_lt 6 (level + 2)) (level_files cmp v (level + 2)) (order_of cmp total v (level + 2) c.requires.state.apart)));
      parts = ap (λ ps. map picked_in ps ++ parts_of_ranges cmp total v level c.args.sides.key.now (lent c.args.sides.upper.now) ranges) c.new-parts.ensures.items;
    }

pub files_in-requires : goal.files_in-requires
files_in-requires g c = rw c.reached-ahead.ensures.upper (ending_order g.C.Comparator.cmp g.met.C.Comparator.total _ (lent c.loop-range.ahead.upper.now) c.loop-range.invariant.upper.order)

pub part_in-requires-clause-lower : goal.part_in-requires-clause-lower
part_in-requires-clause-lower g c = rw c.reached-ahead.ensures.lower (ending_order g.C.Comparator.cmp g.met.C.Comparator.total _ (lent c.loop-range.ahead.lower.now) c.loop-range.invariant.lower.order)

pub part_in-requires-clause-near : goal.part_in-requires-clause-near
part_in-requires-clause-near g c = rw c.reached-ahead.ensures.near (ending_order g.C.Comparator.cmp g.met.C.Comparator.total _ (lent c.loop-range.ahead.near.now) c.loop-range.invariant.near.order)

pub loop-range-preserved : goal.loop-range-preserved
loop-range-preserved g c =
    let cmp = g.C.Comparator.cmp in
    let total = g.met.C.Comparator.total in
    let v = c.args.sides.version.now in
    let level = c.args.sides.level in
    let key = c.args.sides.key.now in
    let upper = lent c.args.sides.upper.now in
    let lower = lent c.args.sides.lower.now in
    let near = lent c.deref.result.now in
    let ranges = c.deref-range-items.result.now in
    let k = c.loop-range.range-index in
    let r = get_or ranges k nothing in
    let rest = drop (k + 1) ranges in
    let here : drop k ranges ≡ r ∷ rest = step_at ranges k nothing c.loop-range-test.true in
    let filled : AreFileRanges cmp (both_files cmp v level) ranges = filled_by cmp total v level upper lower c.in_ok-ranges.ranges.items ranges c.requires.upper c.requires.lower c.deref-range-items.ensures.value c.in_ok-ranges.ensures.ok in
    let rising : AreRising cmp (drop k ranges) = rising_from cmp total ranges k filled.rising in
    let left_upper = left_on cmp total r rest (drop k ranges) upper (lent c.loop-range.ahead.upper.now) (lent c.reached-ahead.result.upper.now) here rising c.reached-ahead.ensures.upper c.loop-range.invariant.upper in
    let left_lower = left_on cmp total r rest (drop k ranges) lower (lent c.loop-range.ahead.lower.now) (lent c.reached-ahead.result.lower.now) here rising c.reached-ahead.ensures.lower c.loop-range.invariant.lower in
    let left_near = left_on cmp total r rest (drop k ranges) near (lent c.loop-range.ahead.near.now) (lent c.reached-ahead.result.near.now) here rising c.reached-ahead.ensures.near c.loop-range.invariant.near in
    let taken : lent c.in_ok-upper.upper.items ≡ filter (is_in cmp r) upper = sym (ok_is (filter (is_in cmp r) (lent c.reached-ahead.result.upper.now)) (lent c.in_ok-upper.upper.items) c.in_ok-upper.ensures) ∙ left_upper.same r (inl refl) in
    let counted : length (filter (is_in cmp r) upper) ≡ c.in_ok-upper.upper.len = ap length (sym taken) ∙ length-map c.in_ok-upper.upper.items (λ (f : Bor FileMeta). f.now) ∙ sym c.in_ok-upper.upper.ok.0 in
    let parts = map picked_in c.loop-range.parts.items in
    let whole = parts_of_ranges cmp total v level key upper ranges in
    let so_far : parts ++ parts_of_ranges cmp total v level key upper (r ∷ rest) ≡ whole = ap (λ (rs : List UserRange). parts ++ parts_of_ranges cmp total v level key upper rs) (sym here) ∙ c.loop-range.invariant.parts in
    record {
      upper = left_next cmp total r rest upper (lent c.reached-ahead.result.upper.now) left_upper;
      lower = left_next cmp total r rest lower (lent c.reached-ahead.result.lower.now) left_lower;
      near = left_next cmp total r rest near (lent c.reached-ahead.result.near.now) left_near;
      parts = elim c.if-not-is_empty.branch [
        | then-not-is_empty+in_ok-part+in_ok-push w ↦
            let has : has_file cmp total v level upper r ≡ true =
            some_pass (is_in cmp r) upper (omega (arith, counted, eqb-false c.in_ok-upper.upper.len 0 (sym c.is_empty.ensures ∙ w.if-not-is_empty.true))) in
            let part = w.in_ok-part.part in
            let own = w.deref-then-not-is_empty.result.now in
            let files : map (λ (f : Bor FileMeta). input_at level f.now) own ++ map (input_at (level + 1)) (filter (is_in cmp r) (lent c.reached-ahead.result.lower.now))
            ≡ map (input_at level) (filter (is_in cmp r) (level_files cmp v level)) ++ map (input_at (level + 1)) (filter (is_in cmp r) (level_files cmp v (level + 1))) =
            ap (λ (is : List InputFile). is ++ map (input_at (level + 1)) (filter (is_in cmp r) (lent c.reached-ahead.result.lower.now)))
            (inputs_lent level own ∙ ap (map (input_at level)) (ap lent w.deref-then-not-is_empty.ensures.value ∙ taken ∙ ap (filter (is_in cmp r)) c.requires.upper))
            ∙ ap (λ (fs : List FileMeta). map (input_at level) (filter (is_in cmp r) (level_files cmp v level)) ++ map (input_at (level + 1)) fs) (left_lower.same r (inl refl) ∙ ap (filter (is_in cmp r)) c.requires.lower) in
            let grandparents : filter (is_in cmp r) (lent c.reached-ahead.result.near.now) ≡ filter (is_in cmp r) (cond (nat_lt 6 (level + 2)) [] (level_files cmp v (level + 2))) =
            left_near.same r (inl refl) ∙ ap (filter (is_in cmp r)) (ap lent c.deref.ensures.value ∙ sym (ok_is (cond (nat_lt 6 (level + 2)) [] (level_files cmp v (level + 2))) (lent c.in_ok-near.near.items) c.in_ok-near.ensures)) in
            let deeper : (arc_value c.in_ok-deeper.deeper).items ≡ files_from cmp v (level + 2) (7 - (level + 2)) = sym (ok_is (files_from cmp v (level + 2) (7 - (level + 2))) (arc_value c.in_ok-deeper.deeper).items c.in_ok-deeper.ensures) in
            let made = made_of level (map (λ (f : Bor FileMeta). input_at level f.now) own ++ map (input_at (level + 1)) (filter (is_in cmp r) (lent c.reached-ahead.result.lower.now))) (filter (is_in cmp r) (lent c.reached-ahead.result.near.now))
            (arc_value c.in_ok-deeper.deeper).items key in
            with_part cmp total v level key upper r rest parts (map picked_in c.if-not-is_empty.parts.items) whole (picked_in part) has
            (ap (λ x. map picked_in x.items) w.parts-is ∙ ap (map picked_in) w.in_ok-push.ensures.items ∙ map-append picked_in c.loop-range.parts.items (part ∷ []))
            (sym (ok_is made (picked_in part) w.in_ok-part.ensures)
            ∙ range_part cmp total v level (all_ranges cmp total (both_files cmp v level) c.requires.ranges) key ranges filled r (in_at ranges k nothing c.loop-range-test.true) (ap (λ (fs : List FileMeta). has_file cmp total v level fs r) (sym c.requires.upper) ∙ has)
            (map (λ (f : Bor FileMeta). input_at level f.now) own ++ map (input_at (level + 1)) (filter (is_in cmp r) (lent c.reached-ahead.result.lower.now))) (filter (is_in cmp r) (lent c.reached-ahead.result.near.now)) (arc_value c.in_ok-deeper.deeper).items files grandparents deeper)
            so_far
        | else-not-is_empty w ↦
            let has : has_file cmp total v level upper r ≡ false = none_pass (is_in cmp r) upper (counted ∙ eqb-true c.in_ok-upper.upper.len 0 (sym c.is_empty.ensures ∙ w.if-not-is_empty.false)) in
            ap (λ x. map picked_in x.items ++ parts_of_ranges cmp total v level key upper rest) w.parts-is ∙ with_none cmp total v level key upper r rest parts whole has so_far
      ];
    }

pub returns : goal.returns
returns g c =
    let cmp = g.C.Comparator.cmp in
    let total = g.met.C.Comparator.total in
    let v = c.args.sides.version.now in
    let level = c.args.sides.level in
    let key = c.args.sides.key.now in
    let upper = lent c.args.sides.upper.now in
    let ranges = c.deref-range-items.result.now in
    let k = c.loop-range.range-index in
    let parts = map picked_in c.loop-range.parts.items in
    let filled : AreFileRanges cmp (both_files cmp v level) ranges = filled_by cmp total v level upper (lent c.args.sides.lower.now) c.in_ok-ranges.ranges.items ranges c.requires.upper c.requires.lower c.deref-range-items.ensures.value c.in_ok-ranges.ensures.ok in
    let ended : drop k ranges ≡ [] = drop_all k ranges (omega (arith, c.loop-range-test.false)) in
    made_all cmp total v level (all_ranges cmp total (both_files cmp v level) c.requires.ranges) key ranges parts (order_of cmp total v level c.requires.state.apart) filled
    (sym (append-nil parts) ∙ sym (ap (λ (rs : List UserRange). parts ++ parts_of_ranges cmp total v level key upper rs) ended) ∙ c.loop-range.invariant.parts
    ∙ ap (λ (fs : List FileMeta). parts_of_ranges cmp total v level key fs ranges) c.requires.upper)
