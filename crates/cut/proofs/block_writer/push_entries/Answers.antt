use Rattle.std.proofs.Common.{◌≡◌, ◌≤◌, ◌<◌, ◌+◌, ◌-◌, ◌++◌, ℕ, suc, List, [], length, take, drop, sym, ap, subst, ◌∙◌, arith}
use Rattle.std.specs.Prelude.{slice_get, Some, None}
use Rattle.std.specs.List.{last_or}
use Rattle.std.specs.Option.{option_map}
use Rattle.std.proofs.lemmas.List.{take_all, take_rest, length-append, length-drop}
use Rattle.block.specs.EncodedEntry.{Entry, restarts_from}
use Rattle.block.specs.BlockFormat.{encoded_entries_from, block}
use Rattle.block.specs.BuilderView.{with_entry, last_key}
use Rattle.cut.specs.EntryWalkView.{EntryWalkView}
use Rattle.cut.proofs.Places.{drop_next}
use Rattle.cut.proofs.Appended.{IsAppended, bytes_of, none_appended, one_appended, offset_is, offset_fits, since_below}
use Rattle.cut.proofs.Lists.{suc_is, next_entry, front_fits, length_le_block}
use Rattle.cut.proofs.Walks.{key_of, left_within, left_next, last_with, last_next}
use Rattle.cut.proofs.block_writer.push_entries.Goals as goal

pub loop-init : goal.loop-init
loop-init c = (
  none_appended c.args.interval c.args.out.now.items c.args.restarts.now.items c.requires.positive c.requires.limited c.requires.none,
  ap (λ (w : EntryWalkView). w.rest) c.new-walk.ensures ∙ c.first.ensures,
  ap (λ (w : EntryWalkView). w.before) c.new-walk.ensures,
  omega (arith, c.len-end.ensures),
)

pub key-requires : goal.key-requires
key-requires c =
    let q : List Entry = c.args.entries.now.entries in
    let behind : List Entry = c.args.entries.now.behind in
    omega (arith, ap length c.loop.invariant.1, length-drop c.loop.counter (q ++ behind), length-append q behind, c.loop-test.true, c.loop.invariant.3)

pub left_out-shared-requires : goal.left_out-shared-requires
left_out-shared-requires c =
    let q : List Entry = c.args.entries.now.entries in
    let behind : List Entry = c.args.entries.now.behind in
    omega (arith, ap length c.loop.invariant.1, length-drop c.loop.counter (q ++ behind), length-append q behind, c.loop-test.true, c.loop.invariant.3)

pub overflow_sub-len : goal.overflow_sub-len
overflow_sub-len c = omega (arith, offset_is c.loop.invariant.0, c.len-in-loop.ensures, c.len-start.ensures)

pub push_restart-requires : goal.push_restart-requires
push_restart-requires c = omega (arith, offset_fits c.loop.invariant.0, c.len-in-loop.ensures, c.len-start.ensures)

pub slice_bounds-push_fields-count : goal.slice_bounds-push_fields-count
slice_bounds-push_fields-count c =
    let key : option_map key_of (slice_get c.loop.walk.rest 0) ≡ Some c.bytes-key.result.now = c.key.ensures ∙ ap (λ (x : List ℕ). Some x) (sym c.bytes-key.ensures) in
    omega (arith, left_within c.loop.since c.left_out-shared.result c.loop.walk.before c.loop.walk.rest c.bytes-key.result.now c.left_out-shared.ensures key)

pub slice_bounds-push_fields-start : goal.slice_bounds-push_fields-start
slice_bounds-push_fields-start c =
    let key : option_map key_of (slice_get c.loop.walk.rest 0) ≡ Some c.bytes-key.result.now = c.key.ensures ∙ ap (λ (x : List ℕ). Some x) (sym c.bytes-key.ensures) in
    omega (arith, left_within c.loop.since c.left_out-shared.result c.loop.walk.before c.loop.walk.rest c.bytes-key.result.now c.left_out-shared.ensures key)

pub next_since-since-requires : goal.next_since-since-requires
next_since-since-requires c = since_below c.loop.invariant.0

pub loop-preserved : goal.loop-preserved
loop-preserved c =
    let q : List Entry = c.args.entries.now.entries in
    let i : ℕ = c.loop.counter in
    let r : ℕ = c.args.interval in
    let all : List Entry = q ++ c.args.entries.now.behind in
    let walk : EntryWalkView = c.loop.walk in
    let key_is : List ℕ = c.bytes-key.result.now in
    let value_is : List ℕ = c.value.result.now in
    let shared : ℕ = c.left_out-shared.result in
    let front : List ℕ = c.args.out.now.items in
    let lt : i < length q = omega (arith, c.loop-test.true, c.loop.invariant.3) in
    let key : option_map key_of (slice_get walk.rest 0) ≡ Some key_is = c.key.ensures ∙ ap (λ (x : List ℕ). Some x) (sym c.bytes-key.ensures) in
    let here : option_map key_of (slice_get (drop i all) 0) ≡ Some key_is = ap (λ (es : List Entry). option_map key_of (slice_get es 0)) (sym c.loop.invariant.1) ∙ key in
    let value : option_map (λ (e : Entry). e.value) (slice_get (drop i all) 0) ≡ Some value_is =
    ap (λ (es : List Entry). option_map (λ (e : Entry). e.value) (slice_get es 0)) (sym c.loop.invariant.1) ∙ c.value.ensures in
    let next : with_entry (take i q) key_is value_is ≡ take (suc i) q = next_entry q c.args.entries.now.behind i key_is value_is lt here value in
    let more : with_entry (take i q) key_is value_is ≡ take (i + 1) q = next ∙ ap (λ (n : ℕ). take n q) (sym (suc_is i)) in
    let fits : length (block r (with_entry (take i q) key_is value_is)) ≤ 2147483648 = omega (arith, ap (λ (es : List Entry). length (block r es)) next, front_fits r q (suc i) c.requires.fits) in
    let rest = take_rest key_is shared in
    let offset : length front + (c.len-in-loop.result - c.len-start.result) ≡ length c.loop.out.items = omega (arith, offset_is c.loop.invariant.0, c.len-in-loop.ensures, c.len-start.ensures) in
    let left = left_next c.loop.since shared (take i q) walk.rest walk.before key_is c.loop.invariant.2 c.left_out-shared.ensures key in
    let added = one_appended key_is value_is _ c.push_fields.new.out.items c.push_restart.new.restarts.items shared (c.len-in-loop.result - c.len-start.result) c.next_since-since.result c.loop.invariant.0 fits left rest offset c.in_ok-push_fields.ensures.ok c.in_ok-push_restart.ensures.ok c.next_since-since.ensures in (
      subst (λ (es : List Entry). IsAppended r es front c.push_fields.new.out.items c.push_restart.new.restarts.items (last_key [] es) c.next_since-since.result) more
          (subst (λ (last : List ℕ). IsAppended r (with_entry (take i q) key_is value_is) front c.push_fields.new.out.items c.push_restart.new.restarts.items last c.next_since-since.result) (sym (last_with (take i q) key_is value_is)) added),
      ap (λ (w : EntryWalkView). w.rest) c.advance.ensures ∙ ap (drop 1) c.loop.invariant.1 ∙ sym (drop_next i all),
      ap (λ (w : EntryWalkView). w.before) c.advance.ensures ∙ key ∙ sym (last_next (take i q) key_is value_is) ∙ ap (λ (es : List Entry). option_map key_of (last_or None es)) more,
      c.loop.invariant.3,
    )

pub returns-clause-bytes : goal.returns-clause-bytes
returns-clause-bytes c =
    let q : List Entry = c.args.entries.now.entries in
    let r : ℕ = c.args.interval in
    let end : length q ≤ c.loop.counter = omega (arith, c.len-end.ensures, c.loop-test.false, length_le_block r q, c.requires.fits) in
    c.loop.invariant.0.out_is ∙ ap (λ (es : List Entry). c.args.out.now.items ++ bytes_of r es) (take_all c.loop.counter q end)

pub returns-clause-restarts : goal.returns-clause-restarts
returns-clause-restarts c =
    let q : List Entry = c.args.entries.now.entries in
    let r : ℕ = c.args.interval in
    let end : length q ≤ c.loop.counter = omega (arith, c.len-end.ensures, c.loop-test.false, length_le_block r q, c.requires.fits) in
    c.loop.invariant.0.built.restarts_are ∙ ap (λ (es : List Entry). restarts_from 0 (encoded_entries_from r 0 [] es)) (take_all c.loop.counter q end)
