use Rattle.std.proofs.Common.{◌≡◌, ◌<◌, ◌+◌, ◌-◌, ◌++◌, List, ℕ, length, take, drop, false, sym, ap, subst, ◌∙◌, append-nil, arith}
use Rattle.std.specs.Prelude.{Some, Option, slice_get}
use Rattle.std.specs.Option.{option_map}
use Rattle.std.proofs.lemmas.List.{length-drop}
use Rattle.coding.specs.Saturated.{saturated}
use Rattle.block.specs.EncodedEntry.{Entry}
use Rattle.table.specs.DataBlocks.{is_full}
use Rattle.cut.specs.EntryWalkView.{EntryWalkView}
use Rattle.cut.specs.BlockInProgress.{BlockInProgress, IsMetered, added_size, next_since, last_entry_key, key_after}
use Rattle.cut.proofs.Filled.{IsFilling, filling_first, filling_more, filling_part, last_in}
use Rattle.cut.proofs.Metered.{since_below}
use Rattle.cut.proofs.Stretches.{after_stretch, filling_stretch}
use Rattle.cut.proofs.open_block.OpenBlock.take_in.Goals as goal

pub new-walk-requires : goal.new-walk-requires
new-walk-requires c =
    subst (λ (es : List Entry). 0 < length es) (sym c.behind.ensures) (subst (λ (m : BlockInProgress). 0 < length m.behind) (sym c.self.view_is) c.requires.any)

pub added_len-requires : goal.added_len-requires
added_len-requires c =
    subst (λ (w : EntryWalkView). 0 < length w.rest) (sym c.new-walk.ensures)
    (subst (λ (es : List Entry). 0 < length es) (sym c.behind.ensures) (subst (λ (m : BlockInProgress). 0 < length m.behind) (sym c.self.view_is) c.requires.any))

pub next_since-since-requires : goal.next_since-since-requires
next_since-since-requires c = since_below c.self.inside.interval c.self.inside.slice.entries c.self.inside.len c.self.inside.since c.self.invariant

pub loop-taken-init : goal.loop-taken-init
loop-taken-init c =
    let was = c.self.inside in
    let m : BlockInProgress = c.args.self.now in
    let rest : List Entry = c.behind.result in
    let before : Option (List ℕ) = option_map (λ key. key.bytes.now) c.last_key.result in
    let some : 0 < length rest = subst (λ (es : List Entry). 0 < length es) (sym c.behind.ensures) (subst (λ (x : BlockInProgress). 0 < length x.behind) (sym c.self.view_is) c.requires.any) in
    let added_is = subst (λ (w : EntryWalkView). option_map (λ (e : Entry). saturated (added_size was.since w.before e.key (length e.value))) (slice_get w.rest 0) ≡ Some c.added_len.result) c.new-walk.ensures c.added_len.ensures in
    let first : IsFilling c.args.options m 0 rest before was.len was.since =
    filling_first c.args.options m rest before was.len was.since
    (c.behind.ensures ∙ ap (λ (x : BlockInProgress). x.behind) c.self.view_is)
    (c.last_key.ensures ∙ ap (λ (x : BlockInProgress). last_entry_key x.entries) c.self.view_is)
    (subst (λ (x : BlockInProgress). IsMetered x.interval x.entries was.len was.since) c.self.view_is c.self.invariant) in
    let part : is_full c.args.options (m.entries ++ take 0 m.behind) ≡ false = subst (λ (xs : List Entry). is_full c.args.options xs ≡ false) (sym (append-nil m.entries)) c.requires.part in
    let later : c.advance.new.self.rest ≡ drop 1 rest = ap (λ (w : EntryWalkView). w.rest) c.advance.ensures ∙ ap (λ (w : EntryWalkView). drop 1 w.rest) c.new-walk.ensures in
    let last : c.advance.new.self.before ≡ option_map (λ (e : Entry). e.key) (slice_get rest 0) =
    ap (λ (w : EntryWalkView). w.before) c.advance.ensures ∙ ap (λ (w : EntryWalkView). option_map (λ (e : Entry). e.key) (slice_get w.rest 0)) c.new-walk.ensures in
    let since : c.next_since-since.result ≡ next_since m.interval was.since =
    c.next_since-since.ensures ∙ ap (λ (x : BlockInProgress). next_since x.interval was.since) c.self.view_is in (
      rw (later, last, c.saturating_add-len.ensures, since)
          (filling_more c.args.options m 0 rest before was.len was.since c.added_len.result first c.requires.limits.block_size_le c.requires.interval part some added_is),
      omega arith,
      omega (arith, c.requires.most),
    )

pub loop-taken-preserved : goal.loop-taken-preserved
loop-taken-preserved c =
    let m : BlockInProgress = c.args.self.now in
    let was : EntryWalkView = c.loop-taken.walk in
    let walk : EntryWalkView = c.pass-stretch.new.self in
    let n : ℕ = c.pass-stretch.result.count in
    let ahead = c.before_restart-ahead.ensures in
    let passed = c.pass-stretch.ensures in
    let same : c.self.inside.interval ≡ m.interval = ap (λ (x : BlockInProgress). x.interval) c.self.view_is in
    let below : c.loop-taken.len + c.pass-stretch.result.len < c.args.options.block_size = omega (arith, passed.room, c.if-len-options.true) in
    let rest : walk.rest ≡ drop n was.rest = ap (λ (w : EntryWalkView). w.rest) passed.new in
    let before : walk.before ≡ key_after was.before (take n was.rest) = ap (λ (w : EntryWalkView). w.before) passed.new in
    let since_is : c.since_after-since.result ≡ after_stretch m.interval (c.loop-taken.since + n) =
    c.since_after-since.ensures ∙ ap (λ (r : ℕ). after_stretch r (c.loop-taken.since + n)) same in
    let h : IsFilling c.args.options m (c.loop-taken.taken + n) walk.rest walk.before (c.loop-taken.len + c.pass-stretch.result.len) c.since_after-since.result =
    rw (rest, before, passed.len, since_is)
    (filling_stretch n c.args.options m c.loop-taken.taken was.rest was.before c.loop-taken.len c.loop-taken.since c.loop-taken.invariant.0 c.loop-taken.invariant.1 c.requires.limits.block_size_le c.requires.interval
    (λ some. ahead.some (omega (arith, some, passed.most))) (omega (arith, ahead.within, passed.most, same)) (omega (arith, passed.within)) (omega (arith, below, passed.len))) in
    let some : 0 < length walk.rest = omega (arith, passed.within, ap length rest, length-drop n was.rest) in
    let part : is_full c.args.options (m.entries ++ take (c.loop-taken.taken + n) m.behind) ≡ false =
    filling_part c.args.options m (c.loop-taken.taken + n) walk.rest walk.before (c.loop-taken.len + c.pass-stretch.result.len) c.since_after-since.result h (omega (arith, c.loop-taken.invariant.1)) c.requires.limits.block_size_le c.requires.interval below in
    let later : c.advance-in-loop-taken.new.self.rest ≡ drop 1 walk.rest = ap (λ (w : EntryWalkView). w.rest) c.advance-in-loop-taken.ensures in
    let last : c.advance-in-loop-taken.new.self.before ≡ option_map (λ (e : Entry). e.key) (slice_get walk.rest 0) = ap (λ (w : EntryWalkView). w.before) c.advance-in-loop-taken.ensures in
    let since : c.next_since-since-in-loop-taken.result ≡ next_since m.interval c.since_after-since.result =
    c.next_since-since-in-loop-taken.ensures ∙ ap (λ (r : ℕ). next_since r c.since_after-since.result) same in (
      rw (later, last, c.saturating_add-len-in-loop-taken.ensures, since)
          (filling_more c.args.options m (c.loop-taken.taken + n) walk.rest walk.before (c.loop-taken.len + c.pass-stretch.result.len) c.since_after-since.result c.added_len-in-loop-taken.result h c.requires.limits.block_size_le c.requires.interval part some c.added_len-in-loop-taken.ensures),
      omega arith,
      omega (arith, c.loop-taken-test.true, ahead.most, passed.most),
    )

pub push_all-requires-clause-last : goal.push_all-requires-clause-last
push_all-requires-clause-last c =
    let m : BlockInProgress = c.args.self.now in
    c.before-last.ensures
    ∙ c.loop-taken.invariant.0.before_is
    ∙ last_in m c.loop-taken.taken c.loop-taken.invariant.1 c.loop-taken.invariant.0.within
    ∙ ap (λ (x : BlockInProgress). option_map (λ (e : Entry). e.key) (slice_get x.behind (c.loop-taken.taken - 1))) (sym c.self.view_is)
