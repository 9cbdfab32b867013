use Rattle.std.proofs.Common.{◌≡◌, ◌+◌, ◌++◌, List, ℕ, sym, ap, subst, ◌∙◌, arith}
use Rattle.std.specs.Prelude.{Some, Ok, slice_get}
use Rattle.std.specs.Option.{option_map}
use Rattle.coding.specs.Answers.{EqualOrMemory}
use Rattle.block.specs.EncodedEntry.{Entry}
use Rattle.cut.specs.declared.planned_block.PlannedBlock.{PlannedBlock}
use Rattle.cut.specs.BlockInProgress.{last_entry_key}
use Rattle.cut.proofs.TableLengths.{some_ended, some_at, key_last, key_next}
use Rattle.cut.proofs.table_len.index_key.Goals as goal

pub unreachable-requires : goal.unreachable-requires
unreachable-requires g c =
    let b : PlannedBlock = c.index-blocks-place.result in
    let is = sym c.index-blocks-place.is in
    let ends = subst (λ (x : PlannedBlock). option_map (λ key. key.bytes.now) c.last_key.result ≡ last_entry_key x.entries.entries) is c.last_key.ensures in
    some_ended b.entries.entries (some_at c.args.blocks.now c.args.place b c.requires.within c.requires.some is) (sym ends ∙ ap (option_map (λ key. key.bytes.now)) c.in_default.is)

pub returns-then-place-blocks : goal.returns-then-place-blocks
returns-then-place-blocks g c =
    let b : PlannedBlock = c.index-blocks-place.result in
    let is = sym c.index-blocks-place.is in
    let ends = subst (λ (x : PlannedBlock). option_map (λ key. key.bytes.now) c.last_key.result ≡ last_entry_key x.entries.entries) is c.last_key.ensures in
    let last : Some c.in-Some.last.bytes.now ≡ last_entry_key b.entries.entries = sym (ap (option_map (λ key. key.bytes.now)) c.in-Some.is) ∙ ends in
    subst (λ (k : List ℕ). EqualOrMemory (λ own. own) c.internal_successor.result (Ok k))
    (key_last g.C.Comparator.cmp g.C.Comparator.short_keys c.args.blocks.now c.args.place b c.in-Some.last.bytes.now (omega (arith, c.if-place-blocks.true)) is last)
    c.internal_successor.ensures.successor

pub returns : goal.returns
returns g c =
    let b : PlannedBlock = c.index-blocks-place.result in
    let n : PlannedBlock = c.index-blocks-place-2.result in
    let is = sym c.index-blocks-place.is in
    let next_is = sym c.index-blocks-place-2.is in
    let ends = subst (λ (x : PlannedBlock). option_map (λ key. key.bytes.now) c.last_key.result ≡ last_entry_key x.entries.entries) is c.last_key.ensures in
    let last : Some c.in-Some.last.bytes.now ≡ last_entry_key b.entries.entries = sym (ap (option_map (λ key. key.bytes.now)) c.in-Some.is) ∙ ends in
    let all : c.first-next.result ≡ n.entries.entries ++ n.entries.behind = subst (λ (x : PlannedBlock). c.first-next.result ≡ x.entries.entries ++ x.entries.behind) next_is c.first-next.ensures in
    let first : option_map (λ (e : Entry). e.key) (slice_get (n.entries.entries ++ n.entries.behind) 0) ≡ Some c.key.result.bytes.now =
    subst (λ (es : List Entry). option_map (λ (e : Entry). e.key) (slice_get es 0) ≡ Some c.key.result.bytes.now) all c.key.ensures in
    subst (λ (k : List ℕ). EqualOrMemory (λ own. own) c.internal_separator.result (Ok k))
    (key_next g.C.Comparator.cmp g.C.Comparator.short_keys c.args.blocks.now c.args.place b n c.in-Some.last.bytes.now c.key.result.bytes.now (omega (arith, c.if-place-blocks.false)) is next_is last
    (some_at c.args.blocks.now (c.args.place + 1) n (omega (arith, c.if-place-blocks.false)) c.requires.some next_is) first)
    c.internal_separator.ensures.separator
