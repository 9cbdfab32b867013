use Rattle.std.proofs.Common.{[], List, length, drop, sym, ap, subst, arith}
use Rattle.std.proofs.lemmas.List.{nil_from_length, length-drop}
use Rattle.block.specs.EncodedEntry.{Entry}
use Rattle.block.specs.BlockView.{BlockView}
use Rattle.table.specs.EntriesFrom.{entries_from}
use Rattle.table.specs.IndexWalk.{IsWalkLeft}
use Rattle.table.proofs.Walks.{Seeks, seek_begins, seek_enters, seek_ends, seek_leaves, first_data, first_named, named_keys, none_valid, some_valid}
use Rattle.table.proofs.table_cursor.TableCursor.sought.Goals as goal
use Rattle.table.proofs.table_cursor.TableCursor.sought.Goals.{then-loop-index-test+else-valid, else-loop-index-test}

pub loop-index-init : goal.loop-index-init
loop-index-init g c =
    let cmp = g.C.Comparator.cmp in
    let bytes = c.self.inside.bytes.now in
    let target = c.args.target.bytes.now in
    let total : List Entry = entries_from cmp target c.args.self.now in
    subst (λ (b : List Entry). Seeks cmp bytes target b c.in_ok-index.index total) (sym c.none-block.ensures)
    (subst (λ (i : List Entry). Seeks cmp bytes target [] i total) (sym c.in_ok-index.ensures.from)
    (seek_begins cmp bytes target c.self.inside.index_block.entries c.self.inside.block c.self.inside.index c.args.self.now g.met.C.Comparator.total c.self.invariant c.self.view_is c.requires))

pub loop-index-preserved : goal.loop-index-preserved
loop-index-preserved g c =
    let cmp = g.C.Comparator.cmp in
    let bytes = c.self.inside.bytes.now in
    let target = c.args.target.bytes.now in
    let block = c.loop-index.block in
    let index = c.loop-index.index in
    let total : List Entry = entries_from cmp target c.args.self.now in
    let none = none_valid c.valid.result block c.valid.ensures.1 c.loop-index-test.true in
    subst (λ (i : List Entry). Seeks cmp bytes target c.in_ok-block.block i total) (sym c.in_ok-advance.ensures.ok)
    (subst (λ (b : List Entry). Seeks cmp bytes target b (drop 1 index) total) (sym c.in_ok-block.ensures.from)
    (seek_enters cmp bytes target block index total c.value.result.now c.block_named-named.result.entries c.loop-index.invariant none c.value.ensures c.block_named-named.ensures))

pub invariant_of-result : goal.invariant_of-result
invariant_of-result g c =
    let cmp = g.C.Comparator.cmp in
    let bytes = c.self.inside.bytes.now in
    let target = c.args.target.bytes.now in
    subst (λ (b : BlockView). IsWalkLeft cmp bytes b.entries c.loop-index.block c.loop-index.index) (sym c.copy.ensures)
    (seek_leaves cmp bytes target c.self.inside.index_block.entries c.self.inside.block c.self.inside.index c.loop-index.block c.loop-index.index c.args.self.now c.self.invariant c.self.view_is c.loop-index.invariant (λ none.
    elim c.loop-index-test.branch [
      | then-loop-index-test+else-valid w ↦ nil_from_length c.loop-index.index (none_valid w.valid-in-loop-index.result c.loop-index.index w.valid-in-loop-index.ensures.1 w.if-valid.false)
      | else-loop-index-test w ↦ absurd (some_valid c.valid.result c.loop-index.block c.valid.ensures.0 w.loop-index-test.false none)
    ]
    ))

pub returns-clause-from : goal.returns-clause-from
returns-clause-from g c =
    let cmp = g.C.Comparator.cmp in
    let target = c.args.target.bytes.now in
    seek_ends cmp c.self.inside.bytes.now target c.loop-index.block c.loop-index.index (entries_from cmp target c.args.self.now) c.loop-index.invariant (λ none.
    elim c.loop-index-test.branch [
      | then-loop-index-test+else-valid w ↦ nil_from_length c.loop-index.index (none_valid w.valid-in-loop-index.result c.loop-index.index w.valid-in-loop-index.ensures.1 w.if-valid.false)
      | else-loop-index-test w ↦ absurd (some_valid c.valid.result c.loop-index.block c.valid.ensures.0 w.loop-index-test.false none)
    ]
    )

-- ---- the blocks that are looked into

pub entries_from-requires-clause-keys : goal.entries_from-requires-clause-keys
entries_from-requires-clause-keys g c = named_keys g.C.Comparator.cmp c.self.inside.bytes.now c.self.inside.index_block.entries c.self.invariant.all.named

pub value-requires : goal.value-requires
value-requires g c = c.valid-in-loop-index.ensures.0 c.if-valid.true

pub block_named-named-requires : goal.block_named-named-requires
block_named-named-requires g c = first_named g.C.Comparator.cmp c.self.inside.bytes.now c.loop-index.index c.value.result.now c.loop-index.invariant.named c.value.ensures

pub entries_from-requires-in-loop-index-clause-keys : goal.entries_from-requires-in-loop-index-clause-keys
entries_from-requires-in-loop-index-clause-keys g c =
    (first_data g.C.Comparator.cmp c.self.inside.bytes.now c.loop-index.index c.value.result.now c.block_named-named.result.entries c.loop-index.invariant.named c.value.ensures c.block_named-named.ensures).0

pub entries_from-requires-in-loop-index-clause-rising : goal.entries_from-requires-in-loop-index-clause-rising
entries_from-requires-in-loop-index-clause-rising g c =
    (first_data g.C.Comparator.cmp c.self.inside.bytes.now c.loop-index.index c.value.result.now c.block_named-named.result.entries c.loop-index.invariant.named c.value.ensures c.block_named-named.ensures).1

pub advance-requires : goal.advance-requires
advance-requires g c = c.valid-in-loop-index.ensures.0 c.if-valid.true

pub loop-index-smaller : goal.loop-index-smaller
loop-index-smaller g c =
    let some = c.valid-in-loop-index.ensures.0 c.if-valid.true in
    omega (arith, some, ap length c.in_ok-advance.ensures.ok, length-drop 1 c.loop-index.index)
