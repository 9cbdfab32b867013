use Rattle.std.proofs.Common.{◌≡◌, ◌<◌, ℕ, List, length, drop, ap, sym, subst, ◌∙◌}
use Rattle.block.specs.EncodedEntry.{Entry}
use Rattle.block.specs.BlockView.{BlockView}
use Rattle.table.specs.IndexWalk.{Indexes, IsWalkLeft}
use Rattle.table.proofs.Walks.{left_all}
use Rattle.table.proofs.table_cursor.TableCursor.new.Goals as goal

pub invariant_of-result : goal.invariant_of-result
invariant_of-result g c =
    let cmp = g.C.Comparator.cmp in
    let bytes = c.bytes-bytes.result.now in
    let index = c.in_ok-index.index in
    let entries = c.args.table.now.entries in
    let all : index ≡ c.copy.result.entries = c.in_ok-index.ensures.all ∙ ap (λ (b : BlockView). b.entries) (sym c.copy.ensures) in
    let indexes : Indexes cmp bytes index entries =
    subst (λ (t : List ℕ). Indexes cmp t index entries) (sym c.bytes-bytes.ensures.bytes)
    (subst (λ (i : List Entry). Indexes cmp c.args.table.now.bytes i entries) (sym c.in_ok-index.ensures.all) c.index_block-index_block.ensures) in
    subst (λ (names : List Entry). IsWalkLeft cmp bytes names c.in_ok-block.block c.advance.new.self) all
    (subst (λ (i : List Entry). IsWalkLeft cmp bytes index c.in_ok-block.block i) (sym c.in_ok-advance.ensures.ok)
    (subst (λ (b : List Entry). IsWalkLeft cmp bytes index b (drop 1 index)) (sym c.in_ok-block.ensures.all)
    (left_all cmp bytes index entries c.value.result.now c.block_named.result.entries indexes c.value.ensures c.block_named.ensures)))

pub value-requires : goal.value-requires
value-requires g c = subst (λ (i : List Entry). 0 < length i) (sym c.in_ok-index.ensures.all) c.index_block-index_block.ensures.some

pub advance-requires : goal.advance-requires
advance-requires g c = subst (λ (i : List Entry). 0 < length i) (sym c.in_ok-index.ensures.all) c.index_block-index_block.ensures.some
