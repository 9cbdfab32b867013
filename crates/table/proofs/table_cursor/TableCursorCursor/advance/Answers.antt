use Rattle.std.proofs.Common.{◌≡◌, ℕ, List, [], ◌∷◌, ◌++◌, length, drop, Some, Ok, sym, ap, subst, ◌∙◌, arith}
use Rattle.std.specs.Prelude.{slice_get}
use Rattle.std.specs.Option.{option_map}
use Rattle.std.proofs.lemmas.List.{nil_from_length}
use Rattle.std.proofs.lemmas.Option.{same_Some, none-some}
use Rattle.block.specs.EncodedEntry.{Entry}
use Rattle.table.specs.IndexWalk.{block_named, entries_named, all_named, IsWalkLeft}
use Rattle.table.proofs.Walks.{first_named, named_entries, left_advanced, left_enters, some_left, not_last, none_valid}
use Rattle.table.proofs.table_cursor.TableCursorCursor.advance.Goals as goal
use Rattle.table.proofs.table_cursor.TableCursorCursor.advance.Goals.{then-not-is_last-via-then-not-is_last, then-not-is_last-via-else-not-is_last+then-not-valid}

pub invariant_of-self : goal.invariant_of-self
invariant_of-self g c =
    let cmp = g.C.Comparator.cmp in
    let bytes = c.self.inside.bytes.now in
    let names = c.self.inside.index_block.entries in
    let block = c.self.inside.block in
    let index = c.self.inside.index in
    let some = some_left cmp bytes names block index c.args.self.now c.self.invariant c.self.view_is c.requires in
    left_advanced cmp bytes names block index c.advance.new.self c.advance.result c.self.invariant some
    (elim c.then-not-is_last.branch [
      | then-not-is_last-via-then-not-is_last w ↦ λ none. absurd (not_last c.is_last.result block c.is_last.ensures.1 w.if-not-is_last.true some none)
      | then-not-is_last-via-else-not-is_last+then-not-valid w ↦ λ none. nil_from_length index (none_valid w.valid.result index w.valid.ensures.1 w.if-not-valid.true)
    ])
    c.advance.ensures.ok c.advance.ensures.err

pub block_named-requires : goal.block_named-requires
block_named-requires g c = first_named g.C.Comparator.cmp c.self.inside.bytes.now c.self.inside.index c.value.result.now c.self.invariant.named c.value.ensures

pub invariant_of-self-2 : goal.invariant_of-self-2
invariant_of-self-2 g c =
    let cmp = g.C.Comparator.cmp in
    let bytes = c.self.inside.bytes.now in
    let names = c.self.inside.index_block.entries in
    subst (λ (i : List Entry). IsWalkLeft cmp bytes names c.in_ok-next.next i) (sym c.in_ok-advance.ensures.ok)
    (subst (λ (b : List Entry). IsWalkLeft cmp bytes names b (drop 1 c.self.inside.index)) (sym c.in_ok-next.ensures.all)
    (left_enters cmp bytes names c.self.inside.block c.self.inside.index c.value.result.now c.block_named.result.entries c.self.invariant (c.is_last.ensures.0 c.if-not-is_last.false) c.value.ensures c.block_named.ensures))

-- the last entry of a block is taken off, and the next block is entered
seen_entered : (bytes : List ℕ) (block index total : List Entry) (value : List ℕ) (q : List Entry) → length block ≡ 1 → option_map (λ e. e.value) (slice_get index 0) ≡ Some value → block_named bytes value ≡ Ok q → block ++ all_named bytes index ≡ total → q ++ all_named bytes (drop 1 index) ≡ drop 1 total
seen_entered bytes block [] total value q one first named same = absurd (none-some value first)
seen_entered bytes [] (i ∷ is) total value q one first named same = absurd (omega (arith, one))
seen_entered bytes (e ∷ f ∷ es) (i ∷ is) total value q one first named same = absurd (omega (arith, one))
seen_entered bytes (e ∷ []) (i ∷ is) total value q one first named same =
    let here : entries_named bytes i ≡ q = named_entries bytes i q (ap (block_named bytes) (same_Some i.value value first) ∙ named) in
    ap (λ (b : List Entry). b ++ all_named bytes is) (sym here) ∙ ap (drop 1) same

pub is_last-requires : goal.is_last-requires
is_last-requires g c = some_left g.C.Comparator.cmp c.self.inside.bytes.now c.self.inside.index_block.entries c.self.inside.block c.self.inside.index c.args.self.now c.self.invariant c.self.view_is c.requires

pub advance-requires : goal.advance-requires
advance-requires g c = some_left g.C.Comparator.cmp c.self.inside.bytes.now c.self.inside.index_block.entries c.self.inside.block c.self.inside.index c.args.self.now c.self.invariant c.self.view_is c.requires

pub invariant_of-self-in_err-advance : goal.invariant_of-self-in_err-advance
invariant_of-self-in_err-advance g c =
    subst (λ (i : List Entry). IsWalkLeft g.C.Comparator.cmp c.self.inside.bytes.now c.self.inside.index_block.entries c.self.inside.block i) (sym c.in_err-advance.ensures.err) c.self.invariant

pub value-requires : goal.value-requires
value-requires g c = c.valid.ensures.0 c.if-not-valid.false

pub advance-requires-2 : goal.advance-requires-2
advance-requires-2 g c = c.valid.ensures.0 c.if-not-valid.false

pub returns-clause-ok : goal.returns-clause-ok
returns-clause-ok g c =
    let bytes = c.self.inside.bytes.now in
    let total = c.args.self.now in
    subst (λ (i : List Entry). c.in_ok-next.next ++ all_named bytes i ≡ drop 1 total) (sym c.in_ok-advance.ensures.ok)
    (subst (λ (b : List Entry). b ++ all_named bytes (drop 1 c.self.inside.index) ≡ drop 1 total) (sym c.in_ok-next.ensures.all)
    (seen_entered bytes c.self.inside.block c.self.inside.index total c.value.result.now c.block_named.result.entries (c.is_last.ensures.0 c.if-not-is_last.false) c.value.ensures c.block_named.ensures c.self.view_is))
