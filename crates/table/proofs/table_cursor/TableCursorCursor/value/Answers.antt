use Rattle.std.proofs.Common.{◌≡◌, ◌<◌, ℕ, List, [], ◌∷◌, ◌++◌, length, Some, sym, ap, ◌∙◌, arith}
use Rattle.std.specs.Prelude.{slice_get}
use Rattle.std.specs.Option.{option_map}
use Rattle.block.specs.EncodedEntry.{Entry}
use Rattle.table.specs.IndexWalk.{all_named}
use Rattle.table.proofs.Walks.{some_left}
use Rattle.table.proofs.table_cursor.TableCursorCursor.value.Goals as goal

-- the first entry of what is left of a block is the first of all that is left
first_seen : (block behind total : List Entry) (x : List ℕ) → 0 < length block → block ++ behind ≡ total → option_map (λ e. e.value) (slice_get block 0) ≡ Some x → option_map (λ e. e.value) (slice_get total 0) ≡ Some x
first_seen [] behind total x some same first = absurd (omega (arith, some))
first_seen (e ∷ es) behind total x some same first = sym (ap (λ (q : List Entry). option_map (λ e. e.value) (slice_get q 0)) same) ∙ first

pub value-requires : goal.value-requires
value-requires g c = some_left g.C.Comparator.cmp c.self.inside.bytes.now c.self.inside.index_block.entries c.self.inside.block c.self.inside.index c.args.self.now c.self.invariant c.self.view_is c.requires

pub returns : goal.returns
returns g c =
    let some = some_left g.C.Comparator.cmp c.self.inside.bytes.now c.self.inside.index_block.entries c.self.inside.block c.self.inside.index c.args.self.now c.self.invariant c.self.view_is c.requires in
    first_seen c.self.inside.block (all_named c.self.inside.bytes.now c.self.inside.index) c.args.self.now _ some c.self.view_is c.value.ensures
