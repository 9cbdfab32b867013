use Rattle.std.proofs.Common.{◌≡◌, ◌++◌, ℕ, List, map, take, get_or, sym, ap, ◌∙◌}
use Rattle.edit.proofs.Binds.{ok_is}
use Rattle.reads.specs.EncodedEntry.{Entry}
use Rattle.reads.specs.Ranges.{KeyRange, key_range}
use Rattle.merge.specs.InRange.{entries_in}
use Rattle.keep.specs.MergedLists.{entries_of_lists}
use Rattle.merge.proofs.Reaching.{in_pushed}
use Rattle.c_api.specs.InputTables.{IsRead, entries_at}
use Rattle.c_api.specs.Tables.{is_input}
use Rattle.c_api.specs.declared.input.Input.{Input}
use Rattle.c_api.proofs.CheckedInputs.{map_taken, no_input, one_of, one_tested}
use Rattle.c_api.proofs.input_tables.cursors_over.Goals as goal

pub loop-input-preserved : goal.loop-input-preserved
loop-input-preserved g c =
    let cmp = g.C.Comparator.cmp in
    let keys : List ℕ = c.args.keys.now in
    let tables : List ℕ = c.args.tables.now in
    let range : KeyRange = key_range c.args.range in
    let E : Input → List Entry = entries_at cmp keys tables in
    let all : List Input = c.args.inputs.now in
    let i = c.loop-input.input-index in
    let x : Input = get_or all i no_input in
    let lt = c.loop-input-test.true in
    let olds : List (List Entry) = map E (take i all) in
    let own : E x ≡ c.in_ok-table.table.entries = ok_is (E x) c.in_ok-table.table.entries c.in_ok-table.ensures.entries in
    record {
      lent = (one_tested (is_input keys tables) all i no_input lt c.loop-input.invariant.lent).1;
      read = (one_of (IsRead cmp keys tables) all i no_input lt c.loop-input.invariant.read).1;
      held = c.in_ok-add_cursor.ensures.held
          ∙ ap (λ (es : List Entry). es ++ entries_in cmp range c.in_ok-table.table.entries) c.loop-input.invariant.held
          ∙ ap (λ (es : List Entry). entries_in cmp range (entries_of_lists olds) ++ entries_in cmp range es) (sym own)
          ∙ sym (in_pushed cmp g.met.C.Comparator.total range olds (E x))
          ∙ ap (λ (ls : List (List Entry)). entries_in cmp range (entries_of_lists ls)) (sym (map_taken E all i no_input lt));
    }
