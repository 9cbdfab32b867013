use Rattle.std.proofs.Common.{◌≡◌, ◌+◌, ◌++◌, ◌∷◌, [], ℕ, List, drop, get_or, sym, ap, ◌∙◌, append_assoc}
use Rattle.std.proofs.lemmas.List.{at_drop_more}
use Rattle.table.specs.TableContents.{Contents}
use Rattle.c_api.specs.Boundaries.{contents_at, contents_read, tables_read}
use Rattle.c_api.specs.InputTables.{IsRead}
use Rattle.c_api.specs.Tables.{is_input}
use Rattle.c_api.specs.declared.input.Input.{Input}
use Rattle.c_api.proofs.CheckedInputs.{no_input, one_of, one_tested}
use Rattle.c_api.proofs.input_tables.input_tables.Goals as goal

pub loop-input-preserved : goal.loop-input-preserved
loop-input-preserved g c =
    let cmp = g.C.Comparator.cmp in
    let keys : List ℕ = c.args.keys.now in
    let tables : List ℕ = c.args.tables.now in
    let all : List Input = c.args.inputs.now in
    let i = c.loop-input.input-index in
    let lt = c.loop-input-test.true in
    let later : List Input = drop (i + 1) all in
    let x : Input = get_or all i no_input in
    let t : Contents = c.in_ok-input_table.field-0 in
    let sofar : List Contents = c.loop-input.all.items in
    let own : contents_at cmp tables x ≡ t ∷ [] = ap contents_read c.in_ok-input_table.ensures.contents in
    record {
      lent = (one_tested (is_input keys tables) all i no_input lt c.loop-input.invariant.lent).1;
      read = (one_of (IsRead cmp keys tables) all i no_input lt c.loop-input.invariant.read).1;
      all = ap (λ (ts : List Contents). ts ++ tables_read cmp tables later) c.in_ok-push.ensures.items
          ∙ append_assoc sofar (t ∷ []) (tables_read cmp tables later)
          ∙ ap (λ (ts : List Contents). sofar ++ (ts ++ tables_read cmp tables later)) (sym own)
          ∙ ap (λ (ts : List Contents). sofar ++ ts) (sym (at_drop_more (tables_read cmp tables) all i no_input lt))
          ∙ c.loop-input.invariant.all;
    }
