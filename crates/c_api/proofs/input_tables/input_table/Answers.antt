use Rattle.std.proofs.Common.{◌≡◌, ℕ, List, Result, Ok, sym, ap, subst, ◌∙◌}
use Rattle.edit.proofs.Binds.{ok_is}
use Rattle.ikey.specs.fault.Fault.{Fault}
use Rattle.reads.specs.EncodedEntry.{Entry}
use Rattle.table.specs.SoundTables.{HasBoundsRead}
use Rattle.table.specs.TableContents.{contents_reading}
use Rattle.table.specs.declared.bounds.Bounds.{Bounds}
use Rattle.c_api.specs.InputTables.{bounds_at}
use Rattle.c_api.proofs.CheckedInputs.{bounds_found, entries_found}
use Rattle.c_api.proofs.input_tables.input_table.Goals as goal

pub reopen_table-requires : goal.reopen_table-requires
reopen_table-requires g c =
    let cmp = g.C.Comparator.cmp in
    let keys : List ℕ = c.args.keys.now in
    let here : HasBoundsRead cmp c.part_of-bytes.result.now (bounds_at keys c.args.input.now) =
    subst (λ (bs : List ℕ). HasBoundsRead cmp bs (bounds_at keys c.args.input.now)) (sym c.part_of-bytes.ensures) (bounds_found cmp keys c.args.tables.now c.args.input.now c.requires.read) in
    subst (λ (b : Bounds). HasBoundsRead cmp c.part_of-bytes.result.now b) (ok_is (bounds_at keys c.args.input.now) c.in_ok-bounds.bounds c.in_ok-bounds.ensures) here

pub returns-clause-contents : goal.returns-clause-contents
returns-clause-contents g c = ap (contents_reading g.C.Comparator.cmp) (sym c.part_of-bytes.ensures) ∙ c.reopen_table.ensures

pub returns-clause-entries : goal.returns-clause-entries
returns-clause-entries g c =
    let cmp = g.C.Comparator.cmp in
    let read : contents_reading cmp _ ≡ Ok c.reopen_table.result =
    ap (contents_reading cmp) (sym c.part_of-bytes.ensures) ∙ c.reopen_table.ensures in
    let ok : List Entry → Result (List Entry) Fault = λ es. Ok es in
    ap ok (entries_found cmp c.args.keys.now c.args.tables.now c.args.input.now c.requires.read c.reopen_table.result read)
