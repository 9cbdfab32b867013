use Rattle.std.proofs.Common.{inl, List, length, map, sym, ap, ◌∙◌, arith}
use Rattle.keep.specs.declared.mark.Mark.{Mark}
use Rattle.edit.proofs.Binds.{ok_is}
use Rattle.c_api.specs.Runs.{mark_of}
use Rattle.c_api.specs.declared.run_arrays.RunMark.{RunMark}
use Rattle.c_api.proofs.RunWrites.{run_put}
use Rattle.c_api.proofs.run_arrays.put_run.Goals as goal

pub returns : goal.returns
returns c =
    let told : List RunMark = c.in-Ok.told.items in
    let marks : List Mark = c.marks.result.now in
    let lent = c.deref.ensures.value in
    inl (run_put c.args.run.now c.args.bytes.now c.put_bytes.new.room c.args.lengths.now c.put_lengths.new.room c.args.marks.now c.fill.new.room c.deref.result.now
    c.in-Some.len c.len.result c.len-2.result
    (lent ∙ sym (ok_is (map mark_of marks) told c.in-Ok.ensures) ∙ ap (map mark_of) c.marks.ensures)
    c.in-Some.ensures c.len.ensures.number (let same = ap length lent in omega (arith, c.len-2.ensures, c.deref.ensures.len, same))
    (sym c.have_room.ensures ∙ c.if-not-have_room.false) c.put_bytes.ensures c.put_lengths.ensures c.fill.ensures)
