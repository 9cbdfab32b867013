use Rattle.std.proofs.Common.{ℕ, List, [], ◌∷◌, subst, arith}
use Rattle.std.specs.Global.{Vec}
use Rattle.table.specs.TableBytes.{AreBytes}
use Rattle.std.proofs.lemmas.List.{length-map}
use Rattle.folder.specs.CallSequence.{MakesCalls}
use Rattle.install.specs.Install.{table_calls, tables_in}
use Rattle.compact.specs.AnswerIn.{answer_in}
use Rattle.levels.proofs.PartWritten.{made_done, made_untaken}
use Rattle.levels.proofs.part_writer.write_outcome.Goals as goal

pub returns-in_err-take_in-clause-written : goal.returns-in_err-take_in-clause-written
returns-in_err-take_in-clause-written g c =
    let f = g.F.Folder in
    let old = c.args.folder.now in
    let new = c.write_group.new.folder in
    made_untaken f (answer_in c.args.outcome.now) (subst AreBytes c.deref.ensures.value c.edit_is_bytes.ensures) c.args.written.now c.take_in.new.self old new c.from_residual-in_err-take_in.result
    c.write_group.result c.in_ok-write_group.field-0 c.in_err-take_in.field-0.0 c.in_ok-write_group.was c.in_err-take_in.ensures.memory c.from_residual-in_err-take_in.ensures.1
    (subst (λ (ts : List (ℕ × Vec ℕ)). MakesCalls (table_calls (tables_in ts ∷ [])) (f.calls old) (f.calls new) (f.tells old) (f.tells new) c.write_group.result) c.deref-2.ensures.value c.write_group.ensures.runs)

pub returns-clause-written : goal.returns-clause-written
returns-clause-written g c =
    let f = g.F.Folder in
    let old = c.args.folder.now in
    let new = c.write_group.new.folder in
    let a = answer_in c.args.outcome.now in
    let count = c.len.ensures in
    let same = length-map {B = ℕ × List ℕ} c.args.outcome.now.tables.items (λ (t : ℕ × Vec ℕ). (t.0, t.1.items)) in
    let sum = c.in-Some.ensures in
    let first = c.requires.first in
    made_done f a (subst AreBytes c.deref.ensures.value c.edit_is_bytes.ensures) c.args.written.now (record { outputs = c.take_in.new.self.outputs; edits = c.take_in.new.self.edits; last = c.in-Some.last }) old new
    c.write_group.result c.in_ok-write_group.field-0 _ c.in_ok-write_group.was
    (subst (λ (ts : List (ℕ × Vec ℕ)). MakesCalls (table_calls (tables_in ts ∷ [])) (f.calls old) (f.calls new) (f.tells old) (f.tells new) c.write_group.result) c.deref-2.ensures.value c.write_group.ensures.runs)
    (record { outputs = c.in_ok-take_in.ensures.outputs; edits = c.in_ok-take_in.ensures.edits; last = omega (arith, count, same, sum, first) })
