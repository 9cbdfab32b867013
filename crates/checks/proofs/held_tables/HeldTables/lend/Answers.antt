use Rattle.std.proofs.Common.{◌≡◌, ◌++◌, ◌∷◌, [], List, Ok, take, sym, ap, subst, ◌∙◌, arith}
use Rattle.std.proofs.lemmas.List.{take_all}
use Rattle.std.proofs.lemmas.List.Elements.{All-nil}
use Rattle.ikey.proofs.Binds.{ok_is}
use Rattle.table.specs.TableContents.{contents_reading}
use Rattle.reads.specs.Tables.{NumberedContents}
use Rattle.checks.specs.HeldTables.{AreReadAs}
use Rattle.checks.proofs.CheckedTables.{read_more, take_next}
use Rattle.checks.proofs.held_tables.HeldTables.lend.Goals as goal

pub loop-table-init : goal.loop-table-init
loop-table-init g c = record { lent = c.in_ok-lent.ensures.items; read = All-nil (λ (t : NumberedContents). contents_reading g.C.Comparator.cmp t.contents.bytes ≡ Ok t.contents) }

pub loop-table-preserved : goal.loop-table-preserved
loop-table-preserved g c =
    let i = c.loop-table.table-index in
    let tables = c.as_slice-tables.result.now in
    let t : NumberedContents = c.table-item.result in
    record {
      lent = c.in_ok-push.ensures.items ∙ ap (λ (ts : List NumberedContents). ts ++ c.in_ok-lend.field-0 ∷ []) c.loop-table.invariant.lent
          ∙ ap (λ (x : NumberedContents). take i tables ++ x ∷ []) (sym (ok_is _ _ c.in_ok-lend.ensures.table)) ∙ sym (take_next tables i t c.loop-table-test.true c.table-item.is);
      read = read_more g.C.Comparator.cmp tables i t c.loop-table-test.true c.table-item.is c.loop-table.invariant.read c.lend.ensures.reading;
    }

pub returns-clause-read : goal.returns-clause-read
returns-clause-read g c =
    subst (AreReadAs g.C.Comparator.cmp) (take_all c.loop-table.table-index c.as_slice-tables.result.now (omega arith) ∙ c.as_slice-tables.ensures.value ∙ c.self.view_is) c.loop-table.invariant.read
