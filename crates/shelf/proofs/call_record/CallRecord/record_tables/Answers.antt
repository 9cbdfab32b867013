use Rattle.std.proofs.Common.{◌≡◌, ℕ, List, [], ◌∷◌, length, take, Some, refl, sym, ap, subst, ◌∙◌, arith}
use Rattle.std.proofs.Math.Seq.{take-length}
use Rattle.std.specs.Global.{Vec}
use Rattle.shelf.specs.Alters.{Alters, AltersEach, with_files}
use Rattle.folder.specs.Calls.{Step, Written, with_value}
use Rattle.folder.specs.Names.{table_name}
use Rattle.shelf.specs.Shelf.{files_after_steps}
use Rattle.folder.specs.TableFiles.{table_files}
use Rattle.shelf.proofs.ShelfLemmas.{one_failed, one_more, tried_of}
use Rattle.shelf.proofs.call_record.CallRecord.record_tables.Goals as goal

pub loop-table-init : goal.loop-table-init
loop-table-init c = record { change = λ files. refl; failures = refl; trail = refl; readings = refl }

pub returns-in_err-record_table-clause-change : goal.returns-in_err-record_table-clause-change
returns-in_err-record_table-clause-change c = λ files.
    let tables = c.args.tables.now in
    let old = files_after_steps c.args.self.now.steps files in
    let made = files_after_steps c.loop-table.self.steps files in
    let new = files_after_steps c.record_table.new.self.steps files in
    let t = c.table-item.result in
    let torn : AltersEach ((table_name t.0, t.1.items) ∷ []) made new =
    subst (λ (bytes : List ℕ). AltersEach ((table_name t.0, bytes) ∷ []) made new) c.deref.ensures.value (c.in_err-record_table.ensures.change files) in
    subst (λ (s : Step). Alters s old new) (sym (tried_of _ (Written (table_files tables)) c.from_residual.result c.from_residual.ensures.1))
    (one_failed tables c.loop-table.table-index t old made new c.loop-table-test.true c.table-item.is (c.loop-table.invariant.change files) torn)

pub loop-table-preserved : goal.loop-table-preserved
loop-table-preserved c =
    let tables = c.args.tables.now in
    let t = c.table-item.result in
    let done = c.in_ok-record_table.ensures in
    record {
      change = λ files.
          let old = files_after_steps c.args.self.now.steps files in
          let made = files_after_steps c.loop-table.self.steps files in
          let new = files_after_steps c.record_table.new.self.steps files in
          let one : new ≡ with_value made (table_name t.0) (Some t.1.items) = done.change files ∙ ap (λ (bytes : List ℕ). with_value made (table_name t.0) (Some bytes)) c.deref.ensures.value in
          one_more tables c.loop-table.table-index t old made new c.loop-table-test.true c.table-item.is (c.loop-table.invariant.change files) one;
      failures = done.failures ∙ c.loop-table.invariant.failures;
      trail = done.trail ∙ c.loop-table.invariant.trail;
      readings = done.readings ∙ c.loop-table.invariant.readings;
    }

pub returns-clause-change : goal.returns-clause-change
returns-clause-change c = λ files.
    let tables = c.args.tables.now in
    let past : c.loop-table.table-index ≡ length tables = omega (arith, c.loop-table.auto.table-index-end, c.loop-table-test.false) in
    let all : take c.loop-table.table-index tables ≡ tables = ap (λ (k : ℕ). take k tables) past ∙ take-length tables in
    c.loop-table.invariant.change files ∙ ap (λ (ts : List (ℕ × Vec ℕ)). with_files (files_after_steps c.args.self.now.steps files) (table_files ts)) all
