use Rattle.std.proofs.Common.{◌≡◌, List, length, map, Ok, Err, sym, ap, subst, ◌∙◌}
use Rattle.folder.specs.Answers.{UnlessMemory}
use Rattle.reads.specs.TableContents.{Contents}
use Rattle.install.specs.Install.{table_bytes_of}
use Rattle.compact.specs.AnswerIn.{answer_in}
use Rattle.pick.specs.PickedInputs.{picked_in}
use Rattle.pick.specs.declared.picked_inputs.InputFile.{InputFile}
use Rattle.checks.specs.HeldBytes.{held_bytes}
use Rattle.checks.proofs.LawfulLemmas.{handed_on}
use Rattle.compact.specs.Inputs.{inputs_reading}
use Rattle.store.specs.FolderRequest.{compaction_from}
use Rattle.store.specs.InputsCompaction.{IsReadAnswer, input_tables}
use Rattle.store.proofs.Answered.{answered_so, made_with, read_answered, tables_refused}
use Rattle.store.proofs.CheckedInputs.{held_length, read_as_inputs, read_bytes, same_read}
use Rattle.store.proofs.held_compaction.compact_held.Goals as goal

pub stated_tables-requires : goal.stated_tables-requires
stated_tables-requires g c = record {
  lengths = held_length c.args.held.now c.args.picked.now.files.items (λ i. table_bytes_of (held_bytes c.args.held.now) i.meta.number) c.requires.bytes ∙ ap length (sym c.deref.ensures.value);
}

pub returns-in_err-tables-clause-answer : goal.returns-in_err-tables-clause-answer
returns-in_err-tables-clause-answer g c =
    let cmp = g.C.Comparator.cmp in
    let v = c.args.version.now in
    let loaded = held_bytes c.args.held.now in
    let p = picked_in c.args.picked.now in
    let s = c.args.settings.now in
    let e = c.in_err-tables.field-0.0 in
    handed_on (λ o. (p, answer_in o)) c.from_residual.result e (λ read. input_tables cmp p.files loaded ≡ read) (IsReadAnswer c.args.first cmp g.C.Comparator.short_keys v s p loaded)
    c.from_residual.ensures.1 (subst (λ (fs : List InputFile). UnlessMemory e (input_tables cmp fs loaded ≡ Err e)) c.deref.ensures.value c.in_err-tables.ensures)
    (tables_refused c.args.first cmp g.C.Comparator.short_keys v s p loaded e)

pub compact_checked-requires-clause-read : goal.compact_checked-requires-clause-read
compact_checked-requires-clause-read g c κs within =
    let cmp = g.C.Comparator.cmp in
    let files = c.args.picked.now.files.items in
    let loaded = held_bytes c.args.held.now in
    let found = subst (λ (fs : List InputFile). input_tables cmp fs loaded ≡ Ok c.in_ok-tables.tables.items) c.deref.ensures.value c.in_ok-tables.ensures in
    subst (λ (ts : List Contents). inputs_reading cmp 0 files (map (λ (t : Contents). t.bytes) ts) ≡ Ok (map (λ (t : Contents). t.entries) ts)) (sym c.deref-2.ensures.value)
    (read_as_inputs cmp files loaded c.in_ok-tables.tables.items (same_read (held_bytes c.args.held.now) files (λ i. table_bytes_of loaded i.meta.number) c.requires.bytes) found)

pub returns-clause-answer : goal.returns-clause-answer
returns-clause-answer g c =
    let cmp = g.C.Comparator.cmp in
    let v = c.args.version.now in
    let loaded = held_bytes c.args.held.now in
    let p = picked_in c.args.picked.now in
    let s = c.args.settings.now in
    let found = subst (λ (fs : List InputFile). input_tables cmp fs loaded ≡ Ok c.in_ok-tables.tables.items) c.deref.ensures.value c.in_ok-tables.ensures in
    let bytes = ap (map (λ (t : Contents). t.bytes)) c.deref-2.ensures.value ∙ read_bytes cmp p.files loaded c.in_ok-tables.tables.items found ∙ c.requires.bytes in
    made_with p c.compact_checked.result (compaction_from c.args.first cmp g.C.Comparator.short_keys v loaded p s) (IsReadAnswer c.args.first cmp g.C.Comparator.short_keys v s p loaded)
    (read_answered c.args.first cmp g.C.Comparator.short_keys v s p loaded c.in_ok-tables.tables.items found) (c.compact_checked.ensures.answer loaded bytes)

pub returns-clause-outcome : goal.returns-clause-outcome
returns-clause-outcome g c =
    let cmp = g.C.Comparator.cmp in
    let v = c.args.version.now in
    let loaded = held_bytes c.args.held.now in
    let p = picked_in c.args.picked.now in
    let found = subst (λ (fs : List InputFile). input_tables cmp fs loaded ≡ Ok c.in_ok-tables.tables.items) c.deref.ensures.value c.in_ok-tables.ensures in
    let bytes = ap (map (λ (t : Contents). t.bytes)) c.deref-2.ensures.value ∙ read_bytes cmp p.files loaded c.in_ok-tables.tables.items found ∙ c.requires.bytes in
    answered_so c.compact_checked.result (compaction_from c.args.first cmp g.C.Comparator.short_keys v loaded p c.args.settings.now) (c.compact_checked.ensures.answer loaded bytes)
