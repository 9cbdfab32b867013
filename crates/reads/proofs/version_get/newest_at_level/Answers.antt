use Rattle.std.proofs.Common.{Bor, ◌≡◌, false, List, None, take, ap, sym, subst, ◌∙◌, arith}
use Rattle.std.proofs.lemmas.List.{take_all}
use Rattle.std.specs.List.{flat_map}
use Rattle.std.specs.Option.{option_map}
use Rattle.table.specs.EncodedEntry.{Entry}
use Rattle.edit.specs.declared.meta.FileMeta.{FileMeta}
use Rattle.ikey.specs.Key.{user_of, sequence_of}
use Rattle.reads.specs.Tables.{table_entries}
use Rattle.reads.specs.Visible.{visible_in, IsAnswer}
use Rattle.reads.specs.Lawful.{IsFileOf}
use Rattle.reads.proofs.Answers.{files_step, not_held, newer_none, entries_are}
use Rattle.reads.specs.Bounds.{may_hold}
use Rattle.reads.proofs.version_get.newest_at_level.Goals as goal

pub loop-file-preserved-then-not-may_hold : goal.loop-file-preserved-then-not-may_hold
loop-file-preserved-then-not-may_hold g c files =
    let cmp = g.C.Comparator.cmp in
    let t = c.args.target.bytes.now in
    let tables = c.args.tables.now in
    let i = c.loop-file.file-index in
    let file = c.file-item.result in
    let out : may_hold cmp file.now (user_of t) ≡ false = ap (may_hold cmp file.now) (sym c.user.ensures) ∙ sym c.may_hold.ensures ∙ c.if-not-may_hold.true in
    let is : IsFileOf cmp tables file.now = subst (λ (f : Bor FileMeta). IsFileOf cmp tables f.now) (sym c.file-item.is) (files i file c.loop-file-test.true) in
    files_step (λ (f : Bor FileMeta). table_entries tables f.now.number) c.args.files.now i file (user_of t) (sequence_of t) (option_map visible_in c.loop-file.newest) None _ c.loop-file-test.true c.file-item.is
    (sym (newer_none (option_map visible_in c.loop-file.newest))) (c.loop-file.invariant files) (not_held cmp g.met.C.Comparator.total tables file.now (user_of t) (sequence_of t) is out)

pub loop-file-preserved : goal.loop-file-preserved
loop-file-preserved g c files =
    let t = c.args.target.bytes.now in
    let tables = c.args.tables.now in
    let i = c.loop-file.file-index in
    let file = c.file-item.result in
    files_step (λ (f : Bor FileMeta). table_entries tables f.now.number) c.args.files.now i file (user_of t) (sequence_of t) (option_map visible_in c.loop-file.newest) (option_map visible_in c.in_ok-newest_in_table.field-0) _ c.loop-file-test.true c.file-item.is
    c.newer-newest.ensures (c.loop-file.invariant files) (subst (λ (es : List Entry). IsAnswer es (user_of t) (sequence_of t) (option_map visible_in c.in_ok-newest_in_table.field-0)) (sym (entries_are tables file.now.number c.in-Some.table.now (sym c.in-Some.ensures))) c.in_ok-newest_in_table.ensures.found)

pub returns-clause-found : goal.returns-clause-found
returns-clause-found g c files =
    let t = c.args.target.bytes.now in
    let entries : Bor FileMeta → List Entry = λ f. table_entries c.args.tables.now f.now.number in
    let all : take c.loop-file.file-index c.args.files.now ≡ c.args.files.now = take_all c.loop-file.file-index c.args.files.now (omega arith) in
    subst (λ (fs : List (Bor FileMeta)). IsAnswer (flat_map entries fs) (user_of t) (sequence_of t) (option_map visible_in c.loop-file.newest)) all (c.loop-file.invariant files)
