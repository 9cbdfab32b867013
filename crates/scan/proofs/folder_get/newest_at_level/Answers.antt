use Rattle.std.proofs.Common.{Bor, ◌≡◌, false, List, None, take, ap, sym, subst, ◌∙◌, arith}
use Rattle.std.proofs.lemmas.List.{take_all}
use Rattle.std.specs.List.{flat_map}
use Rattle.std.specs.Option.{option_map}
use Rattle.block.specs.EncodedEntry.{Entry}
use Rattle.folder.specs.meta.FileMeta.{FileMeta}
use Rattle.folder.proofs.CountLemmas.{steady}
use Rattle.folder.proofs.ReportLemmas.{reads_then}
use Rattle.table.specs.Key.{user_of, sequence_of}
use Rattle.reads.specs.Lawful.{IsFileOf}
use Rattle.reads.specs.Tables.{table_entries}
use Rattle.reads.specs.Visible.{visible_of, IsAnswer}
use Rattle.reads.proofs.Answers.{files_step, not_held, newer_none, entries_are}
use Rattle.reads.specs.Bounds.{may_hold}
use Rattle.scan.proofs.Giving.{handed}
use Rattle.scan.proofs.Parts.{table_later}
use Rattle.scan.proofs.folder_get.newest_at_level.Goals as goal

pub loop-file-preserved-then-not-may_hold : goal.loop-file-preserved-then-not-may_hold
loop-file-preserved-then-not-may_hold g c =
    let cmp = g.C.Comparator.cmp in
    let t = c.args.target.bytes.now in
    let i = c.loop-file.file-index in
    let file = c.file-item.result in
    let out : may_hold cmp file.now (user_of t) ≡ false = ap (may_hold cmp file.now) (sym c.user.ensures) ∙ sym c.may_hold.ensures ∙ c.if-not-may_hold.true in
    record {
      newest = λ tables held files.
          let is : IsFileOf cmp tables file.now = subst (λ (f : Bor FileMeta). IsFileOf cmp tables f.now) (sym c.file-item.is) (files i file c.loop-file-test.true) in
          files_step (λ (f : Bor FileMeta). table_entries tables f.now.number) c.args.files.now i file (user_of t) (sequence_of t) (option_map visible_of c.loop-file.newest) None _ c.loop-file-test.true c.file-item.is
          (sym (newer_none (option_map visible_of c.loop-file.newest))) (c.loop-file.invariant.newest tables held files) (not_held cmp g.met.C.Comparator.total tables file.now (user_of t) (sequence_of t) is out);
      reads = c.loop-file.invariant.reads;
      failures = c.loop-file.invariant.failures;
    }

pub loop-file-preserved : goal.loop-file-preserved
loop-file-preserved g c =
    let cmp = g.C.Comparator.cmp in
    let t = c.args.target.bytes.now in
    let i = c.loop-file.file-index in
    let file = c.file-item.result in
    let failed = g.F.Folder.failed in
    record {
      newest = λ tables held files.
          let is : IsFileOf cmp tables file.now = subst (λ (f : Bor FileMeta). IsFileOf cmp tables f.now) (sym c.file-item.is) (files i file c.loop-file-test.true) in
          let there = table_later _ _ file.now.number is.table.bytes c.loop-file.invariant.reads.same (held file.now.number is.table is.there) in
          files_step (λ (f : Bor FileMeta). table_entries tables f.now.number) c.args.files.now i file (user_of t) (sequence_of t) (option_map visible_of c.loop-file.newest) (option_map visible_of c.in_ok-found.found) _ c.loop-file-test.true
          c.file-item.is c.newer-newest.ensures (c.loop-file.invariant.newest tables held files)
          (subst (λ (es : List Entry). IsAnswer es (user_of t) (sequence_of t) (option_map visible_of c.in_ok-found.found)) (sym (entries_are tables file.now.number is.table is.there)) (c.in_ok-found.ensures.given is.table there is.accepted is.size));
      reads = reads_then c.loop-file.invariant.reads c.newest_in_file.ensures.reads;
      failures = steady (failed c.args.folder.now) (failed c.loop-file.folder) (failed c.newest_in_file.new.folder) c.in_ok-found.found c.newest_in_file.result c.in_ok-found.was c.loop-file.invariant.failures c.newest_in_file.ensures.device.later
          c.newest_in_file.ensures.device.at_once;
    }

pub returns-in_err-found-clause-given : goal.returns-in_err-found-clause-given
returns-in_err-found-clause-given g c tables held files =
    let cmp = g.C.Comparator.cmp in
    let file = c.file-item.result in
    let is : IsFileOf cmp tables file.now = subst (λ (f : Bor FileMeta). IsFileOf cmp tables f.now) (sym c.file-item.is) (files c.loop-file.file-index file c.loop-file-test.true) in
    let there = table_later _ _ file.now.number is.table.bytes c.loop-file.invariant.reads.same (held file.now.number is.table is.there) in
    handed c.from_residual.result c.in_err-found.field-0.0 _ c.from_residual.ensures.1 (c.in_err-found.ensures.given is.table there is.accepted is.size)

pub returns-clause-given : goal.returns-clause-given
returns-clause-given g c tables held files =
    let t = c.args.target.bytes.now in
    let entries : Bor FileMeta → List Entry = λ f. table_entries tables f.now.number in
    let all : take c.loop-file.file-index c.args.files.now ≡ c.args.files.now = take_all c.loop-file.file-index c.args.files.now (omega arith) in
    subst (λ (fs : List (Bor FileMeta)). IsAnswer (flat_map entries fs) (user_of t) (sequence_of t) (option_map visible_of c.loop-file.newest)) all (c.loop-file.invariant.newest tables held files)
