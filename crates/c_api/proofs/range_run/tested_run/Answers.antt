use Rattle.std.proofs.Common.{◌≡◌, List, map, Result, sym, ap, subst, ◌∙◌}
use Rattle.ikey.specs.Answers.{EqualOrMemory}
use Rattle.ikey.specs.fault.Fault.{Fault}
use Rattle.edit.proofs.Binds.{ok_is}
use Rattle.keep.specs.Runs.{Run}
use Rattle.c_api.specs.Files.{meta_at}
use Rattle.c_api.specs.Held.{near_of, overlaps_at}
use Rattle.c_api.specs.Merges.{AskedMerge, asked_in, merge_reading}
use Rattle.c_api.specs.Requests.{files_of}
use Rattle.c_api.specs.declared.file.File.{File}
use Rattle.c_api.proofs.Merging.{files_lent}
use Rattle.c_api.proofs.SparedFiles.{lent_few, merge_few}
use Rattle.c_api.proofs.range_run.tested_run.Goals as goal

pub near_files-requires : goal.near_files-requires
near_files-requires g c =
    let m : AskedMerge = asked_in c.args.lent.now in
    files_lent m c.requires.lent c.deref.result.now (c.deref.ensures.value ∙ sym (ok_is (files_of m.inputs) c.in_ok-files.files.items c.in_ok-files.ensures))

pub few_run-requires-clause-lent : goal.few_run-requires-clause-lent
few_run-requires-clause-lent g c =
    let cmp = g.C.Comparator.cmp in
    let m : AskedMerge = asked_in c.args.lent.now in
    lent_few m (overlaps_at cmp m.keys (map (meta_at m.keys) c.deref.result.now)) c.deref-2.result.now
    (c.deref-2.ensures.value ∙ sym (ok_is (near_of cmp m.keys c.deref.result.now m.deeper) c.in_ok-near.near.items c.in_ok-near.ensures)) c.requires.lent

pub returns : goal.returns
returns g c =
    let cmp = g.C.Comparator.cmp in
    let m : AskedMerge = asked_in c.args.lent.now in
    let is : c.deref-2.result.now ≡ near_of cmp m.keys (files_of m.inputs) m.deeper =
    c.deref-2.ensures.value
    ∙ sym (ok_is (near_of cmp m.keys c.deref.result.now m.deeper) c.in_ok-near.near.items c.in_ok-near.ensures)
    ∙ ap (λ (fs : List File). near_of cmp m.keys fs m.deeper) (c.deref.ensures.value ∙ sym (ok_is (files_of m.inputs) c.in_ok-files.files.items c.in_ok-files.ensures)) in
    subst (λ (a : Result Run Fault). EqualOrMemory (λ (r : Run). r) c.few_run.result a)
    (ap (λ (ds : List File). merge_reading (record m { deeper = ds }) cmp) is ∙ merge_few cmp m g.met.C.Comparator.total c.requires.read)
    c.few_run.ensures
