use Rattle.std.proofs.Common.{List, ℕ, refl, subst, arith}
use Rattle.folder.specs.Answers.{UnlessMemory}
use Rattle.folder.specs.Edit.{IsEditRefused}
use Rattle.folder.proofs.ReportLemmas.{reports_after, reports_handed, reports_steady}
use Rattle.install.specs.Install.{current_calls, manifest_calls}
use Rattle.install.specs.InstallCalls.{IsInstallCalls}
use Rattle.store.specs.ManifestReady.{IsManifestReady}
use Rattle.store.proofs.NamedEnds.{naming_done, naming_refused, unnamed}
use Rattle.store.proofs.NoDevice.{edit_other, handed_other}
use Rattle.store.proofs.named_edits.name_edits.Goals as goal

pub returns-in_err-ready-clause-named : goal.returns-in_err-ready-clause-named
returns-in_err-ready-clause-named g c =
    let e = c.in_err-ready.field-0.0 in
    unnamed g.F.Folder g.C.Comparator.name_bytes g.C.Comparator.cmp c.args.opened.now.version c.args.opened.now.manifest c.args.written c.args.folder.now c.from_residual.result e c.from_residual.ensures.1
    (subst (λ (bs : List ℕ). UnlessMemory e (IsEditRefused bs e)) c.deref.ensures.value c.in_err-ready.ensures.refused)

pub returns-in_err-ready-clause-device : goal.returns-in_err-ready-clause-device
returns-in_err-ready-clause-device g c =
    let e = c.in_err-ready.field-0.0 in
    reports_steady c.from_residual.result refl (handed_other c.from_residual.result e _ c.from_residual.ensures.1 (edit_other c.deref.result.now e) c.in_err-ready.ensures.refused)

pub returns-in_err-install_manifest-clause-named : goal.returns-in_err-install_manifest-clause-named
returns-in_err-install_manifest-clause-named g c =
    let name = g.C.Comparator.name_bytes in
    let cmp = g.C.Comparator.cmp in
    let o = c.args.opened.now in
    let ready = subst (λ (bs : List ℕ). IsManifestReady name cmp o.version bs c.in_ok-ready.ready) c.deref.ensures.value c.in_ok-ready.ensures.ready in
    let calls = subst (λ (bs : List ℕ). IsInstallCalls g.F.Folder (manifest_calls c.manifest_of-number.result bs) (current_calls c.manifest_of-number.result) o.manifest c.args.folder.now c.install_manifest.new.folder c.install_manifest.result) c.deref-2.ensures.value c.install_manifest.ensures in
    naming_refused g.F.Folder name cmp o.version o.manifest c.args.written c.args.folder.now c.install_manifest.new.folder c.in_ok-ready.ready ready c.manifest_of-number.result c.manifest_of-number.ensures (omega arith)
    c.install_manifest.result c.from_residual-in_err-install_manifest.result c.in_err-install_manifest.field-0.0 c.in_err-install_manifest.was c.from_residual-in_err-install_manifest.ensures.1 calls

pub returns-in_err-install_manifest-clause-device : goal.returns-in_err-install_manifest-clause-device
returns-in_err-install_manifest-clause-device g c = reports_handed c.from_residual-in_err-install_manifest.result c.in_err-install_manifest.was c.install_manifest.ensures.run.device c.from_residual-in_err-install_manifest.ensures.1

pub returns-clause-named : goal.returns-clause-named
returns-clause-named g c =
    let name = g.C.Comparator.name_bytes in
    let cmp = g.C.Comparator.cmp in
    let o = c.args.opened.now in
    let ready = subst (λ (bs : List ℕ). IsManifestReady name cmp o.version bs c.in_ok-ready.ready) c.deref.ensures.value c.in_ok-ready.ensures.ready in
    let calls = subst (λ (bs : List ℕ). IsInstallCalls g.F.Folder (manifest_calls c.manifest_of-number.result bs) (current_calls c.manifest_of-number.result) o.manifest c.args.folder.now c.install_manifest.new.folder c.install_manifest.result) c.deref-2.ensures.value c.install_manifest.ensures in
    naming_done g.F.Folder name cmp o.version o.manifest c.args.written c.args.folder.now c.install_manifest.new.folder c.in_ok-ready.ready ready c.manifest_of-number.result c.manifest_of-number.ensures (omega arith)
    c.install_manifest.result c.in_ok-install_manifest.field-0 _ c.in_ok-install_manifest.was calls refl refl refl refl

pub returns-clause-device : goal.returns-clause-device
returns-clause-device g c = reports_after _ c.in_ok-install_manifest.was c.install_manifest.ensures.run.device tt
