use Rattle.std.proofs.Common.{◌≡◌, ℕ, Option, subst}
use Rattle.std.specs.Global.{Vec}
use Rattle.std.specs.Prelude.{IfSome}
use Rattle.logrec.specs.LogReader.{with_first}
use Rattle.edit.specs.Edit.{edit_in}
use Rattle.edit.specs.Version.{empty_state}
use Rattle.folder.specs.Manifest.{version_after_edits}
use Rattle.folder.proofs.ManifestReadings.{handed_equal, next_edit, version_on, version_unapplied, version_undecoded}
use Rattle.folder.proofs.manifest_version.version_after.Goals as goal

pub returns-in_err-edit : goal.returns-in_err-edit
returns-in_err-edit g c rs es is are =
    let name = g.C.Comparator.name_bytes in
    let e = c.in_err-edit.field-0.0 in
    let old = c.loop-version.records.ahead in
    let new = c.next.new.self.ahead in
    let r = c.in-Some.encoded.items in
    let v = c.loop-version.version in
    let all = version_after_edits name empty_state es in
    let next : old ≡ with_first r new = subst (λ (o : Option (Vec ℕ)). IfSome o (λ x. old ≡ with_first x.items new)) c.in-Some.is c.in_ok-encoded.ensures.read in
    let n = next_edit name es old new r v next (c.loop-version.invariant rs es is are) in
    handed_equal (λ x. x) c.from_residual-in_err-edit.result e all c.from_residual-in_err-edit.ensures.1
    (version_undecoded name es r new v e all n (c.in_err-edit.ensures.only n.edit n.is_edit))

pub returns-in_err-version : goal.returns-in_err-version
returns-in_err-version g c rs es is are =
    let name = g.C.Comparator.name_bytes in
    let f = c.in_err-version.field-0.0 in
    let old = c.loop-version.records.ahead in
    let new = c.next.new.self.ahead in
    let r = c.in-Some.encoded.items in
    let v = c.loop-version.version in
    let next : old ≡ with_first r new = subst (λ (o : Option (Vec ℕ)). IfSome o (λ x. old ≡ with_first x.items new)) c.in-Some.is c.in_ok-encoded.ensures.read in
    let n = next_edit name es old new r v next (c.loop-version.invariant rs es is are) in
    handed_equal (λ x. x) c.from_residual-in_err-version.result f (version_after_edits name empty_state es) c.from_residual-in_err-version.ensures.1
    (version_unapplied name es r new v (edit_in c.in_ok-edit.edit) f n (c.in_ok-edit.ensures.only n.edit n.is_edit) c.in_err-version.ensures.after)

pub loop-version-preserved : goal.loop-version-preserved
loop-version-preserved g c rs es is are =
    let name = g.C.Comparator.name_bytes in
    let old = c.loop-version.records.ahead in
    let new = c.next.new.self.ahead in
    let r = c.in-Some.encoded.items in
    let v = c.loop-version.version in
    let next : old ≡ with_first r new = subst (λ (o : Option (Vec ℕ)). IfSome o (λ x. old ≡ with_first x.items new)) c.in-Some.is c.in_ok-encoded.ensures.read in
    let n = next_edit name es old new r v next (c.loop-version.invariant rs es is are) in
    version_on name es r new v c.in_ok-version.version (edit_in c.in_ok-edit.edit) n (c.in_ok-edit.ensures.only n.edit n.is_edit) c.in_ok-version.ensures.after
