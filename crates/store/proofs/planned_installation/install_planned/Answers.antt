use Rattle.std.proofs.Common.{◌≡◌, ◌<◌, ◌^◌, [], ap, ◌∙◌, arith}
use Rattle.install.specs.Install.{manifest_bytes}
use Rattle.install.proofs.Grouped.{groups_installed, groups_stopped, none_installed}
use Rattle.store.proofs.planned_installation.install_planned.Goals as goal

pub returns-in_err-manifest : goal.returns-in_err-manifest
returns-in_err-manifest g c =
    none_installed g.C.Comparator.name_bytes g.C.Comparator.cmp c.args.version.now c.args.opened c.args.number c.args.planned.now.groups c.args.planned.now.edit [] c.args.folder.now
    c.in_err-manifest.field-0.0 c.from_residual.result c.in_err-manifest.ensures.memory c.from_residual.ensures.1

pub returns-in_err-write_groups : goal.returns-in_err-write_groups
returns-in_err-write_groups g c =
    let name = g.C.Comparator.name_bytes in
    let cmp = g.C.Comparator.cmp in
    let v = c.args.version.now in
    let n = c.args.number in
    let p = c.args.planned.now in
    let small : n < 2 ^ 64 = omega arith in
    let is : c.in_ok-manifest.manifest.items ≡ manifest_bytes name cmp v p.edit = c.in_ok-manifest.ensures.bytes ∙ ap (manifest_bytes name cmp v) c.edit.ensures in
    let part = c.in_err-write_groups.ensures in
    groups_stopped name cmp v c.args.opened n p.groups p.edit c.in_ok-manifest.manifest.items small (g.met.C.Comparator g.world.𝓛 g.world.𝓜 g.world.𝓡 ((λ s x. x), (λ x. x), (λ x. x), λ x. x)).total is c.in_ok-manifest.ensures.state c.in_ok-manifest.ensures.reads_back
    c.args.folder.now c.write_groups.new.folder c.in_err-write_groups.field-0.0 c.from_residual-in_err-write_groups.result c.from_residual-in_err-write_groups.ensures.1
    part.runs part.refused part.device.at_once part.device.later

pub returns : goal.returns
returns g c =
    let name = g.C.Comparator.name_bytes in
    let cmp = g.C.Comparator.cmp in
    let v = c.args.version.now in
    let n = c.args.number in
    let p = c.args.planned.now in
    let small : n < 2 ^ 64 = omega arith in
    let is : c.deref.result.now ≡ manifest_bytes name cmp v p.edit = c.deref.ensures.value ∙ (c.in_ok-manifest.ensures.bytes ∙ ap (manifest_bytes name cmp v) c.edit.ensures) in
    let part = c.in_ok-write_groups.ensures in
    groups_installed name cmp v c.args.opened n p.groups p.edit c.deref.result.now small (g.met.C.Comparator g.world.𝓛 g.world.𝓜 g.world.𝓡 ((λ s x. x), (λ x. x), (λ x. x), λ x. x)).total is c.in_ok-manifest.ensures.state c.in_ok-manifest.ensures.reads_back
    c.args.folder.now c.write_groups.new.folder c.install_manifest.new.folder _ c.install_manifest.result
    part.runs part.device.at_once part.device.later c.install_manifest.ensures
