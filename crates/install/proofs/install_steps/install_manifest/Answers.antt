use Rattle.std.proofs.Common.{◌<◌, ◌^◌, arith}
use Rattle.install.specs.Install.{current_calls, manifest_calls}
use Rattle.install.proofs.Current.{manifest_leaves, told_current}
use Rattle.install.proofs.InstallRuns.{install_named, install_refused, install_stopped}
use Rattle.install.proofs.Parts.{runs_whole}
use Rattle.install.proofs.install_steps.install_manifest.Goals as goal

pub returns-in_err-write_manifest : goal.returns-in_err-write_manifest
returns-in_err-write_manifest g c =
    let n = c.args.number in
    let part = c.in_err-write_manifest.ensures in
    install_stopped (manifest_calls n c.args.manifest.now) (current_calls n) c.args.opened c.args.folder.now c.write_manifest.new.folder c.in_err-write_manifest.field-0.0 c.from_residual.result
    c.from_residual.ensures.1 part.runs part.refused part.at_once part.later

pub returns-in_err-test_current : goal.returns-in_err-test_current
returns-in_err-test_current g c =
    let n = c.args.number in
    let a = c.args.folder.now in
    let b = c.write_manifest.new.folder in
    let first = manifest_calls n c.args.manifest.now in
    let part = c.in_ok-write_manifest.ensures in
    let small : n < 2 ^ 64 = omega arith in
    let told = told_current first (manifest_leaves n c.args.manifest.now small) (g.F.Folder.calls a) (g.F.Folder.calls b) (g.F.Folder.tells a) (g.F.Folder.tells b) (runs_whole first _ _ _ _ _ part.runs) in
    install_refused first (current_calls n) c.args.opened a b c.test_current.new.folder _ c.in_err-test_current.field-0.0 c.from_residual-in_err-test_current.result c.from_residual-in_err-test_current.ensures.1
    part.runs part.at_once part.later told c.in_err-test_current.ensures.reads c.in_err-test_current.ensures.device c.in_err-test_current.ensures.answer

pub returns : goal.returns
returns g c =
    let n = c.args.number in
    let a = c.args.folder.now in
    let b = c.write_manifest.new.folder in
    let first = manifest_calls n c.args.manifest.now in
    let part = c.in_ok-write_manifest.ensures in
    let small : n < 2 ^ 64 = omega arith in
    let told = told_current first (manifest_leaves n c.args.manifest.now small) (g.F.Folder.calls a) (g.F.Folder.calls b) (g.F.Folder.tells a) (g.F.Folder.tells b) (runs_whole first _ _ _ _ _ part.runs) in
    let end = c.name_current.ensures in
    install_named first (current_calls n) c.args.opened a b c.test_current.new.folder c.name_current.new.folder _ _ c.name_current.result
    part.runs part.at_once part.later told c.in_ok-test_current.ensures.reads c.in_ok-test_current.ensures.device c.in_ok-test_current.ensures.answer part.readings c.in_ok-test_current.ensures.again end.readings end.runs end.refused end.at_once end.later
