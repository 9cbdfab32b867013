use Rattle.std.proofs.Common.{◌≡◌, ◌+◌, ◌++◌, [], ◌∷◌, suc, drop, get_or, length, map, take, refl, ◌∙◌, arith}
use Rattle.folder.specs.Calls.{Removed}
use Rattle.folder.specs.declared.folder.FolderFault.{FolderFault}
use Rattle.install.proofs.ObsoleteNames.{all_taken, calls_around, calls_on, no_name, texts}
use Rattle.install.proofs.Telling.{run_as, run_empty, run_handed, run_same, run_then}
use Rattle.install.proofs.removal.remove_each.Goals as goal

pub loop-name-init : goal.loop-name-init
loop-name-init g c = record {
  run = run_empty g.W.RemovalWatch.tells {E = FolderFault} (g.F.Folder.calls c.args.folder.now) (g.F.Folder.tells c.args.folder.now) c.args.watch.now tt;
  failures = refl;
}

pub returns-in_err-remove_one-clause-run : goal.returns-in_err-remove_one-clause-run
returns-in_err-remove_one-clause-run g c =
    let calls = g.F.Folder.calls in
    let tells = g.F.Folder.tells in
    let tell = g.W.RemovalWatch.tells in
    let a = c.args.folder.now in
    let b = c.loop-name.folder in
    let d = c.remove_one.new.folder in
    let names = c.args.names.now in
    let i = c.loop-name.name-index in
    let front = map Removed (texts (take i names)) in
    let one = Removed (get_or names i no_name).now ∷ [] in
    let rest = map Removed (texts (drop (suc i) names)) in
    let r = c.from_residual.result in
    run_same tell (front ++ (one ++ rest)) (map Removed (texts names)) (calls a) (calls d) (tells a) (tells d) c.args.watch.now c.remove_one.new.watch r (calls_around names i c.loop-name-test.true)
    (run_then tell {E = FolderFault} front (one ++ rest) (calls a) (calls b) (calls d) (tells a) (tells b) (tells d) c.args.watch.now c.loop-name.watch c.remove_one.new.watch tt r c.loop-name.invariant.run
    (run_handed tell _ one rest (calls b) (calls d) (tells b) (tells d) c.loop-name.watch c.remove_one.new.watch c.in_err-remove_one.field-0.0 r c.from_residual.ensures.1 c.in_err-remove_one.ensures.run))

pub loop-name-preserved : goal.loop-name-preserved
loop-name-preserved g c =
    let calls = g.F.Folder.calls in
    let tells = g.F.Folder.tells in
    let tell = g.W.RemovalWatch.tells in
    let a = c.args.folder.now in
    let b = c.loop-name.folder in
    let d = c.remove_one.new.folder in
    let names = c.args.names.now in
    let i = c.loop-name.name-index in
    let front = map Removed (texts (take i names)) in
    let one = Removed (get_or names i no_name).now ∷ [] in
    record {
      run = run_same tell (front ++ one) (map Removed (texts (take (i + 1) names))) (calls a) (calls d) (tells a) (tells d) c.args.watch.now c.remove_one.new.watch _ (calls_on names i c.loop-name-test.true)
          (run_then tell {E = FolderFault} front one (calls a) (calls b) (calls d) (tells a) (tells b) (tells d) c.args.watch.now c.loop-name.watch c.remove_one.new.watch tt _ c.loop-name.invariant.run
          (run_as tell {E = FolderFault} {G = FolderFault} one (calls b) (calls d) (tells b) (tells d) c.loop-name.watch c.remove_one.new.watch c.in_ok-remove_one.field-0 tt c.in_ok-remove_one.ensures.run));
      failures = c.in_ok-remove_one.ensures.failures ∙ c.loop-name.invariant.failures;
    }

pub returns-clause-run : goal.returns-clause-run
returns-clause-run g c =
    let calls = g.F.Folder.calls in
    let tells = g.F.Folder.tells in
    let a = c.args.folder.now in
    let b = c.loop-name.folder in
    let names = c.args.names.now in
    let i = c.loop-name.name-index in
    let past : i ≡ length names = omega (arith, c.loop-name.auto.name-index-end, c.loop-name-test.false) in
    run_same g.W.RemovalWatch.tells (map Removed (texts (take i names))) (map Removed (texts names)) (calls a) (calls b) (tells a) (tells b) c.args.watch.now c.loop-name.watch _ (all_taken names i past) c.loop-name.invariant.run
