use Rattle.std.proofs.Common.{◌≡◌, ◌∷◌, [], List, ℕ, codes, string_bytes, sym, ap}
use Rattle.edit.proofs.Binds.{ok_is}
use Rattle.folder.specs.Calls.{FolderSynced, Renamed}
use Rattle.folder.specs.Names.{temporary_name}
use Rattle.install.specs.Install.{current_calls}
use Rattle.install.proofs.Parts.{hands_none, hands_stopped, runs_same, runs_whole}
use Rattle.install.proofs.install_steps.name_current.Goals as goal

pub returns-in_err-name-clause-runs : goal.returns-in_err-name-clause-runs
returns-in_err-name-clause-runs g c =
    hands_none _ (current_calls c.args.number) (g.F.Folder.calls c.args.folder.now) (g.F.Folder.tells c.args.folder.now) c.from_residual.result c.from_residual.ensures.1

pub returns-in_err-make_current-clause-runs : goal.returns-in_err-make_current-clause-runs
returns-in_err-make_current-clause-runs g c =
    let calls = g.F.Folder.calls in
    let tells = g.F.Folder.tells in
    let a = c.args.folder.now in
    let b = c.make_current.new.folder in
    let n = c.args.number in
    let name = string_bytes c.in_ok-name.name in
    let named : name ≡ temporary_name n = sym (ok_is (temporary_name n) name c.in_ok-name.ensures) in
    hands_stopped _ (current_calls n) [] (calls a) (calls b) (tells a) (tells b) c.in_err-make_current.field-0.0 c.from_residual-in_err-make_current.result c.from_residual-in_err-make_current.ensures.1
    (runs_same (Renamed name (codes "CURRENT") ∷ FolderSynced ∷ []) (current_calls n) (calls a) (calls b) (tells a) (tells b) _ (ap (λ (x : List ℕ). Renamed x (codes "CURRENT") ∷ FolderSynced ∷ []) named) c.in_err-make_current.ensures.runs)

pub returns-clause-runs : goal.returns-clause-runs
returns-clause-runs g c =
    let calls = g.F.Folder.calls in
    let tells = g.F.Folder.tells in
    let a = c.args.folder.now in
    let b = c.make_current.new.folder in
    let n = c.args.number in
    let name = string_bytes c.in_ok-name.name in
    let named : name ≡ temporary_name n = sym (ok_is (temporary_name n) name c.in_ok-name.ensures) in
    runs_whole (current_calls n) (calls a) (calls b) (tells a) (tells b) tt
    (runs_same (Renamed name (codes "CURRENT") ∷ FolderSynced ∷ []) (current_calls n) (calls a) (calls b) (tells a) (tells b) _ (ap (λ (x : List ℕ). Renamed x (codes "CURRENT") ∷ FolderSynced ∷ []) named) c.in_ok-make_current.ensures.runs)
