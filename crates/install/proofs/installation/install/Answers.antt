use Rattle.std.proofs.Common.{◌≡◌, ◌<◌, ◌^◌, ◌∷◌, [], ap, ◌∙◌, arith}
use Rattle.install.specs.Install.{manifest_bytes, table_calls, tables_in}
use Rattle.install.proofs.Grouped.{groups_installed, groups_stopped, joined_one, none_installed}
use Rattle.install.proofs.Parts.{runs_same}
use Rattle.install.proofs.TwoPieces.{all_written, none_written, some_written}
use Rattle.install.proofs.installation.install.Goals as goal

pub returns-in_err-manifest-clause-grouped : goal.returns-in_err-manifest-clause-grouped
returns-in_err-manifest-clause-grouped g c =
    none_installed g.C.Comparator.name_bytes g.C.Comparator.cmp c.args.version.now c.args.opened c.args.manifest_number (tables_in c.args.outcome.now.tables.items ∷ []) c.args.outcome.now.edit.items [] c.args.folder.now
    c.in_err-manifest.field-0.0 c.from_residual.result c.in_err-manifest.ensures.memory c.from_residual.ensures.1

pub returns-in_err-manifest-clause-work : goal.returns-in_err-manifest-clause-work
returns-in_err-manifest-clause-work g c =
    let tables = tables_in c.args.outcome.now.tables.items in
    none_written _ g.C.Comparator.name_bytes g.C.Comparator.cmp c.args.version.now c.args.manifest_number (tables ∷ []) tables c.args.outcome.now.edit.items (joined_one tables) c.args.folder.now
    c.in_err-manifest.field-0.0 c.from_residual.result c.from_residual.ensures.1

pub returns-in_err-write_group-clause-grouped : goal.returns-in_err-write_group-clause-grouped
returns-in_err-write_group-clause-grouped g c =
    let calls = g.F.Folder.calls in
    let tells = g.F.Folder.tells in
    let name = g.C.Comparator.name_bytes in
    let cmp = g.C.Comparator.cmp in
    let v = c.args.version.now in
    let n = c.args.manifest_number in
    let groups = tables_in c.args.outcome.now.tables.items ∷ [] in
    let edit = c.args.outcome.now.edit.items in
    let a = c.args.folder.now in
    let b = c.write_group.new.folder in
    let small : n < 2 ^ 64 = omega arith in
    let is : c.in_ok-manifest.manifest.items ≡ manifest_bytes name cmp v edit = c.in_ok-manifest.ensures.bytes ∙ ap (manifest_bytes name cmp v) c.deref.ensures.value in
    let part = c.in_err-write_group.ensures in
    groups_stopped name cmp v c.args.opened n groups edit c.in_ok-manifest.manifest.items small g.met.C.Comparator.total is c.in_ok-manifest.ensures.state c.in_ok-manifest.ensures.reads_back
    a b c.in_err-write_group.field-0.0 c.from_residual-in_err-write_group.result c.from_residual-in_err-write_group.ensures.1
    (runs_same (table_calls (tables_in c.deref-2.result.now ∷ [])) (table_calls groups) (calls a) (calls b) (tells a) (tells b) _ (ap (λ t. table_calls (tables_in t ∷ [])) c.deref-2.ensures.value) part.runs)
    part.refused part.at_once part.later

pub returns-in_err-write_group-clause-work : goal.returns-in_err-write_group-clause-work
returns-in_err-write_group-clause-work g c =
    let calls = g.F.Folder.calls in
    let tells = g.F.Folder.tells in
    let tables = tables_in c.args.outcome.now.tables.items in
    let a = c.args.folder.now in
    let b = c.write_group.new.folder in
    let part = c.in_err-write_group.ensures in
    some_written _ g.C.Comparator.name_bytes g.C.Comparator.cmp c.args.version.now c.args.manifest_number (tables ∷ []) tables c.args.outcome.now.edit.items (joined_one tables) a b
    c.in_err-write_group.field-0.0 c.from_residual-in_err-write_group.result c.from_residual-in_err-write_group.ensures.1
    (runs_same (table_calls (tables_in c.deref-2.result.now ∷ [])) (table_calls (tables ∷ [])) (calls a) (calls b) (tells a) (tells b) _ (ap (λ t. table_calls (tables_in t ∷ [])) c.deref-2.ensures.value) part.runs)

pub returns-clause-work : goal.returns-clause-work
returns-clause-work g c =
    let calls = g.F.Folder.calls in
    let tells = g.F.Folder.tells in
    let name = g.C.Comparator.name_bytes in
    let cmp = g.C.Comparator.cmp in
    let v = c.args.version.now in
    let tables = tables_in c.args.outcome.now.tables.items in
    let edit = c.args.outcome.now.edit.items in
    let a = c.args.folder.now in
    let b = c.write_group.new.folder in
    let is : c.deref-3.result.now ≡ manifest_bytes name cmp v edit = c.deref-3.ensures.value ∙ (c.in_ok-manifest.ensures.bytes ∙ ap (manifest_bytes name cmp v) c.deref.ensures.value) in
    all_written _ name cmp v c.args.manifest_number (tables ∷ []) tables edit (joined_one tables) c.deref-3.result.now a b c.install_manifest.new.folder _ c.install_manifest.result is
    (runs_same (table_calls (tables_in c.deref-2.result.now ∷ [])) (table_calls (tables ∷ [])) (calls a) (calls b) (tells a) (tells b) _ (ap (λ t. table_calls (tables_in t ∷ [])) c.deref-2.ensures.value) c.in_ok-write_group.ensures.runs)
    c.install_manifest.ensures.run.runs

pub returns-clause-grouped : goal.returns-clause-grouped
returns-clause-grouped g c =
    let calls = g.F.Folder.calls in
    let tells = g.F.Folder.tells in
    let name = g.C.Comparator.name_bytes in
    let cmp = g.C.Comparator.cmp in
    let v = c.args.version.now in
    let n = c.args.manifest_number in
    let groups = tables_in c.args.outcome.now.tables.items ∷ [] in
    let edit = c.args.outcome.now.edit.items in
    let a = c.args.folder.now in
    let b = c.write_group.new.folder in
    let small : n < 2 ^ 64 = omega arith in
    let is : c.deref-3.result.now ≡ manifest_bytes name cmp v edit = c.deref-3.ensures.value ∙ (c.in_ok-manifest.ensures.bytes ∙ ap (manifest_bytes name cmp v) c.deref.ensures.value) in
    let part = c.in_ok-write_group.ensures in
    groups_installed name cmp v c.args.opened n groups edit c.deref-3.result.now small g.met.C.Comparator.total is c.in_ok-manifest.ensures.state c.in_ok-manifest.ensures.reads_back
    a b c.install_manifest.new.folder _ c.install_manifest.result
    (runs_same (table_calls (tables_in c.deref-2.result.now ∷ [])) (table_calls groups) (calls a) (calls b) (tells a) (tells b) _ (ap (λ t. table_calls (tables_in t ∷ [])) c.deref-2.ensures.value) part.runs)
    part.at_once part.later c.install_manifest.ensures
