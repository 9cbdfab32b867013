use Rattle.std.proofs.Common.{◌≡◌, ℕ, List, codes, Ok, map, sym, ap, ap₂, ◌∙◌}
use Rattle.serde_json.specs.Data.{Data, Members, array, object, put}
use Rattle.serde_json.specs.View.{items_of, members_view, view}
use Rattle.serde_json.proofs.Views.{view-Array, view-Object}
use Rattle.table.proofs.Binds.{ok_is}
use Rattle.folder.specs.Manifest.{order_name}
use Rattle.folder.specs.Orders.{order_cmp}
use Rattle.answers.specs.Objects.{members_of}
use Rattle.answers.specs.Rows.{row_object, rows_array}
use Rattle.answers.specs.Seen.{seen}
use Rattle.answers.specs.VersionAnswer.{counters_of, file_rows, head_fields, pointer_rows}
use Rattle.answers.proofs.RowLemmas.{objects_of}
use Rattle.answers.proofs.version_answer.version_json.Goals as goal

pub returns : goal.returns
returns c =
    let v = c.args.version.now in
    let s = c.args.spelling in
    let all = file_rows (order_cmp c.args.order) v in
    let name = order_name c.args.order in
    let head = members_of (head_fields name (counters_of v)) in
    let files : map view c.in_ok-files.files.items ≡ map (row_object s) all =
    sym (ok_is _ _ c.in_ok-files.ensures) ∙ objects_of s c.deref.result.now all (ap (map seen) c.deref.ensures.value ∙ sym (ok_is _ _ c.in_ok-file_rows.ensures)) in
    let pointers : map view c.in_ok-pointers.pointers.items ≡ map (row_object s) (pointer_rows v) =
    sym (ok_is _ _ c.in_ok-pointers.ensures) ∙ objects_of s c.deref-2.result.now (pointer_rows v) (ap (map seen) c.deref-2.ensures.value ∙ sym (ok_is _ _ c.in_ok-pointer_rows.ensures)) in
    let first : members_view c.in_ok-members.members.entries ≡ head =
    sym (ok_is _ _ c.in_ok-members.ensures) ∙ ap members_of (ap (λ (n : List ℕ). head_fields n c.of.result) c.name.ensures ∙ ap (head_fields name) c.of.ensures) in
    let second : members_view c.put.new.map.entries ≡ put (codes "files") (rows_array s all) head =
    c.in_ok-put.ensures.ok ∙ ap (λ (d : Data). put (codes "files") d (members_view c.in_ok-members.members.entries)) (view-Array c.in_ok-files.files)
    ∙ ap₂ (λ (fs : List Data) (ms : Members). put (codes "files") (array (items_of fs)) ms) files first in
    let third = c.in_ok-put-2.ensures.ok ∙ ap (λ (d : Data). put (codes "pointers") d (members_view c.put.new.map.entries)) (view-Array c.in_ok-pointers.pointers)
    ∙ ap₂ (λ (ps : List Data) (ms : Members). put (codes "pointers") (array (items_of ps)) ms) pointers second in
    ap (λ (d : Data). Ok d) (sym (view-Object c.put-2.new.map ∙ ap object third))
