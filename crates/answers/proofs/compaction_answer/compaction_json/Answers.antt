use Rattle.std.proofs.Common.{◌≡◌, List, ℕ, [], ◌∷◌, codes, Ok, map, sym, ap, ap₂, ◌∙◌}
use Rattle.serde_json.specs.Data.{Data, Members, array, object, put, string}
use Rattle.serde_json.specs.View.{items_of, members_view, view}
use Rattle.serde_json.proofs.Views.{view-Array, view-Object}
use Rattle.table.proofs.Binds.{ok_is}
use Rattle.texts.specs.declared.spelling.Spelling.TheVariants.{Hexadecimal}
use Rattle.answers.specs.CompactionAnswer.{end_field, output_row}
use Rattle.answers.specs.Objects.{members_of, natural}
use Rattle.answers.specs.Rows.{deleted, row_object, rows_array}
use Rattle.answers.specs.Seen.{seen}
use Rattle.answers.proofs.RowLemmas.{objects_of}
use Rattle.answers.proofs.compaction_answer.compaction_json.Goals as goal

pub returns : goal.returns
returns c =
    let made = map output_row c.args.outputs.now in
    let gone = map deleted c.args.deleted.now.keys in
    let outputs : map view c.in_ok-outputs.outputs.items ≡ map (row_object Hexadecimal) made =
    sym (ok_is _ _ c.in_ok-outputs.ensures) ∙ objects_of Hexadecimal c.deref.result.now made (ap (map seen) c.deref.ensures.value ∙ sym (ok_is _ _ c.in_ok-output_rows.ensures)) in
    let inputs : map view c.in_ok-deleted.deleted.items ≡ map (row_object Hexadecimal) gone =
    sym (ok_is _ _ c.in_ok-deleted.ensures) ∙ objects_of Hexadecimal c.deref-2.result.now gone (ap (map seen) c.deref-2.ensures.value ∙ sym (ok_is _ _ c.in_ok-deleted_rows.ensures)) in
    let level : List ℕ × Data = (codes "level", natural c.args.level) in
    let of : List ℕ × List ℕ → Members = λ f. members_of (level ∷ (f.0, string f.1) ∷ []) in
    let name : List ℕ = c.in_ok-name.name.now in
    let first : members_view c.in_ok-members.members.entries ≡ of (end_field c.args.end) =
    sym (ok_is _ _ c.in_ok-members.ensures) ∙ ap (λ (t : List ℕ). of (name, t)) c.as_str.ensures.value ∙ ap of (sym (ok_is _ _ c.in_ok-name.ensures)) in
    let second : members_view c.put.new.map.entries ≡ put (codes "outputs") (rows_array Hexadecimal made) (of (end_field c.args.end)) =
    c.in_ok-put.ensures.ok ∙ ap (λ (d : Data). put (codes "outputs") d (members_view c.in_ok-members.members.entries)) (view-Array c.in_ok-outputs.outputs)
    ∙ ap₂ (λ (os : List Data) (ms : Members). put (codes "outputs") (array (items_of os)) ms) outputs first in
    let third = c.in_ok-put-2.ensures.ok ∙ ap (λ (d : Data). put (codes "deleted") d (members_view c.put.new.map.entries)) (view-Array c.in_ok-deleted.deleted)
    ∙ ap₂ (λ (ds : List Data) (ms : Members). put (codes "deleted") (array (items_of ds)) ms) inputs second in
    ap (λ (d : Data). Ok d) (sym (view-Object c.put-2.new.map ∙ ap object third))
