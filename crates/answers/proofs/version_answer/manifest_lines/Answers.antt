use Rattle.std.proofs.Common.{◌≡◌, ◌++◌, List, ℕ, [], Ok, map, string_bytes, sym, ap, ◌∙◌}
use Rattle.std.specs.Global.{Vec}
use Rattle.table.proofs.Binds.{ok_is}
use Rattle.table.proofs.Texts.{joined}
use Rattle.folder.specs.Manifest.{order_name}
use Rattle.folder.specs.Orders.{order_cmp}
use Rattle.answers.specs.Rows.{rows_lines}
use Rattle.answers.specs.Seen.{seen}
use Rattle.answers.specs.VersionAnswer.{counters_of, file_rows, head_lines, pointer_rows}
use Rattle.answers.proofs.RowLemmas.{lines_of}
use Rattle.answers.proofs.version_answer.manifest_lines.Goals as goal

pub returns : goal.returns
returns c =
    let v = c.args.version.now in
    let s = c.args.spelling in
    let all = file_rows (order_cmp c.args.order) v in
    let h = head_lines (order_name c.args.order) (counters_of v) in
    let head : head_lines c.name.result.now c.of.result ≡ h = ap (λ (n : List ℕ). head_lines n c.of.result) c.name.ensures ∙ ap (head_lines (order_name c.args.order)) c.of.ensures in
    let p = rows_lines s (pointer_rows v) in
    let f = rows_lines s all in
    let pointers = lines_of s c.deref.result.now (pointer_rows v) (ap (map seen) c.deref.ensures.value ∙ sym (ok_is _ _ c.in_ok-pointers.ensures)) in
    let files = lines_of s c.deref-2.result.now all (ap (map seen) c.deref-2.ensures.value ∙ sym (ok_is _ _ c.in_ok-files.ensures)) in
    let first = string_bytes c.in_ok-text.text in
    let second = string_bytes c.push_rows.new.text in
    let third = string_bytes c.push_rows-2.new.text in
    let two = joined [] first second h p (sym (ok_is _ _ c.in_ok-text.ensures) ∙ head) (c.in_ok-push_rows.ensures.ok ∙ ap (λ (t : List ℕ). first ++ t) pointers) in
    let three = joined [] second third (h ++ p) f two (c.in_ok-push_rows-2.ensures.ok ∙ ap (λ (t : List ℕ). second ++ t) files) in
    ap (λ (t : List ℕ). Ok t) (sym (ap (λ (x : Vec ℕ). x.items) c.into_bytes.ensures.value ∙ three))
