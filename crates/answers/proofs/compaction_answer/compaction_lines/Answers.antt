use Rattle.std.proofs.Common.{◌≡◌, ◌++◌, [], Ok, List, ℕ, map, string_bytes, sym, ap, ◌∙◌}
use Rattle.table.proofs.Binds.{ok_is}
use Rattle.table.proofs.Texts.{joined}
use Rattle.texts.specs.declared.spelling.Spelling.TheVariants.{Hexadecimal}
use Rattle.answers.specs.CompactionAnswer.{end_field, field_line, output_row}
use Rattle.answers.specs.Rows.{deleted, rows_lines}
use Rattle.answers.specs.Seen.{seen}
use Rattle.answers.proofs.RowLemmas.{lines_of}
use Rattle.answers.proofs.compaction_answer.compaction_lines.Goals as goal

pub returns : goal.returns
returns c =
    let made = map output_row c.args.outputs.now in
    let gone = map deleted c.args.deleted.now.keys in
    let o = rows_lines Hexadecimal made in
    let d = rows_lines Hexadecimal gone in
    let outputs = lines_of Hexadecimal c.deref.result.now made (ap (map seen) c.deref.ensures.value ∙ sym (ok_is _ _ c.in_ok-outputs.ensures)) in
    let inputs = lines_of Hexadecimal c.deref-2.result.now gone (ap (map seen) c.deref-2.ensures.value ∙ sym (ok_is _ _ c.in_ok-deleted.ensures)) in
    let name : List ℕ = c.in_ok-name.name.now in
    let end : field_line (name, c.as_str.result.now) ≡ field_line (end_field c.args.end) =
    ap (λ (t : List ℕ). field_line (name, t)) c.as_str.ensures.value ∙ ap field_line (sym (ok_is _ _ c.in_ok-name.ensures)) in
    let first = string_bytes c.push_rows.new.text in
    let second = string_bytes c.push_rows-2.new.text in
    let last = string_bytes c.push_field.new.text in
    let one : first ≡ [] ++ o = c.in_ok-push_rows.ensures.ok ∙ ap (λ (t : List ℕ). string_bytes c.new-text.result ++ t) outputs ∙ ap (λ (t : List ℕ). t ++ o) c.new-text.ensures.bytes in
    let two : second ≡ [] ++ (o ++ d) = joined [] first second o d one (c.in_ok-push_rows-2.ensures.ok ∙ ap (λ (t : List ℕ). first ++ t) inputs) in
    let all = joined [] second last (o ++ d) (field_line (end_field c.args.end)) two (c.in_ok-push_field.ensures.ok ∙ ap (λ (t : List ℕ). second ++ t) end) in
    ap (λ (t : List ℕ). Ok t) (sym all)
