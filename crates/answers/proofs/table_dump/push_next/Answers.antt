use Rattle.std.proofs.Common.{◌≡◌, ℕ, ◌++◌, List, [], ◌∷◌, drop, slice_get, Some, option_map, string_bytes, ap₂, ◌∙◌}
use Rattle.std.proofs.lemmas.List.{append_assoc}
use Rattle.table.proofs.Refused.{OnOk-map}
use Rattle.table.specs.EncodedEntry.{Entry}
use Rattle.answers.specs.Dump.{dump_line, dump_lines}
use Rattle.texts.specs.declared.spelling.Spelling.{Spelling}
use Rattle.answers.proofs.table_dump.push_next.Goals as goal

abbrev entry : List ℕ → List ℕ → Entry
entry key value = record { key = key; value = value }

-- the line of the first entry, and the lines of the others
told_one : (spelling : Spelling) (out after key value : List ℕ) (q rest : List Entry) → option_map (λ (e : Entry). e.key) (slice_get q 0) ≡ Some key → option_map (λ (e : Entry). e.value) (slice_get q 0) ≡ Some value
    → rest ≡ drop 1 q → after ≡ out ++ dump_line spelling (entry key value) → after ++ dump_lines spelling rest ≡ out ++ dump_lines spelling q
told_one spelling out after key value [] rest k v r a = absurd cc
told_one spelling out after key value (e ∷ q) rest k v r a =
    let same_key : key ≡ e.key = cc in
    let same_value : value ≡ e.value = cc in
    ap₂ (λ (x : List ℕ) (y : List Entry). x ++ dump_lines spelling y) (a ∙ ap₂ (λ (x y : List ℕ). out ++ dump_line spelling (entry x y)) same_key same_value) r
    ∙ append_assoc out (dump_line spelling e) (dump_lines spelling q)

pub returns-clause-line : goal.returns-clause-line
returns-clause-line c =
    OnOk-map c.advance.result _ _
    (λ rest. told_one c.args.spelling (string_bytes c.args.out.now) (string_bytes c.push_line.new.out) c.key.result.bytes.now c.value.result.now c.args.cursor.now c.advance.new.self c.key.ensures c.value.ensures rest c.in_ok-push_line.ensures.ok)
    c.advance.ensures.ok
