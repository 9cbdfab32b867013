use Rattle.std.proofs.Common.{◌≡◌, ℕ, ◌<◌, Bool, true, false, ◌++◌, List, [], ◌∷◌, length, string_bytes, sym, ap, ◌∙◌, arith}
use Rattle.std.proofs.lemmas.Bool.{false≢true}
use Rattle.std.proofs.lemmas.List.{append-nil}
use Rattle.table.specs.EncodedEntry.{Entry}
use Rattle.answers.specs.Dump.{dump_lines}
use Rattle.texts.specs.declared.spelling.Spelling.{Spelling}
use Rattle.table.proofs.Binds.{ok_is}
use Rattle.answers.proofs.table_dump.push_lines.Goals as goal

-- no line is left if no entry is
all_told : (spelling : Spelling) (out : List ℕ) (q : List Entry) (some : Bool) → some ≡ false → (0 < length q → some ≡ true) → out ++ dump_lines spelling q ≡ out
all_told spelling out [] some none left = append-nil out
all_told spelling out (e ∷ q) some none left = absurd (false≢true (sym none ∙ left (omega arith)))

pub returns-clause-ok : goal.returns-clause-ok
returns-clause-ok c =
    let same : c.args.table.now.entries ≡ c.in_ok-cursor.cursor = ok_is c.args.table.now.entries c.in_ok-cursor.cursor c.in_ok-cursor.ensures in
    let told = all_told c.args.spelling (string_bytes c.loop-alloc.out) c.loop-alloc.cursor c.valid.result c.loop-alloc-test.false c.valid.ensures.some.1 in
    sym told ∙ c.loop-alloc.invariant ∙ sym (ap (λ (q : List Entry). string_bytes c.args.out.now ++ dump_lines c.args.spelling q) same)
