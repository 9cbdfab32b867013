use Rattle.std.proofs.Common.{◌≡◌, ℕ, List, ◌++◌, subst, sym, ap, ◌∙◌, arith}
use Rattle.std.specs.Str.{IsUtf8}
use Rattle.hex.specs.Hex.{IsBytes}
use Rattle.texts.specs.Spelling.{value_text}
use Rattle.texts.proofs.SpellingLemmas.{values_utf8}
use Rattle.texts.proofs.spelling.Spelling.value_text.Goals as goal

pub unwrap-requires : goal.unwrap-requires
unwrap-requires c =
    let text = value_text c.args.self c.args.value.now in
    let fits : IsBytes c.args.value.now = λ i. let byte = c.type_inv.value i in omega arith in
    let is : c.push_value.new.out.items ≡ text = c.in_ok-push_value.ensures.ok ∙ ap (λ (t : List ℕ). t ++ text) c.new-text.ensures.items in
    c.from_utf8.ensures.succeeds (subst IsUtf8 (sym is) (values_utf8 c.args.self c.args.value.now fits))
