use Rattle.std.proofs.Common.{◌≡◌, ℕ, List, ◌++◌, subst, sym, ap, ◌∙◌, arith}
use Rattle.std.specs.Str.{IsUtf8}
use Rattle.hex.specs.Hex.{IsBytes}
use Rattle.texts.specs.Spelling.{key_text}
use Rattle.texts.proofs.SpellingLemmas.{keys_utf8}
use Rattle.texts.proofs.spelling.Spelling.key_text.Goals as goal

pub unwrap-requires : goal.unwrap-requires
unwrap-requires c =
    let text = key_text c.args.self c.args.key.now in
    let fits : IsBytes c.args.key.now = λ i. let byte = c.type_inv.key i in omega arith in
    let is : c.push_key.new.out.items ≡ text = c.in_ok-push_key.ensures.ok ∙ ap (λ (t : List ℕ). t ++ text) c.new-text.ensures.items in
    c.from_utf8.ensures.succeeds (subst IsUtf8 (sym is) (keys_utf8 c.args.self c.args.key.now fits))
