use Rattle.std.proofs.Common.{◌≡◌, ℕ, List, [], ◌∷◌, ◌++◌, sym, ap, ◌∙◌}
use Rattle.std.proofs.lemmas.List.{map_push}
use Rattle.ikey.proofs.Binds.{ok_is}
use Rattle.block.specs.EncodedEntry.{Entry}
use Rattle.pairing.specs.TestedUnion.{tested_entry, tested_entries}
use Rattle.pairing.proofs.entry_checks.push_entry.Goals as goal

pub returns-clause-ok : goal.returns-clause-ok
returns-clause-ok c =
    let entry : List ℕ → Entry = λ k. record { key = k; value = c.args.value.now } in
    let same : c.args.key.bytes.now ≡ c.in_ok-key.key = ok_is c.args.key.bytes.now c.in_ok-key.key c.in_ok-key.ensures in
    ap tested_entries c.in_ok-push.ensures.items ∙ map_push tested_entry c.args.entries.now.items _ ∙ ap (λ (k : List ℕ). tested_entries c.args.entries.now.items ++ entry k ∷ []) (sym same)
