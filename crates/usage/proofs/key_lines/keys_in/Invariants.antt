use Rattle.std.proofs.Common.{◌≡◌, Some, map, take}
use Rattle.texts.specs.Spelling.{bytes_of}
use Rattle.usage.proofs.key_lines.keys_in.Given as goal

abbrev pub invariant-loop-text : goal.invariant-loop-text
invariant-loop-text l = map (λ text. bytes_of l.spelling text.now) (take l.text-index l.texts) ≡ map (λ key. Some key.items) l.keys.items
