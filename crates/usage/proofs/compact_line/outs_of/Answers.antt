use Rattle.std.proofs.Common.{List, Some, map, sym, ap, ◌∙◌}
use Rattle.clap.specs.Words.{found_of}
use Rattle.clap.proofs.WalkLemmas.{raw_values-rows}
use Rattle.usage.proofs.compact_line.outs_of.Goals as goal

-- src/compact_line.rt:147:1
pub returns-in_ok-from_slice-in-Some : goal.returns-in_ok-from_slice-in-Some
returns-in_ok-from_slice-in-Some c =
    sym (c.in-Some.ensures ∙ raw_values-rows (found_of c.args.values.now) _)
    ∙ ap (λ (texts : List _). Some (map (λ out. out.now) texts)) (sym c.in_ok-from_slice-in-Some.ensures.items)
