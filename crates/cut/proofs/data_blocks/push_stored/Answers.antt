use Rattle.std.proofs.Common.{◌≡◌, ◌-◌, ◌++◌, ℕ, List, length, take, drop, ap, ◌∙◌, append_assoc, arith}
use Rattle.std.proofs.lemmas.List.{take_rest, drop_at}
use Rattle.block.specs.BlockFormat.{block}
use Rattle.keep.proofs.OnAnswers.{on_ok}
use Rattle.table.specs.Trailer.{trailer_bytes}
use Rattle.cut.proofs.data_blocks.push_stored.Goals as goal

pub returns-clause-ok : goal.returns-clause-ok
returns-clause-ok c =
    let own : List ℕ = block c.args.interval c.args.planned.now.entries.entries in
    let front : List ℕ = c.args.out.now.items in
    let whole : List ℕ = c.deref.result.now in
    let start : ℕ = c.len-start.result in
    let pushed : c.push_block.new.out.items ≡ front ++ own = c.in_ok-push_block.ensures.ok in
    let all : whole ≡ front ++ own = c.deref.ensures.value ∙ pushed in
    let at : length front ≡ start = omega (arith, c.len-start.ensures) in
    let contents : take (length whole - start) (drop start whole) ≡ own = take_rest whole start ∙ ap (drop start) all ∙ drop_at front own start at in
    on_ok c.push.result _ _
    (λ is.
    is
    ∙ ap (λ (xs : List ℕ). c.push_block.new.out.items ++ xs) (c.of.ensures ∙ ap trailer_bytes contents)
    ∙ ap (λ (xs : List ℕ). xs ++ trailer_bytes own) pushed
    ∙ append_assoc front own (trailer_bytes own))
    c.push.ensures.ok
