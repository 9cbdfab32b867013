use Rattle.std.proofs.Common.{◌≡◌, ℕ, List, length, Result, Ok, Err, sym, ap, subst, ◌∙◌}
use Rattle.std.proofs.lemmas.List.{length-map}
use Rattle.std.proofs.lemmas.Result.{err_from_is_err_and}
use Rattle.ikey.specs.Answers.{UnlessMemory, ◌>>=◌}
use Rattle.ikey.specs.fault.Fault.{Fault}
use Rattle.ikey.proofs.Refusals.{unless_from}
use Rattle.block.specs.EncodedEntry.{Entry}
use Rattle.pairing.specs.Blocks.{block_within, counted_block}
use Rattle.pairing.specs.TestedUnion.{tested_entry, tested_entries}
use Rattle.pairing.proofs.two_blocks.counted.Goals as goal

pub returns-in_err-block : goal.returns-in_err-block
returns-in_err-block c =
    let p = err_from_is_err_and c.from_residual.result c.from_residual.ensures.1 in
    let es : List Entry = tested_entries c.args.entries.now in
    let e : Fault = c.in_err-block.field-0.0 in
    let answer : UnlessMemory e (counted_block es ≡ Err e) =
    unless_from e (block_within es ≡ Err e) (counted_block es ≡ Err e) (λ same. ap (λ (r : Result (List ℕ) Fault). r >>= λ bytes. Ok (length es, bytes)) same) c.in_err-block.ensures in
    rw (p.1) (subst (λ (f : Fault). UnlessMemory f (counted_block es ≡ Err f)) (sym p.2) answer)

pub returns : goal.returns
returns c =
    let es : List Entry = tested_entries c.args.entries.now in
    let many : length es ≡ length c.args.entries.now = length-map c.args.entries.now tested_entry in
    ap (λ (r : Result (List ℕ) Fault). r >>= λ bytes. Ok (length es, bytes)) c.in_ok-block.ensures ∙ ap (λ (n : ℕ). Ok (n, c.in_ok-block.block.items)) many
