use Rattle.std.proofs.Common.{sym, ap, ◌∙◌, arith}
use Rattle.std.proofs.lemmas.List.{nil_from_length}
use Rattle.std.specs.List.{concat}
use Rattle.coding.specs.Crc.{bits_of}
use Rattle.coding.specs.CrcRegister.{register_after_bits}
use Rattle.coding.proofs.CrcKernel.{fed_bytes-append, fed_none}
use Rattle.coding.proofs.crc.advanced_by_chunks.Goals as goal

pub returns-in-Some : goal.returns-in-Some
returns-in-Some c =
    let first = c.in-Some.first.now in
    let chunks = c.in-Some.chunks.now in
    c.settled.ensures ∙ c.over.ensures ∙ ap (λ r. register_after_bits r (bits_of (concat chunks))) c.begun.ensures
    ∙ sym (fed_bytes-append c.args.register first (concat chunks))
    ∙ ap (λ t. register_after_bits c.args.register (bits_of (concat t))) (sym c.in-Some.ensures.cases.0)

pub returns-in-None : goal.returns-in-None
returns-in-None c =
    sym (fed_none c.args.register)
    ∙ ap (λ t. register_after_bits c.args.register (bits_of (concat t))) (sym (nil_from_length c.args.chunks.now (omega (arith, c.in-None.ensures.cases))))
