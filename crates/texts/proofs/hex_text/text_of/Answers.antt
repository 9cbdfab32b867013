use Rattle.std.proofs.Common.{arith}
use Rattle.hex.specs.Hex.{IsBytes}
use Rattle.texts.proofs.TextLemmas.{bytes_of_text-text_of_bytes}
use Rattle.texts.proofs.hex_text.text_of.Goals as goal

pub returns-in_err-encode-clause-read_back : goal.returns-in_err-encode-clause-read_back
returns-in_err-encode-clause-read_back c =
    let fits : IsBytes c.args.bytes.now = λ i. let byte = c.type_inv.bytes i in omega arith in
    bytes_of_text-text_of_bytes c.args.bytes.now fits

pub returns-clause-read_back : goal.returns-clause-read_back
returns-clause-read_back c =
    let fits : IsBytes c.args.bytes.now = λ i. let byte = c.type_inv.bytes i in omega arith in
    bytes_of_text-text_of_bytes c.args.bytes.now fits
