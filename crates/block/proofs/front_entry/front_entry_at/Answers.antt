use Rattle.std.proofs.Common.{◌≡◌, ◌-◌, length, take, drop, get_or, ap, sym, ◌∙◌, arith}
use Rattle.std.proofs.lemmas.List.{take_all, length-drop}
use Rattle.std.specs.Option.{option_map}
use Rattle.coding.specs.Answers.{and_then}
use Rattle.block.specs.EntryFormat.{entry_of_lengths}
use Rattle.block.specs.FrontField.{front_field, front_lengths}
use Rattle.block.proofs.Pieces.{two_bytes, front_entry_at-small, front_entry_at-two, entry_at_lengths, encoded_entry_at-lengths}
use Rattle.block.proofs.front_entry.front_entry_at.Goals as goal

pub returns-in-len3-up : goal.returns-in-len3-up
returns-in-len3-up c =
    let bytes = c.args.bytes.now in
    let behind : take (length bytes - 3) (drop 3 bytes) ≡ drop 3 bytes = take_all (length bytes - 3) (drop 3 bytes) (omega (arith, length-drop 3 bytes)) in
    c.entry_of_lengths.ensures ∙ ap (entry_of_lengths (get_or bytes 0 0) (get_or bytes 1 0) (get_or bytes 2 0)) behind
    ∙ sym (front_entry_at-small bytes (omega arith) (omega arith) (omega arith) (omega arith))

pub returns-in-len4-up : goal.returns-in-len4-up
returns-in-len4-up c =
    let bytes = c.args.bytes.now in
    let behind : take (length bytes - 4) (drop 4 bytes) ≡ drop 4 bytes = take_all (length bytes - 4) (drop 4 bytes) (omega (arith, length-drop 4 bytes)) in
    c.entry_of_lengths-in-len4-up.ensures ∙ ap (entry_of_lengths (get_or bytes 0 0) (get_or bytes 1 0) (two_bytes (get_or bytes 2 0) (get_or bytes 3 0))) behind
    ∙ sym (front_entry_at-two bytes (omega arith) (omega arith) (omega arith) (omega arith) (omega arith) (omega arith) (omega arith))

pub returns-in_ok-lengths-in_default : goal.returns-in_ok-lengths-in_default
returns-in_ok-lengths-in_default c =
    let read = sym c.lengths_by_varints.ensures ∙ ap (option_map front_lengths) c.in_ok-lengths-in_default.was in
    c.entry_of_lengths-in_default.ensures
    ∙ sym (encoded_entry_at-lengths c.args.bytes.now ∙ ap (λ r. and_then r entry_at_lengths) read)

pub returns-in_err-lengths-in_default : goal.returns-in_err-lengths-in_default
returns-in_err-lengths-in_default c =
    let read = sym c.lengths_by_varints.ensures ∙ ap (option_map front_lengths) c.in_err-lengths-in_default.was in
    ap (option_map front_field) c.from_residual.ensures
    ∙ sym (encoded_entry_at-lengths c.args.bytes.now ∙ ap (λ r. and_then r entry_at_lengths) read)
