-- The number of restarts at a block's end, and the restarts before it.
use Rattle.std.proofs.Common.{◌≡◌, ℕ, ◌+◌, ◌-◌, ◌*◌, ◌<◌, List, [], ◌++◌, length, take, drop, refl, sym, ap, ◌∙◌, append_assoc, arith}
use Rattle.std.proofs.lemmas.List.{append-nil, length-append, drop_at, take_at, append_cancel_right, nil_from_length, length-drop}
use Rattle.byteorder.specs.Endian.{little_bytes, little_number}
use Rattle.coding.proofs.Bytes.{IsBytes, word_parts, word_fits}
use Rattle.block.specs.BlockParts.{HasBlockParts}
use Rattle.block.proofs.Restarts.{front_word}

-- four bytes are those of their number
whole_word : (tail : List ℕ) → IsBytes tail → length tail ≡ 4 → tail ≡ little_bytes 4 (little_number 4 tail)
whole_word tail fits len =
    let none : drop 4 tail ≡ [] = nil_from_length (drop 4 tail) (omega (arith, length-drop 4 tail)) in
    word_parts tail fits (omega arith) ∙ ap (λ (t : List ℕ). little_bytes 4 (little_number 4 tail) ++ t) none ∙ append-nil (little_bytes 4 (little_number 4 tail))

pub split_found : (bytes front tail area restarts : List ℕ) → IsBytes tail → bytes ≡ front ++ tail → length tail ≡ 4 → front ≡ area ++ restarts → length restarts ≡ 4 * little_number 4 tail → 0 < little_number 4 tail → HasBlockParts bytes area restarts
split_found bytes front tail area restarts fits whole four parts len some = record {
  count = little_number 4 tail;
  some = some;
  fits = word_fits tail fits;
  len = len;
  whole = whole ∙ ap (λ (t : List ℕ). t ++ tail) parts ∙ append_assoc area restarts tail ∙ ap (λ (t : List ℕ). area ++ (restarts ++ t)) (whole_word tail fits four);
}

-- the number of restarts stands in the last four bytes
pub split_count : (bytes area restarts : List ℕ) (s : HasBlockParts bytes area restarts) → (little_number 4 (drop (length bytes - 4) bytes) ≡ s.count) × (length bytes ≡ length area + 4 * s.count + 4)
split_count bytes area restarts s =
    let grouped : bytes ≡ (area ++ restarts) ++ little_bytes 4 s.count = s.whole ∙ sym (append_assoc area restarts (little_bytes 4 s.count)) in
    let len : length bytes ≡ length (area ++ restarts) + 4 = ap length grouped ∙ length-append (area ++ restarts) (little_bytes 4 s.count) in
    let tail : drop (length bytes - 4) bytes ≡ little_bytes 4 s.count = ap (drop (length bytes - 4)) grouped ∙ drop_at (area ++ restarts) (little_bytes 4 s.count) (length bytes - 4) (omega arith) in
    (ap (little_number 4) (tail ∙ sym (append-nil (little_bytes 4 s.count))) ∙ front_word s.count [] s.fits, omega (arith, length-append area restarts, s.len))

-- a block has one such splitting
pub one_split : (bytes area restarts area' restarts' : List ℕ) → HasBlockParts bytes area restarts → HasBlockParts bytes area' restarts' → (area ≡ area') × (restarts ≡ restarts')
one_split bytes area restarts area' restarts' s t =
    let c = split_count bytes area restarts s in
    let d = split_count bytes area' restarts' t in
    let same : s.count ≡ t.count = sym c.0 ∙ d.0 in
    let len : length area ≡ length area' = omega arith in
    let both : area ++ (restarts ++ little_bytes 4 s.count) ≡ area' ++ (restarts' ++ little_bytes 4 t.count) = sym s.whole ∙ t.whole in
    let first : area ≡ area' = sym (take_at area (restarts ++ little_bytes 4 s.count) (length area) refl) ∙ ap (take (length area)) both ∙ take_at area' (restarts' ++ little_bytes 4 t.count) (length area) (sym len) in
    let rest : restarts ++ little_bytes 4 s.count ≡ restarts' ++ little_bytes 4 t.count = sym (drop_at area (restarts ++ little_bytes 4 s.count) (length area) refl) ∙ ap (drop (length area)) both ∙ drop_at area' (restarts' ++ little_bytes 4 t.count) (length area) (sym len) in
    (first, append_cancel_right restarts restarts' (little_bytes 4 t.count) (ap (λ (n : ℕ). restarts ++ little_bytes 4 n) (sym same) ∙ rest))
