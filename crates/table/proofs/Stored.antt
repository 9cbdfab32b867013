-- Contents are read of the bytes that they are stored as, and of no other bytes.
use Rattle.std.proofs.Common.{◌≡◌, ℕ, suc, ◌+◌, ◌-◌, ◌^◌, ◌<◌, true, not, cond, eqb, List, [], ◌∷◌, ◌++◌, length, take, drop, get_or, Result, Ok, Err, refl, sym, ap, ◌∙◌, arith, append_assoc, length-append}
use Rattle.std.proofs.Math.Seq.{take-suc, get_or-append_seam}
use Rattle.std.proofs.lemmas.Bool.{eqb-true, eq-eqb, not-false}
use Rattle.std.proofs.lemmas.List.{take_at, drop_at, take-append-drop, length-drop, get_or-drop, append-nil}
use Rattle.std.proofs.lemmas.Nat.{le_bytes_4}
use Rattle.byteorder.specs.Endian.{little_bytes, little_number}
use Rattle.byteorder.specs.Numbers.{little_number-reads_back, length-bytes_low_first}
use Rattle.std.specs.Result.{IsOk}
use Rattle.coding.specs.Answers.{fault}
use Rattle.coding.specs.Crc.{crc32c, masked}
use Rattle.coding.specs.declared.fault.Fault.{Fault}
use Rattle.coding.specs.declared.fault.FaultName.TheVariants.{Trailer, Compressed, BlockType}
use Rattle.coding.proofs.Binds.{guard_ok}
use Rattle.table.specs.Trailer.{trailer_bytes, stored_block, stored_reading, StoredLaw, OnlyStoredLaw}

abbrev done : List ℕ → Result (List ℕ) Fault
done x = Ok x

-- the tests of a stored block, the last first
abbrev plain : ℕ → List ℕ → Result (List ℕ) Fault
plain kind front = cond (not (eqb kind 0)) (Err (fault BlockType)) (Ok front)

abbrev known : ℕ → List ℕ → Result (List ℕ) Fault
known kind front = cond (eqb kind 1) (Err (fault Compressed)) (plain kind front)

abbrev read_by : ℕ → ℕ → ℕ → List ℕ → Result (List ℕ) Fault
read_by sum crc kind front = cond (not (eqb sum crc)) (Err (fault Trailer)) (known kind front)

stored_reading-by : (bytes : List ℕ) → stored_reading bytes ≡ read_by (little_number 4 (drop (length bytes - 4) bytes)) (masked (crc32c (take (length bytes - 4) bytes))) (get_or bytes (length bytes - 5) 0) (take (length bytes - 5) bytes)
unfolding stored_reading
stored_reading-by bytes = refl

read_by-plain : (sum crc kind : ℕ) (front contents : List ℕ) → sum ≡ crc → kind ≡ 0 → front ≡ contents → read_by sum crc kind front ≡ Ok contents
read_by-plain sum crc kind front contents sum_is kind_is front_is =
    let summed : eqb sum crc ≡ true = eq-eqb sum crc sum_is in rw (summed, kind_is, front_is) refl

-- the number of four bytes of a number is that number
number_again : (x : ℕ) → x < 2 ^ 32 → little_number 4 (little_bytes 4 x) ≡ x
number_again x lt = ap (little_number 4) (sym (append-nil (little_bytes 4 x))) ∙ little_number-reads_back 4 x [] lt

masked-lt : (crc : ℕ) → masked crc < 2 ^ 32
masked-lt crc = omega arith

-- contents, a type, and the checksum of both
abbrev summed_up : List ℕ → List ℕ
summed_up contents = contents ++ 0 ∷ []

stored-parts : (contents : List ℕ) → stored_block contents ≡ summed_up contents ++ little_bytes 4 (masked (crc32c (summed_up contents)))
unfolding trailer_bytes
stored-parts contents =
    sym (append_assoc contents (0 ∷ []) (little_bytes 4 (masked (crc32c (summed_up contents)))))

length-summed : (contents : List ℕ) → length (summed_up contents) ≡ length contents + 1
length-summed contents = length-append contents (0 ∷ [])

pub length-stored : (contents : List ℕ) → length (stored_block contents) ≡ length contents + 5
length-stored contents =
    let sum : ℕ = masked (crc32c (summed_up contents)) in
    omega (arith, ap length (stored-parts contents), length-append (summed_up contents) (little_bytes 4 sum), length-summed contents, length-bytes_low_first 0 4 sum)

type_at : (contents : List ℕ) (n : ℕ) → n ≡ length contents → get_or (stored_block contents) n 0 ≡ 0
unfolding trailer_bytes
type_at contents n e =
    ap (λ (i : ℕ). get_or (stored_block contents) i 0) e
    ∙ get_or-append_seam contents 0 (little_bytes 4 (masked (crc32c (summed_up contents)))) 0

pub stored_again : StoredLaw
stored_again contents =
    let bytes : List ℕ = stored_block contents in
    let sum : ℕ = masked (crc32c (summed_up contents)) in
    let len : length bytes ≡ length contents + 5 = length-stored contents in
    let at : length (summed_up contents) ≡ length bytes - 4 = omega (arith, length-summed contents) in
    let at5 : length contents ≡ length bytes - 5 = omega arith in
    let front : take (length bytes - 4) bytes ≡ summed_up contents = ap (take (length bytes - 4)) (stored-parts contents) ∙ take_at (summed_up contents) (little_bytes 4 sum) (length bytes - 4) at in
    let behind : drop (length bytes - 4) bytes ≡ little_bytes 4 sum = ap (drop (length bytes - 4)) (stored-parts contents) ∙ drop_at (summed_up contents) (little_bytes 4 sum) (length bytes - 4) at in
    let number : little_number 4 (drop (length bytes - 4) bytes) ≡ sum = ap (little_number 4) behind ∙ number_again sum (masked-lt (crc32c (summed_up contents))) in
    let crc : masked (crc32c (take (length bytes - 4) bytes)) ≡ sum = ap (λ (x : List ℕ). masked (crc32c x)) front in
    stored_reading-by bytes
    ∙ read_by-plain (little_number 4 (drop (length bytes - 4) bytes)) (masked (crc32c (take (length bytes - 4) bytes))) (get_or bytes (length bytes - 5) 0) (take (length bytes - 5) bytes) contents
    (number ∙ sym crc) (type_at contents (length bytes - 5) (sym at5)) (take_at contents (trailer_bytes contents) (length bytes - 5) at5)

-- four bytes are those of their number
four_bytes : (bytes : List ℕ) → length bytes ≡ 4 → ((i : ℕ) → get_or bytes i 0 < 256) → bytes ≡ little_bytes 4 (little_number 4 bytes)
four_bytes bytes len fits =
    sym (le_bytes_4 bytes (little_number 4 bytes) len fits (omega arith))

record Passed (sum crc kind : ℕ) (front contents : List ℕ) : Type 0 where
  sum_is : sum ≡ crc
  kind_is : kind ≡ 0
  front_is : front ≡ contents

read_by-Ok : (sum crc kind : ℕ) (front contents : List ℕ) → read_by sum crc kind front ≡ Ok contents → Passed sum crc kind front contents
read_by-Ok sum crc kind front contents e =
    let a = guard_ok (not (eqb sum crc)) (fault Trailer) (known kind front) contents e in
    let b = guard_ok (eqb kind 1) (fault Compressed) (plain kind front) contents a.1 in
    let c = guard_ok (not (eqb kind 0)) (fault BlockType) (done front) contents b.1 in
    let same : done front ≡ done contents = c.1 in
    record { sum_is = eqb-true sum crc (not-false (eqb sum crc) a.0); kind_is = eqb-true kind 0 (not-false (eqb kind 0) c.0); front_is = cc }

-- bytes whose parts are these are the stored contents
put_together : (bytes contents : List ℕ) (n : ℕ) → length bytes ≡ n + 5 → take n bytes ≡ contents → get_or bytes n 0 ≡ 0 → drop (n + 1) bytes ≡ little_bytes 4 (masked (crc32c (take (n + 1) bytes))) → bytes ≡ stored_block contents
put_together bytes contents n len front type_is behind =
    let one : take (n + 1) bytes ≡ summed_up contents = (let more : suc n ≡ n + 1 = omega arith in ap (λ (i : ℕ). take i bytes) (sym more) ∙ take-suc bytes n 0 (omega arith) ∙ ap (λ (x : List ℕ). x ++ get_or bytes n 0 ∷ []) front ∙ ap (λ (x : ℕ). contents ++ x ∷ []) type_is) in
    sym (take-append-drop (n + 1) bytes)
    ∙ ap (λ (x : List ℕ). take (n + 1) bytes ++ x) behind
    ∙ ap (λ (x : List ℕ). x ++ little_bytes 4 (masked (crc32c x))) one
    ∙ sym (stored-parts contents)

pub only_stored : OnlyStoredLaw
only_stored bytes contents enough fits e =
    let n : ℕ = length bytes - 5 in
    let len : length bytes ≡ n + 5 = omega arith in
    let at : length bytes - 4 ≡ n + 1 = omega arith in
    let p = read_by-Ok (little_number 4 (drop (length bytes - 4) bytes)) (masked (crc32c (take (length bytes - 4) bytes))) (get_or bytes n 0) (take n bytes) contents (sym (stored_reading-by bytes) ∙ e) in
    let sum_is : little_number 4 (drop (n + 1) bytes) ≡ masked (crc32c (take (n + 1) bytes)) = ap (λ (i : ℕ). little_number 4 (drop i bytes)) (sym at) ∙ p.sum_is ∙ ap (λ (i : ℕ). masked (crc32c (take i bytes))) at in
    let behind : drop (n + 1) bytes ≡ little_bytes 4 (little_number 4 (drop (n + 1) bytes)) = four_bytes (drop (n + 1) bytes) (omega (arith, length-drop (n + 1) bytes)) (λ i. rw get_or-drop (fits (n + 1 + i))) in
    put_together bytes contents n len p.front_is p.kind_is (behind ∙ ap (little_bytes 4) sum_is)

-- the contents that are read stand before the trailer
front_read : (bytes contents : List ℕ) → stored_reading bytes ≡ Ok contents → take (length bytes - 5) bytes ≡ contents
front_read bytes contents e =
    (read_by-Ok (little_number 4 (drop (length bytes - 4) bytes)) (masked (crc32c (take (length bytes - 4) bytes))) (get_or bytes (length bytes - 5) 0) (take (length bytes - 5) bytes) contents (sym (stored_reading-by bytes) ∙ e)).front_is

-- bytes that pass the tests are read as what stands before their trailer
pub passed_front : (bytes : List ℕ) → IsOk (stored_reading bytes) → stored_reading bytes ≡ Ok (take (length bytes - 5) bytes)
passed_front bytes h = of_reading (stored_reading bytes) refl h
  where
    of_reading : (r : Result (List ℕ) Fault) → stored_reading bytes ≡ r → IsOk r → r ≡ Ok (take (length bytes - 5) bytes)
    of_reading (Ok contents) e h = ap (λ (x : List ℕ). done x) (sym (front_read bytes contents e))
    of_reading (Err d) e h = absurd cc
