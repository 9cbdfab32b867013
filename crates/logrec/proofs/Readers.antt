-- Reading a log one record at a time.
use Rattle.std.proofs.Common.{◌≡◌, ℕ, zero, suc, ◌+◌, ◌-◌, ◌<◌, ◌≤◌, List, [], ◌∷◌, length, Result, Ok, Err, refl, sym, ap, ◌∙◌, arith}
use Rattle.coding.specs.Answers.{FailsOrMemory, ◌>>=◌}
use Rattle.coding.specs.declared.fault.Fault.{Fault}
use Rattle.logrec.specs.LogReader.{record_at, records_in, records_of, with_first}
use Rattle.logrec.proofs.Loops.{FailsOrMemory-map}
use Rattle.logrec.proofs.Logs.{others_in, records_in-nil, records_in-suc, record_shorter}

-- how many records are read at most makes no difference, if they are enough
others_same : (n k offset : ℕ) (bytes : List ℕ) (r : Result (List ℕ × List ℕ) Fault) → record_at offset bytes ≡ r
    → ((o : ℕ) (rest : List ℕ) → length rest < length bytes → records_in n o rest ≡ records_in k o rest)
    → (r >>= others_in n offset bytes) ≡ (r >>= others_in k offset bytes)
others_same n k offset bytes (Err e) is same = refl
others_same n k offset bytes (Ok x) is same =
    ap (with_first x.0) (same (offset + (length bytes - length x.1)) x.1 (record_shorter offset bytes x is))

fuel_same : (n k offset : ℕ) (bytes : List ℕ) → length bytes ≤ n → length bytes ≤ k → records_in n offset bytes ≡ records_in k offset bytes
fuel_same n k offset [] h g = records_in-nil n offset ∙ sym (records_in-nil k offset)
fuel_same zero k offset (b ∷ bytes) h g = absurd (omega arith)
fuel_same (suc n) zero offset (b ∷ bytes) h g = absurd (omega arith)
fuel_same (suc n) (suc k) offset (b ∷ bytes) h g =
    records_in-suc n offset (b ∷ bytes) (omega arith)
    ∙ others_same n k offset (b ∷ bytes) (record_at offset (b ∷ bytes)) refl (λ o rest lt. fuel_same n k o rest (omega (arith, lt, h)) (omega (arith, lt, g)))
    ∙ sym (records_in-suc k offset (b ∷ bytes) (omega arith))

-- nothing is read yet
pub none_read : (bytes : List ℕ) → records_in (length bytes) (length bytes - length bytes) bytes ≡ records_of bytes
unfolding records_of
none_read bytes = let none : length bytes - length bytes ≡ 0 = omega arith in ap (λ (k : ℕ). records_in (length bytes) k bytes) none

-- one record is read
pub one_read : (whole : ℕ) (rest : List ℕ) (x : List ℕ × List ℕ) → length rest ≤ whole → record_at (whole - length rest) rest ≡ Ok x
    → records_in (length rest) (whole - length rest) rest ≡ with_first x.0 (records_in (length x.1) (whole - length x.1) x.1)
one_read whole rest x within is =
    let shorter = record_shorter (whole - length rest) rest x is in
    let some : 0 < length rest = omega (arith, shorter) in
    let at : whole - length rest + (length rest - length x.1) ≡ whole - length x.1 = omega (arith, shorter, within) in
    fuel_same (length rest) (suc (length rest)) (whole - length rest) rest (omega arith) (omega arith)
    ∙ records_in-suc (length rest) (whole - length rest) rest some
    ∙ ap (λ (r : Result (List ℕ × List ℕ) Fault). r >>= others_in (length rest) (whole - length rest) rest) is
    ∙ ap (with_first x.0)
    (fuel_same (length rest) (length x.1) (whole - length rest + (length rest - length x.1)) x.1 (omega (arith, shorter)) (omega arith)
    ∙ ap (λ (k : ℕ). records_in (length x.1) k x.1) at)

-- a record is refused
pub none_further : (whole : ℕ) (rest : List ℕ) (e : Fault) → 0 < length rest → record_at (whole - length rest) rest ≡ Err e → records_in (length rest) (whole - length rest) rest ≡ Err e
none_further whole rest e some is =
    fuel_same (length rest) (suc (length rest)) (whole - length rest) rest (omega arith) (omega arith)
    ∙ records_in-suc (length rest) (whole - length rest) rest some
    ∙ ap (λ (r : Result (List ℕ × List ℕ) Fault). r >>= others_in (length rest) (whole - length rest) rest) is

-- all records are read
pub all_read : (whole : ℕ) (rest : List ℕ) → length rest ≡ 0 → records_in (length rest) (whole - length rest) rest ≡ Ok []
all_read whole [] none = records_in-nil 0 (whole - 0)
all_read whole (b ∷ rest) none = absurd (omega arith)

-- that a record is refused is what reading all of them answers
pub next_refused : (whole : ℕ) (rest : List ℕ) (e : Fault) → 0 < length rest → FailsOrMemory e (record_at (whole - length rest) rest) → FailsOrMemory e (records_in (length rest) (whole - length rest) rest)
next_refused whole rest e some h =
    FailsOrMemory-map e (record_at (whole - length rest) rest) (records_in (length rest) (whole - length rest) rest) (none_further whole rest e some) h
