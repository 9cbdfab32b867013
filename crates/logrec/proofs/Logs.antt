-- A log that is read is the log that was written, and what was written is read again.
use Rattle.std.proofs.Common.{◌≡◌, ℕ, zero, suc, ◌+◌, ◌-◌, ◌<◌, ◌≤◌, Bool, true, false, cond, ltb, eqb, List, [], ◌∷◌, ◌++◌, length, take, drop, replicate, Result, Ok, Err, refl, sym, ap, subst, ◌∙◌, append_assoc, arith, inl}
use Rattle.std.specs.List.{starts_with}
use Rattle.std.proofs.Math.Seq.{take-length}
use Rattle.std.proofs.lemmas.Bool.{ltb-true}
use Rattle.std.proofs.lemmas.List.{drop_at, append-nil, length-append, length-drop, length-replicate, take-replicate}
use Rattle.std.proofs.lemmas.Bool.Decides.{Decides-eqb}
use Rattle.std.proofs.lemmas.Slice.Eq.{starts_is}
use Rattle.std.specs.Prelude.{IfOk}
use Rattle.std.specs.Global.{Vec}
use Rattle.coding.specs.Answers.{fault, EqualOrMemory, ◌>>=◌}
use Rattle.coding.specs.declared.fault.Fault.{Fault}
use Rattle.coding.specs.declared.fault.FaultName.TheVariants.{LogShape}
use Rattle.coding.proofs.Binds.{bind_ok, ok_is}
use Rattle.coding.proofs.Bytes.{IsBytes, IsBytes-drop}
use Rattle.logrec.specs.Log.{block_left, zeros_due, room_at, fragments, written_record, written_records, log, AppendLaw, OneListLaw}
use Rattle.logrec.specs.LogReader.{left_at, after_zeros, record_at, records_in, records_of, lists}
use Rattle.logrec.proofs.Bytes.{guard_ended}
use Rattle.logrec.proofs.Lefts.{left_takes, left_shorter, left_again, fragments_long}

starts_parts : (bytes text : List ℕ) → starts_with eqb bytes text ≡ true → bytes ≡ text ++ drop (length text) bytes
starts_parts bytes text e = (starts_is Decides-eqb bytes text (starts_with eqb bytes text) refl).0 e

parts_start : (bytes text rest : List ℕ) → bytes ≡ text ++ rest → starts_with eqb bytes text ≡ true
parts_start bytes text rest e = (starts_is Decides-eqb bytes text (starts_with eqb bytes text) refl).1 rest e

room_of_left : (b : Bool) (left : ℕ) → left ≤ 32768 → cond b 32761 (left - 7) ≤ 32761
room_of_left true left le = omega arith
room_of_left false left le = omega arith

pub room_fits : (offset : ℕ) → room_at offset ≤ 32761
room_fits offset = room_of_left (ltb (block_left offset) 7) (block_left offset) (omega arith)

behind_takes : (offset : ℕ) (bytes body : List ℕ) → after_zeros offset bytes ≡ Ok body → (bytes ≡ zeros_due offset ++ body) × (drop (length (zeros_due offset)) bytes ≡ body)
unfolding after_zeros
behind_takes offset bytes body e =
    let g = guard_ended (starts_with eqb bytes (zeros_due offset)) (fault LogShape) (drop (length (zeros_due offset)) bytes) body e in
    (starts_parts bytes (zeros_due offset) g.0 ∙ ap (λ (t : List ℕ). zeros_due offset ++ t) g.1, g.1)

begun : (b : Bool) (d : Fault) (x y : List ℕ) → b ≡ true → x ≡ y → cond b (Ok x) (Err d) ≡ Ok y
begun true d x y h e = ap (λ (t : List ℕ). Ok t) e
begun false d x y h e = absurd cc

behind_again : (offset : ℕ) (body : List ℕ) → after_zeros offset (zeros_due offset ++ body) ≡ Ok body
unfolding after_zeros
behind_again offset body =
    begun (starts_with eqb (zeros_due offset ++ body) (zeros_due offset)) (fault LogShape) (drop (length (zeros_due offset)) (zeros_due offset ++ body)) body
    (parts_start (zeros_due offset ++ body) (zeros_due offset) body refl) (drop_at (zeros_due offset) body (length (zeros_due offset)) refl)

-- ---- one record

abbrev first_left : ℕ → List ℕ → Result (List ℕ × List ℕ) Fault
first_left offset body = left_at (length body) true (room_at offset) body

record_takes : (offset : ℕ) (bytes : List ℕ) (x : List ℕ × List ℕ) → IsBytes bytes → record_at offset bytes ≡ Ok x → (bytes ≡ written_record offset x.0 ++ x.1) × IsBytes x.1
unfolding record_at written_record
record_takes offset bytes x fits e =
    let a = bind_ok (after_zeros offset bytes) (first_left offset) x e in
    let z = behind_takes offset bytes a.0 a.1 in
    let body_fits : IsBytes a.0 = subst IsBytes z.1 (IsBytes-drop (length (zeros_due offset)) bytes fits) in
    let t = left_takes (length a.0) true (room_at offset) a.0 x body_fits a.2 (length x.0) (omega arith) in
    (z.0 ∙ ap (λ (b : List ℕ). zeros_due offset ++ b) t.parts ∙ sym (append_assoc (zeros_due offset) (fragments (length x.0) true (room_at offset) x.0) x.1), t.rest_fits)

pub record_shorter : (offset : ℕ) (bytes : List ℕ) (x : List ℕ × List ℕ) → record_at offset bytes ≡ Ok x → length x.1 < length bytes
unfolding record_at
record_shorter offset bytes x e =
    let a = bind_ok (after_zeros offset bytes) (first_left offset) x e in
    let z = behind_takes offset bytes a.0 a.1 in
    omega (arith, left_shorter (length a.0) true (room_at offset) a.0 x a.2, ap length z.0, length-append (zeros_due offset) a.0)

record_again : (offset : ℕ) (r rest : List ℕ) → record_at offset (written_record offset r ++ rest) ≡ Ok (r, rest)
unfolding record_at written_record
record_again offset r rest =
    let body = fragments (length r) true (room_at offset) r ++ rest in
    ap (λ (b : List ℕ). after_zeros offset b >>= first_left offset) (append_assoc (zeros_due offset) (fragments (length r) true (room_at offset) r) rest)
    ∙ ap (λ (b : Result (List ℕ) Fault). b >>= first_left offset) (behind_again offset body)
    ∙ left_again (length body) (length r) true (room_at offset) r rest (inl refl) (omega arith) (room_fits offset) (omega arith)

written_long : (offset : ℕ) (r : List ℕ) → 7 ≤ length (written_record offset r)
unfolding written_record
written_long offset r = omega (arith, length-append (zeros_due offset) (fragments (length r) true (room_at offset) r), fragments_long (length r) true (room_at offset) r)

-- ---- all records

abbrev pub others_in : ℕ → ℕ → List ℕ → List ℕ × List ℕ → Result (List (List ℕ)) Fault
others_in n offset bytes first = records_in n (offset + (length bytes - length first.1)) first.1 >>= λ others. Ok (first.0 ∷ others)

pub records_in-suc : (n offset : ℕ) (bytes : List ℕ) → 0 < length bytes → records_in (suc n) offset bytes ≡ (record_at offset bytes >>= others_in n offset bytes)
unfolding records_in
records_in-suc n offset [] some = absurd (omega arith)
records_in-suc n offset (b ∷ bytes) some = refl

pub records_in-nil : (n offset : ℕ) → records_in n offset [] ≡ Ok []
unfolding records_in
records_in-nil n offset = refl

records_take : (n offset : ℕ) (bytes : List ℕ) (rs : List (List ℕ)) → IsBytes bytes → length bytes ≤ n → records_in n offset bytes ≡ Ok rs → bytes ≡ written_records offset rs
records_take n offset [] rs fits enough e = ap (written_records offset) (ok_is [] rs (sym (records_in-nil n offset) ∙ e))
records_take zero offset (b ∷ bytes) rs fits enough e = absurd (omega arith)
records_take (suc n) offset (b ∷ bytes) rs fits enough e =
    let whole = b ∷ bytes in
    let a = bind_ok (record_at offset (b ∷ bytes)) (others_in n offset (b ∷ bytes)) rs (sym (records_in-suc n offset (b ∷ bytes) (omega arith)) ∙ e) in
    let d = bind_ok (records_in n (offset + (length (b ∷ bytes) - length a.0.1)) a.0.1) (λ others. Ok (a.0.0 ∷ others)) rs a.2 in
    let t = record_takes offset (b ∷ bytes) a.0 fits a.1 in
    let fewer : length a.0.1 ≤ n = omega (arith, record_shorter offset (b ∷ bytes) a.0 a.1, enough) in
    let others = records_take n (offset + (length (b ∷ bytes) - length a.0.1)) a.0.1 d.0 t.1 fewer d.1 in
    let at : offset + (length (b ∷ bytes) - length a.0.1) ≡ offset + length (written_record offset a.0.0) = omega (arith, ap length t.0, length-append (written_record offset a.0.0) a.0.1) in
    t.0 ∙ ap (λ (x : List ℕ). written_record offset a.0.0 ++ x) (others ∙ ap (λ (k : ℕ). written_records k d.0) at) ∙ ap (written_records offset) (ok_is (a.0.0 ∷ d.0) rs d.2)

records_again : (n offset : ℕ) (rs : List (List ℕ)) → length (written_records offset rs) ≤ n → records_in n offset (written_records offset rs) ≡ Ok rs
records_again n offset [] enough = records_in-nil n offset
records_again zero offset (r ∷ rs) enough =
    absurd (omega (arith, written_long offset r, length-append (written_record offset r) (written_records (offset + length (written_record offset r)) rs)))
records_again (suc n) offset (r ∷ rs) enough =
    let next = offset + length (written_record offset r) in
    let others = written_records (offset + length (written_record offset r)) rs in
    let whole = written_record offset r ++ others in
    let len : length whole ≡ length (written_record offset r) + length others = length-append (written_record offset r) others in
    let at : offset + (length whole - length others) ≡ next = omega (arith, len) in
    records_in-suc n offset (written_record offset r ++ written_records (offset + length (written_record offset r)) rs) (omega (arith, len, written_long offset r))
    ∙ ap (λ (x : Result (List ℕ × List ℕ) Fault). x >>= others_in n offset whole) (record_again offset r others)
    ∙ ap (λ (k : ℕ). records_in n k others >>= λ behind. Ok (r ∷ behind)) at
    ∙ ap (λ (x : Result (List (List ℕ)) Fault). x >>= λ behind. Ok (r ∷ behind)) (records_again n next rs (omega (arith, len, written_long offset r, enough)))

pub log_read : (bytes : List ℕ) (rs : List (List ℕ)) → IsBytes bytes → records_of bytes ≡ Ok rs → bytes ≡ log rs
unfolding records_of
log_read bytes rs fits e = records_take (length bytes) 0 bytes rs fits (omega arith) e

pub log_again : (rs : List (List ℕ)) → records_of (log rs) ≡ Ok rs
unfolding records_of
log_again rs = records_again (length (log rs)) 0 rs (omega arith)

-- ---- laws

written_from-append : (offset : ℕ) (rs : List (List ℕ)) (r : List ℕ) → written_records offset (rs ++ r ∷ []) ≡ written_records offset rs ++ written_record (offset + length (written_records offset rs)) r
written_from-append offset [] r = let at : offset ≡ offset + 0 = omega arith in append-nil (written_record offset r) ∙ ap (λ (k : ℕ). written_record k r) at
written_from-append offset (s ∷ rs) r =
    let next = offset + length (written_record offset s) in
    let others = written_records (offset + length (written_record offset s)) rs in
    let at : next + length others ≡ offset + length (written_record offset s ++ others) = omega (arith, length-append (written_record offset s) others) in
    ap (λ (x : List ℕ). written_record offset s ++ x) (written_from-append next rs r)
    ∙ sym (append_assoc (written_record offset s) others (written_record (next + length others) r))
    ∙ ap (λ (k : ℕ). (written_record offset s ++ others) ++ written_record k r) at

pub append_law : AppendLaw
append_law rs r =
    let at : 0 + length (log rs) ≡ length (log rs) = omega arith in
    written_from-append 0 rs r ∙ ap (λ (k : ℕ). log rs ++ written_record k r) at

pub one_list : OneListLaw
one_list rs ss e = ok_is rs ss (sym (log_again rs) ∙ ap records_of e ∙ log_again ss)

-- what the code read is the log's
pub is_found : (bytes : List ℕ) (r : Result (Vec (Vec ℕ)) Fault) → IsBytes bytes → EqualOrMemory (λ v. lists v.items) r (records_of bytes) → IfOk r (λ v. bytes ≡ log (lists v.items))
is_found bytes (Ok v) fits given = log_read bytes (lists v.items) fits given
is_found bytes (Err e) fits given = tt

-- ---- zeros, as the code has them

-- k zeros
abbrev pub zeros_of : ℕ → List ℕ
zeros_of k = replicate k 0

zeros_by : (b : Bool) (left : ℕ) → ltb left 7 ≡ b → take (length (cond b (zeros_of left) [])) (zeros_of 6) ≡ cond b (zeros_of left) []
zeros_by true left h = let lt = ltb-true left 7 h in let none : ℕ = 0 in ap (λ (k : ℕ). take k (zeros_of 6)) (length-replicate left none) ∙ take-replicate left 6 none (omega arith)
zeros_by false left h = refl

pub zeros_taken : (offset k : ℕ) → k ≡ length (zeros_due offset) → take k (zeros_of 6) ≡ zeros_due offset
zeros_taken offset k e = ap (λ (n : ℕ). take n (zeros_of 6)) e ∙ zeros_by (ltb (block_left offset) 7) (block_left offset) refl

unbegun : (b : Bool) (d : Fault) (x : List ℕ) → b ≡ false → cond b (Ok x) (Err d) ≡ Err d
unbegun true d x h = absurd cc
unbegun false d x h = refl

pub behind_refused : (offset k : ℕ) (bytes zeros : List ℕ) (b : Bool) → zeros ≡ take k (zeros_of 6) → k ≡ length (zeros_due offset) → b ≡ starts_with eqb bytes zeros → b ≡ false → after_zeros offset bytes ≡ Err (fault LogShape)
unfolding after_zeros
behind_refused offset k bytes zeros b z len is h =
    unbegun (starts_with eqb bytes (zeros_due offset)) (fault LogShape) (drop (length (zeros_due offset)) bytes) (ap (starts_with eqb bytes) (sym (z ∙ zeros_taken offset k len)) ∙ sym is ∙ h)

pub behind_found : (offset k : ℕ) (bytes zeros : List ℕ) (b : Bool) → zeros ≡ take k (zeros_of 6) → k ≡ length (zeros_due offset) → b ≡ starts_with eqb bytes zeros → b ≡ true → after_zeros offset bytes ≡ Ok (take (length bytes - k) (drop k bytes))
unfolding after_zeros
behind_found offset k bytes zeros b z len is h =
    begun (starts_with eqb bytes (zeros_due offset)) (fault LogShape) (drop (length (zeros_due offset)) bytes) (take (length bytes - k) (drop k bytes))
    (ap (starts_with eqb bytes) (sym (z ∙ zeros_taken offset k len)) ∙ sym is ∙ h)
    (ap (λ (n : ℕ). drop n bytes) (sym len) ∙ sym (ap (λ (n : ℕ). take n (drop k bytes)) (sym (length-drop k bytes)) ∙ take-length (drop k bytes)))

-- a log that grew by zeros and fragments
pub appended : (old r empty copied filled whole zeros : List ℕ) (k room : ℕ) → empty ≡ [] → copied ≡ empty ++ old → filled ≡ copied ++ zeros → zeros ≡ take k (zeros_of 6) → k ≡ length (zeros_due (length old)) → room ≡ room_at (length old)
    → whole ≡ filled ++ fragments (length r) true room r → whole ≡ old ++ written_record (length old) r
unfolding written_record
appended old r empty copied filled whole zeros k room none copy fill z k-is room-is all =
    let at : filled ≡ old ++ zeros_due (length old) = fill ∙ ap (λ (t : List ℕ). t ++ zeros) (copy ∙ ap (λ (t : List ℕ). t ++ old) none) ∙ ap (λ (t : List ℕ). old ++ t) (z ∙ zeros_taken (length old) k k-is) in
    all
    ∙ ap (λ (t : List ℕ). t ++ fragments (length r) true room r) at
    ∙ ap (λ (n : ℕ). (old ++ zeros_due (length old)) ++ fragments (length r) true n r) room-is
    ∙ append_assoc old (zeros_due (length old)) (fragments (length r) true (room_at (length old)) r)
