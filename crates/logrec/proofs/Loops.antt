-- What the loops of the writer and the reader keep.
use Rattle.std.proofs.Common.{◌≡◌, ℕ, zero, suc, ◌+◌, ◌-◌, ◌<◌, ◌≤◌, Bool, true, false, ltb, List, [], ◌∷◌, ◌++◌, length, take, drop, Result, Ok, Err, refl, sym, ap, ◌∙◌, append_assoc, arith}
use Rattle.std.proofs.lemmas.List.{append-nil, length-drop}
use Rattle.std.proofs.lemmas.Bool.{lt-ltb}
use Rattle.coding.specs.Answers.{fault, FailsOrMemory, ◌>>=◌}
use Rattle.coding.proofs.Refusals.{unless_from}
use Rattle.coding.specs.declared.fault.Fault.{Fault}
use Rattle.coding.specs.declared.fault.FaultName.TheVariants.{LogShape}
use Rattle.logrec.specs.Log.{fragment_type, fragment, fragments}
use Rattle.logrec.specs.LogReader.{FragmentReading, fragment_reading, ends_record, left_at, record_at, records_in, records_of}
use Rattle.logrec.proofs.Pieces.{piece_shorter}
use Rattle.logrec.proofs.Lefts.{fragments_last, fragments_more, going, ending, left_at-suc}
use Rattle.logrec.proofs.Logs.{others_in, records_in-suc, records_in-nil, record_shorter}

-- ---- refusals

pub FailsOrMemory-map : {X Y : Type 0} (e : Fault) (a : Result X Fault) (b : Result Y Fault) → (a ≡ Err e → b ≡ Err e) → FailsOrMemory e a → FailsOrMemory e b
FailsOrMemory-map e a b f h = unless_from e (a ≡ Err e) (b ≡ Err e) f h

-- ---- writing the fragments of a record

-- what is written so far, and what is left, make the whole
pub record Writes (whole so_far : List ℕ) (begins : Bool) (room : ℕ) (left : List ℕ) : Type 0 where
  pub most : ℕ
  pub enough : length left ≤ most + room
  pub room_le : room ≤ 32761
  pub parts : so_far ++ fragments most begins room left ≡ whole

pub writes_begin : (before : List ℕ) (room : ℕ) (r : List ℕ) → room ≤ 32761 → Writes (before ++ fragments (length r) true room r) before true room r
writes_begin before room r le = record { most = length r; enough = omega arith; room_le = le; parts = refl }

writes_by : (most : ℕ) (whole so_far : List ℕ) (begins : Bool) (room : ℕ) (left : List ℕ) → length left ≤ most + room → so_far ++ fragments most begins room left ≡ whole → room < length left
    → Writes whole (so_far ++ fragment (fragment_type begins false) (take room left)) false 32761 (drop room left)
writes_by zero whole so_far begins room left enough parts long = absurd (omega arith)
writes_by (suc most) whole so_far begins room left enough parts long =
    let first = fragment (fragment_type begins false) (take room left) in
    record {
      most = most;
      enough = omega (arith, length-drop room left);
      room_le = omega arith;
      parts = append_assoc so_far first (fragments most false 32761 (drop room left)) ∙ ap (λ (f : List ℕ). so_far ++ f) (sym (fragments_more most begins room left long)) ∙ parts;
    }

pub writes_on : (whole so_far : List ℕ) (begins : Bool) (room : ℕ) (left : List ℕ) → Writes whole so_far begins room left → room < length left
    → Writes whole (so_far ++ fragment (fragment_type begins false) (take room left)) false 32761 (drop room left)
writes_on whole so_far begins room left w long = writes_by w.most whole so_far begins room left w.enough w.parts long

pub writes_end : (whole so_far : List ℕ) (begins : Bool) (room : ℕ) (left : List ℕ) → Writes whole so_far begins room left → length left ≤ room → so_far ++ fragment (fragment_type begins true) left ≡ whole
writes_end whole so_far begins room left w short = ap (λ (f : List ℕ). so_far ++ f) (sym (fragments_last w.most begins room left short)) ∙ w.parts

-- ---- reading the fragments of a record

-- what was read before, and what is still read
abbrev with_front : List ℕ → Result (List ℕ × List ℕ) Fault → Result (List ℕ × List ℕ) Fault
with_front front read = read >>= λ x. Ok (front ++ x.0, x.1)

pub record Reads (total : Result (List ℕ × List ℕ) Fault) (front : List ℕ) (begins : Bool) (room : ℕ) (rest : List ℕ) : Type 0 where
  pub most : ℕ
  pub enough : length rest ≤ most
  pub parts : with_front front (left_at most begins room rest) ≡ total

abbrev done : List ℕ × List ℕ → Result (List ℕ × List ℕ) Fault
done x = Ok x

abbrev failing : Fault → Result (List ℕ × List ℕ) Fault
failing e = Err e

ok_again : (read : Result (List ℕ × List ℕ) Fault) → with_front [] read ≡ read
ok_again (Ok x) = refl
ok_again (Err e) = refl

pub reads_begin : (room : ℕ) (bytes : List ℕ) → Reads (left_at (length bytes) true room bytes) [] true room bytes
reads_begin room bytes = record { most = length bytes; enough = omega arith; parts = ok_again (left_at (length bytes) true room bytes) }

regroup : (front content : List ℕ) (read : Result (List ℕ × List ℕ) Fault) → with_front front (read >>= λ x. Ok (content ++ x.0, x.1)) ≡ with_front (front ++ content) read
regroup front content (Ok x) = ap (λ (t : List ℕ). done (t, x.1)) (sym (append_assoc front content x.0))
regroup front content (Err e) = refl

-- what a fragment makes of what is left
pieced : (most : ℕ) (begins : Bool) (room : ℕ) (rest : List ℕ) (p : FragmentReading) (b : Bool) → fragment_reading room rest ≡ Ok p → ends_record begins room p.kind (length p.content) ≡ Ok b
    → left_at (suc most) begins room rest ≡ ending most p b
pieced most begins room rest p b e f =
    left_at-suc most begins room rest
    ∙ ap (λ (r : Result FragmentReading Fault). r >>= going most begins room) e
    ∙ ap (λ (r : Result Bool Fault). r >>= ending most p) f

reads_by : (most : ℕ) (total : Result (List ℕ × List ℕ) Fault) (front : List ℕ) (begins : Bool) (room : ℕ) (rest : List ℕ) (p : FragmentReading) → length rest ≤ most → with_front front (left_at most begins room rest) ≡ total
    → fragment_reading room rest ≡ Ok p → ends_record begins room p.kind (length p.content) ≡ Ok false → Reads total (front ++ p.content) false 32761 p.rest
reads_by zero total front begins room rest p enough parts e f = absurd (omega (arith, piece_shorter room rest p e))
reads_by (suc most) total front begins room rest p enough parts e f = record {
  most = most;
  enough = omega (arith, piece_shorter room rest p e);
  parts = sym (regroup front p.content (left_at most false 32761 p.rest)) ∙ sym (ap (with_front front) (pieced most begins room rest p false e f)) ∙ parts;
}

pub reads_on : (total : Result (List ℕ × List ℕ) Fault) (front : List ℕ) (begins : Bool) (room : ℕ) (rest : List ℕ) (p : FragmentReading) → Reads total front begins room rest
    → fragment_reading room rest ≡ Ok p → ends_record begins room p.kind (length p.content) ≡ Ok false → Reads total (front ++ p.content) false 32761 p.rest
reads_on total front begins room rest p r e f = reads_by r.most total front begins room rest p r.enough r.parts e f

ended_by : (most : ℕ) (total : Result (List ℕ × List ℕ) Fault) (front : List ℕ) (begins : Bool) (room : ℕ) (rest : List ℕ) (p : FragmentReading) → length rest ≤ most → with_front front (left_at most begins room rest) ≡ total
    → fragment_reading room rest ≡ Ok p → ends_record begins room p.kind (length p.content) ≡ Ok true → total ≡ Ok (front ++ p.content, p.rest)
ended_by zero total front begins room rest p enough parts e f = absurd (omega (arith, piece_shorter room rest p e))
ended_by (suc most) total front begins room rest p enough parts e f = sym parts ∙ ap (with_front front) (pieced most begins room rest p true e f)

pub reads_end : (total : Result (List ℕ × List ℕ) Fault) (front : List ℕ) (begins : Bool) (room : ℕ) (rest : List ℕ) (p : FragmentReading) → Reads total front begins room rest
    → fragment_reading room rest ≡ Ok p → ends_record begins room p.kind (length p.content) ≡ Ok true → total ≡ Ok (front ++ p.content, p.rest)
reads_end total front begins room rest p r e f = ended_by r.most total front begins room rest p r.enough r.parts e f

-- a refusal of the fragment, or of its type and length, is that of all
no_piece : (room : ℕ) (bytes : List ℕ) → length bytes ≤ 0 → fragment_reading room bytes ≡ Err (fault LogShape)
unfolding fragment_reading
no_piece room bytes none = let short : ltb (length bytes) 7 ≡ true = lt-ltb (length bytes) 7 (omega arith) in rw short refl

abbrev refused : Fault → Result FragmentReading Fault
refused e = Err e

same_fault : (d e : Fault) → refused d ≡ refused e → d ≡ e
same_fault d e h = cc

piece_failed : (most : ℕ) (begins : Bool) (room : ℕ) (rest : List ℕ) (e : Fault) → length rest ≤ most → fragment_reading room rest ≡ Err e → left_at most begins room rest ≡ Err e
unfolding left_at
piece_failed zero begins room rest e enough h = ap failing (same_fault (fault LogShape) e (sym (no_piece room rest enough) ∙ h))
piece_failed (suc most) begins room rest e enough h = left_at-suc most begins room rest ∙ ap (λ (r : Result FragmentReading Fault). r >>= going most begins room) h

pub reads_refused : (total : Result (List ℕ × List ℕ) Fault) (front : List ℕ) (begins : Bool) (room : ℕ) (rest : List ℕ) (e : Fault) → Reads total front begins room rest → FailsOrMemory e (fragment_reading room rest) → FailsOrMemory e total
reads_refused total front begins room rest e r =
    FailsOrMemory-map e (fragment_reading room rest) total (λ h. sym r.parts ∙ ap (with_front front) (piece_failed r.most begins room rest e r.enough h))

ends_failed : (most : ℕ) (begins : Bool) (room : ℕ) (rest : List ℕ) (p : FragmentReading) (e : Fault) → length rest ≤ most → fragment_reading room rest ≡ Ok p → ends_record begins room p.kind (length p.content) ≡ Err e → left_at most begins room rest ≡ Err e
ends_failed zero begins room rest p e enough f h = absurd (omega (arith, piece_shorter room rest p f))
ends_failed (suc most) begins room rest p e enough f h =
    left_at-suc most begins room rest
    ∙ ap (λ (r : Result FragmentReading Fault). r >>= going most begins room) f
    ∙ ap (λ (r : Result Bool Fault). r >>= ending most p) h

pub reads_misplaced : (total : Result (List ℕ × List ℕ) Fault) (front : List ℕ) (begins : Bool) (room : ℕ) (rest : List ℕ) (p : FragmentReading) (e : Fault) → Reads total front begins room rest → fragment_reading room rest ≡ Ok p
    → FailsOrMemory e (ends_record begins room p.kind (length p.content)) → FailsOrMemory e total
reads_misplaced total front begins room rest p e r f =
    FailsOrMemory-map e (ends_record begins room p.kind (length p.content)) total (λ h. sym r.parts ∙ ap (with_front front) (ends_failed r.most begins room rest p e r.enough f h))

-- ---- reading the records of a log

abbrev all : List (List ℕ) → Result (List (List ℕ)) Fault
all rs = Ok rs

abbrev with_records : List (List ℕ) → Result (List (List ℕ)) Fault → Result (List (List ℕ)) Fault
with_records front read = read >>= λ others. Ok (front ++ others)

-- the records before an offset, and those after it
pub record ReadsRecords (bytes : List ℕ) (front : List (List ℕ)) (rest : List ℕ) : Type 0 where
  pub most : ℕ
  pub enough : length rest ≤ most
  pub within : length rest ≤ length bytes
  pub parts : with_records front (records_in most (length bytes - length rest) rest) ≡ records_of bytes

records_again : (read : Result (List (List ℕ)) Fault) → with_records [] read ≡ read
records_again (Ok rs) = refl
records_again (Err e) = refl

pub records_begin : (bytes : List ℕ) → ReadsRecords bytes [] bytes
unfolding records_of
records_begin bytes = record {
  most = length bytes;
  enough = omega arith;
  within = omega arith;
  parts = let none : length bytes - length bytes ≡ 0 = omega arith in records_again (records_in (length bytes) (length bytes - length bytes) bytes) ∙ ap (λ (k : ℕ). records_in (length bytes) k bytes) none;
}

regroup_records : (front : List (List ℕ)) (r : List ℕ) (read : Result (List (List ℕ)) Fault) → with_records front (read >>= λ others. Ok (r ∷ others)) ≡ with_records (front ++ r ∷ []) read
regroup_records front r (Ok rs) = ap (λ (t : List (List ℕ)). all t) (sym (append_assoc front (r ∷ []) rs))
regroup_records front r (Err e) = refl

records_by : (most : ℕ) (bytes : List ℕ) (front : List (List ℕ)) (rest : List ℕ) (x : List ℕ × List ℕ) → length rest ≤ most → length rest ≤ length bytes
    → with_records front (records_in most (length bytes - length rest) rest) ≡ records_of bytes → record_at (length bytes - length rest) rest ≡ Ok x → ReadsRecords bytes (front ++ x.0 ∷ []) x.1
records_by zero bytes front rest x enough within parts e = absurd (omega (arith, record_shorter (length bytes - length rest) rest x e))
records_by (suc most) bytes front rest x enough within parts e =
    let offset = length bytes - length rest in
    let shorter = record_shorter (length bytes - length rest) rest x e in
    let at : length bytes - length rest + (length rest - length x.1) ≡ length bytes - length x.1 = omega (arith, shorter) in
    let step : records_in (suc most) offset rest ≡ (records_in most (length bytes - length x.1) x.1 >>= λ others. Ok (x.0 ∷ others)) =
    records_in-suc most (length bytes - length rest) rest (omega (arith, shorter))
    ∙ ap (λ (r : Result (List ℕ × List ℕ) Fault). r >>= others_in most offset rest) e
    ∙ ap (λ (k : ℕ). records_in most k x.1 >>= λ others. Ok (x.0 ∷ others)) at in
    record {
      most = most;
      enough = omega (arith, shorter);
      within = omega (arith, shorter);
      parts = sym (regroup_records front x.0 (records_in most (length bytes - length x.1) x.1)) ∙ sym (ap (with_records front) step) ∙ parts;
    }

pub records_on : (bytes : List ℕ) (front : List (List ℕ)) (rest : List ℕ) (x : List ℕ × List ℕ) → ReadsRecords bytes front rest → record_at (length bytes - length rest) rest ≡ Ok x → ReadsRecords bytes (front ++ x.0 ∷ []) x.1
records_on bytes front rest x r e = records_by r.most bytes front rest x r.enough r.within r.parts e

pub records_end : (bytes : List ℕ) (front : List (List ℕ)) (rest : List ℕ) → ReadsRecords bytes front rest → rest ≡ [] → records_of bytes ≡ Ok front
records_end bytes front rest r none =
    sym r.parts
    ∙ ap (λ (t : List ℕ). with_records front (records_in r.most (length bytes - length rest) t)) none
    ∙ ap (with_records front) (records_in-nil r.most (length bytes - length rest))
    ∙ ap all (append-nil front)

record_failed : (most : ℕ) (bytes : List ℕ) (front : List (List ℕ)) (rest : List ℕ) (e : Fault) → length rest ≤ most → 0 < length rest
    → with_records front (records_in most (length bytes - length rest) rest) ≡ records_of bytes → record_at (length bytes - length rest) rest ≡ Err e → records_of bytes ≡ Err e
record_failed zero bytes front rest e enough some parts h = absurd (omega arith)
record_failed (suc most) bytes front rest e enough some parts h =
    sym parts
    ∙ ap (with_records front) (records_in-suc most (length bytes - length rest) rest some ∙ ap (λ (r : Result (List ℕ × List ℕ) Fault). r >>= others_in most (length bytes - length rest) rest) h)

pub records_refused : (bytes : List ℕ) (front : List (List ℕ)) (rest : List ℕ) (e : Fault) → ReadsRecords bytes front rest → 0 < length rest → FailsOrMemory e (record_at (length bytes - length rest) rest) → FailsOrMemory e (records_of bytes)
records_refused bytes front rest e r some =
    FailsOrMemory-map e (record_at (length bytes - length rest) rest) (records_of bytes) (record_failed r.most bytes front rest e r.enough some r.parts)
