-- A footer is read of the bytes that are written of it.
use Rattle.std.proofs.Common.{◌≡◌, ℕ, ◌+◌, ◌-◌, ◌^◌, ◌<◌, ◌≤◌, not, cond, eqb, List, ◌++◌, length, take, drop, replicate, Option, Some, Result, Err, refl, sym, ap, ◌∙◌, arith, append_assoc, length-append}
use Rattle.std.specs.List.{starts_with}
use Rattle.std.proofs.lemmas.List.{take_at, drop_at, drop-replicate, length-replicate}
use Rattle.std.specs.Option.{ok_or}
use Rattle.coding.specs.Answers.{and_then, fault}
use Rattle.coding.specs.declared.fault.Fault.{Fault}
use Rattle.coding.specs.declared.fault.FaultName.TheVariants.{Magic, Handle}
use Rattle.table.specs.declared.footer.Footer.{Footer}
use Rattle.table.specs.Handle.{handle_bytes, handle_reading, HandleBehind}
use Rattle.table.specs.Footer.{magic, handles_bytes, footer_bytes, handles_reading, footer_reading, FooterLaw}
use Rattle.table.proofs.Handles.{handle_reading-spelled, length-handle_bytes}

pub length-handles_bytes : (f : Footer) → length (handles_bytes f) ≤ 40
length-handles_bytes f =
    omega (arith, length-append (handle_bytes f.metaindex.offset f.metaindex.size) (handle_bytes f.index.offset f.index.size), length-handle_bytes f.metaindex.offset f.metaindex.size, length-handle_bytes f.index.offset f.index.size)

-- how many bytes two handles have, after others
pub handles_len : (f : Footer) (out a b : List ℕ) → a ≡ out ++ handle_bytes f.metaindex.offset f.metaindex.size → b ≡ a ++ handle_bytes f.index.offset f.index.size → length b ≡ length out + length (handles_bytes f)
handles_len f out a b a_is b_is =
    let first : List ℕ = handle_bytes f.metaindex.offset f.metaindex.size in
    let second : List ℕ = handle_bytes f.index.offset f.index.size in
    omega (arith, ap length a_is, ap length b_is, length-append out first, length-append a second, length-append first second)

-- handles, zeros and magic after other bytes
pub footer_written : (f : Footer) (out a b zeros : List ℕ) (n : ℕ) → a ≡ out ++ handle_bytes f.metaindex.offset f.metaindex.size → b ≡ a ++ handle_bytes f.index.offset f.index.size
    → n ≡ length b - length out → zeros ≡ drop n (replicate 40 0) → (b ++ zeros) ++ magic ≡ out ++ footer_bytes f
unfolding footer_bytes
footer_written f out a b zeros n a_is b_is n_is zeros_are =
    let first : List ℕ = handle_bytes f.metaindex.offset f.metaindex.size in
    let second : List ℕ = handle_bytes f.index.offset f.index.size in
    let whole : b ≡ out ++ handles_bytes f = b_is ∙ ap (λ (x : List ℕ). x ++ second) a_is ∙ append_assoc out first second in
    let n_same : n ≡ length (handles_bytes f) = omega (arith, handles_len f out a b a_is b_is) in
    let zeros_same : zeros ≡ replicate (40 - length (handles_bytes f)) 0 = zeros_are ∙ drop-replicate n 40 0 ∙ ap (λ (i : ℕ). replicate (40 - i) 0) n_same in
    append_assoc b zeros magic
    ∙ ap (λ (x : List ℕ). b ++ (x ++ magic)) zeros_same
    ∙ ap (λ (x : List ℕ). x ++ (replicate (40 - length (handles_bytes f)) 0 ++ magic)) whole
    ∙ append_assoc out (handles_bytes f) (replicate (40 - length (handles_bytes f)) 0 ++ magic)

-- the 40 bytes before the magic
abbrev front : Footer → List ℕ
front f = handles_bytes f ++ replicate (40 - length (handles_bytes f)) 0

length-front : (f : Footer) → length (front f) ≡ 40
length-front f =
    omega (arith, length-append (handles_bytes f) (replicate (40 - length (handles_bytes f)) 0), length-replicate {A = ℕ} (40 - length (handles_bytes f)) 0, length-handles_bytes f)

footer_bytes-parts : (f : Footer) → footer_bytes f ≡ front f ++ magic
unfolding footer_bytes
footer_bytes-parts f = sym (append_assoc (handles_bytes f) (replicate (40 - length (handles_bytes f)) 0) magic)

pub length-footer_bytes : (f : Footer) → length (footer_bytes f) ≡ 48
length-footer_bytes f = omega (arith, ap length (footer_bytes-parts f), length-append (front f) magic, length-front f)

-- what is read after the first handle
abbrev after_metaindex : HandleBehind → Option Footer
after_metaindex metaindex = and_then (handle_reading metaindex.rest) (λ index. Some (record { metaindex = metaindex.handle; index = index.handle }))

abbrev behind : Footer → List ℕ → List ℕ
behind f rest = handle_bytes f.index.offset f.index.size ++ rest

handles_again : (f : Footer) (bytes rest : List ℕ) → f.metaindex.offset < 2 ^ 64 → f.metaindex.size < 2 ^ 64 → f.index.offset < 2 ^ 64 → f.index.size < 2 ^ 64
    → bytes ≡ handles_bytes f ++ rest → handles_reading bytes ≡ Some f
handles_again f bytes rest a b c d e =
    let parts : bytes ≡ handle_bytes f.metaindex.offset f.metaindex.size ++ behind f rest = e ∙ append_assoc (handle_bytes f.metaindex.offset f.metaindex.size) (handle_bytes f.index.offset f.index.size) rest in
    ap (λ r. and_then r after_metaindex) (handle_reading-spelled bytes f.metaindex.offset f.metaindex.size (behind f rest) a b parts)
    ∙ ap (λ r. and_then r (λ (index : HandleBehind). Some (record { metaindex = f.metaindex; index = index.handle }))) (handle_reading-spelled (behind f rest) f.index.offset f.index.size rest c d refl)

abbrev pub read_by : List ℕ → List ℕ → Result Footer Fault
read_by handles last = cond (not (starts_with eqb last magic)) (Err (fault Magic)) (ok_or (handles_reading handles) (fault Handle))

pub footer_reading-by : (bytes : List ℕ) → footer_reading bytes ≡ read_by (take 40 bytes) (drop 40 bytes)
unfolding footer_reading
footer_reading-by bytes = refl

pub footer_again : FooterLaw
footer_again f a b c d =
    let bytes : List ℕ = footer_bytes f in
    let at : length (front f) ≡ 40 = length-front f in
    let handles : take 40 bytes ≡ front f = ap (take 40) (footer_bytes-parts f) ∙ take_at (front f) magic 40 at in
    let last : drop 40 bytes ≡ magic = ap (drop 40) (footer_bytes-parts f) ∙ drop_at (front f) magic 40 at in
    footer_reading-by bytes
    ∙ ap (λ (x : List ℕ). read_by (take 40 bytes) x) last
    ∙ ap (λ (o : Option Footer). ok_or o (fault Handle)) (handles_again f (take 40 bytes) (replicate (40 - length (handles_bytes f)) 0) a b c d handles)
