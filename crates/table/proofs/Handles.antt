-- A handle is read exactly if its spelling begins the bytes.
use Rattle.std.proofs.Common.{◌≡◌, ℕ, ◌^◌, ◌<◌, ◌≤◌, List, ◌++◌, length, drop, Option, Some, sym, ap, ◌∙◌, append_assoc, arith, length-append}
use Rattle.std.proofs.Math.Seq.{drop-append_seam}
use Rattle.coding.specs.Varint.{varint, varint_reading}
use Rattle.coding.proofs.Varints.{varint_reading-varint, reads_varint, length-varint_le}
use Rattle.coding.specs.Answers.{and_then}
use Rattle.table.specs.Handle.{handle_bytes, handle_reading, HandleBehind, HandleReadLaw}
use Rattle.block.proofs.Pieces.{and_then_some}

-- what is read after the offset
abbrev after_offset : List ℕ → ℕ × ℕ → Option HandleBehind
after_offset bytes offset =
    and_then (varint_reading (2 ^ 64) (drop offset.1 bytes)) (λ size. Some (record { handle = record { offset = offset.0; size = size.0 }; rest = drop size.1 (drop offset.1 bytes) }))

-- what is read after the size
abbrev after_size : List ℕ → ℕ → ℕ × ℕ → Option HandleBehind
after_size bytes offset size =
    Some (record { handle = record { offset = offset; size = size.0 }; rest = drop size.1 bytes })

again_size : (bytes : List ℕ) (offset size : ℕ) (rest : List ℕ) → size < 2 ^ 64 → bytes ≡ varint size ++ rest
    → and_then (varint_reading (2 ^ 64) bytes) (after_size bytes offset) ≡ Some (record { handle = record { offset = offset; size = size }; rest = rest })
again_size bytes offset size rest fits e =
    ap (λ (x : List ℕ). and_then (varint_reading (2 ^ 64) x) (after_size x offset)) e
    ∙ ap (λ r. and_then r (after_size (varint size ++ rest) offset)) (varint_reading-varint (2 ^ 64) size rest fits (omega arith))
    ∙ ap (λ (x : List ℕ). Some (record { handle = record { offset = offset; size = size }; rest = x })) (drop-append_seam (varint size) rest)

-- a spelling is read
pub handle_reading-spelled : (bytes : List ℕ) (offset size : ℕ) (rest : List ℕ) → offset < 2 ^ 64 → size < 2 ^ 64 → bytes ≡ handle_bytes offset size ++ rest
    → handle_reading bytes ≡ Some (record { handle = record { offset = offset; size = size }; rest = rest })
unfolding handle_bytes handle_reading
handle_reading-spelled bytes offset size rest offset_fits size_fits e =
    let behind : List ℕ = varint size ++ rest in
    let parts : bytes ≡ varint offset ++ behind = e ∙ append_assoc (varint offset) (varint size) rest in
    ap (λ (x : List ℕ). and_then (varint_reading (2 ^ 64) x) (after_offset x)) parts
    ∙ ap (λ r. and_then r (after_offset (varint offset ++ behind))) (varint_reading-varint (2 ^ 64) offset behind offset_fits (omega arith))
    ∙ again_size (drop (length (varint offset)) (varint offset ++ behind)) offset size rest size_fits (drop-append_seam (varint offset) behind)

-- ---- what a reading says of the bytes

pub record IsHandleRead (bytes : List ℕ) (offset size : ℕ) (rest : List ℕ) : Type 0 where
  pub offset_fits : offset < 2 ^ 64
  pub size_fits : size < 2 ^ 64
  pub parts : bytes ≡ handle_bytes offset size ++ rest

abbrev found : ℕ → ℕ → List ℕ → HandleBehind
found offset size rest = record { handle = record { offset = offset; size = size }; rest = rest }

abbrev some_found : HandleBehind → Option HandleBehind
some_found x = Some x

same_handle : (a b c d : ℕ) (x y : List ℕ) → some_found (found a b x) ≡ some_found (found c d y) → (a ≡ c) × (b ≡ d) × (x ≡ y)
same_handle a b c d x y e =
    let same : found a b x ≡ found c d y = cc in
    (ap (λ (h : HandleBehind). h.handle.offset) same, ap (λ (h : HandleBehind). h.handle.size) same, ap (λ (h : HandleBehind). h.rest) same)

pub reads_handle : (bytes : List ℕ) (offset size : ℕ) (rest : List ℕ) → handle_reading bytes ≡ Some (record { handle = record { offset = offset; size = size }; rest = rest }) → IsHandleRead bytes offset size rest
unfolding handle_bytes handle_reading
reads_handle bytes offset size rest e =
    let first = and_then_some (varint_reading (2 ^ 64) bytes) (after_offset bytes) (found offset size rest) e in
    let behind : List ℕ = drop first.0.1 bytes in
    let second = and_then_some (varint_reading (2 ^ 64) behind) (after_size behind first.0.0) (found offset size rest) first.2 in
    let same = same_handle first.0.0 second.0.0 offset size (drop second.0.1 behind) rest second.2 in
    let a = reads_varint (2 ^ 64) bytes first.0.0 first.0.1 first.1 in
    let b = reads_varint (2 ^ 64) behind second.0.0 second.0.1 second.1 in
    let offset_is : first.0.0 ≡ offset = same.0 in
    let size_is : second.0.0 ≡ size = same.1 in
    record {
      offset_fits = (let h = a.below in omega arith);
      size_fits = (let h = b.below in omega arith);
      parts = a.parts
          ∙ ap (λ (x : List ℕ). varint first.0.0 ++ x) b.parts
          ∙ ap (λ (x : List ℕ). varint first.0.0 ++ (varint second.0.0 ++ x)) same.2
          ∙ ap (λ (n : ℕ). varint n ++ (varint second.0.0 ++ rest)) offset_is
          ∙ ap (λ (n : ℕ). varint offset ++ (varint n ++ rest)) size_is
          ∙ sym (append_assoc (varint offset) (varint size) rest);
    }

pub handle_read : HandleReadLaw
handle_read bytes offset size rest = (
  λ e. let r = reads_handle bytes offset size rest e in (r.offset_fits, r.size_fits, r.parts),
  λ h. handle_reading-spelled bytes offset size rest h.0 h.1 h.2,
)

-- a handle has at most 20 bytes
pub length-handle_bytes : (offset size : ℕ) → length (handle_bytes offset size) ≤ 20
unfolding handle_bytes
length-handle_bytes offset size =
    omega (arith, length-append (varint offset) (varint size), length-varint_le offset, length-varint_le size)
