-- A key at the front of its room: what is there after its end was replaced.
use Rattle.std.proofs.Common.{◌≡◌, ℕ, ◌+◌, ◌≤◌, List, ◌++◌, length, take, refl, sym, ap, ◌∙◌, arith, take-add}
use Rattle.std.specs.Simd.Lanes.{put_chunk}
use Rattle.std.proofs.lemmas.List.{take-take, take-append-le, take_at, drop_at, length-take, length-take-le}
use Rattle.std.proofs.lemmas.Simd.{take_more_put_chunk}

-- the first bytes of a list and of another after them
take_both : (front behind : List ℕ) (at count : ℕ) → length front ≡ at → take (at + count) (front ++ behind) ≡ front ++ take count behind
take_both front behind at count len =
    take-add at count (front ++ behind) ∙ rw (take_at front behind at len, drop_at front behind at len) refl

-- 32 bytes were copied, whether or not all of them are wanted
pub copied : (room source : List ℕ) (at count end : ℕ) → end ≡ at + count → at + 32 ≤ length room → 32 ≤ length source → count ≤ 32
    → take end (put_chunk at room (take 32 source)) ≡ take at room ++ take count source
copied room source at count end is wide long few =
    let all : length (take 32 source) ≡ 32 = length-take-le 32 source long in
    let now = put_chunk at room (take 32 source) in
    ap (λ (n : ℕ). take n now) is
    ∙ sym (take-take (at + count) (at + 32) now (omega arith))
    ∙ ap (take (at + count)) (take_more_put_chunk at room (take 32 source) (at + 32) (omega arith) wide)
    ∙ take_both (take at room) (take 32 source) at count (length-take-le at room (omega arith))
    ∙ ap (λ (end : List ℕ). take at room ++ end) (take-take count 32 source few)

-- The end of a key was replaced by these bytes. The room is a slice of a vector: its n bytes, and any after them.
pub replaced : (items room new_room spare source unshared key : List ℕ) (n len shared count end : ℕ) → take end new_room ≡ take shared room ++ take count source → take shared room ≡ take shared items → end ≤ n → end ≤ length new_room → count ≡ length unshared
    → take (length unshared) source ≡ unshared → shared ≤ length key → take len items ≡ key → take end (take n (new_room ++ spare)) ≡ take shared key ++ unshared
replaced items room new_room spare source unshared key n len shared count end told same low within count_is begins shared_le view =
    let kept : shared ≤ len = omega (arith, ap length view, length-take len items) in
    let front : take shared room ≡ take shared key = same ∙ sym (take-take shared len items kept) ∙ ap (take shared) view in
    let own : take count source ≡ unshared = ap (λ (m : ℕ). take m source) count_is ∙ begins in
    take-take end n (new_room ++ spare) low ∙ take-append-le end new_room spare within ∙ told ∙ rw (front, own) refl
