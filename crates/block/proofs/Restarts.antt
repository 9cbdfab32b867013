-- Numbers of four bytes, one after the other.
use Rattle.std.proofs.Common.{◌≡◌, ℕ, ◌*◌, ◌^◌, ◌<◌, ◌≤◌, List, [], ◌∷◌, ◌++◌, length, drop, refl, sym, ap, subst, ◌∙◌, arith}
use Rattle.std.specs.List.{flat_map}
use Rattle.std.proofs.lemmas.List.{length-append}
use Rattle.byteorder.specs.Endian.{little_bytes, little_number}
use Rattle.coding.proofs.Bytes.{IsBytes, word_parts, word_fits}
use Rattle.block.specs.BlockParts.{BeginsWith}
use Rattle.byteorder.specs.Numbers.{little_number-reads_back}

-- the numbers, four bytes each
abbrev pub words : List ℕ → List ℕ
words restarts = flat_map (little_bytes 4) restarts

pub length-words : (rs : List ℕ) → length (words rs) ≡ 4 * length rs
length-words [] = refl
length-words (r ∷ rs) = omega (arith, length-append (little_bytes 4 r) (words rs), length-words rs)

-- the number at the front
pub front_word : (x : ℕ) (rest : List ℕ) → x < 2 ^ 32 → little_number 4 (little_bytes 4 x ++ rest) ≡ x
front_word x rest lt = little_number-reads_back 4 x rest lt

pub same_word : (x y : ℕ) (a b : List ℕ) → x < 2 ^ 32 → y < 2 ^ 32 → little_bytes 4 x ++ a ≡ little_bytes 4 y ++ b → (x ≡ y) × (a ≡ b)
same_word x y a b lx ly e =
    (sym (front_word x a lx) ∙ ap (little_number 4) e ∙ front_word y b ly, ap (λ (t : List ℕ). drop 4 t) e)

-- the numbers after the one that bytes begin with
pub begins_drop : (pending : List ℕ) (at : ℕ) → BeginsWith pending at → pending ≡ little_bytes 4 at ++ drop 4 pending
begins_drop pending at b = b.1 ∙ ap (λ (t : List ℕ). little_bytes 4 at ++ t) (sym (ap (drop 4) b.1))

-- the number at the front is this one exactly if the bytes begin with it
pub begins_iff : (pending : List ℕ) (at : ℕ) → IsBytes pending → 4 ≤ length pending → (little_number 4 pending ≡ at → (at < 2 ^ 32) × BeginsWith pending at) × ((at < 2 ^ 32) × BeginsWith pending at → little_number 4 pending ≡ at)
begins_iff pending at fits long = (
  λ e. (subst (λ (n : ℕ). n < 2 ^ 32) e (word_fits pending fits), (drop 4 pending, subst (λ (n : ℕ). pending ≡ little_bytes 4 n ++ drop 4 pending) e (word_parts pending fits long))),
  λ b. ap (little_number 4) b.1.1 ∙ front_word at b.1.0 b.0,
)
