-- Kept entries as they are stored: the keys one after the other, and of each entry four things.
-- These are its key's end, the length that it shares with the key before it, its value, and the sum
-- of lengths up to it.
use Rattle.std.specs.Prelude.{◌≡◌, ℕ, zero, suc, ◌+◌, ◌-◌, ◌≤◌, List, [], ◌∷◌, length, map, drop}
use Rattle.std.specs.Prelude.{slice_get, slice_range, Some}
use Rattle.std.specs.List.{AllByRecursion}
use Rattle.coding.specs.Saturated.{saturated}
use Rattle.ikey.specs.Key.{IsInternalKey}
use Rattle.reads.specs.EncodedEntry.{Entry}
use Rattle.keep.specs.SharedLengths.{shared_lens}
use Rattle.keep.specs.Sizes.{later_entry_size}
use Rattle.keep.specs.declared.kept_entry.KeptEntry.{KeptEntry}

-- the entries whose keys lie in these bytes, the first key at offset `at`
abbrev pub entries_at : ℕ → List ℕ → List KeptEntry → List Entry
entries_at at keys [] = []
entries_at at keys (k ∷ ks) = record { key = slice_range keys at k.end; value = k.value.now } ∷
    entries_at k.end keys ks

-- where the key at a place begins, if the first one begins at `at`
abbrev pub start_of : ℕ → List KeptEntry → ℕ → ℕ
start_of at ks zero = at
start_of at [] (suc i) = at
start_of at (k ∷ ks) (suc i) = start_of k.end ks i

-- the ends of keys that begin at `at`: none is before the one before it, and the last is `last`
abbrev pub AreBufferEnds : ℕ → ℕ → List KeptEntry → Type 0
AreBufferEnds at last [] = at ≡ last
AreBufferEnds at last (k ∷ ks) = (at ≤ k.end) × AreBufferEnds k.end last ks

-- with each of these entries the lengths from `sum` on, if no restart points at them, added up;
-- `before` is the key before the first
abbrev pub next_sums : ℕ → List ℕ → List Entry → List ℕ
next_sums sum before [] = []
next_sums sum before (e ∷ es) = saturated (sum + later_entry_size before e) ∷
    next_sums (saturated (sum + later_entry_size before e)) e.key es

-- each sum but the first is the one before it and the length of its entry
abbrev pub AreSums : List ℕ → List Entry → Type 0
AreSums [] es = Unit {0}
AreSums (n ∷ ns) [] = Unit {0}
AreSums (n ∷ ns) (e ∷ es) = ns ≡ next_sums n e.key es

-- a number is the last of these sums, if there is one, and a length
abbrev pub IsNextSum : List ℕ → ℕ → ℕ → Type 0
IsNextSum sums len next =
    (n : ℕ) → slice_get sums (length sums - 1) ≡ Some n → next ≡ saturated (n + len)

-- From offset `at` on the bytes are the keys of these entries, each an internal key. With each
-- entry but the first stand the length that its key shares with the key before it, and the sum.
pub record AreKeys (at : ℕ) (keys : List ℕ) (kept : List KeptEntry) : Type 0 where
  pub ends : AreBufferEnds at (length keys) kept
  pub internal : AllByRecursion (λ e. IsInternalKey e.key) (entries_at at keys kept)
  pub shared : drop 1 (map (λ k. k.shared) kept) ≡ drop 1 (shared_lens [] (entries_at at keys kept))
  pub sums : AreSums (map (λ k. k.sum) kept) (entries_at at keys kept)
