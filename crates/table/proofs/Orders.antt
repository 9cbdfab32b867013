-- Entries in order, and what is left of them.
use Rattle.std.proofs.Common.{◌≡◌, ℕ, true, List, [], ◌∷◌, inr, refl, ap}
use Rattle.std.specs.List.{AllByRecursion}
use Rattle.std.specs.Ordering.{is_le}
use Rattle.std.specs.declared.cmp.Ordering.{Ordering}
use Rattle.std.specs.declared.cmp.Ordering.TheVariants.{Less}
use Rattle.block.specs.EncodedEntry.{Entry}
use Rattle.ikey.specs.Order.{internal_cmp}
use Rattle.table.specs.EntriesFrom.{EntriesRise, NeverFalls, LeavesFrom}

-- entries that rise strictly never fall
pub rising_never_falls : (cmp : List ℕ → List ℕ → Ordering) (es : List Entry) → EntriesRise cmp es → NeverFalls cmp es
rising_never_falls cmp [] rises = tt
rising_never_falls cmp (e ∷ es) rises = (all_at_least es rises.0, rising_never_falls cmp es rises.1)
  where
    all_at_least : (fs : List Entry) → AllByRecursion (λ f. internal_cmp cmp e.key f.key ≡ Less) fs → AllByRecursion (λ f. is_le (internal_cmp cmp e.key f.key) ≡ true) fs
    all_at_least [] h = tt
    all_at_least (f ∷ fs) h = (ap is_le h.0, all_at_least fs h.1)

-- a walk that was refused before its first step leaves all entries
pub leaves_all : (cmp : List ℕ → List ℕ → Ordering) (target : List ℕ) (es : List Entry) → LeavesFrom cmp target es es
leaves_all cmp target [] = refl
leaves_all cmp target (e ∷ es) = inr (es, (refl, leaves_all cmp target es))
