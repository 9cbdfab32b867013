-- How many files a filter keeps.
use Rattle.std.proofs.Common.{◌≤◌, Bool, true, false, cond, List, [], ◌∷◌, length, arith}
use Rattle.std.specs.Prelude.{filter}
use Rattle.folder.specs.meta.FileMeta.{FileMeta}

-- a filter keeps no more than there was
pub few_kept : (p : FileMeta → Bool) (fs : List FileMeta) → length (filter p fs) ≤ length fs
few_kept p [] = omega arith
few_kept p (f ∷ fs) = by (p f) (few_kept p fs)
  where
    by : (b : Bool) → length (filter p fs) ≤ length fs → length (cond b (f ∷ filter p fs) (filter p fs)) ≤ length (f ∷ fs)
    by true h = omega (arith, h)
    by false h = omega (arith, h)
