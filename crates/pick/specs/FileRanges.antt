-- The ranges of user keys that files fill together.
use Rattle.std.specs.Prelude.{◌≡◌, ⊤, ℕ, true, false, if◌then◌else◌, List, [], ◌∷◌}
use Rattle.std.specs.Global.{Vec}
use Rattle.std.specs.List.{AllByRecursion, list_any}
use Rattle.edit.specs.Key.{user_of}
use Rattle.edit.specs.Comparator.{KeyOrder}
use Rattle.edit.specs.declared.meta.FileMeta.{FileMeta}
use Rattle.pick.specs.Choices.{IsGrown, is_in}
use Rattle.pick.specs.Ranges.{is_at_most}
use Rattle.pick.specs.declared.range.UserRange.{UserRange}

-- files of the code
abbrev pub vector_files : Vec FileMeta → List FileMeta
vector_files files = files.items

-- no file begins at a user key after that at which a later file begins
abbrev pub AreByStart : KeyOrder → List FileMeta → Type 0
AreByStart cmp [] = ⊤
AreByStart cmp (f ∷ files) =
    AllByRecursion (λ (g : FileMeta). is_at_most cmp (user_of f.smallest) (user_of g.smallest)
    ≡ true) files
    × AreByStart cmp files

-- each range ends at or after its begin, and before the begin of each later one
abbrev pub AreRising : KeyOrder → List UserRange → Type 0
AreRising cmp [] = ⊤
AreRising cmp (r ∷ ranges) = (is_at_most cmp r.smallest.now r.largest.now ≡ true)
    × AllByRecursion (λ (q : UserRange). is_at_most cmp q.smallest.now r.largest.now ≡ false) ranges
    × AreRising cmp ranges

-- The ranges that files fill together: they rise, each file is in one, and each is the range of any
-- of its files, widened as little as can be.
pub record AreFileRanges (cmp : KeyOrder) (files : List FileMeta) (ranges : List UserRange)
    : Type 0 where
  pub rising : AreRising cmp ranges
  pub grown : AllByRecursion (λ (r : UserRange). AllByRecursion (λ (f : FileMeta).
      is_in cmp r f ≡ true → IsGrown cmp files f r.smallest.now r.largest.now) files) ranges
  pub all : AllByRecursion (λ (f : FileMeta). list_any (λ (r : UserRange). is_in cmp r f) ranges
      ≡ true) files

-- the files from the first one on that doesn't end before a user key
abbrev pub ending_from : KeyOrder → List ℕ → List FileMeta → List FileMeta
ending_from cmp user [] = []
ending_from cmp user (f ∷ files) =
    if is_at_most cmp user (user_of f.largest) then f ∷ files else ending_from cmp user files
