-- What a comparator of user keys promises of its order, separators and successors.
use Rattle.std.specs.Prelude.{◌≡◌, ◌≢◌, ℕ, ◌<◌, List}
use Rattle.std.specs.declared.cmp.Ordering.{Ordering}
use Rattle.std.specs.declared.cmp.Ordering.TheVariants.{Less, Equal, Greater}

-- an order of user keys: how two of them compare
abbrev pub KeyOrder : Type 0
KeyOrder = List ℕ → List ℕ → Ordering

-- equal keys are the same bytes
abbrev pub IsExact : KeyOrder → Type 0
IsExact cmp = (a b : List ℕ) → cmp a b ≡ Equal → a ≡ b

-- middle is at least start and below limit
pub record IsBetween (cmp : KeyOrder) (start limit middle : List ℕ) : Type 0 where
  pub at_least : cmp start middle ≢ Greater
  pub below : cmp middle limit ≡ Less

-- the short keys that a comparator finds: one between two keys, and one at or above a key
pub record ShortKeys : Type 0 where
  pub separator : List ℕ → List ℕ → List ℕ
  pub successor : List ℕ → List ℕ

-- each separator of start and limit is at least start, and below limit, if start is below limit
abbrev pub Separates : KeyOrder → (List ℕ → List ℕ → List ℕ) → Type 0
Separates cmp separator_of =
    (start limit : List ℕ) → cmp start limit ≡ Less →
    IsBetween cmp start limit (separator_of start limit)

-- each successor of a key is at least the key
abbrev pub Succeeds : KeyOrder → (List ℕ → List ℕ) → Type 0
Succeeds cmp successor_of = (key : List ℕ) → cmp key (successor_of key) ≢ Greater

-- the key with the lower head is less
abbrev pub HeadsRise : KeyOrder → (List ℕ → ℕ) → Type 0
HeadsRise cmp head_of = (a b : List ℕ) → head_of a < head_of b → cmp a b ≡ Less
