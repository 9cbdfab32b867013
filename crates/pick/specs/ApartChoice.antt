-- Choices that stand apart: they share no user key with a file that stays, at the compaction's
-- level or at the next one.
use Rattle.std.specs.Prelude.{◌≡◌, ◌⊎◌, ℕ, ◌+◌, Bool, true, false, List, ◌++◌, filter}
use Rattle.std.specs.Prelude.{Contains}
use Rattle.std.specs.List.{AllByRecursion}
use Rattle.edit.specs.Key.{user_of}
use Rattle.edit.specs.Comparator.{KeyOrder}
use Rattle.edit.specs.Version.{State}
use Rattle.edit.specs.VersionOrder.{level_files}
use Rattle.edit.specs.declared.meta.FileMeta.{FileMeta}
use Rattle.pick.specs.Ranges.{begins_by, ends_at_or_after, is_at_most, overlaps}
use Rattle.pick.specs.ClosedChoice.{IsClosedChoice, share_range}

-- the files of both levels
abbrev pub both_files : KeyOrder → State → ℕ → List FileMeta
both_files cmp v level = level_files cmp v level ++ level_files cmp v (level + 1)

-- the chosen files of both levels
abbrev pub both_chosen : KeyOrder → State → ℕ → (FileMeta → Bool) → List FileMeta
both_chosen cmp v level chosen = filter chosen (level_files cmp v level)
    ++ filter chosen (level_files cmp v (level + 1))

-- A choice stands apart: each file of both levels whose range overlaps that of all chosen ones is
-- chosen itself. The range of these goes from the least of their user keys to the greatest.
abbrev pub IsApartChoice : KeyOrder → State → ℕ → (FileMeta → Bool) → Type 0
IsApartChoice cmp v level chosen = AllByRecursion
    (λ (f : FileMeta). overlaps cmp (both_chosen cmp v level chosen) f ≡ true → chosen f ≡ true)
    (both_files cmp v level)

-- of each file of both levels, the smallest user key is at or before the largest
abbrev pub HaveRanges : KeyOrder → State → ℕ → Type 0
HaveRanges cmp v level = AllByRecursion
    (λ (f : FileMeta). is_at_most cmp (user_of f.smallest) (user_of f.largest) ≡ true)
    (both_files cmp v level)

-- no file of both levels is chosen twice
abbrev pub AreDisjointChoices : KeyOrder → State → ℕ → (FileMeta → Bool) → (FileMeta → Bool) →
    Type 0
AreDisjointChoices cmp v level one other = AllByRecursion
    (λ (f : FileMeta). one f ≡ true → other f ≡ false) (both_files cmp v level)

-- the range of a file lies within that of these
pub record LiesWithin (cmp : KeyOrder) (files : List FileMeta) (f : FileMeta) : Type 0 where
  pub begins : begins_by cmp files (user_of f.smallest) ≡ true
  pub ends : ends_at_or_after cmp files (user_of f.largest) ≡ true

-- A file of both levels after the files of one choice were compacted, as another choice sees it:
-- - it was there, at one of the two levels, and wasn't compacted;
-- - or it is new: it isn't chosen, and lies within the range of what was compacted.
abbrev pub IsOldOrNew : KeyOrder → State → ℕ → (FileMeta → Bool) → (FileMeta → Bool) → FileMeta →
    Type 0
IsOldOrNew cmp v level staying compacted f =
    (Contains (both_files cmp v level) f × (compacted f ≡ false))
    ⊎ ((staying f ≡ false) × LiesWithin cmp (both_chosen cmp v level compacted) f)

-- the law that a choice that stands apart is closed
abbrev pub ApartIsClosed : KeyOrder → Type 0
ApartIsClosed cmp = (v : State) (level : ℕ) (chosen : FileMeta → Bool) → HaveRanges cmp v level →
    IsApartChoice cmp v level chosen →
    IsClosedChoice cmp v level chosen

-- The law that a choice that stands apart still does after another such choice was compacted, with
-- which it shares no file. Each file of both levels was there then, or lies within the range of
-- what was compacted. So of choices that stand apart and share no file each stays closed, in
-- whatever order the others are compacted.
abbrev pub StaysApart : KeyOrder → Type 0
StaysApart cmp = (v after : State) (level : ℕ) (staying compacted : FileMeta → Bool) →
    HaveRanges cmp v level → IsApartChoice cmp v level staying →
    IsApartChoice cmp v level compacted → AreDisjointChoices cmp v level staying compacted →
    AllByRecursion (IsOldOrNew cmp v level staying compacted) (both_files cmp after level) →
    IsApartChoice cmp after level staying

-- the law that two choices that stand apart and share no file share no user key
abbrev pub ApartShareNone : KeyOrder → Type 0
ApartShareNone cmp = (v : State) (level : ℕ) (one other : FileMeta → Bool) →
    IsApartChoice cmp v level one → AreDisjointChoices cmp v level one other →
    AllByRecursion (λ (f : FileMeta). AllByRecursion (λ (g : FileMeta). share_range cmp f g ≡ false)
    (both_chosen cmp v level other)) (both_chosen cmp v level one)
