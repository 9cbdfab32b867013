-- What a compaction does to the entries of one user key, and that no readable sequence sees it.
use Rattle.std.specs.Prelude.{◌≡◌, ◌⊎◌, ℕ, ◌≤◌, true, false, List, [], ◌∷◌, ◌++◌, Contains, None}
use Rattle.std.specs.List.{last_or}
use Rattle.ikey.specs.Key.{sequence_of}
use Rattle.ikey.specs.Comparator.{KeyOrder}
use Rattle.reads.specs.EncodedEntry.{Entry}
use Rattle.reads.specs.meta.FileMeta.{FileMeta}
use Rattle.pick.specs.Ranges.{is_in_none}
use Rattle.reads.specs.NewestFirst.{SequencesFall, AreOf, answer_at}
use Rattle.keep.specs.Readable.{Readable, is_read}
use Rattle.keep.specs.DropRule.{is_obsolete, keeps, kept}

-- a newer entry hides an older one: each readable sequence that sees the older one sees the newer
abbrev pub Hides : Readable → Entry → Entry → Type 0
Hides r newer older = (at : ℕ) → is_read r at ≡ true → sequence_of older.key ≤ at →
    sequence_of newer.key ≤ at

-- among the kept ones of `front` is one that hides this entry
abbrev pub IsUnderKept : KeyOrder → Readable → List FileMeta → List Entry → Entry → Type 0
IsUnderKept cmp r deeper front e = (k : Entry) × Contains (kept cmp r deeper front) k × Hides r k e

-- `front` are the entries up to a dropped one. The last of them or an earlier one is a deletion
-- that nothing needs, and from that one on to the end of `all` none is kept.
pub record IsUnderDeletion (cmp : KeyOrder) (r : Readable) (deeper : List FileMeta)
    (front all : List Entry) : Type 0 where
  pub above : List Entry
  pub deletion : Entry
  pub under : List Entry
  pub split : front ≡ above ++ deletion ∷ under
  pub obsolete : is_obsolete cmp r deeper deletion ≡ true
  pub nothing : kept cmp r deeper all ≡ kept cmp r deeper above

-- one key: under what a dropped entry lies, and that no readable sequence sees what is dropped
pub record OneKeyLaw (cmp : KeyOrder) : Type 0 where
  -- Take the entries of a user key, the newest first. Each dropped one lies under a kept one that
  -- hides it, or is a dropped deletion with nothing left under it, or lies under such a deletion.
  pub dropped : (r : Readable) (deeper : List FileMeta) (user : List ℕ) (front : List Entry)
      (e : Entry) (back : List Entry) →
      AreOf user (front ++ e ∷ back) → SequencesFall (front ++ e ∷ back) →
      keeps cmp r deeper (last_or None front) e ≡ false →
      IsUnderKept cmp r deeper front e
      ⊎ IsUnderDeletion cmp r deeper (front ++ e ∷ []) (front ++ e ∷ back)
  -- The entries of a user key in a version, the newest first, are those above the inputs, those of
  -- the inputs, and those below. There are none below if no deeper file's range holds the user key.
  -- At each readable sequence they answer the same with the kept ones of the inputs as with all of
  -- them.
  pub answers : (r : Readable) (deeper : List FileMeta) (user : List ℕ)
      (above inputs below : List Entry) (at : ℕ) →
      AreOf user inputs → SequencesFall (above ++ (inputs ++ below)) →
      (is_in_none cmp deeper user ≡ true → below ≡ []) → is_read r at ≡ true →
      answer_at at (above ++ (kept cmp r deeper inputs ++ below))
      ≡ answer_at at (above ++ (inputs ++ below))
