-- The entries of a user key in files that are read in order fall.
use Rattle.std.proofs.Common.{◌≡◌, ℕ, ◌<◌, Bool, true, false, cond, List, [], ◌∷◌, refl, sym, subst, ◌∙◌, eq-or-lt_of_le, inl, inr}
use Rattle.std.specs.Prelude.{Contains}
use Rattle.std.specs.List.{filter, flat_map}
use Rattle.std.specs.Str.{bytes_eq}
use Rattle.std.specs.Cmp.{IsTotalOrder}
use Rattle.std.specs.declared.cmp.Ordering.{Ordering}
use Rattle.std.proofs.lemmas.List.Elements.{All-contains}
use Rattle.std.proofs.lemmas.Slice.Eq.{bytes_eq-Decides}
use Rattle.ikey.specs.Key.{user_of, sequence_of}
use Rattle.table.specs.EncodedEntry.{Entry}
use Rattle.table.specs.EntriesFrom.{EntriesRise}
use Rattle.edit.specs.Version.{State}
use Rattle.edit.specs.declared.meta.FileMeta.{FileMeta}
use Rattle.edit.specs.declared.meta.NewFile.{NewFile}
use Rattle.reads.specs.Lawful.{IsLawful, IsFileOf, AreDistinct}
use Rattle.reads.specs.NewestFirst.{SequencesFall}
use Rattle.reads.specs.Tables.{NumberedContents, table_entries}
use Rattle.reads.proofs.Answers.{entries_are}
use Rattle.reads.proofs.FallingEntries.{of_each}
use Rattle.reads.proofs.Members.{from_filter}
use Rattle.reads.proofs.Orders.{later_older}
use Rattle.reads.proofs.Pairs.{Pairs, pairs_from, pairs_to, pairs_part, pairs_joined}
use Rattle.reads.proofs.Sought.{above_first}
use Rattle.compact.proofs.ReadOrder.{IsNewer}

-- of one user key, the entry after has the lower sequence
abbrev pub IsLower : Entry → Entry → Type 0
IsLower a b = user_of a.key ≡ user_of b.key → sequence_of b.key < sequence_of a.key

-- whether an entry is of a user key
abbrev pub is_of : List ℕ → Entry → Bool
is_of user e = bytes_eq (user_of e.key) user

pub of_user : (user : List ℕ) (e : Entry) → is_of user e ≡ true → user_of e.key ≡ user
of_user user e h = (bytes_eq-Decides (user_of e.key) user).0 h

pub user_is : (user : List ℕ) (e : Entry) → user_of e.key ≡ user → is_of user e ≡ true
user_is user e h = (bytes_eq-Decides (user_of e.key) user).1 h

falls_by : (user : List ℕ) (e : Entry) (es : List Entry) (b : Bool) → is_of user e ≡ b → ((f : Entry) → Contains es f → IsLower e f) → SequencesFall (filter (is_of user) es) → SequencesFall (cond b (e ∷ filter (is_of user) es) (filter (is_of user) es))
falls_by user e es true h first rest = (
  of_each (λ (f : Entry). sequence_of f.key < sequence_of e.key) (filter (is_of user) es)
      (λ f at. let from = from_filter (is_of user) es f at in first f from.0 (of_user user e h ∙ sym (of_user user f from.1))),
  rest,
)
falls_by user e es false h first rest = rest

pub falls : (user : List ℕ) (es : List Entry) → Pairs IsLower es → SequencesFall (filter (is_of user) es)
falls user [] pairs = tt
falls user (e ∷ es) pairs = falls_by user e es (is_of user e) refl pairs.0 (falls user es pairs.1)

module _ (cmp : List ℕ → List ℕ → Ordering) (total : IsTotalOrder cmp) where
  -- a table whose keys rise, and that has no user key and sequence twice
  of_rising : (es : List Entry) → EntriesRise cmp es → Pairs AreDistinct es → Pairs IsLower es
  of_rising [] rising distinct = tt
  of_rising (e ∷ es) rising distinct = (
    λ f at same. elim (eq-or-lt_of_le (later_older cmp total e.key f.key (above_first cmp e es f rising at) same)) [
      | inl tied ↦ absurd (distinct.0 f at same (sym tied))
      | inr lt ↦ lt
    ],
    of_rising es rising.1 distinct.1,
  )

  module _ (v : State) (tables : List NumberedContents) (lawful : IsLawful cmp v tables) where
    own_order : (f : NewFile) → Contains v.files f → Pairs IsLower (table_entries tables f.meta.number)
    own_order f at =
        let is : IsFileOf cmp tables f.meta = All-contains (λ (x : NewFile). IsFileOf cmp tables x.meta) v.files f lawful.files at in
        let same = entries_are tables f.meta.number is.table is.there in
        let all = pairs_from AreDistinct (flat_map (λ (x : NewFile). table_entries tables x.meta.number) v.files) lawful.sequences_once in
        let own : Pairs AreDistinct (table_entries tables f.meta.number) = pairs_part AreDistinct (λ (x : NewFile). table_entries tables x.meta.number) v.files f all at in
        subst (λ (es : List Entry). Pairs IsLower es) (sym same) (of_rising is.table.entries is.rising (subst (λ (es : List Entry). Pairs AreDistinct es) same own))

    -- a file of the version with its place
    pub read_falls : (user : List ℕ) (files : List FileMeta) → ((m : FileMeta) → Contains files m → (f : NewFile) × Contains v.files f × (f.meta ≡ m)) → Pairs (IsNewer cmp total v tables lawful) files
        → SequencesFall (filter (is_of user) (flat_map (λ (m : FileMeta). table_entries tables m.number) files))
    read_falls user files there newer =
        falls user (flat_map (λ (m : FileMeta). table_entries tables m.number) files)
        (pairs_joined IsLower (λ (m : FileMeta). table_entries tables m.number) files
        (λ m at. let x = there m at in subst (λ (k : FileMeta). Pairs IsLower (table_entries tables k.number)) x.2 (own_order x.0 x.1))
        (pairs_to (IsNewer cmp total v tables lawful) files newer))
