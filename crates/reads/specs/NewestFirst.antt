-- The entries of one user key, the newest first.
use Rattle.std.specs.Prelude.{◌≡◌, ℕ, ◌<◌, nat_le, List, [], ◌∷◌, find, Option, Contains}
use Rattle.std.specs.List.{AllByRecursion}
use Rattle.std.specs.Option.{option_and_then}
use Rattle.ikey.specs.Key.{user_of, sequence_of}
use Rattle.table.specs.EncodedEntry.{Entry}
use Rattle.edit.specs.Version.{State}
use Rattle.reads.specs.Gets.{value_in, get_of}
use Rattle.reads.specs.Tables.{NumberedContents, all_entries}

-- each entry's sequence is greater than those of all later entries
abbrev pub SequencesFall : List Entry → Type 0
SequencesFall [] = Unit {0}
SequencesFall (e ∷ es) = AllByRecursion (λ f. sequence_of f.key < sequence_of e.key) es
    × SequencesFall es

-- the entries have this user key
abbrev pub AreOf : List ℕ → List Entry → Type 0
AreOf user es = AllByRecursion (λ e. user_of e.key ≡ user) es

-- What the entries of one user key, the newest first, answer at a sequence: the value of the first
-- that it sees. None if that is a deletion, or if it sees none.
abbrev pub answer_at : ℕ → List Entry → Option (List ℕ)
answer_at at es = option_and_then value_in (find (λ e. nat_le (sequence_of e.key) at) es)

-- these are the entries of a user key among all entries
pub record AreThoseOf (user : List ℕ) (all own : List Entry) : Type 0 where
  pub each : (e : Entry) → Contains all e → user_of e.key ≡ user → Contains own e
  pub only : (e : Entry) → Contains own e → Contains all e × (user_of e.key ≡ user)

-- a version answers of a user key what the entries of the user key in its tables answer, the newest
-- first
abbrev pub AnswersNewestFirst : Type 0
AnswersNewestFirst =
    (v : State) (tables : List NumberedContents) (user : List ℕ) (own : List Entry) (at : ℕ) →
    AreThoseOf user (all_entries tables v.files) own → SequencesFall own →
    get_of v tables user at ≡ answer_at at own
