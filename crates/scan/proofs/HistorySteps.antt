-- The entries of a user key, found one after the other from the newest on.
use Rattle.std.proofs.Common.{◌≡◌, ◌⊎◌, ℕ, ◌+◌, ◌<◌, ◌≤◌, ◌^◌, ◌-◌, List, [], ◌∷◌, ◌++◌, Option, Some, None, All, get_or, min, Contains, AllPairs, inl, inr, sym, ap, subst, arith}
use Rattle.std.specs.Option.{MatchOption}
use Rattle.std.proofs.lemmas.Bool.{cases_lt}
use Rattle.table.specs.Key.{IsInternalKey}
use Rattle.table.proofs.Keys.{sequence_of-lt}
use Rattle.std.proofs.lemmas.List.Elements.{All-contains, All-contains_itself, Contains-append_left, Contains-push, Contains-push_cases}
use Rattle.std.proofs.lemmas.List.Quantifiers.{all_pairs_push}
use Rattle.block.specs.EncodedEntry.{Entry}
use Rattle.table.specs.Key.{sequence_of, user_of}
use Rattle.reads.specs.Visible.{IsAnswer, IsNewest, VisibleEntry, visible_of}
use Rattle.scan.specs.UserHistory.{AreEntriesOf, IsEntryOf}

-- a sequence is above the next one that is looked at, if there is one
abbrev pub IsPassed : Option ℕ → ℕ → Type 0
IsPassed None n = Unit {0}
IsPassed (Some at) n = at < n

-- the next one can be that of a key
abbrev pub NextFits : Option ℕ → Type 0
NextFits None = Unit {0}
NextFits (Some at) = at < 2 ^ 56

-- what is left to look at
abbrev pub left_of : Option ℕ → ℕ
left_of None = 0
left_of (Some at) = at + 1

-- the next one after an entry
abbrev pub IsNext : ℕ → ℕ → Option ℕ → Type 0
IsNext at sequence next = MatchOption next (min sequence at ≡ 0) (λ n. n + 1 ≡ min sequence at)

pub next_fits : (at sequence : ℕ) (next : Option ℕ) → at < 2 ^ 56 → IsNext at sequence next → NextFits next
next_fits at sequence None fits h = tt
next_fits at sequence (Some n) fits h = omega arith

-- the entries with sequences above the next one were found
pub record AreWalked (user : List ℕ) (entries : List Entry) (next : Option ℕ) (found : List Entry) : Type 0 where
  pub each : (e : Entry) → Contains entries e → user_of e.key ≡ user → IsPassed next (sequence_of e.key) → (own : Entry) × Contains found own × (sequence_of own.key ≡ sequence_of e.key)
  pub only : (own : Entry) → Contains found own → IsEntryOf user entries own × IsPassed next (sequence_of own.key)
  pub newest : AllPairs (λ (a b : Entry). sequence_of b.key < sequence_of a.key) found

nothing_in : {X : Type 0} (x : X) → Contains [] x → ⊥
nothing_in x (k, below, is) = omega arith

-- before the first
pub none_walked : (user : List ℕ) (entries : List Entry) → All (λ e. IsInternalKey e.key) entries → AreWalked user entries (Some (2 ^ 56 - 1)) []
none_walked user entries keys = record {
  each = λ e there own above. let small = sequence_of-lt e.key (All-contains (λ (x : Entry). IsInternalKey x.key) entries e keys there) in absurd (omega arith);
  only = λ seen there. absurd (nothing_in seen there);
  newest = λ i j d before below. absurd (omega arith);
}

-- no entry is left
pub none_left : (user : List ℕ) (entries : List Entry) (at : ℕ) (found : List Entry) → AreWalked user entries (Some at) found → IsAnswer entries user at None → AreEntriesOf user entries found
none_left user entries at found walked none = record {
  each = λ e there own. elim (cases_lt at (sequence_of e.key)) [
    | inl above ↦ walked.each e there own above
    | inr below ↦ absurd (none e there (own, below))
  ];
  only = λ seen there. (walked.only seen there).0;
  newest = walked.newest;
}

-- no sequence is left
pub all_passed : (user : List ℕ) (entries : List Entry) (found : List Entry) → AreWalked user entries None found → AreEntriesOf user entries found
all_passed user entries found walked = record {
  each = λ e there own. walked.each e there own tt;
  only = λ seen there. (walked.only seen there).0;
  newest = walked.newest;
}

-- what is above the next one, and what isn't
passed_or : (at sequence n : ℕ) (next : Option ℕ) → sequence ≤ at → IsNext at sequence next → IsPassed next n → (sequence < n) ⊎ (n ≡ sequence)
passed_or at sequence n None low h above = elim (cases_lt sequence n) [ inl more ↦ inl more | inr less ↦ inr (omega arith) ]
passed_or at sequence n (Some m) low h above = elim (cases_lt sequence n) [ inl more ↦ inl more | inr less ↦ inr (omega arith) ]

own_passed : (at sequence : ℕ) (next : Option ℕ) → sequence ≤ at → IsNext at sequence next → IsPassed next sequence
own_passed at sequence None low h = tt
own_passed at sequence (Some m) low h = omega arith

still_passed : (at sequence n : ℕ) (next : Option ℕ) → sequence ≤ at → IsNext at sequence next → at < n → IsPassed next n
still_passed at sequence n None low h above = tt
still_passed at sequence n (Some m) low h above = omega arith

-- one entry more
pub one_walked : (user : List ℕ) (entries : List Entry) (at : ℕ) (next : Option ℕ) (found : List Entry) (own : Entry) → AreWalked user entries (Some at) found → IsNewest entries user at (visible_of own)
    → IsNext at (sequence_of own.key) next → AreWalked user entries next (found ++ own ∷ [])
one_walked user entries at next found own walked new h =
    let same : sequence_of new.entry.key ≡ sequence_of own.key = ap (λ (s : VisibleEntry). s.sequence) new.is in
    let visible = new.visible.1 in
    let low : sequence_of own.key ≤ at = omega arith in
    record {
      each = λ e there of_user above. elim (passed_or at (sequence_of own.key) (sequence_of e.key) next low h above) [
        | inl more ↦
            let old : at < sequence_of e.key = elim (cases_lt at (sequence_of e.key)) [
              | inl later ↦ later
              | inr sooner ↦ let most = new.most e there (of_user, sooner) in absurd (omega arith)
            ] in
            let is = walked.each e there of_user old in
            (is.0, Contains-append_left found (own ∷ []) is.0 is.1, is.2)
        | inr equal ↦ (own, Contains-push found own, sym equal)
      ];
      only = λ s there. elim (Contains-push_cases found own s there) [
        | inl before ↦ let is = walked.only s before in (is.0, still_passed at (sequence_of own.key) (sequence_of s.key) next low h is.1)
        | inr equal ↦
            subst (λ (x : Entry). IsEntryOf user entries x × IsPassed next (sequence_of x.key)) equal (
              record {
                entry = new.entry;
                there = new.there;
                own = new.visible.0;
                sequence = same;
                kind = ap (λ (s : VisibleEntry). s.kind) new.is;
                value = ap (λ (s : VisibleEntry). s.value) new.is;
              },
              own_passed at (sequence_of own.key) next low h,
            )
      ];
      newest = all_pairs_push (λ (a b : Entry). sequence_of b.key < sequence_of a.key) found own walked.newest (λ k d below.
          let above = (walked.only (get_or found k d) (All-contains_itself found k d below)).1 in
          omega arith);
    }
