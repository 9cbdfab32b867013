-- What a version answers is what the entries of the user key answer, the newest first.
use Rattle.std.proofs.Common.{◌≡◌, ℕ, ◌<◌, ◌≤◌, Bool, true, false, cond, List, [], ◌∷◌, Option, Some, None, refl, sym, ap, subst, ◌∙◌, inl, inr, arith}
use Rattle.std.specs.Prelude.{◌⊎◌, Contains, nat_le}
use Rattle.std.specs.List.{AllByRecursion, filter, find}
use Rattle.std.specs.Option.{option_and_then}
use Rattle.std.proofs.lemmas.Bool.{leb-true, le-leb}
use Rattle.ikey.specs.Key.{sequence_of}
use Rattle.table.specs.EncodedEntry.{Entry}
use Rattle.reads.specs.Gets.{is_visible, newest_entry, value_in}
use Rattle.reads.specs.Tables.{all_entries}
use Rattle.reads.specs.Visible.{IsVisible}
use Rattle.reads.specs.NewestFirst.{SequencesFall, AreThoseOf, AnswersNewestFirst}
use Rattle.reads.proofs.Members.{first_or_later, later_in, first_in, none_in, in_filter, from_filter}
use Rattle.reads.proofs.Got.{IsTop, top, visible_decides}

-- what holds of each element by recursion
pub each_of : {X : Type 0} (P : X → Type 0) (xs : List X) → AllByRecursion P xs → (x : X) → Contains xs x → P x
each_of P [] h x at = absurd (none_in x at)
each_of P (y ∷ xs) h x at = elim (first_or_later y xs x at) [ inl same ↦ subst P (sym same) h.0 | inr later ↦ each_of P xs h.1 x later ]

pub of_each : {X : Type 0} (P : X → Type 0) (xs : List X) → ((x : X) → Contains xs x → P x) → AllByRecursion P xs
of_each P [] h = tt
of_each P (x ∷ xs) h = (h x (first_in x xs), of_each P xs (λ y at. h y (later_in x xs y at)))

-- two of falling entries with one sequence are one entry
pub same_of_falling : (es : List Entry) → SequencesFall es → (a b : Entry) → Contains es a → Contains es b → sequence_of a.key ≡ sequence_of b.key → a ≡ b
same_of_falling [] falls a b i j same = absurd (none_in a i)
same_of_falling (e ∷ es) falls a b i j same = by_place (first_or_later e es a i) (first_or_later e es b j) (λ k l. same_of_falling es falls.1 a b k l same)
  where
    lower : (x : Entry) → Contains es x → sequence_of x.key < sequence_of e.key
    lower x at = each_of (λ (f : Entry). sequence_of f.key < sequence_of e.key) es falls.0 x at

    apart : (x y : Entry) → x ≡ e → Contains es y → sequence_of x.key ≡ sequence_of y.key → ⊥
    apart x y is at tie =
        let lt = lower y at in
        let own : sequence_of x.key ≡ sequence_of e.key = ap (λ (z : Entry). sequence_of z.key) is in
        omega arith

    by_place : (a ≡ e) ⊎ Contains es a → (b ≡ e) ⊎ Contains es b → (Contains es a → Contains es b → a ≡ b) → a ≡ b
    by_place (inl x) (inl y) rest = x ∙ sym y
    by_place (inl x) (inr y) rest = absurd (apart a b x y same)
    by_place (inr x) (inl y) rest = absurd (apart b a y x (sym same))
    by_place (inr x) (inr y) rest = rest x y

-- whether a sequence sees an entry
abbrev sees : ℕ → Entry → Bool
sees at e = nat_le (sequence_of e.key) at

-- the first that a sequence sees is there, and no other that it sees is newer
abbrev IsFirst : List Entry → ℕ → Option Entry → Type 0
IsFirst es at None = (e : Entry) → Contains es e → sequence_of e.key ≤ at → ⊥
IsFirst es at (Some x) = Contains es x × (sequence_of x.key ≤ at) × ((e : Entry) → Contains es e → sequence_of e.key ≤ at → sequence_of e.key ≤ sequence_of x.key)

seen_by : (e : Entry) (es : List Entry) (at : ℕ) (o : Option Entry) → SequencesFall (e ∷ es) → IsFirst es at o → (b : Bool) → sees at e ≡ b → IsFirst (e ∷ es) at (cond b (Some e) o)
seen_by e es at o falls first true h = (
  first_in e es,
  leb-true (sequence_of e.key) at h,
  λ f there low. elim (first_or_later e es f there) [
    | inl same ↦ let is : sequence_of f.key ≡ sequence_of e.key = ap (λ (z : Entry). sequence_of z.key) same in omega arith
    | inr later ↦ let lt = each_of (λ (z : Entry). sequence_of z.key < sequence_of e.key) es falls.0 f later in omega arith
  ],
)
seen_by e es at None falls first false h = λ f there low. elim (first_or_later e es f there) [
  | inl same ↦ unseen e h (subst (λ (z : Entry). sequence_of z.key ≤ at) same low)
  | inr later ↦ first f later low
]
  where
    unseen : (x : Entry) → sees at x ≡ false → sequence_of x.key ≤ at → ⊥
    unseen x k le = let both : true ≡ false = sym (le-leb (sequence_of x.key) at le) ∙ k in absurd cc
seen_by e es at (Some x) falls first false h = (
  later_in e es x first.0,
  first.1,
  λ f there low. elim (first_or_later e es f there) [
    | inl same ↦ absurd (unseen e h (subst (λ (z : Entry). sequence_of z.key ≤ at) same low))
    | inr later ↦ first.2 f later low
  ],
)
  where
    unseen : (x : Entry) → sees at x ≡ false → sequence_of x.key ≤ at → ⊥
    unseen x k le = let both : true ≡ false = sym (le-leb (sequence_of x.key) at le) ∙ k in absurd cc

first_seen : (es : List Entry) (at : ℕ) → SequencesFall es → IsFirst es at (find (sees at) es)
first_seen [] at falls = λ e there low. none_in e there
first_seen (e ∷ es) at falls = seen_by e es at (find (sees at) es) falls (first_seen es at falls.1) (sees at e) refl

module _ (all own : List Entry) (user : List ℕ) (at : ℕ) (are : AreThoseOf user all own) (falls : SequencesFall own) where
  abbrev visible : List Entry
  visible = filter (is_visible user at) all

  in_visible : (e : Entry) → Contains own e → sequence_of e.key ≤ at → Contains visible e
  in_visible e there low = let of = are.only e there in in_filter (is_visible user at) all e ((visible_decides user at e).1 (of.1, low)) of.0

  from_visible : (e : Entry) → Contains visible e → Contains own e × (sequence_of e.key ≤ at)
  from_visible e there =
      let kept = from_filter (is_visible user at) all e there in
      let seen : IsVisible user at e = (visible_decides user at e).0 kept.1 in
      (are.each e kept.0 seen.0, seen.1)

  same_first : (o p : Option Entry) → IsTop visible o → IsFirst own at p → o ≡ p
  same_first None None top first = refl
  same_first None (Some y) top first = absurd (top y (in_visible y first.0 first.1))
  same_first (Some x) None top first = let from = from_visible x top.0 in absurd (first x from.0 from.1)
  same_first (Some x) (Some y) top first =
      let from = from_visible x top.0 in
      let up : sequence_of x.key ≤ sequence_of y.key = first.2 x from.0 from.1 in
      let down : sequence_of y.key ≤ sequence_of x.key = top.1 y (in_visible y first.0 first.1) in
      ap (λ (e : Entry). Some e) (same_of_falling own falls x y from.0 first.0 (omega arith))

  answered : option_and_then value_in (newest_entry visible) ≡ option_and_then value_in (find (sees at) own)
  answered = ap (option_and_then value_in) (same_first (newest_entry visible) (find (sees at) own) (top visible) (first_seen own at falls))

pub answers_newest_first : AnswersNewestFirst
answers_newest_first v tables user own at are falls = answered (all_entries tables v.files) own user at are falls
