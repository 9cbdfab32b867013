-- Held tables that are kept, and those that are read beside them.
use Rattle.std.proofs.Common.{◌≡◌, ℕ, ◌+◌, ◌<◌, Bool, true, false, List, [], ◌∷◌, ◌++◌, length, take, get_or, Option, Some, None, Ok, IfSome, refl, sym, ap, ap₂, subst, ◌∙◌}
use Rattle.std.specs.Prelude.{Contains}
use Rattle.std.specs.List.{All, cons_option}
use Rattle.std.specs.Option.{option_to_list}
use Rattle.std.specs.declared.cmp.Ordering.{Ordering}
use Rattle.std.proofs.lemmas.List.Elements.{All-contains, All-head, All-tail, filter_map-append}
use Rattle.std.proofs.lemmas.List.{take_more}
use Rattle.folder.specs.Calls.{Files}
use Rattle.reads.specs.Tables.{NumberedContents}
use Rattle.checks.specs.HeldTables.{AreFound, AreHeldIn, IsFoundAnswer, IsTableIn, held_if, held_numbers}
use Rattle.checks.specs.TablePlaces.{HasKept, wanted_number, place_numbers, wanted_numbers, placed_tables}

-- a place with the table that was taken for it
pub has_kept : (held : List NumberedContents) (n : ℕ) (kept : Option NumberedContents) → IfSome kept (λ t. t.number ≡ n) → IfSome kept (Contains held) → HasKept held (n, kept)
has_kept held n None number from = tt
has_kept held n (Some t) number from = (number, from)

module _ (held : List NumberedContents) where
  -- each table gets to the place of its number
  pub placed_numbers : (places : List (ℕ × Option NumberedContents)) (fresh : List NumberedContents) → All (HasKept held) places → held_numbers fresh ≡ wanted_numbers places → held_numbers (placed_tables places fresh) ≡ place_numbers places
  placed_numbers [] fresh kept h = refl
  placed_numbers ((n, Some t) ∷ places) fresh kept h =
      ap₂ (λ (k : ℕ) (ks : List ℕ). k ∷ ks) (All-head (HasKept held) (n, Some t) places kept).0 (placed_numbers places fresh (All-tail (HasKept held) (n, Some t) places kept) h)
  placed_numbers ((n, None) ∷ places) [] kept h = absurd (cc h)
  placed_numbers ((n, None) ∷ places) (t ∷ fresh) kept h =
      let here : t.number ≡ n = cc h in
      let later : held_numbers fresh ≡ wanted_numbers places = cc h in
      ap₂ (λ (k : ℕ) (ks : List ℕ). k ∷ ks) here (placed_numbers places fresh (All-tail (HasKept held) (n, None) places kept) later)

  module _ (cmp : List ℕ → List ℕ → Ordering) (files : Files) (are : AreHeldIn cmp files held) where
    abbrev IsIn : NumberedContents → Type 0
    IsIn t = IsTableIn cmp files t.number t.contents

    -- kept tables and those that were read are the tables of all numbers
    pub placed_found : (places : List (ℕ × Option NumberedContents)) (fresh : List NumberedContents) → All (HasKept held) places → AreFound cmp files (wanted_numbers places) fresh → AreFound cmp files (place_numbers places) (placed_tables places fresh)
    placed_found [] fresh kept h = tt
    placed_found ((n, Some t) ∷ places) fresh kept h =
        let k = All-head (HasKept held) (n, Some t) places kept in
        ((k.0, subst (λ (m : ℕ). IsTableIn cmp files m t.contents) k.0 (All-contains IsIn held t are k.1)), placed_found places fresh (All-tail (HasKept held) (n, Some t) places kept) h)
    placed_found ((n, None) ∷ places) [] kept h = absurd h
    placed_found ((n, None) ∷ places) (t ∷ fresh) kept h = (h.0, placed_found places fresh (All-tail (HasKept held) (n, None) places kept) h.1)

-- and if those that are to be read aren't there, neither are all
module _ (cmp : List ℕ → List ℕ → Ordering) (files : Files) where
  wanted_found : (places : List (ℕ × Option NumberedContents)) (tables : List NumberedContents) → AreFound cmp files (place_numbers places) tables → (fresh : List NumberedContents) × AreFound cmp files (wanted_numbers places) fresh
  wanted_found [] tables h = ([], tt)
  wanted_found (p ∷ places) [] h = absurd h
  wanted_found ((n, Some t) ∷ places) (x ∷ tables) h = wanted_found places tables h.1
  wanted_found ((n, None) ∷ places) (x ∷ tables) h =
      let rest = wanted_found places tables h.1 in
      (x ∷ rest.0, (h.0, rest.1))

  pub placed_unfound : (places : List (ℕ × Option NumberedContents)) → IsFoundAnswer cmp files (wanted_numbers places) (Ok None) → IsFoundAnswer cmp files (place_numbers places) (Ok None)
  placed_unfound places none tables h = let some = wanted_found places tables h in none some.0 some.1

-- so it is answered of all if it is of those that are to be read
pub placed_answer : (cmp : List ℕ → List ℕ → Ordering) (files : Files) (held : List NumberedContents) → AreHeldIn cmp files held → (places : List (ℕ × Option NumberedContents)) (fresh : List NumberedContents) (are_all : Bool) → All (HasKept held) places
    → IsFoundAnswer cmp files (wanted_numbers places) (Ok (held_if are_all fresh)) → IsFoundAnswer cmp files (place_numbers places) (Ok (held_if are_all (placed_tables places fresh)))
placed_answer cmp files held are places fresh true kept h = placed_found held cmp files are places fresh kept h
placed_answer cmp files held are places fresh false kept h = placed_unfound cmp files places h

-- the numbers that are wanted, a place more
wanted_one : (o : Option ℕ) → cons_option o [] ≡ option_to_list o
wanted_one None = refl
wanted_one (Some n) = refl

pub wanted_more : (places : List (ℕ × Option NumberedContents)) (i : ℕ) (p : ℕ × Option NumberedContents) → i < length places → p ≡ get_or places i p → (wanted : Option ℕ) → wanted ≡ wanted_number p → (before after : List ℕ)
    → before ≡ wanted_numbers (take i places) → after ≡ before ++ option_to_list wanted → after ≡ wanted_numbers (take (i + 1) places)
wanted_more places i p lt at wanted is before after so_far more =
    let front : List (ℕ × Option NumberedContents) = take i places in
    let next : take (i + 1) places ≡ front ++ p ∷ [] = take_more places i p lt ∙ ap (λ (q : ℕ × Option NumberedContents). front ++ q ∷ []) (sym at) in
    more
    ∙ ap (λ (ns : List ℕ). ns ++ option_to_list wanted) so_far
    ∙ ap (λ (o : Option ℕ). wanted_numbers front ++ option_to_list o) is
    ∙ ap (λ (ns : List ℕ). wanted_numbers front ++ ns) (sym (wanted_one (wanted_number p)))
    ∙ sym (ap wanted_numbers next ∙ filter_map-append wanted_number front (p ∷ []))
