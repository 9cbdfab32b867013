-- The newest visible entry of lists that are joined, and of files.
use Rattle.std.proofs.Common.{◌≡◌, ℕ, ◌+◌, ◌-◌, ◌<◌, ◌≤◌, Bool, true, false, cond, ◌&&◌, List, [], ◌∷◌, ◌++◌, length, map, take, get_or, Option, Some, None, refl, sym, ap, subst, ◌∙◌, inl, inr, arith, append-nil, zero, suc, eq-or-lt_of_le}
use Rattle.std.specs.Prelude.{◌⊎◌, Contains, slice_get, nat_lt}
use Rattle.std.specs.List.{flat_map}
use Rattle.std.specs.Option.{option_map, option_map_or}
use Rattle.std.specs.Cmp.{IsTotalOrder}
use Rattle.std.specs.Ordering.{is_le, ordering_reverse}
use Rattle.std.specs.declared.cmp.Ordering.{Ordering}
use Rattle.std.specs.declared.cmp.Ordering.TheVariants.{Less, Equal, Greater}
use Rattle.std.proofs.lemmas.List.{take_more, map-append}
use Rattle.std.proofs.lemmas.Bool.Decides.{Decides-ltb}
use Rattle.std.proofs.lemmas.Grind.{flat_map-append}
use Rattle.std.proofs.lemmas.Option.{slice_get-get_or, same_Some}
use Rattle.std.proofs.lemmas.List.Elements.{Contains-append_left, Contains-append_right, Contains-append_cases, All-from_recursion}
use Rattle.ikey.specs.Key.{user_of, sequence_of}
use Rattle.ikey.specs.Order.{internal_cmp}
use Rattle.table.specs.EncodedEntry.{Entry}
use Rattle.table.specs.TableContents.{Contents}
use Rattle.table.specs.EntriesFrom.{EntriesRise}
use Rattle.edit.specs.declared.meta.FileMeta.{FileMeta}
use Rattle.reads.specs.Bounds.{may_hold}
use Rattle.reads.specs.Tables.{NumberedContents, table_of_number, table_entries}
use Rattle.reads.specs.Visible.{VisibleEntry, IsVisible, IsNewest, IsAnswer, newer_visible}
use Rattle.reads.specs.Lawful.{IsFileOf}
use Rattle.reads.proofs.Members.{first_or_later, none_in}
use Rattle.reads.proofs.Orders.{before_later, not_before_itself}
use Rattle.reads.proofs.Sought.{above_first}

-- ---- lists that are joined

newest_left : (xs ys : List Entry) (user : List ℕ) (at : ℕ) (s : VisibleEntry) → IsNewest xs user at s → ((e : Entry) → Contains ys e → IsVisible user at e → sequence_of e.key ≤ s.sequence) → IsNewest (xs ++ ys) user at s
newest_left xs ys user at s newest others = record {
  entry = newest.entry;
  there = Contains-append_left xs ys newest.entry newest.there;
  visible = newest.visible;
  is = newest.is;
  most = λ e h seen. elim (Contains-append_cases xs ys e h) [ inl i ↦ newest.most e i seen | inr i ↦ others e i seen ];
}

newest_right : (xs ys : List Entry) (user : List ℕ) (at : ℕ) (s : VisibleEntry) → IsNewest ys user at s → ((e : Entry) → Contains xs e → IsVisible user at e → sequence_of e.key ≤ s.sequence) → IsNewest (xs ++ ys) user at s
newest_right xs ys user at s newest others = record {
  entry = newest.entry;
  there = Contains-append_right xs ys newest.entry newest.there;
  visible = newest.visible;
  is = newest.is;
  most = λ e h seen. elim (Contains-append_cases xs ys e h) [ inl i ↦ others e i seen | inr i ↦ newest.most e i seen ];
}

newest_by : (xs ys : List Entry) (user : List ℕ) (at : ℕ) (s r : VisibleEntry) (b : Bool) → nat_lt s.sequence r.sequence ≡ b → IsNewest xs user at s → IsNewest ys user at r → IsAnswer (xs ++ ys) user at (cond b (Some r) (Some s))
newest_by xs ys user at s r true e left right =
    let lt : s.sequence < r.sequence = (Decides-ltb s.sequence r.sequence).0 e in
    newest_right xs ys user at r right (λ f h seen. let le = left.most f h seen in omega arith)
newest_by xs ys user at s r false e left right =
    newest_left xs ys user at s left (λ f h seen. let le = right.most f h seen in grind (arith, not_lt))
  where
    not_lt : s.sequence < r.sequence → ⊥
    not_lt lt = let both : true ≡ false = sym ((Decides-ltb s.sequence r.sequence).1 lt) ∙ e in absurd cc

pub answer_append : (xs ys : List Entry) (user : List ℕ) (at : ℕ) (o p : Option VisibleEntry) → IsAnswer xs user at o → IsAnswer ys user at p → IsAnswer (xs ++ ys) user at (newer_visible o p)
answer_append xs ys user at None None left right = λ e h seen. elim (Contains-append_cases xs ys e h) [ inl i ↦ left e i seen | inr i ↦ right e i seen ]
answer_append xs ys user at None (Some r) left right = newest_right xs ys user at r right (λ e h seen. absurd (left e h seen))
answer_append xs ys user at (Some s) None left right = newest_left xs ys user at s left (λ e h seen. absurd (right e h seen))
answer_append xs ys user at (Some s) (Some r) left right = newest_by xs ys user at s r (nat_lt s.sequence r.sequence) refl left right

pub newer_none : (o : Option VisibleEntry) → newer_visible o None ≡ o
newer_none None = refl
newer_none (Some s) = refl

-- ---- the table of a file

pub entries_are : (tables : List NumberedContents) (number : ℕ) (t : Contents) → table_of_number tables number ≡ Some t → table_entries tables number ≡ t.entries
entries_are tables number t e = ap (λ (o : Option Contents). option_map_or (λ t. t.entries) o []) e

-- ---- a file whose range doesn't hold the user key

le_parts : (o p : Ordering) → (is_le o && is_le p) ≡ false → (o ≡ Greater) ⊎ (p ≡ Greater)
le_parts Greater p e = inl refl
le_parts Less Greater e = inr refl
le_parts Equal Greater e = inr refl
le_parts Less Less e = absurd cc
le_parts Less Equal e = absurd cc
le_parts Equal Less e = absurd cc
le_parts Equal Equal e = absurd cc

module _ (cmp : List ℕ → List ℕ → Ordering) (total : IsTotalOrder cmp) where
  -- the keys rise from place to place
  pub rising_at : (es : List Entry) → EntriesRise cmp es → (i j : ℕ) (d : Entry) → i < j → j < length es → internal_cmp cmp (get_or es i d).key (get_or es j d).key ≡ Less
  rising_at [] rising i j d lt below = absurd (omega arith)
  rising_at (e ∷ es) rising i zero d lt below = absurd (omega arith)
  rising_at (e ∷ es) rising zero (suc j) d lt below =
      let P : Entry → Type 0 = λ x. internal_cmp cmp e.key x.key ≡ Less in
      All-from_recursion P es rising.0 j d (omega arith)
  rising_at (e ∷ es) rising (suc i) (suc j) d lt below = rising_at es rising.1 i j d (omega arith) (omega arith)

  -- an entry is the one at a place, or before it, or after it
  pub first_or_above : (es : List Entry) (key : List ℕ) (e : Entry) → EntriesRise cmp es → option_map (λ e. e.key) (slice_get es 0) ≡ Some key → Contains es e → (e.key ≡ key) ⊎ (internal_cmp cmp key e.key ≡ Less)
  first_or_above [] key e rising first at = absurd (none_in e at)
  first_or_above (d ∷ es) key e rising first at =
      let same : d.key ≡ key = cc in
      elim (first_or_later d es e at) [
        | inl is ↦ inl (ap (λ (x : Entry). x.key) is ∙ same)
        | inr later ↦ inr (subst (λ (k : List ℕ). internal_cmp cmp k e.key ≡ Less) same (above_first cmp d es e rising later))
      ]

  pub last_place : (es : List Entry) (key : List ℕ) (d : Entry) → 0 < length es → option_map (λ e. e.key) (slice_get es (length es - 1)) ≡ Some key → (get_or es (length es - 1) d).key ≡ key
  last_place es key d some last =
      let there = slice_get-get_or es (length es - 1) d (omega arith) in
      let both : Some (get_or es (length es - 1) d).key ≡ Some key = sym (ap (option_map (λ e. e.key)) there) ∙ last in
      same_Some _ _ both

  pub last_or_below : (es : List Entry) (key : List ℕ) (e : Entry) → EntriesRise cmp es → option_map (λ e. e.key) (slice_get es (length es - 1)) ≡ Some key → Contains es e → (e.key ≡ key) ⊎ (internal_cmp cmp e.key key ≡ Less)
  last_or_below es key e rising last at =
      let some : 0 < length es = omega (arith, at.1) in
      let place = last_place es key e some last in
      elim (eq-or-lt_of_le (at_most_last at.0 at.1)) [
        | inl i ↦ inl (ap (λ (x : Entry). x.key) (sym at.2) ∙ ap (λ (n : ℕ). (get_or es n e).key) i ∙ place)
        | inr lt ↦ inr (ap (λ (x : Entry). internal_cmp cmp x.key key) (sym at.2) ∙ ap (λ (k : List ℕ). internal_cmp cmp (get_or es at.0 e).key k) (sym place) ∙ rising_at es rising at.0 (length es - 1) e lt (omega arith))
      ]
    where
      at_most_last : (k : ℕ) → k < length es → k ≤ length es - 1
      at_most_last k lt = omega arith

  turned : (a b : List ℕ) → cmp a b ≡ Greater → cmp b a ≡ Less
  turned a b e = total.antisymm b a ∙ ap ordering_reverse e

  pub not_held : (tables : List NumberedContents) (f : FileMeta) (user : List ℕ) (at : ℕ) → IsFileOf cmp tables f → may_hold cmp f user ≡ false → IsAnswer (table_entries tables f.number) user at None
  not_held tables f user at is out e there seen =
      let held : Contains is.table.entries e = subst (λ (es : List Entry). Contains es e) (entries_are tables f.number is.table is.there) there in
      elim (le_parts (cmp (user_of f.smallest) user) (cmp user (user_of f.largest)) out) [
        | inl above ↦ below_first is.table.entries held is.rising is.smallest above
        | inr above ↦ behind_last is.table.entries held is.rising is.largest above
      ]
    where
      own : (u : List ℕ) → cmp u (user_of e.key) ≡ Less → cmp u user ≡ Less
      own u lt = subst (λ (v : List ℕ). cmp u v ≡ Less) seen.0 lt

      below_first : (es : List Entry) → Contains es e → EntriesRise cmp es → option_map (λ e. e.key) (slice_get es 0) ≡ Some f.smallest → cmp (user_of f.smallest) user ≡ Greater → ⊥
      below_first es held rising first above =
          let before : cmp user (user_of f.smallest) ≡ Less = turned (user_of f.smallest) user above in
          elim (first_or_above es f.smallest e rising first held) [
            | inl same ↦ not_before_itself cmp total user (own user (subst (λ (k : List ℕ). cmp user (user_of k) ≡ Less) (sym same) before))
            | inr later ↦ not_before_itself cmp total user (own user (before_later cmp total user f.smallest e.key before later))
          ]

      behind_last : (es : List Entry) → Contains es e → EntriesRise cmp es → option_map (λ e. e.key) (slice_get es (length es - 1)) ≡ Some f.largest → cmp user (user_of f.largest) ≡ Greater → ⊥
      behind_last es held rising last above =
          let before : cmp (user_of f.largest) user ≡ Less = turned user (user_of f.largest) above in
          let before_own : cmp (user_of f.largest) (user_of e.key) ≡ Less = subst (λ (v : List ℕ). cmp (user_of f.largest) v ≡ Less) (sym seen.0) before in
          elim (last_or_below es f.largest e rising last held) [
            | inl same ↦ not_before_itself cmp total (user_of f.largest) (subst (λ (k : List ℕ). cmp (user_of f.largest) (user_of k) ≡ Less) same before_own)
            | inr later ↦ not_before_itself cmp total (user_of f.largest) (before_later cmp total (user_of f.largest) e.key f.largest before_own later)
          ]

-- ---- one file more

pub files_step : {X : Type 0} (F : X → List Entry) (xs : List X) (i : ℕ) (x : X) (user : List ℕ) (at : ℕ) (o p r : Option VisibleEntry) → i < length xs → x ≡ get_or xs i x → r ≡ newer_visible o p
    → IsAnswer (flat_map F (take i xs)) user at o → IsAnswer (F x) user at p → IsAnswer (flat_map F (take (i + 1) xs)) user at r
files_step {X = X} F xs i x user at o p r lt here made front own =
    let front_is : take (i + 1) xs ≡ take i xs ++ x ∷ [] = take_more xs i x lt ∙ ap (λ (y : X). take i xs ++ y ∷ []) (sym here) in
    let all_is : flat_map F (take (i + 1) xs) ≡ flat_map F (take i xs) ++ F x = ap (flat_map F) front_is ∙ flat_map-append F (take i xs) (x ∷ []) ∙ ap (λ (l : List Entry). flat_map F (take i xs) ++ l) (append-nil (F x)) in
    subst (λ (l : List Entry). IsAnswer l user at r) (sym all_is) (subst (λ (q : Option VisibleEntry). IsAnswer (flat_map F (take i xs) ++ F x) user at q) (sym made) (answer_append (flat_map F (take i xs)) (F x) user at o p front own))

-- ---- one table more

-- what is held of one element more, if it is what the list has there
pub list_more : {Y Z : Type 0} (F : Y → Z) (done new : List Z) (x : Z) (ys : List Y) (i : ℕ) (y : Y) → i < length ys → y ≡ get_or ys i y → new ≡ done ++ x ∷ [] → done ≡ map F (take i ys) → x ≡ F y → new ≡ map F (take (i + 1) ys)
list_more {Y} {Z} F done new x ys i y lt here pushed front own =
    let front_is : take (i + 1) ys ≡ take i ys ++ y ∷ [] = take_more ys i y lt ∙ ap (λ (z : Y). take i ys ++ z ∷ []) (sym here) in
    pushed ∙ ap (λ (l : List Z). l ++ x ∷ []) front ∙ ap (λ (z : Z). map F (take i ys) ++ z ∷ []) own ∙ sym (ap (map F) front_is ∙ map-append F (take i ys) (y ∷ []))

pub entries_more : {X Y Z : Type 0} (G : X → Z) (F : Y → Z) (done new : List X) (x : X) (ys : List Y) (i : ℕ) (y : Y) → i < length ys → y ≡ get_or ys i y → new ≡ done ++ x ∷ [] → map G done ≡ map F (take i ys) → G x ≡ F y → map G new ≡ map F (take (i + 1) ys)
entries_more {X} G F done new x ys i y lt here pushed front own =
    list_more F (map G done) (map G new) (G x) ys i y lt here (ap (map G) pushed ∙ map-append G done (x ∷ [])) front own
