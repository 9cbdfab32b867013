-- Rows that rise are one list if they are the same rows.
use Rattle.std.proofs.Common.{◌≡◌, ℕ, List, [], ◌∷◌, map, Some, refl, sym, ap, subst, ◌∙◌, inl, inr}
use Rattle.std.specs.Prelude.{◌⊎◌, Contains}
use Rattle.std.specs.Cmp.{IsTotalOrder}
use Rattle.std.specs.declared.cmp.Ordering.{Ordering}
use Rattle.std.specs.declared.cmp.Ordering.TheVariants.{Less}
use Rattle.std.proofs.lemmas.List.Elements.{All-contains}
use Rattle.folder.specs.Version.{State}
use Rattle.reads.specs.Ranges.{IsIn, KeyRange}
use Rattle.reads.specs.Gets.{get_of}
use Rattle.reads.specs.Tables.{NumberedContents}
use Rattle.reads.proofs.Members.{first_in, first_or_later, later_in, none_in}
use Rattle.reads.proofs.Orders.{not_before_itself}
use Rattle.reads.proofs.Pairs.{Pairs, pairs_from, pairs_unmap}
use Rattle.scan.specs.Row.{Row}
use Rattle.scan.specs.Rows.{AreRows}
use Rattle.scan.proofs.EntryAnswers.{IsBelow}

module _ (cmp : List ℕ → List ℕ → Ordering) (total : IsTotalOrder cmp) where
  abbrev Rise : List Row → Type 0
  Rise rows = Pairs (IsBelow cmp) rows

  both_below : (x y : Row) → IsBelow cmp x y → IsBelow cmp y x → ⊥
  both_below x y a b = not_before_itself cmp total x.key (total.trans x.key y.key x.key a b)

  first_same : (x y : Row) (xs ys : List Row) → Rise (x ∷ xs) → Rise (y ∷ ys) → (x ≡ y) ⊎ Contains ys x → (y ≡ x) ⊎ Contains xs y → x ≡ y
  first_same x y xs ys rx ry (inl same) other = same
  first_same x y xs ys rx ry (inr later) (inl same) = sym same
  first_same x y xs ys rx ry (inr later) (inr also) = absurd (both_below x y (rx.0 y also) (ry.0 x later))

  -- a later row of the one list is a later row of the other
  later_too : (x y : Row) (xs ys : List Row) → x ≡ y → Rise (x ∷ xs) → ((r : Row) → Contains (x ∷ xs) r → Contains (y ∷ ys) r) → (r : Row) → Contains xs r → Contains ys r
  later_too x y xs ys same rise to r at = by (first_or_later y ys r (to r (later_in x xs r at)))
    where
      by : (r ≡ y) ⊎ Contains ys r → Contains ys r
      by (inl is) =
          let own : IsBelow cmp x x = subst (IsBelow cmp x) (is ∙ sym same) (rise.0 r at) in
          absurd (both_below x x own own)
      by (inr later) = later

  same_rows : (xs ys : List Row) → Rise xs → Rise ys → ((r : Row) → Contains xs r → Contains ys r) → ((r : Row) → Contains ys r → Contains xs r) → xs ≡ ys
  same_rows [] [] rx ry to back = refl
  same_rows [] (y ∷ ys) rx ry to back = absurd (none_in y (back y (first_in y ys)))
  same_rows (x ∷ xs) [] rx ry to back = absurd (none_in x (to x (first_in x xs)))
  same_rows (x ∷ xs) (y ∷ ys) rx ry to back =
      let same : x ≡ y = first_same x y xs ys rx ry (first_or_later y ys x (to x (first_in x xs))) (first_or_later x xs y (back y (first_in y ys))) in
      let rest : xs ≡ ys = same_rows xs ys rx.1 ry.1 (later_too x y xs ys same rx to) (later_too y x ys xs (sym same) ry back) in
      ap (λ (r : Row). r ∷ xs) same ∙ ap (λ (rs : List Row). y ∷ rs) rest

  module _ (v : State) (tables : List NumberedContents) (range : KeyRange) (at : ℕ) where
    rise_of : (rows : List Row) → AreRows cmp v tables range at rows → Rise rows
    rise_of rows are =
        pairs_unmap (λ (key later : List ℕ). cmp key later ≡ Less) (λ (r : Row). r.key) rows (pairs_from (λ (key later : List ℕ). cmp key later ≡ Less) (map (λ (r : Row). r.key) rows) are.rising)

    into : (rows others : List Row) → AreRows cmp v tables range at rows → AreRows cmp v tables range at others → (r : Row) → Contains rows r → Contains others r
    into rows others are also r there =
        let own = All-contains (λ (r : Row). IsIn cmp range r.key × (get_of v tables r.key at ≡ Some r.value)) rows r are.each there in
        also.all r.key r.value own.0 own.1

    pub one_list : (rows others : List Row) → AreRows cmp v tables range at rows → AreRows cmp v tables range at others → rows ≡ others
    one_list rows others are also = same_rows rows others (rise_of rows are) (rise_of others also) (into rows others are also) (into others rows also are)
