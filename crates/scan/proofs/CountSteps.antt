-- The first of merged entries, counted or passed over.
use Rattle.std.proofs.Common.{◌≡◌, ℕ, Bool, true, false, cond, List, [], ◌∷◌, Option, Some, sym, ap, ap₂, ◌∙◌}
use Rattle.std.specs.Prelude.{slice_get, slice_set}
use Rattle.std.specs.Option.{option_map}
use Rattle.std.specs.declared.cmp.Ordering.{Ordering}
use Rattle.std.proofs.lemmas.Option.{same_Some}
use Rattle.table.specs.Key.{kind_of, user_of}
use Rattle.reads.specs.kind.Kind.{Kind}
use Rattle.block.specs.EncodedEntry.{Entry}
use Rattle.merge.specs.FirstEntry.{first_is}
use Rattle.merge.specs.CursorsLeft.{is_before}
use Rattle.scan.specs.Counts.{amounts_after, amounts_at, capped_plus, decided_then, entry_amounts}
use Rattle.scan.specs.EntryRows.{decided_after, is_decided}
use Rattle.scan.specs.declared.amounts.Amounts.{Amounts}

module _ (cmp : List ℕ → List ℕ → Ordering) (lower : Option (List ℕ)) (place last : ℕ) (decided : Option (List ℕ)) (amounts : List Amounts) (all es : List Entry) (e : Entry) (whole : all ≡ e ∷ es) where
  first_test : (b : Bool) → first_is (is_before cmp lower false) all ≡ b → is_before cmp lower false e ≡ b
  first_test b h = sym (ap (first_is (is_before cmp lower false)) whole) ∙ h

  abbrev with_one : Amounts
  with_one = capped_plus (amounts_at amounts place) (entry_amounts (kind_of e.key) (is_decided decided (user_of e.key)))

  -- it is before the range
  pub earlier_amounts : first_is (is_before cmp lower false) all ≡ true → amounts ≡ amounts_after cmp lower place decided e amounts
  earlier_amounts h = sym (ap (λ (b : Bool). cond b amounts (slice_set amounts place with_one)) (first_test true h))

  pub earlier_decided : first_is (is_before cmp lower false) all ≡ true → decided ≡ decided_then cmp lower last decided e
  earlier_decided h = sym (ap (λ (b : Bool). cond b decided (decided_after last decided e)) (first_test true h))

  -- it isn't, and has this key
  module _ (key : List ℕ) (first : option_map (λ (x : Entry). x.key) (slice_get all 0) ≡ Some key) (later : first_is (is_before cmp lower false) all ≡ false) where
    own : key ≡ e.key
    own = sym (same_Some e.key key (sym (ap (λ (xs : List Entry). option_map (λ (x : Entry). x.key) (slice_get xs 0)) whole) ∙ first))

    pub later_amounts : (kind : Kind) (hidden : Bool) (one more : Amounts) → kind ≡ kind_of key → hidden ≡ is_decided decided (user_of key) → one ≡ entry_amounts kind hidden → more ≡ capped_plus (amounts_at amounts place) one
        → slice_set amounts place more ≡ amounts_after cmp lower place decided e amounts
    later_amounts kind hidden one more is_kind is_hidden is_one is_more =
        ap (slice_set amounts place) (is_more ∙ ap (capped_plus (amounts_at amounts place)) (is_one ∙ ap₂ entry_amounts (is_kind ∙ ap kind_of own) (is_hidden ∙ ap (λ (k : List ℕ). is_decided decided (user_of k)) own)))
        ∙ sym (ap (λ (b : Bool). cond b amounts (slice_set amounts place with_one)) (first_test false later))

    pub later_decided : (now : Option (List ℕ)) → now ≡ decided_after last decided (record { key = key; value = [] }) → now ≡ decided_then cmp lower last decided e
    later_decided now is =
        is ∙ ap (λ (k : List ℕ). decided_after last decided (record { key = k; value = [] })) own ∙ sym (ap (λ (b : Bool). cond b decided (decided_after last decided e)) (first_test false later))
