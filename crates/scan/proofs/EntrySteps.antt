-- What one entry adds to the rows.
use Rattle.std.proofs.Common.{◌≡◌, ℕ, Bool, true, false, cond, List, [], Option, Some, Ok, refl, sym, ap, subst, ◌∙◌}
use Rattle.table.specs.Key.{user_of, kind_of}
use Rattle.reads.specs.kind.Kind.{Kind}
use Rattle.block.specs.EncodedEntry.{Entry}
use Rattle.scan.specs.Row.{Row}
use Rattle.scan.specs.EntryRows.{decided_after, entry_rows, is_passed_over, rows_by}
use Rattle.scan.specs.RowParts.{AreTelling, AreWanted, IsRowPart}
use Rattle.scan.specs.declared.row_limit.RowLimit.TheVariants.{More}
use Rattle.scan.proofs.Told.{none_told}
use Rattle.scan.specs.ToldRows.{telling_by}

module _ (at : ℕ) (decided : Option (List ℕ)) (e : Entry) where
  over_rows : is_passed_over at decided e ≡ true → entry_rows at decided e ≡ []
  over_rows is = ap (λ (b : Bool). cond b [] (rows_by (kind_of e.key) (user_of e.key) e.value)) is

  pub over_decided : is_passed_over at decided e ≡ true → decided ≡ decided_after at decided e
  over_decided is = sym (ap (λ (b : Bool). cond b decided (Some (user_of e.key))) is)

  pub own_rows : (k : Kind) → is_passed_over at decided e ≡ false → kind_of e.key ≡ k → entry_rows at decided e ≡ rows_by k (user_of e.key) e.value
  own_rows k isnt is =
      ap (λ (b : Bool). cond b [] (rows_by (kind_of e.key) (user_of e.key) e.value)) isnt
      ∙ ap (λ (l : Kind). rows_by l (user_of e.key) e.value) is

  pub own_decided : is_passed_over at decided e ≡ false → Some (user_of e.key) ≡ decided_after at decided e
  own_decided isnt = sym (ap (λ (b : Bool). cond b decided (Some (user_of e.key))) isnt)

  module _ {T : Type 0} (tells : T → Row → Bool → T → Type 0) (old : T) (left : Option ℕ) (wanted : AreWanted left) where
    -- an entry without a row
    pub nothing_told : entry_rows at decided e ≡ [] → AreTelling tells (entry_rows at decided e) old left old (Ok (More left))
    nothing_told none = (wanted, subst (λ (rs : List Row). IsRowPart (telling_by tells old old) rs left [] left true) (sym none) (none_told tells [] old old left refl))

    pub over_told : is_passed_over at decided e ≡ true → AreTelling tells (entry_rows at decided e) old left old (Ok (More left))
    over_told is = nothing_told (over_rows is)
