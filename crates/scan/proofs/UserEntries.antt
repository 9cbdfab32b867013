-- The first entry of a table from a key on, as the answer of its user key.
use Rattle.std.proofs.Common.{◌≡◌, ◌≢◌, ℕ, List, [], ◌∷◌, Some, None, refl, sym, ap}
use Rattle.std.specs.Prelude.{slice_get}
use Rattle.std.specs.Cmp.{IsTotalOrder}
use Rattle.std.specs.Option.{option_map}
use Rattle.std.specs.declared.cmp.Ordering.{Ordering}
use Rattle.std.proofs.lemmas.Option.{none-some}
use Rattle.block.specs.EncodedEntry.{Entry}
use Rattle.table.specs.Comparator.{IsExact}
use Rattle.table.specs.Key.{kind_of, sequence_of, user_of}
use Rattle.reads.specs.kind.Kind.TheVariants.{Put}
use Rattle.reads.specs.Visible.{IsAnswer, visible_of}
use Rattle.reads.proofs.Sought.{sought_end, sought_other, sought_own}
use Rattle.table.specs.EntriesFrom.{EntriesRise, entries_from}
use Rattle.scan.proofs.IndexAhead.{from_rises}

module _ (cmp : List ℕ → List ℕ → Ordering) (total : IsTotalOrder cmp) (exact : IsExact cmp) (t : List ℕ) (put : kind_of t ≡ Put) (es : List Entry) (rising : EntriesRise cmp es) where
  -- there is none
  none_by : (rest : List Entry) → rest ≡ entries_from cmp t es → None ≡ slice_get rest 0 → IsAnswer es (user_of t) (sequence_of t) None
  none_by [] is none = sought_end cmp total exact t put es [] is refl
  none_by (e ∷ rest) is none = absurd (none-some e (none))

  pub none_found : None ≡ slice_get (entries_from cmp t es) 0 → IsAnswer es (user_of t) (sequence_of t) None
  none_found none = none_by (entries_from cmp t es) refl none

  -- it is of another user key
  pub other_found : (e : Entry) → Some e ≡ slice_get (entries_from cmp t es) 0 → user_of e.key ≢ user_of t → IsAnswer es (user_of t) (sequence_of t) None
  other_found e is other =
      sought_other cmp total exact t put es (entries_from cmp t es) e.key refl (from_rises cmp t es rising) (sym (ap (option_map (λ (x : Entry). x.key)) is)) other

  -- it is of the user key
  pub own_found : (e : Entry) → Some e ≡ slice_get (entries_from cmp t es) 0 → user_of e.key ≡ user_of t → IsAnswer es (user_of t) (sequence_of t) (Some (visible_of e))
  own_found e is own =
      sought_own cmp total exact t put es (entries_from cmp t es) e.key e.value (sequence_of e.key) (kind_of e.key) refl refl refl (from_rises cmp t es rising) (sym (ap (option_map (λ (x : Entry). x.key)) is)) (sym (ap (option_map (λ (x : Entry). x.value)) is)) own
