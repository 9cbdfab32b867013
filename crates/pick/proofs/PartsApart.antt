-- The parts around two files share no file, if the one file isn't in the other's part.
use Rattle.std.proofs.Common.{◌≡◌, ℕ, ◌+◌, Bool, true, false, not, ◌&&◌, ◌⊎◌, List, ◌++◌, refl, sym, ap, ◌∙◌, inl, inr}
use Rattle.std.specs.Prelude.{Contains}
use Rattle.std.specs.List.{AllByRecursion, filter}
use Rattle.std.specs.Cmp.{IsTotalOrder}
use Rattle.std.specs.declared.cmp.Ordering.{Ordering}
use Rattle.edit.specs.Key.{user_of}
use Rattle.edit.specs.Version.{State}
use Rattle.edit.specs.VersionOrder.{level_files}
use Rattle.edit.specs.declared.meta.FileMeta.{FileMeta}
use Rattle.pick.specs.ApartChoice.{AreDisjointChoices, HaveRanges, IsApartChoice, both_chosen, both_files}
use Rattle.pick.specs.Parts.{IsPartAround, PartsShareNone}
use Rattle.pick.specs.Ranges.{begins_by, ends_at_or_after, is_at_most, overlaps}
use Rattle.pick.proofs.ApartChoices.{Reached, chosen_there, is_there, le_by, more_overlap, overlaps_by, reached, refuted, there_chosen}
use Rattle.pick.proofs.Lists.{IsIn, all_from, all_in, and_both, and_first, and_second, any_from, any_gives, cases, false_true, in_front, none_any}
use Rattle.pick.proofs.UserOrders.{le_trans}

not_true : (b : Bool) → not b ≡ true → b ≡ false
not_true true e = absurd cc
not_true false e = refl

both_false : (a b : Bool) → (a && b) ≡ false → (a ≡ false) ⊎ (b ≡ false)
both_false true b h = inr h
both_false false b h = inl refl

abbrev both_tests : (FileMeta → Bool) → (FileMeta → Bool) → FileMeta → Bool
both_tests p q f = p f && q f

module _ (cmp : List ℕ → List ℕ → Ordering) (total : IsTotalOrder cmp) (v : State) (level : ℕ) (ranges : HaveRanges cmp v level) (first later : FileMeta) (part other : FileMeta → Bool) (there : IsIn (both_files cmp v level) later)
    (one : IsPartAround cmp v level first part) (two : IsPartAround cmp v level later other) (out : part later ≡ false) where
  abbrev ours : List FileMeta
  ours = both_chosen cmp v level part

  abbrev theirs : List FileMeta
  theirs = both_chosen cmp v level other

  rises : (f : FileMeta) → IsIn (both_files cmp v level) f → is_at_most cmp (user_of f.smallest) (user_of f.largest) ≡ true
  rises f i = all_in (λ (g : FileMeta). is_at_most cmp (user_of g.smallest) (user_of g.largest) ≡ true) (both_files cmp v level) ranges f i

  in_part : (f : FileMeta) → IsIn (both_files cmp v level) f → overlaps cmp ours f ≡ true → part f ≡ true
  in_part f i h = all_in (λ (g : FileMeta). overlaps cmp (both_chosen cmp v level part) g ≡ true → part g ≡ true) (both_files cmp v level) one.apart f i h

  in_other : (f : FileMeta) → IsIn (both_files cmp v level) f → overlaps cmp theirs f ≡ true → other f ≡ true
  in_other f i h = all_in (λ (g : FileMeta). overlaps cmp (both_chosen cmp v level other) g ≡ true → other g ≡ true) (both_files cmp v level) two.apart f i h

  -- a smaller choice that stands apart and holds the later file leaves all of the first part out
  shares_none : (side : FileMeta → Bool) → side later ≡ true → ((f : FileMeta) → IsIn (both_files cmp v level) f → part f ≡ true → side f ≡ true → ⊥)
      → ((f : FileMeta) → IsIn (both_files cmp v level) f → other f ≡ true → overlaps cmp (both_chosen cmp v level (both_tests other side)) f ≡ true → side f ≡ true) → AreDisjointChoices cmp v level part other
  shares_none side stands without stays =
      all_from (λ (f : FileMeta). part f ≡ true → other f ≡ false) (both_files cmp v level)
      (λ f i own.
      refuted (other f)
      (λ h. without f i own (and_second (other f) (side f) (all_in (λ (g : FileMeta). other g ≡ true → (other g && side g) ≡ true) (both_files cmp v level) (two.least (both_tests other side) (and_both (other later) (side later) two.holds stands) apart) f i h))))
    where
      inside : (g : FileMeta) → IsIn (both_chosen cmp v level (both_tests other side)) g → IsIn theirs g
      inside g j =
          let k = chosen_there cmp total v level (both_tests other side) g j in
          there_chosen cmp total v level other g k.0 (and_first (other g) (side g) k.1)

      apart : IsApartChoice cmp v level (both_tests other side)
      apart =
          all_from (λ (f : FileMeta). overlaps cmp (both_chosen cmp v level (both_tests other side)) f ≡ true → (both_tests other side) f ≡ true) (both_files cmp v level)
          (λ f i h.
          let whole = in_other f i (more_overlap cmp total (both_chosen cmp v level (both_tests other side)) theirs f inside h) in
          and_both (other f) (side f) whole (stays f i whole h))

  -- ---- the later file lies before the first part

  abbrev before : FileMeta → Bool
  before f = not (begins_by cmp ours (user_of f.largest))

  -- then no file of the part begins at or before its end
  begins_later : (f g : FileMeta) → before f ≡ true → IsIn ours g → is_at_most cmp (user_of g.smallest) (user_of f.largest) ≡ true → ⊥
  begins_later f g h i begins =
      false_true (begins_by cmp ours (user_of f.largest)) (any_from (λ (x : FileMeta). is_at_most cmp (user_of x.smallest) (user_of f.largest)) ours g i begins) (not_true (begins_by cmp ours (user_of f.largest)) h)

  of_before : begins_by cmp ours (user_of later.largest) ≡ false → AreDisjointChoices cmp v level part other
  of_before none = shares_none before (ap not none) (λ f i own side. begins_later f f side (there_chosen cmp total v level part f i own) (rises f i)) stays
    where
      stays : (f : FileMeta) → IsIn (both_files cmp v level) f → other f ≡ true → overlaps cmp (both_chosen cmp v level (both_tests other before)) f ≡ true → before f ≡ true
      stays f i own h = ap not (refuted (begins_by cmp ours (user_of f.largest)) wrong)
        where
          wrong : begins_by cmp ours (user_of f.largest) ≡ true → ⊥
          wrong begins =
              let r = reached cmp total (both_chosen cmp v level (both_tests other before)) f h in
              let last = chosen_there cmp total v level (both_tests other before) r.last r.last_in in
              let side = and_second (other r.last) (before r.last) last.1 in
              let x = any_gives (λ (g : FileMeta). is_at_most cmp (user_of g.smallest) (user_of f.largest)) ours begins in
              let of_x = chosen_there cmp total v level part x.item x.inside in
              let behind = le_by cmp total (user_of x.item.smallest) (user_of r.last.largest) (refuted (is_at_most cmp (user_of x.item.smallest) (user_of r.last.largest)) (begins_later r.last x.item side x.inside)) in
              let ends = le_trans cmp total (user_of f.smallest) (user_of r.last.largest) (user_of x.item.largest) r.ends
              (le_trans cmp total (user_of r.last.largest) (user_of x.item.smallest) (user_of x.item.largest) behind (rises x.item of_x.0)) in
              let held = in_part f i (overlaps_by cmp total ours f x.item x.item x.inside x.inside x.passes ends) in
              begins_later r.last f side (there_chosen cmp total v level part f i held) r.ends

  -- ---- or it lies behind it

  abbrev after : FileMeta → Bool
  after f = not (ends_at_or_after cmp ours (user_of f.smallest))

  ends_sooner : (f g : FileMeta) → after f ≡ true → IsIn ours g → is_at_most cmp (user_of f.smallest) (user_of g.largest) ≡ true → ⊥
  ends_sooner f g h i ends =
      false_true (ends_at_or_after cmp ours (user_of f.smallest)) (any_from (λ (x : FileMeta). is_at_most cmp (user_of f.smallest) (user_of x.largest)) ours g i ends) (not_true (ends_at_or_after cmp ours (user_of f.smallest)) h)

  of_after : ends_at_or_after cmp ours (user_of later.smallest) ≡ false → AreDisjointChoices cmp v level part other
  of_after none = shares_none after (ap not none) (λ f i own side. ends_sooner f f side (there_chosen cmp total v level part f i own) (rises f i)) stays
    where
      stays : (f : FileMeta) → IsIn (both_files cmp v level) f → other f ≡ true → overlaps cmp (both_chosen cmp v level (both_tests other after)) f ≡ true → after f ≡ true
      stays f i own h = ap not (refuted (ends_at_or_after cmp ours (user_of f.smallest)) wrong)
        where
          wrong : ends_at_or_after cmp ours (user_of f.smallest) ≡ true → ⊥
          wrong ends =
              let r = reached cmp total (both_chosen cmp v level (both_tests other after)) f h in
              let head = chosen_there cmp total v level (both_tests other after) r.first r.first_in in
              let side = and_second (other r.first) (after r.first) head.1 in
              let x = any_gives (λ (g : FileMeta). is_at_most cmp (user_of f.smallest) (user_of g.largest)) ours ends in
              let of_x = chosen_there cmp total v level part x.item x.inside in
              let behind = le_by cmp total (user_of r.first.smallest) (user_of x.item.largest) (refuted (is_at_most cmp (user_of r.first.smallest) (user_of x.item.largest)) (ends_sooner r.first x.item side x.inside)) in
              let begins = le_trans cmp total (user_of x.item.smallest) (user_of x.item.largest) (user_of f.largest) (rises x.item of_x.0)
              (le_trans cmp total (user_of x.item.largest) (user_of r.first.smallest) (user_of f.largest) behind r.begins) in
              let held = in_part f i (overlaps_by cmp total ours f x.item x.item x.inside x.inside begins x.passes) in
              ends_sooner r.first f side (there_chosen cmp total v level part f i held) r.begins

  pub disjoint : AreDisjointChoices cmp v level part other
  disjoint =
      elim (both_false (begins_by cmp ours (user_of later.largest)) (ends_at_or_after cmp ours (user_of later.smallest)) (refuted (overlaps cmp ours later) (λ h. false_true (part later) (in_part later there h) out))) [
        | inl none ↦ of_before none
        | inr none ↦ of_after none
      ]

pub parts_share_none : (cmp : List ℕ → List ℕ → Ordering) → IsTotalOrder cmp → PartsShareNone cmp
parts_share_none cmp total v level first later part other ranges there one two out =
    disjoint cmp total v level ranges first later part other (in_front (level_files cmp v level) (level_files cmp v (level + 1)) later (is_there (level_files cmp v level) later there)) one two out
