-- Whether an edit fits a version.
use Rattle.std.proofs.Common.{◌≡◌, ℕ, suc, if◌then◌else◌, Result, None, ◌+◌, ◌<◌, ◌≤◌, Bool, true, false, ◌&&◌, List, ◌∷◌, length, drop, drop-cons, add-one, get_or, Option, Some, Ok, Err, refl, sym, ap, subst, ◌∙◌, arith, nat_eq, nat_lt}
use Rattle.std.specs.Option.{is_some}
use Rattle.std.proofs.lemmas.Bool.{eqb-true, ltb-true, and_parts as two_parts}
use Rattle.std.specs.Option.{ok_or}
use Rattle.std.specs.Bool.{Decides}
use Rattle.std.specs.Cmp.Lexicographic.{pointwise, pointwise_decides}
use Rattle.edit.specs.declared.meta.DeletedFile.{DeletedFile}
use Rattle.edit.specs.Answers.{fault}
use Rattle.edit.specs.fault.Fault.{Fault}
use Rattle.edit.specs.fault.FaultName.TheVariants.{Apply, Level}
use Rattle.edit.specs.Comparator.{KeyOrder}
use Rattle.edit.specs.Edit.{Edit}
use Rattle.edit.specs.Version.{State}
use Rattle.edit.specs.declared.meta.CompactPointer.{CompactPointer}
use Rattle.pick.specs.ClosedChoice.{IsClosedChoice, first_missing, has_number_of, missing_answer}
use Rattle.pick.specs.declared.picked_inputs.InputFile.{InputFile}
use Rattle.pick.specs.PickedInputs.{PickedInputs}
use Rattle.edit.specs.declared.meta.NewFile.{NewFile}
use Rattle.adoption.specs.EditFit.{IsChoiceOf, IsEditFor, IsFitting, IsNumbered, deleted_numbers, only_pointer, rise_between}
use Rattle.adoption.proofs.FittingInputs.{numbered_so}

-- one more file rises
pub rises_on : (last high : ℕ) (files : List NewFile) (k : ℕ) (f : NewFile) → k < length files → f ≡ get_or files k f → (nat_lt last f.meta.number && nat_lt f.meta.number high) ≡ true → rise_between last high (drop k files) ≡ rise_between f.meta.number high (drop (k + 1) files)
rises_on last high files k f lt is between =
    let here : drop k files ≡ f ∷ drop (suc k) files = drop-cons files k f lt ∙ ap (λ (x : NewFile). x ∷ drop (suc k) files) (sym is) in
    ap (rise_between last high) here ∙ (ap (λ (b : Bool). b && rise_between f.meta.number high (drop (suc k) files)) between ∙ ap (λ (n : ℕ). rise_between f.meta.number high (drop n files)) (sym (add-one k)))

pub rises_not : (last high : ℕ) (files : List NewFile) (k : ℕ) (f : NewFile) → k < length files → f ≡ get_or files k f → (nat_lt last f.meta.number && nat_lt f.meta.number high) ≡ false → rise_between last high (drop k files) ≡ false
rises_not last high files k f lt is outside =
    let here : drop k files ≡ f ∷ drop (suc k) files = drop-cons files k f lt ∙ ap (λ (x : NewFile). x ∷ drop (suc k) files) (sym is) in
    ap (rise_between last high) here ∙ ap (λ (b : Bool). b && rise_between f.meta.number high (drop (suc k) files)) outside

-- ---- deletions

same_file : (a b : DeletedFile) → Decides (nat_eq a.level b.level && nat_eq a.number b.number) (a ≡ b)
same_file a b = (
  λ h.
      let parts = two_parts (nat_eq a.level b.level) (nat_eq a.number b.number) h in
      ap (λ (n : ℕ). record { level = n; number = a.number }) (eqb-true a.level b.level parts.0) ∙ ap (λ (n : ℕ). record { level = b.level; number = n }) (eqb-true a.number b.number parts.1),
  λ is. subst (λ (x : DeletedFile). (nat_eq a.level x.level && nat_eq a.number x.number) ≡ true) is (both_are (nat_eq a.level a.level) (nat_eq a.number a.number) (grind arith) (grind arith)),
)
  where
    both_are : (a b : Bool) → a ≡ true → b ≡ true → (a && b) ≡ true
    both_are true true h k = refl
    both_are true false h k = absurd (cc k)
    both_are false b h k = absurd (cc h)

pub same_deletions : (xs ys : List DeletedFile) → Decides (pointwise (λ (a b : DeletedFile). nat_eq a.level b.level && nat_eq a.number b.number) xs ys) (xs ≡ ys)
same_deletions = pointwise_decides same_file

-- ---- the closed choice

abbrev failed : Fault → Result (Option InputFile) Fault
failed f = Err f

pub none_is : (o : Option InputFile) → is_some o ≡ false → o ≡ None
none_is None h = refl
none_is (Some i) h = absurd cc

pub some_is : (o : Option InputFile) → is_some o ≡ true → o ≡ None → ⊥
some_is None h is = absurd cc
some_is (Some i) h is = absurd cc

module _ (cmp : KeyOrder) (v : State) (pointer : CompactPointer) (numbers : List ℕ) where
  pub level_of : (p : PickedInputs) → IsNumbered cmp v pointer numbers (Ok p) → p.level ≤ 5
  level_of p h =
      let so = numbered_so cmp v pointer numbers p h in
      let same : p.level ≡ pointer.level = ap (λ (q : PickedInputs). q.level) so.these in
      let low = so.level_low in
      omega (arith, same, low)

  -- a level of inputs isn't refused
  pub never_refused : (p : PickedInputs) → IsNumbered cmp v pointer numbers (Ok p) → (f : Fault) → missing_answer cmp v p.level numbers ≡ Err f → ⊥
  never_refused p h f is = by (nat_lt 5 p.level) refl is
    where
      by : (b : Bool) → nat_lt 5 p.level ≡ b → (if b then Err (fault Level) else Ok (first_missing cmp v p.level (has_number_of numbers))) ≡ failed f → ⊥
      by true e k = let low = level_of p h in let over = ltb-true 5 p.level e in omega (arith, low, over)
      by false e k = absurd cc

  pub none_closed : (f : Fault) → IsNumbered cmp v pointer numbers (Err f) → IsChoiceOf cmp v pointer numbers (Err f)
  none_closed f h = (Err f, (h, refl))

  pub not_closed : (p : PickedInputs) → IsNumbered cmp v pointer numbers (Ok p) → (IsClosedChoice cmp v p.level (has_number_of numbers) → ⊥) → IsChoiceOf cmp v pointer numbers (Err (fault Apply))
  not_closed p h lacks = (Ok p, (h, (refl, lacks)))

  pub closed_so : (p : PickedInputs) → IsNumbered cmp v pointer numbers (Ok p) → IsClosedChoice cmp v p.level (has_number_of numbers) → IsChoiceOf cmp v pointer numbers (Ok p)
  closed_so p h closed = (Ok p, (h, (refl, closed)))

-- ---- the answer, by its steps

module _ (cmp : KeyOrder) (v : State) (e : Edit) (pointer : CompactPointer) (only : Some pointer ≡ only_pointer e.pointers) where
  is_pointer : Ok pointer ≡ ok_or (only_pointer e.pointers) (fault Apply)
  is_pointer = ap (λ (o : Option CompactPointer). ok_or o (fault Apply)) only

  pub no_choice : (f : Fault) → IsChoiceOf cmp v pointer (deleted_numbers e) (Err f) → IsFitting cmp v e (Err f)
  no_choice f choice = (Ok pointer, (is_pointer, (Err f, (choice, refl))))

  pub no_fit : (p : PickedInputs) → IsChoiceOf cmp v pointer (deleted_numbers e) (Ok p) → (IsEditFor v p e → ⊥) → IsFitting cmp v e (Err (fault Apply))
  no_fit p choice not = (Ok pointer, (is_pointer, (Ok p, (choice, (refl, not)))))

  pub fits_so : (p : PickedInputs) → IsChoiceOf cmp v pointer (deleted_numbers e) (Ok p) → IsEditFor v p e → IsFitting cmp v e (Ok p)
  fits_so p choice fit = (Ok pointer, (is_pointer, (Ok p, (choice, (refl, fit)))))
