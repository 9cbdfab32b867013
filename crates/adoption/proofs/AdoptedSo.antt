-- What an adopted edit is known to be.
use Rattle.std.proofs.Common.{◌≡◌, ℕ, ◌-◌, ◌<◌, ◌^◌, nat_lt, Bool, true, false, ◌&&◌, List, [], ◌∷◌, unwrap_or, Option, Some, None, Ok, Err, refl, sym, ap, subst, ◌∙◌, inl, inr, arith, if◌then◌else◌}
use Rattle.std.proofs.lemmas.Bool.{ltb-true, and_parts as two_parts}
use Rattle.std.specs.List.{fold, list_all}
use Rattle.std.specs.Option.{ok_or, option_map, option_or}
use Rattle.std.proofs.lemmas.Option.{none-some, same_Some}
use Rattle.edit.proofs.Binds.{bind_ok, ok_is}
use Rattle.edit.specs.Answers.{fault, ◌>>=◌}
use Rattle.edit.specs.fault.Fault.{Fault}
use Rattle.edit.specs.fault.FaultName.TheVariants.{Apply, Numbers}
use Rattle.edit.specs.Comparator.{KeyOrder}
use Rattle.keep.proofs.EntryTests.{passed}
use Rattle.keep.specs.TestResult.{test_result}
use Rattle.edit.specs.Edit.{Edit, edit_bytes}
use Rattle.edit.specs.Version.{State, applied, are_new, has_place, undeleted_files, with_file, with_pointer}
use Rattle.edit.specs.declared.meta.CompactPointer.{CompactPointer}
use Rattle.edit.specs.declared.meta.NewFile.{NewFile}
use Rattle.folder.specs.ReadsAs.{IsOneOf}
use Rattle.install.proofs.Numbers.{numbers_in}
use Rattle.pick.specs.ClosedChoice.{IsClosedChoice, has_number_of}
use Rattle.pick.specs.NumberedInputs.{numbered_answer}
use Rattle.pick.specs.PickedInputs.{PickedInputs}
use Rattle.store.proofs.Flow.{no_refusal}
use Rattle.store.specs.FolderRequest.{manifest_of}
use Rattle.store.specs.InputsCompaction.{IsOrderly, input_numbers}
use Rattle.adoption.specs.Adoption.{Adoption, IsAdoption, adopted, adoption_by, counted_edit, outputs_in_edit}
use Rattle.adoption.specs.EditFit.{IsChoiceOf, IsEditFor, IsFitting, are_counted, deleted_numbers, only_pointer, is_reached, rise_between, rise_within}

pub record IsAdoptedSo (cmp : KeyOrder) (v : State) (e : Edit) (a : Adoption) : Type 0 where
  pub orderly : IsOrderly cmp v
  pub pointer : CompactPointer
  pub only : Some pointer ≡ only_pointer e.pointers
  pub numbered : numbered_answer cmp v pointer (deleted_numbers e) ≡ Ok a.picked
  pub closed : IsClosedChoice cmp v a.picked.level (has_number_of (deleted_numbers e))
  pub fits : IsEditFor v a.picked e
  pub few : nat_lt (manifest_of v) (2 ^ 64 - 1) ≡ true
  pub applies : applied v (adopted v e) ≡ Some a.next
  pub outputs : a.outputs ≡ outputs_in_edit e.added
  pub edit : a.edit ≡ edit_bytes (adopted v e)
  pub last : a.last ≡ unwrap_or e.last_sequence 0
  pub next_orderly : IsOrderly cmp a.next

some_of : {X : Type 0} (o : Option X) (f : Fault) (x : X) → ok_or o f ≡ Ok x → o ≡ Some x
some_of None f x h = absurd cc
some_of (Some y) f x h = ap (λ (z : _). Some z) (ok_is y x h)

record IsFitted (cmp : KeyOrder) (v : State) (e : Edit) (p : PickedInputs) : Type 0 where
  pointer : CompactPointer
  only : Some pointer ≡ only_pointer e.pointers
  numbered : numbered_answer cmp v pointer (deleted_numbers e) ≡ Ok p
  closed : IsClosedChoice cmp v p.level (has_number_of (deleted_numbers e))
  fits : IsEditFor v p e

abbrev given_by : KeyOrder → State → Edit → CompactPointer → PickedInputs → Type 0
given_by cmp v e pointer q = (numbered_answer cmp v pointer (deleted_numbers e) ≡ Ok q) × IsClosedChoice cmp v q.level (has_number_of (deleted_numbers e))

chosen : (cmp : KeyOrder) (v : State) (e : Edit) (pointer : CompactPointer) (q : PickedInputs) → IsChoiceOf cmp v pointer (deleted_numbers e) (Ok q) → given_by cmp v e pointer q
chosen cmp v e pointer q (Err f, h) = absurd (no_refusal q f h.1)
chosen cmp v e pointer q (Ok r, (numbered, closed)) = subst (given_by cmp v e pointer) (sym closed.0) (numbered, closed.1)

fitted : (cmp : KeyOrder) (v : State) (e : Edit) (p : PickedInputs) → IsFitting cmp v e (Ok p) → IsFitted cmp v e p
fitted cmp v e p (Err f, h) = absurd (no_refusal p f h.1)
fitted cmp v e p (Ok pointer, (h, (Err f, k))) = absurd (no_refusal p f k.1)
fitted cmp v e p (Ok pointer, (h, (Ok q, (choice, fit)))) =
    let own = subst (given_by cmp v e pointer) (sym fit.0) (chosen cmp v e pointer q choice) in
    record {
      pointer = pointer;
      only = sym (some_of (only_pointer e.pointers) (fault Apply) pointer (sym h));
      numbered = own.0;
      closed = own.1;
      fits = subst (λ (x : PickedInputs). IsEditFor v x e) (sym fit.0) fit.1;
    }

-- the version that an edit makes of these files
abbrev with_files : State → Edit → List NewFile → State
with_files v e files = record {
  log_number = option_or e.log_number v.log_number;
  previous_log = option_or e.previous_log v.previous_log;
  next_file = option_or e.next_file v.next_file;
  last_sequence = option_or e.last_sequence v.last_sequence;
  pointers = fold with_pointer v.pointers e.pointers;
  files = files;
}

edited_if : (b : Bool) (files : List NewFile) (f : List NewFile → State) (next : State) → option_map f (if b then Some files else None) ≡ Some next → f files ≡ next
edited_if true files f next h = same_Some (f files) next h
edited_if false files f next h = absurd (none-some next h)

-- the version after an edit that applies
pub edited_so : (v : State) (e : Edit) (next : State) → applied v e ≡ Some next → with_files v e (fold with_file (undeleted_files e.deleted v.files) e.added) ≡ next
edited_so v e next h = edited_if (list_all (has_place v.files) e.deleted && are_new (undeleted_files e.deleted v.files) e.added) (fold with_file (undeleted_files e.deleted v.files) e.added) (with_files v e) next h

tested_if : (b : Bool) (files : List NewFile) (f : List NewFile → State) (next : State) → option_map f (if b then Some files else None) ≡ Some next → b ≡ true
tested_if true files f next h = refl
tested_if false files f next h = absurd (none-some next h)

-- an edit that applies deletes files of the version
pub places_so : (v : State) (e : Edit) (next : State) → applied v e ≡ Some next → list_all (has_place v.files) e.deleted ≡ true
places_so v e next h =
    (two_parts (list_all (has_place v.files) e.deleted) (are_new (undeleted_files e.deleted v.files) e.added)
    (tested_if (list_all (has_place v.files) e.deleted && are_new (undeleted_files e.deleted v.files) e.added) (fold with_file (undeleted_files e.deleted v.files) e.added) (with_files v e) next h)).0

-- the edit that is installed, if a number is left
pub counted_is : (v : State) (e x : Edit) → counted_edit v e ≡ Ok x → adopted v e ≡ x
counted_is v e x h =
    let two = bind_ok (test_result (nat_lt (manifest_of v) (2 ^ 64 - 1)) Numbers) (λ _. Ok (adopted v e)) x h in
    ok_is (adopted v e) x two.2

abbrev made_of : State → PickedInputs → Edit → Edit → State → Adoption
made_of v p e installed next = record {
  picked = p;
  outputs = outputs_in_edit e.added;
  edit = edit_bytes installed;
  next = next;
  last = unwrap_or e.last_sequence 0;
}

made_so : (cmp : KeyOrder) (v : State) (e : Edit) (a : Adoption) (p : PickedInputs) → IsOrderly cmp v → IsFitted cmp v e p → adoption_by v p e ≡ Ok a → IsOrderly cmp a.next → IsAdoptedSo cmp v e a
made_so cmp v e a p orderly fit h next =
    let one = bind_ok (counted_edit v e) (λ (i : Edit). ok_or (applied v i) (fault Apply) >>= λ (next : State). Ok (made_of v p e i next)) a h in
    let two = bind_ok (test_result (nat_lt (manifest_of v) (2 ^ 64 - 1)) Numbers) (λ _. Ok (adopted v e)) one.0 one.1 in
    let three = bind_ok (ok_or (applied v one.0) (fault Apply)) (λ (next : State). Ok (made_of v p e one.0 next)) a one.2 in
    let same : adopted v e ≡ one.0 = counted_is v e one.0 one.1 in
    let made : made_of v p e (adopted v e) three.0 ≡ a = ap (λ (i : Edit). made_of v p e i three.0) same ∙ ok_is (made_of v p e one.0 three.0) a three.2 in
    let applies : applied v (adopted v e) ≡ Some three.0 = ap (applied v) same ∙ some_of (applied v one.0) (fault Apply) three.0 three.1 in
    subst (IsAdoptedSo cmp v e) made (record {
      orderly = orderly;
      pointer = fit.pointer;
      only = fit.only;
      numbered = fit.numbered;
      closed = fit.closed;
      fits = fit.fits;
      few = passed (nat_lt (manifest_of v) (2 ^ 64 - 1)) Numbers two.0 two.1;
      applies = applies;
      outputs = refl;
      edit = refl;
      last = refl;
      next_orderly = subst (λ (x : Adoption). IsOrderly cmp x.next) (sym made) next;
    })

pub adopted_so : (cmp : KeyOrder) (v : State) (e : Edit) (a : Adoption) → IsAdoption cmp v e (Ok a) → IsAdoptedSo cmp v e a
adopted_so cmp v e a (Err f, h) = absurd (no_refusal a f h.1)
adopted_so cmp v e a (Ok u, (orderly, (Err f, h))) = absurd (no_refusal a f h.1)
adopted_so cmp v e a (Ok u, (orderly, (Ok p, (fit, (Err f, h))))) = absurd (no_refusal a f h.1)
adopted_so cmp v e a (Ok u, (orderly, (Ok p, (fit, (Ok b, (is, (Err f, h))))))) = absurd (no_refusal a f h.1)
adopted_so cmp v e a (Ok u, (orderly, (Ok p, (fit, (Ok b, (is, (Ok o, (next, same)))))))) = subst (IsAdoptedSo cmp v e) (sym (ok_is a b same)) (made_so cmp v e b p orderly (fitted cmp v e p fit) is next)

-- ---- numbers

pub numbers_same : (added : List NewFile) → input_numbers (outputs_in_edit added) ≡ numbers_in added
numbers_same [] = refl
numbers_same (f ∷ added) = ap (λ (ns : List ℕ). f.meta.number ∷ ns) (numbers_same added)

pub rising_first : (low high : ℕ) (f : NewFile) (files : List NewFile) → rise_between low high (f ∷ files) ≡ true → (low < f.meta.number) × (f.meta.number < high) × (rise_between f.meta.number high files ≡ true)
rising_first low high f files h =
    let parts = two_parts (nat_lt low f.meta.number && nat_lt f.meta.number high) (rise_between f.meta.number high files) h in
    let between = two_parts (nat_lt low f.meta.number) (nat_lt f.meta.number high) parts.0 in
    (ltb-true low f.meta.number between.0, ltb-true f.meta.number high between.1, parts.1)

-- numbers that rise from above one are all above it, and below the other
pub rising_all : (low high : ℕ) (files : List NewFile) (n : ℕ) → rise_between low high files ≡ true → IsOneOf (numbers_in files) n → (low < n) × (n < high)
rising_all low high [] n h m = absurd m
rising_all low high (f ∷ files) n h (inl same) = let one = rising_first low high f files h in (subst (λ (k : ℕ). low < k) (sym same) one.0, subst (λ (k : ℕ). k < high) (sym same) one.1)
rising_all low high (f ∷ files) n h (inr m) =
    let one = rising_first low high f files h in
    let rest = rising_all f.meta.number high files n one.2 m in
    let a = one.0 in
    let b = rest.0 in
    (omega (arith, a, b), rest.1)

-- numbers that rise to below another are below it
pub rising_below : (low high : Option ℕ) (files : List NewFile) (n : ℕ) → rise_within low high files ≡ true → IsOneOf (numbers_in files) n → n < unwrap_or high 0
rising_below None high files n h m = absurd cc
rising_below (Some low) None files n h m = absurd cc
rising_below (Some low) (Some high) files n h m = (rising_all low high files n h m).1

record IsRising (v : State) (e : Edit) : Type 0 where
  low : ℕ
  is_low : v.next_file ≡ Some low
  high : ℕ
  rises : rise_between low high e.added ≡ true

rising : (v : State) (e : Edit) (low high : Option ℕ) → v.next_file ≡ low → rise_within low high e.added ≡ true → IsRising v e
rising v e None high is h = absurd cc
rising v e (Some low) None is h = absurd cc
rising v e (Some low) (Some high) is h = record { low = low; is_low = is; high = high; rises = h }

-- what the counters say of an edit that fits
pub record IsCounted (v : State) (e : Edit) : Type 0 where
  pub first_free : v.next_file ≡ Some (manifest_of v)
  pub high : ℕ
  pub rises : rise_between (manifest_of v) high e.added ≡ true
  pub within : rise_within v.next_file e.next_file e.added ≡ true
  pub reached : is_reached e.last_sequence v.last_sequence ≡ true

pub counted_so : (v : State) (e : Edit) → are_counted v e ≡ true → IsCounted v e
counted_so v e h =
    let both = two_parts (rise_within v.next_file e.next_file e.added) (is_reached e.last_sequence v.last_sequence) h in
    let r = rising v e v.next_file e.next_file refl both.0 in
    let own : r.low ≡ manifest_of v = sym (ap (λ (o : Option ℕ). unwrap_or o 0) r.is_low) in
    record {
      first_free = r.is_low ∙ ap (λ (n : ℕ). Some n) own;
      high = r.high;
      rises = subst (λ (n : ℕ). rise_between n r.high e.added ≡ true) own r.rises;
      within = both.0;
      reached = both.1;
    }
