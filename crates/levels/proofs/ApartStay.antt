-- Parts that stand apart, whichever of them were installed.
use Rattle.std.proofs.Common.{◌≡◌, ◌≢◌, ℕ, zero, suc, true, false, List, [], ◌∷◌, Some, refl, sym, ap, subst, ◌∙◌, eqb-true, eq-eqb}
use Rattle.std.specs.Prelude.{Contains, nat_eq, slice_get}
use Rattle.std.specs.Cmp.{IsTotalOrder}
use Rattle.std.specs.declared.cmp.Ordering.{Ordering}
use Rattle.std.proofs.lemmas.List.Elements.{All-contains}
use Rattle.table.specs.ReadBackLaw.{ReadBackLaw}
use Rattle.edit.proofs.Edits.{one_edit}
use Rattle.edit.specs.Comparator.{IsExact, ShortKeys}
use Rattle.edit.specs.Version.{State, applied}
use Rattle.pick.specs.PickedInputs.{PickedInputs}
use Rattle.pick.specs.declared.picked_inputs.InputFile.{InputFile}
use Rattle.pick.proofs.ApartChoices.{is_there, refuted}
use Rattle.pick.proofs.Lists.{any_from, any_gives}
use Rattle.keep.specs.Lawful.{IsLawful}
use Rattle.keep.proofs.Members.{first_in, later_in}
use Rattle.checks.proofs.LawfulLemmas.{sound_checked, sound_lawful}
use Rattle.compact.specs.ClosedInputs.{is_input}
use Rattle.compact.specs.PassedRequest.{PassedLaw}
use Rattle.install.specs.Install.{next_version_tables}
use Rattle.store.specs.OutputRanges.{IsOldOrOutput}
use Rattle.store.proofs.PartFiles.{held_in}
use Rattle.compact.proofs.SafeInputs.{closed_safe}
use Rattle.levels.specs.ApartParts.{ApartPartsStay, PartsStandApart, ShareNone, StandApart}
use Rattle.levels.proofs.PartsBase.{ShareNoFile, share_no_file, stands_apart}
use Rattle.levels.proofs.PartStep.{Stepped, after, own_edit, stays_in, stepped, thread_at}
use Rattle.levels.proofs.StayingInputs.{still_apart}

-- ---- two parts by their places

share_back : (p q : PickedInputs) → ShareNone q p → ShareNone p q
share_back p q h j at =
    refuted (is_input p j.meta.number) (λ own.
    let i = any_gives (λ (x : InputFile). nat_eq x.meta.number j.meta.number) p.files own in
    let same : i.item.meta.number ≡ j.meta.number = eqb-true i.item.meta.number j.meta.number i.passes in
    let there : is_input q i.item.meta.number ≡ true =
    any_from (λ (x : InputFile). nat_eq x.meta.number i.item.meta.number) q.files j (is_there q.files j at) (eq-eqb j.meta.number i.item.meta.number (sym same)) in
    let clash : true ≡ false = sym there ∙ h i.item (held_in p.files i.item i.inside) in
    cc clash)

one_part : (p q : PickedInputs) → Some p ≡ Some q → p ≡ q
one_part p q h = cc h

at_place : (parts : List PickedInputs) (k : ℕ) (p : PickedInputs) → slice_get parts k ≡ Some p → Contains parts p
at_place [] k p h = absurd (cc h)
at_place (x ∷ parts) zero p h = subst (Contains (x ∷ parts)) (one_part x p h) (first_in x parts)
at_place (x ∷ parts) (suc k) p h = later_in x parts p (at_place parts k p h)

at_places : (parts : List PickedInputs) (one other : ℕ) (p q : PickedInputs) → ShareNoFile parts → slice_get parts one ≡ Some p → slice_get parts other ≡ Some q → one ≢ other → ShareNone p q
at_places [] one other p q share h k differ = absurd (cc h)
at_places (x ∷ parts) zero zero p q share h k differ = absurd (differ refl)
at_places (x ∷ parts) zero (suc n) p q share h k differ = subst (λ (y : PickedInputs). ShareNone y q) (one_part x p h) (share.0 q (at_place parts n q k))
at_places (x ∷ parts) (suc m) zero p q share h k differ = share_back p q (subst (λ (y : PickedInputs). ShareNone y p) (one_part x q k) (share.0 p (at_place parts m p h)))
at_places (x ∷ parts) (suc m) (suc n) p q share h k differ = at_places parts m n p q share.1 h k (λ same. differ (ap suc same))

pub parts_stand_apart : (cmp : List ℕ → List ℕ → Ordering) → IsTotalOrder cmp → PartsStandApart cmp
parts_stand_apart cmp total v loaded tables level parts one other p q sound low are h k differ pointer =
    let lawful = sound_lawful cmp v loaded tables sound in (
      stands_apart cmp total v tables lawful low level parts are p (at_place parts one p h) pointer,
      at_places parts one other p q (share_no_file cmp total v tables lawful level parts are) h k differ,
    )

-- ---- one is installed

same_state : (a b : State) → Some a ≡ Some b → a ≡ b
same_state a b h = cc h

pub parts_stay : (cmp : List ℕ → List ℕ → Ordering) → IsTotalOrder cmp → IsExact cmp → (short_keys : ShortKeys) → ReadBackLaw cmp short_keys → PassedLaw cmp → ApartPartsStay cmp short_keys
parts_stay cmp total exact short_keys reads_back passes n v loaded tables level p q s answer sound low log previous high one other share answered = (step.edited, apart)
  where
    lawful : IsLawful cmp v tables
    lawful = sound_lawful cmp v loaded tables sound

    step : Stepped cmp n v loaded tables p s answer
    step =
        stepped cmp total exact short_keys reads_back passes n v loaded tables p s answer high (sound_checked cmp v loaded tables sound) lawful low
        (closed_safe cmp total v tables p lawful one.over) log previous (thread_at cmp short_keys v loaded p s n answer high answered)

    same : after step ≡ step.edited.edited.next
    same =
        let edit = one_edit answer.edit (own_edit step) step.edited.edited.edited.edit step.is_edit step.edited.edited.edited.read in
        same_state (after step) step.edited.edited.next (sym step.applies ∙ ap (applied v) edit ∙ step.edited.edited.edited.edited)

    apart : StandApart cmp step.edited.edited.next level q
    apart =
        still_apart cmp total v tables lawful level p q one other share step.edited.edited.next
        (λ f at. All-contains (IsOldOrOutput cmp v p) step.edited.edited.next.files f step.edited.within at)
        step.edited.edited.answers.tables_next (sound_lawful cmp step.edited.edited.next (next_version_tables cmp step.edited.edited.next answer.tables loaded) step.edited.edited.answers.tables_next step.edited.edited.answers.lawful)
        (λ f at none. subst (λ (w : State). Contains w.files f) same (stays_in step f at none))
