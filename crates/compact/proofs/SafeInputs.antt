-- What a compaction needs of its inputs, so that reads survive it.
use Rattle.std.proofs.Common.{◌≡◌, ℕ, ◌+◌, ◌≤◌, false, List, inl, inr, refl, arith}
use Rattle.std.specs.Prelude.{◌⊎◌, Contains}
use Rattle.std.specs.List.{All}
use Rattle.std.specs.Cmp.{IsTotalOrder}
use Rattle.std.specs.declared.cmp.Ordering.{Ordering}
use Rattle.std.specs.declared.cmp.Ordering.TheVariants.{Less}
use Rattle.ikey.specs.Key.{IsInternalKey}
use Rattle.ikey.specs.Order.{internal_cmp}
use Rattle.edit.specs.Version.{State}
use Rattle.edit.specs.declared.meta.NewFile.{NewFile}
use Rattle.pick.specs.PickedInputs.{PickedInputs, IsPicked}
use Rattle.pick.specs.declared.picked_inputs.InputFile.{InputFile}
use Rattle.reads.specs.Tables.{NumberedContents}
use Rattle.reads.specs.Lawful.{IsLawful}
use Rattle.compact.specs.ClosedInputs.{AreClosed, ClosedInputs, is_input}
use Rattle.compact.specs.InputsOver.{AreInputsOver, InputsOverClosed, as_file}
use Rattle.compact.proofs.ClosedChoices.{are_closed, lies_beside}
use Rattle.compact.proofs.PickedChoice.{picked_over}
use Rattle.compact.proofs.VersionInputs.{AreOfVersion}

-- Each input is a file of the version, at the level or at the next one. They are closed. A file of the next level that stays lies wholly before them, or wholly after them. And the compact pointer is an internal key.
pub record AreSafe (cmp : List ℕ → List ℕ → Ordering) (v : State) (tables : List NumberedContents) (p : PickedInputs) : Type 0 where
  pub placed : AreOfVersion v p
  pub levels : (i : InputFile) → Contains p.files i → i.level ≤ p.level + 1
  pub closed : AreClosed cmp v tables p
  pub beside : (f : NewFile) → Contains v.files f → is_input p f.meta.number ≡ false → f.level ≡ p.level + 1
      → All (λ (i : InputFile). internal_cmp cmp f.meta.largest i.meta.smallest ≡ Less) p.files ⊎ All (λ (i : InputFile). internal_cmp cmp i.meta.largest f.meta.smallest ≡ Less) p.files
  pub pointer : IsInternalKey p.pointer.key

module _ (cmp : List ℕ → List ℕ → Ordering) (total : IsTotalOrder cmp) where
  pub closed_safe : (v : State) (tables : List NumberedContents) (p : PickedInputs) → IsLawful cmp v tables → AreInputsOver cmp v p → AreSafe cmp v tables p
  closed_safe v tables p lawful over = record {
    placed = λ i at. record { file = as_file i; there = over.files i at; stands = refl; is = refl };
    levels = λ i at. elim (over.levels i at) [ inl own ↦ omega (arith, own) | inr own ↦ omega (arith, own) ];
    closed = are_closed cmp total v tables lawful p over;
    beside = λ f at out own. lies_beside cmp total v tables lawful p over f at out own;
    pointer = over.pointer;
  }

  pub picked_safe : (v : State) (tables : List NumberedContents) (level : ℕ) (p : PickedInputs) → IsLawful cmp v tables → All (λ (f : NewFile). f.level ≤ 6) v.files → IsPicked cmp v level p → AreSafe cmp v tables p
  picked_safe v tables level p lawful low picked = closed_safe v tables p lawful (picked_over cmp total v tables level p lawful low picked)

  -- so are picked ones, which are such
  pub closed_inputs : ClosedInputs cmp
  closed_inputs v tables level p lawful low picked = (picked_safe v tables level p lawful low picked).closed

  pub inputs_over_closed : InputsOverClosed cmp
  inputs_over_closed v tables p lawful over = are_closed cmp total v tables lawful p over
