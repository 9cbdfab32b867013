-- The levels of an edit.
use Rattle.std.proofs.Common.{◌≡◌, ℕ, ◌+◌, ◌≤◌, Bool, true, false, eqb, ◌||◌, List, [], ◌∷◌, map, sym, subst, inl, inr, arith}
use Rattle.std.specs.Prelude.{◌⊎◌, nat_le}
use Rattle.std.specs.List.{All, fold, list_all}
use Rattle.std.specs.BTreeSet.{insert_key}
use Rattle.std.proofs.lemmas.Bool.{eqb-true, and_parts}
use Rattle.std.proofs.lemmas.Bool.Decides.{nat_tests}
use Rattle.std.proofs.lemmas.List.Elements.{All-nil, All-cons}
use Rattle.std.proofs.lemmas.Map.Views.{All-insert_key}
use Rattle.edit.specs.Edit.{Edit, HasValidLevels, deleted_cmp}
use Rattle.edit.specs.declared.meta.CompactPointer.{CompactPointer}
use Rattle.edit.specs.declared.meta.DeletedFile.{DeletedFile}
use Rattle.edit.specs.declared.meta.NewFile.{NewFile}
use Rattle.pick.specs.PickedInputs.{PickedInputs}
use Rattle.pick.specs.declared.picked_inputs.InputFile.{InputFile}
use Rattle.compact.specs.EditOf.{deletion_of, deletions_of}
use Rattle.compact.specs.Request.{has_levels}

either : (a b : Bool) → (a || b) ≡ true → (a ≡ true) ⊎ (b ≡ true)
either true b h = inl h
either false b h = inr h

low_told : (m n : ℕ) → nat_le m n ≡ true → m ≤ n
low_told m n h = grind (arith, nat_tests)

-- the deletions of files of two levels up to 6
low_deletions : (level : ℕ) → level ≤ 5 → (done : List DeletedFile) (files : List InputFile) → All (λ (d : DeletedFile). d.level ≤ 6) done → list_all (λ (i : InputFile). eqb i.level level || eqb i.level (level + 1)) files ≡ true
    → All (λ (d : DeletedFile). d.level ≤ 6) (fold (insert_key deleted_cmp) done (map deletion_of files))
low_deletions level low done [] all h = all
low_deletions level low done (i ∷ files) all h =
    let parts = and_parts (eqb i.level level || eqb i.level (level + 1)) (list_all (λ (x : InputFile). eqb x.level level || eqb x.level (level + 1)) files) h in
    let own : i.level ≤ 6 = elim (either (eqb i.level level) (eqb i.level (level + 1)) parts.0) [
      | inl e ↦ (let is = eqb-true i.level level e in omega (arith, low, is))
      | inr e ↦ (let is = eqb-true i.level (level + 1) e in omega (arith, low, is))
    ] in
    low_deletions level low (insert_key deleted_cmp done (deletion_of i)) files (All-insert_key deleted_cmp (deletion_of i) (λ (d : DeletedFile). d.level ≤ 6) done all own) parts.1

pub levels_of : (p : PickedInputs) (e : Edit) → has_levels p ≡ true → e.pointers ≡ record { level = p.level; key = p.pointer.key } ∷ [] → e.deleted ≡ deletions_of p.files → All (λ (f : NewFile). f.level ≤ 6) e.added → HasValidLevels e
levels_of p e h pointers deleted added =
    let parts = and_parts (nat_le p.level 5) (list_all (λ (i : InputFile). eqb i.level p.level || eqb i.level (p.level + 1)) p.files) h in
    let low = low_told p.level 5 parts.0 in
    let pointer : CompactPointer = record { level = p.level; key = p.pointer.key } in
    record {
      pointers = subst (λ (l : List CompactPointer). All (λ (x : CompactPointer). x.level ≤ 6) l) (sym pointers)
          (All-cons (λ (x : CompactPointer). x.level ≤ 6) pointer [] (omega (arith, low)) (All-nil (λ (x : CompactPointer). x.level ≤ 6)));
      deleted = subst (λ (l : List DeletedFile). All (λ (d : DeletedFile). d.level ≤ 6) l) (sym deleted) (low_deletions p.level low [] p.files (All-nil (λ (d : DeletedFile). d.level ≤ 6)) parts.1);
      added = added;
    }
