-- What a folder reads as doesn't rest on an obsolete file.
use Rattle.std.proofs.Common.{◌≡◌, ◌↔◌, ◌<◌, ◌^◌, ℕ, Bool, List, [], ◌∷◌, get_or, codes, Some, IsTrue, sym, subst, ◌∙◌, arith, lit<}
use Rattle.std.proofs.lemmas.Option.{same_Some}
use Rattle.std.specs.declared.cmp.Ordering.{Ordering}
use Rattle.edit.specs.Version.{State}
use Rattle.folder.specs.Calls.{Files}
use Rattle.folder.specs.Levels.{file_numbers}
use Rattle.folder.specs.Names.{current_text}
use Rattle.folder.specs.ReadsAs.{Current, IsOneOf, Manifest, OldTable, RestsOn, Table}
use Rattle.folder.proofs.NameLemmas.{texts_alike}
use Rattle.install.specs.ObsoleteFile.{IsObsoleteFile, IsOldNumber, IsUnneeded, name_of}
use Rattle.install.specs.declared.file_kind.FileKind.{FileKind}
use Rattle.install.specs.declared.file_kind.FileKind.TheVariants as kind
use Rattle.install.proofs.Names.{names_tell, no_current}

-- the numbers of a version's files and of its manifest have 64 bits
pub record HasSmallNumbers (cmp : List ℕ → List ℕ → Ordering) (v : State) (manifest : ℕ) : Type 0 where
  pub files : (n : ℕ) → IsOneOf (file_numbers cmp v) n → n < 2 ^ 64
  pub small : manifest < 2 ^ 64

module _ (cmp : List ℕ → List ℕ → Ordering) (v : State) (manifest : ℕ) where
  -- what an obsolete file of this name is
  pub as_kind : (k : FileKind) (n : ℕ) (gone : List ℕ) (o : IsObsoleteFile cmp v manifest gone) → n < 2 ^ 64 → name_of k n ≡ gone → IsUnneeded cmp v manifest k n
  as_kind k n gone o small is =
      let t : (k ≡ o.kind) × (n ≡ o.number) = names_tell k o.kind n o.number small o.small (is ∙ o.named) in
      subst (λ (m : ℕ). IsUnneeded cmp v manifest k m) (sym t.1) (subst (λ (j : FileKind). IsUnneeded cmp v manifest j o.number) (sym t.0) o.unneeded)

  -- a name of a kind and a number is obsolete exactly if that is not needed
  pub exact_of : (k : FileKind) (n : ℕ) (name : List ℕ) (b : Bool) → n < 2 ^ 64 → name ≡ name_of k n → IsTrue b ↔ IsUnneeded cmp v manifest k n → IsTrue b ↔ IsObsoleteFile cmp v manifest name
  exact_of k n name b small is h = (
    λ t. record { kind = k; number = n; small = small; named = is; unneeded = h.0 t },
    λ o. h.1 (as_kind k n name o small (sym is)),
  )

  -- a name of no kind is not
  pub no_kind : (name : List ℕ) → ((k : FileKind) (n : ℕ) → n < 2 ^ 64 → name ≡ name_of k n → ⊥) → IsObsoleteFile cmp v manifest name → ⊥
  no_kind name none' o = none' o.kind o.number o.small o.named

-- each kind is one of those in order
pub each_kind : (P : FileKind → Type 0) (kinds : List FileKind) → kinds ≡ kind.Table ∷ kind.OldTable ∷ kind.Manifest ∷ kind.Temporary ∷ [] → ((i : ℕ) → i < 4 → P (get_or kinds i kind.Table)) → (k : FileKind) → P k
each_kind P kinds is h k =
    let g : (i : ℕ) → i < 4 → P (get_or (kind.Table ∷ kind.OldTable ∷ kind.Manifest ∷ kind.Temporary ∷ []) i kind.Table) = λ i l. subst (λ (ks : List FileKind). P (get_or ks i kind.Table)) is (h i l) in
    elim k as P [ kind.Table ↦ g 0 (lit< tt) | kind.OldTable ↦ g 1 (lit< tt) | kind.Manifest ↦ g 2 (lit< tt) | kind.Temporary ↦ g 3 (lit< tt) ]

module _ (cmp : List ℕ → List ℕ → Ordering) (v : State) (manifest : ℕ) (has : HasSmallNumbers cmp v manifest) where
  is_named : (files : Files) (n : ℕ) → files (codes "CURRENT") ≡ Some (current_text manifest) → n < 2 ^ 64 → files (codes "CURRENT") ≡ Some (current_text n) → n ≡ manifest
  is_named files n named small is = texts_alike n manifest small has.small (same_Some _ _ (sym is ∙ named))

  below_itself : (n m : ℕ) → n ≡ m → n < m → ⊥
  below_itself n m e h = omega (arith, e)

  pub unused : (files : Files) (name gone : List ℕ) → files (codes "CURRENT") ≡ Some (current_text manifest) → IsObsoleteFile cmp v manifest gone → RestsOn cmp v files name → name ≡ gone → ⊥
  unused files name gone named o Current is = no_current o.kind o.number o.small (sym (is ∙ o.named))
  unused files name gone named o (Manifest n small at) is = below_itself n manifest (is_named files n named small at) (as_kind cmp v manifest kind.Manifest n gone o small is)
  unused files name gone named o (Table n m) is =
      let old : IsOldNumber cmp v n = as_kind cmp v manifest kind.Table n gone o (has.files n m) is in
      old.no_file m
  unused files name gone named o (OldTable n m none') is =
      let old : IsOldNumber cmp v n = as_kind cmp v manifest kind.OldTable n gone o (has.files n m) is in
      old.no_file m
