-- Which files a version has after new ones were put in.
use Rattle.std.proofs.Common.{◌≡◌, ◌⊎◌, List, [], ◌∷◌, sym, subst, inl, inr}
use Rattle.std.specs.Prelude.{Contains}
use Rattle.std.specs.List.{fold}
use Rattle.std.specs.Ordering.{match_ordering}
use Rattle.std.specs.declared.cmp.Ordering.{Ordering}
use Rattle.std.specs.declared.cmp.Ordering.TheVariants.{Equal, Greater, Less}
use Rattle.edit.specs.Version.{number_cmp, with_file}
use Rattle.edit.specs.declared.meta.NewFile.{NewFile}
use Rattle.keep.proofs.Members.{first_in, first_or_later, later_in}

from_by : (o : Ordering) (k x : NewFile) (xs rest : List NewFile) (q : NewFile) → (Contains rest q → (q ≡ k) ⊎ Contains xs q) → Contains (match_ordering o (k ∷ x ∷ xs) (x ∷ xs) (x ∷ rest)) q → (q ≡ k) ⊎ Contains (x ∷ xs) q
from_by Less k x xs rest q h at = first_or_later k (x ∷ xs) q at
from_by Equal k x xs rest q h at = inr at
from_by Greater k x xs rest q h at = elim (first_or_later x rest q at) [
  | inl same ↦ inr (subst (λ (y : NewFile). Contains (x ∷ xs) y) (sym same) (first_in x xs))
  | inr later ↦ elim (h later) [ inl own ↦ inl own | inr other ↦ inr (later_in x xs q other) ]
]

file_from : (files : List NewFile) (k q : NewFile) → Contains (with_file files k) q → (q ≡ k) ⊎ Contains files q
file_from [] k q at = first_or_later k [] q at
file_from (x ∷ xs) k q at = from_by (number_cmp k x) k x xs (with_file xs k) q (file_from xs k q) at

pub files_from : (done added : List NewFile) (q : NewFile) → Contains (fold with_file done added) q → Contains done q ⊎ Contains added q
files_from done [] q at = inl at
files_from done (k ∷ added) q at = elim (files_from (with_file done k) added q at) [
  | inl i ↦ elim (file_from done k q i) [ inl own ↦ inr (subst (λ (y : NewFile). Contains (k ∷ added) y) (sym own) (first_in k added)) | inr old ↦ inl old ]
  | inr i ↦ inr (later_in k added q i)
]
