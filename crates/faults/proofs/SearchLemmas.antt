-- Files by falling number.
use Rattle.std.proofs.Common.{◌≡◌, true, List, [], sym, ap, ◌∙◌}
use Rattle.std.specs.BTreeSet.{insert_key}
use Rattle.std.specs.List.{IsDistinct, fold}
use Rattle.std.specs.List.Sorted.{IsPermutation, IsSortedBy}
use Rattle.std.specs.Cmp.{IsTotalOrder}
use Rattle.std.specs.Ordering.{is_eq, is_lt}
use Rattle.std.specs.declared.cmp.Ordering.TheVariants.{Equal}
use Rattle.std.proofs.lemmas.Cmp.{back_total, nat_cmp_total, on_total}
use Rattle.folder.specs.meta.FileMeta.{FileMeta}
use Rattle.folder.proofs.Inserted.{sorted_is}
use Rattle.folder.proofs.SortedFiles.{same_number}
use Rattle.folder.proofs.Tested.{eqb-sym, is_eq-nat_cmp}
use Rattle.reads.specs.FileList.{newer_number}

pub falling_total : IsTotalOrder newer_number
falling_total = back_total (on_total (λ (f : FileMeta). f.number) nat_cmp_total)

pub tie_same : (f g : FileMeta) → newer_number f g ≡ Equal → same_number f g ≡ true
tie_same f g e = eqb-sym f.number g.number ∙ sym (is_eq-nat_cmp g.number f.number) ∙ ap is_eq e

pub flips : (f g : FileMeta) → same_number f g ≡ same_number g f
flips f g = eqb-sym f.number g.number

-- files that are sorted are the files put in one by one at their places
pub falling_is : (files sorted : List FileMeta) → IsPermutation files sorted → IsSortedBy (λ (x y : FileMeta). is_lt (newer_number x y)) sorted → IsDistinct same_number files → fold (insert_key newer_number) [] files ≡ sorted
falling_is files sorted p up apart = sorted_is newer_number falling_total same_number flips tie_same files sorted p up apart
