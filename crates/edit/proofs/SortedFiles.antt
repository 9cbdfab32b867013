-- Files that are sorted are the files that are put in one by one at their places.
use Rattle.std.proofs.Common.{Bor, Result, Ok, ◌≡◌, ℕ, zero, suc, ◌+◌, Bool, true, false, not, eqb, List, [], ◌∷◌, length, map, get_or, refl, sym, ap, ◌∙◌, ◌<◌, arith}
use Rattle.std.specs.List.{filter, AllByRecursion, IsDistinct}
use Rattle.std.specs.List.Sorted.{IsSortedBy, IsPermutation}
use Rattle.std.specs.Cmp.{IsTotalOrder}
use Rattle.std.specs.Ordering.{nat_cmp, is_lt, is_eq, ordering_then}
use Rattle.std.specs.declared.cmp.Ordering.{Ordering}
use Rattle.std.specs.declared.cmp.Ordering.TheVariants.{Less, Equal, Greater}
use Rattle.std.proofs.lemmas.Cmp.{nat_cmp_total, on_total, then_total}
use Rattle.coding.specs.declared.fault.Fault.{Fault}
use Rattle.ikey.specs.Order.{internal_cmp}
use Rattle.ikey.proofs.Ordered.{internal_cmp-total}
use Rattle.edit.specs.Version.{has_number, are_apart}
use Rattle.edit.specs.VersionOrder.{file_cmp, in_version_order, files_at}
use Rattle.edit.specs.declared.meta.FileMeta.{FileMeta}
use Rattle.edit.specs.declared.meta.NewFile.{NewFile}
pub use Rattle.edit.proofs.Inserted.{IsIn, from_all, sorted_all}
use Rattle.edit.proofs.Inserted.{all_permute, sorted_is}
use Rattle.edit.proofs.Tested.{both_true, both_false, not_is_true, eqb-sym, is_eq-nat_cmp}
use Rattle.edit.proofs.Kept.{apart_filter}

pub version_cmp-total : {cmp : List ℕ → List ℕ → Ordering} → IsTotalOrder cmp → IsTotalOrder (file_cmp cmp)
version_cmp-total total = then_total (on_total (λ (f : FileMeta). f.smallest) (internal_cmp-total total)) (on_total (λ (f : FileMeta). f.number) nat_cmp_total)

-- two files that tie have one number
abbrev pub same_number : FileMeta → FileMeta → Bool
same_number f g = eqb f.number g.number

then_equal : (o p : Ordering) → ordering_then o p ≡ Equal → p ≡ Equal
then_equal Less p e = absurd cc
then_equal Equal p e = e
then_equal Greater p e = absurd cc

tie_same : (cmp : List ℕ → List ℕ → Ordering) (f g : FileMeta) → file_cmp cmp f g ≡ Equal → same_number f g ≡ true
tie_same cmp f g e = sym (is_eq-nat_cmp f.number g.number) ∙ ap is_eq (then_equal (internal_cmp cmp f.smallest g.smallest) (nat_cmp f.number g.number) e)

-- ---- the files of a version

others : (f : FileMeta) (files : List NewFile) → has_number files f.number ≡ false → AllByRecursion (λ g. same_number f g ≡ false) (map (λ (g : NewFile). g.meta) files)
others f [] h = tt
others f (g ∷ files) h = let b = both_false (eqb f.number g.meta.number) (has_number files f.number) h in (b.0, others f files b.1)

distinct_from : (files : List NewFile) → are_apart files ≡ true → IsDistinct same_number (map (λ (f : NewFile). f.meta) files)
unfolding IsDistinct
distinct_from [] h = tt
distinct_from (f ∷ files) h =
    let a = both_true (not (has_number files f.meta.number)) (are_apart files) h in
    (others f.meta files (not_is_true (has_number files f.meta.number) a.0), distinct_from files a.1)

pub distinct_at : (files : List NewFile) (level : ℕ) → are_apart files ≡ true → IsDistinct same_number (files_at files level)
distinct_at files level h = distinct_from (filter (λ (f : NewFile). eqb f.level level) files) (apart_filter (λ (f : NewFile). eqb f.level level) files h)

flips : (f g : FileMeta) → same_number f g ≡ same_number g f
flips f g = eqb-sym f.number g.number

pub order_is : {cmp : List ℕ → List ℕ → Ordering} (total : IsTotalOrder cmp) (files : List NewFile) (level : ℕ) (sorted : List FileMeta) → are_apart files ≡ true → IsPermutation (files_at files level) sorted
    → IsSortedBy (λ (x y : FileMeta). is_lt (file_cmp cmp x y)) sorted → in_version_order cmp (files_at files level) ≡ sorted
order_is {cmp} total files level sorted apart p up =
    sorted_is (file_cmp cmp) (version_cmp-total total) same_number flips (tie_same cmp) (files_at files level) sorted p up (distinct_at files level apart)

-- version order moves files, and loses none
pub order_permutes : {cmp : List ℕ → List ℕ → Ordering} (total : IsTotalOrder cmp) (files : List NewFile) (level : ℕ) → are_apart files ≡ true → IsPermutation (files_at files level) (in_version_order cmp (files_at files level))
order_permutes {cmp} total files level apart = all_permute (file_cmp cmp) (version_cmp-total total) same_number flips (tie_same cmp) [] (files_at files level) (distinct_at files level apart)

-- ---- files that are lent

abbrev pub lent : List (Bor FileMeta) → List FileMeta
lent files = map (λ (f : Bor FileMeta). f.now) files

lent_at : (files : List (Bor FileMeta)) (k : ℕ) (d : FileMeta) (e : Bor FileMeta) → k < length files → get_or (lent files) k d ≡ (get_or files k e).now
lent_at [] k d e lt = absurd (omega arith)
lent_at (f ∷ files) zero d e lt = refl
lent_at (f ∷ files) (suc k) d e lt = lent_at files k d e (omega arith)

length-lent : (files : List (Bor FileMeta)) → length (lent files) ≡ length files
length-lent [] = refl
length-lent (f ∷ files) = omega (arith, length-lent files)

pub lent_sorted : (R : FileMeta → FileMeta → Ordering) (files : List (Bor FileMeta)) → IsSortedBy (λ (x y : Bor FileMeta). is_lt (R x.now y.now)) files → IsSortedBy (λ (x y : FileMeta). is_lt (R x y)) (lent files)
lent_sorted R [] h k d le below = absurd (omega arith)
lent_sorted R (f ∷ files) h k d le below =
    let len = length-lent (f ∷ files) in
    let next = lent_at (f ∷ files) (k + 1) d f (omega arith) in
    let this = lent_at (f ∷ files) k d f (omega arith) in
    ap (λ (x : FileMeta). is_lt (R x (get_or (lent (f ∷ files)) k d))) next
    ∙ ap (λ (y : FileMeta). is_lt (R (get_or (f ∷ files) (k + 1) f).now y)) this
    ∙ h k f le (omega arith)

abbrev metas : List FileMeta → Result (List FileMeta) Fault
metas files = Ok files

pub metas_are : (a b : List FileMeta) → metas a ≡ metas b → a ≡ b
metas_are a b e = cc
