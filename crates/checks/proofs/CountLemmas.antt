-- Tables that are tested and counted, one file after the other.
use Rattle.std.proofs.Common.{◌≡◌, ℕ, ◌+◌, ◌<◌, zero, suc, Bool, true, false, List, [], ◌∷◌, ◌++◌, length, take, drop, get_or, Option, sym, ap, ap₂, subst, ◌∙◌, arith, drop-cons, if◌then◌else◌}
use Rattle.std.specs.List.{AllZip}
use Rattle.std.specs.declared.cmp.Ordering.{Ordering}
use Rattle.std.proofs.lemmas.List.{take_more}
use Rattle.table.specs.TableContents.{Contents}
use Rattle.split.specs.Ranges.{KeyRange}
use Rattle.folder.specs.meta.FileMeta.{FileMeta}
use Rattle.checks.specs.FileStarts.{starts_in}
use Rattle.checks.specs.GroupTest.{AreStatedBy, IsStatedBy, count_of, counts_of}

pub zip_push : {A B : Type 0} (R : A → B → Type 0) (xs : List A) (ys : List B) (x : A) (y : B) → AllZip R xs ys → R x y → AllZip R (xs ++ x ∷ []) (ys ++ y ∷ [])
zip_push R [] [] x y h one = (one, tt)
zip_push R [] (b ∷ ys) x y h one = absurd h
zip_push R (a ∷ xs) [] x y h one = absurd h
zip_push R (a ∷ xs) (b ∷ ys) x y h one = (h.0, zip_push R xs ys x y h.1 one)

zip_at : {A B : Type 0} (R : A → B → Type 0) (xs : List A) (ys : List B) (k : ℕ) (x : A) (y : B) → AllZip R xs ys → k < length xs → R (get_or xs k x) (get_or ys k y)
zip_at R [] [] k x y h lt = absurd (omega arith)
zip_at R [] (b ∷ ys) k x y h lt = absurd h
zip_at R (a ∷ xs) [] k x y h lt = absurd h
zip_at R (a ∷ xs) (b ∷ ys) zero x y h lt = h.0
zip_at R (a ∷ xs) (b ∷ ys) (suc k) x y h lt = zip_at R xs ys k x y h.1 (omega arith)

module _ (cmp : List ℕ → List ℕ → Ordering) (next : Option ℕ) (range : KeyRange) (metas : List FileMeta) (xs : List Contents) (same : length xs ≡ length metas) where
  pub stated_more : (k : ℕ) (f : FileMeta) (x : Contents) → k < length metas → f ≡ get_or metas k f → x ≡ get_or xs k x → AreStatedBy cmp next (take k metas) (take k xs) → IsStatedBy cmp next f x
      → AreStatedBy cmp next (take (k + 1) metas) (take (k + 1) xs)
  stated_more k f x lt is at so_far one =
      let front : take (k + 1) metas ≡ take k metas ++ f ∷ [] = take_more metas k f lt ∙ ap (λ (g : FileMeta). take k metas ++ g ∷ []) (sym is) in
      let front_too : take (k + 1) xs ≡ take k xs ++ x ∷ [] = take_more xs k x (omega (arith, same)) ∙ ap (λ (y : Contents). take k xs ++ y ∷ []) (sym at) in
      rw (front, front_too) (zip_push (IsStatedBy cmp next) (take k metas) (take k xs) f x so_far one)

  pub count_more : (k count n total : ℕ) (f : FileMeta) (x : Contents) → k < length metas → f ≡ get_or metas k f → x ≡ get_or xs k x → count + counts_of cmp range (drop k metas) (drop k xs) ≡ total → n ≡ count_of cmp range f x
      → (count + n) + counts_of cmp range (drop (k + 1) metas) (drop (k + 1) xs) ≡ total
  count_more k count n total f x lt is at so_far own =
      let next : k + 1 ≡ suc k = omega arith in
      let here : drop k metas ≡ f ∷ drop (suc k) metas = drop-cons metas k f lt ∙ ap (λ (g : FileMeta). g ∷ drop (suc k) metas) (sym is) in
      let here_too : drop k xs ≡ x ∷ drop (suc k) xs = drop-cons xs k x (omega (arith, same)) ∙ ap (λ (y : Contents). y ∷ drop (suc k) xs) (sym at) in
      let parts : counts_of cmp range (drop k metas) (drop k xs) ≡ count_of cmp range f x + counts_of cmp range (drop (suc k) metas) (drop (suc k) xs) = ap₂ (counts_of cmp range) here here_too in
      subst (λ (m : ℕ). (count + n) + counts_of cmp range (drop m metas) (drop m xs) ≡ total) (sym next)
      (regroup count n (counts_of cmp range (drop k metas) (drop k xs)) (count_of cmp range f x) (counts_of cmp range (drop (suc k) metas) (drop (suc k) xs)) total parts own so_far)
    where
      regroup : (count n all one rest total : ℕ) → all ≡ one + rest → n ≡ one → count + all ≡ total → (count + n) + rest ≡ total
      regroup count n all one rest total h own so_far = omega (arith, h, own, so_far)

  pub not_stated : (k : ℕ) (f : FileMeta) (x : Contents) → k < length metas → f ≡ get_or metas k f → x ≡ get_or xs k x → (IsStatedBy cmp next f x → ⊥) → AreStatedBy cmp next metas xs → ⊥
  not_stated k f x lt is at isnt all =
      isnt (subst (λ (g : FileMeta). IsStatedBy cmp next g x) (sym is) (subst (λ (y : Contents). IsStatedBy cmp next (get_or metas k f) y) (sym at) (zip_at (IsStatedBy cmp next) metas xs k f x all lt)))

-- what one file's table counts for a range
pub count_none : (cmp : List ℕ → List ℕ → Ordering) (range : KeyRange) (f : FileMeta) (x : Contents) → starts_in cmp range f ≡ false → 0 ≡ count_of cmp range f x
count_none cmp range f x isnt = sym (ap (λ (b : Bool). if b then length x.entries else 0) isnt)

pub count_some : (cmp : List ℕ → List ℕ → Ordering) (range : KeyRange) (f : FileMeta) (x : Contents) (n : ℕ) → starts_in cmp range f ≡ true → n ≡ length x.entries → n ≡ count_of cmp range f x
count_some cmp range f x n holds_here is = is ∙ sym (ap (λ (b : Bool). if b then length x.entries else 0) holds_here)
