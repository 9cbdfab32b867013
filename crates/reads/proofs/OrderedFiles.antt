-- What is asked of each two files.
use Rattle.std.proofs.Common.{◌≡◌, ℕ, ◌<◌, Bool, true, false, cond, ◌&&◌, List, refl, sym, subst, arith}
use Rattle.std.specs.Prelude.{◌⊎◌, nat_lt, nat_eq}
use Rattle.std.specs.Ordering.{is_lt}
use Rattle.std.specs.declared.cmp.Ordering.{Ordering}
use Rattle.std.specs.declared.cmp.Ordering.TheVariants.{Less, Equal, Greater}
use Rattle.std.proofs.lemmas.Bool.Decides.{Decides-ltb, Decides-eqb, Decides-and, Decides-or}
use Rattle.ikey.specs.Order.{internal_cmp}
use Rattle.edit.specs.declared.meta.NewFile.{NewFile}
use Rattle.reads.specs.FileChecks.{stands_before}

lt_decides : (o : Ordering) → (is_lt o ≡ true → o ≡ Less) × (o ≡ Less → is_lt o ≡ true)
lt_decides Less = (λ e. refl, λ e. refl)
lt_decides Equal = (λ e. absurd cc, λ e. absurd cc)
lt_decides Greater = (λ e. absurd cc, λ e. absurd cc)

-- ---- which of two files stands before the other

abbrev pub BeforeAt : (List ℕ → List ℕ → Ordering) → Bool → NewFile → NewFile → Type 0
BeforeAt cmp true f g = g.meta.number < f.meta.number
BeforeAt cmp false f g = internal_cmp cmp f.meta.largest g.meta.smallest ≡ Less

abbrev pub Before : (List ℕ → List ℕ → Ordering) → NewFile → NewFile → Type 0
Before cmp f g = (f.level < g.level) ⊎ ((f.level ≡ g.level) × BeforeAt cmp (nat_eq f.level 0) f g)

at_decides : (cmp : List ℕ → List ℕ → Ordering) (f g : NewFile) (b : Bool)
    → (cond b (nat_lt g.meta.number f.meta.number) (is_lt (internal_cmp cmp f.meta.largest g.meta.smallest)) ≡ true → BeforeAt cmp b f g)
    × (BeforeAt cmp b f g → cond b (nat_lt g.meta.number f.meta.number) (is_lt (internal_cmp cmp f.meta.largest g.meta.smallest)) ≡ true)
at_decides cmp f g true = Decides-ltb g.meta.number f.meta.number
at_decides cmp f g false = lt_decides (internal_cmp cmp f.meta.largest g.meta.smallest)

pub before_decides : (cmp : List ℕ → List ℕ → Ordering) (f g : NewFile) → (stands_before cmp f g ≡ true → Before cmp f g) × (Before cmp f g → stands_before cmp f g ≡ true)
before_decides cmp f g =
    let at = cond (nat_eq f.level 0) (nat_lt g.meta.number f.meta.number) (is_lt (internal_cmp cmp f.meta.largest g.meta.smallest)) in
    Decides-or (nat_lt f.level g.level) (nat_eq f.level g.level && at) (Decides-ltb f.level g.level) (Decides-and (nat_eq f.level g.level) at (Decides-eqb f.level g.level) (at_decides cmp f g (nat_eq f.level 0)))

at_by : (cmp : List ℕ → List ℕ → Ordering) (f g : NewFile) (b : Bool) → nat_eq f.level 0 ≡ b → BeforeAt cmp b f g → BeforeAt cmp (nat_eq f.level 0) f g
at_by cmp f g b e h = subst (λ (x : Bool). BeforeAt cmp x f g) (sym e) h

at_of : (cmp : List ℕ → List ℕ → Ordering) (f g : NewFile) (b : Bool) → nat_eq f.level 0 ≡ b → BeforeAt cmp (nat_eq f.level 0) f g → BeforeAt cmp b f g
at_of cmp f g b e h = subst (λ (x : Bool). BeforeAt cmp x f g) e h

not_zero : (n : ℕ) → 0 < n → nat_eq n 0 ≡ false
not_zero n lt = by_test (nat_eq n 0) refl
  where
    by_test : (b : Bool) → nat_eq n 0 ≡ b → nat_eq n 0 ≡ false
    by_test true e = let zero : n ≡ 0 = (Decides-eqb n 0).0 e in absurd (omega arith)
    by_test false e = e

-- at level 0 numbers decide, and at the others ranges
pub at_top : (cmp : List ℕ → List ℕ → Ordering) (f g : NewFile) → f.level ≡ 0 → BeforeAt cmp (nat_eq f.level 0) f g → g.meta.number < f.meta.number
at_top cmp f g zero h = at_of cmp f g true ((Decides-eqb f.level 0).1 zero) h

pub top_at : (cmp : List ℕ → List ℕ → Ordering) (f g : NewFile) → f.level ≡ 0 → g.meta.number < f.meta.number → BeforeAt cmp (nat_eq f.level 0) f g
top_at cmp f g zero h = at_by cmp f g true ((Decides-eqb f.level 0).1 zero) h

pub at_depth : (cmp : List ℕ → List ℕ → Ordering) (f g : NewFile) → 0 < f.level → BeforeAt cmp (nat_eq f.level 0) f g → internal_cmp cmp f.meta.largest g.meta.smallest ≡ Less
at_depth cmp f g deep h = at_of cmp f g false (not_zero f.level deep) h

pub depth_at : (cmp : List ℕ → List ℕ → Ordering) (f g : NewFile) → 0 < f.level → internal_cmp cmp f.meta.largest g.meta.smallest ≡ Less → BeforeAt cmp (nat_eq f.level 0) f g
depth_at cmp f g deep h = at_by cmp f g false (not_zero f.level deep) h
