-- Amounts together, and numbers that fit.
use Rattle.std.proofs.Common.{◌≡◌, ◌≤◌, ◌+◌, ◌-◌, ◌^◌, ℕ, min, List, [], ◌∷◌, map, refl, sym, ap, subst, ◌∙◌, arith}
use Rattle.std.specs.Prelude.{fold}
use Rattle.scan.specs.Counts.{capped_plus, IsWithin}
use Rattle.scan.specs.Stats.{amounts_plus, amounts_sum, no_amounts, told_amounts}
use Rattle.scan.specs.declared.amounts.Amounts.{Amounts}

abbrev make : ℕ → ℕ → ℕ → ℕ → ℕ → Amounts
make f b e d h = record { files = f; bytes = b; entries = e; deletions = d; hidden = h }

-- amounts with the same numbers are the same
pub same_amounts : (a b : Amounts) → a.files ≡ b.files → a.bytes ≡ b.bytes → a.entries ≡ b.entries → a.deletions ≡ b.deletions → a.hidden ≡ b.hidden → a ≡ b
same_amounts a b files bytes entries deletions hidden =
    ap (λ (n : ℕ). make n a.bytes a.entries a.deletions a.hidden) files
    ∙ ap (λ (n : ℕ). make b.files n a.entries a.deletions a.hidden) bytes
    ∙ ap (λ (n : ℕ). make b.files b.bytes n a.deletions a.hidden) entries
    ∙ ap (λ (n : ℕ). make b.files b.bytes b.entries n a.hidden) deletions
    ∙ ap (λ (n : ℕ). make b.files b.bytes b.entries b.deletions n) hidden

none_more : (n : ℕ) → n + 0 ≡ n
none_more n = omega arith

none_before : (n : ℕ) → 0 + n ≡ n
none_before n = omega arith

three : (n m k : ℕ) → (n + m) + k ≡ n + (m + k)
three n m k = omega arith

pub plus_none : (a : Amounts) → amounts_plus a no_amounts ≡ a
plus_none a = same_amounts (amounts_plus a no_amounts) a (none_more a.files) (none_more a.bytes) (none_more a.entries) (none_more a.deletions) (none_more a.hidden)

pub none_plus : (a : Amounts) → amounts_plus no_amounts a ≡ a
none_plus a = same_amounts (amounts_plus no_amounts a) a (none_before a.files) (none_before a.bytes) (none_before a.entries) (none_before a.deletions) (none_before a.hidden)

pub plus_assoc : (a b c : Amounts) → amounts_plus (amounts_plus a b) c ≡ amounts_plus a (amounts_plus b c)
plus_assoc a b c = same_amounts (amounts_plus (amounts_plus a b) c) (amounts_plus a (amounts_plus b c)) (three a.files b.files c.files) (three a.bytes b.bytes c.bytes) (three a.entries b.entries c.entries) (three a.deletions b.deletions c.deletions)
    (three a.hidden b.hidden c.hidden)

-- ---- numbers that fit

pub fits : (n most : ℕ) → n ≤ most → min n most ≡ n
fits n most le = omega arith

front_fits : (n m most : ℕ) → n + m ≤ most → n ≤ most
front_fits n m most le = omega arith

pub plus_fits : (a b : Amounts) → IsWithin (amounts_plus a b) → capped_plus a b ≡ amounts_plus a b
plus_fits a b within = same_amounts (capped_plus a b) (amounts_plus a b) (fits (a.files + b.files) _ within.files) (fits (a.bytes + b.bytes) _ within.bytes) (fits (a.entries + b.entries) _ within.entries)
    (fits (a.deletions + b.deletions) _ within.deletions) (fits (a.hidden + b.hidden) _ within.hidden)

pub front_within : (a b : Amounts) → IsWithin (amounts_plus a b) → IsWithin a
front_within a b within = record {
  files = front_fits a.files b.files _ within.files;
  bytes = front_fits a.bytes b.bytes _ within.bytes;
  entries = front_fits a.entries b.entries _ within.entries;
  deletions = front_fits a.deletions b.deletions _ within.deletions;
  hidden = front_fits a.hidden b.hidden _ within.hidden;
}

-- each number fits but that of the bytes
pub record IsSmall (a : Amounts) : Type 0 where
  pub files : a.files ≤ 2 ^ 64 - 1
  pub entries : a.entries ≤ 2 ^ 128 - 1
  pub deletions : a.deletions ≤ 2 ^ 128 - 1
  pub hidden : a.hidden ≤ 2 ^ 128 - 1

front_small : (a b : Amounts) → IsSmall (amounts_plus a b) → IsSmall a
front_small a b small = record {
  files = front_fits a.files b.files _ small.files;
  entries = front_fits a.entries b.entries _ small.entries;
  deletions = front_fits a.deletions b.deletions _ small.deletions;
  hidden = front_fits a.hidden b.hidden _ small.hidden;
}

both_told : (n m most : ℕ) → min (min n most + min m most) most ≡ min (n + m) most
both_told n m most = omega arith

told_plus : (a b : Amounts) → IsSmall (amounts_plus a b) → capped_plus (told_amounts a) (told_amounts b) ≡ told_amounts (amounts_plus a b)
told_plus a b small = same_amounts (capped_plus (told_amounts a) (told_amounts b)) (told_amounts (amounts_plus a b)) (fits (a.files + b.files) _ small.files) (both_told a.bytes b.bytes (2 ^ 64 - 1)) (fits (a.entries + b.entries) _ small.entries)
    (fits (a.deletions + b.deletions) _ small.deletions) (fits (a.hidden + b.hidden) _ small.hidden)

sum_from : (a : Amounts) (all : List Amounts) → IsSmall (amounts_plus a (amounts_sum all)) → fold capped_plus (told_amounts a) (map told_amounts all) ≡ told_amounts (amounts_plus a (amounts_sum all))
sum_from a [] small = ap told_amounts (sym (plus_none a))
sum_from a (b ∷ all) small =
    let fit : IsSmall (amounts_plus (amounts_plus a b) (amounts_sum all)) = subst IsSmall (sym (plus_assoc a b (amounts_sum all))) small in
    ap (λ (x : Amounts). fold capped_plus x (map told_amounts all)) (told_plus a b (front_small (amounts_plus a b) (amounts_sum all) fit))
    ∙ sum_from (amounts_plus a b) all fit
    ∙ ap told_amounts (plus_assoc a b (amounts_sum all))

none_told : no_amounts ≡ told_amounts no_amounts
none_told = same_amounts no_amounts (told_amounts no_amounts) refl (omega arith) refl refl refl

-- the sum of what is told of all is what is told of the sum
pub sum_told : (all : List Amounts) → IsSmall (amounts_sum all) → fold capped_plus no_amounts (map told_amounts all) ≡ told_amounts (amounts_sum all)
sum_told all small =
    ap (λ (x : Amounts). fold capped_plus x (map told_amounts all)) none_told
    ∙ sum_from no_amounts all (subst IsSmall (sym (none_plus (amounts_sum all))) small)
    ∙ ap told_amounts (none_plus (amounts_sum all))

-- ---- at most n files and e entries

-- no more than n files and e entries
pub record IsOfFew (n e : ℕ) (a : Amounts) : Type 0 where
  pub files : a.files ≤ n
  pub entries : a.entries ≤ e
  pub deletions : a.deletions ≤ e
  pub hidden : a.hidden ≤ e

pub plus_few : (n m e f : ℕ) (a b : Amounts) → IsOfFew n e a → IsOfFew m f b → IsOfFew (n + m) (e + f) (amounts_plus a b)
plus_few n m e f a b one two = record {
  files = omega (arith, one.files, two.files);
  entries = omega (arith, one.entries, two.entries);
  deletions = omega (arith, one.deletions, two.deletions);
  hidden = omega (arith, one.hidden, two.hidden);
}

pub few_small : (n e : ℕ) (a : Amounts) → n ≤ 2 ^ 64 - 1 → e ≤ 2 ^ 128 - 1 → IsOfFew n e a → IsSmall a
few_small n e a files entries few = record {
  files = omega (arith, few.files, files);
  entries = omega (arith, few.entries, entries);
  deletions = omega (arith, few.deletions, entries);
  hidden = omega (arith, few.hidden, entries);
}
