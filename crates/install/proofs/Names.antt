-- The names of files that may be obsolete tell their kinds and numbers.
use Rattle.std.proofs.Common.{◌≡◌, ◌≢◌, ◌<◌, ◌^◌, ℕ, codes, refl, sym, arith}
use Rattle.std.proofs.lemmas.List.{append_cancel_right}
use Rattle.folder.specs.Names.{manifest_name, old_table_name, six_digits, table_name, temporary_name}
use Rattle.folder.proofs.NameEnds.{current_end, ends_apart, low_apart, manifest_end, old_table_end, table_end, temporary_end}
use Rattle.folder.proofs.NameLemmas.{digits_alike, manifest_alike, table_alike}
use Rattle.install.specs.ObsoleteFile.{name_of}
use Rattle.install.specs.declared.file_kind.FileKind.{FileKind}
use Rattle.install.specs.declared.file_kind.FileKind.TheVariants.{Manifest, OldTable, Table, Temporary}

table_no_old : (n m : ℕ) → table_name n ≢ old_table_name m
table_no_old n m = ends_apart (table_name n) (old_table_name m) 98 116 (table_end n) (old_table_end m) (λ e. omega (arith, e))

pub table_no_temporary : (n m : ℕ) → table_name n ≢ temporary_name m
table_no_temporary n m = ends_apart (table_name n) (temporary_name m) 98 112 (table_end n) (temporary_end m) (λ e. omega (arith, e))

old_no_temporary : (n m : ℕ) → old_table_name n ≢ temporary_name m
old_no_temporary n m = ends_apart (old_table_name n) (temporary_name m) 116 112 (old_table_end n) (temporary_end m) (λ e. omega (arith, e))

table_no_manifest : (n m : ℕ) → m < 2 ^ 64 → table_name n ≢ manifest_name m
table_no_manifest n m small = low_apart (table_name n) (manifest_name m) 98 (table_end n) (manifest_end m small) (omega arith)

old_no_manifest : (n m : ℕ) → m < 2 ^ 64 → old_table_name n ≢ manifest_name m
old_no_manifest n m small = low_apart (old_table_name n) (manifest_name m) 116 (old_table_end n) (manifest_end m small) (omega arith)

temporary_no_manifest : (n m : ℕ) → m < 2 ^ 64 → temporary_name n ≢ manifest_name m
temporary_no_manifest n m small = low_apart (temporary_name n) (manifest_name m) 112 (temporary_end n) (manifest_end m small) (omega arith)

-- two names that are one are of one kind and number
pub names_tell : (a b : FileKind) (n m : ℕ) → n < 2 ^ 64 → m < 2 ^ 64 → name_of a n ≡ name_of b m → (a ≡ b) × (n ≡ m)
names_tell Table Table n m x y same = (refl, table_alike n m x y same)
names_tell Table OldTable n m x y same = absurd (table_no_old n m same)
names_tell Table Manifest n m x y same = absurd (table_no_manifest n m y same)
names_tell Table Temporary n m x y same = absurd (table_no_temporary n m same)
names_tell OldTable Table n m x y same = absurd (table_no_old m n (sym same))
names_tell OldTable OldTable n m x y same = (refl, digits_alike n m x y (append_cancel_right (six_digits n) (six_digits m) (codes ".sst") same))
names_tell OldTable Manifest n m x y same = absurd (old_no_manifest n m y same)
names_tell OldTable Temporary n m x y same = absurd (old_no_temporary n m same)
names_tell Manifest Table n m x y same = absurd (table_no_manifest m n x (sym same))
names_tell Manifest OldTable n m x y same = absurd (old_no_manifest m n x (sym same))
names_tell Manifest Manifest n m x y same = (refl, manifest_alike n m x y same)
names_tell Manifest Temporary n m x y same = absurd (temporary_no_manifest m n x (sym same))
names_tell Temporary Table n m x y same = absurd (table_no_temporary m n (sym same))
names_tell Temporary OldTable n m x y same = absurd (old_no_temporary m n (sym same))
names_tell Temporary Manifest n m x y same = absurd (temporary_no_manifest n m y same)
names_tell Temporary Temporary n m x y same = (refl, digits_alike n m x y (append_cancel_right (six_digits n) (six_digits m) (codes ".dbtmp") same))

-- CURRENT is none of them
pub no_current : (k : FileKind) (n : ℕ) → n < 2 ^ 64 → name_of k n ≢ codes "CURRENT"
no_current Table n small = ends_apart (table_name n) (codes "CURRENT") 98 84 (table_end n) current_end (λ e. omega (arith, e))
no_current OldTable n small = ends_apart (old_table_name n) (codes "CURRENT") 116 84 (old_table_end n) current_end (λ e. omega (arith, e))
no_current Manifest n small = λ same. low_apart (codes "CURRENT") (manifest_name n) 84 current_end (manifest_end n small) (omega arith) (sym same)
no_current Temporary n small = ends_apart (temporary_name n) (codes "CURRENT") 112 84 (temporary_end n) current_end (λ e. omega (arith, e))
