-- What is found of tables under two names, and of one that has more bytes than a table may have.
use Rattle.std.proofs.Common.{◌≡◌, ℕ, ◌^◌, ◌<◌, false, nat_eq, List, length, drop, take, Option, Some, None, Err, refl, sym, ap, arith}
use Rattle.std.specs.Prelude.{unwrap_or}
use Rattle.std.specs.Option.{option_map, option_or, ok_or}
use Rattle.std.proofs.lemmas.Bool.{eqb-false, lt-leb}
use Rattle.std.proofs.lemmas.List.{length-drop, length-take}
use Rattle.std.proofs.lemmas.Option.{same_Some}
use Rattle.table.specs.Answers.{◌>>=◌, fault}
use Rattle.table.specs.fault.FaultName.TheVariants.{Missing, Size}
use Rattle.table.specs.Comparator.{KeyOrder}
use Rattle.folder.specs.Folder.{part_of}
use Rattle.table.specs.TableContents.{contents_reading}
use Rattle.table.proofs.CheckedTables.{index_refused}
use Rattle.folder.specs.meta.FileMeta.{FileMeta}
use Rattle.faults.specs.Findings.{finding_of, finding_under}
use Rattle.faults.specs.declared.table_test.TableFinding.{TableFinding}
use Rattle.faults.specs.declared.table_test.TableFinding.TheVariants.{Unreadable}

refused : (cmp : KeyOrder) (bytes : List ℕ) → 2 ^ 30 < length bytes → contents_reading cmp bytes ≡ Err (fault Size)
refused cmp bytes long = index_refused cmp bytes (fault Size) (rw (lt-leb (length bytes) (2 ^ 30) long) refl)

-- a byte that is there is before the end
some_behind : (n : ℕ) (bytes part : List ℕ) → take 1 (drop n bytes) ≡ part → nat_eq (length part) 0 ≡ false → n < length bytes
some_behind n bytes part is some =
    omega (arith, ap length is, eqb-false (length part) 0 some, length-take 1 (drop n bytes), length-drop n bytes)

module _ (cmp : KeyOrder) (f : FileMeta) where
  pub long_found : (held : Option (List ℕ)) (part : List ℕ) → option_map (part_of (2 ^ 30) 1) held ≡ Some part → nat_eq (length part) 0 ≡ false → Some (Unreadable Size) ≡ finding_under cmp f held
  long_found None part h some = absurd cc
  long_found (Some bytes) part h some =
      ap (λ r. Some (finding_of f r)) (sym (refused cmp bytes (some_behind (2 ^ 30) bytes part (same_Some _ part h) some)))

  pub none_found : (held : Option (List ℕ)) → option_map (part_of (2 ^ 30) 1) held ≡ None → None ≡ finding_under cmp f held
  none_found None h = refl
  none_found (Some bytes) h = absurd cc

  -- ---- of two names

  pub first_found : (a b : Option (List ℕ)) (finding : TableFinding) → Some finding ≡ finding_under cmp f a → finding ≡ finding_of f (ok_or (option_or a b) (fault Missing) >>= contents_reading cmp)
  first_found None b finding h = absurd cc
  first_found (Some bytes) b finding h = same_Some finding _ h

  pub second_found : (a b : Option (List ℕ)) (found : Option TableFinding) → None ≡ finding_under cmp f a → found ≡ finding_under cmp f b
      → unwrap_or found (Unreadable Missing) ≡ finding_of f (ok_or (option_or a b) (fault Missing) >>= contents_reading cmp)
  second_found (Some bytes) b found h k = absurd cc
  second_found None None found h k = ap (λ (o : Option TableFinding). unwrap_or o (Unreadable Missing)) k
  second_found None (Some bytes) found h k = ap (λ (o : Option TableFinding). unwrap_or o (Unreadable Missing)) k
