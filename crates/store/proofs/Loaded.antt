-- Tables that were loaded, and the bytes under each number.
use Rattle.std.proofs.Common.{◌≡◌, ℕ, Bool, true, false, cond, eqb, List, [], ◌∷◌, Some, Option, Ok, refl, sym, ap, ◌∙◌}
use Rattle.std.specs.Prelude.{unwrap_or}
use Rattle.std.specs.List.{find}
use Rattle.std.specs.Map.{lookup}
use Rattle.std.specs.Option.{option_map}
use Rattle.std.specs.declared.cmp.Ordering.{Ordering}
use Rattle.std.proofs.lemmas.Bool.{eqb-true, eq-eqb}
use Rattle.std.proofs.lemmas.Option.{none-some, same_Some}
use Rattle.folder.proofs.Binds.{bind_ok, ok_is}
use Rattle.reads.specs.CheckedContents.{contents_in}
use Rattle.reads.specs.TableContents.{Contents, blocks_of, contents_of, contents_reading}
use Rattle.reads.specs.Tables.{NumberedContents, table_of_number}
use Rattle.checks.specs.TableReadings.{tables_reading}
use Rattle.checks.proofs.FoundTables.{CheckedParts, checked_parts}
use Rattle.install.specs.Install.{table_bytes_of}
use Rattle.compact.proofs.AppliedEdit.{not_equal}

-- a test of two numbers, turned
pub turned : (m n : ℕ) → eqb m n ≡ eqb n m
turned m n = by (eqb m n) refl
  where
    by : (b : Bool) → eqb m n ≡ b → b ≡ eqb n m
    by true e = sym (eq-eqb n m (sym (eqb-true m n e)))
    by false e = sym (not_equal n m (λ same. let both : true ≡ false = sym (eq-eqb m n (sym same)) ∙ e in cc both))

-- what bytes hold as a table has these bytes
pub own_bytes : (cmp : List ℕ → List ℕ → Ordering) (bytes : List ℕ) (t : Contents) → contents_reading cmp bytes ≡ Ok t → t.bytes ≡ bytes
own_bytes cmp bytes t h =
    let parts = bind_ok (blocks_of cmp bytes) (λ blocks. Ok (contents_of bytes blocks)) t h in
    sym (ap (λ (c : Contents). c.bytes) (ok_is (contents_of bytes parts.0) t parts.2))

-- what bytes hold that are a table
pub held_by : (cmp : List ℕ → List ℕ → Ordering) (bytes : List ℕ) (t : Contents) → contents_reading cmp bytes ≡ Ok t → contents_in cmp bytes ≡ t
held_by cmp bytes t h = rw h refl

-- the bytes of a number are those that were found
pub bytes_found : (loaded : List (ℕ × List ℕ)) (n : ℕ) (bytes : List ℕ) → lookup (eqb n) loaded ≡ Some bytes → table_bytes_of loaded n ≡ bytes
bytes_found loaded n bytes h = ap (λ (o : Option (List ℕ)). unwrap_or o []) h

-- the bytes of a table that was checked are those that were loaded under its number
pub found_loaded : (cmp : List ℕ → List ℕ → Ordering) (loaded : List (ℕ × List ℕ)) (tables : List NumberedContents) (n : ℕ) (t : Contents)
    → tables_reading cmp loaded ≡ Ok tables → table_of_number tables n ≡ Some t → lookup (eqb n) loaded ≡ Some t.bytes
found_loaded cmp [] tables n t h found =
    let none : tables ≡ [] = sym (ok_is [] tables h) in
    absurd (none-some t (sym (ap (λ (ts : List NumberedContents). table_of_number ts n) none) ∙ found))
found_loaded cmp (l ∷ loaded) tables n t h found =
    by (eqb l.0 n) refl (λ is. found_loaded cmp loaded parts.behind n t parts.rest is) (ap (λ (ts : List NumberedContents). table_of_number ts n) parts.whole ∙ found)
  where
    parts : CheckedParts cmp l loaded tables
    parts = checked_parts cmp l loaded tables h

    by : (b : Bool) → eqb l.0 n ≡ b → (table_of_number parts.behind n ≡ Some t → lookup (eqb n) loaded ≡ Some t.bytes)
        → option_map (λ (x : NumberedContents). x.contents) (cond b (Some (record { number = l.0; contents = parts.contents })) (find (λ (x : NumberedContents). eqb x.number n) parts.behind)) ≡ Some t
        → cond (eqb n l.0) (Some l.1) (lookup (eqb n) loaded) ≡ Some t.bytes
    by true e rest is =
        let same : parts.contents ≡ t = same_Some parts.contents t is in
        let bytes : l.1 ≡ t.bytes = sym (own_bytes cmp l.1 parts.contents parts.read) ∙ ap (λ (c : Contents). c.bytes) same in
        let hit : eqb n l.0 ≡ true = turned n l.0 ∙ e in
        rw hit (ap (λ (x : List ℕ). Some x) bytes)
    by false e rest is =
        let miss : eqb n l.0 ≡ false = turned n l.0 ∙ e in
        rw miss (rest is)
