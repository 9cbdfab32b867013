-- The tables of a version that were loaded, as a folder holds them.
use Rattle.std.proofs.Common.{◌≡◌, ℕ, nat_eq, Bool, true, false, List, [], ◌∷◌, Option, Some, None, Ok, if◌then◌else◌, refl, sym, ap, subst, ◌∙◌, inl, inr}
use Rattle.std.specs.Prelude.{find}
use Rattle.std.specs.List.{AllZip}
use Rattle.std.specs.Option.{option_map}
use Rattle.std.specs.declared.cmp.Ordering.{Ordering}
use Rattle.std.proofs.lemmas.Bool.{eqb-true}
use Rattle.std.proofs.lemmas.Option.{none-some, same_Some}
use Rattle.table.proofs.Binds.{bind_ok, ok_is}
use Rattle.table.specs.Answers.{◌>>=◌}
use Rattle.checks.specs.TableReadings.{numbered_reading, tables_reading}
use Rattle.folder.specs.Calls.{Files, Tells}
use Rattle.folder.specs.LoadedTables.{IsTableAnswer, IsTableOf}
use Rattle.folder.specs.Names.{old_table_name, table_name}
use Rattle.checks.specs.Tables.{NumberedContents, table_of_number}
use Rattle.scan.specs.FolderTables.{HoldTables, HoldsTable, TellsJust}
use Rattle.table.specs.TableContents.{Contents, blocks_of, contents_of, contents_reading}

module _ (tells : List ℕ → Option (List ℕ) → Type 0) (files : Files) (all : Tells tells files) where
  -- a folder that tells files tells one thing of each name
  told_just : (name : List ℕ) (held : Option (List ℕ)) → tells name held → TellsJust tells name held
  told_just name held here other there = sym ((all name other).0 there) ∙ (all name held).0 here

  held_table : (number : ℕ) (bytes : List ℕ) → IsTableAnswer tells number (Ok bytes) → HoldsTable tells number bytes
  held_table number bytes (inl h) = inl (told_just (table_name number) (Some bytes) h)
  held_table number bytes (inr h) = inr (told_just (table_name number) None h.0, told_just (old_table_name number) (Some bytes) h.1)

  -- what bytes read as has these bytes
  bytes_are : (cmp : List ℕ → List ℕ → Ordering) (bytes : List ℕ) (table : Contents) → contents_reading cmp bytes ≡ Ok table → table.bytes ≡ bytes
  bytes_are cmp bytes table h =
      let blocks = bind_ok (blocks_of cmp bytes) (λ bs. Ok (contents_of bytes bs)) table h in
      sym (ap (λ (t : Contents). t.bytes) (ok_is _ _ blocks.2))

  pub hold_tables : (cmp : List ℕ → List ℕ → Ordering) (numbers : List ℕ) (loaded : List (ℕ × List ℕ)) (tables : List NumberedContents) → AllZip (IsTableOf tells) numbers loaded → tables_reading cmp loaded ≡ Ok tables → HoldTables tells tables
  hold_tables cmp numbers [] tables there read number table is =
      absurd (none-some table (ap (λ (ts : List NumberedContents). table_of_number ts number) (ok_is [] tables read) ∙ is))
  hold_tables cmp [] (t ∷ loaded) tables there read number table is = absurd there
  hold_tables cmp (n ∷ numbers) (t ∷ loaded) tables there read number table is =
      let first = bind_ok (numbered_reading cmp t) (λ x. tables_reading cmp loaded >>= λ xs. Ok (x ∷ xs)) tables read in
      let others = bind_ok (tables_reading cmp loaded) (λ xs. Ok (first.0 ∷ xs)) tables first.2 in
      let contents = bind_ok (contents_reading cmp t.1) (λ c. Ok (record { number = t.0; contents = c })) first.0 first.1 in
      let made : record { number = t.0; contents = contents.0 } ∷ others.0 ≡ tables =
      ap (λ (x : NumberedContents). x ∷ others.0) (ok_is _ _ contents.2) ∙ ok_is _ _ others.2 in
      let found : table_of_number (record { number = t.0; contents = contents.0 } ∷ others.0) number ≡ Some table = ap (λ (ts : List NumberedContents). table_of_number ts number) made ∙ is in
      by_test (nat_eq t.0 number) refl contents.0 others.0 found contents.1 (λ later. hold_tables cmp numbers loaded others.0 there.1 others.1 number table later)
    where
      by_test : (b : Bool) → nat_eq t.0 number ≡ b → (own : Contents) (rest : List NumberedContents)
          → option_map (λ (x : NumberedContents). x.contents) (if b then Some (record { number = t.0; contents = own }) else find (λ x. nat_eq x.number number) rest) ≡ Some table
          → contents_reading cmp t.1 ≡ Ok own → (table_of_number rest number ≡ Some table → HoldsTable tells number table.bytes) → HoldsTable tells number table.bytes
      by_test true test own rest found accepted later =
          let bytes : t.1 ≡ table.bytes = sym (bytes_are cmp t.1 own accepted) ∙ ap (λ (x : Contents). x.bytes) (same_Some own table found) in
          let same : n ≡ number = sym there.0.0 ∙ eqb-true t.0 number test in
          subst (λ (b : List ℕ). HoldsTable tells number b) bytes (subst (λ (m : ℕ). HoldsTable tells m t.1) same (held_table n t.1 there.0.1))
      by_test false test own rest found accepted later = later found
