-- Tables that are read from the files of a folder, and what a version states of them.
use Rattle.std.proofs.Common.{◌≡◌, ℕ, Bool, true, false, eqb, List, [], ◌∷◌, ◌++◌, map, Some, None, Result, Ok, Err, refl, sym, ap, ap₂, subst, ◌∙◌, if◌then◌else◌, inl, inr}
use Rattle.std.specs.Prelude.{Contains}
use Rattle.std.specs.List.{AllZip, find}
use Rattle.std.specs.Option.{option_map}
use Rattle.std.specs.declared.cmp.Ordering.{Ordering}
use Rattle.std.proofs.lemmas.Bool.{eqb-true}
use Rattle.std.proofs.lemmas.List.Elements.{All-cons, All-nil}
use Rattle.std.proofs.lemmas.Option.{none-some, same_Some}
use Rattle.ikey.proofs.Binds.{bind_ok, done, ok_is}
use Rattle.ikey.specs.Answers.{◌>>=◌}
use Rattle.ikey.specs.fault.Fault.{Fault}
use Rattle.table.specs.TableContents.{Contents, blocks_of, contents_of, contents_reading}
use Rattle.folder.specs.Calls.{Files, ToldFiles}
use Rattle.folder.specs.LoadedTables.{IsFirstMissing, IsTableAnswer, IsTableOf}
use Rattle.folder.specs.ReadsAs.{IsFileIn}
use Rattle.reads.specs.Tables.{NumberedContents, table_of_number}
use Rattle.reads.proofs.Members.{first_in, first_or_later, later_in, none_in}
use Rattle.checks.specs.TableReadings.{numbered_reading, tables_reading}
use Rattle.checks.specs.HeldTables.{AreFound, AreHeldIn, IsFoundAnswer, IsTableIn, held_if, held_numbers}

-- ---- tables that were checked, one after the other

pub record CheckedParts (cmp : List ℕ → List ℕ → Ordering) (t : ℕ × List ℕ) (loaded : List (ℕ × List ℕ)) (tables : List NumberedContents) : Type 0 where
  pub contents : Contents
  pub behind : List NumberedContents
  pub read : contents_reading cmp t.1 ≡ Ok contents
  pub rest : tables_reading cmp loaded ≡ Ok behind
  pub whole : record { number = t.0; contents = contents } ∷ behind ≡ tables

pub checked_parts : (cmp : List ℕ → List ℕ → Ordering) (t : ℕ × List ℕ) (loaded : List (ℕ × List ℕ)) (tables : List NumberedContents) → tables_reading cmp (t ∷ loaded) ≡ Ok tables → CheckedParts cmp t loaded tables
checked_parts cmp t loaded tables h =
    let one = bind_ok (numbered_reading cmp t) (λ (first : NumberedContents). tables_reading cmp loaded >>= λ others. Ok (first ∷ others)) tables h in
    let two = bind_ok (tables_reading cmp loaded) (λ (others : List NumberedContents). Ok (one.0 ∷ others)) tables one.2 in
    let three = bind_ok (contents_reading cmp t.1) (λ (c : Contents). Ok (record { number = t.0; contents = c })) one.0 one.1 in
    let first : record { number = t.0; contents = three.0 } ≡ one.0 = ok_is (record { number = t.0; contents = three.0 }) one.0 three.2 in
    record {
      contents = three.0;
      behind = two.0;
      read = three.1;
      rest = two.1;
      whole = ap (λ (x : NumberedContents). x ∷ two.0) first ∙ ok_is (one.0 ∷ two.0) tables two.2;
    }

-- what bytes hold has these bytes
pub own_bytes : (cmp : List ℕ → List ℕ → Ordering) (bytes : List ℕ) (x : Contents) → contents_reading cmp bytes ≡ Ok x → bytes ≡ x.bytes
own_bytes cmp bytes x h =
    let parts = bind_ok (blocks_of cmp bytes) (λ blocks. Ok (contents_of bytes blocks)) x h in
    ap (λ (c : Contents). c.bytes) (ok_is (contents_of bytes parts.0) x parts.2)

-- what was read can be read again
pub again : (cmp : List ℕ → List ℕ → Ordering) (bytes : List ℕ) (x : Contents) → contents_reading cmp bytes ≡ Ok x → contents_reading cmp x.bytes ≡ Ok x
again cmp bytes x h = subst (λ (b : List ℕ). contents_reading cmp b ≡ Ok x) (own_bytes cmp bytes x h) h

-- ---- one table for each number

-- an element between two lists
in_middle : (before : List ℕ) (n : ℕ) (behind : List ℕ) → Contains (before ++ n ∷ behind) n
in_middle [] n behind = first_in n behind
in_middle (m ∷ before) n behind = later_in m (before ++ n ∷ behind) n (in_middle before n behind)

pub same_held : (files : Files) (n : ℕ) (a b : List ℕ) → IsTableAnswer (IsFileIn files) n (Ok a) → IsTableAnswer (IsFileIn files) n (Ok b) → a ≡ b
same_held files n a b (inl h) (inl k) = same_Some a b (sym h ∙ k)
same_held files n a b (inl h) (inr k) = absurd (none-some a (sym k.0 ∙ h))
same_held files n a b (inr h) (inl k) = absurd (none-some b (sym h.0 ∙ k))
same_held files n a b (inr h) (inr k) = same_Some a b (sym h.1 ∙ k.1)

pub not_missing : (files : Files) (n : ℕ) (bytes : List ℕ) (e : Fault) → IsTableAnswer (IsFileIn files) n (Ok bytes) → IsTableAnswer (IsFileIn files) n (Err e) → ⊥
not_missing files n bytes e (inl h) k = none-some bytes (sym k.0 ∙ h)
not_missing files n bytes e (inr h) k = none-some bytes (sym k.1 ∙ h.1)

module _ (cmp : List ℕ → List ℕ → Ordering) (files : Files) where
  pub one_table : (n : ℕ) (x y : Contents) → IsTableIn cmp files n x → IsTableIn cmp files n y → x ≡ y
  one_table n x y h k =
      let same : x.bytes ≡ y.bytes = same_held files n x.bytes y.bytes h.there k.there in
      ok_is x y (sym h.read ∙ ap (contents_reading cmp) same ∙ k.read)

  -- a table that was loaded and checked
  table_in : (n : ℕ) (t : ℕ × List ℕ) (x : Contents) → IsTableOf (IsFileIn files) n t → contents_reading cmp t.1 ≡ Ok x → IsTableIn cmp files n x
  table_in n t x loaded read = record {
    there = subst (λ (b : List ℕ). IsTableAnswer (IsFileIn files) n (Ok b)) (own_bytes cmp t.1 x read) loaded.1;
    read = again cmp t.1 x read;
  }

  pub found_tables : (numbers : List ℕ) (loaded : List (ℕ × List ℕ)) (tables : List NumberedContents) → AllZip (IsTableOf (IsFileIn files)) numbers loaded → tables_reading cmp loaded ≡ Ok tables → AreFound cmp files numbers tables
  found_tables [] [] tables h read = subst (λ (ts : List NumberedContents). AreFound cmp files [] ts) (ok_is [] tables read) tt
  found_tables [] (t ∷ loaded) tables h read = absurd h
  found_tables (n ∷ numbers) [] tables h read = absurd h
  found_tables (n ∷ numbers) (t ∷ loaded) tables h read =
      let parts = checked_parts cmp t loaded tables read in
      subst (AreFound cmp files (n ∷ numbers)) parts.whole ((h.0.0, table_in n t parts.contents h.0 parts.read), found_tables numbers loaded parts.behind h.1 parts.rest)

  -- so each table that is found by its number is that of the number
  pub found_at : (numbers : List ℕ) (tables : List NumberedContents) → AreFound cmp files numbers tables → (n : ℕ) (x : Contents) → table_of_number tables n ≡ Some x → IsTableIn cmp files n x
  found_at [] [] h n x is = absurd (none-some x is)
  found_at [] (t ∷ tables) h n x is = absurd h
  found_at (m ∷ numbers) [] h n x is = absurd h
  found_at (m ∷ numbers) (t ∷ tables) h n x is = by (eqb t.number n) refl (found_at numbers tables h.1 n x) is
    where
      by : (b : Bool) → eqb t.number n ≡ b → (table_of_number tables n ≡ Some x → IsTableIn cmp files n x)
          → option_map (λ (t : NumberedContents). t.contents) (if b then Some t else find (λ (t : NumberedContents). eqb t.number n) tables) ≡ Some x → IsTableIn cmp files n x
      by true same later found =
          let number : m ≡ n = sym h.0.0 ∙ eqb-true t.number n same in
          subst (λ (c : Contents). IsTableIn cmp files n c) (same_Some t.contents x found) (subst (λ (k : ℕ). IsTableIn cmp files k t.contents) number h.0.1)
      by false other later found = later found

  -- the tables that are held in place of others, and that some are not found
  pub held_found : (numbers : List ℕ) (is_held : Bool) (tables : List NumberedContents) → is_held ≡ true → IsFoundAnswer cmp files numbers (Ok (held_if is_held tables)) → AreFound cmp files numbers tables
  held_found numbers is_held tables held h = subst (λ (b : Bool). IsFoundAnswer cmp files numbers (Ok (held_if b tables))) held h

  pub held_unfound : (numbers : List ℕ) (is_held : Bool) (tables : List NumberedContents) → is_held ≡ false → IsFoundAnswer cmp files numbers (Ok (held_if is_held tables)) → IsFoundAnswer cmp files numbers (Ok None)
  held_unfound numbers is_held tables held h = subst (λ (b : Bool). IsFoundAnswer cmp files numbers (Ok (held_if b tables))) held h

  -- tables that were loaded read as those that are found
  pub found_read : (numbers : List ℕ) (loaded : List (ℕ × List ℕ)) (tables : List NumberedContents) → AllZip (IsTableOf (IsFileIn files)) numbers loaded → AreFound cmp files numbers tables → tables_reading cmp loaded ≡ Ok tables
  found_read [] [] [] there h = refl
  found_read [] [] (t ∷ tables) there h = absurd h
  found_read [] (b ∷ loaded) tables there h = absurd there
  found_read (n ∷ numbers) [] tables there h = absurd there
  found_read (n ∷ numbers) (b ∷ loaded) [] there h = absurd h
  found_read (n ∷ numbers) (b ∷ loaded) (t ∷ tables) there h =
      let same : b.1 ≡ t.contents.bytes = same_held files n b.1 t.contents.bytes there.0.1 h.0.1.there in
      let one : contents_reading cmp b.1 ≡ Ok t.contents = ap (contents_reading cmp) same ∙ h.0.1.read in
      let number : b.0 ≡ t.number = there.0.0 ∙ sym h.0.0 in
      let first : NumberedContents = record { number = b.0; contents = t.contents } in
      ap (λ (r : Result Contents Fault). (r >>= λ contents. Ok (record { number = b.0; contents = contents })) >>= λ first. tables_reading cmp loaded >>= λ others. Ok (first ∷ others)) one
      ∙ ap (λ (r : Result (List NumberedContents) Fault). r >>= λ others. Ok (first ∷ others)) (found_read numbers loaded tables there.1 h.1)
      ∙ ap (λ (k : ℕ). done (record { number = k; contents = t.contents } ∷ tables)) number

  -- none of them is missing
  number_found : (numbers : List ℕ) (tables : List NumberedContents) → AreFound cmp files numbers tables → (n : ℕ) → Contains numbers n → (x : Contents) × IsTableIn cmp files n x
  number_found [] tables h n at = absurd (none_in n at)
  number_found (m ∷ numbers) [] h n at = absurd h
  number_found (m ∷ numbers) (t ∷ tables) h n at = elim (first_or_later m numbers n at) [
    | inl same ↦ (t.contents, subst (λ (k : ℕ). IsTableIn cmp files k t.contents) (sym same) h.0.1)
    | inr later ↦ number_found numbers tables h.1 n later
  ]

  pub none_missing : (numbers : List ℕ) (e : Fault) → IsFirstMissing (IsFileIn files) numbers e → (tables : List NumberedContents) → AreFound cmp files numbers tables → ⊥
  none_missing numbers e m tables h =
      let at : Contains numbers m.number = subst (λ (ns : List ℕ). Contains ns m.number) (sym m.parts) (in_middle m.before m.number m.behind) in
      let there = number_found numbers tables h m.number at in
      not_missing files m.number there.0.bytes e there.1.there m.missing

-- ---- their numbers, whatever the files are

pub loaded_numbers : (tells : ToldFiles) (numbers : List ℕ) (loaded : List (ℕ × List ℕ)) → AllZip (IsTableOf tells) numbers loaded → map (λ (t : ℕ × List ℕ). t.0) loaded ≡ numbers
loaded_numbers tells [] [] h = refl
loaded_numbers tells [] (t ∷ loaded) h = absurd h
loaded_numbers tells (n ∷ numbers) [] h = absurd h
loaded_numbers tells (n ∷ numbers) (t ∷ loaded) h = ap₂ (λ (k : ℕ) (ks : List ℕ). k ∷ ks) h.0.0 (loaded_numbers tells numbers loaded h.1)

pub read_numbers : (cmp : List ℕ → List ℕ → Ordering) (loaded : List (ℕ × List ℕ)) (tables : List NumberedContents) → tables_reading cmp loaded ≡ Ok tables → held_numbers tables ≡ map (λ (t : ℕ × List ℕ). t.0) loaded
read_numbers cmp [] tables h = ap held_numbers (sym (ok_is [] tables h))
read_numbers cmp (t ∷ loaded) tables h =
    let parts = checked_parts cmp t loaded tables h in
    ap held_numbers (sym parts.whole) ∙ ap (λ (ks : List ℕ). t.0 ∷ ks) (read_numbers cmp loaded parts.behind parts.rest)
