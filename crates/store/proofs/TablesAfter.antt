-- The tables that an installation leaves are read as those of the version after.
use Rattle.std.proofs.Common.{◌≡◌, ℕ, ◌≤◌, Bool, true, false, not, cond, eqb, List, [], ◌∷◌, ◌++◌, map, Some, Result, Ok, refl, sym, ap, ◌∙◌, inl, inr}
use Rattle.std.specs.Prelude.{◌⊎◌, Contains}
use Rattle.std.specs.List.{All, filter, find}
use Rattle.std.specs.Option.{option_map}
use Rattle.std.specs.declared.cmp.Ordering.{Ordering}
use Rattle.std.proofs.lemmas.Bool.{eqb-true, eq-eqb}
use Rattle.std.proofs.lemmas.List.Elements.{All-contains}
use Rattle.folder.specs.Answers.{◌>>=◌}
use Rattle.folder.specs.fault.Fault.{Fault}
use Rattle.reads.specs.CheckedContents.{contents_in}
use Rattle.reads.specs.TableContents.{Contents, contents_reading}
use Rattle.folder.specs.Version.{State}
use Rattle.folder.specs.meta.NewFile.{NewFile}
use Rattle.folder.specs.Levels.{file_numbers}
use Rattle.folder.specs.ReadsAs.{IsOneOf}
use Rattle.pick.specs.PickedInputs.{PickedInputs}
use Rattle.compact.specs.ClosedInputs.{is_input}
use Rattle.reads.specs.Lawful.{IsFileOf, IsLawful}
use Rattle.reads.specs.Tables.{NumberedContents, table_of_number}
use Rattle.reads.proofs.Members.{first_in, later_in, first_or_later, none_in}
use Rattle.checks.specs.TableReadings.{numbered_reading, tables_reading}
use Rattle.compact.specs.OneThread.{Answer}
use Rattle.install.specs.Install as install
use Rattle.install.proofs.Numbers.{in_files, in_version, numbers_in}
use Rattle.compact.specs.SurvivingReads.{tables_after}
use Rattle.store.proofs.Found.{found_after, kept_table}
use Rattle.store.proofs.Loaded.{bytes_found, found_loaded, held_by}

-- a file with this number
pub record HasNumber (files : List NewFile) (n : ℕ) : Type 0 where
  pub file : NewFile
  pub there : Contains files file
  pub is : n ≡ file.meta.number

pub number_of : (files : List NewFile) (n : ℕ) → IsOneOf (numbers_in files) n → HasNumber files n
number_of [] n m = absurd m
number_of (f ∷ files) n (inl same) = record { file = f; there = first_in f files; is = same }
number_of (f ∷ files) n (inr m) = let rest = number_of files n m in record { file = rest.file; there = later_in f files rest.file rest.there; is = rest.is }

pub one_number : (files : List NewFile) (f : NewFile) → Contains files f → IsOneOf (numbers_in files) f.meta.number
one_number [] f at = absurd (none_in f at)
one_number (g ∷ files) f at = elim (first_or_later g files f at) [ inl same ↦ inl (ap (λ (x : NewFile). x.meta.number) same) | inr later ↦ inr (one_number files f later) ]

-- tables of these numbers, read of these bytes
module _ (cmp : List ℕ → List ℕ → Ordering) (of : ℕ → List ℕ) where
  abbrev pub read_as : ℕ → NumberedContents
  read_as n = record { number = n; contents = contents_in cmp (of n) }

  all_read : (numbers : List ℕ) → ((n : ℕ) → IsOneOf numbers n → contents_reading cmp (of n) ≡ Ok (contents_in cmp (of n))) → tables_reading cmp (map (λ (n : ℕ). (n, of n)) numbers) ≡ Ok (map read_as numbers)
  all_read [] h = refl
  all_read (n ∷ numbers) h =
      let rest = all_read numbers (λ m at. h m (inr at)) in
      let one : numbered_reading cmp (n, of n) ≡ Ok (read_as n) = ap (λ (r : Result Contents Fault). r >>= λ c. Ok (record { number = n; contents = c })) (h n (inl refl)) in
      ap (λ (r : Result NumberedContents Fault). r >>= λ first. tables_reading cmp (map (λ (m : ℕ). (m, of m)) numbers) >>= λ others. Ok (first ∷ others)) one
      ∙ ap (λ (r : Result (List NumberedContents) Fault). r >>= λ others. Ok (read_as n ∷ others)) rest

  found_read : (numbers : List ℕ) (n : ℕ) → IsOneOf numbers n → table_of_number (map read_as numbers) n ≡ Some (contents_in cmp (of n))
  found_read [] n m = absurd m
  found_read (k ∷ numbers) n m = by (eqb k n) refl (found_read numbers n) m
    where
      by : (b : Bool) → eqb k n ≡ b → (IsOneOf numbers n → table_of_number (map read_as numbers) n ≡ Some (contents_in cmp (of n))) → (n ≡ k) ⊎ IsOneOf numbers n → option_map (λ (t : NumberedContents). t.contents) (cond b (Some (read_as k)) (find (λ (t : NumberedContents). eqb t.number n) (map read_as numbers))) ≡ Some (contents_in cmp (of n))
      by true e rest at = ap (λ (j : ℕ). Some (contents_in cmp (of j))) (eqb-true k n e)
      by false e rest (inl same) = let both : true ≡ false = sym (eq-eqb k n (sym same)) ∙ e in absurd (cc both)
      by false e rest (inr later) = rest later

module _ (cmp : List ℕ → List ℕ → Ordering) (loaded : List (ℕ × List ℕ)) (tables : List NumberedContents) (p : PickedInputs) (answer : Answer) (next : State)
    (checked : tables_reading cmp loaded ≡ Ok tables) (low : All (λ (f : NewFile). f.level ≤ 6) next.files) (lawful : IsLawful cmp next (tables_after cmp p answer tables)) where
  -- the bytes under a number
  abbrev bytes_at : ℕ → List ℕ
  bytes_at n = install.table_bytes_of (answer.tables ++ loaded) n

  -- the tables that are read then
  abbrev pub read_after : List NumberedContents
  read_after = map (read_as cmp bytes_at) (file_numbers cmp next)

  bytes_after : (n : ℕ) (t : Contents) → table_of_number (tables_after cmp p answer tables) n ≡ Some t → bytes_at n ≡ t.bytes
  bytes_after n t h =
      bytes_found (answer.tables ++ loaded) n t.bytes
      (found_after cmp answer.tables loaded (filter (λ (x : NumberedContents). not (is_input p x.number)) tables) n t
      (λ kept. found_loaded cmp loaded tables n t checked (kept_table (λ (m : ℕ). not (is_input p m)) tables n t kept)) h)

  file_at : (f : NewFile) → Contains next.files f → IsFileOf cmp (tables_after cmp p answer tables) f.meta
  file_at f at = All-contains (λ (x : NewFile). IsFileOf cmp (tables_after cmp p answer tables) x.meta) next.files f lawful.files at

  -- what is read of a file's bytes is its table
  read_file : (f : NewFile) (at : Contains next.files f) → contents_reading cmp (bytes_at f.meta.number) ≡ Ok (file_at f at).table
  read_file f at =
      let h = file_at f at in
      ap (contents_reading cmp) (bytes_after f.meta.number h.table h.there) ∙ h.accepted

  read_number : (n : ℕ) → IsOneOf (file_numbers cmp next) n → contents_reading cmp (bytes_at n) ≡ Ok (contents_in cmp (bytes_at n))
  read_number n m =
      let f = number_of next.files n (in_files cmp next n m) in
      let read = ap (λ (k : ℕ). contents_reading cmp (bytes_at k)) f.is ∙ read_file f.file f.there in
      read ∙ ap (λ (t : Contents). Ok t) (sym (held_by cmp (bytes_at n) (file_at f.file f.there).table read))

  pub reads_after : tables_reading cmp (install.next_version_tables cmp next answer.tables loaded) ≡ Ok read_after
  reads_after = all_read cmp bytes_at (file_numbers cmp next) read_number

  pub same_after : (f : NewFile) → Contains next.files f → table_of_number read_after f.meta.number ≡ table_of_number (tables_after cmp p answer tables) f.meta.number
  same_after f at =
      let h = file_at f at in
      let n = f.meta.number in
      found_read cmp bytes_at (file_numbers cmp next) n (in_version cmp next n low (one_number next.files f at))
      ∙ ap (λ (t : Contents). Some t) (held_by cmp (bytes_at n) h.table (read_file f at)) ∙ sym h.there
