-- The tests of entries, one after the other.
use Rattle.std.proofs.Common.{Bor, ◌≡◌, ℕ, ◌+◌, ◌<◌, List, [], ◌∷◌, ◌++◌, map, take, drop, length, get_or, Option, None, Some, Result, Ok, refl, sym, ap, ◌∙◌, append_assoc}
use Rattle.std.specs.declared.cmp.Ordering.{Ordering}
use Rattle.ikey.specs.Answers.{◌>>=◌}
use Rattle.ikey.specs.fault.Fault.{Fault}
use Rattle.table.specs.EncodedEntry.{Entry}
use Rattle.table.specs.EntryTests.{entry_test, entries_test, last_key_after}
use Rattle.std.proofs.lemmas.List.{drop_more, take_more, map-append}
use Rattle.c_api.specs.Requests.{no_table}
use Rattle.c_api.specs.declared.file.File.{File}
use Rattle.keep.proofs.LastKept.{last_pushed}
use Rattle.c_api.proofs.CheckedInputs.{no_input}

-- the last key after one more entry
pub next_pushed : (before : Option (List ℕ)) (es : List Entry) (e : Entry) → last_key_after before (es ++ e ∷ []) ≡ Some e.key
next_pushed before [] e = refl
next_pushed before (x ∷ es) e = let some : List ℕ → Option (List ℕ) = λ k. Some k in ap some (last_pushed x.key es e)

-- an entry that passed its tests leaves those of the rest
pub tested_on : (cmp : List ℕ → List ℕ → Ordering) (done : List Entry) (e : Entry) (rest : List Entry) → entry_test cmp (last_key_after None done) e ≡ Ok tt
    → entries_test cmp (last_key_after None done) (e ∷ rest) ≡ entries_test cmp (last_key_after None (done ++ e ∷ [])) rest
tested_on cmp done e rest h =
    ap (λ (r : Result (Unit {0}) Fault). r >>= λ _. entries_test cmp (Some e.key) rest) h
    ∙ ap (λ (k : Option (List ℕ)). entries_test cmp k rest) (sym (next_pushed None done e))

-- ---- the empty tables of inputs

-- one more of them
pub tables_more : (done new : List (Bor (List ℕ))) (table : Bor (List ℕ)) (files : List File) (i : ℕ) → i < length files → new ≡ done ++ table ∷ [] → map (λ (t : Bor (List ℕ)). t.now) done ≡ map no_table (take i files) → table.now ≡ []
    → map (λ (t : Bor (List ℕ)). t.now) new ≡ map no_table (take (i + 1) files)
tables_more done new table files i lt pushed front own =
    let now : Bor (List ℕ) → List ℕ = λ t. t.now in
    ap (map now) pushed ∙ map-append now done (table ∷ [])
    ∙ ap (λ (ts : List (List ℕ)). ts ++ table.now ∷ []) front
    ∙ ap (λ (t : List ℕ). map no_table (take i files) ++ t ∷ []) own
    ∙ sym (ap (map no_table) (take_more files i no_input.file lt) ∙ map-append no_table (take i files) (get_or files i no_input.file ∷ []))

-- ---- one more entry of a list, as it is added

module _ {X : Type 0} (F : X → Entry) (all : List X) (i : ℕ) (d : X) (lt : i < length all) where
  -- those that are added, and then those that are left
  pub all_more : (done new : List Entry) (x : Entry) → new ≡ done ++ x ∷ [] → x ≡ F (get_or all i d) → done ++ map F (drop i all) ≡ map F all → new ++ map F (drop (i + 1) all) ≡ map F all
  all_more done new x pushed own h =
      let rest : List Entry = map F (drop (i + 1) all) in
      ap (λ (l : List Entry). l ++ rest) pushed ∙ append_assoc done (x ∷ []) rest
      ∙ ap (λ (y : Entry). done ++ y ∷ rest) own
      ∙ ap (λ (l : List X). done ++ map F l) (sym (drop_more all i d lt)) ∙ h

  -- the tests of all are those of the entries that are left
  pub tested_more : (cmp : List ℕ → List ℕ → Ordering) (done new : List Entry) (x : Entry) → new ≡ done ++ x ∷ [] → x ≡ F (get_or all i d) → entry_test cmp (last_key_after None done) x ≡ Ok tt
      → entries_test cmp None (map F all) ≡ entries_test cmp (last_key_after None done) (map F (drop i all))
      → entries_test cmp None (map F all) ≡ entries_test cmp (last_key_after None new) (map F (drop (i + 1) all))
  tested_more cmp done new x pushed own passed h =
      let rest : List Entry = map F (drop (i + 1) all) in
      h ∙ ap (λ (l : List X). entries_test cmp (last_key_after None done) (map F l)) (drop_more all i d lt)
      ∙ ap (λ (y : Entry). entries_test cmp (last_key_after None done) (y ∷ rest)) (sym own)
      ∙ tested_on cmp done x rest passed
      ∙ ap (λ (l : List Entry). entries_test cmp (last_key_after None l) rest) (sym pushed)
