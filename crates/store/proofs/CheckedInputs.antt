-- Inputs whose tables were checked.
use Rattle.std.proofs.Common.{◌≡◌, ℕ, suc, ◌+◌, ◌<◌, ◌≤◌, Bool, true, ◌&&◌, List, [], ◌∷◌, map, length, drop, drop-cons, add-one, get_or, Result, Ok, Err, refl, sym, ap, subst, ◌∙◌, arith}
use Rattle.std.specs.Global.{Vec}
use Rattle.std.specs.declared.cmp.Ordering.{Ordering}
use Rattle.std.specs.List.{AllByRecursion}
use Rattle.std.proofs.lemmas.List.{drop_all, length-map}
use Rattle.std.proofs.lemmas.List.Elements.{recursion_from_All}
use Rattle.folder.proofs.Binds.{bind_ok, ok_is}
use Rattle.folder.proofs.Refusals.{unless_from}
use Rattle.folder.specs.Answers.{FailsOrMemory, ◌>>=◌}
use Rattle.folder.specs.fault.Fault.{Fault}
use Rattle.folder.specs.fault.FaultName.TheVariants.{Bounds}
use Rattle.reads.proofs.EntryTests.{passed}
use Rattle.reads.specs.TestResult.{test_result}
use Rattle.reads.specs.TableContents.{Contents, contents_reading}
use Rattle.pick.specs.declared.picked_inputs.InputFile.{InputFile}
use Rattle.reads.specs.Tables.{NumberedContents}
use Rattle.checks.specs.TableReadings.{tables_reading}
use Rattle.checks.specs.HeldTables.{AreReadAs}
use Rattle.checks.specs.HeldBytes.{held_bytes}
use Rattle.compact.specs.CheckedInputs.{AreInputs}
use Rattle.compact.proofs.ReadInputs.{read_inputs}
use Rattle.install.specs.Install.{tables_in}
use Rattle.checks.proofs.FoundTables.{checked_parts}
use Rattle.pick.proofs.Lists.{and_first, and_second}
use Rattle.compact.specs.Inputs.{inputs_reading, table_matches_metadata}
use Rattle.store.specs.InputsCompaction.{are_stated, input_tables}
use Rattle.store.proofs.Loaded.{own_bytes}

-- ---- whether they are as stated

stated_front : (i : InputFile) (files : List InputFile) (t : NumberedContents) (tables : List NumberedContents) (b : Bool) → table_matches_metadata i.meta t.contents ≡ b → are_stated (i ∷ files) (t ∷ tables) ≡ (b && are_stated files tables)
stated_front i files t tables b is = ap (λ (a : Bool). a && are_stated files tables) is

pub stated_step : (files : List InputFile) (tables : List NumberedContents) (k : ℕ) (i : InputFile) (t : NumberedContents) (b : Bool) → k < length files → k < length tables → i ≡ get_or files k i → t ≡ get_or tables k t
    → table_matches_metadata i.meta t.contents ≡ b → are_stated (drop k files) (drop k tables) ≡ (b && are_stated (drop (k + 1) files) (drop (k + 1) tables))
stated_step files tables k i t b lt low is at stated =
    let one : drop k files ≡ i ∷ drop (suc k) files = drop-cons files k i lt ∙ ap (λ (x : InputFile). x ∷ drop (suc k) files) (sym is) in
    let two : drop k tables ≡ t ∷ drop (suc k) tables = drop-cons tables k t low ∙ ap (λ (x : NumberedContents). x ∷ drop (suc k) tables) (sym at) in
    ap (λ (fs : List InputFile). are_stated fs (drop k tables)) one
    ∙ ap (λ (ts : List NumberedContents). are_stated (i ∷ drop (suc k) files) ts) two
    ∙ stated_front i (drop (suc k) files) t (drop (suc k) tables) b stated
    ∙ ap (λ (n : ℕ). b && are_stated (drop n files) (drop n tables)) (sym (add-one k))

none_stated : (tables : List NumberedContents) → are_stated [] tables ≡ true
none_stated [] = refl
none_stated (t ∷ tables) = refl

pub stated_end : (files : List InputFile) (tables : List NumberedContents) (k : ℕ) → length files ≤ k → are_stated (drop k files) (drop k tables) ≡ true
stated_end files tables k le = ap (λ (fs : List InputFile). are_stated fs (drop k tables)) (drop_all k files le) ∙ none_stated (drop k tables)

-- ---- their tables

abbrev pub read_ok : List NumberedContents → Result (List NumberedContents) Fault
read_ok tables = Ok tables

pub tables_refused : (cmp : List ℕ → List ℕ → Ordering) (files : List InputFile) (loaded : List (ℕ × List ℕ)) (e : Fault) → FailsOrMemory e (tables_reading cmp loaded) → FailsOrMemory e (input_tables cmp files loaded)
tables_refused cmp files loaded e given =
    unless_from e (tables_reading cmp loaded ≡ Err e) (input_tables cmp files loaded ≡ Err e)
    (λ is. ap (λ (r : Result (List NumberedContents) Fault). r >>= λ ts. test_result (are_stated files ts) Bounds >>= λ _. Ok (map (λ (t : NumberedContents). t.contents) ts)) is) given

-- what was lent is refused only if out of memory
pub lent_refused : (cmp : List ℕ → List ℕ → Ordering) (files : List InputFile) (held : List NumberedContents) (e : Fault) → FailsOrMemory e (read_ok held) → FailsOrMemory e (input_tables cmp files (held_bytes held))
lent_refused cmp files held e given = unless_from e (read_ok held ≡ Err e) (input_tables cmp files (held_bytes held) ≡ Err e) (λ is. absurd (no_error held e is)) given
  where
    no_error : (tables : List NumberedContents) (e : Fault) → read_ok tables ≡ Err e → ⊥
    no_error tables e h = cc

pub tables_are : (cmp : List ℕ → List ℕ → Ordering) (files : List InputFile) (loaded : List (ℕ × List ℕ)) (ts : List NumberedContents) (b : Bool) → tables_reading cmp loaded ≡ Ok ts → are_stated files ts ≡ b
    → input_tables cmp files loaded ≡ (test_result b Bounds >>= λ _. Ok (map (λ (t : NumberedContents). t.contents) ts))
tables_are cmp files loaded ts b read is =
    ap (λ (r : Result (List NumberedContents) Fault). r >>= λ xs. test_result (are_stated files xs) Bounds >>= λ _. Ok (map (λ (t : NumberedContents). t.contents) xs)) read
    ∙ ap (λ (a : Bool). test_result a Bounds >>= λ _. Ok (map (λ (t : NumberedContents). t.contents) ts)) is

-- the bytes of tables that were checked read as these
reading_each : (cmp : List ℕ → List ℕ → Ordering) (tables : List NumberedContents) → AllByRecursion (λ (t : NumberedContents). contents_reading cmp t.contents.bytes ≡ Ok t.contents) tables
    → tables_reading cmp (held_bytes tables) ≡ Ok tables
reading_each cmp [] h = refl
reading_each cmp (t ∷ tables) h =
    ap (λ (r : Result Contents Fault). (r >>= λ contents. Ok (record { number = t.number; contents = contents })) >>= λ (first : NumberedContents). tables_reading cmp (held_bytes tables) >>= λ others. Ok (first ∷ others)) h.0
    ∙ ap (λ (r : Result (List NumberedContents) Fault). r >>= λ others. Ok (t ∷ others)) (reading_each cmp tables h.1)

pub held_reading : (cmp : List ℕ → List ℕ → Ordering) (tables : List NumberedContents) → AreReadAs cmp tables → tables_reading cmp (held_bytes tables) ≡ Ok tables
held_reading cmp tables h = reading_each cmp tables (recursion_from_All (λ (t : NumberedContents). contents_reading cmp t.contents.bytes ≡ Ok t.contents) tables h)

-- ---- what they are read as

record IsRead (cmp : List ℕ → List ℕ → Ordering) (files : List InputFile) (loaded : List (ℕ × List ℕ)) (contents : List Contents) : Type 0 where
  tables : List NumberedContents
  reading : tables_reading cmp loaded ≡ Ok tables
  stated : are_stated files tables ≡ true
  whole : contents ≡ map (λ (t : NumberedContents). t.contents) tables

is_read : (cmp : List ℕ → List ℕ → Ordering) (files : List InputFile) (loaded : List (ℕ × List ℕ)) (contents : List Contents) → input_tables cmp files loaded ≡ Ok contents → IsRead cmp files loaded contents
is_read cmp files loaded contents h =
    let one = bind_ok (tables_reading cmp loaded) (λ (ts : List NumberedContents). test_result (are_stated files ts) Bounds >>= λ _. Ok (map (λ (t : NumberedContents). t.contents) ts)) contents h in
    let two = bind_ok (test_result (are_stated files one.0) Bounds) (λ _. Ok (map (λ (t : NumberedContents). t.contents) one.0)) contents one.2 in
    record {
      tables = one.0;
      reading = one.1;
      stated = passed (are_stated files one.0) Bounds two.0 two.1;
      whole = sym (ok_is (map (λ (t : NumberedContents). t.contents) one.0) contents two.2);
    }

bytes_read : (cmp : List ℕ → List ℕ → Ordering) (loaded : List (ℕ × List ℕ)) (tables : List NumberedContents) → tables_reading cmp loaded ≡ Ok tables
    → map (λ (t : Contents). t.bytes) (map (λ (t : NumberedContents). t.contents) tables) ≡ map (λ (t : ℕ × List ℕ). t.1) loaded
bytes_read cmp [] tables h = ap (λ (ts : List NumberedContents). map (λ (t : Contents). t.bytes) (map (λ (t : NumberedContents). t.contents) ts)) (sym (ok_is [] tables h))
bytes_read cmp (l ∷ loaded) tables h =
    let c = checked_parts cmp l loaded tables h in
    ap (λ (ts : List NumberedContents). map (λ (t : Contents). t.bytes) (map (λ (t : NumberedContents). t.contents) ts)) (sym c.whole)
    ∙ ap (λ (b : List ℕ). b ∷ map (λ (t : Contents). t.bytes) (map (λ (t : NumberedContents). t.contents) c.behind)) (own_bytes cmp l.1 c.contents c.read)
    ∙ ap (λ (bs : List (List ℕ)). l.1 ∷ bs) (bytes_read cmp loaded c.behind c.rest)

are_inputs : (cmp : List ℕ → List ℕ → Ordering) (files : List InputFile) (loaded : List (ℕ × List ℕ)) (tables : List NumberedContents) → length loaded ≡ length files → tables_reading cmp loaded ≡ Ok tables → are_stated files tables ≡ true
    → AreInputs cmp files (map (λ (t : NumberedContents). t.contents) tables)
are_inputs cmp [] [] tables same h stated = subst (λ (ts : List NumberedContents). AreInputs cmp [] (map (λ (t : NumberedContents). t.contents) ts)) (ok_is [] tables h) tt
are_inputs cmp [] (l ∷ loaded) tables same h stated = absurd (omega (arith, same))
are_inputs cmp (i ∷ files) [] tables same h stated = absurd (omega (arith, same))
are_inputs cmp (i ∷ files) (l ∷ loaded) tables same h stated =
    let c = checked_parts cmp l loaded tables h in
    let own : contents_reading cmp c.contents.bytes ≡ Ok c.contents = ap (contents_reading cmp) (own_bytes cmp l.1 c.contents c.read) ∙ c.read in
    let both : (table_matches_metadata i.meta c.contents && are_stated files c.behind) ≡ true = ap (are_stated (i ∷ files)) c.whole ∙ stated in
    let rest = are_inputs cmp files loaded c.behind (omega (arith, same)) c.rest (and_second (table_matches_metadata i.meta c.contents) (are_stated files c.behind) both) in
    subst (λ (ts : List NumberedContents). AreInputs cmp (i ∷ files) (map (λ (t : NumberedContents). t.contents) ts)) c.whole
    (own, (and_first (table_matches_metadata i.meta c.contents) (are_stated files c.behind) both, rest))

-- the bytes are those that were read
pub read_bytes : (cmp : List ℕ → List ℕ → Ordering) (files : List InputFile) (loaded : List (ℕ × List ℕ)) (contents : List Contents) → input_tables cmp files loaded ≡ Ok contents
    → map (λ (t : Contents). t.bytes) contents ≡ map (λ (t : ℕ × List ℕ). t.1) loaded
read_bytes cmp files loaded contents h =
    let r = is_read cmp files loaded contents h in
    ap (map (λ (t : Contents). t.bytes)) r.whole ∙ bytes_read cmp loaded r.tables r.reading

-- and read as the inputs
pub read_as_inputs : (cmp : List ℕ → List ℕ → Ordering) (files : List InputFile) (loaded : List (ℕ × List ℕ)) (contents : List Contents) → length loaded ≡ length files → input_tables cmp files loaded ≡ Ok contents
    → inputs_reading cmp 0 files (map (λ (t : Contents). t.bytes) contents) ≡ Ok (map (λ (t : Contents). t.entries) contents)
read_as_inputs cmp files loaded contents same h =
    let r = is_read cmp files loaded contents h in
    read_inputs cmp 0 files contents (subst (AreInputs cmp files) (sym r.whole) (are_inputs cmp files loaded r.tables same r.reading r.stated))

-- as many were read as there are inputs
pub same_read : (loaded : List (ℕ × List ℕ)) (files : List InputFile) (of : InputFile → List ℕ) → map (λ (t : ℕ × List ℕ). t.1) loaded ≡ map of files → length loaded ≡ length files
same_read loaded files of h = sym (length-map loaded (λ (t : ℕ × List ℕ). t.1)) ∙ ap (λ (bs : List (List ℕ)). length bs) h ∙ length-map files of

pub held_length : (tables : List NumberedContents) (files : List InputFile) (of : InputFile → List ℕ) → map (λ (t : ℕ × List ℕ). t.1) (held_bytes tables) ≡ map of files → length tables ≡ length files
held_length tables files of h = sym (length-map tables (λ (t : NumberedContents). (t.number, t.contents.bytes))) ∙ same_read (held_bytes tables) files of h

-- as many are checked as were read
checked_length : (cmp : List ℕ → List ℕ → Ordering) (loaded : List (ℕ × List ℕ)) (tables : List NumberedContents) → tables_reading cmp loaded ≡ Ok tables → length tables ≡ length loaded
checked_length cmp [] tables h = ap length (sym (ok_is [] tables h))
checked_length cmp (l ∷ loaded) tables h =
    let c = checked_parts cmp l loaded tables h in
    ap length (sym c.whole) ∙ ap suc (checked_length cmp loaded c.behind c.rest)

pub read_length : (cmp : List ℕ → List ℕ → Ordering) (loaded : List (ℕ × Vec ℕ)) (tables : List NumberedContents) → tables_reading cmp (tables_in loaded) ≡ Ok tables → length tables ≡ length loaded
read_length cmp loaded tables h = checked_length cmp (tables_in loaded) tables h ∙ length-map loaded (λ (t : ℕ × Vec ℕ). (t.0, t.1.items))
