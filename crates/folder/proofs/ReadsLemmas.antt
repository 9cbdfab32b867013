-- What is read of files rests on a few names alone.
use Rattle.std.proofs.Common.{◌≡◌, ◌<◌, ◌^◌, ℕ, List, [], ◌∷◌, codes, Some, None, Result, Ok, Err, refl, sym, ap, ◌∙◌, inl, inr}
use Rattle.std.specs.List.{AllZip}
use Rattle.std.specs.declared.cmp.Ordering.{Ordering}
use Rattle.ikey.specs.Answers.{IsThen}
use Rattle.ikey.specs.fault.Fault.{Fault}
use Rattle.edit.specs.Version.{State}
use Rattle.folder.specs.Calls.{Files}
use Rattle.folder.specs.Levels.{file_numbers}
use Rattle.folder.specs.LoadedTables.{IsTableAnswer, IsTableOf}
use Rattle.folder.specs.Manifest.{IsManifestAnswer}
use Rattle.folder.specs.Names.{current_text, manifest_name, old_table_name, table_name}
use Rattle.folder.specs.OpenAnswer.{IsOpened}
use Rattle.folder.specs.ReadsAs.{Current, IsOneOf, Manifest, OldTable, ReadsAs, RestsOn, Table, IsFileIn}
use Rattle.folder.specs.declared.order.Order.{Order}
use Rattle.folder.proofs.OpeningLemmas.{manifest_answers}

-- the parts of what is opened
pub record Opened (files : Files) (order : Order) (v : State) : Type 0 where
  pub number : ℕ
  pub bytes : List ℕ
  pub small : number < 2 ^ 64
  pub current : files (codes "CURRENT") ≡ Some (current_text number)
  pub manifest : files (manifest_name number) ≡ Some bytes
  pub answer : IsManifestAnswer number bytes (Ok (order, v))

-- a step that came before an answer was answered
pub first_is : {A B : Type 0} (IsFirst : Result A Fault → Type 0) (IsNext : A → Result B Fault → Type 0) (x : B) → IsThen IsFirst IsNext (Ok x) → (a : A) × (IsFirst (Ok a) × IsNext a (Ok x))
first_is IsFirst IsNext x (Ok a, h) = (a, h)
first_is IsFirst IsNext x (Err e, h) = absurd (cc (h.1))

pub opened_parts : (files : Files) (order : Order) (v : State) → IsOpened (IsFileIn files) (Ok (order, v)) → Opened files order v
opened_parts files order v h =
    let one = first_is _ _ _ h in
    let two = first_is _ _ _ one.1.1 in
    let three = first_is _ _ _ two.1.1 in
    record {
      number = two.0;
      bytes = three.0;
      small = two.1.0.0;
      current = one.1.0 ∙ ap (λ (t : List ℕ). Some t) two.1.0.1;
      manifest = three.1.0;
      answer = three.1.1;
    }

pub opens : (files : Files) (order : Order) (v : State) → Opened files order v → IsOpened (IsFileIn files) (Ok (order, v))
opens files order v h = manifest_answers (IsFileIn files) (current_text h.number) h.number h.bytes h.current (h.small, refl) h.manifest (Ok (order, v)) h.answer

-- a table is the same if its names hold the same
pub table_same : (files now : Files) (number : ℕ) (bytes : List ℕ) → now (table_name number) ≡ files (table_name number)
    → (files (table_name number) ≡ None → now (old_table_name number) ≡ files (old_table_name number)) → IsTableAnswer (IsFileIn files) number (Ok bytes) → IsTableAnswer (IsFileIn now) number (Ok bytes)
table_same files now number bytes one two (inl h) = inl (one ∙ h)
table_same files now number bytes one two (inr h) = inr (one ∙ h.0, two h.0 ∙ h.1)

-- so are all tables
tables_same : (files now : Files) (numbers : List ℕ) (tables : List (ℕ × List ℕ))
    → ((number : ℕ) → IsOneOf numbers number → (now (table_name number) ≡ files (table_name number)) × (files (table_name number) ≡ None → now (old_table_name number) ≡ files (old_table_name number)))
    → AllZip (IsTableOf (IsFileIn files)) numbers tables → AllZip (IsTableOf (IsFileIn now)) numbers tables
tables_same files now [] [] same h = h
tables_same files now [] (t ∷ tables) same h = h
tables_same files now (n ∷ numbers) [] same h = h
tables_same files now (n ∷ numbers) (t ∷ tables) same h =
    let here = same n (inl refl) in
    ((h.0.0, table_same files now n t.1 here.0 here.1 h.0.1), tables_same files now numbers tables (λ number m. same number (inr m)) h.1)

-- what is read is the same if all that it rests on is
pub reads_same : (cmp : List ℕ → List ℕ → Ordering) (order : Order) (v : State) (tables : List (ℕ × List ℕ)) (files now : Files) → ReadsAs cmp order v tables files
    → ((name : List ℕ) → RestsOn cmp v files name → now name ≡ files name) → ReadsAs cmp order v tables now
reads_same cmp order v tables files now h same =
    let o = opened_parts files order v h.opened in
    record {
      opened = opens now order v (record {
        number = o.number;
        bytes = o.bytes;
        small = o.small;
        current = same _ Current ∙ o.current;
        manifest = same _ (Manifest o.number o.small o.current) ∙ o.manifest;
        answer = o.answer;
      });
      loaded = tables_same files now (file_numbers cmp v) tables (λ number m. (same _ (Table number m), λ none. same _ (OldTable number m none))) h.loaded;
    }

-- what it rests on then is what it rested on before
pub rests_back : (cmp : List ℕ → List ℕ → Ordering) (v : State) (files now : Files) → ((name : List ℕ) → RestsOn cmp v files name → now name ≡ files name)
    → (name : List ℕ) → RestsOn cmp v now name → RestsOn cmp v files name
rests_back cmp v files now same name Current = Current
rests_back cmp v files now same name (Manifest number small is) = Manifest number small (sym (same _ Current) ∙ is)
rests_back cmp v files now same name (Table number m) = Table number m
rests_back cmp v files now same name (OldTable number m none) = OldTable number m (sym (same _ (Table number m)) ∙ none)
