-- A compaction that reads its inputs alone, as a part of a call.
use Rattle.std.proofs.Common.{◌≡◌, ℕ, true, ◌∷◌, [], List, ◌++◌, append_assoc, map, codes, Option, Some, None, Result, Ok, Err, IfErr, IfOk, IsErrAnd, OnOk, refl, sym, ap, subst, ◌∙◌, inl, inr}
use Rattle.std.specs.Prelude.{is_some}
use Rattle.std.proofs.lemmas.List.{map-append}
use Rattle.std.specs.declared.cmp.Ordering.{Ordering}
use Rattle.folder.specs.Answers.{IsThen, UnlessMemory, fault}
use Rattle.folder.specs.fault.Fault.{Fault}
use Rattle.folder.specs.fault.FaultName.TheVariants.{Device}
use Rattle.folder.specs.Comparator.{ShortKeys}
use Rattle.folder.specs.Version.{State}
use Rattle.folder.proofs.LoadingLemmas.{told_since}
use Rattle.folder.proofs.PutLemmas.{moved_to, put_same}
use Rattle.folder.specs.CallSequence.{MakesCalls, ShowsAll}
use Rattle.folder.specs.Calls.{Call, Done, Files, FolderView, Step, Tells}
use Rattle.folder.specs.Folder.{TellsSame}
use Rattle.folder.specs.Levels.{file_numbers}
use Rattle.folder.specs.LoadedTables.{IsLoaded}
use Rattle.folder.specs.Manifest.{order_name}
use Rattle.folder.specs.Names.{current_text, manifest_name, temporary_name}
use Rattle.folder.specs.ReadsAs.{IsFileIn, ReadsAs}
use Rattle.folder.specs.declared.order.Order.{Order}
use Rattle.install.specs.Install.{SurvivesCrash, current_calls, install_calls, next_version_tables, table_calls, temporary_calls, write_calls, version_with}
use Rattle.checks.specs.LawfulTables.{IsLawfulTables}
use Rattle.reads.specs.Tables.{NumberedContents}
use Rattle.pick.specs.PickedInputs.{IsInputsAnswer, PickedInputs}
use Rattle.compact.specs.OneThread.{Answer}
use Rattle.compact.specs.declared.settings.Settings.{Settings}
use Rattle.store.specs.FolderRequest.{manifest_of}
use Rattle.store.specs.Step.{step_in, step_of}
use Rattle.store.specs.Outcome.{ChosenCompaction, IsTestAnswer}
use Rattle.store.specs.FoundInputs.{IsStepLeft}
use Rattle.store.specs.StepLeft.{IsStepInstalled, IsVersionLeft, PassesTest}
use Rattle.checks.specs.TestedTables.{IsTested, totals_of}
use Rattle.checks.specs.declared.version_totals.VersionTotals.{VersionTotals}
use Rattle.store.specs.declared.compaction_step.CompactionStep.{CompactionStep}
use Rattle.store.proofs.Flow.{loaded_in, no_refusal, told_themselves, same_refusal}
use Rattle.store.proofs.InputNumbers.{one_table}
use Rattle.store.proofs.InstallPart.{Promises, all_made, step_told, still, survives_on}
use Rattle.install.specs.FolderChange.{FolderChange}
use Rattle.install.proofs.Changes.{change_by}
use Rattle.store.specs.OrderView.{OrderView, order_by}

-- ---- CURRENT after an installation

shows_split : (one two : List Step) (s last : FolderView) → ShowsAll (one ++ two) s last → (middle : FolderView) × ShowsAll one s middle × ShowsAll two middle last
shows_split [] two s last h = (s, refl, h)
shows_split (step ∷ one) two s last h = let rest = shows_split one two h.0 last h.2 in (rest.0, (h.0, h.1, rest.1), rest.2)

named_after : (number : ℕ) (m last : FolderView) → ShowsAll (map Done (temporary_calls number ++ current_calls number)) m last → last.files (codes "CURRENT") ≡ Some (current_text number)
named_after number m last (one, made, (two, synced, (three, kept, (four, renamed, (five, settled, same))))) =
    let t = temporary_name number in
    ap (λ (s : FolderView). s.files (codes "CURRENT")) (same ∙ settled ∙ renamed)
    ∙ moved_to None three.files t (codes "CURRENT")
    ∙ ap (λ (s : FolderView). s.files t) (kept ∙ synced)
    ∙ ap (λ (s : FolderView). s.files t) made
    ∙ put_same m.files t (Some (current_text number))

-- the calls of an installation end with those that name the manifest
last_calls : (number : ℕ) (groups : List (List (ℕ × List ℕ))) (manifest : List ℕ)
    → map Done (install_calls number groups manifest) ≡ map Done (table_calls groups ++ write_calls (manifest_name number) manifest) ++ map Done (temporary_calls number ++ current_calls number)
last_calls number groups manifest =
    let tables = table_calls groups in
    let write = write_calls (manifest_name number) manifest in
    ap (map Done)
    (ap (λ (calls : List Call). calls ++ current_calls number) (sym (append_assoc tables write (temporary_calls number)))
    ∙ append_assoc (tables ++ write) (temporary_calls number) (current_calls number))
    ∙ map-append Done (tables ++ write) (temporary_calls number ++ current_calls number)

pub current_named : {T : Type 0} (number : ℕ) (groups : List (List (ℕ × List ℕ))) (manifest : List ℕ) (before after : List Step) (old new : List ℕ → Option (List ℕ) → Type 0) (r : Result T Fault) (x : T) (files : Files)
    → r ≡ Ok x → MakesCalls (install_calls number groups manifest) before after old new r → Tells old files → new (codes "CURRENT") (Some (current_text number))
current_named number groups manifest before after old new r x files was runs tells =
    let s : FolderView = record { files = files; synced = λ name. true } in
    let last = runs.change s tells in
    let steps = all_made (install_calls number groups manifest) runs.steps r x was runs.made ∙ last_calls number groups manifest in
    let shown = subst (λ (t : List Step). ShowsAll t s last.0) steps last.1 in
    let parts = shows_split (map Done (table_calls groups ++ write_calls (manifest_name number) manifest)) (map Done (temporary_calls number ++ current_calls number)) s last.0 shown in
    (last.2 (codes "CURRENT") (Some (current_text number))).1 (named_after number parts.0 last.0 parts.2)

-- ---- what is left

pub step_installed : {T : Type 0} (name : List ℕ) (order : Order) (cmp : List ℕ → List ℕ → Ordering) (short_keys : ShortKeys) (v : State) (loaded : List (ℕ × List ℕ)) (level : ℕ) (s : Settings) (picked : PickedInputs) (answer : Answer)
    (first before after : List Step) (zero old new : List ℕ → Option (List ℕ) → Type 0) (r : Result T Fault) (q : Result CompactionStep Fault)
    → order_name order ≡ name → ChosenCompaction (order_by order cmp short_keys) (version_with v loaded) (IsInputsAnswer cmp v level) None s picked answer → ((P : Type 0) → OnOk r P → OnOk q P) → before ≡ first → TellsSame zero old
    → OnOk q (new (codes "CURRENT") (Some (current_text (manifest_of v)))) → IfOk q (λ step. step_in step ≡ step_of v picked answer) → IfErr q (λ e. UnlessMemory e (e ≡ fault Device))
    → Promises name cmp v (manifest_of v) answer before after old new r → IsStepLeft (order_by order cmp short_keys) (version_with v loaded) level s (change_by first after zero new) q
step_installed name order cmp short_keys v loaded level s picked answer first before after zero old new r q is done f same told named step refused promises =
    let next = done.edited.next in
    let tables' = next_version_tables cmp next answer.tables loaded in
    inr (record {
      picked = picked;
      answer = answer;
      compacted = done;
      installed = record {
        survives = subst (λ (b : List Step). SurvivesCrash cmp order (version_with v loaded) (version_with next tables') (change_by b after zero new) q) same
            (survives_on cmp order v next loaded tables' before after zero old new r q f (still zero old told) (promises order next loaded is done.edited.edited));
        named = named;
        is_step = step;
        refused = refused;
      };
    })

-- a step of a version with these tables, told from earlier calls on that only read
pub version_left : (by : OrderView) (files : Files) (v : State) (loaded : List (ℕ × List ℕ)) (level : ℕ) (s : Settings) (first before after : List Step) (zero old new : List ℕ → Option (List ℕ) → Type 0) (r : Result CompactionStep Fault)
    → ReadsAs by.cmp by.order v loaded files → before ≡ first → TellsSame zero old
    → IsStepLeft by (version_with v loaded) level s (change_by before after old new) r → IsVersionLeft by v files level s (change_by first after zero new) r
version_left by files v loaded level s first before after zero old new r reads same told (inl u) =
    inl (record { calls = u.calls ∙ same; same = told_since zero old new told u.same; refused = u.refused })
version_left by files v loaded level s first before after zero old new r reads same told (inr i) =
    inr (loaded, reads, step_told by (version_with v loaded) level s first before after zero old new r same (still zero old told) i)

-- files hold the tables of some numbers in one way
one_loading : (files : Files) (numbers : List ℕ) (a b : List (ℕ × List ℕ)) → IsLoaded (IsFileIn files) numbers (Ok a) → IsLoaded (IsFileIn files) numbers (Ok b) → b ≡ a
one_loading files [] [] [] h k = refl
one_loading files [] [] (t ∷ b) h k = absurd k
one_loading files [] (t ∷ a) b h k = absurd h
one_loading files (n ∷ numbers) [] b h k = absurd h
one_loading files (n ∷ numbers) (t ∷ a) [] h k = absurd k
one_loading files (n ∷ numbers) ((m, x) ∷ a) ((l, y) ∷ b) h k =
    let number : l ≡ m = k.0.0 ∙ sym h.0.0 in
    let bytes : y ≡ x = one_table files n x y h.0.1 k.0.1 in
    ap (λ (i : ℕ). (i, y) ∷ b) number ∙ ap (λ (z : List ℕ). (m, z) ∷ b) bytes ∙ ap (λ (ts : List (ℕ × List ℕ)). (m, x) ∷ ts) (one_loading files numbers a b h.1 k.1)

-- so what is left of a version is left of it with the tables as which it reads
pub step_left : (by : OrderView) (files : Files) (v : State) (loaded : List (ℕ × List ℕ)) (level : ℕ) (s : Settings) (change : FolderChange) (r : Result CompactionStep Fault)
    → ReadsAs by.cmp by.order v loaded files → IsVersionLeft by v files level s change r → IsStepLeft by (version_with v loaded) level s change r
step_left by files v loaded level s change r reads (inl u) = inl u
step_left by files v loaded level s change r reads (inr (own, same, i)) =
    inr (subst (λ (ts : List (ℕ × List ℕ)). IsStepInstalled by (version_with v ts) level s change r) (one_loading files (file_numbers by.cmp v) loaded own reads.loaded same.loaded) i)

-- a call that was refused answers no value
pub no_ok : {T : Type 0} (P : Type 0) (q : Result T Fault) (e : Fault) → IsErrAnd q (λ f. f ≡ e) → OnOk q P
no_ok P (Ok x) e h = absurd h
no_ok P (Err f) e h = tt

-- it answers this refusal
pub refused_err : {T : Type 0} (q : Result T Fault) (e : Fault) (P : Fault → Type 0) → IsErrAnd q (λ f. f ≡ e) → P e → IfErr q P
refused_err (Ok x) e P h p = tt
refused_err (Err f) e P h p = subst P (sym h) p

-- ---- the test of a version

-- what a version has that passed its test
pub record HasPassed (cmp : List ℕ → List ℕ → Ordering) (files : Files) (v : State) : Type 0 where
  pub loaded : List (ℕ × List ℕ)
  pub held : IsLoaded (IsFileIn files) (file_numbers cmp v) (Ok loaded)
  pub tables : List NumberedContents
  pub sound : IsLawfulTables cmp v loaded (Ok tables)

pub has_passed : (cmp : List ℕ → List ℕ → Ordering) (tells : List ℕ → Option (List ℕ) → Type 0) (files : Files) (v : State) (tested : VersionTotals) → Tells tells files → IsTested tells cmp v (Ok tested) → HasPassed cmp files v
has_passed cmp tells files v tested told (Err e, (l, is)) = absurd (no_refusal tested e is)
has_passed cmp tells files v tested told (Ok loaded, (l, (Err e, (k, is)))) = absurd (no_refusal tested e is)
has_passed cmp tells files v tested told (Ok loaded, (l, (Ok tables, (k, is)))) = record { loaded = loaded; held = loaded_in tells files (file_numbers cmp v) (Ok loaded) told l; tables = tables; sound = k }

-- its refusal is that of what follows
pub test_ends : {T : Type 0} (cmp : List ℕ → List ℕ → Ordering) (IsNext : List (ℕ × List ℕ) → List NumberedContents → Result T Fault → Type 0) (tells : List ℕ → Option (List ℕ) → Type 0) (files : Files) (v : State) (e : Fault)
    → Tells tells files → IsTested tells cmp v (Err e) → IsThen (IsLoaded (IsFileIn files) (file_numbers cmp v)) (λ loaded. IsThen (IsLawfulTables cmp v loaded) (IsNext loaded)) (Err e)
test_ends cmp IsNext tells files v e told (Err d, (l, is)) =
    (Err d, (loaded_in tells files (file_numbers cmp v) (Err d) told l, ap (λ (x : Fault). Err x) (same_refusal {Y = VersionTotals} e d is)))
test_ends cmp IsNext tells files v e told (Ok loaded, (l, (Err d, (k, is)))) =
    (Ok loaded, (loaded_in tells files (file_numbers cmp v) (Ok loaded) told l, (Err d, (k, ap (λ (x : Fault). Err x) (same_refusal {Y = VersionTotals} e d is)))))
test_ends cmp IsNext tells files v e told (Ok loaded, (l, (Ok tables, (k, is)))) = absurd (no_refusal (totals_of tables) e (sym is))

-- whether a test is asked for makes its answer, not what it may hold
pub same_test : (one other : Option ℕ) (files : Files) (cmp : List ℕ → List ℕ → Ordering) (v : State) (answer : Result (Unit {0}) Fault) → is_some one ≡ is_some other → IsTestAnswer one files cmp v answer → IsTestAnswer other files cmp v answer
same_test None None files cmp v answer is h = h
same_test (Some m) (Some n) files cmp v answer is h = h
same_test None (Some n) files cmp v answer is h = absurd (cc is)
same_test (Some m) None files cmp v answer is h = absurd (cc is)

-- a version has passed the test that was asked for, or one that its caller knows of
pub passed_by : (test : Option ℕ) (cmp : List ℕ → List ℕ → Ordering) (files : Files) (v : State) → IsTestAnswer test files cmp v (Ok tt) → (test ≡ None → PassesTest files cmp v) → HasPassed cmp files v
passed_by None cmp files v is known = let k = known refl in has_passed cmp (IsFileIn files) files v k.0 (told_themselves files) k.1
passed_by (Some memory) cmp files v (Ok totals, (h, is)) known = has_passed cmp (IsFileIn files) files v totals (told_themselves files) h
passed_by (Some memory) cmp files v (Err e, (h, is)) known = absurd (no_refusal tt e is)
