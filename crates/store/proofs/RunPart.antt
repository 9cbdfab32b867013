-- The calls of a compaction, as a part of those of the call.
use Rattle.std.proofs.Common.{◌≡◌, ◌⊎◌, ℕ, List, ◌++◌, map, codes, Some, Result, Ok, Err, IfErr, IsErrAnd, OnOk, refl, sym, ap, subst, ◌∙◌, inl, inr}
use Rattle.std.specs.declared.cmp.Ordering.{Ordering}
use Rattle.table.specs.Key.{IsInternalKey}
use Rattle.table.specs.TableBytes.{AreBytes}
use Rattle.folder.proofs.Refusals.{unless_from}
use Rattle.folder.specs.Answers.{UnlessMemory, fault}
use Rattle.folder.specs.fault.Fault.{Fault}
use Rattle.folder.specs.fault.FaultName.TheVariants.{Changed, Device}
use Rattle.folder.specs.Comparator.{ShortKeys}
use Rattle.folder.specs.Version.{State}
use Rattle.folder.proofs.LoadingLemmas.{loaded_before, told_since}
use Rattle.folder.specs.Calls.{Call, Done, Files, Step, Tells, ToldFiles as Told}
use Rattle.folder.specs.CallSequence.{MakesCalls, TellsThrough}
use Rattle.folder.specs.Folder.{TellsSame}
use Rattle.folder.specs.Names.{current_text}
use Rattle.folder.specs.OpenAnswer.{IsOpened}
use Rattle.folder.specs.Orders.{order_cmp}
use Rattle.folder.specs.declared.folder.Folder.{Ghosts}
use Rattle.folder.specs.declared.order.Order.{Order}
use Rattle.install.specs.GroupedInstallation.{tables_of_groups}
use Rattle.install.specs.Install.{IsStoppedOrChanged, calls_before_rename, install_calls, manifest_bytes}
use Rattle.install.proofs.Moments.{made_by}
use Rattle.pick.specs.PickedInputs.{PickedInputs}
use Rattle.compact.specs.OneThread.{Answer}
use Rattle.compact.specs.declared.settings.Settings.{Settings}
use Rattle.store.specs.Compaction.{IsSynced}
use Rattle.store.specs.FolderRequest.{manifest_of}
use Rattle.store.specs.InputsCompaction.{input_numbers}
use Rattle.store.specs.FoundInputs.{IsRun}
use Rattle.store.specs.Runs.{IsAnswerForLevel, IsAnswerInstalled, IsFolderRun, IsLevelRun}
use Rattle.store.specs.Step.{step_in, step_of}
use Rattle.store.specs.VersionSync.{sync_calls}
use Rattle.store.specs.declared.compaction_step.CompactionStep.{CompactionStep}
use Rattle.store.proofs.InstallPart.{all_made, refused_ok, still}
use Rattle.store.proofs.SyncsTold.{syncs_tell}
use Rattle.install.proofs.Changes.{change_by}

-- ---- calls of an installation

-- calls that were refused, as those of the answer that hands the refusal on
pub handed_calls : {T U : Type 0} (calls : List Call) (before after : List Step) (old new : Told) (r : Result T Fault) (q : Result U Fault) (e : Fault) → r ≡ Err e → IsErrAnd q (λ f. f ≡ e) → MakesCalls calls before after old new r → MakesCalls calls before after old new q
handed_calls calls before after old new r (Ok x) e was h k = absurd h
handed_calls {T = T} {U = U} calls before after old new r (Err f) e was h k =
    let same : MakesCalls {T = T} {E = Fault} calls before after old new (Err e) = subst (λ (a : Result T Fault). MakesCalls calls before after old new a) was k in
    record { steps = same.steps; made = same.made; appended = same.appended; change = same.change }

-- and those that were all made
pub passed_calls : {T U : Type 0} (calls : List Call) (before after : List Step) (old new : Told) (r : Result T Fault) (x : T) (y : U) → r ≡ Ok x → MakesCalls calls before after old new r → MakesCalls {T = U} {E = Fault} calls before after old new (Ok y)
passed_calls {T = T} calls before after old new r x y was k =
    let same : MakesCalls {T = T} {E = Fault} calls before after old new (Ok x) = subst (λ (a : Result T Fault). MakesCalls calls before after old new a) was k in
    record { steps = same.steps; made = same.made; appended = same.appended; change = same.change }

-- what holds of a refusal holds where it is handed on
pub handed_err : {T U : Type 0} (r : Result T Fault) (q : Result U Fault) (e : Fault) (P : Fault → Type 0) → r ≡ Err e → IsErrAnd q (λ f. f ≡ e) → IfErr r P → IfErr q P
handed_err r (Ok x) e P was h given = absurd h
handed_err {T = T} r (Err f) e P was h given =
    let at : P e = subst (λ (a : Result T Fault). IfErr a P) was given in
    subst P (sym h) at

pub stopped_as : {T : Type 0} (before now : ℕ) (r : Result T Fault) → IfErr r (λ e. UnlessMemory e (IsStoppedOrChanged before now e)) → IfErr r (λ e. UnlessMemory e ((e ≡ fault Device) ⊎ (e ≡ fault Changed)))
stopped_as before now (Ok x) given = tt
stopped_as before now (Err e) given = unless_from e (IsStoppedOrChanged before now e) ((e ≡ fault Device) ⊎ (e ≡ fault Changed)) (λ h. elim h [
  | inl stopped ↦ inl stopped.0
  | inr changed ↦ inr changed
]) given

-- an installation by the manifest of the version was refused
pub install_refused : {T : Type 0} (IsAnswer : PickedInputs → Answer → Type 0) (name : List ℕ) (cmp : List ℕ → List ℕ → Ordering) (v : State) (number : ℕ) (groups : List (List (ℕ × List ℕ))) (picked : PickedInputs) (answer : Answer)
    (before after : List Step) (old new : Told) (failed now : ℕ) (r : Result T Fault) (q : Result CompactionStep Fault) (e : Fault) → number ≡ manifest_of v → tables_of_groups groups ≡ answer.tables → IsAnswer picked answer → IsInternalKey picked.pointer.key → AreBytes answer.edit → r ≡ Err e → IsErrAnd q (λ f. f ≡ e)
    → MakesCalls (install_calls number groups (manifest_bytes name cmp v answer.edit)) before after old new r
    → IfErr r (λ f. f ≡ fault Changed → after ≡ before ++ map Done (calls_before_rename number groups (manifest_bytes name cmp v answer.edit)))
    → IfErr r (λ f. UnlessMemory f (IsStoppedOrChanged failed now f)) → IsRun IsAnswer name cmp v (change_by before after old new) q
install_refused IsAnswer name cmp v number groups picked answer before after old new failed now r q e numbered joined is internal bytes was h runs changed refused =
    let manifest = manifest_bytes name cmp v answer.edit in
    inr (record {
      picked = picked;
      answer = answer;
      is_answer = is;
      pointer = internal;
      bytes = bytes;
      calls = record {
        groups = groups;
        together = joined;
        runs = handed_calls (install_calls (manifest_of v) groups manifest) before after old new r q e was h
            (subst (λ (n : ℕ). MakesCalls (install_calls n groups manifest) before after old new r) numbered runs);
        changed = handed_err r q e (λ f. f ≡ fault Changed → after ≡ before ++ map Done (calls_before_rename (manifest_of v) groups manifest)) was h
            (subst (λ (n : ℕ). IfErr r (λ f. f ≡ fault Changed → after ≡ before ++ map Done (calls_before_rename n groups manifest))) numbered changed);
      };
      step = refused_ok q e (λ step. step_in step ≡ step_of v picked answer) h;
      refused = handed_err r q e (λ f. UnlessMemory f ((f ≡ fault Device) ⊎ (f ≡ fault Changed))) was h (stopped_as failed now r refused);
    })

-- and this one was done
pub install_done : {T : Type 0} (IsAnswer : PickedInputs → Answer → Type 0) (name : List ℕ) (cmp : List ℕ → List ℕ → Ordering) (v : State) (number : ℕ) (groups : List (List (ℕ × List ℕ))) (picked : PickedInputs) (answer : Answer)
    (before after : List Step) (old new : Told) (r : Result T Fault) (x : T) (step : CompactionStep) → number ≡ manifest_of v → tables_of_groups groups ≡ answer.tables → IsAnswer picked answer → IsInternalKey picked.pointer.key → AreBytes answer.edit → r ≡ Ok x
    → MakesCalls (install_calls number groups (manifest_bytes name cmp v answer.edit)) before after old new r
    → step_in step ≡ step_of v picked answer → IsRun IsAnswer name cmp v (change_by before after old new) (Ok step)
install_done IsAnswer name cmp v number groups picked answer before after old new r x step numbered joined is internal bytes was runs made =
    let manifest = manifest_bytes name cmp v answer.edit in
    inr (record {
      picked = picked;
      answer = answer;
      is_answer = is;
      pointer = internal;
      bytes = bytes;
      calls = record {
        groups = groups;
        together = joined;
        runs = passed_calls (install_calls (manifest_of v) groups manifest) before after old new r x step was
            (subst (λ (n : ℕ). MakesCalls (install_calls n groups manifest) before after old new r) numbered runs);
        changed = tt;
      };
      step = made;
      refused = tt;
    })

-- ---- the same calls, told otherwise

-- an answer that is another one too
pub run_as : (IsOne IsOther : PickedInputs → Answer → Type 0) (name : List ℕ) (cmp : List ℕ → List ℕ → Ordering) (v : State) (before after : List Step) (old new : Told) (r : Result CompactionStep Fault)
    → ((picked : PickedInputs) (answer : Answer) → IsOne picked answer → IsOther picked answer) → IsRun IsOne name cmp v (change_by before after old new) r → IsRun IsOther name cmp v (change_by before after old new) r
run_as IsOne IsOther name cmp v before after old new r f (inl u) = inl u
run_as IsOne IsOther name cmp v before after old new r f (inr i) =
    inr (record { picked = i.picked; answer = i.answer; is_answer = f i.picked i.answer i.is_answer; pointer = i.pointer; bytes = i.bytes; calls = i.calls; step = i.step; refused = i.refused })

-- calls, told from earlier ones on
pub calls_since : {T : Type 0} (calls : List Call) (first before after : List Step) (zero old new : Told) (r : Result T Fault) → before ≡ first → ((files : Files) → Tells zero files → Tells old files)
    → MakesCalls calls before after old new r → MakesCalls calls first after zero new r
calls_since calls first before after zero old new r same told k = record {
  steps = k.steps;
  made = k.made;
  appended = k.appended ∙ ap (λ (t : List Step). t ++ k.steps) same;
  change = λ s tells. k.change s (told s.files tells);
}

pub installed_since : (IsAnswer : PickedInputs → Answer → Type 0) (name : List ℕ) (cmp : List ℕ → List ℕ → Ordering) (v : State) (first before after : List Step) (zero old new : Told) (r : Result CompactionStep Fault)
    → before ≡ first → ((files : Files) → Tells zero files → Tells old files) → IsAnswerInstalled IsAnswer name cmp v (change_by before after old new) r → IsAnswerInstalled IsAnswer name cmp v (change_by first after zero new) r
installed_since IsAnswer name cmp v first before after zero old new r same told i =
    let manifest = manifest_bytes name cmp v i.answer.edit in
    record {
      picked = i.picked;
      answer = i.answer;
      is_answer = i.is_answer;
      pointer = i.pointer;
      bytes = i.bytes;
      calls = record {
        groups = i.calls.groups;
        together = i.calls.together;
        runs = calls_since (install_calls (manifest_of v) i.calls.groups manifest) first before after zero old new r same told i.calls.runs;
        changed = subst (λ (b : List Step). IfErr r (λ e. e ≡ fault Changed → after ≡ b ++ map Done (calls_before_rename (manifest_of v) i.calls.groups manifest))) same i.calls.changed;
      };
      step = i.step;
      refused = i.refused;
    }

-- a run, told from earlier calls on that only read
pub run_since : (IsAnswer : PickedInputs → Answer → Type 0) (name : List ℕ) (cmp : List ℕ → List ℕ → Ordering) (v : State) (first before after : List Step) (zero old new : Told) (r : Result CompactionStep Fault)
    → before ≡ first → TellsSame zero old → IsRun IsAnswer name cmp v (change_by before after old new) r → IsRun IsAnswer name cmp v (change_by first after zero new) r
run_since IsAnswer name cmp v first before after zero old new r same told (inl u) =
    inl (record { calls = u.calls ∙ same; same = told_since zero old new told u.same; refused = u.refused })
run_since IsAnswer name cmp v first before after zero old new r same told (inr i) =
    inr (installed_since IsAnswer name cmp v first before after zero old new r same (still zero old told) i)

-- an answer for a level, of a folder that told the same before
pub answer_before : (cmp : List ℕ → List ℕ → Ordering) (short_keys : ShortKeys) (old new : Told) → TellsSame old new → (v : State) (level : ℕ) (s : Settings) (picked : PickedInputs) (answer : Answer) → IsAnswerForLevel cmp short_keys new v level s picked answer → IsAnswerForLevel cmp short_keys old v level s picked answer
answer_before cmp short_keys old new same v level s picked answer h = (
  h.0,
  record {
    loaded = h.1.loaded;
    read = loaded_before old new (input_numbers picked.files) (Ok h.1.loaded) same h.1.read;
    contents = h.1.contents;
    stated = h.1.stated;
    answered = h.1.answered;
  },
)

-- ---- opened and synced folders

-- only syncs were made, and no value answered
synced_only : {T : Type 0} (order : Order) (v : State) (manifest : ℕ) (first before synced after : List Step) (zero old middle new : Told) (r : Result T Fault) (q : Result CompactionStep Fault)
    → before ≡ first → TellsSame zero old → MakesCalls (sync_calls (order_cmp order) v manifest) before synced old middle r → after ≡ synced → TellsSame middle new → OnOk q ⊥
    → IsSynced (sync_calls (order_cmp order) v manifest) (change_by first after zero new) q
synced_only order v manifest first before synced after zero old middle new r q is same runs still_calls still_told refused =
    let calls = sync_calls (order_cmp order) v manifest in
    record {
      steps = runs.steps;
      made = made_by calls runs.steps r runs.made;
      calls = still_calls ∙ (runs.appended ∙ ap (λ (t : List Step). t ++ runs.steps) is);
      same = λ fs tells. still middle new still_told fs (syncs_tell (order_cmp order) v manifest before synced old middle r runs fs (still zero old same fs tells));
      refused = refused;
    }

-- the version was opened, and its sync was refused
pub sync_stopped : {T F : Type 0} (g : Ghosts F) (first last : F) (order : Order) (v : State) (manifest level : ℕ) (s : Settings) (before : List Step) (old : Told) (r : Result T Fault) (q : Result CompactionStep Fault)
    → IsOpened (g.tells first) (Ok (order, v)) → g.tells first (codes "CURRENT") (Some (current_text manifest)) → before ≡ g.calls first → TellsSame (g.tells first) old
    → MakesCalls (sync_calls (order_cmp order) v manifest) before (g.calls last) old (g.tells last) r → OnOk q ⊥ → IsFolderRun g level s first last q
sync_stopped g first last order v manifest level s before old r q opened named is same runs refused =
    inr (record {
      now = record { order = order; version = v; manifest = manifest };
      opened = opened;
      named = named;
      runs = inl (synced_only order v manifest (g.calls first) before (g.calls last) (g.calls last) (g.tells first) old (g.tells last) (g.tells last) r q is same runs refl (λ name held. ((λ x. x), (λ x. x))) refused);
    })

-- the version was opened and synced, and then its level was compacted
pub synced_run : {T F : Type 0} (g : Ghosts F) (first at last : F) (order : Order) (v : State) (manifest level : ℕ) (s : Settings) (before : List Step) (old : Told) (r : Result T Fault) (x : T) (q : Result CompactionStep Fault)
    → IsOpened (g.tells first) (Ok (order, v)) → g.tells first (codes "CURRENT") (Some (current_text manifest)) → before ≡ g.calls first → TellsSame (g.tells first) old → r ≡ Ok x
    → MakesCalls (sync_calls (order_cmp order) v manifest) before (g.calls at) old (g.tells at) r
    → IsLevelRun order v level s (change_by (g.calls at) (g.calls last) (g.tells at) (g.tells last)) q → IsFolderRun g level s first last q
synced_run g first at last order v manifest level s before old r x q opened named is same was runs run =
    let zero = g.tells first in
    let synced = g.calls at in
    let middle = g.tells at in
    let calls = sync_calls (order_cmp order) v manifest in
    let all : runs.steps ≡ map Done calls = all_made calls runs.steps r x was runs.made in
    let since : synced ≡ g.calls first ++ map Done calls = runs.appended ∙ (ap (λ (t : List Step). t ++ runs.steps) is ∙ ap (λ (t : List Step). g.calls first ++ t) all) in
    let through : TellsThrough (map Done calls) old middle = subst (λ (t : List Step). TellsThrough t old middle) all runs.change in
    inr (record {
      now = record { order = order; version = v; manifest = manifest };
      opened = opened;
      named = named;
      runs = elim run [
        | inl u ↦ inl (synced_only order v manifest (g.calls first) before synced (g.calls last) zero old middle (g.tells last) r q is same runs u.calls u.same u.refused)
        | inr i ↦ inr (at, record { calls = since; change = λ w tells. through w (still zero old same w.files tells) }, i)
      ];
    })
