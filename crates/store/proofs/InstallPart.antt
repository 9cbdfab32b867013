-- The installation of a compaction, as a part of the call.
use Rattle.std.proofs.Common.{◌≡◌, ℕ, List, ◌++◌, map, codes, Option, Some, Result, Ok, Err, IfErr, IfOk, IsErrAnd, OnOk, sym, ap, subst, ◌∙◌, inl, inr}
use Rattle.std.specs.declared.cmp.Ordering.{Ordering}
use Rattle.folder.specs.Answers.{UnlessMemory, fault}
use Rattle.folder.specs.fault.Fault.{Fault}
use Rattle.folder.specs.fault.FaultName.TheVariants.{Device}
use Rattle.folder.proofs.Refusals.{unless_from}
use Rattle.folder.specs.Version.{State}
use Rattle.folder.specs.Calls.{Call, Done, Files, Step, Tells}
use Rattle.folder.specs.CallSequence.{AreMadeBy, MakesCalls}
use Rattle.folder.specs.Folder.{TellsSame}
use Rattle.folder.specs.Names.{current_text}
use Rattle.folder.specs.OpenAnswer.{IsOpened, IsStopped}
use Rattle.folder.specs.ReadsAs.{IsFileIn}
use Rattle.folder.specs.declared.order.Order.{Order}
use Rattle.install.specs.Install.{IsEditedBy, LoadedVersion, SurvivesCrash, next_version_tables, next_with, version_with}
use Rattle.install.proofs.Moments.{made_by}
use Rattle.compact.specs.OneThread.{Answer}
use Rattle.store.specs.Step.{StepView, step_of}
use Rattle.store.specs.StepLeft.{IsFolderLeft, IsInstalled, IsStepInstalled, IsVersionLeft}
use Rattle.folder.specs.Orders.{order_cmp}
use Rattle.compact.specs.declared.settings.Settings.{Settings}
use Rattle.store.specs.VersionSync.{sync_calls}
use Rattle.store.specs.declared.compaction_step.CompactionStep.{CompactionStep}
use Rattle.store.proofs.Synced.{version_stands}
use Rattle.store.proofs.SyncsTold.{syncs_tell}
use Rattle.install.proofs.Changes.{change_by}
use Rattle.store.specs.OrderView.{OrderView, order_view}
use Rattle.folder.specs.Manifest.{order_name}

-- what survives of one answer does of another one that is a value only if the first is
pub survives_on : {T E U G : Type 0} (cmp : List ℕ → List ℕ → Ordering) (order : Order) (v next : State) (tables tables' : List (ℕ × List ℕ)) (before after : List Step) (old middle new : List ℕ → Option (List ℕ) → Type 0) (r : Result T E) (q : Result U G)
    → ((P : Type 0) → OnOk r P → OnOk q P) → ((files : Files) → Tells old files → Tells middle files)
    → SurvivesCrash cmp order (version_with v tables) (version_with next tables') (change_by before after middle new) r → SurvivesCrash cmp order (version_with v tables) (version_with next tables') (change_by before after old new) q
survives_on cmp order v next tables tables' before after old middle new r q f told h = record {
  any_moment = h.any_moment;
  installed = λ start stands. f _ (h.installed start stands);
  read = λ files tells reads. let x = h.read files (told files tells) reads in (x.0, x.1, x.2, f _ x.3);
}

-- what an installation promises of each edited version
abbrev pub Promises : {T : Type 0} → List ℕ → (List ℕ → List ℕ → Ordering) → State → ℕ → Answer → List Step → List Step → (List ℕ → Option (List ℕ) → Type 0) → (List ℕ → Option (List ℕ) → Type 0) → Result T Fault → Type 0
Promises name cmp v number answer before after old new r =
    (order : Order) (next : State) (tables : List (ℕ × List ℕ)) → order_name order ≡ name → IsEditedBy cmp v number answer.tables answer.edit next
    → SurvivesCrash cmp order (version_with v tables) (version_with next (next_version_tables cmp next answer.tables tables)) (change_by before after old new) r

-- a refusal of the installation is Device or Memory
pub stopped_named : {T : Type 0} (before now : ℕ) (r : Result T Fault) (e : Fault) → IsErrAnd r (λ f. f ≡ e) → UnlessMemory e (IsStopped before now e) → IfErr r (λ f. UnlessMemory f (f ≡ fault Device))
stopped_named before now (Ok x) e h given = absurd h
stopped_named before now (Err f) e h given =
    subst (λ (x : Fault). UnlessMemory x (x ≡ fault Device)) (sym h) (unless_from e (IsStopped before now e) (e ≡ fault Device) (λ s. s.0) given)

-- what holds at a value of a call that was refused holds of each answer
pub refused_on : {T U : Type 0} (r : Result T Fault) (q : Result U Fault) (e : Fault) (P : Type 0) → IsErrAnd q (λ f. f ≡ e) → OnOk r P → OnOk q P
refused_on r (Ok x) e P h given = absurd h
refused_on r (Err f) e P h given = tt

-- a call that was refused answers no value
pub refused_ok : {T : Type 0} (q : Result T Fault) (e : Fault) (P : T → Type 0) → IsErrAnd q (λ f. f ≡ e) → IfOk q P
refused_ok (Ok x) e P h = absurd h
refused_ok (Err f) e P h = tt

pub valued_on : {T U : Type 0} (r : Result T Fault) (x : T) (q : Result U Fault) (P : Type 0) → r ≡ Ok x → OnOk r P → OnOk q P
valued_on r x (Ok y) P is given = subst (λ (a : Result _ Fault). OnOk a P) is given
valued_on r x (Err e) P is given = tt

-- ---- opened and synced folders

pub still : (old new : List ℕ → Option (List ℕ) → Type 0) → TellsSame old new → (files : Files) → Tells old files → Tells new files
still old new same files tells name held = (λ h. (tells name held).0 ((same name held).1 h), λ h. (same name held).0 ((tells name held).1 h))

-- an installation, told from earlier calls on
pub installed_told : (by : OrderView) (v next : LoadedVersion) (step : StepView) (first before after : List Step) (zero old new : List ℕ → Option (List ℕ) → Type 0) (r : Result CompactionStep Fault)
    → before ≡ first → ((files : Files) → Tells zero files → Tells old files) → IsInstalled by v next step (change_by before after old new) r → IsInstalled by v next step (change_by first after zero new) r
installed_told by v next step first before after zero old new r same told i = record {
  survives = subst (λ (b : List Step). SurvivesCrash by.cmp by.order v next (change_by b after zero new) r) same
      (survives_on by.cmp by.order v.version next.version v.tables next.tables before after zero old new r r (λ P x. x) told i.survives);
  named = i.named;
  is_step = i.is_step;
  refused = i.refused;
}

-- a step
pub step_told : (by : OrderView) (v : LoadedVersion) (level : ℕ) (s : Settings) (first before after : List Step) (zero old new : List ℕ → Option (List ℕ) → Type 0) (r : Result CompactionStep Fault)
    → before ≡ first → ((files : Files) → Tells zero files → Tells old files) → IsStepInstalled by v level s (change_by before after old new) r → IsStepInstalled by v level s (change_by first after zero new) r
step_told by v level s first before after zero old new r same told i = record {
  picked = i.picked;
  answer = i.answer;
  compacted = i.compacted;
  installed = installed_told by v (next_with by.cmp i.compacted.edited.next i.answer.tables v.tables) (step_of v.version i.picked i.answer) first before after zero old new r same told i.installed;
}

-- the version was opened, and its sync was refused
pub sync_refused : {T : Type 0} (order : Order) (v : State) (manifest : ℕ) (files : Files) (level : ℕ) (s : Settings) (first before after : List Step) (zero old new : List ℕ → Option (List ℕ) → Type 0) (r : Result T Fault) (q : Result CompactionStep Fault)
    → IsOpened (IsFileIn files) (Ok (order, v)) → files (codes "CURRENT") ≡ Some (current_text manifest) → before ≡ first → TellsSame zero old → MakesCalls (sync_calls (order_cmp order) v manifest) before after old new r → OnOk q ⊥
    → IsFolderLeft files level s (change_by first after zero new) q
sync_refused order v manifest files level s first before after zero old new r q opened named is same runs refused =
    let calls = sync_calls (order_cmp order) v manifest in
    inr (record {
      now = record { order = order; version = v; manifest = manifest };
      opened = opened;
      named = named;
      left = inl (record {
        steps = runs.steps;
        made = made_by calls runs.steps r runs.made;
        calls = runs.appended ∙ ap (λ (t : List Step). t ++ runs.steps) is;
        same = λ fs tells. syncs_tell (order_cmp order) v manifest before after old new r runs fs (still zero old same fs tells);
        refused = refused;
      });
      stands = λ tables start. version_stands (order_cmp order) order v manifest tables start first;
    })

-- the calls of a sync that was not refused
pub all_made : {T : Type 0} (calls : List Call) (steps : List Step) (r : Result T Fault) (x : T) → r ≡ Ok x → AreMadeBy calls steps r → steps ≡ map Done calls
all_made {T = T} calls steps r x was made = subst (λ (q : Result T Fault). AreMadeBy calls steps q) was made

-- what was synced is what was opened
pub of_opened : (P : Order → State → ℕ → Type 0) (a b : Order) (v w : State) (m n : ℕ) → (a ≡ b) × (v ≡ w) × (m ≡ n) → P a v m → P b w n
of_opened P a b v w m n same h = subst (λ (k : ℕ). P b w k) same.2 (subst (λ (x : State). P b x m) same.1 (subst (λ (o : Order). P o v m) same.0 h))

-- the version was opened and synced, and then compacted
pub synced_left : {T : Type 0} (order : Order) (v : State) (manifest : ℕ) (files : Files) (level : ℕ) (s : Settings) (first before synced after : List Step) (zero old middle new : List ℕ → Option (List ℕ) → Type 0) (r : Result T Fault) (x : T) (q : Result CompactionStep Fault)
    → IsOpened (IsFileIn files) (Ok (order, v)) → files (codes "CURRENT") ≡ Some (current_text manifest) → before ≡ first → TellsSame zero old → r ≡ Ok x → MakesCalls (sync_calls (order_cmp order) v manifest) before synced old middle r
    → IsVersionLeft (order_view order) v files level s (change_by synced after middle new) q → IsFolderLeft files level s (change_by first after zero new) q
synced_left order v manifest files level s first before synced after zero old middle new r x q opened named is same was runs left =
    let calls = sync_calls (order_cmp order) v manifest in
    let told = λ (fs : Files) (tells : Tells zero fs). syncs_tell (order_cmp order) v manifest before synced old middle r runs fs (still zero old same fs tells) in
    let all : runs.steps ≡ map Done calls = all_made calls runs.steps r x was runs.made in
    inr (record {
      now = record { order = order; version = v; manifest = manifest };
      opened = opened;
      named = named;
      left = elim left [
        | inl u ↦ inl (record {
          steps = runs.steps;
          made = made_by calls runs.steps r runs.made;
          calls = u.calls ∙ (runs.appended ∙ ap (λ (t : List Step). t ++ runs.steps) is);
          same = λ fs tells. still middle new u.same fs (told fs tells);
          refused = u.refused;
        })
        | inr x ↦ inr (
          x.0,
          x.1,
          step_told (order_view order) (version_with v x.0) level s (first ++ map Done calls) synced after zero middle new q
              (runs.appended ∙ (ap (λ (t : List Step). t ++ runs.steps) is ∙ ap (λ (t : List Step). first ++ t) all)) told x.2,
        )
      ];
      stands = λ tables start. version_stands (order_cmp order) order v manifest tables start first;
    })
