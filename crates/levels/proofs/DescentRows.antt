-- Compactions of one level after the other, with a removal after each: which calls they make, of any
-- folder.
use Rattle.std.proofs.Common.{Bool, Err, IsErrAnd, List, None, Ok, Option, Result, Some, [], ap, false, inl, inr, is_some, refl, subst, true, ℕ, ◌∙◌, ◌∷◌, ◌≡◌}
use Rattle.std.specs.Option.{IfSome}
use Rattle.std.specs.Prelude.{IfOk}
use Rattle.edit.specs.Answers.{fault, ◌>>=◌}
use Rattle.edit.specs.Version.{State, applied_by}
use Rattle.edit.specs.fault.Fault.{Fault}
use Rattle.edit.specs.fault.FaultName.TheVariants.{Memory}
use Rattle.folder.specs.Folder.{TellsSame}
use Rattle.folder.specs.Manifest.{order_name}
use Rattle.folder.specs.declared.folder.Folder.{Ghosts}
use Rattle.folder.specs.declared.order.Order.{Order}
use Rattle.install.specs.FolderChange.{FolderChange, change_of}
use Rattle.store.specs.Cleaning.{CleanTeller, IsCleaned, IsListRemoved, NamedVersion, named_version}
use Rattle.store.specs.Descent.{IsNextLevel}
use Rattle.store.specs.FolderRequest.{manifest_of}
use Rattle.store.specs.OpenedAfter.{IsOpenedAfter}
use Rattle.store.specs.Step.{StepView, step_in}
use Rattle.store.specs.Telling.{IsGoTold}
use Rattle.store.specs.declared.compaction_step.CompactionStep.{CompactionStep}
use Rattle.store.specs.declared.synced_version.SyncedVersion.{SyncedVersion}
use Rattle.levels.specs.DescentRuns.{DescentLink, IsDescentRun, IsGoing, IsLinkCleaned, IsLinkInstalled, IsStopTold}
use Rattle.levels.specs.LevelMade.{At, IsLevelMade, IsLevelMadeBy, IsMadeTold, Way, at_by, way_by}
use Rattle.levels.specs.LevelTaken.{IsLevelBegun}
use Rattle.levels.specs.declared.descent_end.DescentEnd.{DescentEnd}
use Rattle.levels.specs.declared.descent_end.DescentEnd.TheVariants.{AtBottom, Stopped}
use Rattle.store.proofs.Flow.{no_refusal as ok_refused, same_refusal, refusal}
use Rattle.levels.proofs.OpenedNext.{opened}
use Rattle.store.proofs.CleanParts.{reopening as taken}

abbrev answer : {Y : Type 0} → Y → Result Y Fault
answer y = Ok y

no_opening : (o : Order) (w : State) (m : ℕ) (e : Fault) → opened o w m ≡ Err e → ⊥
no_opening o w m e h = cc

-- its order and its number, or these
abbrev order_in : Order → Result (Order × State × ℕ) Fault → Order
order_in other (Ok (o, w, m)) = o
order_in other (Err e) = other

abbrev number_in : ℕ → Result (Order × State × ℕ) Fault → ℕ
number_in other (Ok (o, w, m)) = m
number_in other (Err e) = other

same_opening : (o p : Order) (w x : State) (m n : ℕ) → opened o w m ≡ opened p x n → (o ≡ p) × (m ≡ n)
same_opening o p w x m n h = (ap (order_in o) h, ap (number_in m) h)

-- what a folder is opened as keeps the order, and has the version's number
opened_so : (order : Order) (v : State) (bytes : List ℕ) (o : Order) (w : State) (m : ℕ) → IsOpenedAfter order v bytes (Ok (o, w, m)) → (o ≡ order) × (m ≡ manifest_of v)
opened_so order v bytes o w m (Err e, (h, is)) = absurd (no_opening o w m e is)
opened_so order v bytes o w m (Ok x, (h, is)) = by (applied_by (order_name order) v x) is
  where
    by : (r : Result State Fault) → opened o w m ≡ (r >>= λ (y : State). opened order y (manifest_of v)) → (o ≡ order) × (m ≡ manifest_of v)
    by (Ok y) same = same_opening o order w y m (manifest_of v) same
    by (Err e) same = absurd (no_opening o w m e same)

-- ---- a removal, with another answer that says the same

module _ {T U W : Type 0} (by : CleanTeller W) (v : NamedVersion) (change : FolderChange) (told told_now : W) (IsOne : Bool → T → Type 0) (IsOther : Bool → U → Type 0) where
  abbrev CleanedAs : {X : Type 0} → (Bool → X → Type 0) → Result X Fault → Type 0
  CleanedAs IsAsTold r = IsCleaned by v change told told_now IsAsTold r

  cut_list : (listed : W) (names : Option (List (List ℕ))) (e : Fault) → IsListRemoved by v change listed told_now IsOne names (refusal {Y = T} e) → IsListRemoved by v change listed told_now IsOther names (refusal {Y = U} e)
  cut_list listed None e h = absurd h.1
  cut_list listed (Some names) e (inl u) = inl (u.0, ap (λ (x : Fault). refusal {Y = U} x) (same_refusal {Y = T} e (fault Memory) u.1))
  cut_list listed (Some names) e (inr (last, a, ended)) =
      inr (last, record { removed = a.removed; obsolete = a.obsolete; run = record { runs = record { steps = a.run.runs.steps; made = a.run.runs.made; appended = a.run.runs.appended; change = a.run.runs.change }; told_all = a.run.told_all } }, ended)

  -- refused
  pub cleaned_cut : (e : Fault) → CleanedAs IsOne (Err e) → CleanedAs IsOther (Err e)
  cleaned_cut e h = record { names = h.names; listed = h.listed; lists = h.lists; removal = cut_list h.listed h.names e h.removal }

  module _ (x : T) (y : U) (turns : (goes : Bool) → IsOne goes x → IsOther goes y) where
    done_list : (listed : W) (names : Option (List (List ℕ))) → IsListRemoved by v change listed told_now IsOne names (Ok x) → IsListRemoved by v change listed told_now IsOther names (Ok y)
    done_list listed None h = (h.0, turns false h.1)
    done_list listed (Some names) (inl u) = absurd (ok_refused x (fault Memory) u.1)
    done_list listed (Some names) (inr (last, a, (goes, ends, is))) =
        inr (
          last,
          record { removed = a.removed; obsolete = a.obsolete; run = record { runs = record { steps = a.run.runs.steps; made = a.run.runs.made; appended = a.run.runs.appended; change = a.run.runs.change }; told_all = a.run.told_all } },
          (goes, ends, turns goes is),
        )

    -- made
    pub cleaned_done : CleanedAs IsOne (Ok x) → CleanedAs IsOther (Ok y)
    cleaned_done h = record { names = h.names; listed = h.listed; lists = h.lists; removal = done_list h.listed h.names h.removal }

-- ---- one compaction

module _ {F W : Type 0} (g : Ghosts F) (tells : W → StepView → Bool → W → Type 0) (way : Way) (v : State) (level : ℕ) (old new : F) (told told_now : W) where
  abbrev RunBy : Result CompactionStep Fault → Type 0
  RunBy r = IsLevelMadeBy way.selection g way.order v level way.settings old new r

  abbrev BegunBy : Result (Option SyncedVersion) Fault → Type 0
  BegunBy q = IsLevelBegun g tells way v level (at_by old told) (at_by new told_now) q

  -- one that was refused
  pub made_refused : (r : Result CompactionStep Fault) (q : Result (Option SyncedVersion) Fault) (e : Fault) → r ≡ Err e → told_now ≡ told → IsErrAnd q (λ f. f ≡ e) → RunBy r → BegunBy q
  made_refused r q e was untold is run = record {
    level_made = record { made = Err e; run = subst (λ (x : Result CompactionStep Fault). RunBy x) was run; is_told = (untold, is) };
    opened = tt;
  }

  -- one that was installed, whatever is answered after it
  pub made_told : (r : Result CompactionStep Fault) (q : Result (Option SyncedVersion) Fault) (step : CompactionStep) → r ≡ Ok step → (goes : Bool) → tells told (step_in step) goes told_now → IfOk q (IsGoTold goes)
      → IfOk q (λ o. IfSome o (λ next. IsOpenedAfter way.order v step.edit.items (Ok (next.order, next.version, next.manifest)))) → RunBy r → BegunBy q
  made_told r q step was goes told_step went after run = record {
    level_made = record { made = Ok step; run = subst (λ (x : Result CompactionStep Fault). RunBy x) was run; is_told = (goes, told_step, went) };
    opened = after;
  }

-- ---- rows of them

module _ {F W : Type 0} (g : Ghosts F) (by : CleanTeller W) (way : Way) (v : State) (old : F) (told : W) where
  abbrev at : At F W
  at = at_by old told

  -- no further one was begun
  pub no_more : (new : F) (told_now : W) (r : Result DescentEnd Fault) → g.calls new ≡ g.calls old → TellsSame (g.tells old) (g.tells new) → told_now ≡ told → IfOk r (λ e. (e ≡ AtBottom) × IsNextLevel v way.bottom None) → IsDescentRun g by way v at (at_by new told_now) r
  no_more new told_now r calls same untold end = ([], inl (record { calls = calls; same = same; untold = untold }, end))

  module _ (level : ℕ) (next_level : IsNextLevel v way.bottom (Some level)) (mid : F) (told_mid : W) where
    abbrev Begun : Result (Option SyncedVersion) Fault → Type 0
    Begun q = IsLevelBegun g by.installs way v level at (at_by mid told_mid) q

    last_made : (r : Result DescentEnd Fault) → IsLevelMade g by.installs way v level at (at_by mid told_mid) IsStopTold r → IsDescentRun g by way v at (at_by mid told_mid) r
    last_made r made = ([], inr (inl (level, next_level, made)))

    -- the last one ended in a refusal
    pub last_refused : (e : Fault) → Begun (Err e) → IsDescentRun g by way v at (at_by mid told_mid) (Err e)
    last_refused e b = last_made (Err e) (record { made = b.level_made.made; run = b.level_made.run; is_told = to b.level_made.made b.level_made.is_told })
      where
        to : (made : Result CompactionStep Fault) → IsMadeTold {T = Option SyncedVersion} by.installs told told_mid IsGoTold made (Err e) → IsMadeTold by.installs told told_mid IsStopTold made (Err e)
        to (Err d) h = (h.0, h.1)
        to (Ok step) h = (h.0, h.1, tt)

    -- it was told to stop
    pub last_stopped : (o : Option SyncedVersion) → o ≡ None → Begun (taken o) → IsDescentRun g by way v at (at_by mid told_mid) (Ok Stopped)
    last_stopped o none b = last_made (Ok Stopped) (record { made = b.level_made.made; run = b.level_made.run; is_told = to b.level_made.made b.level_made.is_told })
      where
        to : (made : Result CompactionStep Fault) → IsMadeTold by.installs told told_mid IsGoTold made (taken o) → IsMadeTold by.installs told told_mid IsStopTold made (Ok Stopped)
        to (Err d) h = absurd h.1
        to (Ok step) h = (h.0, h.1, (refl, h.2 ∙ ap is_some none))

    -- ---- it goes on

    pub record IsLinked (next : SyncedVersion) : Type 0 where
      pub step : CompactionStep
      pub run : IsLevelMadeBy way.selection g way.order v level way.settings old mid (Ok step)
      pub told_step : by.installs told (step_in step) true told_mid
      pub edited : IsOpenedAfter way.order v step.edit.items (Ok (way.order, next.version, manifest_of v))
      pub order_is : next.order ≡ way.order
      pub manifest_is : next.manifest ≡ manifest_of v

    pub linked : (o : Option SyncedVersion) (next : SyncedVersion) → o ≡ Some next → Begun (taken o) → IsLinked next
    linked o next is b =
        to b.level_made.made b.level_made.run (subst (λ (x : Option SyncedVersion). IsMadeTold by.installs told told_mid IsGoTold b.level_made.made (taken x)) is b.level_made.is_told)
        (subst (λ (x : Option SyncedVersion). IfOk b.level_made.made (λ step. IfOk (taken x) (λ y. IfSome y (λ n. IsOpenedAfter way.order v step.edit.items (Ok (n.order, n.version, n.manifest)))))) is b.opened)
      where
        to : (made : Result CompactionStep Fault) → IsLevelMadeBy way.selection g way.order v level way.settings old mid made → IsMadeTold by.installs told told_mid IsGoTold made (taken (Some next))
            → IfOk made (λ step. IsOpenedAfter way.order v step.edit.items (Ok (next.order, next.version, next.manifest))) → IsLinked next
        to (Err d) run h after = absurd h.1
        to (Ok step) run h after =
            let so = opened_so way.order v step.edit.items next.order next.version next.manifest after in
            record {
              step = step;
              run = run;
              told_step = subst (λ (b : Bool). by.installs told (step_in step) b told_mid) h.2 h.1;
              edited = subst (λ (x : Order). IsOpenedAfter way.order v step.edit.items (Ok (x, next.version, manifest_of v))) so.0
                  (subst (λ (m : ℕ). IsOpenedAfter way.order v step.edit.items (Ok (next.order, next.version, m))) so.1 after);
              order_is = so.0;
              manifest_is = so.1;
            }

    module _ (next : SyncedVersion) (i : IsLinked next) (after : F) (told_after : W) where
      abbrev link : DescentLink F W
      link = record { level = level; step = i.step; installed = at_by mid told_mid; next = next.version; after = at_by after told_after }

      is_link : IsLinkInstalled g by way v at link
      is_link = record { next_level = next_level; run = i.run; told_step = i.told_step; edited = i.edited }

      -- the removal, of what was opened after the compaction
      abbrev pub RemovalBy : Result (Option SyncedVersion) Fault → Type 0
      RemovalBy r = IsCleaned by (named_version next.order next.version next.manifest) (change_of g mid after) told_mid told_after IsGoTold r

      as_named : (r : Result (Option SyncedVersion) Fault) → RemovalBy r → IsCleaned by (named_version way.order next.version (manifest_of v)) (change_of g mid after) told_mid told_after IsGoTold r
      as_named r h =
          subst (λ (m : ℕ). IsCleaned by (named_version way.order next.version m) (change_of g mid after) told_mid told_after IsGoTold r) i.manifest_is
          (subst (λ (o : Order). IsCleaned by (named_version o next.version next.manifest) (change_of g mid after) told_mid told_after IsGoTold r) i.order_is h)

      abbrev own : NamedVersion
      own = named_version way.order next.version (manifest_of v)

      last_cleaned : (r : Result DescentEnd Fault) → IsLinkCleaned g by way v link IsStopTold r → IsDescentRun g by way v at (at_by after told_after) r
      last_cleaned r h = ([], inr (inr (link, refl, is_link, h)))

      pub removal_refused : (e : Fault) → RemovalBy (Err e) → IsDescentRun g by way v at (at_by after told_after) (Err e)
      removal_refused e h = last_cleaned (Err e) (cleaned_cut by own (change_of g mid after) told_mid told_after IsGoTold IsStopTold e (as_named (Err e) h))

      pub removal_stopped : (o : Option SyncedVersion) → o ≡ None → RemovalBy (taken o) → IsDescentRun g by way v at (at_by after told_after) (Ok Stopped)
      removal_stopped o none h =
          last_cleaned (Ok Stopped) (cleaned_done by own (change_of g mid after) told_mid told_after IsGoTold IsStopTold o Stopped (λ goes is. (refl, is ∙ ap is_some none)) (as_named (taken o) h))

      -- others follow
      pub row_more : (o : Option SyncedVersion) (cleaned : SyncedVersion) (end : At F W) (r : Result DescentEnd Fault) → o ≡ Some cleaned → cleaned.order ≡ next.order → cleaned.version ≡ next.version → RemovalBy (taken o)
          → IsDescentRun g by (way_by way.selection cleaned.order way.settings way.bottom) cleaned.version (at_by after told_after) end r → IsDescentRun g by way v at end r
      row_more o cleaned end r is order_is version_is h rest =
          let goes = cleaned_done by own (change_of g mid after) told_mid told_after IsGoTold IsGoing o tt (λ b so. so ∙ ap is_some is) (as_named (taken o) h) in
          let later = subst (λ (x : Order). IsDescentRun g by (way_by way.selection x way.settings way.bottom) next.version (at_by after told_after) end r) (order_is ∙ i.order_is)
          (subst (λ (x : State). IsDescentRun g by (way_by way.selection cleaned.order way.settings way.bottom) x (at_by after told_after) end r) version_is rest) in
          (link ∷ later.0, (is_link, goes, later.1))
