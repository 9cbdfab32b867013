-- The compaction of a whole level, told from earlier calls on that only read.
use Rattle.std.proofs.Common.{Err, IfErr, List, Ok, Result, [], ap, inl, inr, map, subst, ℕ, ◌++◌, ◌∙◌, ◌∷◌, ◌≡◌}
use Rattle.std.specs.declared.cmp.Ordering.{Ordering}
use Rattle.edit.specs.Answers.{IsThen, fault}
use Rattle.edit.specs.Comparator.{ShortKeys}
use Rattle.edit.specs.Edit.{edit_bytes}
use Rattle.edit.specs.Version.{State}
use Rattle.edit.specs.fault.Fault.{Fault}
use Rattle.edit.specs.fault.FaultName.TheVariants.{Changed}
use Rattle.pick.specs.PickedInputs.{PickedInputs}
use Rattle.folder.proofs.LoadingLemmas.{told_since}
use Rattle.folder.specs.Calls.{Done, Files, Step, Tells, ToldFiles as Told}
use Rattle.folder.specs.Folder.{TellsSame}
use Rattle.folder.specs.Manifest.{order_name}
use Rattle.folder.specs.Orders.{order_cmp, order_short_keys}
use Rattle.folder.specs.ReadsAs.{ReadsAs}
use Rattle.folder.specs.declared.folder.Folder.{Ghosts}
use Rattle.folder.specs.declared.order.Order.{Order}
use Rattle.install.proofs.Changes.{change_by}
use Rattle.install.specs.Install.{SurvivesCrash, calls_before_rename, manifest_bytes, next_with, table_calls, version_with}
use Rattle.compact.specs.OneThread.{Answer}
use Rattle.compact.specs.declared.settings.Settings.{Settings}
use Rattle.checks.specs.TestedTables.{IsTested}
use Rattle.store.proofs.Flow.{first_refused}
use Rattle.store.proofs.InstallPart.{installed_told, still, survives_on}
use Rattle.store.proofs.RunPart.{calls_since}
use Rattle.store.proofs.StepPart.{test_ends}
use Rattle.store.specs.FolderRequest.{manifest_of}
use Rattle.store.specs.OrderView.{order_by}
use Rattle.store.specs.Step.{StepView}
use Rattle.store.specs.declared.compaction_step.CompactionStep.{CompactionStep}
use Rattle.levels.specs.LevelLeft.{IsWholeLeft}
use Rattle.levels.specs.LevelTaken.{IsLevelLeft}
use Rattle.levels.specs.WholeAnswer.{AreLevelParts, Choosing, IsVersionWhole, IsWholeCompacted, IsWholeStep, parts_result}
use Rattle.levels.specs.LevelMade.{IsLevelMadeBy, IsLevelStep}
use Rattle.levels.specs.WholeRuns.{ArePartLinks, GroupedAnswer, IsWholeRun, groups_in}
use Rattle.levels.specs.declared.selection.Selection.TheVariants.{Whole}

-- ---- calls

module _ {F : Type 0} (g : Ghosts F) (old mid : F) (same : g.calls mid ≡ g.calls old) (told : TellsSame (g.tells old) (g.tells mid)) where
  links_since : (so_far : List Step) (cmp : List ℕ → List ℕ → Ordering) (short_keys : ShortKeys) (v : State) (s : Settings) (last : ℕ) (parts : List PickedInputs) (links : List GroupedAnswer)
      → ArePartLinks g mid so_far cmp short_keys v s last parts links → ArePartLinks g old so_far cmp short_keys v s last parts links
  links_since so_far cmp short_keys v s last parts [] h = tt
  links_since so_far cmp short_keys v s last [] (l ∷ links) h = absurd h
  links_since so_far cmp short_keys v s last (p ∷ parts) (l ∷ links) h = (
    record {
      at = h.0.at;
      made = record {
        calls = h.0.made.calls ∙ ap (λ (t : List Step). t ++ so_far) same;
        change = λ view tells. h.0.made.change view (still (g.tells old) (g.tells mid) told view.files tells);
      };
      of_part = h.0.of_part;
      compacted = h.0.compacted;
      together = h.0.together;
      pointer = h.0.pointer;
      bytes = h.0.bytes;
    },
    links_since (so_far ++ map Done (table_calls l.groups)) cmp short_keys v s _ parts links h.1,
  )

  pub whole_run_since : (name : List ℕ) (cmp : List ℕ → List ℕ → Ordering) (short_keys : ShortKeys) (v : State) (AreChosen : Choosing) (s : Settings) (new : F) (result : Result CompactionStep Fault)
      → IsWholeRun g name cmp short_keys v AreChosen s mid new result → IsWholeRun g name cmp short_keys v AreChosen s old new result
  whole_run_since name cmp short_keys v AreChosen s new result (inl u) =
      inl (record { calls = u.calls ∙ same; same = told_since (g.tells old) (g.tells mid) (g.tells new) told u.same; refused = u.refused })
  whole_run_since name cmp short_keys v AreChosen s new result (inr w) =
      let tells = still (g.tells old) (g.tells mid) told in
      inr (record {
        parts = w.parts;
        are_parts = w.are_parts;
        links = w.links;
        chain = links_since [] cmp short_keys v s (manifest_of v) w.parts w.links w.chain;
        written = elim w.written [
          | inl t ↦ inl (calls_since (table_calls (groups_in w.links)) (g.calls old) (g.calls mid) (g.calls new) (g.tells old) (g.tells mid) (g.tells new) result same tells t.0, t.1)
          | inr i ↦ (let manifest = manifest_bytes name cmp v (edit_bytes i.1.edit) in inr (
            i.0,
            record {
              edit = i.1.edit;
              read = i.1.read;
              again = i.1.again;
              at = i.1.at;
              written = calls_since (table_calls (groups_in w.links)) (g.calls old) (g.calls mid) (g.calls i.1.at) (g.tells old) (g.tells mid) (g.tells i.1.at) (Ok tt) same tells i.1.written;
              runs = i.1.runs;
              changed = subst (λ (b : List Step). IfErr result (λ e. e ≡ fault Changed → g.calls new ≡ b ++ map Done (calls_before_rename (manifest_of v) (groups_in w.links) manifest))) same i.1.changed;
              step = i.1.step;
              refused = i.1.refused;
            },
          ))
        ];
      })

-- ---- what is left

module _ (order : Order) (cmp : List ℕ → List ℕ → Ordering) (short_keys : ShortKeys) (v : State) (files : Files) (loaded : List (ℕ × List ℕ)) (level : ℕ) (s : Settings)
    (first before after : List Step) (zero old new : Told) (r : Result CompactionStep Fault) (reads : ReadsAs cmp order v loaded files) (same : before ≡ first) (told : TellsSame zero old) where
  pub whole_left : IsLevelLeft Whole (order_by order cmp short_keys) (version_with v loaded) level s (change_by before after old new) r → IsWholeLeft (order_by order cmp short_keys) v files level s (change_by first after zero new) r
  whole_left (inl u) = inl (record { calls = u.calls ∙ same; same = told_since zero old new told u.same; refused = u.refused })
  whole_left (inr (inl t)) =
      let held = version_with v loaded in
      inr (
        loaded,
        reads,
        inl (record {
          survives = subst (λ (b : List Step). SurvivesCrash cmp order held held (change_by b after zero new) r) same (survives_on cmp order v v loaded loaded before after zero old new r r (λ P x. x) (still zero old told) t.survives);
          refused = t.refused;
        }),
      )
  whole_left (inr (inr i)) =
      let held = version_with v loaded in
      let next = next_with cmp i.compacted.edited.next i.compacted.outputs loaded in
      inr (loaded, reads, inr (record { step = i.step; compacted = i.compacted; installed = installed_told (order_by order cmp short_keys) held next i.step first before after zero old new r same (still zero old told) i.installed }))

-- ---- the test of the version

-- its refusal is the answer
pub whole_refused : (cmp : List ℕ → List ℕ → Ordering) (short_keys : ShortKeys) (tells : Told) (files : Files) (v : State) (AreChosen : Choosing) (s : Settings) (e : Fault)
    → Tells tells files → IsTested tells cmp v (Err e) → IsWholeCompacted cmp short_keys files v AreChosen s (Err e)
whole_refused cmp short_keys tells files v AreChosen s e told h =
    first_refused (IsVersionWhole cmp short_keys files v AreChosen s) (IsWholeStep v) e
    (test_ends cmp (λ loaded tables. IsThen AreChosen (λ parts (a : Result (List Answer) Fault). a ≡ parts_result cmp short_keys v loaded s (manifest_of v) parts)) tells files v e told h)

-- ---- all parts

-- of all parts nothing is picked
pub whole_step_is : (order : Order) (files : Files) (v : State) (level : ℕ) (s : Settings) (step : Result StepView Fault) → IsLevelStep Whole order files v level s step → IsWholeCompacted (order_cmp order) (order_short_keys order) files v (AreLevelParts (order_cmp order) v level) s step
whole_step_is order files v level s step (inl picked) = absurd picked.0
whole_step_is order files v level s step (inr whole) = whole

pub whole_run_is : {F : Type 0} (g : Ghosts F) (order : Order) (v : State) (level : ℕ) (s : Settings) (old new : F) (result : Result CompactionStep Fault) → IsLevelMadeBy Whole g order v level s old new result
    → IsWholeRun g (order_name order) (order_cmp order) (order_short_keys order) v (AreLevelParts (order_cmp order) v level) s old new result
whole_run_is g order v level s old new result (inl picked) = absurd picked.0
whole_run_is g order v level s old new result (inr whole) = whole
