-- What a folder is opened as after the compaction of a level.
use Rattle.std.proofs.Common.{if◌then◌else◌, Bool, Err, IfErr, IfOk, List, None, Ok, Option, Result, Some, ap, false, inl, inr, not, refl, subst, sym, true, ℕ, ◌^◌, ◌∙◌, ◌≡◌, ◌≢◌}
use Rattle.std.specs.Option.{IfSome, is_none, ok_or, option_map_or}
use Rattle.std.specs.Str.{bytes_eq}
use Rattle.std.specs.declared.cmp.Ordering.{Ordering}
use Rattle.edit.proofs.Edits.{not_both, one_edit}
use Rattle.edit.specs.Answers.{UnlessMemory, fault, ◌>>=◌}
use Rattle.edit.specs.Edit.{Edit, IsEdit, field_fault}
use Rattle.edit.specs.Tag.{listed_tag}
use Rattle.edit.specs.Version.{State, applied, applied_by, names_another}
use Rattle.edit.specs.fault.Fault.{Fault}
use Rattle.edit.specs.fault.FaultName.TheVariants.{Apply, Comparator, Device, EditField, EditTag, Memory}
use Rattle.folder.proofs.Binds.{ok_is}
use Rattle.folder.proofs.Refusals.{only_memory}
use Rattle.folder.specs.Manifest.{order_name}
use Rattle.folder.specs.Orders.{order_cmp}
use Rattle.folder.specs.Varint.{varint_reading}
use Rattle.folder.specs.declared.order.Order.{Order}
use Rattle.install.specs.FolderChange.{FolderChange}
use Rattle.install.specs.Install.{IsEditedBy, LoadedVersion}
use Rattle.compact.specs.declared.settings.Settings.{Settings}
use Rattle.store.specs.FolderRequest.{manifest_of}
use Rattle.store.specs.OpenedAfter.{IsOpenedAfter}
use Rattle.store.specs.OrderView.{OrderView, order_view}
use Rattle.store.specs.Step.{StepView, step_of}
use Rattle.store.specs.FoundInputs.{IsStepLeft}
use Rattle.store.proofs.Compactions.{picked_of}
use Rattle.store.specs.declared.compaction_step.CompactionStep.{CompactionStep}
use Rattle.store.specs.declared.synced_version.SyncedVersion.{SyncedVersion}
use Rattle.levels.specs.LevelLeft.{IsLevelInstalled}
use Rattle.levels.specs.LevelTaken.{IsLevelLeft}
use Rattle.levels.specs.declared.selection.Selection.{Selection}
use Rattle.levels.specs.WholeAnswer.{PicksInputs}
use Rattle.store.proofs.Flow.{no_refusal, same_refusal, refusal}

-- an opening, as an answer
abbrev pub opened : Order → State → ℕ → Result (Order × State × ℕ) Fault
opened o w m = Ok (o, w, m)

not_opened : (o : Order) (w : State) (m : ℕ) (e : Fault) → opened o w m ≡ refusal e → ⊥
not_opened o w m e h = cc

same_opened : (o p : Order) (w x : State) (m n : ℕ) → opened o w m ≡ opened p x n → (o ≡ p) × (w ≡ x) × (m ≡ n)
same_opened o p w x m n h =
    let one : Order × State × ℕ = (o, w, m) in
    let two : Order × State × ℕ = (p, x, n) in
    let same : one ≡ two = ok_is one two h in
    (ap (λ (t : Order × State × ℕ). t.0) same, ap (λ (t : Order × State × ℕ). t.1) same, ap (λ (t : Order × State × ℕ). t.2) same)

module _ (order : Order) (cmp : List ℕ → List ℕ → Ordering) (v : State) (number : ℕ) (outputs : List (ℕ × List ℕ)) (bytes : List ℕ) (next : State) (edited : IsEditedBy cmp v number outputs bytes next) where
  -- the edit that its bytes read as makes the next version
  makes : (e : Edit) → IsEdit bytes e → applied_by (order_name order) v e ≡ Ok next
  makes e is =
      let same : edited.edit ≡ e = one_edit bytes edited.edit e edited.read is in
      let unnamed : e.comparator ≡ None = ap (λ (x : Edit). x.comparator) (sym same) ∙ edited.no_name in
      let own : names_another (order_name order) e ≡ false = ap (λ (o : Option (List ℕ)). option_map_or (λ other. not (bytes_eq other (order_name order))) o false) unnamed in
      ap (λ (b : Bool). if b then Err (fault Comparator) else ok_or (applied v e) (fault Apply)) own
      ∙ ap (λ (o : Option State). ok_or o (fault Apply)) (ap (applied v) (sym same) ∙ edited.edited)

  opened_by : (e : Edit) → IsEdit bytes e → (applied_by (order_name order) v e >>= λ w. opened order w (manifest_of v)) ≡ opened order next (manifest_of v)
  opened_by e is = ap (λ (r : Result State Fault). r >>= λ w. opened order w (manifest_of v)) (makes e is)

  pub is_opened : (o : Order) (w : State) (m : ℕ) → IsOpenedAfter order v bytes (Ok (o, w, m)) → (o ≡ order) × (w ≡ next) × (m ≡ manifest_of v)
  is_opened o w m (Err d, (h, is)) = absurd (not_opened o w m d is)
  is_opened o w m (Ok e, (h, is)) = same_opened o order w next m (manifest_of v) (is ∙ opened_by e h)

  pub not_refused : (e : Fault) → IsOpenedAfter order v bytes (Err e) → ⊥
  not_refused e (Err d, (h, is)) = not_both bytes d edited.edit h edited.read
  not_refused e (Ok x, (h, is)) = not_opened order next (manifest_of v) e (sym (opened_by x h) ∙ sym is)

module _ (selection : Selection) (order : Order) (v : LoadedVersion) (level : ℕ) (s : Settings) (change : FolderChange) (step : CompactionStep) where
  -- a step that was answered was installed
  pub installed_of : IsLevelLeft selection (order_view order) v level s change (Ok step) → IsLevelInstalled selection (order_view order) v level s change (Ok step)
  installed_of (inl u) = absurd u.refused
  installed_of (inr (inl t)) = absurd t.refused
  installed_of (inr (inr i)) = i

  module _ (i : IsLevelInstalled selection (order_view order) v level s change (Ok step)) where
    -- the edit of the step is that of its answers
    same_edit : step.edit.items ≡ i.step.edit
    same_edit = ap (λ (x : StepView). x.edit) i.installed.is_step

    pub opened_next : (r : Result (Option SyncedVersion) Fault) → IfOk r (λ o. IfSome o (λ a. IsOpenedAfter order v.version step.edit.items (Ok (a.order, a.version, a.manifest))))
        → IfOk r (λ o. IfSome o (λ a. (a.order ≡ order) × (a.version ≡ i.compacted.edited.next) × (a.manifest ≡ manifest_of v.version)))
    opened_next (Ok None) h = tt
    opened_next (Ok (Some a)) h =
        is_opened order (order_cmp order) v.version (manifest_of v.version) i.compacted.outputs i.step.edit i.compacted.edited.next i.compacted.edited.edited a.order a.version a.manifest
        (subst (λ (b : List ℕ). IsOpenedAfter order v.version b (Ok (a.order, a.version, a.manifest))) same_edit h)
    opened_next (Err e) h = tt

    pub memory_only : (r : Result (Option SyncedVersion) Fault) → IfErr r (λ e. UnlessMemory e (IsOpenedAfter order v.version step.edit.items (Err e))) → IfErr r (λ e. e ≡ fault Memory)
    memory_only (Ok o) h = tt
    memory_only (Err e) h =
        only_memory e (IsOpenedAfter order v.version step.edit.items (Err e))
        (λ was. not_refused order (order_cmp order) v.version (manifest_of v.version) i.compacted.outputs i.step.edit i.compacted.edited.next i.compacted.edited.edited e
        (subst (λ (b : List ℕ). IsOpenedAfter order v.version b (Err e)) same_edit was)) h

-- what the compaction of picked inputs leaves
pub picked_left : (selection : Selection) (by : OrderView) (v : LoadedVersion) (level : ℕ) (s : Settings) (change : FolderChange) (r : Result CompactionStep Fault) → PicksInputs selection by.cmp v.version level → IsStepLeft by v level s change r → IsLevelLeft selection by v level s change r
picked_left selection by v level s change r picks (inl u) = inl u
picked_left selection by v level s change r picks (inr i) =
    inr (inr (record {
      step = step_of v.version i.picked i.answer;
      compacted = record {
        tables = i.compacted.tables;
        lawful = i.compacted.lawful;
        outputs = i.answer.tables;
        answered = inl (picks, i.picked, i.answer, picked_of by.cmp v.version level i.picked i.compacted.is_chosen, i.compacted.answered, refl, refl);
        edited = i.compacted.edited;
      };
      installed = i.installed;
    }))

-- ---- no refusal is Device

tag_other : (b : Bool) → (if b then fault EditTag else fault EditField).name ≢ Device
tag_other true same = cc same
tag_other false same = cc same

field_other : (bytes : List ℕ) → (field_fault bytes).name ≢ Device
field_other bytes = by (varint_reading (2 ^ 32) bytes)
  where
    by : (o : Option (ℕ × ℕ)) → (option_map_or (λ tag. if is_none (listed_tag tag.0) then fault EditTag else fault EditField) o (fault EditField)).name ≢ Device
    by None same = cc same
    by (Some tag) same = tag_other (is_none (listed_tag tag.0)) same

applied_other : (name : List ℕ) (v : State) (e : Edit) (d : Fault) → applied_by name v e ≡ Err d → d.name ≢ Device
applied_other name v e d h = by (names_another name e) (applied v e) h
  where
    by : (b : Bool) (o : Option State) → (if b then refusal {Y = State} (fault Comparator) else ok_or o (fault Apply)) ≡ Err d → d.name ≢ Device
    by true o is = λ same. let both = sym (ap (λ (f : Fault). f.name) (same_refusal {Y = State} d (fault Comparator) (sym is))) ∙ same in cc both
    by false None is = λ same. let both = sym (ap (λ (f : Fault). f.name) (same_refusal {Y = State} d (fault Apply) (sym is))) ∙ same in cc both
    by false (Some w) is = absurd (no_refusal w d is)

pub opened_other : (order : Order) (v : State) (bytes : List ℕ) (e : Fault) → IsOpenedAfter order v bytes (Err e) → e.name ≢ Device
opened_other order v bytes e (Err d, (h, is)) =
    subst (λ (f : Fault). f.name ≢ Device) (sym (same_refusal {Y = Order × State × ℕ} e d is))
    (subst (λ (f : Fault). f.name ≢ Device) (sym h.named) (field_other h.rest))
opened_other order v bytes e (Ok x, (h, is)) = by (applied_by (order_name order) v x) refl is
  where
    by : (r : Result State Fault) → applied_by (order_name order) v x ≡ r → refusal e ≡ (r >>= λ w. opened order w (manifest_of v)) → e.name ≢ Device
    by (Ok w) was same = absurd (not_opened order w (manifest_of v) e (sym same))
    by (Err d) was same = subst (λ (f : Fault). f.name ≢ Device) (sym (same_refusal {Y = Order × State × ℕ} e d same)) (applied_other (order_name order) v x d was)
