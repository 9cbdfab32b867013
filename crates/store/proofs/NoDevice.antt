-- No refusal of a compaction is Device.
use Rattle.std.proofs.Common.{◌≡◌, ◌≢◌, ℕ, ◌+◌, ◌^◌, Bool, true, false, List, [], ◌∷◌, length, Option, is_none, Result, Ok, Err, IfErr, IsErrAnd, if◌then◌else◌, refl, sym, ap, subst, ◌∙◌}
use Rattle.std.specs.Prelude.{◌&&◌, MatchBool, None, Some, nat_le, nat_lt}
use Rattle.std.specs.Option.{ok_or, option_map_or}
use Rattle.std.specs.declared.cmp.Ordering.{Ordering}
use Rattle.folder.proofs.Refusals.{unless_device}
use Rattle.folder.specs.Answers.{HoldsOrMemory, UnlessMemory, ◌>>=◌, fault}
use Rattle.folder.specs.fault.Fault.{Fault}
use Rattle.folder.specs.fault.FaultName.{FaultName}
use Rattle.folder.specs.fault.FaultName.TheVariants.{Bounds, Device, Duplicate, EditField, EditTag, Level, Memory, NoInput, Numbers, Options, Snapshot, SnapshotList, SplitCount, TooLarge, Workers}
use Rattle.reads.specs.EncodedEntry.{Entry}
use Rattle.reads.specs.TableContents.{Contents, contents_reading}
use Rattle.reads.specs.EntryTests.{is_some_list}
use Rattle.reads.specs.TestResult.{test_result}
use Rattle.folder.specs.Edit.{IsEditRefused}
use Rattle.folder.specs.Tag.{listed_tag}
use Rattle.folder.specs.Varint.{varint_reading}
use Rattle.folder.specs.Version.{State}
use Rattle.folder.specs.VersionOrder.{level_files}
use Rattle.folder.specs.meta.FileMeta.{FileMeta}
use Rattle.reads.specs.MergedLists.{merged}
use Rattle.pick.specs.PickedInputs.{IsInputsAnswer, PickedInputs}
use Rattle.pick.specs.declared.picked_inputs.InputFile.{InputFile}
use Rattle.compact.specs.Runs.{are_distinct}
use Rattle.compact.specs.Outputs.{outputs}
use Rattle.reads.specs.Tables.{NumberedContents}
use Rattle.checks.specs.TableReadings.{tables_reading}
use Rattle.checks.proofs.TableRefusals.{no_device}
use Rattle.folder.specs.OpenAnswer.{HasDeviceFailed}
use Rattle.compact.specs.Inputs.{result_at_input, input_reading, inputs_reading, table_matches_metadata, union_reading}
use Rattle.compact.specs.OneThread.{Answer, one_thread, outputs_answer, table_for}
use Rattle.compact.specs.OutputTables.{Output, outputs_from, outputs_test}
use Rattle.compact.specs.Request.{RequestView, below_request, has_levels, has_options, has_snapshots, is_snapshot_list, request_test}
use Rattle.store.specs.InputsCompaction.{IsOrderlyAnswer, IsReadAnswer, are_stated, input_tables}
use Rattle.store.specs.Step.{IsStepFor, StepView, with_inputs}
use Rattle.store.specs.FolderRequest.{compaction_from, first_output, numbered_request, request_from}
use Rattle.compact.specs.declared.settings.Settings.{Settings}
use Rattle.folder.specs.Comparator.{ShortKeys}
use Rattle.store.proofs.Flow.{same_refusal, refusal}

no_value_refused : {Y : Type 0} {y : Y} (e : Fault) → refusal {Y = Y} e ≡ Ok y → ⊥
no_value_refused e h = cc

-- each refusal of an answer has another name
abbrev AllOther : {A : Type 0} → Result A Fault → Type 0
AllOther r = (e : Fault) → r ≡ refusal e → e.name ≢ Device

value : {A : Type 0} (x : A) → AllOther (Ok x)
value x e h = absurd cc

named : (A : Type 0) (n : FaultName) → n ≢ Device → AllOther {A = A} (Err (fault n))
named A n h e is = subst (λ (f : Fault). f.name ≢ Device) (same_refusal {Y = A} (fault n) e is) h

bound : {A B : Type 0} (r : Result A Fault) (f : A → Result B Fault) → AllOther r → ((x : A) → AllOther (f x)) → AllOther (r >>= f)
bound (Ok x) f one two e h = two x e h
bound {B = B} (Err d) f one two e h = one e (ap (λ (x : Fault). refusal x) (same_refusal {Y = B} d e h))

tested : {A : Type 0} (b : Bool) (r s : Result A Fault) → AllOther r → AllOther s → AllOther (if b then r else s)
tested true r s one two = one
tested false r s one two = two

passes : (b : Bool) (n : FaultName) → n ≢ Device → AllOther (test_result b n)
passes b n h = tested b _ _ (value tt) (named _ n h)

found_other : {A : Type 0} (o : Option A) (n : FaultName) → n ≢ Device → AllOther (ok_or o (fault n))
found_other (Some x) n h = value x
found_other {A = A} None n h = named A n h

-- ---- the inputs

one_numbered : (cmp : List ℕ → List ℕ → Ordering) (bytes : List ℕ) (e : Fault) → contents_reading cmp bytes ≡ refusal e
    → (contents_reading cmp bytes >>= λ c. Ok (record { number = 0; contents = c })) ≡ refusal {Y = NumberedContents} e
one_numbered cmp bytes e h = ap (λ (r : Result Contents Fault). r >>= λ c. Ok (record { number = 0; contents = c })) h

contents_other : (cmp : List ℕ → List ℕ → Ordering) (bytes : List ℕ) → AllOther (contents_reading cmp bytes)
contents_other cmp bytes e h =
    no_device cmp ((0, bytes) ∷ []) e
    (ap (λ (r : Result NumberedContents Fault). r >>= λ first. (Ok []) >>= λ others. Ok (first ∷ others)) (one_numbered cmp bytes e h))

input_other : (cmp : List ℕ → List ℕ → Ordering) (f : FileMeta) (bytes : List ℕ) → AllOther (input_reading cmp f bytes)
input_other cmp f bytes = bound (contents_reading cmp bytes) _ (contents_other cmp bytes) (λ t. bound (test_result (table_matches_metadata f t) Bounds) _ (passes (table_matches_metadata f t) Bounds (λ same. cc same)) (λ _. value t.entries))

about_other : {A : Type 0} (place : ℕ) (r : Result A Fault) → AllOther r → AllOther (result_at_input place r)
about_other place (Ok x) h e is = absurd cc
about_other {A = A} place (Err d) h e is = subst (λ (f : Fault). f.name ≢ Device) (same_refusal {Y = A} (record d { input = Some place }) e is) (h d refl)

inputs_other : (cmp : List ℕ → List ℕ → Ordering) (place : ℕ) (files : List InputFile) (given : List (List ℕ)) → AllOther (inputs_reading cmp place files given)
inputs_other cmp place [] given = value []
inputs_other cmp place (i ∷ files) [] = value []
inputs_other cmp place (i ∷ files) (bytes ∷ given) =
    bound (result_at_input place (input_reading cmp i.meta bytes)) _ (about_other place (input_reading cmp i.meta bytes) (input_other cmp i.meta bytes)) (λ entries.
    bound (inputs_reading cmp (place + 1) files given) _ (inputs_other cmp (place + 1) files given) (λ rest. value (entries ∷ rest)))

-- ---- the compaction

pub test_other : (cmp : List ℕ → List ℕ → Ordering) (r : RequestView) → AllOther (request_test cmp r)
test_other cmp r =
    bound (test_result (is_some_list r.picked.files) NoInput) _ (passes (is_some_list r.picked.files) NoInput (λ same. cc same)) (λ _.
    bound (test_result (has_levels r.picked) Level) _ (passes (has_levels r.picked) Level (λ same. cc same)) (λ _.
    bound (test_result (has_options cmp r) Options) _ (passes (has_options cmp r) Options (λ same. cc same)) (λ _.
    bound (test_result (has_snapshots r) Snapshot) _ (passes (has_snapshots r) Snapshot (λ same. cc same)) (λ _.
    passes (is_snapshot_list r.snapshots r.last_sequence) SnapshotList (λ same. cc same)))))

module _ (cmp : List ℕ → List ℕ → Ordering) (short_keys : ShortKeys) where
  answer_other : (r : RequestView) (outs : List Output) → AllOther (outputs_answer r outs)
  answer_other r outs =
      bound (outputs_test r.options r.first_number outs) _
      (bound (test_result (nat_lt (r.first_number + length outs) (2 ^ 64)) Numbers) _ (passes (nat_lt (r.first_number + length outs) (2 ^ 64)) Numbers (λ same. cc same)) (λ _.
      passes _ TooLarge (λ same. cc same))) (λ _. value _)

  union_other : (inputs : List (List Entry)) → AllOther (union_reading cmp inputs)
  union_other inputs = tested (are_distinct (merged cmp inputs)) _ _ (value (merged cmp inputs)) (named _ Duplicate (λ same. cc same))

  thread_other : (r : RequestView) → AllOther (one_thread cmp short_keys r)
  thread_other r =
      bound (request_test cmp r) _ (test_other cmp r) (λ _.
      bound (inputs_reading cmp 0 r.picked.files r.tables) _ (inputs_other cmp 0 r.picked.files r.tables) (λ inputs.
      bound (union_reading cmp inputs) _ (union_other inputs) (λ union.
      answer_other r (outputs_from (table_for cmp short_keys r) r.first_number (outputs cmp (below_request r) r.options union)))))

  pub compaction_other : (first : Option ℕ) (v : State) (loaded : List (ℕ × List ℕ)) (p : PickedInputs) (s : Settings) → AllOther (compaction_from first cmp short_keys v loaded p s)
  compaction_other first v loaded p s =
      bound (test_result (nat_le 1 s.ranges && nat_le s.ranges 4096) SplitCount) _ (passes (nat_le 1 s.ranges && nat_le s.ranges 4096) SplitCount (λ same. cc same)) (λ _.
      bound (numbered_request first v loaded p s) _ (bound (ok_or (first_output v first) (fault Numbers)) _ (found_other (first_output v first) Numbers (λ same. cc same)) (λ number. value (request_from number v loaded p s))) (λ r.
      bound (test_result (nat_le 1 s.workers && nat_le s.workers 64) Workers) _ (passes (nat_le 1 s.workers && nat_le s.workers 64) Workers (λ same. cc same)) (λ _.
      thread_other r)))

  made_other : (first : Option ℕ) (v : State) (loaded : List (ℕ × List ℕ)) (p : PickedInputs) (s : Settings) → AllOther (with_inputs p (compaction_from first cmp short_keys v loaded p s))
  made_other first v loaded p s = bound (compaction_from first cmp short_keys v loaded p s) (λ a. Ok (p, a)) (compaction_other first v loaded p s) (λ a. value (p, a))

pub inputs_answer_other : (cmp : List ℕ → List ℕ → Ordering) (v : State) (level : ℕ) (e : Fault) → IsInputsAnswer cmp v level (Err e) → e.name ≢ Device
inputs_answer_other cmp v level e h = by (nat_lt 5 level) (nat_lt 0 (length (level_files cmp v level))) refl refl h
  where
    by : (a b : Bool) → nat_lt 5 level ≡ a → nat_lt 0 (length (level_files cmp v level)) ≡ b
        → MatchBool a (refusal {Y = PickedInputs} e ≡ refusal (fault Level)) (MatchBool b ⊥ (refusal {Y = PickedInputs} e ≡ refusal (fault NoInput))) → e.name ≢ Device
    by true b i j is = λ same. let both = sym (ap (λ (f : Fault). f.name) (same_refusal {Y = PickedInputs} e (fault Level) is)) ∙ same in cc both
    by false true i j is = absurd is
    by false false i j is = λ same. let both = sym (ap (λ (f : Fault). f.name) (same_refusal {Y = PickedInputs} e (fault NoInput) is)) ∙ same in cc both

pub tables_other : (cmp : List ℕ → List ℕ → Ordering) (files : List InputFile) (loaded : List (ℕ × List ℕ)) → AllOther (input_tables cmp files loaded)
tables_other cmp files loaded =
    bound (tables_reading cmp loaded) _ (no_device cmp loaded) (λ ts. bound (test_result (are_stated files ts) Bounds) _ (passes (are_stated files ts) Bounds (λ same. cc same)) (λ _. value _))

-- nor is one of a compaction of inputs that were read
pub read_other : (first : Option ℕ) (cmp : List ℕ → List ℕ → Ordering) (short_keys : ShortKeys) (v : State) (p : PickedInputs) (s : Settings) (loaded : List (ℕ × List ℕ)) (e : Fault)
    → IsReadAnswer first cmp short_keys v s p loaded (Err e) → e.name ≢ Device
read_other first cmp short_keys v p s loaded e (Err d, h) = subst (λ (f : Fault). f.name ≢ Device) (sym (same_refusal {Y = PickedInputs × Answer} e d h.1)) (tables_other cmp p.files loaded d h.0)
read_other first cmp short_keys v p s loaded e (Ok tables, h) = made_other cmp short_keys first v loaded p s e (sym h.1)

-- nor one of its step
pub step_other : (first : Option ℕ) (cmp : List ℕ → List ℕ → Ordering) (short_keys : ShortKeys) (v : State) (p : PickedInputs) (s : Settings) (loaded : List (ℕ × List ℕ)) (e : Fault)
    → IsStepFor v (IsReadAnswer first cmp short_keys v s p loaded) (Err e) → e.name ≢ Device
step_other first cmp short_keys v p s loaded e (Err d, h) =
    subst (λ (f : Fault). f.name ≢ Device) (sym (same_refusal {Y = StepView} e d h.1)) (read_other first cmp short_keys v p s loaded d h.0)
step_other first cmp short_keys v p s loaded e (Ok made, h) = absurd (no_value_refused {Y = StepView} e h.1)

pub orderly_other : (cmp : List ℕ → List ℕ → Ordering) (v : State) (e : Fault) → IsOrderlyAnswer cmp v (Err e) → e.name ≢ Device
orderly_other cmp v e h = λ same. let both = sym (ap (λ (f : Fault). f.name) h.0) ∙ same in cc both

-- an answer none of whose refusals is Device says nothing of the device
pub never_failed : {X Y : Type 0} (view : X → Y) (before now : ℕ) (r : Result X Fault) (IsAnswer : Result Y Fault → Type 0) → ((e : Fault) → IsAnswer (Err e) → e.name ≢ Device) → HoldsOrMemory view r IsAnswer → IfErr r (HasDeviceFailed before now)
never_failed view before now (Ok x) IsAnswer other given = tt
never_failed view before now (Err e) IsAnswer other given = λ same. absurd (other e (unless_device e (IsAnswer (Err e)) same given) same)

-- a refusal that `?` hands on has this name
pub handed_other : {X : Type 0} (r : Result X Fault) (e : Fault) (P : Type 0) → IsErrAnd r (λ f. f ≡ e) → (P → e.name ≢ Device) → UnlessMemory e P → IfErr r (λ f. f.name ≢ Device)
handed_other (Ok x) e P h other given = absurd h
handed_other (Err f) e P h other given =
    subst (λ (x : Fault). x.name ≢ Device) (sym h) (λ same. other (unless_device e P same given) same)

-- nor one of a call that answers with a reason
pub never_device_at : {X : Type 0} (before now : ℕ) (r : Result X Fault) (P : Fault → Type 0) → ((e : Fault) → P e → e.name ≢ Device) → IfErr r (λ e. UnlessMemory e (P e)) → IfErr r (HasDeviceFailed before now)
never_device_at before now (Ok x) P other given = tt
never_device_at before now (Err e) P other given = λ same. absurd (other e (unless_device e (P e) same given) same)

-- if the only refusal is Memory, nothing is said of the device
pub memory_alone : {X : Type 0} (before now : ℕ) (r : Result X Fault) → IfErr r (λ e. e ≡ fault Memory) → IfErr r (HasDeviceFailed before now)
memory_alone before now (Ok x) h = tt
memory_alone before now (Err e) h = λ same. let both = sym (ap (λ (f : Fault). f.name) h) ∙ same in absurd (cc both)

-- Memory is another name
pub handed_memory : {X : Type 0} (r : Result X Fault) (e : Fault) → IsErrAnd r (λ f. f ≡ e) → e ≡ fault Memory → IfErr r (λ f. f.name ≢ Device)
handed_memory (Ok x) e h is = absurd h
handed_memory (Err f) e h is = λ same. let both = sym (ap (λ (x : Fault). x.name) (h ∙ is)) ∙ same in cc both

-- ---- bytes that read as no edit

field_other : (o : Option (ℕ × ℕ)) → (option_map_or (λ tag. if is_none (listed_tag tag.0) then fault EditTag else fault EditField) o (fault EditField)).name ≢ Device
field_other None h = cc h
field_other (Some tag) h = by (is_none (listed_tag tag.0)) h
  where
    by : (b : Bool) → (if b then fault EditTag else fault EditField).name ≡ Device → ⊥
    by true h = cc h
    by false h = cc h

pub edit_other : (bytes : List ℕ) (e : Fault) → IsEditRefused bytes e → e.name ≢ Device
edit_other bytes e h same = field_other (varint_reading (2 ^ 32) h.rest) (ap (λ (f : Fault). f.name) (sym h.named) ∙ same)
