-- What a crash leaves of the compaction of a level.
use Rattle.std.proofs.Common.{◌≡◌, ◌≢◌, ◌⊎◌, ℕ, ◌+◌, ◌-◌, ◌<◌, ◌≤◌, ◌^◌, not, Bool, true, false, if◌then◌else◌, List, [], ◌∷◌, ◌++◌, length, map, Some, None, Option, Result, Ok, Err, IfOk, OnOk, refl, sym, ap, subst, ◌∙◌, inl, inr, arith}
use Rattle.std.specs.Prelude.{◌&&◌, Contains, filter, nat_le, nat_lt}
use Rattle.std.specs.Option.{ok_or, option_map_or}
use Rattle.std.specs.Str.{bytes_eq}
use Rattle.std.proofs.lemmas.Bool.Decides.{nat_tests}
use Rattle.std.proofs.lemmas.List.{append-nil}
use Rattle.std.proofs.lemmas.List.Elements.{Contains-append_cases}
use Rattle.std.specs.Cmp.{IsTotalOrder}
use Rattle.std.specs.declared.cmp.Ordering.{Ordering}
use Rattle.table.specs.Key.{IsInternalKey}
use Rattle.table.specs.TableBytes.{AreBytes}
use Rattle.edit.proofs.Edits.{one_edit}
use Rattle.edit.specs.Answers.{fault, ◌>>=◌}
use Rattle.edit.specs.fault.Fault.{Fault}
use Rattle.edit.specs.fault.FaultName.TheVariants.{Numbers, SplitCount}
use Rattle.edit.specs.Comparator.{ShortKeys}
use Rattle.edit.specs.Edit.{IsEdit, edit_bytes}
use Rattle.edit.specs.Version.{State, applied_by, names_another}
use Rattle.edit.specs.VersionOrder.{level_files}
use Rattle.edit.specs.declared.meta.FileMeta.{FileMeta}
use Rattle.pick.specs.PickedInputs.{IsPicked, PickedInputs, input_at}
use Rattle.pick.specs.declared.picked_inputs.InputFile.{InputFile}
use Rattle.reads.proofs.Levels.{from_level}
use Rattle.keep.proofs.Members.{from_filter, from_map}
use Rattle.folder.proofs.Binds.{bind_ok}
use Rattle.folder.specs.Calls.{Step, ToldFiles}
use Rattle.folder.specs.CallSequence.{AreMadeBy, MakesCalls}
use Rattle.folder.specs.Crash.{LeavesOnly, World}
use Rattle.folder.specs.Manifest.{order_name}
use Rattle.folder.specs.Orders.{order_cmp, order_short_keys}
use Rattle.folder.specs.declared.folder.Folder.{Ghosts}
use Rattle.install.specs.FolderChange.{change_of}
use Rattle.install.specs.Install.{IsEditedBy, table_calls}
use Rattle.install.specs.Installation.{InstallationSurvives, IsInstallation, place_with}
use Rattle.install.specs.Naming.{tables_of as named_tables}
use Rattle.install.specs.ReadsOf.{NamedVersion}
use Rattle.install.specs.Work.{WorkSurvives, begun}
use Rattle.compact.specs.InputsOver.{as_file}
use Rattle.compact.specs.OneThread.{Answer, compaction_result}
use Rattle.reads.specs.TestResult.{test_result}
use Rattle.compact.specs.Request.{RequestView}
use Rattle.compact.specs.declared.settings.Settings.{Settings}
use Rattle.store.specs.CompactionWork.{CompactionsSurvive}
use Rattle.store.specs.FolderRequest.{compaction_from, first_output, manifest_of, request_from}
use Rattle.store.specs.OpenedAfter.{IsOpenedAfter}
use Rattle.store.specs.Runs.{IsAnswerForLevel, IsAnswerInstalled}
use Rattle.store.specs.Step.{StepView, step_in}
use Rattle.store.specs.declared.compaction_step.CompactionStep.{CompactionStep}
use Rattle.store.proofs.PartFiles.{ArePlaced, made}
use Rattle.levels.specs.LevelMade.{IsLevelMadeBy}
use Rattle.levels.specs.PartsEnd.{last_after}
use Rattle.levels.specs.Survival.{HeldVersion, IsNextBy, IsNumbered, LeavesEither, LevelsSurvive, ReadsHeld, StandsHeld}
use Rattle.levels.specs.WholeAnswer.{AreSelected, edits_of, tables_of, whole_step}
use Rattle.levels.specs.WholeRuns.{GroupedAnswer, IsWholeWritten, answers_in, groups_in}
use Rattle.levels.specs.declared.selection.Selection.{Selection}
use Rattle.levels.proofs.NextNumbered.{next_numbered}
use Rattle.levels.proofs.PartEdits.{IsEditOver, has_outputs, next_there, own_edit}
use Rattle.levels.proofs.SelectedParts.{among, selected_placed}
use Rattle.levels.proofs.PartStep.{thread_at}
use Rattle.levels.proofs.WholeWork.{AreOver, after, are_over, done_of, edited_by, installed, stopped}
use Rattle.levels.proofs.OpenedNext.{opened}
use Rattle.install.proofs.Pieces.{order_total}

-- ---- picked inputs are files of the version

record IsOfLevel (cmp : List ℕ → List ℕ → Ordering) (v : State) (n : ℕ) (i : InputFile) : Type 0 where
  meta : FileMeta
  there : Contains (level_files cmp v n) meta
  is : input_at n meta ≡ i

picked_placed : (cmp : List ℕ → List ℕ → Ordering) (total : IsTotalOrder cmp) (v : State) (level : ℕ) (p : PickedInputs) → IsPicked cmp v level p → level ≤ 5 → ArePlaced v p
picked_placed cmp total v level p picked five = record {
  there = λ i at. elim (cases i at) [
    | inl j ↦ there level i (of _ level picked.upper picked.are_upper.with_boundaries.these i j)
    | inr j ↦ there (level + 1) i (of _ (level + 1) picked.lower picked.are_lower.these i j)
  ];
  levels = λ i at. elim (cases i at) [
    | inl j ↦ (let is : level ≡ i.level = ap (λ (x : InputFile). x.level) (from_map (input_at level) picked.upper i j).is in omega (arith, five, is))
    | inr j ↦ (let is : level + 1 ≡ i.level = ap (λ (x : InputFile). x.level) (from_map (input_at (level + 1)) picked.lower i j).is in omega (arith, five, is))
  ];
}
  where
    cases : (i : InputFile) → Contains p.files i → Contains (map (input_at level) picked.upper) i ⊎ Contains (map (input_at (level + 1)) picked.lower) i
    cases i at = Contains-append_cases (map (input_at level) picked.upper) (map (input_at (level + 1)) picked.lower) i (subst (λ (l : List InputFile). Contains l i) picked.files_are at)

    of : (f : FileMeta → Bool) (n : ℕ) (files : List FileMeta) → files ≡ filter f (level_files cmp v n) → (i : InputFile) → Contains (map (input_at n) files) i → IsOfLevel cmp v n i
    of f n files these i at =
        let x = from_map (input_at n) files i at in
        record { meta = x.source; there = (from_filter f (level_files cmp v n) x.source (subst (λ (l : List FileMeta). Contains l x.source) these x.there)).0; is = x.is }

    there : (n : ℕ) (i : InputFile) → IsOfLevel cmp v n i → Contains v.files (as_file i)
    there n i o =
        let f = from_level cmp total v.files n o.meta o.there in
        subst (Contains v.files) (made f.file i.level i.meta (f.stands ∙ ap (λ (x : InputFile). x.level) o.is) (f.is ∙ ap (λ (x : InputFile). x.meta) o.is)) f.there

-- ---- the version after, opened

module _ (v : NamedVersion) (tables : List (ℕ × List ℕ)) (edit : List ℕ) (made : State) (makes : IsEditedBy (order_cmp v.order) v.version (manifest_of v.version) tables edit made) where
  unnamed : names_another (order_name v.order) makes.edit ≡ false
  unnamed = ap (λ (o : Option (List ℕ)). option_map_or (λ other. not (bytes_eq other (order_name v.order))) o false) makes.no_name

  reopened : (bytes : List ℕ) → bytes ≡ edit → IsOpenedAfter v.order v.version bytes (Ok (v.order, made, manifest_of v.version))
  reopened bytes is = (Ok makes.edit, (subst (λ (b : List ℕ). IsEdit b makes.edit) (sym is) makes.read, sym after_edit))
    where
      after_edit : (applied_by (order_name v.order) v.version makes.edit >>= λ w. opened v.order w (manifest_of v.version)) ≡ opened v.order made (manifest_of v.version)
      after_edit = rw (unnamed, makes.edited) refl

-- ---- nothing was done

on_none : {T : Type 0} (r : Result T Fault) (P : Type 0) → OnOk r ⊥ → OnOk r P
on_none (Ok x) P h = absurd h
on_none (Err e) P h = tt

if_none : {T : Type 0} (r : Result T Fault) (P : T → Type 0) → OnOk r ⊥ → IfOk r P
if_none (Ok x) P h = absurd h
if_none (Err e) P h = tt

module _ {F : Type 0} (g : Ghosts F) (work : WorkSurvives g) where
  -- no call leaves the version
  pub kept : (v : HeldVersion) (start : World) (old : F) → StandsHeld v start (g.calls old) → LeavesOnly start (g.calls old) (g.calls old) (ReadsHeld v)
  kept v start old stands = (work old (begun old v.named) v.named v.tables (Err (fault Numbers)) [] start refl stands).0

pub either : {start : World} {before after : List Step} (v n : HeldVersion) → LeavesOnly start before after (ReadsHeld v) → LeavesEither v n start before after
either v n h = record { steps = h.steps; all = h.all; each = λ sofar moment files left. inl (h.each sofar moment files left) }

-- ---- the answer for picked inputs

abbrev numbers : Result Answer Fault
numbers = Err (fault Numbers)

none_made_of : {a : Answer} → numbers ≡ Ok a → ⊥
none_made_of h = cc h

module _ (cmp : List ℕ → List ℕ → Ordering) (short_keys : ShortKeys) (v : State) (loaded : List (ℕ × List ℕ)) (p : PickedInputs) (s : Settings) (a : Answer) where
  abbrev numbered_by : Option ℕ → Result RequestView Fault
  numbered_by first = ok_or first (fault Numbers) >>= λ number. Ok (request_from number v loaded p s)

  abbrev answered_by : Option ℕ → Result Answer Fault
  answered_by first = test_result (nat_le 1 s.ranges && nat_le s.ranges 4096) SplitCount >>= λ _. numbered_by first >>= λ r. compaction_result cmp short_keys s.workers r

  none_answered : answered_by None ≡ Ok a → ⊥
  none_answered h = none_made_of ((bind_ok (test_result (nat_le 1 s.ranges && nat_le s.ranges 4096) SplitCount) (λ _. numbered_by None >>= λ r. compaction_result cmp short_keys s.workers r) a h).2)

  -- the first output has the number after the manifest's
  from_next : compaction_from None cmp short_keys v loaded p s ≡ Ok a → compaction_from (Some (manifest_of v + 1)) cmp short_keys v loaded p s ≡ Ok a
  from_next h = by (nat_lt (manifest_of v) (2 ^ 64 - 1)) refl
    where
      above : nat_lt (manifest_of v) (manifest_of v + 1) ≡ true
      above = let lt : manifest_of v < manifest_of v + 1 = omega arith in grind (arith, nat_tests, lt)

      asked : first_output v (Some (manifest_of v + 1)) ≡ Some (manifest_of v + 1)
      asked = ap (λ (b : Bool). if b then Some (manifest_of v + 1) else None) above

      by : (b : Bool) → nat_lt (manifest_of v) (2 ^ 64 - 1) ≡ b → compaction_from (Some (manifest_of v + 1)) cmp short_keys v loaded p s ≡ Ok a
      by true is = ap answered_by (asked ∙ sym (ap (λ (b : Bool). if b then Some (manifest_of v + 1) else None) is)) ∙ h
      by false is = absurd (none_answered (sym (ap answered_by (ap (λ (b : Bool). if b then Some (manifest_of v + 1) else None) is)) ∙ h))

-- what was done of a level makes this version
record StepDone (v : NamedVersion) (tables : List (ℕ × List ℕ)) (edit : List ℕ) (made : State) : Type 0 where
  makes : IsEditedBy (order_cmp v.order) v.version (manifest_of v.version) tables edit made
  numbered : IsNumbered made

abbrev next_named : NamedVersion → State → NamedVersion
next_named v made = record { order = v.order; version = made; manifest = manifest_of v.version }

-- one answer
module _ (v : NamedVersion) (is : IsNumbered v.version) (loaded : List (ℕ × List ℕ)) (p : PickedInputs) (s : Settings) (a : Answer) (placed : ArePlaced v.version p) (pointer : IsInternalKey p.pointer.key) (bytes : AreBytes a.edit)
    (answered : compaction_from (Some (manifest_of v.version + 1)) (order_cmp v.order) (order_short_keys v.order) v.version loaded p s ≡ Ok a) where
  over : IsEditOver v.version (manifest_of v.version + 1) (manifest_of v.version + 1 + length a.tables) a.tables a.edit
  over = own_edit (order_cmp v.order) (order_short_keys v.order) v.version is (manifest_of v.version + 1) loaded p s a (omega arith) placed pointer bytes answered

  abbrev one_made : State
  one_made = after (order_cmp v.order) v.version is (manifest_of v.version + 1 + length a.tables) a.tables a.edit over

  one_done : StepDone v a.tables a.edit one_made
  one_done = record {
    makes = edited_by (order_cmp v.order) v.version is (manifest_of v.version + 1 + length a.tables) a.tables a.edit over a.edit over.read
        (next_there (order_cmp v.order) (order_short_keys v.order) v.version is (manifest_of v.version + 1) loaded p s a (omega arith) placed pointer bytes answered);
    numbered = next_numbered (order_cmp v.order) v.version is (manifest_of v.version + 1 + length a.tables) a.tables a.edit over;
  }

-- ---- the law

first_link : (l : GroupedAnswer) (links : List GroupedAnswer) → l ∷ links ≡ [] → ⊥
first_link l links h = cc h

none_made : {T : Type 0} (steps : List Step) (r : Result T Fault) → AreMadeBy [] steps r → steps ≡ []
none_made steps (Ok x) h = h
none_made steps (Err e) h = h

nothing : {T : Type 0} {before after : List Step} {old new : ToldFiles} (r : Result T Fault) → MakesCalls [] before after old new r → after ≡ before
nothing {before = before} r m = m.appended ∙ ap (λ (t : List Step). before ++ t) (none_made m.steps r m.made) ∙ append-nil before

if_ok : {T : Type 0} (r : Result T Fault) (P Q : T → Type 0) → ((x : T) → P x → Q x) → IfOk r P → IfOk r Q
if_ok (Ok x) P Q f h = f x h
if_ok (Err e) P Q f h = tt

on_done : {T : Type 0} (P : Type 0) (r : Result T Fault) → OnOk (done_of r) P → OnOk r P
on_done P (Ok x) h = h
on_done P (Err e) h = tt

module _ {F : Type 0} (g : Ghosts F) (work : WorkSurvives g) (installs : InstallationSurvives g) (compacts : CompactionsSurvive g) (selection : Selection) (level : ℕ) (s : Settings) (v : HeldVersion) (old new : F) (result : Result CompactionStep Fault) (start : World)
    (is : IsNumbered v.named.version) (stands : StandsHeld v start (g.calls old)) where
  abbrev u : State
  u = v.named.version

  abbrev cmp : List ℕ → List ℕ → Ordering
  cmp = order_cmp v.named.order

  abbrev Survives : Type 0
  Survives = (n : HeldVersion) × LeavesEither v n start (g.calls old) (g.calls new) × OnOk result (StandsHeld n start (g.calls new)) × IfOk result (IsNextBy v.named n.named)

  unchanged : (g.calls new ≡ g.calls old) → OnOk result ⊥ → Survives
  unchanged same none = (
    v,
    either v v (subst (λ (c : List Step). LeavesOnly start (g.calls old) c (ReadsHeld v)) (sym same) (kept g work v start old stands)),
    on_none result (StandsHeld v start (g.calls new)) none,
    if_none result (IsNextBy v.named v.named) none,
  )

  next_by : (tables : List (ℕ × List ℕ)) (edit : List ℕ) (made : State) → StepDone v.named tables edit made → IfOk result (λ step. step.edit.items ≡ edit) → IfOk result (IsNextBy v.named (next_named v.named made))
  next_by tables edit made done same = if_ok result (λ step. step.edit.items ≡ edit) (IsNextBy v.named (next_named v.named made)) (λ step e. (done.numbered, reopened v.named tables edit made done.makes step.edit.items e)) same

  -- the inputs that the rules pick
  picked : IsAnswerInstalled (IsAnswerForLevel cmp (order_short_keys v.named.order) (g.tells old) u level s) (order_name v.named.order) cmp u (change_of g old new) result → Survives
  picked i =
      let answered = from_next cmp (order_short_keys v.named.order) u i.is_answer.1.loaded i.picked s i.answer i.is_answer.1.answered in
      let out = has_outputs cmp (order_short_keys v.named.order) (request_from (manifest_of u + 1) u i.is_answer.1.loaded i.picked s) i.answer (thread_at cmp (order_short_keys v.named.order) u i.is_answer.1.loaded i.picked s (manifest_of u + 1) i.answer (omega arith) answered) in
      let low : i.picked.level ≤ 5 = out.passed.level in
      let own = i.is_answer.0.level_is in
      let placed = picked_placed cmp (order_total v.named.order) u level i.picked i.is_answer.0 (omega (arith, low, own)) in
      let made = one_made v.named is i.is_answer.1.loaded i.picked s i.answer placed i.pointer i.bytes answered in
      let done = one_done v.named is i.is_answer.1.loaded i.picked s i.answer placed i.pointer i.bytes answered in
      let law = compacts v.named (next_named v.named made) i.answer old new result v.tables start i.calls (record { order = refl; manifest = refl; makes = done.makes }) stands in (
        record { named = next_named v.named made; tables = named_tables (next_named v.named made) (i.answer.tables ++ v.tables) },
        law.0,
        law.1,
        next_by i.answer.tables i.answer.edit made done (if_ok result (λ step. step_in step ≡ _) (λ step. step.edit.items ≡ i.answer.edit) (λ step e. ap (λ (x : StepView). x.edit) e) i.step),
      )

  -- parts, of which tables were written
  module _ (w : IsWholeWritten g (order_name v.named.order) cmp (order_short_keys v.named.order) u (AreSelected selection cmp u level) s old new result) (some : w.links ≢ []) where
    placed : (p : PickedInputs) → Contains w.parts p → ArePlaced u p
    placed p at = selected_placed cmp (order_total v.named.order) u selection level w.parts w.are_parts p at

    abbrev edits : List ℕ
    edits = edits_of (answers_in w.links)

    abbrev tables : List (ℕ × List ℕ)
    tables = tables_of (answers_in w.links)

    abbrev last : ℕ
    last = last_after (manifest_of u) (answers_in w.links)

    all : AreOver g old cmp (order_short_keys v.named.order) u is s w.parts w.links
    all = are_over g old cmp (order_short_keys v.named.order) u is s w.parts w.links some placed w.chain

    abbrev made_of : State
    made_of = after cmp u is last tables edits all.all

    done : (bytes : List ℕ) → IsEdit bytes all.all.edit → StepDone v.named tables bytes made_of
    done bytes read = record {
      makes = edited_by cmp u is last tables edits all.all bytes read all.free;
      numbered = next_numbered cmp u is last tables edits all.all;
    }

    installation : (bytes : List ℕ) (read : IsEdit bytes all.all.edit) → IsInstallation g (place_with v.named tables bytes (next_named v.named made_of)) (groups_in w.links) old new (done_of result) → IfOk result (λ step. step.edit.items ≡ bytes) → Survives
    installation bytes read i same =
        let law = installs (place_with v.named tables bytes (next_named v.named made_of)) (groups_in w.links) old new (done_of result) v.tables start i stands in (
          record { named = next_named v.named made_of; tables = named_tables (next_named v.named made_of) (tables ++ v.tables) },
          law.0,
          on_done _ result law.1,
          next_by tables bytes made_of (done bytes read) same,
        )

    whole : Survives
    whole = elim w.written [
      | inl t ↦ installation edits all.all.read
          (stopped g v.named (groups_in w.links) tables all.joined made_of edits (done edits all.all.read).makes old new result t.1 t.0)
          (if_none result (λ step. step.edit.items ≡ edits) t.1)
      | inr i ↦ (
          let bytes = edit_bytes i.1.edit in
          let alike : all.all.edit ≡ i.1.edit = one_edit edits all.all.edit i.1.edit all.all.read i.1.read in
          let read : IsEdit bytes all.all.edit = subst (IsEdit bytes) (sym alike) i.1.again in
          installation bytes read
          (installed g v.named (groups_in w.links) tables all.joined made_of bytes (done bytes read).makes old new i.1.at tt result i.1.written i.1.runs)
          (if_ok result (λ step. step_in step ≡ whole_step u (answers_in w.links) i.1.edit) (λ step. step.edit.items ≡ bytes) (λ step e. ap (λ (x : StepView). x.edit) e) i.1.step)
          )
    ]

  -- parts
  parts : IsWholeWritten g (order_name v.named.order) cmp (order_short_keys v.named.order) u (AreSelected selection cmp u level) s old new result → Survives
  parts w = by w.links refl
    where
      no_parts : (ps : List PickedInputs) → length ps ≡ 0 → AreSelected selection cmp u level (Ok ps) → ⊥
      no_parts [] none h = (among cmp u level selection [] h).some refl
      no_parts (p ∷ ps) none h = absurd (cc none)

      by : (links : List GroupedAnswer) → w.links ≡ links → Survives
      by [] none = elim w.written [
        | inl t ↦ unchanged (nothing result (subst (λ (l : List GroupedAnswer). MakesCalls (table_calls (groups_in l)) (g.calls old) (g.calls new) (g.tells old) (g.tells new) result) none t.0)) t.1
        | inr i ↦ absurd (no_parts w.parts (sym i.0 ∙ ap length none) w.are_parts)
      ]
      by (l ∷ links) some = whole w (λ e. first_link l links (sym some ∙ e))

  survives : IsLevelMadeBy selection g v.named.order u level s old new result → Survives
  survives (inl (picks, inl same)) = unchanged same.calls same.refused
  survives (inl (picks, inr i)) = picked i
  survives (inr (inl same)) = unchanged same.calls same.refused
  survives (inr (inr w)) = parts w

pub levels_survive : {F : Type 0} (g : Ghosts F) → WorkSurvives g → InstallationSurvives g → CompactionsSurvive g → LevelsSurvive g
levels_survive g work installs compacts selection level s v old new result start is made stands = survives g work installs compacts selection level s v old new result start is stands made
