-- Compactions of one level after the other, with a removal after each: what they leave.
use Rattle.std.proofs.Common.{arith, Err, List, Ok, Option, Result, Some, [], ap, inl, inr, refl, subst, suc, sym, true, zero, ℕ, ◌+◌, ◌^◌, ◌∙◌, ◌∷◌, ◌≡◌, ◌≢◌, ◌≤◌}
use Rattle.std.specs.Option.{IfSome}
use Rattle.std.specs.Prelude.{IfErr, OnOk, codes, ◌⊎◌}
use Rattle.std.specs.declared.cmp.Ordering.{Ordering}
use Rattle.edit.proofs.Binds.{ok_is}
use Rattle.edit.proofs.Refusals.{unless_from}
use Rattle.edit.specs.Answers.{UnlessMemory, fault}
use Rattle.edit.specs.Version.{State}
use Rattle.edit.specs.fault.Fault.{Fault}
use Rattle.edit.specs.fault.FaultName.TheVariants.{Device, Numbers}
use Rattle.folder.specs.Calls.{Files, Step, Tells, ToldFiles as Told}
use Rattle.folder.specs.Folder.{TellsSame}
use Rattle.folder.specs.Names.{current_text}
use Rattle.folder.specs.OpenAnswer.{IsStopped}
use Rattle.folder.specs.Orders.{order_cmp}
use Rattle.folder.specs.ReadsAs.{ReadsAs, ReadsBy}
use Rattle.folder.specs.declared.order.Order.{Order}
use Rattle.install.proofs.Changes.{call_by, change_by}
use Rattle.install.proofs.Stays.{stays_untouched}
use Rattle.install.specs.Install.{next_version_tables, version_with}
use Rattle.install.specs.Removal.{StaysAs}
use Rattle.keep.specs.Gets.{get_of}
use Rattle.keep.specs.Readable.{is_read, readable_of}
use Rattle.keep.specs.Tables.{NumberedContents}
use Rattle.compact.specs.declared.settings.Settings.{Settings}
use Rattle.checks.proofs.LawfulLemmas.{sound_checked}
use Rattle.checks.specs.LawfulTables.{IsLawfulTables}
use Rattle.store.proofs.InstallPart.{still}
use Rattle.store.specs.Compaction.{AnswersAs}
use Rattle.store.specs.Descent.{IsNextLevel}
use Rattle.store.specs.FolderRequest.{last_of, manifest_of}
use Rattle.store.specs.OrderView.{order_view}
use Rattle.store.specs.declared.compaction_step.CompactionStep.{CompactionStep}
use Rattle.store.specs.declared.synced_version.SyncedVersion.{SyncedVersion}
use Rattle.levels.specs.DescentLeft.{CompactionLink, FolderVersion, IsDescended, IsLink, IsNextLevelRefused, folder_version, last_left, left_by}
use Rattle.levels.specs.LevelLeft.{IsLevelInstalled, IsWholeStopped}
use Rattle.levels.specs.LevelMade.{IsRefusedSo, Way, way_by}
use Rattle.levels.specs.LevelTaken.{IsLevelLeft, IsLevelTaken}
use Rattle.levels.specs.declared.descent_end.DescentEnd.{DescentEnd}
use Rattle.levels.specs.declared.descent_end.DescentEnd.TheVariants.{Stopped}
use Rattle.levels.specs.declared.selection.Selection.{Selection}
use Rattle.store.proofs.Flow.{no_refusal as ok_refused, same_refusal}
use Rattle.store.proofs.Descending.{by_memory}

-- what a folder tells is what it tells
pub same_tells : (tells : Told) → TellsSame tells tells
same_tells tells name bytes = (λ h. h, λ h. h)

on_ok : {P : Type 0} (r : Result DescentEnd Fault) → P → OnOk r P
on_ok (Ok x) p = p
on_ok (Err e) p = tt

one_list : (cmp : List ℕ → List ℕ → Ordering) (v : State) (loaded : List (ℕ × List ℕ)) (a b : List NumberedContents) → IsLawfulTables cmp v loaded (Ok a) → IsLawfulTables cmp v loaded (Ok b) → a ≡ b
one_list cmp v loaded a b h k = ok_is a b (sym (sound_checked cmp v loaded a h) ∙ sound_checked cmp v loaded b k)

-- the refusal that no number is left isn't Device
pub never_numbers : (e : Fault) → e ≡ fault Numbers → e.name ≢ Device
never_numbers e is same = let both : Numbers ≡ Device = sym (ap (λ (f : Fault). f.name) is) ∙ same in cc both

pub at_least_one : (n : ℕ) → (n ≡ 0 → ⊥) → 1 ≤ n
at_least_one zero h = absurd (h refl)
at_least_one (suc n) h = omega arith

module _ (selection : Selection) (order : Order) (s : Settings) (bottom : ℕ) (v : State) (manifest : ℕ) (loaded : List (ℕ × List ℕ)) (tables : List NumberedContents) (lawful : IsLawfulTables (order_cmp order) v loaded (Ok tables))
    (before : List Step) (old : Told) (failed : ℕ) (files : Files) (held : Tells old files) (reads : ReadsBy (order_cmp order) order v manifest loaded files) where
  abbrev cmp : List ℕ → List ℕ → Ordering
  cmp = order_cmp order

  abbrev way : Way
  way = way_by selection order s bottom

  abbrev first : FolderVersion
  first = folder_version v manifest loaded

  -- what is left
  abbrev pub LeftBy : List Step → Told → ℕ → Result DescentEnd Fault → Type 0
  LeftBy after new now r = IsDescended way first tables (call_by before after old new failed now) r

  -- why it is refused, if it isn't memory
  abbrev WhyBy : ℕ → Fault → Type 0
  WhyBy now e = IsStopped failed now e ⊎ IsNextLevelRefused way first e

  own_answers : AnswersAs cmp s v tables (version_with v loaded)
  own_answers = record { tables_next = tables; lawful = lawful; gets = λ user at read. refl }

  -- no further one was begun
  pub none_begun : (after : List Step) (new : Told) (now : ℕ) (r : Result DescentEnd Fault) → after ≡ before → TellsSame old new → IfErr r (λ e. UnlessMemory e (WhyBy now e)) → LeftBy after new now r
  none_begun after new now r is same refused = record {
    links = [];
    begun = [];
    chain = tt;
    few = omega arith;
    none = on_ok r refl;
    files_now = files;
    holds = still old new same files held;
    read = reads.reads;
    reads_last = on_ok r reads;
    answers = own_answers;
    refused = refused;
  }

  module _ (after : List Step) (new : Told) where
    -- tables were written, and then it was refused
    one_stopped : (now : ℕ) (e : Fault) → IsWholeStopped (order_view order) (version_with v loaded) (change_by before after old new) (Err e) → UnlessMemory e (WhyBy now e) → LeftBy after new now (Err e)
    one_stopped now e t refused =
        let found = t.survives.read files held reads.reads in
        record {
          links = [];
          begun = [];
          chain = tt;
          few = omega arith;
          none = tt;
          files_now = found.0;
          holds = found.1;
          read = elim found.2 [ inl a ↦ a | inr b ↦ b ];
          reads_last = tt;
          answers = own_answers;
          refused = refused;
        }

    module _ (level : ℕ) (next_level : IsNextLevel v bottom (Some level)) (r : Result CompactionStep Fault) (i : IsLevelInstalled selection (order_view order) (version_with v loaded) level s (change_by before after old new) r) where
      abbrev pub next : State
      next = i.compacted.edited.next

      abbrev pub next_held : List (ℕ × List ℕ)
      next_held = next_version_tables cmp i.compacted.edited.next i.compacted.outputs loaded

      abbrev link : CompactionLink
      link = record { level = level; step = i.step; left = version_with next next_held }

      is_link : IsLink way (version_with v loaded) link
      is_link = record { next_level = next_level; compacted = i.compacted; left_is = refl }

      -- a compaction that was begun
      one_begun : (now : ℕ) (e : Fault) → UnlessMemory e (WhyBy now e) → LeftBy after new now (Err e)
      one_begun now e refused =
          let found = i.installed.survives.read files held reads.reads in
          record {
            links = [];
            begun = link ∷ [];
            chain = (is_link, tt);
            few = omega arith;
            none = tt;
            files_now = found.0;
            holds = found.1;
            read = found.2;
            reads_last = tt;
            answers = own_answers;
            refused = refused;
          }

  -- ---- one that was installed, and a removal after it

  module _ (level : ℕ) (next_level : IsNextLevel v bottom (Some level)) (mid : List Step) (mid_tells : Told) (step : CompactionStep) (i : IsLevelInstalled selection (order_view order) (version_with v loaded) level s (change_by before mid old mid_tells) (Ok step))
      (after : List Step) (new : Told) (stays : StaysAs (order_cmp order) order i.compacted.edited.next (manifest_of v) (next_version_tables (order_cmp order) i.compacted.edited.next i.compacted.outputs loaded) (change_by mid after mid_tells new)) where
    abbrev l : CompactionLink
    l = link mid mid_tells level next_level (Ok step) i

    abbrev w : State
    w = i.compacted.edited.next

    abbrev ts : List (ℕ × List ℕ)
    ts = next_version_tables cmp i.compacted.edited.next i.compacted.outputs loaded

    one_gets : (user : List ℕ) (at : ℕ) → is_read (readable_of s.snapshots (last_of v)) at ≡ true → get_of w i.compacted.edited.answers.tables_next user at ≡ get_of v tables user at
    one_gets user at read =
        subst (λ (xs : List NumberedContents). get_of w i.compacted.edited.answers.tables_next user at ≡ get_of v xs user at) (one_list cmp v loaded i.compacted.tables tables i.compacted.lawful lawful)
        (i.compacted.edited.answers.gets user at read)

    -- files that the folder tells after both
    pub found_next : (now : Files) × Tells new now × ReadsBy (order_cmp order) order i.compacted.edited.next (manifest_of v) (next_version_tables (order_cmp order) i.compacted.edited.next i.compacted.outputs loaded) now
    found_next =
        let found = i.installed.survives.read files held reads.reads in
        stays.read found.0 found.1 (record { reads = found.3; named = (found.1 (codes "CURRENT") (Some (current_text (manifest_of v)))).0 i.installed.named })

    -- and others follow
    pub one_more : (last : List Step) (last_tells : Told) (mid_failed now : ℕ) (r : Result DescentEnd Fault) → mid_failed ≡ failed
        → IsDescended (way_by selection order s bottom) (folder_version i.compacted.edited.next (manifest_of v) (next_version_tables (order_cmp order) i.compacted.edited.next i.compacted.outputs loaded)) i.compacted.edited.answers.tables_next (call_by after last new last_tells mid_failed now) r → LeftBy last last_tells now r
    one_more last last_tells mid_failed now r count d = record {
      links = l ∷ d.links;
      begun = d.begun;
      chain = (is_link mid mid_tells level next_level (Ok step) i, d.chain);
      few = d.few;
      none = d.none;
      files_now = d.files_now;
      holds = d.holds;
      read = inr d.read;
      reads_last = d.reads_last;
      answers = record {
        tables_next = d.answers.tables_next;
        lawful = d.answers.lawful;
        gets = λ user at read. d.answers.gets user at (ap (λ (n : ℕ). is_read (readable_of s.snapshots n) at) i.compacted.edited.last ∙ read) ∙ one_gets user at read;
      };
      refused = subst (λ (n : ℕ). IfErr r (λ e. UnlessMemory e (IsStopped n now e ⊎ IsNextLevelRefused way (last_left (left_by first l) d.links) e))) count d.refused;
    }

  -- ---- by what was taken

  module _ (level : ℕ) (next_level : IsNextLevel v bottom (Some level)) (mid : List Step) (mid_tells : Told) (now : ℕ) where
    abbrev pub TakenBy : Result (Option SyncedVersion) Fault → Type 0
    TakenBy r = IsLevelTaken way (version_with v loaded) level (call_by before mid old mid_tells failed now) r

    -- it was refused
    pub taken_refused : (e : Fault) → TakenBy (Err e) → LeftBy mid mid_tells now (Err e)
    taken_refused e (inr t) = one_begun mid mid_tells level next_level (Ok t.step) t.installed now e (by_memory e (WhyBy now) t.memory)
    taken_refused e (inl t) = by (subst (λ (x : Fault). IsLevelLeft selection (order_view order) (version_with v loaded) level s (change_by before mid old mid_tells) (Err x)) (sym same) t.left)
      where
        same : e ≡ t.e
        same = same_refusal {Y = Option SyncedVersion} e t.e t.is

        why : UnlessMemory e (WhyBy now e)
        why =
            subst (λ (x : Fault). UnlessMemory x (WhyBy now x)) (sym same)
            (unless_from t.e (IsStopped failed now t.e ⊎ IsRefusedSo selection order (version_with v loaded) level s t.e) (WhyBy now t.e)
            (λ h. elim h [
              | inl stopped ↦ inl stopped
              | inr refused ↦ inr (record { level = level; next_level = next_level; refused = refused })
            ]) t.why)

        by : IsLevelLeft selection (order_view order) (version_with v loaded) level s (change_by before mid old mid_tells) (Err e) → LeftBy mid mid_tells now (Err e)
        by (inl u) = none_begun mid mid_tells now (Err e) u.calls u.same why
        by (inr (inl k)) = one_stopped mid mid_tells now e k why
        by (inr (inr i)) = one_begun mid mid_tells level next_level (Err e) i now e why

    -- it was installed
    pub record IsTaken : Type 0 where
      pub step : CompactionStep
      pub installed : IsLevelInstalled selection (order_view order) (version_with v loaded) level s (change_by before mid old mid_tells) (Ok step)

    -- and it goes on with what is opened
    pub record GoesOn (n : SyncedVersion) : Type 0 where
      pub taken : IsTaken
      pub order_is : n.order ≡ order
      pub version_is : n.version ≡ taken.installed.compacted.edited.next
      pub manifest_is : n.manifest ≡ manifest_of v

    pub taken_on : (o : Option SyncedVersion) (n : SyncedVersion) → o ≡ Some n → TakenBy (Ok o) → GoesOn n
    taken_on o n is (inl t) = absurd (ok_refused o t.e t.is)
    taken_on o n is (inr t) =
        let opened = subst (λ (x : Option SyncedVersion). IfSome x (λ n. (n.order ≡ order) × (n.version ≡ t.installed.compacted.edited.next) × (n.manifest ≡ manifest_of v))) is t.opened in
        record { taken = record { step = t.step; installed = t.installed }; order_is = opened.0; version_is = opened.1; manifest_is = opened.2 }

-- ---- one that was installed, and a removal after it, and none follows

module _ (selection : Selection) (order : Order) (s : Settings) (bottom : ℕ) (v : State) (manifest : ℕ) (loaded : List (ℕ × List ℕ)) (tables : List NumberedContents) (lawful : IsLawfulTables (order_cmp order) v loaded (Ok tables))
    (before : List Step) (old : Told) (failed : ℕ) (files : Files) (held : Tells old files) (reads : ReadsBy (order_cmp order) order v manifest loaded files) (level : ℕ) (next_level : IsNextLevel v bottom (Some level)) (mid : List Step) (mid_tells : Told) where
  abbrev EndBy : List Step → Told → ℕ → Result DescentEnd Fault → Type 0
  EndBy after new now r = IsDescended (way_by selection order s bottom) (folder_version v manifest loaded) tables (call_by before after old new failed now) r

  pub one_ended : (step : CompactionStep) (i : IsLevelInstalled selection (order_view order) (version_with v loaded) level s (change_by before mid old mid_tells) (Ok step)) (after : List Step) (new : Told)
      (stays : StaysAs (order_cmp order) order i.compacted.edited.next (manifest_of v) (next_version_tables (order_cmp order) i.compacted.edited.next i.compacted.outputs loaded) (change_by mid after mid_tells new)) (mid_failed now : ℕ) (r : Result DescentEnd Fault)
      → mid_failed ≡ failed → IfErr r (λ e. UnlessMemory e (IsStopped mid_failed now e)) → EndBy after new now r
  one_ended step i after new stays mid_failed now r count stopped =
      let found = found_next selection order s bottom v manifest loaded tables lawful before old failed files held reads level next_level mid mid_tells step i after new stays in
      let w = i.compacted.edited.next in
      let ts = next_version_tables (order_cmp order) w i.compacted.outputs loaded in
      one_more selection order s bottom v manifest loaded tables lawful before old failed files held reads level next_level mid mid_tells step i after new stays after new mid_failed now r count
      (none_begun selection order s bottom w (manifest_of v) ts i.compacted.edited.answers.tables_next i.compacted.edited.answers.lawful after new mid_failed found.0 found.1 found.2 after new now r refl (same_tells new)
      (why (λ e. IsNextLevelRefused (way_by selection order s bottom) (folder_version w (manifest_of v) ts) e) r stopped))
    where
      why : (P : Fault → Type 0) (q : Result DescentEnd Fault) → IfErr q (λ e. UnlessMemory e (IsStopped mid_failed now e)) → IfErr q (λ e. UnlessMemory e (IsStopped mid_failed now e ⊎ P e))
      why P (Ok x) h = tt
      why P (Err e) h = unless_from e (IsStopped mid_failed now e) (IsStopped mid_failed now e ⊎ P e) (λ k. inl k) h

  -- it was told to stop
  pub taken_stopped : (now : ℕ) (o : Option SyncedVersion) → IsLevelTaken (way_by selection order s bottom) (version_with v loaded) level (call_by before mid old mid_tells failed now) (Ok o) → EndBy mid mid_tells now (Ok Stopped)
  taken_stopped now o (inl t) = absurd (ok_refused o t.e t.is)
  taken_stopped now o (inr t) =
      let next = t.installed.compacted.edited.next in
      let ts = next_version_tables (order_cmp order) next t.installed.compacted.outputs loaded in
      one_ended t.step t.installed mid mid_tells (stays_untouched (order_cmp order) order next (manifest_of v) ts mid mid_tells) failed now (Ok Stopped) refl tt

-- ---- what compactions leave, by an order

abbrev pub DescentClause : Selection → Settings → ℕ → ℕ → List Step → List Step → Told → Told → ℕ → ℕ → Result DescentEnd Fault → Order → State → ℕ → Type 0
DescentClause selection s bottom steps before after old new failed now r order v manifest =
    (files : Files) (loaded : List (ℕ × List ℕ)) (tables : List NumberedContents) → Tells old files → files (codes "CURRENT") ≡ Some (current_text manifest) → ReadsAs (order_cmp order) order v loaded files
    → IsLawfulTables (order_cmp order) v loaded (Ok tables) → 2 ^ 64 ≤ manifest_of v + steps + 1
    → IsDescended (way_by selection order s bottom) (folder_version v manifest loaded) tables (call_by before after old new failed now) r

-- of the order, the version and the manifest that are meant
pub clause_of : (selection : Selection) (s : Settings) (bottom steps : ℕ) (before after : List Step) (old new : Told) (failed now : ℕ) (r : Result DescentEnd Fault) (order other : Order) (v w : State) (m k : ℕ) → other ≡ order → w ≡ v → k ≡ m
    → DescentClause selection s bottom steps before after old new failed now r other w k → DescentClause selection s bottom steps before after old new failed now r order v m
clause_of selection s bottom steps before after old new failed now r order other v w m k order_is version_is manifest_is clause =
    subst (λ (x : ℕ). DescentClause selection s bottom steps before after old new failed now r order v x) manifest_is
    (subst (λ (x : State). DescentClause selection s bottom steps before after old new failed now r order x k) version_is
    (subst (λ (x : Order). DescentClause selection s bottom steps before after old new failed now r x w k) order_is clause))

-- ---- after earlier calls that only read

pub descended_since : (by : Way) (v : FolderVersion) (tables : List NumberedContents) (start before after : List Step) (first_tells old new : Told) (earlier failed now : ℕ) (r : Result DescentEnd Fault) → before ≡ start → failed ≡ earlier
    → IsDescended by v tables (call_by before after old new failed now) r → IsDescended by v tables (call_by start after first_tells new earlier now) r
descended_since by v tables start before after first_tells old new earlier failed now r is count d = record {
  links = d.links;
  begun = d.begun;
  chain = d.chain;
  few = d.few;
  none = d.none;
  files_now = d.files_now;
  holds = d.holds;
  read = d.read;
  reads_last = d.reads_last;
  answers = d.answers;
  refused = subst (λ (n : ℕ). IfErr r (λ e. UnlessMemory e (IsStopped n now e ⊎ IsNextLevelRefused by (last_left v d.links) e))) count d.refused;
}
