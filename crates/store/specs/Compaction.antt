-- What a compaction makes of a version, and calls that leave a folder as it was.
use Rattle.std.specs.Prelude.{◌≡◌, ℕ, ◌<◌, ◌^◌, true, List, [], ◌∷◌, ◌++◌}
use Rattle.std.specs.Prelude.{Result, Ok, OnOk}
use Rattle.folder.specs.fault.Fault.{Fault}
use Rattle.folder.specs.Version.{State}
use Rattle.folder.specs.Calls.{Call, Done, Files, FolderSynced, Step, Tells}
use Rattle.folder.specs.CallSequence.{AreMade}
use Rattle.folder.specs.Crash.{IsDurable, Leads, World}
use Rattle.folder.specs.Folder.{TellsSame}
use Rattle.folder.specs.ReadsAs.{ReadsAs, RestsOn}
use Rattle.folder.specs.declared.order.Order.{Order}
use Rattle.reads.specs.Gets.{get_of}
use Rattle.reads.specs.Tables.{NumberedContents}
use Rattle.compact.specs.Readable.{is_read, readable_of}
use Rattle.checks.specs.LawfulTables.{IsLawfulTables}
use Rattle.compact.specs.OneThread.{Answer}
use Rattle.install.specs.Install.{AlwaysStandsAs, IsEditedBy, LoadedVersion, next_with}
use Rattle.store.specs.FolderRequest.{last_of, manifest_of}
use Rattle.compact.specs.declared.settings.Settings.{Settings}
use Rattle.folder.specs.Comparator.{KeyOrder}
use Rattle.install.specs.FolderChange.{FolderChange}

-- A version with the bytes of its tables answers as another one does: it is lawful, and each get at
-- a sequence that was to stay readable answers as there.
pub record AnswersAs (cmp : KeyOrder) (s : Settings) (v : State) (tables : List NumberedContents)
    (next : LoadedVersion) : Type 0 where
  pub tables_next : List NumberedContents
  pub lawful : IsLawfulTables cmp next.version next.tables (Ok tables_next)
  pub gets : (user : List ℕ) (at : ℕ) → is_read (readable_of s.snapshots (last_of v)) at ≡ true →
      get_of next.version tables_next user at ≡ get_of v tables user at

-- The edited version of a compaction's answer: the answer's edit makes it of the version, by a
-- manifest whose number is next file. Last sequence stays, and next file rises. With the tables
-- that an installation leaves it answers as the version before.
pub record EditedVersion (cmp : KeyOrder) (v : State) (loaded : List (ℕ × List ℕ))
    (tables : List NumberedContents) (s : Settings) (answer : Answer) : Type 0 where
  pub next : State
  pub edited : IsEditedBy cmp v (manifest_of v) answer.tables answer.edit next
  pub last : last_of next ≡ last_of v
  pub some : 0 < manifest_of v
  pub rises : manifest_of v < manifest_of next
  pub small : manifest_of next < 2 ^ 64
  pub answers : AnswersAs cmp s v tables (next_with cmp next answer.tables loaded)

-- No call that writes was made, and the folder holds what it held.
pub record IsUnchanged {T : Type 0} (change : FolderChange) (result : Result T Fault)
    : Type 0 where
  pub calls : change.after ≡ change.before
  pub same : TellsSame change.old change.new
  pub refused : OnOk result ⊥

-- The only calls that write were syncs, the first of these, and the folder holds what it held.
pub record IsSynced {T : Type 0} (syncs : List Call) (change : FolderChange)
    (result : Result T Fault) : Type 0 where
  pub steps : List Step
  pub made : AreMade syncs steps
  pub calls : change.after ≡ change.before ++ steps
  pub same : (files : Files) → Tells change.old files → Tells change.new files
  pub refused : OnOk result ⊥

-- If a sync of the folder keeps each name on which a version rests, the folder stands for the
-- version after it. It keeps each file that was synced, and each name without a file.
abbrev pub SyncLaw : Type 0
SyncLaw =
    (cmp : KeyOrder) (order : Order) (v : State) (tables : List (ℕ × List ℕ))
    (start : World) (calls : List Step) →
    ((w : World) → Leads start calls w →
    ReadsAs cmp order v tables w.shown.files × ((name : List ℕ) → RestsOn cmp v w.shown.files name →
    IsDurable w.shown name)) →
    AlwaysStandsAs cmp order v tables start (calls ++ Done FolderSynced ∷ [])
