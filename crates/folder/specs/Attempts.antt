-- A call of the code as a step.
use Rattle.std.specs.Prelude.{if◌then◌else◌}
use Rattle.folder.specs.Calls.{Call, Created, Done, FolderSynced, Removed, Renamed, Step, Synced}
use Rattle.folder.specs.Calls.{Tried, Written}
use Rattle.folder.specs.TableFiles.{named_tables, table_files}
use Rattle.folder.specs.declared.trail.AnyWrite.{AnyWrite}
use Rattle.folder.specs.declared.trail.AnyWrite.TheVariants.{Made, One, Tables}
use Rattle.folder.specs.declared.trail.Attempt.{Attempt}
use Rattle.folder.specs.declared.trail.WriteCall.{WriteCall}
use Rattle.folder.specs.declared.trail.WriteCall.TheVariants.{Create, Remove, Rename, Sync}
use Rattle.folder.specs.declared.trail.WriteCall.TheVariants.{SyncFolder}

abbrev pub call_in : WriteCall → Call
call_in (Create name bytes) = Created name.now bytes.now
call_in (Sync name) = Synced name.now
call_in (Rename from to) = Renamed from.now to.now
call_in (Remove name) = Removed name.now
call_in SyncFolder = FolderSynced

abbrev pub any_call_in : AnyWrite → Call
any_call_in (One call) = call_in call
any_call_in (Tables tables) = Written (table_files tables.now)
any_call_in (Made source) = Written (named_tables source.now.tables)

abbrev pub step_in : Attempt → Step
step_in attempt = if attempt.is_done then Done (any_call_in attempt.call) else Tried
    (any_call_in attempt.call)
