-- What a call changes of a folder.
use Rattle.std.specs.Prelude.{◌≡◌, ℕ, List, ◌++◌}
use Rattle.folder.specs.Calls.{Step, ToldFiles}
use Rattle.folder.specs.Folder.{TellsSame}
use Rattle.folder.specs.declared.folder.Folder.{Ghosts}

-- What a call changes of a folder, or the last part of one: all calls that write, as they were
-- before it and after it, and what the folder tells before and after it.
pub record FolderChange : Type 1 where
  pub before : List Step
  pub after : List Step
  pub old : ToldFiles
  pub new : ToldFiles

-- what a call changes of a folder
abbrev pub change_of : {F : Type 0} → Ghosts F → F → F → FolderChange
change_of g old new =
    record { before = g.calls old; after = g.calls new; old = g.tells old; new = g.tells new }

-- no call that writes was made, the folder tells what it told, and nothing was told of it
pub record IsUntouched {W : Type 0} (change : FolderChange) (told told_now : W) : Type 0 where
  pub calls : change.after ≡ change.before
  pub same : TellsSame change.old change.new
  pub untold : told_now ≡ told

-- what it changes after these calls, which it makes first
abbrev pub change_since : List Step → FolderChange → FolderChange
change_since steps change = record change { before = change.before ++ steps }

-- what a call changes of a folder, and how often the device had failed before it, and has after it
pub record FolderCall : Type 1 where
  pub change : FolderChange
  pub failed : ℕ
  pub now : ℕ

abbrev pub call_of : {F : Type 0} → Ghosts F → F → F → FolderCall
call_of g old new =
    record { change = change_of g old new; failed = g.failed old; now = g.failed new }
