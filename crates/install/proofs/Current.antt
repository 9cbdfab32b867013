-- CURRENT as the calls before the rename leave it, and what comes of reading it again.
use Rattle.std.proofs.Common.{◌≡◌, ◌≢◌, ◌⊎◌, ◌<◌, ◌≤◌, ◌^◌, ℕ, true, List, [], ◌∷◌, map, Option, Some, Result, Err, sym, ap, subst, ◌∙◌, inl, inr}
use Rattle.edit.proofs.Refusals.{unless_from}
use Rattle.edit.specs.Answers.{UnlessMemory}
use Rattle.edit.specs.fault.Fault.{Fault}
use Rattle.folder.specs.Calls.{Call, Created, Done, Files, FolderSynced, FolderView, Removed, Renamed, Shows, Step, Synced, Tells, Written, with_contents, with_synced, with_written}
use Rattle.folder.specs.CallSequence.{MakesCalls, ShowsAll}
use Rattle.folder.specs.Folder.{TellsSame}
use Rattle.folder.specs.Names.{current_text}
use Rattle.folder.specs.OpenAnswer.{IsStopped}
use Rattle.folder.proofs.OpeningLemmas.{failed_since}
use Rattle.folder.proofs.PutLemmas.{put_other}
use Rattle.folder.proofs.WrittenLemmas.{AllOther}
use Rattle.folder.specs.TableFiles.{named_tables}
use Rattle.install.specs.CurrentAnswer.{IsCurrentAnswer}
use Rattle.install.specs.Install.{manifest_calls, table_calls}
use Rattle.install.proofs.Parts.{RunsWhole}
use Rattle.install.proofs.Switch.{CURRENT, manifest_no_current, table_no_current, temporary_no_current}

-- a call that leaves CURRENT as it is
abbrev pub LeavesCurrent : Call → Type 0
LeavesCurrent (Created name bytes) = name ≢ CURRENT
LeavesCurrent (Written files) = AllOther CURRENT files
LeavesCurrent (Synced name) = Unit {0}
LeavesCurrent (Renamed from to) = ⊥
LeavesCurrent (Removed name) = ⊥
LeavesCurrent FolderSynced = Unit {0}

abbrev pub AllLeaveCurrent : List Call → Type 0
AllLeaveCurrent [] = Unit {0}
AllLeaveCurrent (call ∷ calls) = LeavesCurrent call × AllLeaveCurrent calls

tables_leave : (outputs : List (ℕ × List ℕ)) → AllOther CURRENT (named_tables outputs)
tables_leave [] = tt
tables_leave (t ∷ outputs) = (table_no_current t.0, tables_leave outputs)

-- none of the calls before the rename is one of CURRENT
pub groups_leave : (groups : List (List (ℕ × List ℕ))) → AllLeaveCurrent (table_calls groups)
groups_leave [] = tt
groups_leave (g ∷ groups) = (tables_leave g, groups_leave groups)

pub manifest_leaves : (number : ℕ) (manifest : List ℕ) → number < 2 ^ 64 → AllLeaveCurrent (manifest_calls number manifest)
manifest_leaves number manifest small = (manifest_no_current number small, (tt, (temporary_no_current number, (tt, (tt, tt)))))

written_current : (files : List (List ℕ × List ℕ)) (s next : FolderView) → AllOther CURRENT files → next ≡ with_written s files → next.files CURRENT ≡ s.files CURRENT
written_current [] s next h is = ap (λ (v : FolderView). v.files CURRENT) is
written_current (file ∷ files) s next h is =
    written_current files (with_synced (with_contents s file.0 (Some file.1)) file.0) next h.1 is ∙ put_other s.files file.0 (Some file.1) CURRENT (λ e. h.0 (sym e))

pub shows_current : (call : Call) (s next : FolderView) → LeavesCurrent call → Shows (Done call) s next → next.files CURRENT ≡ s.files CURRENT
shows_current (Created name bytes) s next h is = ap (λ (v : FolderView). v.files CURRENT) is ∙ put_other s.files name (Some bytes) CURRENT (λ e. h (sym e))
shows_current (Written files) s next h is = written_current files s next h is
shows_current (Synced name) s next h is = ap (λ (v : FolderView). v.files CURRENT) is
shows_current (Renamed from to) s next h is = absurd h
shows_current (Removed name) s next h is = absurd h
shows_current FolderSynced s next h is = ap (λ (v : FolderView). v.files CURRENT) is

show_current : (calls : List Call) (s last : FolderView) → AllLeaveCurrent calls → ShowsAll (map Done calls) s last → last.files CURRENT ≡ s.files CURRENT
show_current [] s last h is = ap (λ (v : FolderView). v.files CURRENT) is
show_current (call ∷ calls) s last h shows = show_current calls shows.0 last h.1 shows.2 ∙ shows_current call s shows.0 h.0 shows.1

-- that a folder that tells files tells the same CURRENT later
abbrev pub TellsCurrent : (List ℕ → Option (List ℕ) → Type 0) → (List ℕ → Option (List ℕ) → Type 0) → Type 0
TellsCurrent old new = (files : Files) → Tells old files → (now : Files) × Tells new now × (now CURRENT ≡ files CURRENT)

-- it does after calls that leave CURRENT as it is
pub told_current : (calls : List Call) → AllLeaveCurrent calls → (before after : List Step) (old new : List ℕ → Option (List ℕ) → Type 0) → RunsWhole calls before after old new → TellsCurrent old new
told_current calls leave before after old new runs files tell =
    let s : FolderView = record { files = files; synced = λ name. true } in
    let last = runs.change s tell in
    let shows = subst (λ (steps : List Step). ShowsAll steps s last.0) runs.made last.1 in
    (last.0.files, last.2, show_current calls s last.0 leave shows)

-- reading changes nothing of what was made
pub runs_read : {T E : Type 0} (calls : List Call) (before middle after : List Step) (old between new : List ℕ → Option (List ℕ) → Type 0) (r : Result T E) → TellsSame between new → after ≡ middle → MakesCalls calls before middle old between r
    → MakesCalls calls before after old new r
runs_read calls before middle after old between new r same is h = record {
  steps = h.steps;
  made = h.made;
  appended = is ∙ h.appended;
  change = λ s tell.
      let last = h.change s tell in
      let told : Tells new last.0.files = λ name held. (λ x. (last.2 name held).0 ((same name held).1 x), λ x. (same name held).0 ((last.2 name held).1 x)) in
      (last.0, last.1, told);
}

-- what a second reading of CURRENT is refused as, of all calls, if CURRENT is as it was
pub same_refused : {T : Type 0} (tells : List ℕ → Option (List ℕ) → Type 0) (opened before middle now : ℕ) → before ≤ middle → middle ≤ now → (files : Files) → Tells tells files → files CURRENT ≡ Some (current_text opened)
    → (first : Result T Fault) (e : Fault) → UnlessMemory e (IsStopped middle now e ⊎ IsCurrentAnswer {T = T} tells opened (Err e)) → UnlessMemory e (IsStopped before now e)
same_refused {T} tells opened before middle now one two files tell is first e h = unless_from e (IsStopped middle now e ⊎ IsCurrentAnswer {T = T} tells opened (Err e)) (IsStopped before now e) (λ g. elim g [
  | inl s ↦ (s.0, failed_since before middle now one two s.1)
  | inr changed ↦ absurd (changed.2 (sym ((tell CURRENT changed.0).0 changed.1) ∙ is))
]) h
