-- Syncs change nothing of what is read.
use Rattle.std.proofs.Common.{◌≡◌, ℕ, false, List, [], ◌∷◌, ◌++◌, Option, Result, ap, subst, ◌∙◌, inl, inr}
use Rattle.std.specs.declared.cmp.Ordering.{Ordering}
use Rattle.folder.specs.Version.{State}
use Rattle.folder.specs.Calls.{Call, Created, Done, Files, FolderSynced, FolderView, Removed, Renamed, Shows, Step, Synced, Tells, Tried, Written}
use Rattle.folder.specs.CallSequence.{AreMade, MakesCalls, ShowsAll}
use Rattle.folder.specs.Levels.{file_numbers}
use Rattle.install.proofs.Moments.{made_by}
use Rattle.store.specs.VersionSync.{sync_calls, table_syncs}

abbrev IsSync : Call → Type 0
IsSync (Created name bytes) = ⊥
IsSync (Written files) = ⊥
IsSync (Synced name) = Unit {0}
IsSync (Renamed from to) = ⊥
IsSync (Removed name) = ⊥
IsSync FolderSynced = Unit {0}

abbrev AreSyncs : List Call → Type 0
AreSyncs [] = Unit {0}
AreSyncs (call ∷ calls) = IsSync call × AreSyncs calls

done_told : (call : Call) (s next : FolderView) → IsSync call → Shows (Done call) s next → next.files ≡ s.files
done_told (Created name bytes) s next is h = absurd is
done_told (Written files) s next is h = absurd is
done_told (Synced name) s next is h = ap (λ (t : FolderView). t.files) h
done_told (Renamed from to) s next is h = absurd is
done_told (Removed name) s next is h = absurd is
done_told FolderSynced s next is h = ap (λ (t : FolderView). t.files) h

tried_told : (call : Call) (s next : FolderView) → IsSync call → Shows (Tried call) s next → next.files ≡ s.files
tried_told (Created name bytes) s next is h = absurd is
tried_told (Written files) s next is h = absurd is
tried_told (Synced name) s next is h = ap (λ (t : FolderView). t.files) h
tried_told (Renamed from to) s next is h = absurd is
tried_told (Removed name) s next is h = absurd is
tried_told FolderSynced s next is h = ap (λ (t : FolderView). t.files) h

syncs_told : (calls : List Call) (steps : List Step) (s last : FolderView) → AreSyncs calls → AreMade calls steps → ShowsAll steps s last → last.files ≡ s.files
syncs_told [] steps s last syncs made shows = let same : last ≡ s = subst (λ (t : List Step). ShowsAll t s last) made shows in ap (λ (t : FolderView). t.files) same
syncs_told (call ∷ calls) steps s last syncs (inl none') shows = let same : last ≡ s = subst (λ (t : List Step). ShowsAll t s last) none' shows in ap (λ (t : FolderView). t.files) same
syncs_told (call ∷ calls) steps s last syncs (inr (inl one)) shows =
    let x = subst (λ (t : List Step). ShowsAll t s last) one shows in
    let same : last ≡ x.0 = x.2 in
    ap (λ (t : FolderView). t.files) same ∙ tried_told call s x.0 syncs.0 x.1
syncs_told (call ∷ calls) steps s last syncs (inr (inr more)) shows =
    let x = subst (λ (t : List Step). ShowsAll t s last) more.1 shows in
    syncs_told calls more.0 x.0 last syncs.1 more.2 x.2 ∙ done_told call s x.0 syncs.0 x.1

tables_are_syncs : (numbers : List ℕ) → AreSyncs (table_syncs numbers ++ FolderSynced ∷ [])
tables_are_syncs [] = (tt, tt)
tables_are_syncs (n ∷ numbers) = (tt, (tt, tables_are_syncs numbers))

-- what a folder tells is the same after a sync of a version, however far it came
pub syncs_tell : {T E : Type 0} (cmp : List ℕ → List ℕ → Ordering) (v : State) (manifest : ℕ) (before after : List Step) (old new : List ℕ → Option (List ℕ) → Type 0) (r : Result T E) → MakesCalls (sync_calls cmp v manifest) before after old new r
    → (files : Files) → Tells old files → Tells new files
syncs_tell cmp v manifest before after old new r runs files tells =
    let s : FolderView = record { files = files; synced = λ name. false } in
    let last = runs.change s tells in
    let are : AreSyncs (sync_calls cmp v manifest) = (tt, (tt, tables_are_syncs (file_numbers cmp v))) in
    let same : last.0.files ≡ files = syncs_told (sync_calls cmp v manifest) runs.steps s last.0 are (made_by (sync_calls cmp v manifest) runs.steps r runs.made) last.1 in
    subst (Tells new) same last.2
