-- What a sync of the folder makes of it, and a sync of a version before it.
use Rattle.std.proofs.Common.{◌≡◌, ◌⊎◌, ℕ, true, List, [], ◌∷◌, ◌++◌, map, codes, Option, Some, Result, Ok, Err, OnOk, refl, sym, ap, subst, ◌∙◌, inl, inr, append_assoc}
use Rattle.std.proofs.lemmas.List.{append_cancel_right, map-append}
use Rattle.std.proofs.lemmas.Option.{same_Some}
use Rattle.std.specs.declared.cmp.Ordering.{Ordering}
use Rattle.folder.specs.Version.{State}
use Rattle.folder.specs.Calls.{Call, Done, Files, FolderSynced, FolderView, Step, Synced, with_synced, with_value}
use Rattle.folder.specs.CallSequence.{MakesCalls}
use Rattle.folder.specs.Crash.{Happens, Leads, World}
use Rattle.folder.specs.Levels.{file_numbers}
use Rattle.folder.specs.Names.{current_text, manifest_name, old_table_name, table_name}
use Rattle.folder.specs.ReadsAs.{Current, IsOneOf, Manifest, OldTable, ReadsAs, RestsOn, StandsAs, Table}
use Rattle.folder.specs.declared.order.Order.{Order}
use Rattle.folder.proofs.CrashLemmas.{stands_folder_synced}
use Rattle.folder.proofs.PutLemmas.{put_other, put_same, same_name}
use Rattle.install.specs.Install.{AlwaysStandsAs, AlwaysStandsBy}
use Rattle.install.proofs.Moments.{leads_split}
use Rattle.store.specs.Compaction.{SyncLaw}
use Rattle.store.specs.VersionSync.{AlwaysReadsBy, sync_calls, table_syncs}

pub sync_stands : SyncLaw
sync_stands cmp order v tables start calls h w leads =
    let split = leads_split start w calls (Done FolderSynced ∷ []) leads in
    let given = h split.0 split.1 in
    subst (StandsAs cmp order v tables) (sym split.2.2) (stands_folder_synced cmp order v tables split.0 split.2.0 given.0 given.1 split.2.1)

-- each of the calls syncs a file
abbrev AreFileSyncs : List Call → Type 0
AreFileSyncs [] = Unit {0}
AreFileSyncs (call ∷ calls) = ((name : List ℕ) × (call ≡ Synced name)) × AreFileSyncs calls

-- one of the calls syncs the file of this name
abbrev IsAmong : List ℕ → List Call → Type 0
IsAmong name [] = ⊥
IsAmong name (call ∷ calls) = (call ≡ Synced name) ⊎ IsAmong name calls

-- the files are as before, and these names are synced, as well as those that were before
record AreSyncedIn (calls : List Call) (w next : World) : Type 0 where
  pub files : next.shown.files ≡ w.shown.files
  pub synced : (name : List ℕ) → IsAmong name calls ⊎ (w.shown.synced name ≡ true) → next.shown.synced name ≡ true

one_synced : (name other : List ℕ) (w next : World) → next.shown ≡ with_synced w.shown name → (other ≡ name) ⊎ (w.shown.synced other ≡ true) → next.shown.synced other ≡ true
one_synced name other w next shown h =
    let marks : next.shown.synced other ≡ with_value w.shown.synced name true other = ap (λ (s : FolderView). s.synced other) shown in
    let set : other ≡ name → next.shown.synced other ≡ true = λ is. marks ∙ (ap (with_value w.shown.synced name true) is ∙ put_same w.shown.synced name true) in
    elim h [
      | inl is ↦ set is
      | inr was ↦ elim (same_name other name) [
        | inl is ↦ set is
        | inr apart ↦ marks ∙ (put_other w.shown.synced name true other apart ∙ was)
      ]
    ]

synced_all : (calls : List Call) (w next : World) → AreFileSyncs calls → Leads w (map Done calls) next → AreSyncedIn calls w next
synced_all [] w next syncs leads =
    let same : next ≡ w = leads in
    record {
      files = ap (λ (x : World). x.shown.files) same;
      synced = λ name h. elim h [ inl among ↦ absurd among | inr was ↦ ap (λ (x : World). x.shown.synced name) same ∙ was ];
    }
synced_all (call ∷ calls) w next syncs leads =
    let name = syncs.0.0 in
    let middle = leads.0 in
    let happens : Happens (Done (Synced name)) w middle = subst (λ (c : Call). Happens (Done c) w middle) syncs.0.1 leads.1 in
    let shown : middle.shown ≡ with_synced w.shown name = happens.0 in
    let rest = synced_all calls middle next syncs.1 leads.2 in
    record {
      files = rest.files ∙ ap (λ (s : FolderView). s.files) shown;
      synced = λ other h. elim h [
        | inl among ↦ elim among [
          | inl is ↦ let one : Synced name ≡ Synced other = sym syncs.0.1 ∙ is in let same : other ≡ name = cc one in rest.synced other (inr (one_synced name other w middle shown (inl same)))
          | inr later ↦ rest.synced other (inl later)
        ]
        | inr was ↦ rest.synced other (inr (one_synced name other w middle shown (inr was)))
      ];
    }

tables_are_syncs : (numbers : List ℕ) → AreFileSyncs (table_syncs numbers)
tables_are_syncs [] = tt
tables_are_syncs (n ∷ numbers) = ((table_name n, refl), ((old_table_name n, refl), tables_are_syncs numbers))

table_among : (numbers : List ℕ) (n : ℕ) → IsOneOf numbers n → IsAmong (table_name n) (table_syncs numbers)
table_among [] n h = absurd h
table_among (m ∷ numbers) n (inl is) = inl (ap (λ (k : ℕ). Synced (table_name k)) (sym is))
table_among (m ∷ numbers) n (inr h) = inr (inr (table_among numbers n h))

old_table_among : (numbers : List ℕ) (n : ℕ) → IsOneOf numbers n → IsAmong (old_table_name n) (table_syncs numbers)
old_table_among [] n h = absurd h
old_table_among (m ∷ numbers) n (inl is) = inr (inl (ap (λ (k : ℕ). Synced (old_table_name k)) (sym is)))
old_table_among (m ∷ numbers) n (inr h) = inr (inr (old_table_among numbers n h))

module _ (cmp : List ℕ → List ℕ → Ordering) (order : Order) (v : State) (manifest : ℕ) where
  abbrev file_syncs : List Call
  file_syncs = Synced (codes "CURRENT") ∷ Synced (manifest_name manifest) ∷ table_syncs (file_numbers cmp v)

  -- each name that the reading rests on is among those synced
  rests_among : (files : Files) (name : List ℕ) → files (codes "CURRENT") ≡ Some (current_text manifest) → RestsOn cmp v files name → IsAmong name file_syncs
  rests_among files name named Current = inl refl
  rests_among files name named (Manifest number small is) =
      let texts : current_text manifest ≡ current_text number = same_Some _ _ (sym named ∙ is) in
      let names : manifest_name manifest ≡ manifest_name number = append_cancel_right (manifest_name manifest) (manifest_name number) (codes "\n") texts in
      inr (inl (ap (λ (n : List ℕ). Synced n) names))
  rests_among files name named (Table number m) = inr (inr (table_among (file_numbers cmp v) number m))
  rests_among files name named (OldTable number m none') = inr (inr (old_table_among (file_numbers cmp v) number m))

  -- a folder that reads as the version by the manifest stands for it after the sync
  pub version_stands : (tables : List (ℕ × List ℕ)) (start : World) (before : List Step) → AlwaysReadsBy cmp order v manifest tables start before
      → AlwaysStandsAs cmp order v tables start (before ++ map Done (sync_calls cmp v manifest))
  version_stands tables start before h =
      let steps : before ++ map Done (sync_calls cmp v manifest) ≡ (before ++ map Done file_syncs) ++ Done FolderSynced ∷ [] =
      ap (λ (t : List Step). before ++ t) (map-append Done file_syncs (FolderSynced ∷ [])) ∙ sym (append_assoc before (map Done file_syncs) (Done FolderSynced ∷ [])) in
      let are : AreFileSyncs file_syncs = ((codes "CURRENT", refl), ((manifest_name manifest, refl), tables_are_syncs (file_numbers cmp v))) in
      subst (AlwaysStandsAs cmp order v tables start) (sym steps) (sync_stands cmp order v tables start (before ++ map Done file_syncs) (λ w leads.
      let split = leads_split start w before (map Done file_syncs) leads in
      let given = h split.0 split.1 in
      let synced = synced_all file_syncs split.0 w are split.2 in
      let named : w.shown.files (codes "CURRENT") ≡ Some (current_text manifest) = ap (λ (f : Files). f (codes "CURRENT")) synced.files ∙ given.named in (
        subst (ReadsAs cmp order v tables) (sym synced.files) given.reads,
        λ name rests. inl (synced.synced name (inl (rests_among w.shown.files name named rests))),
      )))

  -- CURRENT still names the manifest
  version_named : (tables : List (ℕ × List ℕ)) (start : World) (before : List Step) → AlwaysReadsBy cmp order v manifest tables start before
      → (w : World) → Leads start (before ++ map Done (sync_calls cmp v manifest)) w → w.shown.files (codes "CURRENT") ≡ Some (current_text manifest)
  version_named tables start before h w leads =
      let steps : before ++ map Done (sync_calls cmp v manifest) ≡ (before ++ map Done file_syncs) ++ Done FolderSynced ∷ [] =
      ap (λ (t : List Step). before ++ t) (map-append Done file_syncs (FolderSynced ∷ [])) ∙ sym (append_assoc before (map Done file_syncs) (Done FolderSynced ∷ [])) in
      let are : AreFileSyncs file_syncs = ((codes "CURRENT", refl), ((manifest_name manifest, refl), tables_are_syncs (file_numbers cmp v))) in
      let last = leads_split start w (before ++ map Done file_syncs) (Done FolderSynced ∷ []) (subst (λ (s : List Step). Leads start s w) steps leads) in
      let first = leads_split start last.0 before (map Done file_syncs) last.1 in
      let synced = synced_all file_syncs first.0 last.0 are first.2 in
      let shown : last.2.0.shown ≡ last.0.shown = last.2.1.0 in
      let same : w ≡ last.2.0 = last.2.2 in
      ap (λ (x : World). x.shown.files (codes "CURRENT")) same
      ∙ (ap (λ (s : FolderView). s.files (codes "CURRENT")) shown ∙ (ap (λ (f : Files). f (codes "CURRENT")) synced.files ∙ (h first.0 first.1).named))

  pub synced_stands : {T E : Type 0} (tables : List (ℕ × List ℕ)) (start : World) (before after : List Step) (old new : List ℕ → Option (List ℕ) → Type 0) (r : Result T E) → MakesCalls (sync_calls cmp v manifest) before after old new r
      → AlwaysReadsBy cmp order v manifest tables start before → OnOk r (AlwaysStandsBy cmp order v manifest tables start after)
  synced_stands tables start before after old new (Ok x) runs h =
      let made : runs.steps ≡ map Done (sync_calls cmp v manifest) = runs.made in
      subst (AlwaysStandsBy cmp order v manifest tables start) (sym (runs.appended ∙ ap (λ (t : List Step). before ++ t) made))
      (λ w leads. record { stands = version_stands tables start before h w leads; named = version_named tables start before h w leads })
  synced_stands tables start before after old new (Err e) runs h = tt
