-- Each moment at which one file is written, alone or with a sync of the folder after it.
use Rattle.std.proofs.Common.{◌≡◌, ℕ, List, [], ◌∷◌, ◌++◌, map, Option, Result, Ok, Err, OnOk, sym, ap, subst, ◌∙◌, inl, inr}
use Rattle.std.specs.declared.cmp.Ordering.{Ordering}
use Rattle.edit.specs.Version.{State}
use Rattle.folder.specs.Calls.{Call, Done, FolderSynced, FolderView, Step}
use Rattle.folder.specs.CallSequence.{AreMade, MakesCalls}
use Rattle.folder.specs.Crash.{Leads, LeavesOnly, World}
use Rattle.folder.specs.FreeNames.{IsFree}
use Rattle.folder.specs.ReadsAs.{IsSettled, ReadsAs, StandsAs}
use Rattle.folder.specs.WrittenFiles.{IsWritten}
use Rattle.folder.specs.declared.order.Order.{Order}
use Rattle.folder.proofs.CrashLemmas.{left_reads, stands_folder_synced, stands_still}
use Rattle.folder.proofs.WrittenLemmas.{file_passed, leads_first, leads_none, short_none, short_tried, written_still}
use Rattle.install.specs.Install.{write_calls}
use Rattle.install.proofs.Moments.{leads_split, made_by, moment_made}

module _ (cmp : List ℕ → List ℕ → Ordering) (order : Order) (v : State) (tables : List (ℕ × List ℕ)) (name bytes : List ℕ) (free : IsFree cmp v name) where
  file_stands : (start w : World) (steps : List Step) → StandsAs cmp order v tables start → AreMade (write_calls name bytes) steps → Leads start steps w
      → StandsAs cmp order v tables w × (steps ≡ map Done (write_calls name bytes) → IsWritten w (name, bytes))
  file_stands start w steps h made l =
      elim (file_passed cmp order v tables name bytes [] [] steps start w h free tt tt made l) [
        | inl still ↦ (still.0, λ done. absurd (still.1 done))
        | inr passed ↦
            let is : w ≡ passed.world = leads_none passed.world w passed.more passed.made passed.leads in
            (subst (StandsAs cmp order v tables) (sym is) passed.stands, λ done. subst (λ (x : World). IsWritten x (name, bytes)) (sym is) passed.written.0)
      ]

  pub file_moments : {T E : Type 0} (start : World) (before now : List Step) (old new : List ℕ → Option (List ℕ) → Type 0) (r : Result T E) → ((w : World) → Leads start before w → StandsAs cmp order v tables w)
      → MakesCalls (write_calls name bytes) before now old new r → LeavesOnly start before now (ReadsAs cmp order v tables)
  file_moments start before now old new r stands runs = record {
    steps = runs.steps;
    all = runs.appended;
    each = λ sofar moment files left.
        let split = leads_split start left.0 before sofar left.1 in
        let made = moment_made (write_calls name bytes) runs.steps sofar (made_by (write_calls name bytes) runs.steps r runs.made) moment in
        subst (ReadsAs cmp order v tables) (sym left.2) (left_reads cmp order v tables left.0 (file_stands split.0 left.0 sofar (stands split.0 split.1) made split.2).0);
  }

  pub file_written : {T E : Type 0} (start : World) (before now : List Step) (old new : List ℕ → Option (List ℕ) → Type 0) (r : Result T E) → ((w : World) → Leads start before w → StandsAs cmp order v tables w)
      → MakesCalls (write_calls name bytes) before now old new r → OnOk r ((w : World) → Leads start now w → StandsAs cmp order v tables w × IsWritten w (name, bytes))
  file_written start before now old new (Ok x) stands runs = λ w l.
      let split = leads_split start w before runs.steps (subst (λ (s : List Step). Leads start s w) runs.appended l) in
      let end = file_stands split.0 w runs.steps (stands split.0 split.1) (made_by {T = Unit {0}} {E = Unit {0}} (write_calls name bytes) runs.steps (Ok tt) runs.made) split.2 in
      (end.0, end.1 runs.made)
  file_written start before now old new (Err e) stands runs = tt

  abbrev pub AtLast : World → Type 0
  AtLast w = IsWritten w (name, bytes) × IsSettled w name

  -- the folder is synced after a file that is written
  folder_stands : (start w : World) (steps : List Step) → StandsAs cmp order v tables start → IsWritten start (name, bytes) → AreMade (FolderSynced ∷ []) steps → Leads start steps w
      → StandsAs cmp order v tables w × (steps ≡ Done FolderSynced ∷ [] → AtLast w)
  folder_stands start w steps h file (inl none') l = (subst (StandsAs cmp order v tables) (sym (leads_none start w steps none' l)) h, λ all. absurd (short_none steps FolderSynced [] none' all))
  folder_stands start w steps h file (inr (inl one)) l =
      let l' = leads_first start w steps [] _ one l in
      (subst (StandsAs cmp order v tables) (sym l'.2) (stands_still cmp order v tables start l'.0 h l'.1.0 l'.1.1), λ all. absurd (short_tried steps FolderSynced [] one all))
  folder_stands start w steps h file (inr (inr more)) l =
      let l' = leads_first start w steps more.0 _ more.1 l in
      let next = l'.0 in
      let is : w ≡ next = leads_none next w more.0 more.2 l'.2 in
      let written : IsWritten next (name, bytes) = (written_still ((name, bytes) ∷ []) start next l'.1.0 (file, tt)).0 in
      let settled : IsSettled next name = record { kept = inl written.synced; left = l'.1.1 name (inl file.synced) ∙ sym (ap (λ (s : FolderView). s.files name) l'.1.0) } in
      (subst (StandsAs cmp order v tables) (sym is) (stands_folder_synced cmp order v tables start next h.reads (λ n r. (h.settled n r).kept) l'.1), λ all. subst AtLast (sym is) (written, settled))

  abbrev pub settled_calls : List Call
  settled_calls = write_calls name bytes ++ FolderSynced ∷ []

  pub settled_stands : (start w : World) (steps : List Step) → StandsAs cmp order v tables start → AreMade settled_calls steps → Leads start steps w
      → StandsAs cmp order v tables w × (steps ≡ map Done settled_calls → AtLast w)
  settled_stands start w steps h made l =
      elim (file_passed cmp order v tables name bytes (FolderSynced ∷ []) [] steps start w h free tt tt made l) [
        | inl still ↦ (still.0, λ done. absurd (still.1 done))
        | inr passed ↦
            let end = folder_stands passed.world w passed.more passed.stands passed.written.0 passed.made passed.leads in
            (end.0, λ done. let rest : passed.more ≡ Done FolderSynced ∷ [] = cc (passed.whole, done) in end.1 rest)
      ]

  pub settled_moments : {T E : Type 0} (start : World) (before now : List Step) (old new : List ℕ → Option (List ℕ) → Type 0) (r : Result T E) → ((w : World) → Leads start before w → StandsAs cmp order v tables w)
      → MakesCalls settled_calls before now old new r → LeavesOnly start before now (ReadsAs cmp order v tables)
  settled_moments start before now old new r stands runs = record {
    steps = runs.steps;
    all = runs.appended;
    each = λ sofar moment files left.
        let split = leads_split start left.0 before sofar left.1 in
        let made = moment_made settled_calls runs.steps sofar (made_by settled_calls runs.steps r runs.made) moment in
        subst (ReadsAs cmp order v tables) (sym left.2) (left_reads cmp order v tables left.0 (settled_stands split.0 left.0 sofar (stands split.0 split.1) made split.2).0);
  }

  pub settled_written : {T E : Type 0} (start : World) (before now : List Step) (old new : List ℕ → Option (List ℕ) → Type 0) (r : Result T E) → ((w : World) → Leads start before w → StandsAs cmp order v tables w)
      → MakesCalls settled_calls before now old new r → OnOk r ((w : World) → Leads start now w → StandsAs cmp order v tables w × IsWritten w (name, bytes) × IsSettled w name)
  settled_written start before now old new (Ok x) stands runs = λ w l.
      let split = leads_split start w before runs.steps (subst (λ (s : List Step). Leads start s w) runs.appended l) in
      let end = settled_stands split.0 w runs.steps (stands split.0 split.1) (made_by {T = Unit {0}} {E = Unit {0}} settled_calls runs.steps (Ok tt) runs.made) split.2 in
      let last = end.1 runs.made in
      (end.0, last.0, last.1)
  settled_written start before now old new (Err e) stands runs = tt
