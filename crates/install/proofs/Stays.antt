-- While obsolete files are removed, the folder stands for its version.
use Rattle.std.proofs.Common.{◌≡◌, ◌⊎◌, ℕ, true, List, [], ◌∷◌, ◌++◌, map, codes, Option, None, Result, refl, sym, ap, subst, ◌∙◌, inl, inr}
use Rattle.std.proofs.lemmas.List.{append-nil}
use Rattle.std.specs.declared.cmp.Ordering.{Ordering}
use Rattle.edit.specs.Version.{State}
use Rattle.folder.specs.Calls.{Call, Created, Done, Files, FolderSynced, FolderView, Removed, Renamed, Step, Synced, Tried, Written, with_contents, with_value}
use Rattle.folder.specs.CallSequence.{AreMade, MakesCalls}
use Rattle.folder.specs.Crash.{Happens, Leads, World, open_world}
use Rattle.folder.specs.ReadsAs.{Current, ReadsBy, StandsBy}
use Rattle.folder.specs.declared.order.Order.{Order}
use Rattle.folder.proofs.CrashLemmas.{left_reads, shown_left, stands_folder_synced, stands_removed, stands_still}
use Rattle.folder.proofs.PutLemmas.{put_other}
use Rattle.folder.proofs.WrittenLemmas.{leads_first, leads_none}
use Rattle.install.proofs.Moments.{leads_split, made_by, moment_made, no_moment}
use Rattle.install.specs.ObsoleteFile.{AreObsolete, IsObsoleteFile}
use Rattle.install.specs.Removal.{StaysAs, removal_calls}
use Rattle.install.proofs.Names.{no_current}
use Rattle.install.proofs.Unused.{HasSmallNumbers, unused}
use Rattle.install.proofs.Changes.{change_by}

at : (f g : Files) (name : List ℕ) → f ≡ g → f name ≡ g name
at f g name e = ap (λ (h : Files). h name) e

module _ (cmp : List ℕ → List ℕ → Ordering) (order : Order) (v : State) (manifest : ℕ) (tables : List (ℕ × List ℕ)) where
  -- what a crash leaves
  left_by : (w : World) → StandsBy cmp order v manifest tables w → ReadsBy cmp order v manifest tables w.left
  left_by w h = record {
    reads = left_reads cmp order v tables w h.stands;
    named = (h.stands.settled (codes "CURRENT") Current).left ∙ h.named;
  }

  -- nothing was called
  pub stays_untouched : (before : List Step) (tells : List ℕ → Option (List ℕ) → Type 0) → StaysAs cmp order v manifest tables (change_by before before tells tells)
  stays_untouched before tells = record {
    any_moment = λ start h. record {
      steps = [];
      all = sym (append-nil before);
      each = λ sofar moment files left.
          let same : before ++ sofar ≡ before = ap (λ (s : List Step). before ++ s) (no_moment sofar moment) ∙ append-nil before in
          subst (ReadsBy cmp order v manifest tables) (sym left.2) (left_by left.0 (h left.0 (subst (λ (s : List Step). Leads start s left.0) same left.1)));
    };
    stands = λ start h. h;
    read = λ files told reads. (files, told, reads);
  }

module _ (cmp : List ℕ → List ℕ → Ordering) (order : Order) (v : State) (manifest : ℕ) (tables : List (ℕ × List ℕ)) (has : HasSmallNumbers cmp v manifest) where
  abbrev Stands : World → Type 0
  Stands w = StandsBy cmp order v manifest tables w

  abbrev Reads : Files → Type 0
  Reads files = ReadsBy cmp order v manifest tables files

  -- a call that removes an obsolete file, or syncs the folder
  abbrev pub Spares : Call → Type 0
  Spares (Removed name) = IsObsoleteFile cmp v manifest name
  Spares FolderSynced = Unit {0}
  Spares (Created name bytes) = ⊥
  Spares (Written files) = ⊥
  Spares (Synced name) = ⊥
  Spares (Renamed from to) = ⊥

  abbrev pub AllSpare : List Call → Type 0
  AllSpare [] = Unit {0}
  AllSpare (call ∷ calls) = Spares call × AllSpare calls

  removed : (w next : World) (name : List ℕ) → Stands w → IsObsoleteFile cmp v manifest name → (next.shown ≡ w.shown) ⊎ (next.shown ≡ with_contents w.shown name None)
      → (next.left ≡ w.left) ⊎ (next.left ≡ with_value w.left name None) → Stands next
  removed w next name h o shown left =
      let other : codes "CURRENT" ≡ name → ⊥ = λ is. no_current o.kind o.number o.small (sym (is ∙ o.named)) in
      record {
        stands = stands_removed cmp order v tables w next name h.stands (λ r. unused cmp v manifest has w.shown.files name name h.named o r refl) shown left;
        named = elim shown [
          | inl same ↦ at next.shown.files w.shown.files (codes "CURRENT") (ap (λ (s : FolderView). s.files) same) ∙ h.named
          | inr is ↦ at next.shown.files (with_value w.shown.files name None) (codes "CURRENT") (ap (λ (s : FolderView). s.files) is)
              ∙ (put_other w.shown.files name None (codes "CURRENT") other ∙ h.named)
        ];
      }

  folder_synced : (w next : World) → Stands w → Happens (Done FolderSynced) w next → Stands next
  folder_synced w next h happens = record {
    stands = stands_folder_synced cmp order v tables w next h.stands.reads (λ name r. (h.stands.settled name r).kept) happens;
    named = at next.shown.files w.shown.files (codes "CURRENT") (ap (λ (s : FolderView). s.files) happens.0) ∙ h.named;
  }

  still : (w next : World) → Stands w → next.shown ≡ w.shown → next.left ≡ w.left → Stands next
  still w next h shown left = record {
    stands = stands_still cmp order v tables w next h.stands shown left;
    named = at next.shown.files w.shown.files (codes "CURRENT") (ap (λ (s : FolderView). s.files) shown) ∙ h.named;
  }

  done : (call : Call) (w next : World) → Spares call → Stands w → Happens (Done call) w next → Stands next
  done (Removed name) w next o h happens = removed w next name h o (inr happens.0) happens.1
  done FolderSynced w next o h happens = folder_synced w next h happens
  done (Created name bytes) w next o h happens = absurd o
  done (Written files) w next o h happens = absurd o
  done (Synced name) w next o h happens = absurd o
  done (Renamed from to) w next o h happens = absurd o

  tried : (call : Call) (w next : World) → Spares call → Stands w → Happens (Tried call) w next → Stands next
  tried (Removed name) w next o h happens = removed w next name h o happens.0 happens.1
  tried FolderSynced w next o h happens = still w next h happens.0 happens.1
  tried (Created name bytes) w next o h happens = absurd o
  tried (Written files) w next o h happens = absurd o
  tried (Synced name) w next o h happens = absurd o
  tried (Renamed from to) w next o h happens = absurd o

  same_world : (a b : World) → b ≡ a → Stands a → Stands b
  same_world a b is h = subst Stands (sym is) h

  -- however many of the calls were made
  stays : (calls : List Call) (steps : List Step) (start w : World) → AllSpare calls → AreMade calls steps → Leads start steps w → Stands start → Stands w
  stays [] steps start w all made l h = same_world start w (leads_none start w steps made l) h
  stays (call ∷ calls) steps start w all (inl none') l h = same_world start w (leads_none start w steps none' l) h
  stays (call ∷ calls) steps start w all (inr (inl one)) l h =
      let l' = leads_first start w steps [] (Tried call) one l in
      same_world l'.0 w l'.2 (tried call start l'.0 all.0 h l'.1)
  stays (call ∷ calls) steps start w all (inr (inr more)) l h =
      let l' = leads_first start w steps more.0 (Done call) more.1 l in
      stays calls more.0 l'.0 w all.1 more.2 l'.2 (done call start l'.0 all.0 h l'.1)

  pub stays_as : {T E : Type 0} (calls : List Call) (before now : List Step) (old new : List ℕ → Option (List ℕ) → Type 0) (r : Result T E) → AllSpare calls → MakesCalls calls before now old new r
      → StaysAs cmp order v manifest tables (change_by before now old new)
  stays_as calls before now old new r all runs =
      let made : AreMade calls runs.steps = made_by calls runs.steps r runs.made in
      record {
        any_moment = λ start h. record {
          steps = runs.steps;
          all = runs.appended;
          each = λ sofar moment files left.
              let split = leads_split start left.0 before sofar left.1 in
              subst Reads (sym left.2) (left_by cmp order v manifest tables left.0 (stays calls sofar split.0 left.0 all (moment_made calls runs.steps sofar made moment) split.2 (h split.0 split.1)));
        };
        stands = λ start h w leads.
            let split = leads_split start w before runs.steps (subst (λ (s : List Step). Leads start s w) runs.appended leads) in
            stays calls runs.steps split.0 w all made split.2 (h split.0 split.1);
        read = λ files tells reads.
            let s : FolderView = record { files = files; synced = λ name. true } in
            let last = runs.change s tells in
            let first : Stands (open_world s) = record {
              stands = record { reads = reads.reads; settled = λ name rests. record { kept = inl refl; left = refl } };
              named = reads.named;
            } in
            let end = stays calls runs.steps (open_world s) (open_world last.0) all made (shown_left runs.steps s last.0 last.1) first in
            (last.0.files, last.2, record { reads = end.stands.reads; named = end.named });
      }

  abbrev AllObsolete : List (List ℕ) → Type 0
  AllObsolete [] = Unit {0}
  AllObsolete (name ∷ names) = IsObsoleteFile cmp v manifest name × AllObsolete names

  removals_spare : (names : List (List ℕ)) → AllObsolete names → AllSpare (map Removed names ++ FolderSynced ∷ [])
  removals_spare [] h = (tt, tt)
  removals_spare (name ∷ names) h = (h.0, removals_spare names h.1)

  all_obsolete : (names obsolete : List (List ℕ)) → AreObsolete cmp v manifest names obsolete → AllObsolete obsolete
  all_obsolete [] obsolete h = subst AllObsolete (sym h) tt
  all_obsolete (name ∷ names) obsolete (inl h) = subst AllObsolete (sym h.1.1) (h.0, all_obsolete names h.1.0 h.1.2)
  all_obsolete (name ∷ names) obsolete (inr h) = all_obsolete names obsolete h.1

  -- the calls that remove the obsolete ones of some names
  pub calls_spare : (names obsolete : List (List ℕ)) → AreObsolete cmp v manifest names obsolete → AllSpare (removal_calls obsolete)
  calls_spare names obsolete h = of_calls obsolete (all_obsolete names obsolete h)
    where
      of_calls : (obsolete : List (List ℕ)) → AllObsolete obsolete → AllSpare (removal_calls obsolete)
      of_calls [] h = tt
      of_calls (name ∷ rest) h = removals_spare (name ∷ rest) h
