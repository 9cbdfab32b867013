-- Files that are made and synced while the folder stands for a version.
use Rattle.std.proofs.Common.{◌≡◌, ◌≢◌, ◌⊎◌, ℕ, true, false, List, [], ◌∷◌, ◌++◌, map, Option, Some, refl, sym, ap, subst, ◌∙◌, inl, inr}
use Rattle.std.specs.declared.cmp.Ordering.{Ordering}
use Rattle.edit.specs.Version.{State}
use Rattle.folder.specs.Calls.{Call, Created, Done, FolderView, Step, Synced, Tried, with_value, with_contents, with_synced}
use Rattle.folder.specs.CallSequence.{AreMade}
use Rattle.folder.specs.Crash.{Leads, World}
use Rattle.folder.specs.FreeNames.{IsFree}
use Rattle.folder.specs.ReadsAs.{StandsAs}
use Rattle.folder.specs.WrittenFiles.{IsWritten}
use Rattle.folder.specs.declared.order.Order.{Order}
use Rattle.folder.proofs.CrashLemmas.{stands_made, stands_still, stands_synced}
use Rattle.folder.proofs.PutLemmas.{put_other, put_same, same_name}

-- so are all of these
abbrev pub AllWritten : List (List ℕ × List ℕ) → World → Type 0
AllWritten [] w = Unit {0}
AllWritten (file ∷ files) w = IsWritten w file × AllWritten files w

-- none of the files has this name
abbrev pub AllOther : List ℕ → List (List ℕ × List ℕ) → Type 0
AllOther name [] = Unit {0}
AllOther name (file ∷ files) = (file.0 ≢ name) × AllOther name files

at : {A : Type 0} (f g : List ℕ → A) (name : List ℕ) → f ≡ g → f name ≡ g name
at f g name e = ap (λ h. h name) e

-- files stay written if no other of their names is touched
written_others : (files : List (List ℕ × List ℕ)) (name : List ℕ) (w next : World) (held : Option (List ℕ)) → next.shown ≡ with_contents w.shown name held → AllOther name files → AllWritten files w → AllWritten files next
written_others [] name w next held is other h = tt
written_others (file ∷ files) name w next held is other h = (
  record {
    held = at next.shown.files _ file.0 (ap (λ (s : FolderView). s.files) is) ∙ (put_other w.shown.files name held file.0 other.0 ∙ h.0.held);
    synced = at next.shown.synced _ file.0 (ap (λ (s : FolderView). s.synced) is) ∙ (put_other w.shown.synced name false file.0 other.0 ∙ h.0.synced);
  },
  written_others files name w next held is other.1 h.1,
)

written_synced : (files : List (List ℕ × List ℕ)) (name : List ℕ) (w next : World) → next.shown ≡ with_synced w.shown name → AllWritten files w → AllWritten files next
written_synced [] name w next is h = tt
written_synced (file ∷ files) name w next is h = (
  record {
    held = at next.shown.files w.shown.files file.0 (ap (λ (s : FolderView). s.files) is) ∙ h.0.held;
    synced = at next.shown.synced (with_value w.shown.synced name true) file.0 (ap (λ (s : FolderView). s.synced) is) ∙ elim (same_name file.0 name) [
      | inl same ↦ ap (with_value w.shown.synced name true) same ∙ put_same w.shown.synced name true
      | inr other ↦ put_other w.shown.synced name true file.0 other ∙ h.0.synced
    ];
  },
  written_synced files name w next is h.1,
)

pub written_still : (files : List (List ℕ × List ℕ)) (w next : World) → next.shown ≡ w.shown → AllWritten files w → AllWritten files next
written_still [] w next is h = tt
written_still (file ∷ files) w next is h = (
  record {
    held = at next.shown.files w.shown.files file.0 (ap (λ (s : FolderView). s.files) is) ∙ h.0.held;
    synced = at next.shown.synced w.shown.synced file.0 (ap (λ (s : FolderView). s.synced) is) ∙ h.0.synced;
  },
  written_still files w next is h.1,
)

-- Calls were made and the folder still stands; what is left of the steps belongs to the rest of the calls.
pub record Passed (cmp : List ℕ → List ℕ → Ordering) (order : Order) (v : State) (tables : List (ℕ × List ℕ)) (calls rest : List Call) (files : List (List ℕ × List ℕ)) (steps : List Step) (w : World) : Type 0 where
  pub world : World
  pub more : List Step
  pub stands : StandsAs cmp order v tables world
  pub written : AllWritten files world
  pub made : AreMade rest more
  pub leads : Leads world more w
  pub whole : steps ≡ map Done calls ++ more

-- not all of the calls were done
abbrev pub IsShort : List Step → List Call → Type 0
IsShort steps calls = steps ≡ map Done calls → ⊥

pub short_none : (steps : List Step) (call : Call) (calls : List Call) → steps ≡ [] → IsShort steps (call ∷ calls)
short_none steps call calls none' all = cc (none', all)

pub short_tried : (steps : List Step) (call : Call) (calls : List Call) → steps ≡ Tried call ∷ [] → IsShort steps (call ∷ calls)
short_tried steps call calls one all = cc (one, all)

pub short_behind : (steps rest : List Step) (call : Call) (calls : List Call) → steps ≡ Done call ∷ rest → IsShort rest calls → IsShort steps (call ∷ calls)
short_behind steps rest call calls is short all = let same : rest ≡ map Done calls = cc (is, all) in short same

-- steps that are none, and those of a first one
pub leads_none : (start w : World) (steps : List Step) → steps ≡ [] → Leads start steps w → w ≡ start
leads_none start w steps is h = subst (λ (s : List Step). Leads start s w) is h

pub leads_first : (start w : World) (steps rest : List Step) (step : Step) → steps ≡ step ∷ rest → Leads start steps w → Leads start (step ∷ rest) w
leads_first start w steps rest step is h = subst (λ (s : List Step). Leads start s w) is h

module _ (cmp : List ℕ → List ℕ → Ordering) (order : Order) (v : State) (tables : List (ℕ × List ℕ)) where
  abbrev Stands : World → Type 0
  Stands w = StandsAs cmp order v tables w

  same_world : (a b : World) → b ≡ a → Stands a → Stands b
  same_world a b is h = subst Stands (sym is) h

  -- a file is made under a free name and synced at once; a crash may leave anything of it
  pub file_stands : (name bytes : List ℕ) (files : List (List ℕ × List ℕ)) (start next : World) (torn : Option (List ℕ)) → Stands start → IsFree cmp v name → AllOther name files → AllWritten files start
      → next.shown ≡ with_synced (with_contents start.shown name (Some bytes)) name → next.left ≡ with_value start.left name torn → Stands next × AllWritten ((name, bytes) ∷ files) next
  file_stands name bytes files start next torn h free other all shown left =
      let made : World = record { shown = with_contents start.shown name (Some bytes); left = with_value start.left name torn } in
      let stands : Stands made = stands_made cmp order v tables start made name (Some bytes) torn h free refl refl in (
        stands_synced cmp order v tables made next name stands shown left,
        (
          record {
            held = at next.shown.files made.shown.files name (ap (λ (s : FolderView). s.files) shown) ∙ put_same start.shown.files name (Some bytes);
            synced = at next.shown.synced (with_value made.shown.synced name true) name (ap (λ (s : FolderView). s.synced) shown) ∙ put_same made.shown.synced name true;
          },
          written_synced files name made next shown (written_others files name start made (Some bytes) refl other all),
        ),
      )

  -- a file is synced that was made
  sync_passed : (name bytes : List ℕ) (rest : List Call) (files : List (List ℕ × List ℕ)) (steps : List Step) (start w : World) → Stands start → AllWritten files start → start.shown.files name ≡ Some bytes
      → AreMade (Synced name ∷ rest) steps → Leads start steps w → (Stands w × IsShort steps (Synced name ∷ rest)) ⊎ Passed cmp order v tables (Synced name ∷ []) rest ((name, bytes) ∷ files) steps w
  sync_passed name bytes rest files steps start w h all held (inl none') l = inl (same_world start w (leads_none start w steps none' l) h, short_none steps (Synced name) rest none')
  sync_passed name bytes rest files steps start w h all held (inr (inl one)) l =
      let l' = leads_first start w steps [] _ one l in
      inl (same_world l'.0 w l'.2 (stands_still cmp order v tables start l'.0 h l'.1.0 l'.1.1), short_tried steps (Synced name) rest one)
  sync_passed name bytes rest files steps start w h all held (inr (inr more)) l =
      let l' = leads_first start w steps more.0 _ more.1 l in
      let next = l'.0 in
      let shown : next.shown ≡ with_synced start.shown name = l'.1.0 in
      inr (record {
        world = next;
        more = more.0;
        stands = stands_synced cmp order v tables start next name h shown l'.1.1;
        written = (
          record {
            held = at next.shown.files start.shown.files name (ap (λ (s : FolderView). s.files) shown) ∙ held;
            synced = at next.shown.synced (with_value start.shown.synced name true) name (ap (λ (s : FolderView). s.synced) shown) ∙ put_same start.shown.synced name true;
          },
          written_synced files name start next shown all,
        );
        made = more.2;
        leads = l'.2;
        whole = more.1;
      })

  -- a file is made under a free name and synced
  pub file_passed : (name bytes : List ℕ) (rest : List Call) (files : List (List ℕ × List ℕ)) (steps : List Step) (start w : World) → Stands start → IsFree cmp v name → AllOther name files → AllWritten files start
      → AreMade (Created name bytes ∷ Synced name ∷ rest) steps → Leads start steps w → (Stands w × IsShort steps (Created name bytes ∷ Synced name ∷ rest)) ⊎ Passed cmp order v tables (Created name bytes ∷ Synced name ∷ []) rest ((name, bytes) ∷ files) steps w
  file_passed name bytes rest files steps start w h free other all (inl none') l = inl (same_world start w (leads_none start w steps none' l) h, short_none steps (Created name bytes) (Synced name ∷ rest) none')
  file_passed name bytes rest files steps start w h free other all (inr (inl one)) l =
      let l' = leads_first start w steps [] _ one l in
      inl (same_world l'.0 w l'.2 (stands_made cmp order v tables start l'.0 name l'.1.0.0 l'.1.1.0 h free l'.1.0.1 l'.1.1.1), short_tried steps (Created name bytes) (Synced name ∷ rest) one)
  file_passed name bytes rest files steps start w h free other all (inr (inr more)) l =
      let l' = leads_first start w steps more.0 _ more.1 l in
      let next = l'.0 in
      let shown : next.shown ≡ with_contents start.shown name (Some bytes) = l'.1.0 in
      let stands = stands_made cmp order v tables start next name (Some bytes) l'.1.1.0 h free shown l'.1.1.1 in
      let held = at next.shown.files (with_value start.shown.files name (Some bytes)) name (ap (λ (s : FolderView). s.files) shown) ∙ put_same start.shown.files name (Some bytes) in
      elim (sync_passed name bytes rest files more.0 next w stands (written_others files name start next (Some bytes) shown other all) held more.2 l'.2) [
        | inl still ↦ inl (still.0, short_behind steps more.0 (Created name bytes) (Synced name ∷ rest) more.1 still.1)
        | inr passed ↦ inr (record {
          world = passed.world;
          more = passed.more;
          stands = passed.stands;
          written = passed.written;
          made = passed.made;
          leads = passed.leads;
          whole = more.1 ∙ ap (λ (s : List Step). Done (Created name bytes) ∷ s) passed.whole;
        })
      ]
