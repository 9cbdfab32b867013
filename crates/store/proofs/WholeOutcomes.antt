-- What a crash leaves at each moment at which an outcome is written.
use Rattle.std.proofs.Common.{◌≡◌, ◌≢◌, ◌⊎◌, ℕ, true, false, List, [], ◌∷◌, codes, map, Option, Some, None, Result, Ok, Err, OnOk, refl, sym, ap, subst, ◌∙◌, inl, inr, arith}
use Rattle.folder.specs.Calls.{Call, Created, Done, Files, FolderSynced, FolderView, Renamed, Step, Synced, Tried, Written, with_contents, with_moved, with_renamed, with_synced, with_value, with_written}
use Rattle.folder.specs.CallSequence.{AreMade, MakesCalls}
use Rattle.folder.specs.Crash.{IsDurable, Leads, LeavesOnly, MayHold, World}
use Rattle.folder.specs.Names.{table_name}
use Rattle.folder.specs.TableFiles.{named_tables}
use Rattle.folder.specs.WrittenFiles.{IsWritten}
use Rattle.folder.proofs.NameEnds.{ends_apart, table_end}
use Rattle.folder.proofs.PutLemmas.{moved_other, moved_to, put_other, put_same, same_name}
use Rattle.folder.proofs.WrittenLemmas.{AllWritten, leads_first, leads_none}
use Rattle.install.proofs.Moments.{leads_split, made_by, moment_made}
use Rattle.compact.specs.OneThread.{Answer}
use Rattle.store.specs.Outcome.{edit_calls, naming_calls, outcome_calls}
use Rattle.store.specs.WholeOutcome.{AreNamedApart, AreThere, HasNoEdit, IsAbsentOrWhole, IsNameOfNone, IsWhole}
use Rattle.install.proofs.Switch.{at}

abbrev EDIT : List ℕ
EDIT = codes "EDIT"

abbrev UNFINISHED : List ℕ
UNFINISHED = codes "EDIT.dbtmp"

unfinished_no_edit : EDIT ≢ UNFINISHED
unfinished_no_edit = ends_apart EDIT UNFINISHED 84 112 refl refl (λ e. omega (arith, e))

table_no_edit : (n : ℕ) → table_name n ≢ EDIT
table_no_edit n = ends_apart (table_name n) EDIT 98 84 (table_end n) refl (λ e. omega (arith, e))

table_no_unfinished : (n : ℕ) → table_name n ≢ UNFINISHED
table_no_unfinished n = ends_apart (table_name n) UNFINISHED 98 112 (table_end n) refl (λ e. omega (arith, e))

-- each file's name is neither that of the edit nor its temporary one
abbrev AreOthers : List (List ℕ × List ℕ) → Type 0
AreOthers [] = Unit {0}
AreOthers (file ∷ files) = (file.0 ≢ EDIT) × (file.0 ≢ UNFINISHED) × AreOthers files

tables_are_others : (tables : List (ℕ × List ℕ)) → AreOthers (named_tables tables)
tables_are_others [] = tt
tables_are_others (t ∷ tables) = (table_no_edit t.0, table_no_unfinished t.0, tables_are_others tables)

others_none : (files : List (List ℕ × List ℕ)) → AreOthers files → IsNameOfNone EDIT files
others_none [] h = tt
others_none (file ∷ files) h = (h.0, others_none files h.2)

-- under a name, a folder shows what it did, and what was synced is
record IsKept (s next : FolderView) (name : List ℕ) : Type 0 where
  held : next.files name ≡ s.files name
  synced : s.synced name ≡ true → next.synced name ≡ true

-- files stay written if their names are kept
kept_written : (files : List (List ℕ × List ℕ)) (w next : World) → AreOthers files → ((name : List ℕ) → name ≢ EDIT → name ≢ UNFINISHED → IsKept w.shown next.shown name) → AllWritten files w → AllWritten files next
kept_written [] w next others kept h = tt
kept_written (file ∷ files) w next others kept h =
    let here = kept file.0 others.0 others.1 in
    (record { held = here.held ∙ h.0.held; synced = here.synced h.0.synced }, kept_written files w next others.2 kept h.1)

-- the same shown folder, one more file made, one synced, and one renamed
still_kept : (w next : World) → next.shown ≡ w.shown → (name : List ℕ) → IsKept w.shown next.shown name
still_kept w next is name = record {
  held = at next.shown.files w.shown.files name (ap (λ (s : FolderView). s.files) is);
  synced = λ h. at next.shown.synced w.shown.synced name (ap (λ (s : FolderView). s.synced) is) ∙ h;
}

made_kept : (made : List ℕ) (held : Option (List ℕ)) (w next : World) → next.shown ≡ with_contents w.shown made held → (name : List ℕ) → name ≢ made → IsKept w.shown next.shown name
made_kept made held w next is name other = record {
  held = at next.shown.files _ name (ap (λ (s : FolderView). s.files) is) ∙ put_other w.shown.files made held name other;
  synced = λ h. at next.shown.synced _ name (ap (λ (s : FolderView). s.synced) is) ∙ (put_other w.shown.synced made false name other ∙ h);
}

synced_kept : (made : List ℕ) (w next : World) → next.shown ≡ with_synced w.shown made → (name : List ℕ) → IsKept w.shown next.shown name
synced_kept made w next is name = record {
  held = at next.shown.files w.shown.files name (ap (λ (s : FolderView). s.files) is);
  synced = λ h. at next.shown.synced (with_value w.shown.synced made true) name (ap (λ (s : FolderView). s.synced) is) ∙ elim (same_name name made) [
    | inl same ↦ ap (with_value w.shown.synced made true) same ∙ put_same w.shown.synced made true
    | inr other ↦ put_other w.shown.synced made true name other ∙ h
  ];
}

renamed_kept : (w next : World) → next.shown ≡ with_renamed w.shown UNFINISHED EDIT → (name : List ℕ) → name ≢ EDIT → name ≢ UNFINISHED → IsKept w.shown next.shown name
renamed_kept w next is name edit unfinished = record {
  held = at next.shown.files _ name (ap (λ (s : FolderView). s.files) is) ∙ moved_other None w.shown.files UNFINISHED EDIT name unfinished edit;
  synced = λ h. at next.shown.synced _ name (ap (λ (s : FolderView). s.synced) is) ∙ (moved_other false w.shown.synced UNFINISHED EDIT name unfinished edit ∙ h);
}

-- a name that none of the written files has is kept
group_kept : (files : List (List ℕ × List ℕ)) (s : FolderView) (name : List ℕ) → IsNameOfNone name files → IsKept s (with_written s files) name
group_kept [] s name h = record { held = refl; synced = λ k. k }
group_kept (file ∷ files) s name h =
    let made : World = record { shown = with_contents s file.0 (Some file.1); left = s.files } in
    let start : World = record { shown = s; left = s.files } in
    let next : World = record { shown = with_synced made.shown file.0; left = s.files } in
    let one = made_kept file.0 (Some file.1) start made refl name (λ same. h.0 (sym same)) in
    let two = synced_kept file.0 made next refl name in
    let rest = group_kept files next.shown name h.1 in
    record { held = rest.held ∙ (two.held ∙ one.held); synced = λ k. rest.synced (two.synced (one.synced k)) }

-- all files of a group are written
group_written : (files : List (List ℕ × List ℕ)) (s : FolderView) (next : World) → AreNamedApart files → next.shown ≡ with_written s files → AllWritten files next
group_written [] s next apart is = tt
group_written (file ∷ files) s next apart is =
    let made = with_contents s file.0 (Some file.1) in
    let first = with_synced made file.0 in
    let kept = group_kept files first file.0 apart.0 in (
      record {
        held = at next.shown.files _ file.0 (ap (λ (v : FolderView). v.files) is) ∙ (kept.held ∙ put_same s.files file.0 (Some file.1));
        synced = at next.shown.synced _ file.0 (ap (λ (v : FolderView). v.synced) is) ∙ kept.synced (put_same made.synced file.0 true);
      },
      group_written files first next apart.1 is,
    )

-- what a crash leaves under a name that none of the files has
group_left : (files : List (List ℕ × List ℕ)) (left next : Files) (name : List ℕ) → IsNameOfNone name files → MayHold files left next → next name ≡ left name
group_left [] left next name h is = at next left name is
group_left (file ∷ files) left next name h is = group_left files (with_value left file.0 is.0) next name h.1 is.1 ∙ put_other left file.0 is.0 name (λ same. h.0 (sym same))

-- files that were synced are left by a sync of the folder
files_left : (files : List (List ℕ × List ℕ)) (w : World) (left : Files) → ((name : List ℕ) → IsDurable w.shown name → left name ≡ w.shown.files name) → AllWritten files w → AreThere files left
files_left [] w left same h = tt
files_left (file ∷ files) w left same h = (same file.0 (inl h.0.synced) ∙ h.0.held, files_left files w left same h.1)

-- and they stay if another file is renamed
files_moved : (files : List (List ℕ × List ℕ)) (left : Files) → AreOthers files → AreThere files left → AreThere files (with_moved None left UNFINISHED EDIT)
files_moved [] left others h = tt
files_moved (file ∷ files) left others h = (moved_other None left UNFINISHED EDIT file.0 others.1 others.0 ∙ h.0, files_moved files left others.2 h.1)

-- steps that aren't all, and the steps after the first of all
none_full : (call : Call) (calls : List Call) (steps : List Step) → steps ≡ [] → steps ≡ map Done (call ∷ calls) → ⊥
none_full call calls steps none' done = let h : [] ≡ Done call ∷ map Done calls = sym none' ∙ done in cc h

tried_full : (call : Call) (calls : List Call) (steps : List Step) → steps ≡ Tried call ∷ [] → steps ≡ map Done (call ∷ calls) → ⊥
tried_full call calls steps one done = let h : Tried call ∷ [] ≡ Done call ∷ map Done calls = sym one ∙ done in cc h

rest_full : (call : Call) (calls : List Call) (steps rest : List Step) → steps ≡ Done call ∷ rest → steps ≡ map Done (call ∷ calls) → rest ≡ map Done calls
rest_full call calls steps rest more done = let h : Done call ∷ rest ≡ Done call ∷ map Done calls = sym more ∙ done in cc h

module _ (a : Answer) (apart : AreNamedApart (named_tables a.tables)) where
  abbrev files : List (List ℕ × List ℕ)
  files = named_tables a.tables

  others : AreOthers files
  others = tables_are_others a.tables

  abbrev IsLeft : World → Type 0
  IsLeft w = IsAbsentOrWhole a w.left

  same_left : (w next : World) → next ≡ w → IsLeft w → IsLeft next
  same_left w next is h = subst IsLeft (sym is) h

  -- The tables are written, and there is no EDIT.
  record HasTables (w : World) : Type 0 where
    tables : AllWritten files w
    absent : HasNoEdit w

  -- So is the edit under its temporary name.
  record HasUnfinished (w : World) : Type 0 where
    before : HasTables w
    edit : IsWritten w (UNFINISHED, a.edit)

  -- And the folder was synced.
  record IsReady (w : World) : Type 0 where
    before : HasUnfinished w
    settled : (name : List ℕ) → IsDurable w.shown name → w.left name ≡ w.shown.files name

  -- The edit has its name.
  record IsNamed (w : World) : Type 0 where
    tables : AllWritten files w
    edit : IsWritten w (EDIT, a.edit)
    left : IsLeft w

  absent_left : (w : World) → HasNoEdit w → IsLeft w
  absent_left w h = inl h.1

  -- after the rename a crash leaves no EDIT, or all of it
  renamed_left : (w next : World) → IsReady w → (next.left ≡ w.left) ⊎ (next.left ≡ with_moved None w.left UNFINISHED EDIT) → IsLeft next
  renamed_left w next h (inl same) = inl (at next.left w.left EDIT same ∙ h.before.before.absent.1)
  renamed_left w next h (inr moved) =
      let there = files_left files w w.left h.settled h.before.before.tables in
      let edit = h.settled UNFINISHED (inl h.before.edit.synced) ∙ h.before.edit.held in
      inr (at next.left _ EDIT moved ∙ (moved_to None w.left UNFINISHED EDIT ∙ edit), subst (AreThere files) (sym moved) (files_moved files w.left others there))

  named : (w next : World) → IsReady w → next.shown ≡ with_renamed w.shown UNFINISHED EDIT → (next.left ≡ w.left) ⊎ (next.left ≡ with_moved None w.left UNFINISHED EDIT) → IsNamed next
  named w next h shown left = record {
    tables = kept_written files w next others (renamed_kept w next shown) h.before.before.tables;
    edit = record {
      held = at next.shown.files _ EDIT (ap (λ (s : FolderView). s.files) shown) ∙ (moved_to None w.shown.files UNFINISHED EDIT ∙ h.before.edit.held);
      synced = at next.shown.synced _ EDIT (ap (λ (s : FolderView). s.synced) shown) ∙ (moved_to false w.shown.synced UNFINISHED EDIT ∙ h.before.edit.synced);
    };
    left = renamed_left w next h left;
  }

  abbrev Whole : World → Type 0
  Whole w = IsWhole a w.left

  -- the folder is synced at last
  synced_last : (w last : World) (steps : List Step) → IsNamed w → AreMade (FolderSynced ∷ []) steps → Leads w steps last → IsLeft last × (steps ≡ map Done (FolderSynced ∷ []) → Whole last)
  synced_last w last steps h (inl none') l = (same_left w last (leads_none w last steps none' l) h.left, λ done. absurd (none_full FolderSynced [] steps none' done))
  synced_last w last steps h (inr (inl one)) l =
      let l' = leads_first w last steps [] _ one l in
      (same_left l'.0 last l'.2 (subst (IsAbsentOrWhole a) (sym l'.1.1) h.left), λ done. absurd (tried_full FolderSynced [] steps one done))
  synced_last w last steps h (inr (inr more)) l =
      let l' = leads_first w last steps more.0 _ more.1 l in
      let whole : Whole l'.0 = (l'.1.1 EDIT (inl h.edit.synced) ∙ h.edit.held, files_left files w l'.0.left l'.1.1 h.tables) in
      let is = leads_none l'.0 last more.0 more.2 l'.2 in
      (same_left l'.0 last is (inr whole), λ done. subst Whole (sym is) whole)

  renames : (w last : World) (steps : List Step) → IsReady w → AreMade (Renamed UNFINISHED EDIT ∷ FolderSynced ∷ []) steps → Leads w steps last
      → IsLeft last × (steps ≡ map Done (Renamed UNFINISHED EDIT ∷ FolderSynced ∷ []) → Whole last)
  renames w last steps h (inl none') l =
      (same_left w last (leads_none w last steps none' l) (absent_left w h.before.before.absent), λ done. absurd (none_full (Renamed UNFINISHED EDIT) (FolderSynced ∷ []) steps none' done))
  renames w last steps h (inr (inl one)) l =
      let l' = leads_first w last steps [] _ one l in
      (same_left l'.0 last l'.2 (renamed_left w l'.0 h l'.1.1), λ done. absurd (tried_full (Renamed UNFINISHED EDIT) (FolderSynced ∷ []) steps one done))
  renames w last steps h (inr (inr more)) l =
      let l' = leads_first w last steps more.0 _ more.1 l in
      let rest = synced_last l'.0 last more.0 (named w l'.0 h l'.1.0 l'.1.1) more.2 l'.2 in
      (rest.0, λ done. rest.1 (rest_full (Renamed UNFINISHED EDIT) (FolderSynced ∷ []) steps more.0 more.1 done))

  -- what is shown and left without a change of EDIT
  still_absent : (w next : World) → HasNoEdit w → IsKept w.shown next.shown EDIT → next.left EDIT ≡ w.left EDIT → HasNoEdit next
  still_absent w next h kept left = (kept.held ∙ h.0, left ∙ h.1)

  abbrev rename_calls : List Call
  rename_calls = Renamed UNFINISHED EDIT ∷ FolderSynced ∷ []

  names : (w last : World) (steps : List Step) → HasUnfinished w → AreMade naming_calls steps → Leads w steps last → IsLeft last × (steps ≡ map Done naming_calls → Whole last)
  names w last steps h (inl none') l = (same_left w last (leads_none w last steps none' l) (absent_left w h.before.absent), λ done. absurd (none_full FolderSynced rename_calls steps none' done))
  names w last steps h (inr (inl one)) l =
      let l' = leads_first w last steps [] _ one l in
      (same_left l'.0 last l'.2 (inl (at l'.0.left w.left EDIT l'.1.1 ∙ h.before.absent.1)), λ done. absurd (tried_full FolderSynced rename_calls steps one done))
  names w last steps h (inr (inr more)) l =
      let l' = leads_first w last steps more.0 _ more.1 l in
      let next = l'.0 in
      let kept = still_kept w next l'.1.0 in
      let settled : (name : List ℕ) → IsDurable next.shown name → next.left name ≡ next.shown.files name =
      λ name d. l'.1.1 name (subst (λ (s : FolderView). IsDurable s name) l'.1.0 d) ∙ sym (kept name).held in
      let absent : HasNoEdit next = ((kept EDIT).held ∙ h.before.absent.0, l'.1.1 EDIT (inr h.before.absent.0) ∙ h.before.absent.0) in
      let ready : IsReady next = record {
        before = record {
          before = record {
            tables = kept_written files w next others (λ name e u. kept name) h.before.tables;
            absent = absent;
          };
          edit = record { held = (kept UNFINISHED).held ∙ h.edit.held; synced = (kept UNFINISHED).synced h.edit.synced };
        };
        settled = settled;
      } in
      let rest = renames next last more.0 ready more.2 l'.2 in
      (rest.0, λ done. rest.1 (rest_full FolderSynced rename_calls steps more.0 more.1 done))

  syncs : (w last : World) (steps : List Step) → HasTables w → w.shown.files UNFINISHED ≡ Some a.edit → AreMade (Synced UNFINISHED ∷ naming_calls) steps → Leads w steps last → IsLeft last × (steps ≡ map Done (Synced UNFINISHED ∷ naming_calls) → Whole last)
  syncs w last steps h held (inl none') l = (same_left w last (leads_none w last steps none' l) (absent_left w h.absent), λ done. absurd (none_full (Synced UNFINISHED) naming_calls steps none' done))
  syncs w last steps h held (inr (inl one)) l =
      let l' = leads_first w last steps [] _ one l in
      (same_left l'.0 last l'.2 (inl (at l'.0.left w.left EDIT l'.1.1 ∙ h.absent.1)), λ done. absurd (tried_full (Synced UNFINISHED) naming_calls steps one done))
  syncs w last steps h held (inr (inr more)) l =
      let l' = leads_first w last steps more.0 _ more.1 l in
      let next = l'.0 in
      let kept = synced_kept UNFINISHED w next l'.1.0 in
      let unfinished : HasUnfinished next = record {
        before = record {
          tables = kept_written files w next others (λ name e u. kept name) h.tables;
          absent = still_absent w next h.absent (kept EDIT) (at next.left w.left EDIT l'.1.1);
        };
        edit = record {
          held = (kept UNFINISHED).held ∙ held;
          synced = at next.shown.synced _ UNFINISHED (ap (λ (s : FolderView). s.synced) l'.1.0) ∙ put_same w.shown.synced UNFINISHED true;
        };
      } in
      let rest = names next last more.0 unfinished more.2 l'.2 in
      (rest.0, λ done. rest.1 (rest_full (Synced UNFINISHED) naming_calls steps more.0 more.1 done))

  makes : (w last : World) (steps : List Step) → HasTables w → AreMade (Created UNFINISHED a.edit ∷ Synced UNFINISHED ∷ naming_calls) steps → Leads w steps last
      → IsLeft last × (steps ≡ map Done (Created UNFINISHED a.edit ∷ Synced UNFINISHED ∷ naming_calls) → Whole last)
  makes w last steps h (inl none') l = (same_left w last (leads_none w last steps none' l) (absent_left w h.absent), λ done. absurd (none_full (Created UNFINISHED a.edit) (Synced UNFINISHED ∷ naming_calls) steps none' done))
  makes w last steps h (inr (inl one)) l =
      let l' = leads_first w last steps [] _ one l in (
        same_left l'.0 last l'.2 (inl (at l'.0.left _ EDIT l'.1.1.1 ∙ (put_other w.left UNFINISHED l'.1.1.0 EDIT unfinished_no_edit ∙ h.absent.1))),
        λ done. absurd (tried_full (Created UNFINISHED a.edit) (Synced UNFINISHED ∷ naming_calls) steps one done),
      )
  makes w last steps h (inr (inr more)) l =
      let l' = leads_first w last steps more.0 _ more.1 l in
      let next = l'.0 in
      let kept = made_kept UNFINISHED (Some a.edit) w next l'.1.0 in
      let tables : HasTables next = record {
        tables = kept_written files w next others (λ name e u. kept name u) h.tables;
        absent = still_absent w next h.absent (kept EDIT unfinished_no_edit) (at next.left _ EDIT l'.1.1.1 ∙ put_other w.left UNFINISHED l'.1.1.0 EDIT unfinished_no_edit);
      } in
      let held = at next.shown.files _ UNFINISHED (ap (λ (s : FolderView). s.files) l'.1.0) ∙ put_same w.shown.files UNFINISHED (Some a.edit) in
      let rest = syncs next last more.0 tables held more.2 l'.2 in
      (rest.0, λ done. rest.1 (rest_full (Created UNFINISHED a.edit) (Synced UNFINISHED ∷ naming_calls) steps more.0 more.1 done))

  writes : (w last : World) (steps : List Step) → HasNoEdit w → AreMade (outcome_calls a) steps → Leads w steps last → IsLeft last × (steps ≡ map Done (outcome_calls a) → Whole last)
  writes w last steps h (inl none') l = (same_left w last (leads_none w last steps none' l) (absent_left w h), λ done. absurd (none_full (Written files) (edit_calls a.edit) steps none' done))
  writes w last steps h (inr (inl one)) l =
      let l' = leads_first w last steps [] _ one l in
      (same_left l'.0 last l'.2 (inl (group_left files w.left l'.0.left EDIT (others_none files others) l'.1.1 ∙ h.1)), λ done. absurd (tried_full (Written files) (edit_calls a.edit) steps one done))
  writes w last steps h (inr (inr more)) l =
      let l' = leads_first w last steps more.0 _ more.1 l in
      let next = l'.0 in
      let kept = group_kept files w.shown EDIT (others_none files others) in
      let shown = at next.shown.files _ EDIT (ap (λ (s : FolderView). s.files) l'.1.0) ∙ kept.held in
      let tables : HasTables next = record {
        tables = group_written files w.shown next apart l'.1.0;
        absent = (shown ∙ h.0, group_left files w.left next.left EDIT (others_none files others) l'.1.1 ∙ h.1);
      } in
      let rest = makes next last more.0 tables more.2 l'.2 in
      (rest.0, λ done. rest.1 (rest_full (Written files) (edit_calls a.edit) steps more.0 more.1 done))

  -- each moment of a run from a start at which there is no EDIT
  pub whole_or_absent : {T E : Type 0} (start : World) (before now : List Step) (old new : List ℕ → Option (List ℕ) → Type 0) (r : Result T E) → ((w : World) → Leads start before w → HasNoEdit w)
      → MakesCalls (outcome_calls a) before now old new r → LeavesOnly start before now (IsAbsentOrWhole a)
  whole_or_absent start before now old new r absent runs = record {
    steps = runs.steps;
    all = runs.appended;
    each = λ sofar moment left' left.
        let split = leads_split start left.0 before sofar left.1 in
        let made = moment_made (outcome_calls a) runs.steps sofar (made_by (outcome_calls a) runs.steps r runs.made) moment in
        subst (IsAbsentOrWhole a) (sym left.2) (writes split.0 left.0 sofar (absent split.0 split.1) made split.2).0;
  }

  -- and at Ok all of it is left
  pub whole_after : {T E : Type 0} (start : World) (before now : List Step) (old new : List ℕ → Option (List ℕ) → Type 0) (r : Result T E) → ((w : World) → Leads start before w → HasNoEdit w)
      → MakesCalls (outcome_calls a) before now old new r → OnOk r ((w : World) → Leads start now w → Whole w)
  whole_after start before now old new (Ok x) absent runs = λ w leads.
      let split = leads_split start w before runs.steps (subst (λ (t : List Step). Leads start t w) runs.appended leads) in
      (writes split.0 w runs.steps (absent split.0 split.1) (made_by {T = Unit {0}} {E = Unit {0}} (outcome_calls a) runs.steps (Ok tt) runs.made) split.2).1 runs.made
  whole_after start before now old new (Err e) absent runs = tt
