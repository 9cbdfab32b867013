-- Each number of the version after the edits of answers is below its next file.
use Rattle.std.proofs.Common.{ℕ, ◌+◌, ◌<◌, ◌≤◌, ◌^◌, List, [], ◌∷◌, Some, None, Option, refl, sym, ap, subst, arith, not}
use Rattle.std.specs.Prelude.{Contains, fold, unwrap_or}
use Rattle.std.specs.List.{All, AllByRecursion}
use Rattle.std.specs.Option.{option_or}
use Rattle.std.proofs.lemmas.List.Elements.{All-cons, All-contains, All-nil, All-push, All-filter}
use Rattle.std.proofs.lemmas.Map.Views.{All-insert_key}
use Rattle.std.specs.declared.cmp.Ordering.{Ordering}
use Rattle.edit.proofs.Applied.{state_after}
use Rattle.edit.specs.Edit.{Edit, HasValidLevels, IsEdit, deleted_cmp, empty_edit, with_field}
use Rattle.edit.specs.Field.{AddFile, DeleteFile, Field, IsField, SetComparator, SetLastSequence, SetLogNumber, SetNextFile, SetPointer, SetPreviousLog}
use Rattle.edit.specs.Version.{State, is_deleted, number_cmp, undeleted_files, with_file}
use Rattle.edit.specs.declared.meta.CompactPointer.{CompactPointer}
use Rattle.edit.specs.declared.meta.DeletedFile.{DeletedFile}
use Rattle.edit.specs.declared.meta.NewFile.{NewFile}
use Rattle.reads.specs.Lawful.{IsBelowNextFile}
use Rattle.keep.proofs.Members.{first_in, later_in}
use Rattle.store.specs.FolderRequest.{manifest_of}
use Rattle.levels.specs.Survival.{IsNumbered}
use Rattle.levels.proofs.PartEdits.{IsEditOver}
use Rattle.levels.proofs.WholeWork.{after, files_are}
use Rattle.levels.proofs.StayingInputs.{below_manifest}

-- ---- what is read as an edit is within limits

record IsWithin (e : Edit) : Type 0 where
  levels : HasValidLevels e
  log : unwrap_or e.log_number 0 < 2 ^ 64
  previous : unwrap_or e.previous_log 0 < 2 ^ 64

within_on : (e : Edit) (field : Field) → IsWithin e → IsField field → IsWithin (with_field e field)
within_on e (SetComparator name) h is = record { levels = record { pointers = h.levels.pointers; deleted = h.levels.deleted; added = h.levels.added }; log = h.log; previous = h.previous }
within_on e (SetLogNumber n) h is = record { levels = record { pointers = h.levels.pointers; deleted = h.levels.deleted; added = h.levels.added }; log = is; previous = h.previous }
within_on e (SetPreviousLog n) h is = record { levels = record { pointers = h.levels.pointers; deleted = h.levels.deleted; added = h.levels.added }; log = h.log; previous = is }
within_on e (SetNextFile n) h is = record { levels = record { pointers = h.levels.pointers; deleted = h.levels.deleted; added = h.levels.added }; log = h.log; previous = h.previous }
within_on e (SetLastSequence n) h is = record { levels = record { pointers = h.levels.pointers; deleted = h.levels.deleted; added = h.levels.added }; log = h.log; previous = h.previous }
within_on e (SetPointer p) h is = record {
  levels = record { pointers = All-push (λ (q : CompactPointer). q.level ≤ 6) e.pointers p h.levels.pointers is.0; deleted = h.levels.deleted; added = h.levels.added };
  log = h.log;
  previous = h.previous;
}
within_on e (DeleteFile f) h is = record {
  levels = record { pointers = h.levels.pointers; deleted = All-insert_key deleted_cmp f (λ (g : DeletedFile). g.level ≤ 6) e.deleted h.levels.deleted is.0; added = h.levels.added };
  log = h.log;
  previous = h.previous;
}
within_on e (AddFile f) h is = record {
  levels = record { pointers = h.levels.pointers; deleted = h.levels.deleted; added = All-push (λ (g : NewFile). g.level ≤ 6) e.added f h.levels.added is.0 };
  log = h.log;
  previous = h.previous;
}

within_from : (fields : List Field) (e : Edit) → AllByRecursion IsField fields → IsWithin e → IsWithin (fold with_field e fields)
within_from [] e are h = h
within_from (f ∷ fields) e are h = within_from fields (with_field e f) are.1 (within_on e f h are.0)

within : (bytes : List ℕ) (e : Edit) → IsEdit bytes e → IsWithin e
within bytes e h =
    subst IsWithin h.sets (within_from h.fields empty_edit h.lawful (record {
      levels = record {
        pointers = All-nil (λ (p : CompactPointer). p.level ≤ 6);
        deleted = All-nil (λ (f : DeletedFile). f.level ≤ 6);
        added = All-nil (λ (f : NewFile). f.level ≤ 6);
      };
      log = omega arith;
      previous = omega arith;
    }))

-- ---- files

abbrev Below : ℕ → NewFile → Type 0
Below n f = f.meta.number < n

below_added : (n : ℕ) (files added : List NewFile) → All (Below n) files → ((f : NewFile) → Contains added f → f.meta.number < n) → All (Below n) (fold with_file files added)
below_added n files [] h k = h
below_added n files (f ∷ added) h k = below_added n (with_file files f) added (All-insert_key number_cmp f (Below n) files h (k f (first_in f added))) (λ g at. k g (later_in f added g at))

each : (P : NewFile → Type 0) (files : List NewFile) → ((f : NewFile) → Contains files f → P f) → All P files
each P [] h = All-nil P
each P (f ∷ files) h = All-cons P f files (h f (first_in f files)) (each P files (λ g at. h g (later_in f files g at)))

small_or : (o p : Option ℕ) → unwrap_or o 0 < 2 ^ 64 → unwrap_or p 0 < 2 ^ 64 → unwrap_or (option_or o p) 0 < 2 ^ 64
small_or None p one two = two
small_or (Some n) p one two = one

module _ (cmp : List ℕ → List ℕ → Ordering) (v : State) (is : IsNumbered v) (last : ℕ) (tables : List (ℕ × List ℕ)) (front : List ℕ) (h : IsEditOver v (manifest_of v + 1) last tables front) where
  abbrev next : State
  next = after cmp v is last tables front h

  low : (f : NewFile) → Contains v.files f → f.meta.number < last
  low f at =
      let lt = below_manifest v.next_file f.meta.number (All-contains (λ (x : NewFile). IsBelowNextFile v.next_file x.meta.number) v.files f is.below at) in
      let le = h.higher in
      omega (arith, lt, le)

  files : All (Below last) next.files
  files =
      below_added last (undeleted_files h.edit.deleted v.files) h.edit.added
      (All-filter (λ (f : NewFile). not (is_deleted h.edit.deleted f)) (Below last) v.files (each (Below last) v.files low)) h.below

  pub next_numbered : IsNumbered next
  next_numbered =
      let w = within front h.edit h.read in
      record {
        state = state_after v.pointers next.pointers v.files next.files h.edit is.state w.levels (files_are cmp v is last tables front h) refl;
        below = subst (λ (n : Option ℕ). All (λ (f : NewFile). IsBelowNextFile n f.meta.number) next.files) (sym (ap (λ (o : Option ℕ). option_or o v.next_file) h.next_set)) files;
        log = small_or h.edit.log_number v.log_number w.log is.log;
        previous = small_or h.edit.previous_log v.previous_log w.previous is.previous;
      }
