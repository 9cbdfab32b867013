-- A version after an edit.
use Rattle.std.proofs.Common.{◌≡◌, ℕ, ◌≤◌, Bool, true, false, not, cond, ◌&&◌, List, [], ◌∷◌, ◌++◌, Option, Some, None, Result, Ok, Err, refl, sym, ap, subst, ◌∙◌, append_assoc}
use Rattle.std.specs.List.{All, fold, list_all, AllByRecursion}
use Rattle.std.specs.List.Sorted.{IsStrictlySortedBy}
use Rattle.std.specs.Map.{keys_of}
use Rattle.std.specs.Option.{ok_or, option_map, option_or}
use Rattle.std.specs.Ordering.{nat_cmp, ordering_reverse}
use Rattle.std.specs.BTreeMap.{insert_entry}
use Rattle.std.specs.declared.cmp.Ordering.TheVariants.{Less, Greater}
use Rattle.std.proofs.lemmas.Cmp.{nat_cmp_total}
use Rattle.std.proofs.lemmas.List.Elements.{All-head, All-tail, All-filter}
use Rattle.std.proofs.lemmas.Map.Views.{All-keys-insert_entry, All-insert_key}
use Rattle.coding.proofs.Refusals.{unless_from}
use Rattle.coding.specs.Answers.{fault, FailsOrMemory}
use Rattle.coding.specs.declared.fault.Fault.{Fault}
use Rattle.coding.specs.declared.fault.FaultName.TheVariants.{Apply}
use Rattle.edit.specs.Edit.{Edit, HasValidLevels}
use Rattle.edit.specs.Version.{State, AreLevelled, IsState, is_deleted, has_place, undeleted_files, are_new, number_cmp, with_file, files_after, with_pointer, applied}
use Rattle.edit.specs.declared.meta.NewFile.{NewFile}
use Rattle.edit.specs.declared.meta.CompactPointer.{CompactPointer}
use Rattle.edit.specs.declared.meta.DeletedFile.{DeletedFile}
use Rattle.edit.proofs.Inserted.{sorted_all}
use Rattle.edit.proofs.RisingFiles.{number_total, rising_apart, rising_filter}
use Rattle.edit.proofs.Together.{rises_put}

-- ---- copies of maps

entry_below : {X : Type 0} (x k : ℕ) (v : X) (done rest : List (ℕ × X)) → AllByRecursion (λ y. nat_cmp x y ≡ Less) (keys_of (done ++ (k, v) ∷ rest)) → nat_cmp x k ≡ Less
entry_below x k v [] rest h = h.0
entry_below x k v (e ∷ done) rest h = entry_below x k v done rest h.1

pub last_entry : {X : Type 0} (done rest : List (ℕ × X)) (k : ℕ) (v : X) → IsStrictlySortedBy nat_cmp (keys_of (done ++ (k, v) ∷ rest)) → insert_entry nat_cmp done k v ≡ done ++ (k, v) ∷ []
unfolding IsStrictlySortedBy
last_entry [] rest k v h = refl
last_entry (e ∷ done) rest k v h =
    let above : nat_cmp k e.0 ≡ Greater = nat_cmp_total.antisymm k e.0 ∙ ap ordering_reverse (entry_below e.0 k v done rest h.0) in
    rw above (ap (λ t. e ∷ t) (last_entry done rest k v h.1))

-- a copy of entries that are in order goes on at its end
pub copied_on : {X : Type 0} (all done rest iterator : List (ℕ × X)) (k : ℕ) (v w : X) → IsStrictlySortedBy nat_cmp (keys_of all) → done ++ iterator ≡ all → iterator ≡ (k, v) ∷ rest → w ≡ v
    → insert_entry nat_cmp done k w ++ rest ≡ all
copied_on {X} all done rest iterator k v w sorted whole is same =
    let all-is : done ++ (k, v) ∷ rest ≡ all = ap (λ (t : List (ℕ × X)). done ++ t) (sym is) ∙ whole in
    ap (λ (t : X). insert_entry nat_cmp done k t ++ rest) same
    ∙ ap (λ (t : List (ℕ × X)). t ++ rest) (last_entry done rest k v (subst (λ (t : List (ℕ × X)). IsStrictlySortedBy nat_cmp (keys_of t)) (sym all-is) sorted))
    ∙ append_assoc done ((k, v) ∷ []) rest
    ∙ all-is

abbrev value : {X : Type 0} → X → Result X Fault
value v = Ok v

pub value_is : {X : Type 0} (a b : X) → value a ≡ value b → b ≡ a
value_is a b e = cc

-- ---- the files after an edit

abbrev some_files : List NewFile → Option (List NewFile)
some_files files = Some files

abbrev pub answer : Option (List NewFile) → Result (List NewFile) Fault
answer files = ok_or files (fault Apply)

pub after_is : (files : List NewFile) (ds : List DeletedFile) (added : List NewFile) → list_all (has_place files) ds ≡ true → are_new (undeleted_files ds files) added ≡ true
    → files_after files ds added ≡ Some (fold with_file (undeleted_files ds files) added)
after_is files ds added p q = rw (p, q) refl

tests_passed : (a b : Bool) (x y : List NewFile) → cond (a && b) (Some x) None ≡ some_files y → x ≡ y
tests_passed true true x y e = cc
tests_passed true false x y e = absurd cc
tests_passed false b x y e = absurd cc

abbrev pub files_value : List NewFile → Result (List NewFile) Fault
files_value v = Ok v

pub from_ok_or : (o : Option (List NewFile)) (d : Fault) (y : List NewFile) → ok_or o d ≡ files_value y → o ≡ Some y
from_ok_or None d y e = absurd cc
from_ok_or (Some x) d y e = cc

abbrev no_files : Fault → Result (List NewFile) Fault
no_files e = Err e

abbrev no_version : Fault → Result State Fault
no_version e = Err e

same_fault : (a b : Fault) → no_files a ≡ no_files b → a ≡ b
same_fault a b e = cc

none_after : (o : Option (List NewFile)) (make : List NewFile → State) (e : Fault) → answer o ≡ Err e → ok_or (option_map make o) (fault Apply) ≡ Err e
none_after None make e h = ap no_version (same_fault (fault Apply) e h)
none_after (Some x) make e h = absurd cc

-- if there are no files after an edit, there is no version
pub refused_after : (v : State) (e : Edit) (d : Fault) → FailsOrMemory d (answer (files_after v.files e.deleted e.added)) → FailsOrMemory d (ok_or (applied v e) (fault Apply))
refused_after v e d h =
    unless_from d (answer (files_after v.files e.deleted e.added) ≡ Err d) (ok_or (applied v e) (fault Apply) ≡ Err d) (λ none. none_after (files_after v.files e.deleted e.added) _ d none) h

abbrev low : NewFile → Type 0
low f = f.level ≤ 6

low_added : (files added : List NewFile) → All low files → All low added → All low (fold with_file files added)
low_added files [] h k = h
low_added files (f ∷ added) h k = low_added (with_file files f) added (All-insert_key number_cmp f low files h (All-head low f added k)) (All-tail low f added k)

pointer_levels : (m : List (ℕ × List ℕ)) (ps : List CompactPointer) → All (λ (level : ℕ). level ≤ 6) (keys_of m) → All (λ (p : CompactPointer). p.level ≤ 6) ps → All (λ (level : ℕ). level ≤ 6) (keys_of (fold with_pointer m ps))
pointer_levels m [] h k = h
pointer_levels m (p ∷ ps) h k =
    pointer_levels (with_pointer m p) ps (All-keys-insert_entry nat_cmp p.level p.key (λ (level : ℕ). level ≤ 6) m h (All-head (λ (q : CompactPointer). q.level ≤ 6) p ps k)) (All-tail (λ (q : CompactPointer). q.level ≤ 6) p ps k)

levels_after : (pointers after_pointers : List (ℕ × List ℕ)) (files after : List NewFile) (e : Edit) → AreLevelled pointers files → HasValidLevels e → files_after files e.deleted e.added ≡ Some after
    → after_pointers ≡ fold with_pointer pointers e.pointers → AreLevelled after_pointers after
levels_after pointers after_pointers files after e state levels is pointers-are =
    let t = tests_passed (list_all (has_place files) e.deleted) (are_new (undeleted_files e.deleted files) e.added) (fold with_file (undeleted_files e.deleted files) e.added) after is in
    record {
      file_levels = subst (All low) t (low_added (undeleted_files e.deleted files) e.added (All-filter (λ (f : NewFile). not (is_deleted e.deleted f)) low files state.file_levels) levels.added);
      pointer_levels = subst (λ (m : List (ℕ × List ℕ)). All (λ (level : ℕ). level ≤ 6) (keys_of m)) (sym pointers-are) (pointer_levels pointers e.pointers state.pointer_levels levels.pointers);
    }

pointers_rise : (m : List (ℕ × List ℕ)) (ps : List CompactPointer) → IsStrictlySortedBy nat_cmp (keys_of m) → IsStrictlySortedBy nat_cmp (keys_of (fold with_pointer m ps))
pointers_rise m [] h = h
pointers_rise m (p ∷ ps) h = pointers_rise (with_pointer m p) ps (rises_put m p.level p.key h)

-- what holds of a version holds of it after an edit
pub state_after : (pointers after_pointers : List (ℕ × List ℕ)) (files after : List NewFile) (e : Edit) → IsState pointers files → HasValidLevels e → files_after files e.deleted e.added ≡ Some after
    → after_pointers ≡ fold with_pointer pointers e.pointers → IsState after_pointers after
state_after pointers after_pointers files after e state levels is pointers-are =
    let t = tests_passed (list_all (has_place files) e.deleted) (are_new (undeleted_files e.deleted files) e.added) (fold with_file (undeleted_files e.deleted files) e.added) after is in
    let rise = subst (IsStrictlySortedBy number_cmp) t (sorted_all number_cmp number_total (undeleted_files e.deleted files) e.added (rising_filter number_cmp (λ (f : NewFile). not (is_deleted e.deleted f)) files state.files_rise)) in
    record {
      files_rise = rise;
      apart = rising_apart after rise;
      pointers_rise = subst (λ (m : List (ℕ × List ℕ)). IsStrictlySortedBy nat_cmp (keys_of m)) (sym pointers-are) (pointers_rise pointers e.pointers state.pointers_rise);
      levels = levels_after pointers after_pointers files after e state.levels levels is pointers-are;
    }

-- the version after an edit, by its parts
pub applied_is : (v after : State) (e : Edit) → files_after v.files e.deleted e.added ≡ Some after.files → after.pointers ≡ fold with_pointer v.pointers e.pointers
    → after.log_number ≡ option_or e.log_number v.log_number → after.previous_log ≡ option_or e.previous_log v.previous_log → after.next_file ≡ option_or e.next_file v.next_file → after.last_sequence ≡ option_or e.last_sequence v.last_sequence
    → ok_or (applied v e) (fault Apply) ≡ Ok after
applied_is v after e files pointers log previous next last = rw (files, ← pointers, ← log, ← previous, ← next, ← last) refl
