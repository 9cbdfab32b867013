-- The compaction of a whole level as an installation of all its answers.
use Rattle.std.proofs.Common.{◌≡◌, ◌≢◌, ℕ, ◌+◌, ◌<◌, ◌≤◌, not, false, true, List, [], ◌∷◌, ◌++◌, map, Some, Option, Result, Ok, Err, OnOk, refl, sym, ap, subst, ◌∙◌, inl, inr, arith}
use Rattle.std.specs.Prelude.{Contains, fold}
use Rattle.std.specs.List.{list_any}
use Rattle.std.specs.Option.{option_or}
use Rattle.std.specs.declared.cmp.Ordering.{Ordering}
use Rattle.std.proofs.lemmas.Grind.{flat_map-append}
use Rattle.std.proofs.lemmas.List.{append-nil}
use Rattle.std.proofs.lemmas.List.Elements.{All-contains}
use Rattle.edit.proofs.Applied.{after_is}
use Rattle.edit.specs.Comparator.{ShortKeys}
use Rattle.edit.specs.Edit.{IsEdit}
use Rattle.edit.specs.Version.{State, applied, are_apart, are_new, files_after, has_number, has_place, is_deleted, undeleted_files, with_file, with_pointer}
use Rattle.edit.specs.declared.meta.NewFile.{NewFile}
use Rattle.edit.specs.fault.Fault.{Fault}
use Rattle.pick.specs.PickedInputs.{PickedInputs}
use Rattle.pick.proofs.Lists.{and_both}
use Rattle.reads.specs.Lawful.{IsBelowNextFile}
use Rattle.folder.specs.Calls.{Call, Done, Step}
use Rattle.folder.specs.CallSequence.{MakesCalls}
use Rattle.folder.specs.Orders.{order_cmp}
use Rattle.folder.specs.ReadsAs.{IsOneOf}
use Rattle.folder.specs.declared.folder.Folder.{Ghosts}
use Rattle.install.specs.GroupedInstallation.{tables_of_groups}
use Rattle.install.specs.Install.{IsEditedBy, table_calls}
use Rattle.install.specs.Installation.{IsInstallation, place_with, tables_link}
use Rattle.install.specs.Naming.{naming_calls}
use Rattle.install.specs.ReadsOf.{NamedVersion}
use Rattle.install.specs.Work.{IsPieceDone, Place, begun}
use Rattle.install.proofs.Numbers.{in_files}
use Rattle.keep.proofs.Members.{first_in, from_filter, later_in}
use Rattle.compact.specs.declared.settings.Settings.{Settings}
use Rattle.compact.proofs.AppliedEdit.{all_tests, none_tests}
use Rattle.store.specs.FolderRequest.{manifest_of}
use Rattle.store.proofs.PartFiles.{ArePlaced}
use Rattle.store.proofs.TablesAfter.{HasNumber, number_of}
use Rattle.levels.specs.PartsEnd.{last_after}
use Rattle.levels.specs.WholeAnswer.{edits_of, next_last, tables_of}
use Rattle.levels.specs.WholeRuns.{ArePartLinks, GroupedAnswer, answers_in, groups_in}
use Rattle.levels.specs.Survival.{IsNumbered}
use Rattle.levels.proofs.PartEdits.{IsEditOver, apart_of, at_least, edits_two, next_there, no_number, own_edit}
use Rattle.levels.proofs.StayingInputs.{below_manifest}

-- ---- the edits of all answers as one

module _ {F : Type 0} (g : Ghosts F) (first : F) (cmp : List ℕ → List ℕ → Ordering) (short_keys : ShortKeys) (v : State) (is : IsNumbered v) (s : Settings) where
  abbrev pub Over : ℕ → List GroupedAnswer → Type 0
  Over last links = IsEditOver v (last + 1) (last_after last (answers_in links)) (tables_of (answers_in links)) (edits_of (answers_in links))

  over : (so_far : List Step) (last : ℕ) (parts : List PickedInputs) (l : GroupedAnswer) (links : List GroupedAnswer) → manifest_of v ≤ last → ((p : PickedInputs) → Contains parts p → ArePlaced v p) → ArePartLinks g first so_far cmp short_keys v s last parts (l ∷ links) → Over last (l ∷ links)
  over so_far last [] l links le placed chain = absurd chain
  over so_far last (p ∷ parts) l [] le placed chain =
      let link = chain.0 in
      let own = own_edit cmp short_keys v is (last + 1) link.compacted.loaded p s l.answer (omega (arith, le)) (placed p (first_in p parts)) link.pointer link.bytes link.compacted.answered in
      subst (λ (ts : List (ℕ × List ℕ)). IsEditOver v (last + 1) (next_last last l.answer) ts (edits_of (l.answer ∷ []))) (sym (append-nil l.answer.tables))
      (subst (IsEditOver v (last + 1) (next_last last l.answer) l.answer.tables) (sym (append-nil l.answer.edit)) own)
  over so_far last (p ∷ parts) l (k ∷ links) le placed chain =
      let link = chain.0 in
      let own = own_edit cmp short_keys v is (last + 1) link.compacted.loaded p s l.answer (omega (arith, le)) (placed p (first_in p parts)) link.pointer link.bytes link.compacted.answered in
      let rest = over (so_far ++ map Done (table_calls l.groups)) (next_last last l.answer) parts k links (omega (arith, le)) (λ q at. placed q (later_in p parts q at)) chain.1 in
      edits_two v (last + 1) (next_last last l.answer) (last_after (next_last last l.answer) (answers_in (k ∷ links))) l.answer.tables (tables_of (answers_in (k ∷ links))) l.answer.edit (edits_of (answers_in (k ∷ links))) own rest

  -- what holds of some links
  pub record AreOver (parts : List PickedInputs) (links : List GroupedAnswer) : Type 0 where
    pub all : Over (manifest_of v) links
    pub free : v.next_file ≡ Some (manifest_of v)
    pub joined : tables_of_groups (groups_in links) ≡ tables_of (answers_in links)

  joined : (so_far : List Step) (last : ℕ) (parts : List PickedInputs) (links : List GroupedAnswer) → ArePartLinks g first so_far cmp short_keys v s last parts links → tables_of_groups (groups_in links) ≡ tables_of (answers_in links)
  joined so_far last parts [] chain = refl
  joined so_far last [] (l ∷ links) chain = absurd chain
  joined so_far last (p ∷ parts) (l ∷ links) chain =
      flat_map-append _ l.groups (groups_in links) ∙ ap (λ (ts : List (ℕ × List ℕ)). ts ++ tables_of_groups (groups_in links)) chain.0.together
      ∙ ap (λ (ts : List (ℕ × List ℕ)). l.answer.tables ++ ts) (joined (so_far ++ map Done (table_calls l.groups)) (next_last last l.answer) parts links chain.1)

  pub are_over : (parts : List PickedInputs) (links : List GroupedAnswer) → links ≢ [] → ((p : PickedInputs) → Contains parts p → ArePlaced v p) → ArePartLinks g first [] cmp short_keys v s (manifest_of v) parts links → AreOver parts links
  are_over parts [] some placed chain = absurd (some refl)
  are_over [] (l ∷ links) some placed chain = absurd chain
  are_over (p ∷ parts) (l ∷ links) some placed chain =
      let link = chain.0 in
      record {
        all = over [] (manifest_of v) (p ∷ parts) l links (omega arith) placed chain;
        free = next_there cmp short_keys v is (manifest_of v + 1) link.compacted.loaded p s l.answer (omega arith) (placed p (first_in p parts)) link.pointer link.bytes link.compacted.answered;
        joined = joined [] (manifest_of v) (p ∷ parts) (l ∷ links) chain;
      }

-- ---- the version that it makes

module _ (cmp : List ℕ → List ℕ → Ordering) (v : State) (is : IsNumbered v) (last : ℕ) (tables : List (ℕ × List ℕ)) (front : List ℕ) (h : IsEditOver v (manifest_of v + 1) last tables front) where
  number_below : (f : NewFile) → Contains v.files f → f.meta.number < manifest_of v
  number_below f at = below_manifest v.next_file f.meta.number (All-contains (λ (x : NewFile). IsBelowNextFile v.next_file x.meta.number) v.files f is.below at)

  abbrev pub left : List NewFile
  left = undeleted_files h.edit.deleted v.files

  abbrev pub after : State
  after = record {
    log_number = option_or h.edit.log_number v.log_number;
    previous_log = option_or h.edit.previous_log v.previous_log;
    next_file = option_or h.edit.next_file v.next_file;
    last_sequence = option_or h.edit.last_sequence v.last_sequence;
    pointers = fold with_pointer v.pointers h.edit.pointers;
    files = fold with_file left h.edit.added;
  }

  new : are_new left h.edit.added ≡ true
  new =
      let none : list_any (λ (f : NewFile). has_number h.edit.added f.meta.number) left ≡ false =
      none_tests (λ (f : NewFile). has_number h.edit.added f.meta.number) left (λ f at.
      let lt = number_below f (from_filter (λ (x : NewFile). not (is_deleted h.edit.deleted x)) v.files f at).0 in
      no_number (manifest_of v + 1) f.meta.number h.edit.added h.rising (omega (arith, lt))) in
      and_both (are_apart h.edit.added) (not (list_any (λ (f : NewFile). has_number h.edit.added f.meta.number) left)) (apart_of (manifest_of v + 1) h.edit.added h.rising) (ap not none)

  pub files_are : files_after v.files h.edit.deleted h.edit.added ≡ Some after.files
  files_are = after_is v.files h.edit.deleted h.edit.added (all_tests (has_place v.files) h.edit.deleted h.places) new

  applies : applied v h.edit ≡ Some after
  applies = rw files_are refl

  pub edited_by : (bytes : List ℕ) → IsEdit bytes h.edit → v.next_file ≡ Some (manifest_of v) → IsEditedBy cmp v (manifest_of v) tables bytes after
  edited_by bytes read free = record {
    edit = h.edit;
    read = read;
    no_name = h.unnamed;
    log_number = h.log_set;
    previous_log = h.previous_set;
    last_sequence = h.last_set;
    edited = applies;
    added = h.added;
    least = manifest_of v;
    first_free = free;
    below = λ n at. let f : HasNumber v.files n = number_of v.files n (in_files cmp v n at) in let lt = number_below f.file f.there in let same = f.is in omega (arith, lt, same);
    above = λ n at.
        let f : HasNumber h.edit.added n = number_of h.edit.added n (subst (λ (ns : List ℕ). IsOneOf ns n) (sym h.added) at) in
        let le = at_least (manifest_of v + 1) h.edit.added h.rising f.file f.there in
        let same = f.is in
        omega (arith, le, same);
    manifest_above = omega arith;
    next_free = last;
    next_file = h.next_set;
    manifest_below = let le = h.higher in omega (arith, le);
  }

-- ---- the installation

-- whether it was done, or the refusal
abbrev pub done_of : {T : Type 0} → Result T Fault → Result (Unit {0}) Fault
done_of (Ok x) = Ok tt
done_of (Err e) = Err e

pub done_runs : {T : Type 0} (calls : List Call) (before after : List Step) (old new : List ℕ → Option (List ℕ) → Type 0) (r : Result T Fault) → MakesCalls calls before after old new r → MakesCalls calls before after old new (done_of r)
done_runs calls before after old new (Ok x) k = record { steps = k.steps; made = k.made; appended = k.appended; change = k.change }
done_runs calls before after old new (Err e) k = record { steps = k.steps; made = k.made; appended = k.appended; change = k.change }

module _ {F : Type 0} (g : Ghosts F) (v : NamedVersion) (groups : List (List (ℕ × List ℕ))) (tables : List (ℕ × List ℕ)) (same : tables_of_groups groups ≡ tables) (made : State)
    (edit : List ℕ) (makes : IsEditedBy (order_cmp v.order) v.version (manifest_of v.version) tables edit made) (old new : F) where
  abbrev pub next : NamedVersion
  next = record { order = v.order; version = made; manifest = manifest_of v.version }

  abbrev pub place : Place
  place = place_with v tables edit next

  written : {T : Type 0} (at : F) (r : Result T Fault) → MakesCalls (table_calls groups) (g.calls old) (g.calls at) (g.tells old) (g.tells at) r → IsPieceDone g (begun old v) (tables_link place groups at) (done_of r)
  written at r runs = record { goes = (record { order = refl; manifest = refl; makes = makes }, same, refl, refl, refl, refl); runs = done_runs (table_calls groups) (g.calls old) (g.calls at) (g.tells old) (g.tells at) r runs }

  -- some tables were written
  pub stopped : {T : Type 0} (r : Result T Fault) → OnOk r ⊥ → MakesCalls (table_calls groups) (g.calls old) (g.calls new) (g.tells old) (g.tells new) r → IsInstallation g place groups old new (done_of r)
  stopped (Ok x) none runs = absurd none
  stopped (Err e) none runs = inl (refl, (written new (Err e) runs, refl))

  -- all of them, and then the manifest
  pub installed : {T X : Type 0} (at : F) (x : X) (r : Result T Fault) → MakesCalls {E = Fault} (table_calls groups) (g.calls old) (g.calls at) (g.tells old) (g.tells at) (Ok x)
      → MakesCalls (naming_calls v edit) (g.calls at) (g.calls new) (g.tells at) (g.tells new) r → IsInstallation g place groups old new (done_of r)
  installed at x r one two = inr (
    at,
    (
      written at (Ok x) one,
      (
        record {
          goes = (makes.edit, makes.read, makes.read, makes.edited, (λ e. absurd (cc e)), refl);
          runs = done_runs (naming_calls v edit) (g.calls at) (g.calls new) (g.tells at) (g.tells new) r two;
        },
        refl,
      ),
    ),
  )
