-- Each piece of work: what it leaves, whatever part of its calls was made.
use Rattle.std.proofs.Common.{◌≡◌, ◌≢◌, ◌⊎◌, ◌<◌, ◌≤◌, ◌^◌, ◌+◌, ℕ, suc, List, [], ◌∷◌, ◌++◌, map, codes, unwrap_or, is_some, true, not, ◌&&◌, Option, Some, None, Result, Ok, Err, refl, sym, ap, subst, ◌∙◌, inl, inr, arith, length}
use Rattle.std.proofs.lemmas.Cmp.{nat_cmp_total, nat_list_cmp_total, on_total, then_total}
use Rattle.std.proofs.lemmas.List.{append-nil, map-append}
use Rattle.std.proofs.lemmas.Option.{same_Some}
use Rattle.std.proofs.lemmas.Bool.{eqb-true}
use Rattle.std.proofs.lemmas.List.Elements.{All-filter, All-head, All-tail}
use Rattle.std.proofs.lemmas.Map.Views.{All-insert_key}
use Rattle.std.specs.Ordering.{is_eq}
use Rattle.std.specs.declared.cmp.Ordering.TheVariants.{Equal}
use Rattle.edit.proofs.Tested.{is_eq-nat_cmp}
use Rattle.std.specs.Cmp.{IsTotalOrder}
use Rattle.std.specs.List.{All, AllByRecursion, fold, list_all}
use Rattle.std.specs.Option.{option_or}
use Rattle.std.specs.declared.cmp.Ordering.{Ordering}
use Rattle.edit.specs.Edit.{Edit, IsEdit, empty_edit, with_field}
use Rattle.edit.specs.Field.{AddFile, DeleteFile, Field, IsField, SetComparator, SetLastSequence, SetLogNumber, SetNextFile, SetPointer, SetPreviousLog}
use Rattle.edit.specs.Version.{State, are_new, files_after, has_place, is_deleted, number_cmp, undeleted_files, with_file}
use Rattle.edit.proofs.Edits.{one_edit}
use Rattle.edit.proofs.Remade.{remade}
use Rattle.edit.specs.declared.meta.NewFile.{NewFile}
use Rattle.folder.specs.Calls.{AreTorn, Call, Created, Done, Files, FolderSynced, FolderView, Removed, Renamed, Shows, Step, Synced, Tells, Tried, Written, with_contents, with_moved, with_renamed, with_written}
use Rattle.folder.specs.CallSequence.{AreMade, MakesCalls}
use Rattle.folder.specs.Crash.{IsDurable, Leads, World}
use Rattle.folder.specs.FreeNames.{IsFree}
use Rattle.folder.specs.Levels.{file_numbers}
use Rattle.folder.specs.Manifest.{order_name}
use Rattle.folder.specs.Names.{current_text, manifest_name, old_table_name, table_name, temporary_name}
use Rattle.folder.specs.Orders.{order_cmp}
use Rattle.folder.specs.ReadsAs.{Current, IsOneOf, ReadsAs, StandsAs, StandsBy}
use Rattle.folder.specs.declared.order.Order.{Order}
use Rattle.folder.specs.declared.order.Order.TheVariants.{Bytewise, Shortlex}
use Rattle.folder.proofs.CrashLemmas.{is_completed, left_reads, stands_folder_synced, stands_still}
use Rattle.folder.proofs.NameEnds.{ends_apart, low_apart, manifest_end, old_table_end, table_end}
use Rattle.folder.proofs.NameLemmas.{table_alike, texts_alike}
use Rattle.folder.proofs.PutLemmas.{moved_to, put_other}
use Rattle.folder.proofs.ReadsLemmas.{opened_parts}
use Rattle.folder.proofs.WrittenLemmas.{AllOther, AllWritten, IsShort, file_passed, leads_first, leads_none, short_none, short_tried, written_still}
use Rattle.install.specs.Install as install
use Rattle.install.specs.Install.{numbers_of, table_bytes_of, table_calls, write_calls}
use Rattle.install.specs.GroupedInstallation.{tables_of_groups}
use Rattle.install.specs.Naming.{IsNamedEdit, manifest_of, named_bytes, naming_calls, tables_of}
use Rattle.install.specs.ObsoleteFile.{IsObsoleteFile}
use Rattle.install.specs.ReadsOf.{NamedVersion, Reads, numbers_in}
use Rattle.install.specs.Removal.{removal_calls}
use Rattle.install.specs.Work.{Cleared, Goes, Installed, Made, Piece, Place, Wrote, calls_of, place_at, tables_then}
use Rattle.install.specs.declared.file_kind.FileKind.{FileKind}
use Rattle.install.specs.declared.file_kind.FileKind.TheVariants.{Manifest, OldTable, Table, Temporary}
use Rattle.install.proofs.Current.{AllLeaveCurrent, LeavesCurrent, groups_leave, manifest_leaves, shows_current}
use Rattle.install.proofs.Edited.{AreDistinct, apart_of, complete_below, distinct, output_small, outputs_apart, setting_of, some_or}
use Rattle.install.proofs.JoinedBytes.{edits_join}
use Rattle.install.specs.JoinedEdits.{joined_edit}
use Rattle.install.proofs.Moments.{Apart, leads_split, made_by}
use Rattle.install.proofs.NamedReads.{StandsNamed, left_of}
use Rattle.install.proofs.Numbers.{among_append, in_version, to_order, some_value as value_of}
use Rattle.install.proofs.Sound.{IsFile, IsSound, all_of, lawful_edit}
use Rattle.install.proofs.Options.{made, option_parts}
use Rattle.install.proofs.Outputs.{AreApart, filed, filed_joined, tables_passed}
use Rattle.install.proofs.Stays.{AllSpare, stays_as}
use Rattle.install.proofs.Switch.{CURRENT, Setting, ends, last_calls, manifest_no_current, table_no_current, temporary_no_current}
use Rattle.install.proofs.Unused.{HasSmallNumbers}

-- ---- where work is

-- The tables since have numbers between next file of the version that CURRENT names and that of the
-- version that they would make.
pub record IsPending (p : Place) (m : ℕ) : Type 0 where
  pub least : ℕ
  pub first_free : p.now.version.next_file ≡ Some least
  pub below : (n : ℕ) → IsOneOf (numbers_in p.now) n → n < least
  pub rises : least ≤ m
  pub above : (n : ℕ) → IsOneOf (numbers_of p.tables) n → least ≤ n
  pub under : (n : ℕ) → IsOneOf (numbers_of p.tables) n → n < m
  pub tiny : (n : ℕ) → IsOneOf (numbers_of p.tables) n → n < 2 ^ 64

-- The same after an outcome: each is below next file of the version that they would make, or one of its files.
pub record IsLoose (p : Place) (free : ℕ) : Type 0 where
  pub least : ℕ
  pub first_free : p.now.version.next_file ≡ Some least
  pub below : (n : ℕ) → IsOneOf (numbers_in p.now) n → n < least
  pub rises : least < free
  pub above : (n : ℕ) → IsOneOf (numbers_of p.tables) n → least ≤ n
  pub within : (n : ℕ) → IsOneOf (numbers_of p.tables) n → (n < free) ⊎ IsOneOf (numbers_in p.next) n
  pub tiny : (n : ℕ) → IsOneOf (numbers_of p.tables) n → n < 2 ^ 64

-- their edits as one
pub record HasJoint (p : Place) (free : ℕ) : Type 0 where
  pub joint : Edit
  pub read : IsEdit p.edits joint
  pub no_name : joint.comparator ≡ None
  pub log_number : is_some joint.log_number ≡ true
  pub previous_log : is_some joint.previous_log ≡ true
  pub last_sequence : is_some joint.last_sequence ≡ true
  pub added : map (λ (f : NewFile). f.meta.number) joint.added ≡ numbers_of p.tables
  pub next_file : joint.next_file ≡ Some free

pub record IsPendingTo (p : Place) : Type 0 where
  pub count : ℕ
  pub counted : p.count ≡ suc count
  pub free : ℕ
  pub next_free : p.next.version.next_file ≡ Some free
  pub pending : IsLoose p free
  pub joint : HasJoint p free

abbrev pub IsLow : NewFile → Type 0
IsLow f = f.level ≤ 6

pub record IsPlace (p : Place) : Type 0 where
  pub order : p.next.order ≡ p.now.order
  pub low : All IsLow p.next.version.files
  pub state : (p ≡ place_at p.now) ⊎ IsPendingTo p

pub place_begun : (v : NamedVersion) → All IsLow v.version.files → IsPlace (place_at v)
place_begun v low = record { order = refl; low = low; state = inl refl }

-- Work is at this place in this world: the folder stands for the version that CURRENT names, and the
-- tables of the outcomes since are written.
pub record Held (p : Place) (tables : List (ℕ × List ℕ)) (w : World) : Type 0 where
  pub place : IsPlace p
  pub stands : StandsNamed p.now tables w
  pub written : AllWritten (filed p.tables []) w

pub left_held : (p : Place) (tables : List (ℕ × List ℕ)) (w : World) → Held p tables w → Reads p.now tables w.left
left_held p tables w h = left_of p.now tables w h.stands

-- no outcome is pending
pub none_pending : (p : Place) → IsPlace p → p.count ≡ 0 → p ≡ place_at p.now
none_pending p h none' = elim h.state [
  | inl is ↦ is
  | inr k ↦ absurd (cc (k.counted, none'))
]

-- the numbers before one more outcome
pending_before : (p : Place) (outputs : List (ℕ × List ℕ)) (bytes : List ℕ) (next : NamedVersion) → IsPlace p → (h : IsNamedEdit p.next outputs bytes next) → IsPending p h.makes.least
pending_before p outputs bytes next place h = elim place.state [
  | inl is ↦
      let same : p.next ≡ p.now = ap (λ (x : Place). x.next) is in
      let none' : p.tables ≡ [] = ap (λ (x : Place). x.tables) is in
      record {
        least = h.makes.least;
        first_free = subst (λ (v : NamedVersion). v.version.next_file ≡ Some h.makes.least) same h.makes.first_free;
        below = subst (λ (v : NamedVersion). (n : ℕ) → IsOneOf (numbers_in v) n → n < h.makes.least) same h.makes.below;
        rises = omega arith;
        above = λ n m. absurd (subst (λ (t : List (ℕ × List ℕ)). IsOneOf (numbers_of t) n) none' m);
        under = λ n m. absurd (subst (λ (t : List (ℕ × List ℕ)). IsOneOf (numbers_of t) n) none' m);
        tiny = λ n m. absurd (subst (λ (t : List (ℕ × List ℕ)). IsOneOf (numbers_of t) n) none' m);
      }
  | inr k ↦
      let same : k.free ≡ h.makes.least = same_Some _ _ (sym k.next_free ∙ h.makes.first_free) in
      record {
        least = k.pending.least;
        first_free = k.pending.first_free;
        below = k.pending.below;
        rises = let r = k.pending.rises in omega (arith, r, same);
        above = k.pending.above;
        under = λ n m. elim (k.pending.within n m) [ inl less ↦ omega (arith, less, same) | inr there ↦ h.makes.below n there ];
        tiny = k.pending.tiny;
      }
]

-- ---- numbers of 64 bits

abbrev SmallNext : Edit → Type 0
SmallNext e = (n : ℕ) → e.next_file ≡ Some n → n < 2 ^ 64

next_field : (e : Edit) (field : Field) → IsField field → SmallNext e → SmallNext (with_field e field)
next_field e (SetComparator name) is h = h
next_field e (SetLogNumber number) is h = h
next_field e (SetPreviousLog number) is h = h
next_field e (SetNextFile number) is h = λ n same. subst (λ (k : ℕ). k < 2 ^ 64) (same_Some _ _ same) is
next_field e (SetLastSequence number) is h = h
next_field e (SetPointer pointer) is h = h
next_field e (DeleteFile file) is h = h
next_field e (AddFile file) is h = h

next_fields : (fields : List Field) (e : Edit) → AllByRecursion IsField fields → SmallNext e → SmallNext (fold with_field e fields)
next_fields [] e are h = h
next_fields (f ∷ fields) e are h = next_fields fields (with_field e f) are.1 (next_field e f are.0 h)

small_next : (bytes : List ℕ) (e : Edit) → IsEdit bytes e → SmallNext e
small_next bytes e h = subst SmallNext h.sets (next_fields h.fields empty_edit h.lawful (λ n same. absurd (cc same)))

-- ---- the number of the manifest

module _ (v : NamedVersion) (outputs : List (ℕ × List ℕ)) (bytes : List ℕ) (next : NamedVersion) (h : IsNamedEdit v outputs bytes next) where
  number_is : manifest_of v.version ≡ h.makes.least
  number_is = ap (λ (o : Option ℕ). unwrap_or o 0) h.makes.first_free

  pub number_small : manifest_of v.version < 2 ^ 64
  number_small = let s = small_next bytes h.makes.edit h.makes.read h.makes.next_free h.makes.next_file in let b = h.makes.manifest_below in omega (arith, s, b)

-- ---- CURRENT stays

torn_current : (files : List (List ℕ × List ℕ)) (s next : FolderView) → AllOther CURRENT files → AreTorn files s next → next.files CURRENT ≡ s.files CURRENT
torn_current [] s next h is = ap (λ (v : FolderView). v.files CURRENT) is
torn_current (file ∷ files) s next h is = torn_current files (with_contents s file.0 is.0) next h.1 is.1 ∙ put_other s.files file.0 is.0 CURRENT (λ e. h.0 (sym e))

tried_current : (call : Call) (s next : FolderView) → LeavesCurrent call → Shows (Tried call) s next → next.files CURRENT ≡ s.files CURRENT
tried_current (Created name bytes) s next h is = ap (λ (v : FolderView). v.files CURRENT) is.1 ∙ put_other s.files name is.0 CURRENT (λ e. h (sym e))
tried_current (Written files) s next h is = torn_current files s next h is
tried_current (Synced name) s next h is = ap (λ (v : FolderView). v.files CURRENT) is
tried_current (Renamed from to) s next h is = absurd h
tried_current (Removed name) s next h is = absurd h
tried_current FolderSynced s next h is = ap (λ (v : FolderView). v.files CURRENT) is

pub current_kept : (calls : List Call) (steps : List Step) (start w : World) → AllLeaveCurrent calls → AreMade calls steps → Leads start steps w → w.shown.files CURRENT ≡ start.shown.files CURRENT
current_kept [] steps start w leave made l = ap (λ (x : World). x.shown.files CURRENT) (leads_none start w steps made l)
current_kept (call ∷ calls) steps start w leave (inl none') l = ap (λ (x : World). x.shown.files CURRENT) (leads_none start w steps none' l)
current_kept (call ∷ calls) steps start w leave (inr (inl one)) l =
    let l' = leads_first start w steps [] (Tried call) one l in
    ap (λ (x : World). x.shown.files CURRENT) l'.2 ∙ tried_current call start.shown l'.0.shown leave.0 l'.1.0
current_kept (call ∷ calls) steps start w leave (inr (inr more)) l =
    let l' = leads_first start w steps more.0 (Done call) more.1 l in
    current_kept calls more.0 l'.0 w leave.1 more.2 l'.2 ∙ shows_current call start.shown l'.0.shown leave.0 l'.1.0

-- ---- the tables of an outcome

-- the name of a table that has a new number
free_table : (v : NamedVersion) (least n : ℕ) → ((k : ℕ) → IsOneOf (numbers_in v) k → k < least) → least ≤ n → n < 2 ^ 64 → IsFree (order_cmp v.order) v.version (table_name n)
free_table v least n below over tiny = record {
  current = table_no_current n;
  manifest = λ k s c. low_apart (table_name n) (manifest_name k) 98 (table_end n) (manifest_end k s) (omega arith);
  table = λ k was same. let b = below k was in let e : n ≡ k = table_alike n k tiny (omega (arith, b, over, tiny)) same in absurd (omega (arith, e, b, over));
  old_table = λ k was. ends_apart (table_name n) (old_table_name k) 98 116 (table_end n) (old_table_end k) (λ e. omega (arith, e));
}

-- it is none of these tables'
other_tables : (tables : List (ℕ × List ℕ)) (done : List (List ℕ × List ℕ)) (n : ℕ) → n < 2 ^ 64 → ((k : ℕ) → IsOneOf (numbers_of tables) k → (k < n)) → AllOther (table_name n) done → AllOther (table_name n) (filed tables done)
other_tables [] done n tiny h other = other
other_tables (t ∷ tables) done n tiny h other =
    other_tables tables ((table_name t.0, t.1) ∷ done) n tiny (λ k m. h k (inr m))
    ((λ same. let b = h t.0 (inl refl) in let e : t.0 ≡ n = table_alike t.0 n (omega (arith, b, tiny)) tiny same in absurd (omega (arith, e, b))), other)

files_low : (files added : List NewFile) → All IsLow files → All IsLow added → All IsLow (fold with_file files added)
files_low files [] h k = h
files_low files (f ∷ added) h k = files_low (with_file files f) added (All-insert_key number_cmp f IsLow files h (All-head IsLow f added k)) (All-tail IsLow f added k)

number_tied : (a b : NewFile) → number_cmp a b ≡ Equal → a.meta.number ≡ b.meta.number
number_tied a b e = eqb-true a.meta.number b.meta.number (sym (is_eq-nat_cmp a.meta.number b.meta.number) ∙ ap is_eq e)

module _ (p q : Place) (a : Made) (groups : List (List (ℕ × List ℕ))) (goes : Goes p (Wrote a groups) q) (place : IsPlace p) where
  edited : IsNamedEdit p.next a.tables a.edit q.next
  edited = goes.0

  pending : IsPending p edited.makes.least
  pending = pending_before p a.tables a.edit q.next place edited

  tiny : (n : ℕ) → IsOneOf (numbers_of a.tables) n → n < 2 ^ 64
  tiny = output_small (order_cmp p.next.order) p.next.order p.next.version q.next.version (manifest_of p.next.version) a.tables a.edit edited.makes (number_small p.next a.tables a.edit q.next edited)

  apart : AreApart (order_cmp p.now.order) p.now.version a.tables (filed p.tables [])
  apart = outputs_apart (order_cmp p.now.order) p.now.version a.tables (filed p.tables [])
      (λ n m.
      let over = edited.makes.above n m in
      let rise = pending.rises in
      (free_table p.now pending.least n pending.below (omega (arith, over, rise)) (tiny n m), tiny n m, other_tables p.tables [] n (tiny n m) (λ k i. let u = pending.under k i in omega (arith, u, over)) tt))
      (distinct (order_cmp p.next.order) p.next.order p.next.version q.next.version (manifest_of p.next.version) a.tables a.edit edited.makes (number_small p.next a.tables a.edit q.next edited))

  in_joined : (n : ℕ) → IsOneOf (numbers_of q.tables) n → IsOneOf (numbers_of p.tables) n ⊎ IsOneOf (numbers_of a.tables) n
  in_joined n m =
      let joined : numbers_of q.tables ≡ numbers_of p.tables ++ numbers_of a.tables = ap numbers_of goes.3 ∙ map-append (λ (t : ℕ × List ℕ). t.0) p.tables a.tables in
      among_append (numbers_of p.tables) (numbers_of a.tables) n (subst (λ (ns : List ℕ). IsOneOf ns n) joined m)

  abbrev left : List NewFile
  left = undeleted_files edited.makes.edit.deleted p.next.version.files

  next_files : fold with_file left edited.makes.edit.added ≡ q.next.version.files
  next_files =
      let parts = option_parts (made p.next.version edited.makes.edit) (files_after p.next.version.files edited.makes.edit.deleted edited.makes.edit.added) q.next.version edited.makes.edited in
      value_of (list_all (has_place p.next.version.files) edited.makes.edit.deleted && are_new left edited.makes.edit.added) (fold with_file left edited.makes.edit.added) parts.0 parts.1 ∙ ap (λ (s : State). s.files) parts.2

  next_low : All IsLow q.next.version.files
  next_low = subst (All IsLow) next_files (files_low left edited.makes.edit.added (All-filter (λ (f : NewFile). not (is_deleted edited.makes.edit.deleted f)) IsLow p.next.version.files place.low) (all_of IsFile IsLow (λ f is. is.0) edited.makes.edit.added (lawful_edit a.edit edited.makes.edit edited.makes.read).added))

  -- each output is one of the next version's files
  output_there : (n : ℕ) → IsOneOf (numbers_of a.tables) n → IsOneOf (numbers_in q.next) n
  output_there n i =
      let added : IsOneOf (map (λ (f : NewFile). f.meta.number) edited.makes.edit.added) n = subst (λ (ns : List ℕ). IsOneOf ns n) (sym edited.makes.added) i in
      let there : IsOneOf (map (λ (f : NewFile). f.meta.number) (fold with_file left edited.makes.edit.added)) n = to_order (λ (f : NewFile). f.meta.number) number_cmp number_tied left edited.makes.edit.added n (inr added) in
      in_version (order_cmp q.next.order) q.next.version n next_low (subst (λ (fs : List NewFile). IsOneOf (map (λ (f : NewFile). f.meta.number) fs) n) next_files there)

  joint_now : HasJoint q edited.makes.next_free
  joint_now = elim place.state [
    | inl is ↦
        let edits : q.edits ≡ a.edit = goes.4 ∙ ap (λ (x : Place). x.edits ++ a.edit) is in
        let tables : q.tables ≡ a.tables = goes.3 ∙ ap (λ (x : Place). x.tables ++ a.tables) is in
        record {
          joint = edited.makes.edit;
          read = subst (λ (b : List ℕ). IsEdit b edited.makes.edit) (sym edits) edited.makes.read;
          no_name = edited.makes.no_name;
          log_number = edited.makes.log_number;
          previous_log = edited.makes.previous_log;
          last_sequence = edited.makes.last_sequence;
          added = edited.makes.added ∙ sym (ap numbers_of tables);
          next_file = edited.makes.next_file;
        }
    | inr k ↦
        let j = k.joint in
        record {
          joint = joined_edit j.joint edited.makes.edit;
          read = subst (λ (b : List ℕ). IsEdit b (joined_edit j.joint edited.makes.edit)) (sym goes.4) (edits_join p.edits a.edit j.joint edited.makes.edit j.read edited.makes.read);
          no_name = ap (λ (o : Option (List ℕ)). option_or o j.joint.comparator) edited.makes.no_name ∙ j.no_name;
          log_number = some_or edited.makes.edit.log_number j.joint.log_number edited.makes.log_number;
          previous_log = some_or edited.makes.edit.previous_log j.joint.previous_log edited.makes.previous_log;
          last_sequence = some_or edited.makes.edit.last_sequence j.joint.last_sequence edited.makes.last_sequence;
          added = map-append (λ (f : NewFile). f.meta.number) j.joint.added edited.makes.edit.added
              ∙ (ap (λ (ns : List ℕ). ns ++ map (λ (f : NewFile). f.meta.number) edited.makes.edit.added) j.added ∙ (ap (λ (ns : List ℕ). numbers_of p.tables ++ ns) edited.makes.added
              ∙ (sym (map-append (λ (t : ℕ × List ℕ). t.0) p.tables a.tables) ∙ sym (ap numbers_of goes.3))));
          next_file = ap (λ (o : Option ℕ). option_or o j.joint.next_file) edited.makes.next_file;
        }
  ]

  -- one more outcome is pending
  pub wrote_place : IsPlace q
  wrote_place =
      let same : p.now ≡ q.now = sym goes.2 in
      let parts = option_parts (made p.next.version edited.makes.edit) (files_after p.next.version.files edited.makes.edit.deleted edited.makes.edit.added) q.next.version edited.makes.edited in
      let rise = pending.rises in
      let below = edited.makes.manifest_below in
      let number = number_is p.next a.tables a.edit q.next edited in
      record {
        order = edited.order ∙ (place.order ∙ ap (λ (v : NamedVersion). v.order) same);
        low = next_low;
        state = inr (record {
          count = p.count;
          counted = goes.5 ∙ omega arith;
          free = edited.makes.next_free;
          next_free = sym (ap (λ (s : State). s.next_file) parts.2) ∙ ap (λ (o : Option ℕ). option_or o p.next.version.next_file) edited.makes.next_file;
          pending = record {
            least = pending.least;
            first_free = subst (λ (v : NamedVersion). v.version.next_file ≡ Some pending.least) same pending.first_free;
            below = subst (λ (v : NamedVersion). (n : ℕ) → IsOneOf (numbers_in v) n → n < pending.least) same pending.below;
            rises = omega (arith, rise, below, number);
            above = λ n m. elim (in_joined n m) [ inl i ↦ pending.above n i | inr i ↦ let over = edited.makes.above n i in omega (arith, over, rise) ];
            within = λ n m. elim (in_joined n m) [ inl i ↦ inl (let u = pending.under n i in omega (arith, u, below, number)) | inr i ↦ inr (output_there n i) ];
            tiny = λ n m. elim (in_joined n m) [ inl i ↦ pending.tiny n i | inr i ↦ tiny n i ];
          };
          joint = joint_now;
        });
      }

  -- Whatever part of the calls was made, the folder stands for the same version, and in the end the tables are written.
  pub wrote : (tables : List (ℕ × List ℕ)) (start w : World) (steps : List Step) → Held p tables start → AreMade (table_calls groups) steps → Leads start steps w → StandsNamed p.now tables w × (steps ≡ map Done (table_calls groups) → Held q tables w)
  wrote tables start w steps h made l =
      let cmp = order_cmp p.now.order in
      let order = p.now.order in
      let v = p.now.version in
      let same : map Done (table_calls groups ++ []) ≡ map Done (table_calls groups) = ap (λ (c : List Call). map Done c) (append-nil (table_calls groups)) in
      let all : AreMade (table_calls groups ++ []) steps = subst (λ (c : List Call). AreMade c steps) (sym (append-nil (table_calls groups))) made in
      let apart' : AreApart cmp v (tables_of_groups groups) (filed p.tables []) = subst (λ (t : List (ℕ × List ℕ)). AreApart cmp v t (filed p.tables [])) (sym goes.1) apart in
      let named : w.shown.files CURRENT ≡ Some (current_text p.now.manifest) = current_kept (table_calls groups) steps start w (groups_leave groups) made l ∙ h.stands.named in
      let stays : StandsAs cmp order v tables w → StandsNamed p.now tables w = λ s. record { stands = s; named = named } in
      elim (tables_passed cmp order v tables groups (filed p.tables []) [] steps start w h.stands.stands apart' h.written all l) [
        | inl still ↦ (stays still.0, λ done. absurd (still.1 (done ∙ sym same)))
        | inr passed ↦
            let is : w ≡ passed.world = leads_none passed.world w passed.more passed.made passed.leads in
            let stands : StandsAs cmp order v tables w = subst (StandsAs cmp order v tables) (sym is) passed.stands in
            let written : AllWritten (filed (tables_of_groups groups) (filed p.tables [])) w = subst (AllWritten (filed (tables_of_groups groups) (filed p.tables []))) (sym is) passed.written in
            let joined : filed (tables_of_groups groups) (filed p.tables []) ≡ filed q.tables [] =
            sym (filed_joined p.tables (tables_of_groups groups) []) ∙ ap (λ (t : List (ℕ × List ℕ)). filed (p.tables ++ t) []) goes.1 ∙ sym (ap (λ (t : List (ℕ × List ℕ)). filed t []) goes.3) in (
              stays stands,
              λ done. record {
                place = wrote_place;
                stands = subst (λ (x : NamedVersion). StandsNamed x tables w) (sym goes.2) (record { stands = stands; named = named });
                written = subst (λ (f : List (List ℕ × List ℕ)). AllWritten f w) joined written;
              },
            )
      ]

-- ---- files are removed

abbrev IsObsoleteOf : NamedVersion → List ℕ → Type 0
IsObsoleteOf v name = IsObsoleteFile (order_cmp v.order) v.version v.manifest name

module _ (v : NamedVersion) (tables : List (ℕ × List ℕ)) (has : HasSmallNumbers (order_cmp v.order) v.version v.manifest) where
  abbrev Spared : List Call → Type 0
  Spared calls = AllSpare (order_cmp v.order) v.order v.version v.manifest tables has calls

  removals_spared : (names : List (List ℕ)) → All (IsObsoleteOf v) names → Spared (map Removed names ++ FolderSynced ∷ [])
  removals_spared [] h = (tt, tt)
  removals_spared (name ∷ names) h = (All-head (IsObsoleteOf v) name names h, removals_spared names (All-tail (IsObsoleteOf v) name names h))

  spared : (names : List (List ℕ)) → All (IsObsoleteOf v) names → Spared (removal_calls names)
  spared [] h = tt
  spared (name ∷ names) h = removals_spared (name ∷ names) h

  -- whatever part of the calls was made
  pub cleared : (names : List (List ℕ)) (start w : World) (steps : List Step) → All (IsObsoleteOf v) names → StandsNamed v tables start → AreMade (removal_calls names) steps → Leads start steps w → StandsNamed v tables w
  cleared names start w steps all h made leads =
      let nothing : List ℕ → Option (List ℕ) → Type 0 = λ name held. ⊥ in
      let runs : MakesCalls {T = Unit {0}} {E = Unit {0}} (removal_calls names) [] steps nothing nothing (Err tt) = record { steps = steps; made = made; appended = refl; change = λ s tells. absurd ((tells [] (s.files [])).1 refl) } in
      let stays = stays_as (order_cmp v.order) v.order v.version v.manifest tables has (removal_calls names) [] steps nothing nothing (Err tt) (spared names all) runs in
      stays.stands start (λ x l. subst (StandsNamed v tables) (sym l) h) w leads

-- ---- a version is named

pub order_total : (order : Order) → IsTotalOrder (order_cmp order)
order_total Bytewise = nat_list_cmp_total
order_total Shortlex = then_total (on_total length nat_cmp_total) nat_list_cmp_total

-- some of two rows of calls is some of the first, or all of them and some of the second
pub made_split : (one two : List Call) (steps : List Step) → AreMade (one ++ two) steps → AreMade one steps ⊎ ((more : List Step) × (steps ≡ map Done one ++ more) × AreMade two more)
made_split [] two steps h = inr (steps, refl, h)
made_split (call ∷ one) two steps (inl none') = inl (inl none')
made_split (call ∷ one) two steps (inr (inl tried)) = inl (inr (inl tried))
made_split (call ∷ one) two steps (inr (inr more)) = elim (made_split one two more.0 more.2) [
  | inl a ↦ inl (inr (inr (more.0, more.1, a)))
  | inr b ↦ inr (b.0, more.1 ∙ ap (λ (s : List Step). Done call ∷ s) b.1, b.2)
]

all_made : (calls : List Call) → AreMade calls (map Done calls)
all_made calls = made_by {T = Unit {0}} {E = Unit {0}} calls (map Done calls) (Ok tt) refl

-- the edits as one make the next version
pub joint_edit : (p q : Place) (bytes : List ℕ) → Goes p (Installed bytes) q → IsPlace p → IsNamedEdit p.now p.tables bytes q.now
joint_edit p q bytes goes place = elim place.state [
  | inl is ↦ absurd (goes.4 (ap (λ (x : Place). x.count) is))
  | inr k ↦
      let j = k.joint in
      let e = goes.0 in
      let same : j.joint ≡ e = one_edit p.edits j.joint e j.read goes.1 in
      let number : manifest_of p.now.version ≡ k.pending.least = ap (λ (o : Option ℕ). unwrap_or o 0) k.pending.first_free in
      let rises = k.pending.rises in
      subst (λ (x : NamedVersion). IsNamedEdit p.now p.tables bytes x) (sym (ap (λ (x : Place). x.now) goes.5)) (record {
        order = refl;
        manifest = refl;
        makes = record {
          edit = e;
          read = goes.2;
          no_name = subst (λ (x : Edit). x.comparator ≡ None) same j.no_name;
          log_number = subst (λ (x : Edit). is_some x.log_number ≡ true) same j.log_number;
          previous_log = subst (λ (x : Edit). is_some x.previous_log ≡ true) same j.previous_log;
          last_sequence = subst (λ (x : Edit). is_some x.last_sequence ≡ true) same j.last_sequence;
          edited = goes.3;
          added = subst (λ (x : Edit). map (λ (f : NewFile). f.meta.number) x.added ≡ numbers_of p.tables) same j.added;
          least = k.pending.least;
          first_free = k.pending.first_free;
          below = k.pending.below;
          above = k.pending.above;
          next_free = k.free;
          next_file = subst (λ (x : Edit). x.next_file ≡ Some k.free) same j.next_file;
          manifest_above = omega (arith, number);
          manifest_below = omega (arith, number, rises);
        };
      })
]

pub named_low : (p q : Place) (bytes : List ℕ) → Goes p (Installed bytes) q → IsPlace p → All IsLow q.now.version.files
named_low p q bytes goes place = subst (λ (x : Place). All IsLow x.now.version.files) (sym goes.5) place.low

pub placed : (p q : Place) (bytes : List ℕ) → Goes p (Installed bytes) q → q ≡ place_at q.now
placed p q bytes goes = subst (λ (x : NamedVersion). q ≡ place_at x) (sym (ap (λ (x : Place). x.now) goes.5)) goes.5

module _ (p q : Place) (bytes : List ℕ) (edit : IsNamedEdit p.now p.tables bytes q.now) (is_placed : q ≡ place_at q.now) (next_low : All IsLow q.now.version.files) (sound : IsSound p.now) (tables : List (ℕ × List ℕ)) where
  abbrev cmp : List ℕ → List ℕ → Ordering
  cmp = order_cmp p.now.order

  abbrev order : Order
  order = p.now.order

  abbrev v : State
  v = p.now.version

  abbrev next : State
  next = q.now.version

  abbrev N : ℕ
  N = manifest_of p.now.version

  abbrev m : List ℕ
  m = named_bytes p.now bytes

  abbrev t : List ℕ
  t = temporary_name N

  abbrev after : List (ℕ × List ℕ)
  after = install.next_version_tables cmp next p.tables tables

  abbrev then' : List (ℕ × List ℕ)
  then' = tables_of q.now (p.tables ++ tables)

  by : install.IsEditedBy cmp v N p.tables bytes next
  by = edit.makes

  small : N < 2 ^ 64
  small = number_small p.now p.tables bytes q.now edit

  apart' : Apart cmp v p.tables N m
  apart' = apart_of cmp order v next N p.tables bytes by small m

  setting : Setting cmp order v next tables p.tables N m
  setting = setting_of cmp order v next N p.tables bytes by small tables sound.state (remade (order_total order) (order_name order) v sound.state) sound.again

  abbrev StandsNow : World → Type 0
  StandsNow w = StandsAs cmp order v tables w

  abbrev files' : List (List ℕ × List ℕ)
  files' = (t, current_text N) ∷ ((manifest_name N, m) ∷ filed p.tables [])

  abbrev OneLeft : World → Type 0
  OneLeft w = Reads p.now tables w.left ⊎ Reads q.now then' w.left

  -- files that read as the version before don't name the new manifest
  no_new : (files : Files) → ReadsAs cmp order v tables files → files CURRENT ≡ Some (current_text N) → ⊥
  no_new files h is =
      let o = opened_parts files order v h.opened in
      let same : N ≡ o.number = texts_alike N o.number small o.small (same_Some _ _ (sym is ∙ o.current)) in
      let c = complete_below v o.number by.least by.first_free (is_completed o.number o.bytes order v o.answer) in
      let a = by.manifest_above in
      omega (arith, same, c, a)

  next_named : (files : Files) → files CURRENT ≡ Some (current_text N) → files CURRENT ≡ Some (current_text q.now.manifest)
  next_named files is = is ∙ ap (λ (n : ℕ). Some (current_text n)) (sym edit.manifest)

  abbrev tables_by : Order → List (ℕ × List ℕ)
  tables_by o = map (λ (n : ℕ). (n, table_bytes_of (p.tables ++ tables) n)) (file_numbers (order_cmp o) next)

  next_reads : (files : Files) → ReadsAs cmp order next after files → files CURRENT ≡ Some (current_text N) → Reads q.now then' files
  next_reads files h is = record { reads = subst (λ (o : Order). ReadsAs (order_cmp o) o next (tables_by o) files) (sym edit.order) h; named = next_named files is }

  next_stands : (w : World) → StandsAs cmp order next after w → w.shown.files CURRENT ≡ Some (current_text N) → StandsNamed q.now then' w
  next_stands w h is = record { stands = subst (λ (o : Order). StandsAs (order_cmp o) o next (tables_by o) w) (sym edit.order) h; named = next_named w.shown.files is }

  -- what a crash leaves of the files, or of those with the name moved
  after_moved : (w1 last : World) → Reads p.now tables w1.left → w1.left t ≡ Some (current_text N) → install.IsBeforeOrAfter cmp order v tables next after last.left
      → (last.left ≡ w1.left) ⊎ (last.left ≡ with_moved None w1.left t CURRENT) → OneLeft last
  after_moved w1 last r temp leaves (inl same) = inl (subst (Reads p.now tables) (sym same) r)
  after_moved w1 last r temp leaves (inr moved) =
      let current : last.left CURRENT ≡ Some (current_text N) = ap (λ (f : Files). f CURRENT) moved ∙ (moved_to None w1.left t CURRENT ∙ temp) in
      elim leaves [
        | inl before ↦ absurd (no_new last.left before current)
        | inr then ↦ inr (next_reads last.left then current)
      ]

  left_is : (a b : World) → b ≡ a → b.left ≡ a.left
  left_is a b is = ap (λ (x : World). x.left) is

  -- the name was moved
  synced_last : (w1 w2 last : World) (steps : List Step) → Reads p.now tables w1.left → w1.left t ≡ Some (current_text N) → install.IsBeforeOrAfter cmp order v tables next after last.left → (w2.left ≡ w1.left) ⊎ (w2.left ≡ with_moved None w1.left t CURRENT)
      → (steps ≡ Done FolderSynced ∷ [] → Reads q.now then' last.left) → AreMade (FolderSynced ∷ []) steps → Leads w2 steps last → OneLeft last
  synced_last w1 w2 last steps r temp leaves was fin (inl none') l =
      let is = left_is w2 last (leads_none w2 last steps none' l) in
      after_moved w1 last r temp leaves (elim was [ inl a ↦ inl (is ∙ a) | inr b ↦ inr (is ∙ b) ])
  synced_last w1 w2 last steps r temp leaves was fin (inr (inl one)) l =
      let l' = leads_first w2 last steps [] _ one l in
      let is = left_is l'.0 last l'.2 ∙ l'.1.1 in
      after_moved w1 last r temp leaves (elim was [ inl a ↦ inl (is ∙ a) | inr b ↦ inr (is ∙ b) ])
  synced_last w1 w2 last steps r temp leaves was fin (inr (inr more)) l = inr (fin (more.1 ∙ ap (λ (s : List Step). Done FolderSynced ∷ s) more.2))

  renamed_last : (w1 last : World) (steps : List Step) → Reads p.now tables w1.left → w1.left t ≡ Some (current_text N) → install.IsBeforeOrAfter cmp order v tables next after last.left
      → (steps ≡ Done (Renamed t CURRENT) ∷ (Done FolderSynced ∷ []) → Reads q.now then' last.left) → AreMade (Renamed t CURRENT ∷ (FolderSynced ∷ [])) steps → Leads w1 steps last → OneLeft last
  renamed_last w1 last steps r temp leaves fin (inl none') l = after_moved w1 last r temp leaves (inl (left_is w1 last (leads_none w1 last steps none' l)))
  renamed_last w1 last steps r temp leaves fin (inr (inl one)) l =
      let l' = leads_first w1 last steps [] _ one l in
      let is = left_is l'.0 last l'.2 in
      after_moved w1 last r temp leaves (elim l'.1.1 [ inl a ↦ inl (is ∙ a) | inr b ↦ inr (is ∙ b) ])
  renamed_last w1 last steps r temp leaves fin (inr (inr more)) l =
      let l' = leads_first w1 last steps more.0 _ more.1 l in
      synced_last w1 l'.0 last more.0 r temp leaves l'.1.1 (λ done. fin (more.1 ∙ ap (λ (s : List Step). Done (Renamed t CURRENT) ∷ s) done)) more.2 l'.2

  now_left : (w : World) → StandsNow w → w.shown.files CURRENT ≡ Some (current_text p.now.manifest) → Reads p.now tables w.left
  now_left w h is = left_of p.now tables w (record { stands = h; named = is })

  abbrev two : List Call
  two = FolderSynced ∷ (Renamed t CURRENT ∷ (FolderSynced ∷ []))

  last_left : (w0 last : World) (steps : List Step) → StandsNow w0 → AllWritten files' w0 → w0.shown.files CURRENT ≡ Some (current_text p.now.manifest) → install.IsBeforeOrAfter cmp order v tables next after last.left
      → (steps ≡ map Done two → Reads q.now then' last.left) → AreMade two steps → Leads w0 steps last → OneLeft last
  last_left w0 last steps h written is leaves fin (inl none') l = inl (subst (λ (x : World). Reads p.now tables x.left) (sym (leads_none w0 last steps none' l)) (now_left w0 h is))
  last_left w0 last steps h written is leaves fin (inr (inl one)) l =
      let l' = leads_first w0 last steps [] _ one l in
      let still = stands_still cmp order v tables w0 l'.0 h l'.1.0 l'.1.1 in
      let is' = ap (λ (s : FolderView). s.files CURRENT) l'.1.0 ∙ is in
      inl (subst (λ (x : World). Reads p.now tables x.left) (sym l'.2) (now_left l'.0 still is'))
  last_left w0 last steps h written is leaves fin (inr (inr more)) l =
      let l' = leads_first w0 last steps more.0 _ more.1 l in
      let synced = stands_folder_synced cmp order v tables w0 l'.0 h.reads (λ name r. (h.settled name r).kept) l'.1 in
      let is' = ap (λ (s : FolderView). s.files CURRENT) l'.1.0 ∙ is in
      let temp : l'.0.left t ≡ Some (current_text N) = l'.1.1 t (inl written.0.synced) ∙ written.0.held in
      renamed_last l'.0 last more.0 (now_left l'.0 synced is') temp leaves (λ done. fin (more.1 ∙ ap (λ (s : List Step). Done FolderSynced ∷ s) done)) more.2 l'.2

  -- in the end CURRENT names the new manifest
  done_named : (w0 last : World) → w0.shown.files t ≡ Some (current_text N) → Leads w0 (map Done two) last → last.shown.files CURRENT ≡ Some (current_text N)
  done_named w0 last held a =
      let b = a.2 in
      let c = b.2 in
      let one : a.0.shown.files t ≡ Some (current_text N) = ap (λ (s : FolderView). s.files t) a.1.0 ∙ held in
      let moved : b.0.shown.files CURRENT ≡ Some (current_text N) = ap (λ (s : FolderView). s.files CURRENT) b.1.0 ∙ (moved_to None a.0.shown.files t CURRENT ∙ one) in
      ap (λ (x : World). x.shown.files CURRENT) c.2 ∙ (ap (λ (s : FolderView). s.files CURRENT) c.1.0 ∙ moved)

  last_part : (w0 last : World) (steps : List Step) → StandsNow w0 → AllWritten files' w0 → w0.shown.files CURRENT ≡ Some (current_text p.now.manifest) → AreMade two steps → Leads w0 steps last
      → OneLeft last × (steps ≡ map Done two → StandsNamed q.now then' last)
  last_part w0 last steps h written is made l =
      let end = ends cmp order v next tables p.tables N m setting w0 last steps h written made l in
      let stands = λ (done : steps ≡ map Done two). next_stands last (end.1 done) (done_named w0 last written.0.held (subst (λ (s : List Step). Leads w0 s last) done l)) in
      (last_left w0 last steps h written is end.0 (λ done. left_of q.now then' last (stands done)) made l, stands)

  abbrev one : List Call
  one = Created (manifest_name N) m ∷ (Synced (manifest_name N) ∷ (Created t (current_text N) ∷ (Synced t ∷ [])))

  first_part : (start w : World) (steps : List Step) → StandsNow start → AllWritten (filed p.tables []) start → AreMade one steps → Leads start steps w → StandsNow w × (steps ≡ map Done one → AllWritten files' w)
  first_part start w steps h written made l =
      elim (file_passed cmp order v tables (manifest_name N) m (Created t (current_text N) ∷ (Synced t ∷ [])) (filed p.tables []) steps start w h apart'.manifest_free apart'.manifest_other written made l) [
        | inl still ↦ (still.0, λ done. absurd (still.1 done))
        | inr x ↦ elim (file_passed cmp order v tables t (current_text N) [] ((manifest_name N, m) ∷ filed p.tables []) x.more x.world w x.stands apart'.temporary_free apart'.temporary_other x.written x.made x.leads) [
          | inl still ↦ (still.0, λ done. let rest : x.more ≡ Done (Created t (current_text N)) ∷ (Done (Synced t) ∷ []) = cc (x.whole, done) in absurd (still.1 rest))
          | inr y ↦
              let is : w ≡ y.world = leads_none y.world w y.more y.made y.leads in
              (subst StandsNow (sym is) y.stands, λ done. subst (AllWritten files') (sym is) y.written)
        ]
      ]

  one_leaves : AllLeaveCurrent one
  one_leaves = (manifest_no_current N small, (tt, (temporary_no_current N, (tt, tt))))

  -- Whatever part of the calls was made, a crash leaves one of the two, and after all of them the folder stands for the next one.
  pub installed : (start w : World) (steps : List Step) → Held p tables start → AreMade (naming_calls p.now bytes) steps → Leads start steps w → OneLeft w × (steps ≡ map Done (naming_calls p.now bytes) → Held q then' w)
  installed start w steps h made l = (
    elim (made_split one two steps made) [
      | inl some ↦
          let f = first_part start w steps h.stands.stands h.written some l in
          inl (now_left w f.0 (current_kept one steps start w one_leaves some l ∙ h.stands.named))
      | inr all ↦
          let s = leads_split start w (map Done one) all.0 (subst (λ (x : List Step). Leads start x w) all.1 l) in
          let f = first_part start s.0 (map Done one) h.stands.stands h.written (all_made one) s.1 in
          (last_part s.0 w all.0 f.0 (f.1 refl) (current_kept one (map Done one) start s.0 one_leaves (all_made one) s.1 ∙ h.stands.named) all.2 s.2).0
    ],
    λ done.
        let s = leads_split start w (map Done one) (map Done two) (subst (λ (x : List Step). Leads start x w) done l) in
        let f = first_part start s.0 (map Done one) h.stands.stands h.written (all_made one) s.1 in
        let end = last_part s.0 w (map Done two) f.0 (f.1 refl) (current_kept one (map Done one) start s.0 one_leaves (all_made one) s.1 ∙ h.stands.named) (all_made two) s.2 in
        record {
          place = subst IsPlace (sym is_placed) (place_begun q.now next_low);
          stands = end.1 refl;
          written = subst (λ (x : List (ℕ × List ℕ)). AllWritten (filed x []) w) (sym (ap (λ (x : Place). x.tables) is_placed)) tt;
        },
  )
