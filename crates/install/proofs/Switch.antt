-- The temporary file gets the name CURRENT: what is read then, and what a crash leaves.
use Rattle.std.proofs.Common.{◌≡◌, ◌≢◌, ◌⊎◌, ◌<◌, ◌^◌, ℕ, false, List, [], ◌∷◌, ◌++◌, map, codes, Some, None, Ok, refl, sym, ap, subst, ◌∙◌, inl, inr, arith}
use Rattle.std.proofs.lemmas.Option.{none-some, same_Some}
use Rattle.std.specs.declared.cmp.Ordering.{Ordering}
use Rattle.edit.specs.Version.{State}
use Rattle.folder.specs.Calls.{Call, Done, Files, FolderSynced, Renamed, FolderView, Step, with_moved, with_renamed}
use Rattle.folder.specs.CallSequence.{AreMade}
use Rattle.folder.specs.Crash.{Happens, IsDurable, Leads, World}
use Rattle.folder.specs.FreeNames.{IsFree}
use Rattle.folder.specs.Levels.{file_numbers}
use Rattle.folder.specs.LoadedTables.{IsTableAnswer}
use Rattle.folder.specs.Manifest.{IsManifestAnswer}
use Rattle.folder.specs.Names.{current_text, manifest_name, old_table_name, table_name, temporary_name}
use Rattle.folder.specs.ReadsAs.{Current, IsOneOf, Manifest, OldTable, ReadsAs, RestsOn, StandsAs, Table, IsFileIn}
use Rattle.folder.specs.declared.order.Order.{Order}
use Rattle.folder.proofs.CrashLemmas.{left_reads, rests_on_none, stands_folder_synced, stands_still}
use Rattle.folder.proofs.NameEnds.{current_end, ends_apart, low_apart, manifest_end, old_table_end, table_end, temporary_end}
use Rattle.folder.proofs.NameLemmas.{texts_alike}
use Rattle.folder.proofs.PutLemmas.{moved_other, moved_to}
use Rattle.folder.proofs.ReadsLemmas.{opens, table_same}
use Rattle.folder.proofs.WrittenLemmas.{AllWritten, leads_first, leads_none, short_none, short_tried, written_still}
use Rattle.install.specs.Install.{IsBeforeOrAfter, table_bytes_of, numbers_of, next_version_tables}
use Rattle.install.proofs.Outputs.{AllHeld, among_outputs, filed, filed_parts, filed_synced, held_same, loaded_at, loads, output_held, synced_at}
use Rattle.install.proofs.Names.{table_no_temporary}

abbrev pub CURRENT : List ℕ
CURRENT = codes "CURRENT"

pub table_no_current : (n : ℕ) → table_name n ≢ CURRENT
table_no_current n = ends_apart (table_name n) CURRENT 98 84 (table_end n) current_end (λ e. omega (arith, e))

pub old_table_no_current : (n : ℕ) → old_table_name n ≢ CURRENT
old_table_no_current n = ends_apart (old_table_name n) CURRENT 116 84 (old_table_end n) current_end (λ e. omega (arith, e))

pub temporary_no_current : (n : ℕ) → temporary_name n ≢ CURRENT
temporary_no_current n = ends_apart (temporary_name n) CURRENT 112 84 (temporary_end n) current_end (λ e. omega (arith, e))

pub manifest_no_current : (n : ℕ) → n < 2 ^ 64 → manifest_name n ≢ CURRENT
manifest_no_current n small same = low_apart CURRENT (manifest_name n) 84 current_end (manifest_end n small) (omega arith) (sym same)

pub manifest_no_temporary : (n m : ℕ) → n < 2 ^ 64 → manifest_name n ≢ temporary_name m
manifest_no_temporary n m small same = low_apart (temporary_name m) (manifest_name n) 112 (temporary_end m) (manifest_end n small) (omega arith) (sym same)

pub at : {A : Type 0} (f g : List ℕ → A) (name : List ℕ) → f ≡ g → f name ≡ g name
at f g name e = ap (λ h. h name) e

-- what an installation has to bring about
pub record Setting (cmp : List ℕ → List ℕ → Ordering) (order : Order) (v next : State) (tables outputs : List (ℕ × List ℕ)) (number : ℕ) (manifest : List ℕ) : Type 0 where
  pub small : number < 2 ^ 64
  pub answer : IsManifestAnswer number manifest (Ok (order, next))
  pub there : (n : ℕ) → IsOneOf (file_numbers cmp next) n → IsOneOf (numbers_of outputs) n ⊎ IsOneOf (file_numbers cmp v) n
  pub free : IsFree cmp v (temporary_name number)

module _ (cmp : List ℕ → List ℕ → Ordering) (order : Order) (v next : State) (tables outputs : List (ℕ × List ℕ)) (number : ℕ) (manifest : List ℕ) (setting : Setting cmp order v next tables outputs number manifest) where
  abbrev tables' : List (ℕ × List ℕ)
  tables' = next_version_tables cmp next outputs tables

  -- Files that hold what the next version wants, and else what the version before rests on.
  record Holds (files now : Files) : Type 0 where
    current : now CURRENT ≡ Some (current_text number)
    named : now (manifest_name number) ≡ Some manifest
    held : AllHeld outputs now
    same : (name : List ℕ) → RestsOn cmp v files name → name ≢ CURRENT → now name ≡ files name

  -- a table of the next version
  table_next : (files now : Files) → ReadsAs cmp order v tables files → Holds files now → (n : ℕ) → IsOneOf (file_numbers cmp next) n → IsTableAnswer (IsFileIn now) n (Ok (table_bytes_of (outputs ++ tables) n))
  table_next files now reads h n m =
      let output = λ (m' : IsOneOf (numbers_of outputs) n). let t : IsTableAnswer (IsFileIn now) n (Ok (table_bytes_of (outputs ++ tables) n)) = inl (output_held outputs tables now n h.held m') in t in
      elim (among_outputs outputs tables n) [
        | inl m' ↦ output m'
        | inr same ↦ elim (setting.there n m) [
          | inl m' ↦ output m'
          | inr before ↦ subst (λ (b : List ℕ). IsTableAnswer (IsFileIn now) n (Ok b)) (sym same)
              (table_same files now n (table_bytes_of tables n) (h.same _ (Table n before) (table_no_current n)) (λ none'. h.same _ (OldTable n before none') (old_table_no_current n))
              (loaded_at (IsFileIn files) (file_numbers cmp v) tables n reads.loaded before))
        ]
      ]

  reads_next : (files now : Files) → ReadsAs cmp order v tables files → Holds files now → ReadsAs cmp order next tables' now
  reads_next files now reads h = record {
    opened = opens now order next (record {
      number = number;
      bytes = manifest;
      small = setting.small;
      current = h.current;
      manifest = h.named;
      answer = setting.answer;
    });
    loaded = loads (IsFileIn now) (file_numbers cmp next) (table_bytes_of (outputs ++ tables)) (table_next files now reads h);
  }

  -- what a fact has to hold of, so that it holds of all that the next version rests on
  rests_next : (P : List ℕ → Type 0) (files now : Files) → Holds files now → P CURRENT → P (manifest_name number) → ((n : ℕ) → IsOneOf (numbers_of outputs) n → P (table_name n))
      → ((name : List ℕ) → RestsOn cmp v files name → name ≢ CURRENT → P name) → (name : List ℕ) → RestsOn cmp next now name → P name
  rests_next P files now h current named output before name Current = current
  rests_next P files now h current named output before name (Manifest n small is) =
      let same : number ≡ n = texts_alike number n setting.small small (same_Some _ _ (sym h.current ∙ is)) in
      subst (λ (k : ℕ). P (manifest_name k)) same named
  rests_next P files now h current named output before name (Table n m) = elim (setting.there n m) [
    | inl m' ↦ output n m'
    | inr there ↦ before (table_name n) (Table n there) (table_no_current n)
  ]
  rests_next P files now h current named output before name (OldTable n m none') = elim (setting.there n m) [
    | inl m' ↦ absurd (none-some _ (sym none' ∙ output_held outputs [] now n h.held m'))
    | inr there ↦ before (old_table_name n) (OldTable n there (sym (h.same _ (Table n there) (table_no_current n)) ∙ none')) (old_table_no_current n)
  ]

  -- All is written and the folder was synced.
  pub record Ready (w : World) : Type 0 where
    pub stands : StandsAs cmp order v tables w
    pub written : AllWritten ((temporary_name number, current_text number) ∷ (manifest_name number, manifest) ∷ filed outputs []) w
    pub settled : (name : List ℕ) → IsDurable w.shown name → w.left name ≡ w.shown.files name

  -- what the version before rests on isn't the temporary file
  no_temporary : (w : World) → StandsAs cmp order v tables w → (name : List ℕ) → RestsOn cmp v w.shown.files name → name ≢ temporary_name number
  no_temporary w h name r = rests_on_none cmp order v tables w.shown.files (temporary_name number) name h.reads setting.free r

  -- files where the temporary file became CURRENT, of such that hold what is written
  moved_holds : (w : World) (files : Files) → Ready w → ((name : List ℕ) → IsDurable w.shown name → files name ≡ w.shown.files name) → Holds w.shown.files (with_moved None files (temporary_name number) CURRENT)
  moved_holds w files h same =
      let tmp = temporary_name number in
      let outs = filed_parts outputs [] w h.written.1.1 in
      let marks = filed_synced outputs [] w h.written.1.1 in
      let other = λ (name : List ℕ) (a : name ≢ tmp) (b : name ≢ CURRENT). moved_other None files tmp CURRENT name a b in
      record {
        current = moved_to None files tmp CURRENT ∙ (same tmp (inl h.written.0.synced) ∙ h.written.0.held);
        named = other (manifest_name number) (manifest_no_temporary number number setting.small) (manifest_no_current number setting.small) ∙ (same _ (inl h.written.1.0.synced) ∙ h.written.1.0.held);
        held = held_same outputs w.shown.files (with_moved None files tmp CURRENT) (λ n m. other (table_name n) (table_no_temporary n number) (table_no_current n) ∙ same _ (inl (synced_at outputs w.shown.synced n marks.0 m))) outs.0;
        same = λ name r c. other name (no_temporary w h.stands name r) c ∙ same name (h.stands.settled name r).kept;
      }

  -- after the rename a crash leaves the one or the other
  pub left_renamed : (w after : World) → Ready w → (after.left ≡ w.left) ⊎ (after.left ≡ with_moved None w.left (temporary_name number) CURRENT) → IsBeforeOrAfter cmp order v tables next tables' after.left
  left_renamed w after h (inl same) = inl (subst (ReadsAs cmp order v tables) (sym same) (left_reads cmp order v tables w h.stands))
  left_renamed w after h (inr same) = inr (subst (ReadsAs cmp order next tables') (sym same) (reads_next w.shown.files _ h.stands.reads (moved_holds w w.left h h.settled)))

  -- once the folder is synced the edited version stands
  pub stands_next : (w after last : World) → Ready w → after.shown ≡ with_renamed w.shown (temporary_name number) CURRENT → Happens (Done FolderSynced) after last → StandsAs cmp order next tables' last
  stands_next w after last h shown happens =
      let tmp = temporary_name number in
      let now = with_moved None w.shown.files tmp CURRENT in
      let holds = moved_holds w w.shown.files h (λ name k. refl) in
      let marks = filed_synced outputs [] w h.written.1.1 in
      let files : after.shown.files ≡ now = ap (λ (s : FolderView). s.files) shown in
      let synced : after.shown.synced ≡ with_moved false w.shown.synced tmp CURRENT = ap (λ (s : FolderView). s.synced) shown in
      let other = λ (name : List ℕ) (a : name ≢ tmp) (b : name ≢ CURRENT). at after.shown.synced _ name synced ∙ moved_other false w.shown.synced tmp CURRENT name a b in
      let reads = subst (ReadsAs cmp order next tables') (sym files) (reads_next w.shown.files now h.stands.reads holds) in
      let kept = rests_next (IsDurable after.shown) w.shown.files now holds
      (inl (at after.shown.synced _ CURRENT synced ∙ (moved_to false w.shown.synced tmp CURRENT ∙ h.written.0.synced)))
      (inl (other (manifest_name number) (manifest_no_temporary number number setting.small) (manifest_no_current number setting.small) ∙ h.written.1.0.synced))
      (λ n m. inl (other (table_name n) (table_no_temporary n number) (table_no_current n) ∙ synced_at outputs w.shown.synced n marks.0 m))
      (λ name r c. elim (h.stands.settled name r).kept [
        | inl was ↦ inl (other name (no_temporary w h.stands name r) c ∙ was)
        | inr none' ↦ inr (at after.shown.files now name files ∙ (moved_other None w.shown.files tmp CURRENT name (no_temporary w h.stands name r) c ∙ none'))
      ]) in
      stands_folder_synced cmp order next tables' after last reads (λ name r. kept name (subst (λ (f : Files). RestsOn cmp next f name) files r)) happens

  abbrev pub last_calls : List Call
  last_calls = FolderSynced ∷ Renamed (temporary_name number) CURRENT ∷ FolderSynced ∷ []

  -- at each moment one of the two is left, and in the end the edited version stands
  abbrev pub Leaves : World → Type 0
  Leaves w = IsBeforeOrAfter cmp order v tables next tables' w.left

  before_left : (w : World) → StandsAs cmp order v tables w → Leaves w
  before_left w h = inl (left_reads cmp order v tables w h)

  same_world : (P : World → Type 0) (a b : World) → b ≡ a → P a → P b
  same_world P a b is h = subst P (sym is) h

  -- the folder was synced, and the file renamed
  sync_again : (w after last : World) (steps : List Step) → Ready w → after.shown ≡ with_renamed w.shown (temporary_name number) CURRENT → (after.left ≡ w.left) ⊎ (after.left ≡ with_moved None w.left (temporary_name number) CURRENT)
      → AreMade (FolderSynced ∷ []) steps → Leads after steps last → Leaves last × (steps ≡ Done FolderSynced ∷ [] → StandsAs cmp order next tables' last)
  sync_again w after last steps h shown left (inl none') l = (same_world Leaves after last (leads_none after last steps none' l) (left_renamed w after h left), λ all. absurd (short_none steps FolderSynced [] none' all))
  sync_again w after last steps h shown left (inr (inl one)) l =
      let l' = leads_first after last steps [] _ one l in
      let then : Leaves l'.0 = subst (IsBeforeOrAfter cmp order v tables next tables') (sym l'.1.1) (left_renamed w after h left) in
      (same_world Leaves l'.0 last l'.2 then, λ all. absurd (short_tried steps FolderSynced [] one all))
  sync_again w after last steps h shown left (inr (inr more)) l =
      let l' = leads_first after last steps more.0 _ more.1 l in
      let stands = stands_next w after l'.0 h shown l'.1 in
      let is : last ≡ l'.0 = leads_none l'.0 last more.0 more.2 l'.2 in
      let now : StandsAs cmp order next tables' last = same_world (StandsAs cmp order next tables') l'.0 last is stands in
      (inr (left_reads cmp order next tables' last now), λ all. now)

  -- the folder was synced
  renames : (w last : World) (steps : List Step) → Ready w → AreMade (Renamed (temporary_name number) CURRENT ∷ FolderSynced ∷ []) steps → Leads w steps last
      → Leaves last × (steps ≡ Done (Renamed (temporary_name number) CURRENT) ∷ Done FolderSynced ∷ [] → StandsAs cmp order next tables' last)
  renames w last steps h (inl none') l = (same_world Leaves w last (leads_none w last steps none' l) (before_left w h.stands), λ all. absurd (short_none steps (Renamed (temporary_name number) CURRENT) (FolderSynced ∷ []) none' all))
  renames w last steps h (inr (inl one)) l =
      let l' = leads_first w last steps [] _ one l in
      (same_world Leaves l'.0 last l'.2 (left_renamed w l'.0 h l'.1.1), λ all. absurd (short_tried steps (Renamed (temporary_name number) CURRENT) (FolderSynced ∷ []) one all))
  renames w last steps h (inr (inr more)) l =
      let l' = leads_first w last steps more.0 _ more.1 l in
      let end = sync_again w l'.0 last more.0 h l'.1.0 l'.1.1 more.2 l'.2 in
      (end.0, λ all. let rest : more.0 ≡ Done FolderSynced ∷ [] = cc (more.1, all) in end.1 rest)

  -- all is written
  pub ends : (w last : World) (steps : List Step) → StandsAs cmp order v tables w → AllWritten ((temporary_name number, current_text number) ∷ (manifest_name number, manifest) ∷ filed outputs []) w
      → AreMade last_calls steps → Leads w steps last → Leaves last × (steps ≡ map Done last_calls → StandsAs cmp order next tables' last)
  ends w last steps h all (inl none') l = (same_world Leaves w last (leads_none w last steps none' l) (before_left w h), λ done. absurd (short_none steps FolderSynced (Renamed (temporary_name number) CURRENT ∷ FolderSynced ∷ []) none' done))
  ends w last steps h all (inr (inl one)) l =
      let l' = leads_first w last steps [] _ one l in
      (same_world Leaves l'.0 last l'.2 (before_left l'.0 (stands_still cmp order v tables w l'.0 h l'.1.0 l'.1.1)), λ done. absurd (short_tried steps FolderSynced (Renamed (temporary_name number) CURRENT ∷ FolderSynced ∷ []) one done))
  ends w last steps h all (inr (inr more)) l =
      let l' = leads_first w last steps more.0 _ more.1 l in
      let after = l'.0 in
      let files = ap (λ (s : FolderView). s.files) l'.1.0 in
      let marks = ap (λ (s : FolderView). s.synced) l'.1.0 in
      let ready : Ready after = record {
        stands = stands_folder_synced cmp order v tables w after h.reads (λ name r. (h.settled name r).kept) l'.1;
        written = written_still ((temporary_name number, current_text number) ∷ (manifest_name number, manifest) ∷ filed outputs []) w after l'.1.0 all;
        settled = λ name k.
            let before : IsDurable w.shown name = subst (λ (s : FolderView). IsDurable s name) l'.1.0 k in
            l'.1.1 name before ∙ sym (at after.shown.files w.shown.files name files);
      } in
      let end = renames after last more.0 ready more.2 l'.2 in
      (end.0, λ done. let rest : more.0 ≡ Done (Renamed (temporary_name number) CURRENT) ∷ Done FolderSynced ∷ [] = cc (more.1, done) in end.1 rest)
