-- Nothing is wrong with a version exactly if it passes its test.
use Rattle.std.proofs.Common.{◌≡◌, ℕ, ◌-◌, ◌<◌, Bool, true, false, cond, not, ◌&&◌, List, [], ◌∷◌, ◌++◌, length, map, get_or, Option, Some, None, Result, Ok, Err, refl, sym, ap, subst, ◌∙◌, inl, inr}
use Rattle.std.specs.Prelude.{Contains, nat_eq, nat_lt, slice_get, slice_index}
use Rattle.std.specs.List.{AllZip, filter}
use Rattle.std.specs.Cmp.{IsTotalOrder}
use Rattle.std.specs.Ordering.{is_lt}
use Rattle.std.specs.Str.{bytes_eq}
use Rattle.std.proofs.lemmas.Bool.{and_from, or_left, or_right}
use Rattle.std.proofs.lemmas.Bool.Decides.{Decides-eqb, Decides-ltb}
use Rattle.std.proofs.lemmas.List.Elements.{All-contains, Contains-get_or}
use Rattle.std.proofs.lemmas.Slice.Eq.{bytes_eq-Decides}
use Rattle.table.specs.Answers.{◌>>=◌}
use Rattle.table.specs.fault.Fault.{Fault}
use Rattle.table.specs.Comparator.{IsExact, KeyOrder}
use Rattle.table.specs.Key.{IsInternalKey}
use Rattle.table.specs.EncodedEntry.{Entry}
use Rattle.table.specs.TableContents.{Contents}
use Rattle.table.proofs.CheckedTables.{entries_read}
use Rattle.table.proofs.KeyBytes.{table_keys}
use Rattle.table.proofs.Tables.{reads_tables}
use Rattle.folder.specs.Version.{IsState, State}
use Rattle.folder.specs.meta.FileMeta.{FileMeta}
use Rattle.folder.specs.meta.NewFile.{NewFile}
use Rattle.folder.specs.Calls.{Files}
use Rattle.folder.specs.Levels.{file_numbers}
use Rattle.folder.specs.LoadedTables.{IsTableAnswer, IsTableOf}
use Rattle.folder.specs.Names.{old_table_name, table_name}
use Rattle.folder.specs.ReadsAs.{IsFileIn}
use Rattle.reads.specs.FileList.{AreAll, level_file_in}
use Rattle.reads.specs.Lawful.{AreDisjoint, IsBelowNextFile, IsFileOf, IsLawful}
use Rattle.reads.specs.StatedFiles.{IsStatedFile, is_below, matches_metadata}
use Rattle.reads.specs.TableOrder.{AreFalling, IsNewer}
use Rattle.reads.specs.Tables.{NumberedContents, all_entries, table_entries, table_of_number}
use Rattle.reads.proofs.Answers.{entries_are}
use Rattle.reads.proofs.Apart.{AreTwo, distinct_pairs}
use Rattle.reads.proofs.FallingEntries.{each_of}
use Rattle.reads.proofs.FileOrder.{IsRange, is_range}
use Rattle.reads.proofs.LawfulVersions.{entries_fall, lawful_of}
use Rattle.reads.proofs.Members.{first_in, first_or_later, from_flat_map, from_map, in_map, later_in, none_in}
use Rattle.reads.proofs.OrderedFiles.{Before}
use Rattle.reads.proofs.Pairs.{Pairs, pairs_from, pairs_to}
use Rattle.reads.proofs.SoundFiles.{stated_tests}
use Rattle.checks.specs.TableReadings.{tables_reading}
use Rattle.checks.specs.HeldTables.{AreFound, IsTableIn}
use Rattle.checks.specs.TestedTables.{IsTested, entry_count}
use Rattle.checks.specs.declared.version_totals.VersionTotals.{VersionTotals}
use Rattle.checks.proofs.FileTables.{numbers_in}
use Rattle.checks.proofs.FolderTests.{tested_ok}
use Rattle.checks.proofs.FoundTables.{found_at, found_tables, one_table}
use Rattle.checks.proofs.LawfulLemmas.{sound_checked, sound_lawful}
use Rattle.faults.specs.VersionFault.{OfFile, OfKey}
use Rattle.faults.specs.AllFaults.{all_files, version_faults}
use Rattle.faults.specs.FaultLaws.{HoldBytes, IsAccepted}
use Rattle.faults.specs.FileFaults.{are_disjoint, lies_before, faults_of_files, file_faults, file_reading, largest_of, overlap, overlap_faults, smallest_of, table_faults, unless}
use Rattle.faults.specs.KeyFaults.{SearchedEntry, is_as_stated, is_sound, misplaced_keys, read_entries, read_file, searched_entries, searched_of}
use Rattle.faults.specs.declared.file_fault.FileFault.{FileFault}
use Rattle.faults.specs.declared.file_fault.FileFault.TheVariants.{Overlaps}
use Rattle.faults.proofs.FallingKeys.{falls_if_none, newer_searched, none_misplaced, same_keys, searched_newer}
use Rattle.faults.proofs.FileLists.{Follows, all_follow, all_listed, lend}
use Rattle.faults.proofs.FindingLemmas.{key_there}
use Rattle.faults.proofs.NumberLemmas.{all_numbers, some_found}
use Rattle.faults.proofs.SearchOrder.{all_again, before, files_again, from_search, in_order, items, search_list, searched_is}
use Rattle.faults.proofs.SoundFiles.{IsHeldFile, first_there, held_table, last_there, reading_of_table, sound_held}

-- ---- nothing of lists

append_none : {X : Type 0} (xs ys : List X) → xs ++ ys ≡ [] → (xs ≡ []) × (ys ≡ [])
append_none [] ys h = (refl, h)
append_none (x ∷ xs) ys h = absurd cc

map_none : {X Y : Type 0} (f : X → Y) (xs : List X) → map f xs ≡ [] → xs ≡ []
map_none f [] h = refl
map_none f (x ∷ xs) h = absurd cc

filter_none : {X : Type 0} (p : X → Bool) (xs : List X) → filter p xs ≡ [] → (x : X) → Contains xs x → p x ≡ false
filter_none p [] h x at = absurd (none_in x at)
filter_none {X} p (y ∷ xs) h x at = by (p y) refl h (λ k l. filter_none p xs k x l)
  where
    by : (b : Bool) → p y ≡ b → cond b (y ∷ filter p xs) (filter p xs) ≡ [] → (filter p xs ≡ [] → Contains xs x → p x ≡ false) → p x ≡ false
    by true is k later = absurd cc
    by false is k later = elim (first_or_later y xs x at) [ inl same ↦ ap p same ∙ is | inr behind ↦ later k behind ]

none_filter : {X : Type 0} (p : X → Bool) (xs : List X) → ((x : X) → Contains xs x → p x ≡ false) → filter p xs ≡ []
none_filter p [] h = refl
none_filter p (x ∷ xs) h = ap (λ (b : Bool). cond b (x ∷ filter p xs) (filter p xs)) (h x (first_in x xs)) ∙ none_filter p xs (λ y at. h y (later_in x xs y at))

-- ---- nothing of a file

unless_none : (b : Bool) (f : FileFault) → unless b f ≡ [] → b ≡ true
unless_none true f h = refl
unless_none false f h = absurd cc

three_none : (a b c : Bool) (x y z : FileFault) → unless a x ++ (unless b y ++ unless c z) ≡ [] → (a && (b && c)) ≡ true
three_none true true true x y z h = refl
three_none true true false x y z h = absurd cc
three_none true false c x y z h = absurd cc
three_none false b c x y z h = absurd cc

none_three : (a b c : Bool) (x y z : FileFault) → (a && (b && c)) ≡ true → unless a x ++ (unless b y ++ unless c z) ≡ []
none_three true true true x y z h = refl
none_three true true false x y z h = absurd cc
none_three true false c x y z h = absurd cc
none_three false b c x y z h = absurd cc

table_none : (f : FileMeta) (r : Result Contents Fault) → table_faults f r ≡ [] → is_as_stated f r ≡ true
table_none f (Err e) h = absurd cc
table_none f (Ok x) h = three_none (nat_eq f.size (length x.bytes)) (bytes_eq f.smallest (smallest_of x)) (bytes_eq f.largest (largest_of x)) _ _ _ h

none_table : (f : FileMeta) (r : Result Contents Fault) → is_as_stated f r ≡ true → table_faults f r ≡ []
none_table f (Err e) h = absurd cc
none_table f (Ok x) h = none_three (nat_eq f.size (length x.bytes)) (bytes_eq f.smallest (smallest_of x)) (bytes_eq f.largest (largest_of x)) _ _ _ h

below_is : (next : Option ℕ) (n : ℕ) → IsBelowNextFile next n → is_below next n ≡ true
below_is None n h = absurd h
below_is (Some next) n h = (Decides-ltb n next).1 h

-- a file of a deep level doesn't overlap one of its level, if they are disjoint
apart_by : (one two three : Bool) → (one ≡ true → two ≡ true → three ≡ true) → ((one && two) && not three) ≡ false
apart_by true true true h = refl
apart_by true true false h = absurd (let e : false ≡ true = h refl refl in cc)
apart_by true false three h = refl
apart_by false two three h = refl

module _ (cmp : KeyOrder) (files : Files) (next : Option ℕ) where
  pub record IsClean (f : NewFile) (behind : List NewFile) : Type 0 where
    pub below : is_below next f.meta.number ≡ true
    pub sound : is_sound cmp files f.meta ≡ true
    pub apart : (g : NewFile) → Contains behind g → overlap cmp f g ≡ false

  abbrev pub AreClean : List NewFile → Type 0
  AreClean [] = Unit {0}
  AreClean (f ∷ fs) = IsClean f fs × AreClean fs

  clean_of : (fs : List NewFile) → faults_of_files cmp files next fs ≡ [] → AreClean fs
  clean_of [] h = tt
  clean_of (f ∷ fs) h =
      let parts = append_none (map (OfFile f.meta.number) (file_faults cmp files next f fs)) (faults_of_files cmp files next fs) h in
      let own = append_none (unless (is_below next f.meta.number) _) (table_faults f.meta (file_reading cmp files f.meta.number) ++ overlap_faults cmp f fs) (map_none (OfFile f.meta.number) (file_faults cmp files next f fs) parts.0) in
      let rest = append_none (table_faults f.meta (file_reading cmp files f.meta.number)) (overlap_faults cmp f fs) own.1 in (
        record {
          below = unless_none (is_below next f.meta.number) _ own.0;
          sound = table_none f.meta (file_reading cmp files f.meta.number) rest.0;
          apart = filter_none (overlap cmp f) fs (map_none (λ (g : NewFile). Overlaps g.meta.number) (filter (overlap cmp f) fs) rest.1);
        },
        clean_of fs parts.1,
      )

  of_clean : (fs : List NewFile) → AreClean fs → faults_of_files cmp files next fs ≡ []
  of_clean [] h = refl
  of_clean (f ∷ fs) h = rw (h.0.below, none_table f.meta (file_reading cmp files f.meta.number) h.0.sound, none_filter (overlap cmp f) fs h.0.apart) (of_clean fs h.1)

  clean_sound : (fs : List NewFile) → AreClean fs → (f : NewFile) → Contains fs f → is_sound cmp files f.meta ≡ true
  clean_sound [] h f at = absurd (none_in f at)
  clean_sound (g ∷ fs) h f at = elim (first_or_later g fs f at) [ inl same ↦ subst (λ (x : NewFile). is_sound cmp files x.meta ≡ true) (sym same) h.0.sound | inr later ↦ clean_sound fs h.1 f later ]

  clean_below : (fs : List NewFile) → AreClean fs → (f : NewFile) → Contains fs f → is_below next f.meta.number ≡ true
  clean_below [] h f at = absurd (none_in f at)
  clean_below (g ∷ fs) h f at = elim (first_or_later g fs f at) [ inl same ↦ subst (λ (x : NewFile). is_below next x.meta.number ≡ true) (sym same) h.0.below | inr later ↦ clean_below fs h.1 f later ]

  clean_apart : (fs : List NewFile) → AreClean fs → Pairs (λ f g. overlap cmp f g ≡ false) fs
  clean_apart [] h = tt
  clean_apart (f ∷ fs) h = (h.0.apart, clean_apart fs h.1)

-- ---- tables of files that are sound

record Built (cmp : KeyOrder) (files : Files) (metas : List FileMeta) : Type 0 where
  loaded : List (ℕ × List ℕ)
  tables : List NumberedContents
  there : AllZip (IsTableOf (IsFileIn files)) (numbers_in metas) loaded
  read : tables_reading cmp loaded ≡ Ok tables

built : (cmp : KeyOrder) (files : Files) (metas : List FileMeta) → ((f : FileMeta) → Contains metas f → is_sound cmp files f ≡ true) → Built cmp files metas
built cmp files [] each = record { loaded = []; tables = []; there = tt; read = refl }
built cmp files (f ∷ metas) each =
    let held = sound_held cmp files f (each f (first_in f metas)) in
    let table = held_table cmp files f held in
    let rest = built cmp files metas (λ g at. each g (later_in f metas g at)) in
    let first : NumberedContents = record { number = f.number; contents = held.contents } in
    record {
      loaded = (f.number, held.contents.bytes) ∷ rest.loaded;
      tables = first ∷ rest.tables;
      there = ((refl, table.there), rest.there);
      read = ap (λ (r : Result Contents Fault). (r >>= λ contents. Ok (record { number = f.number; contents = contents })) >>= λ first. tables_reading cmp rest.loaded >>= λ others. Ok (first ∷ others)) table.read
          ∙ ap (λ (r : Result (List NumberedContents) Fault). r >>= λ others. Ok (first ∷ others)) rest.read;
    }

abbrev meta_of : NewFile → FileMeta
meta_of f = f.meta

module _ (cmp : KeyOrder) (total : IsTotalOrder cmp) (exact : IsExact cmp) (files : Files) (v : State) (state : IsState v.pointers v.files) where
  abbrev all : List NewFile
  all = all_files cmp v

  abbrev metas : List FileMeta
  metas = map meta_of all

  listed : AreAll v.files all
  listed = all_listed cmp total v.files state.apart state.levels.file_levels

  -- ---- files that have no fault, and tables

  module _ (clean : AreClean cmp files v.next_file all) (tables : List NumberedContents) (found : AreFound cmp files (numbers_in metas) tables) where
    abbrev list : List NewFile
    list = search_list all

    at_number : (n : ℕ) (x : Contents) → table_of_number tables n ≡ Some x → IsTableIn cmp files n x
    at_number n x h = found_at cmp files (numbers_in metas) tables found n x h

    held_of : (f : NewFile) → Contains all f → IsHeldFile cmp files f.meta
    held_of f at = sound_held cmp files f.meta (clean_sound cmp files v.next_file all clean f at)

    there_of : (f : NewFile) (at : Contains all f) → table_of_number tables f.meta.number ≡ Some (held_of f at).contents
    there_of f at =
        let held = held_of f at in
        let some = some_found cmp files (numbers_in metas) tables found f.meta.number (in_map (λ (g : FileMeta). g.number) metas f.meta (in_map meta_of all f at)) in
        some.1 ∙ ap (λ (c : Contents). Some c) (one_table cmp files f.meta.number some.0 held.contents (at_number f.meta.number some.0 some.1) (held_table cmp files f.meta held))

    stated_of : (f : NewFile) → Contains all f → IsStatedFile cmp tables v.next_file f.meta
    stated_of f at =
        let m = f.meta in
        let held = held_of f at in
        let t = held.contents in
        let bounds : (nat_eq m.size (length t.bytes) && (bytes_eq m.smallest m.smallest && bytes_eq m.largest m.largest)) ≡ true =
        and_from (nat_eq m.size (length t.bytes)) _ ((Decides-eqb m.size (length t.bytes)).1 held.size) (and_from (bytes_eq m.smallest m.smallest) (bytes_eq m.largest m.largest) ((bytes_eq-Decides m.smallest m.smallest).1 refl) ((bytes_eq-Decides m.largest m.largest).1 refl)) in
        let is : matches_metadata v.next_file m (length t.bytes) m.smallest m.largest ≡ true = rw (clean_below cmp files v.next_file all clean f at) bounds in
        (stated_tests cmp tables v.next_file m t m.smallest m.largest (there_of f at) (held_table cmp files m held).read (first_there cmp files m held) (last_there cmp files m held) total true (sym is)).0 refl

    range_of : (f : NewFile) → Contains all f → IsRange cmp total f
    range_of f at = is_range cmp total tables v.next_file f (stated_of f at)

    follows : Pairs (Follows cmp) all
    follows = all_follow cmp total v.files 0 7

    apart : Pairs (λ f g. overlap cmp f g ≡ false) all
    apart = clean_apart cmp files v.next_file all clean

    in_all : (f : NewFile) → Contains list f → Contains all f
    in_all = from_search cmp total all follows range_of apart v.files listed

    list_before : Pairs (Before cmp) list
    list_before = before cmp total all follows range_of apart

    each_read : (f : NewFile) → Contains list f → (read_file cmp files f.meta).entries ≡ table_entries tables f.meta.number
    each_read f at =
        let held = held_of f (in_all f at) in
        ap read_entries held.reading ∙ sym (entries_are tables f.meta.number held.contents (there_of f (in_all f at)))

    abbrev entries : List Entry
    entries = all_entries tables list

    abbrev searched_now : List SearchedEntry
    searched_now = searched_of (map (read_file cmp files) (map meta_of list))

    keys_again : misplaced_keys cmp (searched_entries cmp files all) ≡ misplaced_keys cmp searched_now
    keys_again = ap (λ (ms : List FileMeta). misplaced_keys cmp (searched_of (map (read_file cmp files) ms))) (searched_is cmp files all (clean_sound cmp files v.next_file all clean))

    -- the keys of what files hold
    bytes_of : HoldBytes files → (n : ℕ) (b : List ℕ) → IsTableAnswer (IsFileIn files) n (Ok b) → (i : ℕ) → slice_index b i < 256
    bytes_of bytes n b (inl h) = bytes (table_name n) b h
    bytes_of bytes n b (inr h) = bytes (old_table_name n) b h.1

    each_key : HoldBytes files → (e : Entry) → Contains entries e → IsInternalKey e.key
    each_key bytes e at =
        let from = from_flat_map (λ (f : NewFile). table_entries tables f.meta.number) list e at in
        let f = from.source in
        let there = in_all f from.there in
        let held = held_of f there in
        let table = held_table cmp files f.meta held in
        let x = held.contents in
        let fits = bytes_of bytes f.meta.number x.bytes table.there in
        let is = (reads_tables cmp total).found x.bytes x.entries fits (entries_read cmp x.bytes x table.read) in
        each_of (λ (y : Entry). IsInternalKey y.key) x.entries (table_keys cmp x.bytes x.entries fits is) e
        (subst (λ (es : List Entry). Contains es e) (entries_are tables f.meta.number held.contents (there_of f there)) from.held)

    pub lawful_if_none : HoldBytes files → misplaced_keys cmp (searched_entries cmp files all) ≡ [] → IsLawful cmp v tables
    lawful_if_none bytes none =
        lawful_of cmp total v tables list (all_again cmp total all follows range_of apart v.files listed) (λ f at. stated_of f (in_all f at)) list_before (record {
          keys = λ k d lt. each_key bytes (get_or entries k d) (Contains-get_or entries k d lt);
          newer = pairs_to IsNewer entries (searched_newer searched_now entries (same_keys cmp files tables list each_read) (falls_if_none cmp total exact searched_now (sym keys_again ∙ none)));
        })

    falling_if_lawful : IsLawful cmp v tables → AreFalling entries
    falling_if_lawful lawful =
        let again = files_again cmp total all follows range_of apart v.files listed level_file_in (λ f. record { level = f.level; meta = lend f.meta }) (λ f. refl) list in
        subst (λ (fs : List NewFile). AreFalling (all_entries tables fs)) again
        (entries_fall cmp total v tables lawful (items cmp total all follows range_of apart v.files listed level_file_in (λ f. record { level = f.level; meta = lend f.meta }) (λ f. refl)) (record {
          all = subst (AreAll v.files) (sym again) (all_again cmp total all follows range_of apart v.files listed);
          sorted = in_order cmp total all follows range_of apart v.files listed level_file_in (λ f. record { level = f.level; meta = lend f.meta }) (λ f. refl);
        }) (subst (Pairs (Before cmp)) (sym again) list_before))

    pub none_if_lawful : IsLawful cmp v tables → misplaced_keys cmp (searched_entries cmp files all) ≡ []
    none_if_lawful lawful =
        keys_again ∙ none_misplaced cmp searched_now (newer_searched searched_now entries (same_keys cmp files tables list each_read) (pairs_from IsNewer entries (falling_if_lawful lawful).newer))

  -- ---- a version that is lawful has no fault of a file

  module _ (tables : List NumberedContents) (found : AreFound cmp files (file_numbers cmp v) tables) (lawful : IsLawful cmp v tables) where
    sound_if_lawful : (f : NewFile) → Contains v.files f → is_sound cmp files f.meta ≡ true
    sound_if_lawful f at =
        let m = f.meta in
        let is = All-contains (λ (g : NewFile). IsFileOf cmp tables g.meta) v.files f lawful.files at in
        let x = is.table in
        let table = found_at cmp files (file_numbers cmp v) tables found m.number x is.there in
        let small : m.smallest ≡ smallest_of x = key_there (slice_get x.entries 0) m.smallest (sym is.smallest) in
        let large : m.largest ≡ largest_of x = key_there (slice_get x.entries (length x.entries - 1)) m.largest (sym is.largest) in
        ap (is_as_stated m) (reading_of_table cmp files m.number x table)
        ∙ and_from (nat_eq m.size (length x.bytes)) _ ((Decides-eqb m.size (length x.bytes)).1 is.size) (and_from (bytes_eq m.smallest (smallest_of x)) (bytes_eq m.largest (largest_of x)) ((bytes_eq-Decides m.smallest (smallest_of x)).1 small) ((bytes_eq-Decides m.largest (largest_of x)).1 large))

    disjoint_is : (f g : FileMeta) → AreDisjoint cmp f g → are_disjoint cmp f g ≡ true
    disjoint_is f g (inl h) = or_left (lies_before cmp f g) (lies_before cmp g f) (ap is_lt h)
    disjoint_is f g (inr h) = or_right (lies_before cmp f g) (lies_before cmp g f) (ap is_lt h)

    clean_if_lawful : (fs : List NewFile) → ((f : NewFile) → Contains fs f → Contains v.files f) → Pairs AreTwo fs → AreClean cmp files v.next_file fs
    clean_if_lawful [] among two = tt
    clean_if_lawful (f ∷ fs) among two =
        let at = among f (first_in f fs) in (
          record {
            below = below_is v.next_file f.meta.number (All-contains (λ (g : NewFile). IsBelowNextFile v.next_file g.meta.number) v.files f lawful.below_next at);
            sound = sound_if_lawful f at;
            apart = λ g there.
                apart_by (nat_lt 0 f.level) (nat_eq f.level g.level) (are_disjoint cmp f.meta g.meta)
                (λ deep same. disjoint_is f.meta g.meta (lawful.disjoint f g at (among g (later_in f fs g there)) ((Decides-eqb f.level g.level).0 same) ((Decides-ltb 0 f.level).0 deep) (two.0 g there)));
          },
          clean_if_lawful fs (λ g there. among g (later_in f fs g there)) two.1,
        )

    pub clean_all : AreClean cmp files v.next_file all
    clean_all = clean_if_lawful all listed.only (distinct_pairs all listed.distinct)

    pub nothing_wrong : version_faults cmp files v ≡ []
    nothing_wrong =
        let here : AreFound cmp files (numbers_in metas) tables = subst (λ (ns : List ℕ). AreFound cmp files ns tables) (all_numbers cmp v) found in
        rw (of_clean cmp files v.next_file all clean_all, none_if_lawful clean_all tables here lawful) refl

  -- ---- both directions

  pub accepted_none : IsAccepted cmp files v → version_faults cmp files v ≡ []
  accepted_none h = by h.tested h.is
    where
      by : (t : VersionTotals) → IsTested (IsFileIn files) cmp v (Ok t) → version_faults cmp files v ≡ []
      by t (Ok loaded, (there, (Ok tables, h))) = nothing_wrong tables (found_tables cmp files (file_numbers cmp v) loaded tables there (sound_checked cmp v loaded tables h.0)) (sound_lawful cmp v loaded tables h.0)
      by t (Ok loaded, (there, (Err e, h))) = absurd cc
      by t (Err e, h) = absurd cc

  pub none_accepted : HoldBytes files → version_faults cmp files v ≡ [] → IsAccepted cmp files v
  none_accepted bytes none =
      let parts = append_none (faults_of_files cmp files v.next_file all) (map OfKey (misplaced_keys cmp (searched_entries cmp files all))) none in
      let clean = clean_of cmp files v.next_file all parts.0 in
      let keys = map_none OfKey (misplaced_keys cmp (searched_entries cmp files all)) parts.1 in
      let made = built cmp files metas (λ m at. let from = from_map meta_of all m at in subst (λ (x : FileMeta). is_sound cmp files x ≡ true) from.is (clean_sound cmp files v.next_file all clean from.source from.there)) in
      let found = found_tables cmp files (numbers_in metas) made.loaded made.tables made.there made.read in
      record {
        tested = record { files = length (file_numbers cmp v); entries = entry_count made.tables };
        is = tested_ok cmp files v (length (file_numbers cmp v)) (entry_count made.tables) refl (record {
          loaded = made.loaded;
          tables = made.tables;
          there = subst (λ (ns : List ℕ). AllZip (IsTableOf (IsFileIn files)) ns made.loaded) (sym (all_numbers cmp v)) made.there;
          read = made.read;
          lawful = lawful_if_none clean made.tables found bytes keys;
          is = refl;
        });
      }
