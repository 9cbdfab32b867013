-- The entries of a user key, gathered from the files of a version and then sorted.
use Rattle.std.proofs.Common.{◌≡◌, ℕ, ◌+◌, ◌<◌, ◌≤◌, Bool, false, ◌&&◌, eqb, List, [], ◌∷◌, ◌++◌, length, map, take, drop, get_or, refl, sym, ap, subst, ◌∙◌, inl, inr, arith}
use Rattle.std.specs.Prelude.{Contains}
use Rattle.std.specs.Cmp.{IsStrictWeakOrder}
use Rattle.std.specs.List.{All, IsDistinct}
use Rattle.std.specs.List.Sorted.{IsPermutation, IsSortedBy}
use Rattle.std.specs.Ordering.{is_lt, nat_cmp}
use Rattle.std.specs.declared.cmp.Ordering.{Ordering}
use Rattle.std.proofs.lemmas.Bool.{cases_lt, ne_eqb, both_ways}
use Rattle.std.proofs.lemmas.Bool.Decides.{Decides-eqb}
use Rattle.std.proofs.lemmas.Cmp.{nat_cmp_total}
use Rattle.std.proofs.lemmas.List.{map-append, take-append-drop}
use Rattle.std.proofs.lemmas.List.Elements.{All-contains, Contains-get_or, Contains-append_cases, Contains-append_left, Contains-append_right, Contains-push, Contains-push_cases}
use Rattle.std.proofs.lemmas.List.MinMax.{IsStrictWeakOrder-flip}
use Rattle.std.proofs.lemmas.List.Sorted.{Contains-permutation, IsPermutation-sym, ranks_by, sorted_far}
use Rattle.std.proofs.lemmas.Map.Keys.{IsDistinct-IsPermutation, IsDistinct-from_apart, apart_from_distinct, ge_from_not_lt}
use Rattle.std.proofs.Math.Bool.{and-false}
use Rattle.block.specs.EncodedEntry.{Entry}
use Rattle.folder.specs.meta.NewFile.{NewFile}
use Rattle.folder.proofs.Tested.{eqb-sym}
use Rattle.table.specs.Key.{IsInternalKey, sequence_of, user_of}
use Rattle.table.proofs.Keys.{length-user_of}
use Rattle.reads.specs.FileList.{AreAll, level_file_in, same_file}
use Rattle.reads.specs.Lawful.{IsFileOf}
use Rattle.reads.specs.Tables.{NumberedContents, table_entries}
use Rattle.reads.specs.declared.level_file.LevelFile.{LevelFile}
use Rattle.reads.proofs.Answers.{entries_are}
use Rattle.reads.proofs.Members.{first_in, from_map, in_map, none_in}
use Rattle.reads.proofs.Pairs.{Pairs, pairs_across, pairs_append, pairs_from, pairs_left, pairs_map, pairs_to, pairs_weaker}
use Rattle.scan.specs.KeyHistory.{AreHistory, ArePlaced, IsFoundOf, IsPlacedIn}
use Rattle.scan.specs.PlacedEntries.{placed, same_place}
use Rattle.scan.specs.UserHistory.{AreEntriesOf}
use Rattle.scan.specs.declared.placed_entry.PlacedEntry.{PlacedEntry}

-- ---- two that were found

abbrev Apart : PlacedEntry → PlacedEntry → Type 0
Apart a b = same_place a b ≡ false

other_file : (a b : PlacedEntry) → (a.file ≡ b.file → ⊥) → Apart a b
other_file a b other = ap (λ (t : Bool). t && eqb (sequence_of a.entry.key) (sequence_of b.entry.key)) (ne_eqb a.file b.file other)

other_sequence : (a b : PlacedEntry) → (sequence_of a.entry.key ≡ sequence_of b.entry.key → ⊥) → Apart a b
other_sequence a b other =
    ap (λ (t : Bool). eqb a.file b.file && t) (ne_eqb (sequence_of a.entry.key) (sequence_of b.entry.key) other) ∙ and-false (eqb a.file b.file)

two_sequences : (a b : PlacedEntry) → Apart a b → a.file ≡ b.file → sequence_of a.entry.key ≡ sequence_of b.entry.key → ⊥
two_sequences a b apart file same =
    both_ways (same_place a b) apart (ap (λ (t : Bool). t && eqb (sequence_of a.entry.key) (sequence_of b.entry.key)) ((Decides-eqb a.file b.file).1 file) ∙ (Decides-eqb (sequence_of a.entry.key) (sequence_of b.entry.key)).1 same)

place_flips : (a b : PlacedEntry) → same_place a b ≡ same_place b a
place_flips a b =
    ap (λ (t : Bool). t && eqb (sequence_of a.entry.key) (sequence_of b.entry.key)) (eqb-sym a.file b.file)
    ∙ ap (λ (t : Bool). eqb b.file a.file && t) (eqb-sym (sequence_of a.entry.key) (sequence_of b.entry.key))

apart_pairs : (found : List PlacedEntry) → IsDistinct same_place found → Pairs Apart found
apart_pairs found h = pairs_from Apart found (λ i j d lt below. apart_from_distinct same_place found i j d h lt below)

pairs_apart : (found : List PlacedEntry) → Pairs Apart found → IsDistinct same_place found
pairs_apart found h = IsDistinct-from_apart same_place found (pairs_to Apart found h)

-- ---- the order of numbers

below_of : (m n : ℕ) → m ≤ n → (n ≡ m → ⊥) → m < n
below_of m n low other = elim (cases_lt m n) [ inl lt ↦ lt | inr le ↦ absurd (other (omega arith)) ]

pub falls : IsStrictWeakOrder (λ (a b : PlacedEntry). is_lt (nat_cmp (sequence_of b.entry.key) (sequence_of a.entry.key)))
falls = IsStrictWeakOrder-flip _ (ranks_by nat_cmp_total (λ (a : PlacedEntry). sequence_of a.entry.key))

-- ---- files of a list

abbrev OtherNumber : NewFile → NewFile → Type 0
OtherNumber f g = same_file f g ≡ false

-- a file has another number than those before it
pub other_numbers : (files : List LevelFile) (i : ℕ) (f : LevelFile) → take (i + 1) files ≡ take i files ++ f ∷ [] → IsDistinct same_file (map level_file_in files) → (g : NewFile) → Contains (map level_file_in (take i files)) g → g.meta.number ≡ f.meta.now.number → ⊥
other_numbers files i f step distinct g there same =
    let all : Pairs OtherNumber (map level_file_in files) = pairs_from OtherNumber (map level_file_in files) (λ k j d lt below. apart_from_distinct same_file (map level_file_in files) k j d distinct lt below) in
    let parts : map level_file_in files ≡ map level_file_in (take (i + 1) files) ++ map level_file_in (drop (i + 1) files) =
    ap (map level_file_in) (sym (take-append-drop (i + 1) files)) ∙ map-append level_file_in (take (i + 1) files) (drop (i + 1) files) in
    let front : Pairs OtherNumber (map level_file_in (take (i + 1) files)) = pairs_left OtherNumber (map level_file_in (take (i + 1) files)) (map level_file_in (drop (i + 1) files)) (subst (Pairs OtherNumber) parts all) in
    let more : map level_file_in (take (i + 1) files) ≡ map level_file_in (take i files) ++ level_file_in f ∷ [] = ap (map level_file_in) step ∙ map-append level_file_in (take i files) (f ∷ []) in
    both_ways (same_file g (level_file_in f)) (pairs_across OtherNumber (map level_file_in (take i files)) (level_file_in f ∷ []) (subst (Pairs OtherNumber) more front) g (level_file_in f) there (first_in (level_file_in f) []))
    ((Decides-eqb g.meta.number f.meta.now.number).1 same)

module _ (user : List ℕ) (tables : List NumberedContents) where
  pub none_placed : ArePlaced user tables [] []
  none_placed = record {
    each = λ f there e held own. absurd (none_in f there);
    only = λ own there. absurd (none_in own there);
  }

  pub none_apart : IsDistinct same_place []
  none_apart = pairs_apart [] tt

  -- with the entries of one file more
  pub placed_more : (fs : List NewFile) (f : NewFile) (found : List PlacedEntry) (es : List Entry) → ArePlaced user tables fs found → AreEntriesOf user (table_entries tables f.meta.number) es
      → ArePlaced user tables (fs ++ f ∷ []) (found ++ map (placed f.level f.meta.number) es)
  placed_more fs f found es before own =
      let new : List PlacedEntry = map (placed f.level f.meta.number) es in
      let At : NewFile → Entry → Type 0 = λ g e. (o : PlacedEntry) × Contains (found ++ new) o × IsFoundOf g e o in
      record {
        each = λ g there e held of_user. elim (Contains-push_cases fs f g there) [
          | inl old ↦ let is = before.each g old e held of_user in (is.0, Contains-append_left found new is.0 is.1, is.2)
          | inr same ↦
              let here = own.each e (subst (λ (h : NewFile). Contains (table_entries tables h.meta.number) e) (sym same) held) of_user in
              subst (λ (h : NewFile). At h e) same (
                placed f.level f.meta.number here.0,
                Contains-append_right found new (placed f.level f.meta.number here.0) (in_map (placed f.level f.meta.number) es here.0 here.1),
                record { level = refl; file = refl; sequence = here.2 },
              )
        ];
        only = λ o there. elim (Contains-append_cases found new o there) [
          | inl old ↦ let is = before.only o old in record { source = is.source; there = Contains-append_left fs (f ∷ []) is.source is.there; level = is.level; file = is.file; is = is.is }
          | inr here ↦
              let from = from_map (placed f.level f.meta.number) es o here in
              subst (IsPlacedIn user tables (fs ++ f ∷ [])) from.is (record { source = f; there = Contains-push fs f; level = refl; file = refl; is = own.only from.source from.there })
        ];
      }

  pub apart_more : (fs : List NewFile) (f : NewFile) (found : List PlacedEntry) (es : List Entry) → ArePlaced user tables fs found → IsDistinct same_place found → AreEntriesOf user (table_entries tables f.meta.number) es
      → ((g : NewFile) → Contains fs g → g.meta.number ≡ f.meta.number → ⊥) → IsDistinct same_place (found ++ map (placed f.level f.meta.number) es)
  apart_more fs f found es before distinct own other =
      let at = placed f.level f.meta.number in
      let Newer : Entry → Entry → Type 0 = λ a b. sequence_of b.key < sequence_of a.key in
      let new : Pairs Apart (map at es) = pairs_map Apart at es (pairs_weaker Newer (λ (a b : Entry). Apart (at a) (at b)) (λ a b below. other_sequence (at a) (at b) (λ same. absurd (omega arith))) es (pairs_from Newer es own.newest)) in
      pairs_apart (found ++ map at es) (pairs_append Apart found (map at es) (apart_pairs found distinct) new (λ x y i j.
      let is = before.only x i in
      let from = from_map at es y j in
      other_file x y (λ same. other is.source is.there (sym is.file ∙ same ∙ sym (ap (λ (o : PlacedEntry). o.file) from.is)))))

  -- the same files in another order
  pub placed_of_all : (files listed : List NewFile) (found : List PlacedEntry) → AreAll files listed → ArePlaced user tables listed found → ArePlaced user tables files found
  placed_of_all files listed found all are = record {
    each = λ f there e held own. are.each f (all.all f there) e held own;
    only = λ own there. let is = are.only own there in record { source = is.source; there = all.only is.source is.there; level = is.level; file = is.file; is = is.is };
  }

  -- sorted
  pub sorted_history : (files : List NewFile) (found sorted : List PlacedEntry) → ArePlaced user tables files found → IsDistinct same_place found → IsPermutation found sorted
      → IsSortedBy (λ (a b : PlacedEntry). is_lt (nat_cmp (sequence_of b.entry.key) (sequence_of a.entry.key))) sorted → AreHistory user tables files sorted
  sorted_history files found sorted are distinct same up =
      let apart : IsDistinct same_place sorted = IsDistinct-IsPermutation same_place place_flips found sorted same distinct in
      record {
        all = record {
          each = λ f there e held own. let is = are.each f there e held own in (is.0, Contains-permutation found sorted is.0 same is.1, is.2);
          only = λ own there. are.only own (Contains-permutation sorted found own (IsPermutation-sym found sorted same) there);
        };
        newest = λ i j d before below.
            let a = get_or sorted i d in
            let b = get_or sorted j d in
            let low : sequence_of b.entry.key ≤ sequence_of a.entry.key = ge_from_not_lt (sequence_of a.entry.key) (sequence_of b.entry.key) (sorted_far _ falls sorted up i j d (omega arith) below) in
            record {
              newer = low;
              own = λ file.
                  let ne : sequence_of a.entry.key ≡ sequence_of b.entry.key → ⊥ = two_sequences a b (apart_from_distinct same_place sorted i j d apart before below) file in
                  below_of (sequence_of b.entry.key) (sequence_of a.entry.key) low ne;
            };
      }

  -- no entry has a longer user key
  pub long_history : (cmp : List ℕ → List ℕ → Ordering) (files : List NewFile) → 65535 < length user → All (λ (f : NewFile). IsFileOf cmp tables f.meta) files → AreHistory user tables files []
  long_history cmp files long stated = record {
    all = record {
      each = λ f there e held own.
          let is : IsFileOf cmp tables f.meta = All-contains (λ (g : NewFile). IsFileOf cmp tables g.meta) files f stated there in
          let key : IsInternalKey e.key = All-contains (λ (x : Entry). IsInternalKey x.key) is.table.entries e is.keys (subst (λ (es : List Entry). Contains es e) (entries_are tables f.meta.number is.table is.there) held) in
          let short = length-user_of e.key key in
          let same : length (user_of e.key) ≡ length user = ap length own in
          absurd (omega arith);
      only = λ own there. absurd (none_in own there);
    };
    newest = λ i j d before below. absurd (omega arith);
  }

  -- the files as a sorted list has them
  pub lent_stated : (cmp : List ℕ → List ℕ → Ordering) (files : List NewFile) (listed : List LevelFile) → AreAll files (map level_file_in listed) → All (λ (f : NewFile). IsFileOf cmp tables f.meta) files
      → All (λ (f : LevelFile). IsFileOf cmp tables f.meta.now) listed
  lent_stated cmp files listed all stated k d below =
      let f = get_or listed k d in
      All-contains (λ (g : NewFile). IsFileOf cmp tables g.meta) files (level_file_in f) stated (all.only (level_file_in f) (in_map level_file_in listed f (Contains-get_or listed k d below)))
