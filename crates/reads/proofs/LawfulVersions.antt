-- A version is lawful exactly if each file is what it states, each comes before the next one, and
-- the entries of each user key fall.
use Rattle.std.proofs.Common.{◌≡◌, ℕ, zero, suc, ◌+◌, ◌<◌, ◌≤◌, Bool, true, false, List, [], ◌∷◌, length, map, get_or, refl, sym, ap, subst, ◌∙◌, inl, inr, arith, eq-or-lt_of_le}
use Rattle.std.specs.Prelude.{◌≢◌, ◌⊎◌, Contains}
use Rattle.std.specs.Cmp.{IsTotalOrder}
use Rattle.std.specs.declared.cmp.Ordering.{Ordering}
use Rattle.std.specs.declared.cmp.Ordering.TheVariants.{Less}
use Rattle.std.proofs.lemmas.Bool.{cases_lt}
use Rattle.std.proofs.lemmas.List.Elements.{All-contains, Contains-get_or}
use Rattle.ikey.specs.Key.{IsInternalKey, user_of, sequence_of}
use Rattle.ikey.specs.Order.{internal_cmp}
use Rattle.ikey.proofs.Ordered.{internal_cmp-total}
use Rattle.table.specs.EncodedEntry.{Entry}
use Rattle.table.specs.EntriesFrom.{EntriesRise}
use Rattle.edit.specs.Version.{State}
use Rattle.edit.specs.declared.meta.NewFile.{NewFile}
use Rattle.reads.specs.declared.level_file.LevelFile.{LevelFile}
use Rattle.reads.specs.Tables.{NumberedContents, table_entries, all_entries}
use Rattle.reads.specs.Lawful.{IsLawful, IsFileOf, IsBelowNextFile, AreDisjoint, AreDistinct, AreNewer, StandsAbove}
use Rattle.reads.specs.FileChecks.{IsStatedFile, IsSoundFile, AreListed, AreInTurn}
use Rattle.reads.specs.FileList.{level_file_in, AreAll}
use Rattle.reads.specs.TableOrder.{IsNewer, AreFalling}
use Rattle.reads.proofs.Members.{in_flat_map, from_flat_map, in_map}
use Rattle.reads.proofs.Orders.{later_older}
use Rattle.reads.proofs.Answers.{entries_are, first_or_above, last_or_below}
use Rattle.reads.proofs.Newer.{newer_at, newer_of}
use Rattle.reads.proofs.FallingEntries.{each_of}
use Rattle.reads.proofs.Pairs.{Pairs, pairs_from, pairs_to, pairs_right, pairs_across, pairs_part, pairs_of_two, pairs_joined, pairs_unmap, pairs_weaker, pairs_within, pairs_both, pairs_two}
use Rattle.reads.proofs.OrderedFiles.{Before, before_decides, at_top, top_at, at_depth, depth_at}
use Rattle.reads.proofs.FileOrder.{is_range, comes_before}
pub use Rattle.reads.proofs.Apart.{one_number}
use Rattle.reads.proofs.Apart.{apart_places, AreTwo, distinct_pairs}

-- what rises and has no version twice falls
rising_newer : (cmp : List ℕ → List ℕ → Ordering) → IsTotalOrder cmp → (es : List Entry) → EntriesRise cmp es → Pairs AreDistinct es → Pairs IsNewer es
rising_newer cmp total [] rising pairs = tt
rising_newer cmp total (e ∷ es) rising pairs = (
  λ f at same.
      let below : internal_cmp cmp e.key f.key ≡ Less = each_of (λ (x : Entry). internal_cmp cmp e.key x.key ≡ Less) es rising.0 f at in
      let le : sequence_of f.key ≤ sequence_of e.key = later_older cmp total e.key f.key below same in
      elim (eq-or-lt_of_le le) [ inl tie ↦ absurd (pairs.0 f at same (sym tie)) | inr lt ↦ lt ],
  rising_newer cmp total es rising.1 pairs.1,
)

newer_distinct : (a b : Entry) → IsNewer a b → AreDistinct a b
newer_distinct a b newer same tie = let lt : sequence_of b.key < sequence_of a.key = newer same in absurd (omega arith)

module _ (cmp : List ℕ → List ℕ → Ordering) (total : IsTotalOrder cmp) (v : State) (tables : List NumberedContents) where
  abbrev held : NewFile → List Entry
  held f = table_entries tables f.meta.number

  -- one of two files stands before the other, and has newer entries
  abbrev Ordered : NewFile → NewFile → Type 0
  Ordered f g = (Before cmp f g × AreNewer (held f) (held g)) ⊎ (Before cmp g f × AreNewer (held g) (held f))

  -- files whose entries fall, one after the other
  newer_pairs : (fs : List NewFile) → Pairs IsNewer (all_entries tables fs) → Pairs (λ f g. AreNewer (held f) (held g)) fs
  newer_pairs [] pairs = tt
  newer_pairs (f ∷ fs) pairs = (
    λ g at. newer_of (held f) (held g) (λ a b i j same. pairs_across IsNewer (held f) (all_entries tables fs) pairs a b i (in_flat_map held fs g b at j) same),
    newer_pairs fs (pairs_right IsNewer (held f) (all_entries tables fs) pairs),
  )

  -- ---- what is lawful if all that is asked holds

  module _ (listed : List NewFile) (all : AreAll v.files listed) (stated : (f : NewFile) → Contains listed f → IsStatedFile cmp tables v.next_file f.meta) (before : Pairs (Before cmp) listed) (falling : AreFalling (all_entries tables listed)) where
    newer : Pairs IsNewer (all_entries tables listed)
    newer = pairs_from IsNewer (all_entries tables listed) falling.newer

    sound_at : (f : NewFile) → Contains v.files f → IsSoundFile cmp tables v.next_file f.meta
    sound_at f at =
        let is = stated f (all.all f at) in
        let whole : held f ≡ is.table.entries = entries_are tables f.meta.number is.table is.there in
        record {
          file = record {
            table = is.table;
            there = is.there;
            accepted = is.accepted;
            keys = λ k d lt. All-contains (λ (e : Entry). IsInternalKey e.key) (all_entries tables listed) (get_or is.table.entries k d) falling.keys
                (in_flat_map held listed f (get_or is.table.entries k d) (all.all f at) (subst (λ (es : List Entry). Contains es (get_or is.table.entries k d)) (sym whole) (Contains-get_or is.table.entries k d lt)));
            rising = is.rising;
            size = is.size;
            smallest = is.smallest;
            largest = is.largest;
          };
          below_next = is.below_next;
          distinct = pairs_to AreDistinct (held f) (pairs_weaker IsNewer AreDistinct newer_distinct (held f) (pairs_part IsNewer held listed f newer (all.all f at)));
        }

    order_at : (f g : NewFile) → Contains v.files f → Contains v.files g → f.meta.number ≢ g.meta.number → Ordered f g
    order_at f g i j other =
        pairs_two (λ f g. Before cmp f g × AreNewer (held f) (held g)) listed f g (λ same. other (ap (λ (x : NewFile). x.meta.number) same))
        (pairs_both (Before cmp) (λ f g. AreNewer (held f) (held g)) listed before (newer_pairs listed newer)) (all.all f i) (all.all g j)

    disjoint_by : (f g : NewFile) → f.level ≡ g.level → 0 < f.level → Ordered f g → AreDisjoint cmp f.meta g.meta
    disjoint_by f g same deep (inl (inl lt, newer)) = absurd (omega arith)
    disjoint_by f g same deep (inl (inr at, newer)) = inl (at_depth cmp f g deep at.1)
    disjoint_by f g same deep (inr (inl lt, newer)) = absurd (omega arith)
    disjoint_by f g same deep (inr (inr at, newer)) = inr (at_depth cmp g f (omega arith) at.1)

    above_by : (f g : NewFile) → StandsAbove f g → Ordered f g → AreNewer (held f) (held g)
    above_by f g above (inl (before, newer)) = newer
    above_by f g (inl lt) (inr (inl back, newer)) = absurd (omega arith)
    above_by f g (inl lt) (inr (inr at, newer)) = let same : g.level ≡ f.level = at.0 in absurd (omega arith)
    above_by f g (inr top) (inr (inl back, newer)) = let zero : f.level ≡ 0 = top.0 in absurd (omega arith)
    above_by f g (inr top) (inr (inr at, newer)) = let lt : f.meta.number < g.meta.number = at_top cmp g f top.1 at.1 in let back : g.meta.number < f.meta.number = top.2 in absurd (omega arith)

    -- what stands above is another file
    other_file : (f g : NewFile) → Contains v.files f → Contains v.files g → StandsAbove f g → f.meta.number ≢ g.meta.number
    other_file f g i j (inl lt) same = let one : f.level ≡ g.level = ap (λ (x : NewFile). x.level) (one_number v.files all.apart f g i j same) in absurd (omega arith)
    other_file f g i j (inr top) same = let back : g.meta.number < f.meta.number = top.2 in absurd (omega arith)

    distinct_by : (f g : NewFile) → Ordered f g → (a b : Entry) → Contains (held f) a → Contains (held g) b → AreDistinct a b
    distinct_by f g (inl h) a b i j user sequence = let lt : sequence_of b.key < sequence_of a.key = newer_at (held f) (held g) h.1 a b i j user in absurd (omega arith)
    distinct_by f g (inr h) a b i j user sequence = let lt : sequence_of a.key < sequence_of b.key = newer_at (held g) (held f) h.1 b a j i (sym user) in absurd (omega arith)

    pub lawful_of : IsLawful cmp v tables
    lawful_of = record {
      files = λ k d lt. (sound_at (get_or v.files k d) (Contains-get_or v.files k d lt)).file;
      apart = all.apart;
      below_next = λ k d lt. (sound_at (get_or v.files k d) (Contains-get_or v.files k d lt)).below_next;
      disjoint = λ f g i j same deep other. disjoint_by f g same deep (order_at f g i j other);
      sequences_once = pairs_to AreDistinct (all_entries tables v.files)
          (pairs_joined AreDistinct held v.files (λ f at. pairs_from AreDistinct (held f) (sound_at f at).distinct)
          (λ i j d lt below a b k l.
          distinct_by (get_or v.files i d) (get_or v.files j d)
          (order_at (get_or v.files i d) (get_or v.files j d) (Contains-get_or v.files i d (omega arith)) (Contains-get_or v.files j d below) (apart_places v.files all.apart i j d lt below)) a b k l));
      newer_above = λ f g i j above. above_by f g above (order_at f g i j (other_file f g i j above));
    }

  -- ---- what holds if the version is lawful

  module _ (lawful : IsLawful cmp v tables) where
    file_at : (f : NewFile) → Contains v.files f → IsFileOf cmp tables f.meta
    file_at f at = All-contains (λ (g : NewFile). IsFileOf cmp tables g.meta) v.files f lawful.files at

    pairs : Pairs AreDistinct (all_entries tables v.files)
    pairs = pairs_from AreDistinct (all_entries tables v.files) lawful.sequences_once

    -- entries of one user key in two files have two sequences
    two_sequences : (f g : NewFile) → Contains v.files f → Contains v.files g → f.meta.number ≢ g.meta.number → (a b : Entry) → Contains (held f) a → Contains (held g) b → user_of a.key ≡ user_of b.key → sequence_of a.key ≢ sequence_of b.key
    two_sequences f g i j other a b k l user sequence =
        elim (pairs_of_two AreDistinct held v.files f g a b (λ e. other (ap (λ (x : NewFile). x.meta.number) e)) pairs i j k l) [
          | inl apart ↦ apart user sequence
          | inr apart ↦ apart (sym user) (sym sequence)
        ]

    less_trans : (a b c : List ℕ) → internal_cmp cmp a b ≡ Less → internal_cmp cmp b c ≡ Less → internal_cmp cmp a c ≡ Less
    less_trans a b c = (internal_cmp-total total).trans a b c

    -- each entry of a file whose range is below that of another is before each entry of that
    before_entry : (f g : NewFile) → Contains v.files f → Contains v.files g → internal_cmp cmp f.meta.largest g.meta.smallest ≡ Less → (a b : Entry) → Contains (held f) a → Contains (held g) b → internal_cmp cmp a.key b.key ≡ Less
    before_entry f g i j below a b k l =
        let is = file_at f i in
        let also = file_at g j in
        let has : Contains is.table.entries a = subst (λ (es : List Entry). Contains es a) (entries_are tables f.meta.number is.table is.there) k in
        let has_too : Contains also.table.entries b = subst (λ (es : List Entry). Contains es b) (entries_are tables g.meta.number also.table also.there) l in
        let up_to : internal_cmp cmp a.key g.meta.smallest ≡ Less = elim (last_or_below cmp total is.table.entries f.meta.largest a is.rising is.largest has) [
          | inl one ↦ subst (λ (x : List ℕ). internal_cmp cmp x g.meta.smallest ≡ Less) (sym one) below
          | inr earlier ↦ less_trans a.key f.meta.largest g.meta.smallest earlier below
        ] in
        elim (first_or_above cmp total also.table.entries g.meta.smallest b also.rising also.smallest has_too) [
          | inl one ↦ subst (λ (x : List ℕ). internal_cmp cmp a.key x ≡ Less) (sym one) up_to
          | inr later ↦ less_trans a.key g.meta.smallest b.key up_to later
        ]

    newer_below : (f g : NewFile) → Contains v.files f → Contains v.files g → f.meta.number ≢ g.meta.number → internal_cmp cmp f.meta.largest g.meta.smallest ≡ Less → AreNewer (held f) (held g)
    newer_below f g i j other below =
        newer_of (held f) (held g)
        (λ a b k l user.
        let le : sequence_of b.key ≤ sequence_of a.key = later_older cmp total a.key b.key (before_entry f g i j below a b k l) user in
        elim (eq-or-lt_of_le le) [ inl e ↦ absurd (two_sequences f g i j other a b k l user (sym e)) | inr lt ↦ lt ])

    zero_or_deep : (n : ℕ) → (n ≡ 0) ⊎ (0 < n)
    zero_or_deep zero = inl refl
    zero_or_deep (suc n) = inr (omega arith)

    newer_if_before : (f g : NewFile) → Contains v.files f → Contains v.files g → f.meta.number ≢ g.meta.number → Before cmp f g → AreNewer (held f) (held g)
    newer_if_before f g i j other (inl lt) = lawful.newer_above f g i j (inl lt)
    newer_if_before f g i j other (inr at) =
        elim (zero_or_deep f.level) [
          | inl top ↦ lawful.newer_above f g i j (inr (top, sym at.0 ∙ top, at_top cmp f g top at.1))
          | inr deep ↦ newer_below f g i j other (at_depth cmp f g deep at.1)
        ]

    one_before : (f g : NewFile) → Contains v.files f → Contains v.files g → f.meta.number ≢ g.meta.number → Before cmp f g ⊎ Before cmp g f
    one_before f g i j other = by_levels (cases_lt f.level g.level)
      where
        by_numbers : f.level ≡ g.level → f.level ≡ 0 → (f.meta.number < g.meta.number) ⊎ (g.meta.number ≤ f.meta.number) → Before cmp f g ⊎ Before cmp g f
        by_numbers same top (inl lt) = inr (inr (sym same, top_at cmp g f (sym same ∙ top) lt))
        by_numbers same top (inr le) = elim (eq-or-lt_of_le le) [ inl e ↦ absurd (other (sym e)) | inr lt ↦ inl (inr (same, top_at cmp f g top lt)) ]

        by_ranges : f.level ≡ g.level → 0 < f.level → AreDisjoint cmp f.meta g.meta → Before cmp f g ⊎ Before cmp g f
        by_ranges same deep (inl below) = inl (inr (same, depth_at cmp f g deep below))
        by_ranges same deep (inr above) = inr (inr (sym same, depth_at cmp g f (omega arith) above))

        at_one_level : f.level ≡ g.level → Before cmp f g ⊎ Before cmp g f
        at_one_level same = elim (zero_or_deep f.level) [ inl top ↦ by_numbers same top (cases_lt f.meta.number g.meta.number) | inr deep ↦ by_ranges same deep (lawful.disjoint f g i j same deep other) ]

        by_levels : (f.level < g.level) ⊎ (g.level ≤ f.level) → Before cmp f g ⊎ Before cmp g f
        by_levels (inl lt) = inl (inl lt)
        by_levels (inr le) = elim (eq-or-lt_of_le le) [ inl e ↦ at_one_level (sym e) | inr lt ↦ inr (inl lt) ]

    pub is_as_stated : (f : NewFile) → Contains v.files f → IsStatedFile cmp tables v.next_file f.meta
    is_as_stated f at =
        let is = file_at f at in
        record {
          table = is.table;
          there = is.there;
          accepted = is.accepted;
          rising = is.rising;
          size = is.size;
          smallest = is.smallest;
          largest = is.largest;
          below_next = All-contains (λ (g : NewFile). IsBelowNextFile v.next_file g.meta.number) v.files f lawful.below_next at;
        }

    module _ (items : List LevelFile) (listing : AreListed cmp v.files items) where
      there : (k : ℕ) (d : LevelFile) → k < length items → Contains v.files (level_file_in (get_or items k d))
      there k d lt = listing.all.only (level_file_in (get_or items k d)) (in_map level_file_in items (get_or items k d) (Contains-get_or items k d lt))

      two : Pairs AreTwo (map level_file_in items)
      two = distinct_pairs (map level_file_in items) listing.all.distinct

      pub stand_in_turn : AreInTurn cmp items
      stand_in_turn k d lt =
          let f = level_file_in (get_or items k d) in
          let g = level_file_in (get_or items (k + 1) d) in
          let at = there k d (omega arith) in
          let next = there (k + 1) d lt in
          let other : f.meta.number ≢ g.meta.number = pairs_to (λ x y. AreTwo (level_file_in x) (level_file_in y)) items (pairs_unmap AreTwo level_file_in items two) k (k + 1) d (omega arith) lt in
          elim (one_before f g at next other) [
            | inl before ↦ (before_decides cmp f g).1 before
            | inr back ↦ absurd (clash (comes_before cmp total g f (is_range cmp total tables v.next_file g (is_as_stated g next)) back) (listing.sorted k d (omega arith) lt))
          ]
        where
          clash : {b : Bool} → b ≡ true → b ≡ false → ⊥
          clash {b = b} e k = let both : true ≡ false = sym e ∙ k in absurd cc

      -- each entry of a file is newer than those of its user key in a file that it stands before
      across : (f g : NewFile) → Contains (map level_file_in items) f → Contains (map level_file_in items) g → Before cmp f g × AreTwo f g → (a b : Entry) → Contains (held f) a → Contains (held g) b → IsNewer a b
      across f g i j h a b k l same =
          newer_at (held f) (held g) (newer_if_before f g (listing.all.only f i) (listing.all.only g j) h.1 h.0) a b k l same

      own_newer : (f : NewFile) → Contains (map level_file_in items) f → Pairs IsNewer (held f)
      own_newer f at =
          let in_version = listing.all.only f at in
          let is = file_at f in_version in
          let whole : held f ≡ is.table.entries = entries_are tables f.meta.number is.table is.there in
          subst (Pairs IsNewer) (sym whole) (rising_newer cmp total is.table.entries is.rising (subst (Pairs AreDistinct) whole (pairs_part AreDistinct held v.files f pairs in_version)))

      own_keys : (e : Entry) → Contains (all_entries tables (map level_file_in items)) e → IsInternalKey e.key
      own_keys e at =
          let from = from_flat_map held (map level_file_in items) e at in
          let is = file_at from.source (listing.all.only from.source from.there) in
          All-contains (λ (x : Entry). IsInternalKey x.key) is.table.entries e is.keys (subst (λ (es : List Entry). Contains es e) (entries_are tables from.source.meta.number is.table is.there) from.held)

      pub entries_fall : Pairs (Before cmp) (map level_file_in items) → AreFalling (all_entries tables (map level_file_in items))
      entries_fall before = record {
        keys = λ k d lt. own_keys (get_or (all_entries tables (map level_file_in items)) k d) (Contains-get_or (all_entries tables (map level_file_in items)) k d lt);
        newer = pairs_to IsNewer (all_entries tables (map level_file_in items)) (pairs_joined IsNewer held (map level_file_in items) own_newer
            (pairs_to (λ f g. (a b : Entry) → Contains (held f) a → Contains (held g) b → IsNewer a b) (map level_file_in items)
            (pairs_within (λ f g. Before cmp f g × AreTwo f g) (λ f g. (a b : Entry) → Contains (held f) a → Contains (held g) b → IsNewer a b) (map level_file_in items) across
            (pairs_both (Before cmp) AreTwo (map level_file_in items) before two))));
      }
