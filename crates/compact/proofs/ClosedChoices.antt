-- Inputs over a lawful version are closed, and lie together among the files of the next level.
use Rattle.std.proofs.Common.{◌≡◌, ℕ, zero, suc, ◌+◌, ◌<◌, Bool, true, false, not, eqb, ◌||◌, List, ◌++◌, get_or, sym, ap, subst, inl, inr, refl, Some, arith}
use Rattle.std.specs.Prelude.{◌⊎◌, Contains}
use Rattle.std.specs.List.{All, filter, list_any}
use Rattle.std.specs.Cmp.{IsTotalOrder}
use Rattle.std.specs.Ordering.{is_lt, is_le, is_eq}
use Rattle.std.specs.declared.cmp.Ordering.{Ordering}
use Rattle.std.specs.declared.cmp.Ordering.TheVariants.{Less}
use Rattle.std.proofs.lemmas.Bool.Decides.{Decides-eqb}
use Rattle.std.proofs.lemmas.List.Elements.{Contains-get_or}
use Rattle.ikey.specs.Key.{user_of}
use Rattle.ikey.specs.Order.{internal_cmp}
use Rattle.table.specs.EncodedEntry.{Entry}
use Rattle.edit.specs.Version.{State}
use Rattle.edit.specs.VersionOrder.{level_files}
use Rattle.edit.specs.declared.meta.FileMeta.{FileMeta}
use Rattle.edit.specs.declared.meta.NewFile.{NewFile}
use Rattle.edit.proofs.SortedFiles.{same_number}
use Rattle.pick.specs.Ranges.{is_at_most, begins_by, ends_at_or_after, overlaps, holds_user, is_in_none}
use Rattle.pick.specs.Boundaries.{goes_on}
use Rattle.pick.specs.ClosedChoice.{IsClosedChoice, has_number_of, share_range, goes_with, is_needed_above, lies_among, is_needed_below}
use Rattle.pick.specs.PickedInputs.{PickedInputs}
use Rattle.pick.specs.declared.picked_inputs.InputFile.{InputFile}
use Rattle.pick.proofs.Lists.{IsIn, all_in, any_from, any_gives, and_both, and_first, and_second, or_left, or_right, false_true, in_filter, in_front, in_back}
use Rattle.pick.proofs.UserOrders.{le_trans}
use Rattle.reads.specs.Tables.{NumberedContents, table_entries}
use Rattle.reads.specs.Lawful.{IsLawful, AreDisjoint, AreNewer}
use Rattle.reads.proofs.Levels.{is_in, contains_in}
use Rattle.reads.proofs.Members.{from_filter, from_map}
use Rattle.reads.proofs.Newer.{newer_of}
use Rattle.compact.specs.ClosedInputs.{AreClosed, is_input, upper_inputs, is_within, IsNewerThanInputs, IsOlderThanInputs}
use Rattle.compact.specs.InputsOver.{AreInputsOver, as_file, input_numbers}
use Rattle.compact.proofs.ChosenNumbers.{chosen_is, closed_as}
use Rattle.compact.proofs.Closing.{refuted}
use Rattle.compact.proofs.ClosedLevels.{in_level, file_at, file_of, level_file_of, level_disjoint, shallower_newer, deeper_older}
use Rattle.compact.proofs.FileKeys.{keys_total, less_upto, user_upto, tied_both, user_from, user_to, holds_own, before_newer}
use Rattle.compact.proofs.BoundaryRanges.{begins_on, ends_on}
use Rattle.compact.proofs.Sides.{both_false, below_if}
use Rattle.compact.proofs.VersionInputs.{is_one}

module _ (cmp : List ℕ → List ℕ → Ordering) (total : IsTotalOrder cmp) (v : State) (tables : List NumberedContents) (lawful : IsLawful cmp v tables) where
  -- what holds of each input
  abbrev Newer : NewFile → FileMeta → Type 0
  Newer f m = AreNewer (table_entries tables f.meta.number) (table_entries tables m.number)

  -- ---- two files of a level

  -- from level 1 on, a file that doesn't go on within the user key with which another ends has the newer entries
  apart_newer : (n : ℕ) → 0 < n → (f : NewFile) → Contains v.files f → f.level ≡ n → (m : FileMeta) → IsIn (level_files cmp v n) m → same_number m f.meta ≡ false → goes_on cmp (Some m.largest) f.meta ≡ false → Newer f m
  apart_newer n deep f at own m there other stays = of_side (level_disjoint cmp total v tables lawful n deep m f.meta there (in_level cmp total v tables lawful f at n own) other)
    where
      none : internal_cmp cmp m.largest f.meta.smallest ≡ Less → (a b : Entry) → Contains (table_entries tables f.meta.number) a → Contains (table_entries tables m.number) b → user_of a.key ≡ user_of b.key → ⊥
      none lt a b i j same =
          let back : is_at_most cmp (user_of f.meta.smallest) (user_of m.largest) ≡ true =
          le_trans cmp total (user_of f.meta.smallest) (user_of a.key) (user_of m.largest) (user_from cmp total tables f.meta (file_of cmp total v tables lawful f at) a i)
          (subst (λ (u : List ℕ). is_at_most cmp u (user_of m.largest) ≡ true) (sym same) (user_to cmp total tables m (level_file_of cmp total v tables lawful n m there) b j)) in
          let tied = tied_both cmp total (user_of m.largest) (user_of f.meta.smallest) (user_upto cmp total m.largest f.meta.smallest (less_upto cmp total m.largest f.meta.smallest lt)) back in
          false_true (goes_on cmp (Some m.largest) f.meta) (and_both (is_lt (internal_cmp cmp m.largest f.meta.smallest)) (is_eq (cmp (user_of m.largest) (user_of f.meta.smallest))) (ap is_lt lt) (ap is_eq tied)) stays

      of_side : AreDisjoint cmp m f.meta → Newer f m
      of_side (inl lt) = newer_of (table_entries tables f.meta.number) (table_entries tables m.number) (λ a b i j same. absurd (none lt a b i j same))
      of_side (inr lt) =
          let b = file_at cmp total v tables lawful n m there in
          subst (λ (x : FileMeta). Newer f x) b.is (before_newer cmp total v tables lawful f b.file at b.there (subst (λ (x : FileMeta). internal_cmp cmp f.meta.largest x.smallest ≡ Less) (sym b.is) lt))

  -- a file of a level that doesn't have to go with another has the newer entries
  beside_newer : (n : ℕ) (f : NewFile) → Contains v.files f → f.level ≡ n → (m : FileMeta) → IsIn (level_files cmp v n) m → same_number m f.meta ≡ false → goes_with cmp n m f.meta ≡ false → Newer f m
  beside_newer zero f at own m there other stays =
      let of_f = file_of cmp total v tables lawful f at in
      let of_m = level_file_of cmp total v tables lawful 0 m there in
      newer_of (table_entries tables f.meta.number) (table_entries tables m.number)
      (λ a b i j same.
      false_true (share_range cmp m f.meta)
      (and_both (is_at_most cmp (user_of m.smallest) (user_of f.meta.largest)) (is_at_most cmp (user_of f.meta.smallest) (user_of m.largest))
      (le_trans cmp total (user_of m.smallest) (user_of a.key) (user_of f.meta.largest) (subst (λ (u : List ℕ). is_at_most cmp (user_of m.smallest) u ≡ true) (sym same) (user_from cmp total tables m of_m b j)) (user_to cmp total tables f.meta of_f a i))
      (le_trans cmp total (user_of f.meta.smallest) (user_of a.key) (user_of m.largest) (user_from cmp total tables f.meta of_f a i) (subst (λ (u : List ℕ). is_at_most cmp u (user_of m.largest) ≡ true) (sym same) (user_to cmp total tables m of_m b j))))
      stays)
  beside_newer (suc n) f at own m there other stays = apart_newer (suc n) (omega arith) f at own m there other stays

  module _ (p : PickedInputs) (over : AreInputsOver cmp v p) where
    abbrev taken : FileMeta → Bool
    taken f = is_input p f.number

    abbrev upper : List FileMeta
    upper = filter taken (level_files cmp v p.level)

    abbrev lower : List FileMeta
    lower = filter taken (level_files cmp v (p.level + 1))

    closed : IsClosedChoice cmp v p.level (λ (f : FileMeta). is_input p f.number)
    closed = closed_as cmp v p.level (has_number_of (input_numbers p)) taken (chosen_is p) over.closed

    -- an input is among the chosen files of its level
    input_at : (n : ℕ) (i : InputFile) → Contains p.files i → i.level ≡ n → IsIn (level_files cmp v n) i.meta × IsIn (filter taken (level_files cmp v n)) i.meta
    input_at n i at own =
        let there = in_level cmp total v tables lawful (as_file i) (over.files i at) n own in
        (there, in_filter taken (level_files cmp v n) i.meta there (is_one p i i.meta.number at refl))

    -- an input has another number than a file that is none
    other_number : (i : InputFile) → Contains p.files i → (f : FileMeta) → taken f ≡ false → same_number i.meta f ≡ false
    other_number i at f out = refuted (same_number i.meta f) (λ same. false_true (taken f) (is_one p i f.number at ((Decides-eqb i.meta.number f.number).0 same)) out)

    -- what holds of the inputs of either level holds of all
    each : (P : FileMeta → Type 0) → ((i : InputFile) → Contains p.files i → i.level ≡ p.level → P i.meta) → ((i : InputFile) → Contains p.files i → i.level ≡ p.level + 1 → P i.meta) → All (λ (i : InputFile). P i.meta) p.files
    each P first second k d lt =
        let i = get_or p.files k d in
        let at = Contains-get_or p.files k d lt in
        of_level i at (over.levels i at)
      where
        of_level : (i : InputFile) → Contains p.files i → (i.level ≡ p.level) ⊎ (i.level ≡ p.level + 1) → P i.meta
        of_level i at (inl own) = first i at own
        of_level i at (inr own) = second i at own

    -- ---- files that stay don't have to go with the inputs

    module _ (f : NewFile) (at : Contains v.files f) (out : is_input p f.meta.number ≡ false) where
      module _ (own : f.level ≡ p.level) where
        free_above : is_needed_above cmp p.level upper f.meta ≡ false
        free_above =
            refuted (is_needed_above cmp p.level upper f.meta)
            (λ needed.
            false_true (taken f.meta) (all_in (λ (q : FileMeta). is_needed_above cmp p.level upper q ≡ true → taken q ≡ true) (level_files cmp v p.level) closed.above f.meta (in_level cmp total v tables lawful f at p.level own) needed) out)

        pub same_level : IsNewerThanInputs tables p f
        same_level =
            each (Newer f)
            (λ i there level.
            let places = input_at p.level i there level in
            beside_newer p.level f at own i.meta places.0 (other_number i there f.meta out)
            (refuted (goes_with cmp p.level i.meta f.meta) (λ goes. false_true (is_needed_above cmp p.level upper f.meta) (any_from (λ (g : FileMeta). goes_with cmp p.level g f.meta) upper i.meta places.1 goes) free_above)))
            (λ i there level. shallower_newer cmp total v tables lawful f at (p.level + 1) (omega (arith, own)) i.meta (input_at (p.level + 1) i there level).0)

      module _ (own : f.level ≡ p.level + 1) where
        free_below : is_needed_below cmp upper lower f.meta ≡ false
        free_below =
            refuted (is_needed_below cmp upper lower f.meta)
            (λ needed.
            false_true (taken f.meta) (all_in (λ (q : FileMeta). is_needed_below cmp upper lower q ≡ true → taken q ≡ true) (level_files cmp v (p.level + 1)) closed.below f.meta (in_level cmp total v tables lawful f at (p.level + 1) own) needed) out)

        abbrev goes_below : Bool
        goes_below = list_any (λ (g : FileMeta). goes_on cmp (Some g.largest) f.meta) lower

        no_overlap : overlaps cmp upper f.meta ≡ true → ⊥
        no_overlap h = false_true (is_needed_below cmp upper lower f.meta) (or_left (overlaps cmp upper f.meta || goes_below) (lies_among cmp (upper ++ lower) f.meta) (or_left (overlaps cmp upper f.meta) goes_below h)) free_below

        no_boundary : goes_below ≡ true → ⊥
        no_boundary h =
            false_true (is_needed_below cmp upper lower f.meta)
            (or_left (overlaps cmp upper f.meta || goes_below) (lies_among cmp (upper ++ lower) f.meta) (or_right (overlaps cmp upper f.meta) goes_below h)) free_below

        not_among : lies_among cmp (upper ++ lower) f.meta ≡ false
        not_among =
            refuted (lies_among cmp (upper ++ lower) f.meta)
            (λ h.
            false_true (is_needed_below cmp upper lower f.meta)
            (or_right (overlaps cmp upper f.meta || goes_below) (lies_among cmp (upper ++ lower) f.meta) h) free_below)

        -- no user key of the file is in the range of the level's inputs
        not_within : (e : Entry) → Contains (table_entries tables f.meta.number) e → begins_by cmp upper (user_of e.key) ≡ true → ends_at_or_after cmp upper (user_of e.key) ≡ true → ⊥
        not_within e i begins ends =
            let of_f = file_of cmp total v tables lawful f at in
            no_overlap
            (and_both (begins_by cmp upper (user_of f.meta.largest)) (ends_at_or_after cmp upper (user_of f.meta.smallest))
            (begins_on cmp total upper (user_of e.key) (user_of f.meta.largest) begins (user_to cmp total tables f.meta of_f e i))
            (ends_on cmp total upper (user_of e.key) (user_of f.meta.smallest) ends (user_from cmp total tables f.meta of_f e i)))

        pub next_level : IsNewerThanInputs tables p f
        next_level =
            each (Newer f)
            (λ i there level.
            let places = input_at p.level i there level in
            let of_i = level_file_of cmp total v tables lawful p.level i.meta places.0 in
            newer_of (table_entries tables f.meta.number) (table_entries tables i.meta.number)
            (λ a b j k same.
            absurd
            (not_within a j
            (any_from (λ (g : FileMeta). is_at_most cmp (user_of g.smallest) (user_of a.key)) upper i.meta places.1 (subst (λ (u : List ℕ). is_at_most cmp (user_of i.meta.smallest) u ≡ true) (sym same) (user_from cmp total tables i.meta of_i b k)))
            (any_from (λ (g : FileMeta). is_at_most cmp (user_of a.key) (user_of g.largest)) upper i.meta places.1 (subst (λ (u : List ℕ). is_at_most cmp u (user_of i.meta.largest) ≡ true) (sym same) (user_to cmp total tables i.meta of_i b k))))))
            (λ i there level.
            let places = input_at (p.level + 1) i there level in
            apart_newer (p.level + 1) (omega arith) f at own i.meta places.0 (other_number i there f.meta out)
            (refuted (goes_on cmp (Some i.meta.largest) f.meta) (λ goes. no_boundary (any_from (λ (g : FileMeta). goes_on cmp (Some g.largest) f.meta) lower i.meta places.1 goes))))

        of_upper : (q : FileMeta) → Contains (upper_inputs p) q → IsIn upper q
        of_upper q i =
            let x = from_map (λ (y : InputFile). y.meta) (filter (λ (y : InputFile). eqb y.level p.level) p.files) q i in
            let kept = from_filter (λ (y : InputFile). eqb y.level p.level) p.files x.source x.there in
            subst (IsIn upper) x.is (input_at p.level x.source kept.0 ((Decides-eqb x.source.level p.level).0 kept.1)).1

        pub next_level_apart : All (λ (e : Entry). is_within cmp (upper_inputs p) (user_of e.key) ≡ false) (table_entries tables f.meta.number)
        next_level_apart k d less =
            let e = get_or (table_entries tables f.meta.number) k d in
            let user = user_of e.key in
            refuted (is_within cmp (upper_inputs p) user)
            (λ within.
            let begins = any_gives (λ (g : FileMeta). is_at_most cmp (user_of g.smallest) user) (upper_inputs p) (and_first (begins_by cmp (upper_inputs p) user) (ends_at_or_after cmp (upper_inputs p) user) within) in
            let ends = any_gives (λ (g : FileMeta). is_at_most cmp user (user_of g.largest)) (upper_inputs p) (and_second (begins_by cmp (upper_inputs p) user) (ends_at_or_after cmp (upper_inputs p) user) within) in
            not_within e (Contains-get_or (table_entries tables f.meta.number) k d less)
            (any_from (λ (g : FileMeta). is_at_most cmp (user_of g.smallest) user) upper begins.item (of_upper begins.item (contains_in (upper_inputs p) begins.item begins.inside)) begins.passes)
            (any_from (λ (g : FileMeta). is_at_most cmp user (user_of g.largest)) upper ends.item (of_upper ends.item (contains_in (upper_inputs p) ends.item ends.inside)) ends.passes))

        -- ---- and lie wholly before them, or wholly after them

        abbrev Before : FileMeta → Type 0
        Before m = internal_cmp cmp f.meta.largest m.smallest ≡ Less

        abbrev Behind : FileMeta → Type 0
        Behind m = internal_cmp cmp m.largest f.meta.smallest ≡ Less

        of_all : (P : FileMeta → Type 0) → ((m : FileMeta) → IsIn (upper ++ lower) m → P m) → All (λ (i : InputFile). P i.meta) p.files
        of_all P all = each P (λ i there level. all i.meta (in_front upper lower i.meta (input_at p.level i there level).1)) (λ i there level. all i.meta (in_back upper lower i.meta (input_at (p.level + 1) i there level).1))

        keys_below : (a b : List ℕ) → is_le (internal_cmp cmp a b) ≡ false → internal_cmp cmp b a ≡ Less
        keys_below a b h = below_if (internal_cmp cmp) (keys_total cmp total) a b h

        pub lies_beside : All (λ (i : InputFile). internal_cmp cmp f.meta.largest i.meta.smallest ≡ Less) p.files ⊎ All (λ (i : InputFile). internal_cmp cmp i.meta.largest f.meta.smallest ≡ Less) p.files
        lies_beside = of_side (both_false (list_any (λ (g : FileMeta). is_le (internal_cmp cmp g.smallest f.meta.largest)) (upper ++ lower)) (list_any (λ (g : FileMeta). is_le (internal_cmp cmp f.meta.smallest g.largest)) (upper ++ lower)) not_among)
          where
            of_side : (list_any (λ (g : FileMeta). is_le (internal_cmp cmp g.smallest f.meta.largest)) (upper ++ lower) ≡ false) ⊎ (list_any (λ (g : FileMeta). is_le (internal_cmp cmp f.meta.smallest g.largest)) (upper ++ lower) ≡ false)
                → All (λ (i : InputFile). Before i.meta) p.files ⊎ All (λ (i : InputFile). Behind i.meta) p.files
            of_side (inl none) =
                inl (of_all Before (λ m i. keys_below m.smallest f.meta.largest (refuted (is_le (internal_cmp cmp m.smallest f.meta.largest)) (λ le. false_true (list_any (λ (g : FileMeta). is_le (internal_cmp cmp g.smallest f.meta.largest)) (upper ++ lower)) (any_from (λ (g : FileMeta). is_le (internal_cmp cmp g.smallest f.meta.largest)) (upper ++ lower) m i le) none))))
            of_side (inr none) =
                inr (of_all Behind (λ m i. keys_below f.meta.smallest m.largest (refuted (is_le (internal_cmp cmp f.meta.smallest m.largest)) (λ le. false_true (list_any (λ (g : FileMeta). is_le (internal_cmp cmp f.meta.smallest g.largest)) (upper ++ lower)) (any_from (λ (g : FileMeta). is_le (internal_cmp cmp f.meta.smallest g.largest)) (upper ++ lower) m i le) none))))

    -- ---- the other levels

    shallower : (f : NewFile) → Contains v.files f → f.level < p.level → IsNewerThanInputs tables p f
    shallower f at lt =
        each (Newer f) (λ i there level. shallower_newer cmp total v tables lawful f at p.level lt i.meta (input_at p.level i there level).0)
        (λ i there level. shallower_newer cmp total v tables lawful f at (p.level + 1) (omega (arith, lt)) i.meta (input_at (p.level + 1) i there level).0)

    deeper : (f : NewFile) → Contains v.files f → p.level + 1 < f.level → IsOlderThanInputs tables p f
    deeper f at lt =
        each (λ (m : FileMeta). AreNewer (table_entries tables m.number) (table_entries tables f.meta.number)) (λ i there level. deeper_older cmp total v tables lawful f at p.level (omega (arith, lt)) i.meta (input_at p.level i there level).0)
        (λ i there level. deeper_older cmp total v tables lawful f at (p.level + 1) lt i.meta (input_at (p.level + 1) i there level).0)

    at_base : (f : NewFile) → Contains v.files f → p.level + 1 < f.level → All (λ (e : Entry). is_in_none cmp p.deeper (user_of e.key) ≡ false) (table_entries tables f.meta.number)
    at_base f at lt k d less =
        let e = get_or (table_entries tables f.meta.number) k d in
        ap not
        (any_from (holds_user cmp (user_of e.key)) p.deeper f.meta (is_in p.deeper f.meta (over.deeper f at lt))
        (holds_own cmp total tables f.meta (file_of cmp total v tables lawful f at) e (Contains-get_or (table_entries tables f.meta.number) k d less)))

    pub are_closed : AreClosed cmp v tables p
    are_closed = record {
      same_level = same_level;
      next_level_apart = next_level_apart;
      next_level = next_level;
      shallower = shallower;
      deeper = deeper;
      at_base = at_base;
    }
