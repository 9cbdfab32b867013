-- Each get at a readable sequence answers as before, if the version after holds what is kept of
-- the inputs' union.
use Rattle.std.proofs.Common.{◌≡◌, ℕ, ◌<◌, ◌≤◌, Bool, true, false, cond, List, [], ◌∷◌, ◌++◌, refl, sym, ap, subst, ◌∙◌, inl, inr, arith}
use Rattle.std.specs.Prelude.{◌⊎◌, Contains, Option, Some, None, if◌then◌else◌}
use Rattle.std.specs.List.{All, filter, flat_map}
use Rattle.std.specs.Cmp.{IsTotalOrder}
use Rattle.std.specs.Ordering.{nat_cmp, ordering_then}
use Rattle.std.specs.declared.cmp.Ordering.{Ordering}
use Rattle.std.specs.declared.cmp.Ordering.TheVariants.{Less, Equal, Greater}
use Rattle.std.proofs.lemmas.Cmp.{tied_itself}
use Rattle.std.proofs.lemmas.List.Elements.{Contains-append_left, Contains-append_right, Contains-append_cases}
use Rattle.std.proofs.lemmas.List.Sorted.{Contains-permutation, IsPermutation-sym}
use Rattle.std.proofs.lemmas.Slice.Eq.{bytes_eq-Decides}
use Rattle.ikey.specs.Key.{user_of, sequence_of}
use Rattle.ikey.specs.Comparator.{IsExact}
use Rattle.table.specs.EncodedEntry.{Entry}
use Rattle.edit.specs.Version.{State}
use Rattle.edit.specs.declared.meta.FileMeta.{FileMeta}
use Rattle.edit.specs.declared.meta.NewFile.{NewFile}
use Rattle.reads.specs.MergedLists.{entries_of_lists}
use Rattle.reads.specs.Union.{key_version_cmp, VersionsRise, IsUnion}
use Rattle.pick.specs.PickedInputs.{PickedInputs}
use Rattle.pick.specs.declared.picked_inputs.InputFile.{InputFile}
use Rattle.reads.specs.Gets.{get_of}
use Rattle.reads.specs.Lawful.{IsLawful}
use Rattle.reads.specs.NewestFirst.{SequencesFall, AreThoseOf}
use Rattle.reads.specs.Tables.{NumberedContents, table_entries, all_entries}
use Rattle.reads.proofs.FallingEntries.{each_of, of_each, answers_newest_first}
use Rattle.reads.proofs.Members.{first_or_later, later_in, first_in, none_in, in_filter, from_filter, in_flat_map, from_flat_map, in_map, from_map}
use Rattle.reads.proofs.Orders.{less_is}
use Rattle.reads.proofs.Pairs.{Pairs}
use Rattle.compact.specs.InputsTogether.{StandTogether, entries_read, files_above, files_taken, files_below}
use Rattle.compact.proofs.FallingOrder.{IsLower, is_of, of_user, user_is, falls}
use Rattle.compact.proofs.StandingTogether.{stand_together}
use Rattle.compact.proofs.SafeInputs.{AreSafe, picked_safe}
use Rattle.keep.specs.DropRule.{is_same_user, keeps, kept_after, kept}
use Rattle.keep.specs.Readable.{Readable, is_read}
use Rattle.keep.proofs.Dropped.{one_key_law}
use Rattle.keep.proofs.OneKey.{falls_behind, falls_front}
use Rattle.compact.specs.GetsAfter.{staying_files, entries_of_inputs, HoldKept, GetsAfter}

-- ---- lists whose sequences fall

-- two such lists of the same entries are one list
same_members : (xs ys : List Entry) → SequencesFall xs → SequencesFall ys → ((e : Entry) → Contains xs e → Contains ys e) → ((e : Entry) → Contains ys e → Contains xs e) → xs ≡ ys
same_members [] [] fx fy to back = refl
same_members [] (y ∷ ys) fx fy to back = absurd (none_in y (back y (first_in y ys)))
same_members (x ∷ xs) [] fx fy to back = absurd (none_in x (to x (first_in x xs)))
same_members (x ∷ xs) (y ∷ ys) fx fy to back =
    joined_up first (same_members xs ys fx.1 fy.1 (rest_to x y xs ys first fx to) (rest_to y x ys xs (sym first) fy back))
  where
    lower : (z : Entry) (zs : List Entry) → SequencesFall (z ∷ zs) → (e : Entry) → Contains zs e → sequence_of e.key < sequence_of z.key
    lower z zs f e at = each_of (λ (g : Entry). sequence_of g.key < sequence_of z.key) zs f.0 e at

    first_by : (x ≡ y) ⊎ Contains ys x → (y ≡ x) ⊎ Contains xs y → x ≡ y
    first_by (inl same) other = same
    first_by (inr later) (inl same) = sym same
    first_by (inr later) (inr also) =
        let down = lower y ys fy x later in
        let up = lower x xs fx y also in
        absurd (omega (arith, down, up))

    first : x ≡ y
    first = first_by (first_or_later y ys x (to x (first_in x xs))) (first_or_later x xs y (back y (first_in y ys)))

    -- an entry of the one rest is no first entry, so it is of the other rest
    rest_to : (a b : Entry) (behind_a behind_b : List Entry) → a ≡ b → SequencesFall (a ∷ behind_a) → ((e : Entry) → Contains (a ∷ behind_a) e → Contains (b ∷ behind_b) e) → (e : Entry) → Contains behind_a e → Contains behind_b e
    rest_to a b behind_a behind_b same fa over e at = by_place (first_or_later b behind_b e (over e (later_in a behind_a e at)))
      where
        by_place : (e ≡ b) ⊎ Contains behind_b e → Contains behind_b e
        by_place (inl is) =
            let lt = lower a behind_a fa e at in
            let own : sequence_of e.key ≡ sequence_of a.key = ap (λ (z : Entry). sequence_of z.key) (is ∙ sym same) in
            absurd (omega (arith, lt, own))
        by_place (inr later) = later

    joined_up : x ≡ y → xs ≡ ys → x ∷ xs ≡ y ∷ ys
    joined_up same rest = ap (λ (z : Entry). z ∷ xs) same ∙ ap (λ (zs : List Entry). y ∷ zs) rest

-- ---- what is kept is a part

kept_part_by : (b : Bool) (e : Entry) (rest : List Entry) (x : Entry) → Contains ((if b then e ∷ [] else []) ++ rest) x → (x ≡ e) ⊎ Contains rest x
kept_part_by true e rest x at = first_or_later e rest x at
kept_part_by false e rest x at = inr at

pub kept_part : (cmp : List ℕ → List ℕ → Ordering) (r : Readable) (deeper : List FileMeta) (before : Option Entry) (es : List Entry) (x : Entry) → Contains (kept_after cmp r deeper before es) x → Contains es x
kept_part cmp r deeper before [] x at = at
kept_part cmp r deeper before (e ∷ es) x at =
    elim (kept_part_by (keeps cmp r deeper before e) e (kept_after cmp r deeper (Some e) es) x at) [
      | inl same ↦ subst (λ (y : Entry). Contains (e ∷ es) y) (sym same) (first_in e es)
      | inr later ↦ later_in e es x (kept_part cmp r deeper (Some e) es x later)
    ]

-- sequences still fall if a part of them in the middle is left out
kept_falls : (cmp : List ℕ → List ℕ → Ordering) (r : Readable) (deeper : List FileMeta) (below : List Entry) (before : Option Entry) (es : List Entry) → SequencesFall (es ++ below) → SequencesFall (kept_after cmp r deeper before es ++ below)
kept_falls cmp r deeper below before [] falling = falling
kept_falls cmp r deeper below before (e ∷ es) falling = around (keeps cmp r deeper before e) (kept_falls cmp r deeper below (Some e) es falling.1)
  where
    rest : List Entry
    rest = kept_after cmp r deeper (Some e) es

    lower : (x : Entry) → Contains (rest ++ below) x → sequence_of x.key < sequence_of e.key
    lower x at =
        each_of (λ (y : Entry). sequence_of y.key < sequence_of e.key) (es ++ below) falling.0 x
        (elim (Contains-append_cases rest below x at) [
          | inl i ↦ Contains-append_left es below x (kept_part cmp r deeper (Some e) es x i)
          | inr i ↦ Contains-append_right es below x i
        ])

    around : (b : Bool) → SequencesFall (rest ++ below) → SequencesFall (((if b then e ∷ [] else []) ++ rest) ++ below)
    around true h = (of_each (λ (x : Entry). sequence_of x.key < sequence_of e.key) (rest ++ below) lower, h)
    around false h = h

above_falls : (above xs ys : List Entry) → SequencesFall (above ++ xs) → SequencesFall ys → ((e : Entry) → Contains ys e → Contains xs e) → SequencesFall (above ++ ys)
above_falls [] xs ys f g part = g
above_falls (a ∷ above) xs ys f g part = (
  of_each (λ (x : Entry). sequence_of x.key < sequence_of a.key) (above ++ ys)
      (λ x at. each_of (λ (y : Entry). sequence_of y.key < sequence_of a.key) (above ++ xs) f.0 x
      (elim (Contains-append_cases above ys x at) [ inl i ↦ Contains-append_left above xs x i | inr i ↦ Contains-append_right above xs x (part x i) ])),
  above_falls above xs ys f.1 g part,
)

-- ---- the entries of one user key

module _ (cmp : List ℕ → List ℕ → Ordering) (total : IsTotalOrder cmp) (exact : IsExact cmp) where
  then_less : (o p : Ordering) → ordering_then o p ≡ Less → (o ≡ Less) ⊎ ((o ≡ Equal) × (p ≡ Less))
  then_less Less p h = inl refl
  then_less Equal p h = inr (refl, h)
  then_less Greater p h = absurd cc

  -- an entry whose version is before another's has a lesser user key, or the same one and a greater sequence
  users_rise : (a b : Entry) → key_version_cmp cmp a.key b.key ≡ Less → (cmp (user_of a.key) (user_of b.key) ≡ Less) ⊎ ((user_of a.key ≡ user_of b.key) × (sequence_of b.key < sequence_of a.key))
  users_rise a b h =
      elim (then_less (cmp (user_of a.key) (user_of b.key)) (nat_cmp (sequence_of b.key) (sequence_of a.key)) h) [
        | inl less ↦ inl less
        | inr both ↦ inr (exact (user_of a.key) (user_of b.key) both.0, less_is (sequence_of b.key) (sequence_of a.key) both.1)
      ]

  pub not_itself : (u : List ℕ) → cmp u u ≡ Less → ⊥
  not_itself u h = let tied = tied_itself total u in let both : Less ≡ Equal = sym h ∙ tied in absurd cc

  pub rising_lower : (es : List Entry) → VersionsRise cmp es → Pairs IsLower es
  rising_lower [] h = tt
  rising_lower (e ∷ es) h = (
    λ f at same. by_user f same (users_rise e f (each_of (λ (g : Entry). key_version_cmp cmp e.key g.key ≡ Less) es h.0 f at)),
    rising_lower es h.1,
  )
    where
      by_user : (f : Entry) → user_of e.key ≡ user_of f.key → (cmp (user_of e.key) (user_of f.key) ≡ Less) ⊎ ((user_of e.key ≡ user_of f.key) × (sequence_of f.key < sequence_of e.key)) → sequence_of f.key < sequence_of e.key
      by_user f same (inl less) = absurd (not_itself (user_of e.key) (subst (λ (u : List ℕ). cmp (user_of e.key) u ≡ Less) (sym same) less))
      by_user f same (inr both) = both.1

  module _ (user : List ℕ) where
    nothing : (es : List Entry) → ((e : Entry) → Contains es e → is_of user e ≡ false) → filter (is_of user) es ≡ []
    nothing [] h = refl
    nothing (e ∷ es) h = rw (h e (first_in e es)) (nothing es (λ x at. h x (later_in e es x at)))

    not_of : (e : Entry) → (user_of e.key ≡ user → ⊥) → is_of user e ≡ false
    not_of e h = by (is_of user e) refl
      where
        by : (b : Bool) → is_of user e ≡ b → b ≡ false
        by true is = absurd (h (of_user user e is))
        by false is = refl

    -- after an entry of another user key that stands after one of the user key, none is of the user key
    none_behind : (p e : Entry) (es : List Entry) → user_of p.key ≡ user → VersionsRise cmp (p ∷ e ∷ es) → is_of user e ≡ false → (x : Entry) → Contains es x → is_of user x ≡ false
    none_behind p e es own rise other x at = not_of x later
      where
        above : cmp (user_of p.key) (user_of e.key) ≡ Less
        above =
            elim (users_rise p e rise.0.0) [
              | inl less ↦ less
              | inr both ↦ (let is : is_of user e ≡ true = user_is user e (sym both.0 ∙ own) in let wrong : true ≡ false = sym is ∙ other in absurd cc)
            ]

        later : user_of x.key ≡ user → ⊥
        later same = by_user (users_rise e x (each_of (λ (g : Entry). key_version_cmp cmp e.key g.key ≡ Less) es rise.1.0 x at))
          where
            back : cmp (user_of p.key) (user_of x.key) ≡ Less → ⊥
            back less = not_itself (user_of p.key) (subst (λ (u : List ℕ). cmp (user_of p.key) u ≡ Less) (same ∙ sym own) less)

            by_user : (cmp (user_of e.key) (user_of x.key) ≡ Less) ⊎ ((user_of e.key ≡ user_of x.key) × (sequence_of x.key < sequence_of e.key)) → ⊥
            by_user (inl less) = back (total.trans (user_of p.key) (user_of e.key) (user_of x.key) above less)
            by_user (inr both) = back (subst (λ (u : List ℕ). cmp (user_of p.key) u ≡ Less) both.0 above)

    module _ (r : Readable) (deeper : List FileMeta) where
      abbrev behind : Option Entry → List Entry → List Entry
      behind before es = kept_after cmp r deeper before es

      -- an entry of another user key before it makes no difference to an entry
      other_before : (p e : Entry) → is_of user p ≡ false → is_of user e ≡ true → keeps cmp r deeper (Some p) e ≡ keeps cmp r deeper None e
      other_before p e out own = rw different refl
        where
          apart : (b : Bool) → is_same_user p e ≡ b → b ≡ false
          apart true is =
              let same : user_of p.key ≡ user_of e.key = (bytes_eq-Decides (user_of p.key) (user_of e.key)).0 is in
              let wrong : true ≡ false = sym (user_is user p (same ∙ of_user user e own)) ∙ out in
              absurd cc
          apart false is = refl

          different : is_same_user p e ≡ false
          different = apart (is_same_user p e) refl

      filter_two : (b : Bool) (e : Entry) (rest : List Entry) → is_of user e ≡ true → filter (is_of user) ((if b then e ∷ [] else []) ++ rest) ≡ (if b then e ∷ [] else []) ++ filter (is_of user) rest
      filter_two true e rest own = rw own refl
      filter_two false e rest own = refl

      filter_other : (b : Bool) (e : Entry) (rest : List Entry) → is_of user e ≡ false → filter (is_of user) ((if b then e ∷ [] else []) ++ rest) ≡ filter (is_of user) rest
      filter_other true e rest out = rw out refl
      filter_other false e rest out = refl

      -- after one of the user key
      of_behind : (p : Entry) (es : List Entry) → user_of p.key ≡ user → VersionsRise cmp (p ∷ es) → filter (is_of user) (behind (Some p) es) ≡ behind (Some p) (filter (is_of user) es)
      of_behind p [] own rise = refl
      of_behind p (e ∷ es) own rise = by_test (is_of user e) refl (of_behind e es)
        where
          by_test : (b : Bool) → is_of user e ≡ b → (user_of e.key ≡ user → VersionsRise cmp (e ∷ es) → filter (is_of user) (behind (Some e) es) ≡ behind (Some e) (filter (is_of user) es)) → filter (is_of user) (behind (Some p) (e ∷ es)) ≡ behind (Some p) (cond b (e ∷ filter (is_of user) es) (filter (is_of user) es))
          by_test true is rest =
              filter_two (keeps cmp r deeper (Some p) e) e (behind (Some e) es) is
              ∙ ap (λ (zs : List Entry). (if keeps cmp r deeper (Some p) e then e ∷ [] else []) ++ zs) (rest (of_user user e is) rise.1)
          by_test false is rest =
              let none = none_behind p e es own rise is in
              filter_other (keeps cmp r deeper (Some p) e) e (behind (Some e) es) is
              ∙ (nothing (behind (Some e) es) (λ x at. none x (kept_part cmp r deeper (Some e) es x at))
              ∙ sym (ap (behind (Some p)) (nothing es none)))

      -- whether the entry before is none, or of another user key
      abbrev IsOther : Option Entry → Type 0
      IsOther None = Unit {0}
      IsOther (Some p) = is_of user p ≡ false

      keeps_first : (before : Option Entry) (e : Entry) → IsOther before → is_of user e ≡ true → keeps cmp r deeper before e ≡ keeps cmp r deeper None e
      keeps_first None e out own = refl
      keeps_first (Some p) e out own = other_before p e out own

      -- after none of the user key
      of_other : (before : Option Entry) (es : List Entry) → IsOther before → VersionsRise cmp es → filter (is_of user) (behind before es) ≡ behind None (filter (is_of user) es)
      of_other before [] out rise = refl
      of_other before (e ∷ es) out rise = by_test (is_of user e) refl (of_other (Some e) es)
        where
          by_test : (b : Bool) → is_of user e ≡ b → (is_of user e ≡ false → VersionsRise cmp es → filter (is_of user) (behind (Some e) es) ≡ behind None (filter (is_of user) es)) → filter (is_of user) (behind before (e ∷ es)) ≡ behind None (cond b (e ∷ filter (is_of user) es) (filter (is_of user) es))
          by_test true is rest =
              filter_two (keeps cmp r deeper before e) e (behind (Some e) es) is
              ∙ (ap (λ (zs : List Entry). (if keeps cmp r deeper before e then e ∷ [] else []) ++ zs) (of_behind e es (of_user user e is) rise)
              ∙ ap (λ (k : Bool). (if k then e ∷ [] else []) ++ behind (Some e) (filter (is_of user) es)) (keeps_first before e out is))
          by_test false is rest =
              filter_other (keeps cmp r deeper before e) e (behind (Some e) es) is ∙ rest is rise.1

      -- of a union the kept entries of a user key are what is kept of its entries
      pub kept_of_user : (union : List Entry) → VersionsRise cmp union → filter (is_of user) (kept cmp r deeper union) ≡ kept cmp r deeper (filter (is_of user) union)
      kept_of_user union rise = of_other None union tt rise

  -- ---- the gets

  module _ (v : State) (tables : List NumberedContents) (p : PickedInputs) (r : Readable) (union : List Entry) (after : State) (tables_after : List NumberedContents)
      (lawful : IsLawful cmp v tables) (low : All (λ (f : NewFile). f.level ≤ 6) v.files) (safe : AreSafe cmp v tables p)
      (is_union : IsUnion cmp (entries_of_inputs tables p) union) (hold : HoldKept v tables p (kept cmp r p.deeper union) after tables_after)
      (user : List ℕ) (at : ℕ) (read : is_read r at ≡ true) where
    abbrev above : List Entry
    above = entries_read tables user (files_above cmp v p)

    abbrev inputs : List Entry
    inputs = entries_read tables user (files_taken cmp v p)

    abbrev below : List Entry
    below = entries_read tables user (files_below cmp v p)

    stand : StandTogether cmp v tables p user
    stand = stand_together cmp total v tables p user lawful low safe

    -- the entries of the inputs' tables are those of the union
    held_joined : (e : Entry) → Contains (flat_map (λ (i : InputFile). table_entries tables i.meta.number) p.files) e → Contains union e
    held_joined e i =
        let from = from_flat_map (λ (x : InputFile). table_entries tables x.meta.number) p.files e i in
        in_union e
        (in_flat_map (λ (list : List Entry). list) (entries_of_inputs tables p) (table_entries tables from.source.meta.number) e (in_map (λ (x : InputFile). table_entries tables x.meta.number) p.files from.source from.there) from.held)
      where
        in_union : (x : Entry) → Contains (entries_of_lists (entries_of_inputs tables p)) x → Contains union x
        in_union x j = Contains-permutation (entries_of_lists (entries_of_inputs tables p)) union x is_union.same j

    joined_held : (e : Entry) → Contains union e → Contains (flat_map (λ (i : InputFile). table_entries tables i.meta.number) p.files) e
    joined_held e i =
        let lists = entries_of_inputs tables p in
        let all = Contains-permutation union (entries_of_lists lists) e (IsPermutation-sym (entries_of_lists lists) union is_union.same) i in
        let from = from_flat_map (λ (list : List Entry). list) lists e all in
        let of = from_map (λ (x : InputFile). table_entries tables x.meta.number) p.files from.source from.there in
        in_flat_map (λ (x : InputFile). table_entries tables x.meta.number) p.files of.source e of.there (subst (λ (l : List Entry). Contains l e) (sym of.is) from.held)

    -- the inputs' entries of the user key, in the union and as they are read
    own_inputs : filter (is_of user) union ≡ inputs
    own_inputs =
        same_members (filter (is_of user) union) inputs (falls user union (rising_lower union is_union.rising)) input_falls
        (λ e i. let from = from_filter (is_of user) union e i in stand.of_inputs.each e (joined_held e from.0) (of_user user e from.1))
        (λ e i. let from = stand.of_inputs.only e i in in_filter (is_of user) union e (user_is user e from.1) (held_joined e from.0))
      where
        input_falls : SequencesFall inputs
        input_falls = falls_front inputs below (falls_behind above (inputs ++ below) stand.falls)

    kept_own : filter (is_of user) (kept cmp r p.deeper union) ≡ kept cmp r p.deeper inputs
    kept_own = kept_of_user user r p.deeper union is_union.rising ∙ ap (kept cmp r p.deeper) own_inputs

    abbrev own : List Entry
    own = above ++ (kept cmp r p.deeper inputs ++ below)

    into_own : (e : Entry) → Contains (above ++ below) e ⊎ Contains (kept cmp r p.deeper inputs) e → Contains own e
    into_own e (inl i) =
        elim (Contains-append_cases above below e i) [
          | inl j ↦ Contains-append_left above (kept cmp r p.deeper inputs ++ below) e j
          | inr j ↦ Contains-append_right above (kept cmp r p.deeper inputs ++ below) e (Contains-append_right (kept cmp r p.deeper inputs) below e j)
        ]
    into_own e (inr i) = Contains-append_right above (kept cmp r p.deeper inputs ++ below) e (Contains-append_left (kept cmp r p.deeper inputs) below e i)

    from_own : (e : Entry) → Contains own e → Contains (above ++ below) e ⊎ Contains (kept cmp r p.deeper inputs) e
    from_own e i =
        elim (Contains-append_cases above (kept cmp r p.deeper inputs ++ below) e i) [
          | inl j ↦ inl (Contains-append_left above below e j)
          | inr j ↦ elim (Contains-append_cases (kept cmp r p.deeper inputs) below e j) [ inl k ↦ inr k | inr k ↦ inl (Contains-append_right above below e k) ]
        ]

    are_those : AreThoseOf user (all_entries tables_after after.files) own
    are_those = record {
      each = λ e i same. into_own e (each_side e same (hold.only e i));
      only = λ e i. only_side e (from_own e i);
    }
      where
        each_side : (e : Entry) → user_of e.key ≡ user → Contains (all_entries tables (staying_files v p)) e ⊎ Contains (kept cmp r p.deeper union) e → Contains (above ++ below) e ⊎ Contains (kept cmp r p.deeper inputs) e
        each_side e same (inl i) = inl (stand.of_others.each e i same)
        each_side e same (inr i) = inr (subst (λ (l : List Entry). Contains l e) kept_own (in_filter (is_of user) (kept cmp r p.deeper union) e (user_is user e same) i))

        only_side : (e : Entry) → Contains (above ++ below) e ⊎ Contains (kept cmp r p.deeper inputs) e → Contains (all_entries tables_after after.files) e × (user_of e.key ≡ user)
        only_side e (inl i) = let from = stand.of_others.only e i in (hold.holds_staying e from.0, from.1)
        only_side e (inr i) =
            let from = from_filter (is_of user) (kept cmp r p.deeper union) e (subst (λ (l : List Entry). Contains l e) (sym kept_own) i) in
            (hold.holds_kept e from.0, of_user user e from.1)

    own_falls : SequencesFall own
    own_falls =
        above_falls above (inputs ++ below) (kept cmp r p.deeper inputs ++ below) stand.falls
        (kept_falls cmp r p.deeper below None inputs (falls_behind above (inputs ++ below) stand.falls))
        (λ e i. elim (Contains-append_cases (kept cmp r p.deeper inputs) below e i) [
          | inl j ↦ Contains-append_left inputs below e (kept_part cmp r p.deeper None inputs e j)
          | inr j ↦ Contains-append_right inputs below e j
        ])

    pub get_is : get_of after tables_after user at ≡ get_of v tables user at
    get_is =
        answers_newest_first after tables_after user own at are_those own_falls
        ∙ ((one_key_law cmp).answers r p.deeper user above inputs below at stand.of_user stand.falls stand.at_base read
        ∙ sym (stand.answers at))

  pub gets_after : GetsAfter cmp
  gets_after v tables level p r union after tables_after lawful low picked is_union hold user at read =
      get_is v tables p r union after tables_after lawful low (picked_safe cmp total v tables level p lawful low picked) is_union hold user at read
