-- Outputs have all kept entries, in their order, and each has one.
use Rattle.std.proofs.Common.{◌≡◌, ◌≢◌, ℕ, ◌-◌, Bool, true, false, List, [], ◌∷◌, ◌++◌, take, drop, refl, sym, ap, ◌∙◌, append_assoc, append-nil}
use Rattle.std.specs.Prelude.{flat_map, if◌then◌else◌}
use Rattle.std.specs.List.{AllByRecursion}
use Rattle.std.proofs.lemmas.Bool.{false≢true}
use Rattle.std.proofs.lemmas.Grind.{flat_map-append}
use Rattle.std.proofs.lemmas.List.{take-append-drop}
use Rattle.block.specs.EncodedEntry.{Entry}
use Rattle.table.specs.declared.options.Options.{Options}
use Rattle.table.specs.DataBlocks.{open_block}
use Rattle.keep.specs.MergedLists.{entries_of_lists}
use Rattle.cut.specs.Outputs.{ends_before, outputs_after, outputs_in, segments}

-- ---- the entries of lists, by whether one ends before the next entry

pub all_open : (latest : List Entry) → entries_of_lists (open_block latest) ≡ latest
all_open [] = refl
all_open (e ∷ es) = append-nil (e ∷ es)

pub all_by : (b : Bool) (latest : List Entry) (e : Entry) (es : List Entry) (after grown : List (List Entry)) → entries_of_lists after ≡ e ∷ es → entries_of_lists grown ≡ (latest ++ e ∷ []) ++ es → entries_of_lists (if b then latest ∷ after else grown) ≡ latest ++ e ∷ es
all_by true latest e es after grown ended more = ap (λ (xs : List Entry). latest ++ xs) ended
all_by false latest e es after grown ended more = more ∙ append_assoc latest (e ∷ []) es

module _ (o : Options) where
  -- ---- the entries of a segment

  pub all_behind : (latest es : List Entry) → entries_of_lists (outputs_after o latest es) ≡ latest ++ es
  all_behind latest [] = all_open latest ∙ sym (append-nil latest)
  all_behind latest (e ∷ es) = all_by (ends_before o latest e) latest e es (outputs_after o (e ∷ []) es) (outputs_after o (latest ++ e ∷ []) es) (all_behind (e ∷ []) es) (all_behind (latest ++ e ∷ []) es)

  abbrev pub IsSome : List Entry → Type 0
  IsSome q = q ≢ []

  some_open : (latest : List Entry) → AllByRecursion IsSome (open_block latest)
  some_open [] = tt
  some_open (e ∷ es) = ((λ no. absurd (cc)), tt)

  ended_some : (latest : List Entry) (e : Entry) → ends_before o latest e ≡ true → IsSome latest
  ended_some [] e h = absurd (false≢true h)
  ended_some (a ∷ latest) e h = λ no. absurd (cc)

  some_by : (b : Bool) (latest : List Entry) (e : Entry) (es : List Entry) → ends_before o latest e ≡ b → AllByRecursion IsSome (outputs_after o (e ∷ []) es) → AllByRecursion IsSome (outputs_after o (latest ++ e ∷ []) es)
      → AllByRecursion IsSome (if b then latest ∷ outputs_after o (e ∷ []) es else outputs_after o (latest ++ e ∷ []) es)
  some_by true latest e es ends ended grown = (ended_some latest e ends, ended)
  some_by false latest e es ends ended grown = grown

  some_behind : (latest es : List Entry) → AllByRecursion IsSome (outputs_after o latest es)
  some_behind latest [] = some_open latest
  some_behind latest (e ∷ es) = some_by (ends_before o latest e) latest e es refl (some_behind (e ∷ []) es) (some_behind (latest ++ e ∷ []) es)

  -- ---- the entries of all segments

  pub all_two : (ps qs : List (List Entry)) → entries_of_lists (ps ++ qs) ≡ entries_of_lists ps ++ entries_of_lists qs
  all_two ps qs = flat_map-append (λ q. q) ps qs

  pub all_segments : (first : ℕ) (places : List ℕ) (es : List Entry) → entries_of_lists (flat_map (outputs_in o) (segments first places es)) ≡ es
  all_segments first [] es = all_two (outputs_in o es) [] ∙ append-nil (entries_of_lists (outputs_in o es)) ∙ all_behind [] es
  all_segments first (place ∷ places) es =
      let front = take (place - first) es in
      let behind = drop (place - first) es in
      all_two (outputs_in o front) (flat_map (outputs_in o) (segments place places behind))
      ∙ ap (λ (xs : List Entry). xs ++ entries_of_lists (flat_map (outputs_in o) (segments place places behind))) (all_behind [] front)
      ∙ ap (λ (xs : List Entry). front ++ xs) (all_segments place places behind)
      ∙ take-append-drop (place - first) es

  some_two : (ps qs : List (List Entry)) → AllByRecursion IsSome ps → AllByRecursion IsSome qs → AllByRecursion IsSome (ps ++ qs)
  some_two [] qs h k = k
  some_two (p ∷ ps) qs h k = (h.0, some_two ps qs h.1 k)

  pub some_segments : (first : ℕ) (places : List ℕ) (es : List Entry) → AllByRecursion IsSome (flat_map (outputs_in o) (segments first places es))
  some_segments first [] es = some_two (outputs_in o es) [] (some_behind [] es) tt
  some_segments first (place ∷ places) es =
      some_two (outputs_in o (take (place - first) es)) (flat_map (outputs_in o) (segments place places (drop (place - first) es))) (some_behind [] (take (place - first) es)) (some_segments place places (drop (place - first) es))
