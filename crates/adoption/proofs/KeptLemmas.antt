-- Walks over what is kept and over what outputs hold, side by side.
use Rattle.std.proofs.Common.{◌≡◌, ℕ, zero, suc, ◌+◌, Bool, true, false, ◌&&◌, List, [], ◌∷◌, drop, add-one, Option, Some, None, Ok, Err, refl, sym, ap, subst, ◌∙◌, if◌then◌else◌}
use Rattle.std.specs.Prelude.{◌↔◌, slice_get}
use Rattle.std.specs.Option.{option_map}
use Rattle.std.proofs.lemmas.Option.{none-some, same_Some}
use Rattle.std.specs.Str.{bytes_eq}
use Rattle.std.proofs.lemmas.Slice.Eq.{bytes_eq-Decides}
use Rattle.edit.proofs.Binds.{ok_is}
use Rattle.edit.specs.Answers.{UnlessMemory, UnlessNamed, fault}
use Rattle.edit.specs.fault.Fault.{Fault}
use Rattle.edit.specs.fault.FaultName.{FaultName}
use Rattle.edit.specs.fault.FaultName.TheVariants.{Duplicate}
use Rattle.edit.specs.Comparator.{KeyOrder}
use Rattle.keep.specs.EncodedEntry.{Entry}
use Rattle.merge.specs.MergedLists.{merged}
use Rattle.store.specs.Ranges.{KeyRange}
use Rattle.keep.specs.DropRule.{kept}
use Rattle.merge.specs.InRange.{entries_in}
use Rattle.keep.specs.Marks.{CompactionContext}
use Rattle.keep.specs.Runs.{DistinctLaw, Run, are_distinct, range_run, run_of}
use Rattle.adoption.specs.KeptEntries.{HoldsKept}
use Rattle.adoption.specs.Beginnings.{begins_with}
use Rattle.std.proofs.lemmas.Bool.{and_parts as both_parts}

-- ---- entries

abbrev pub whole_range : KeyRange
whole_range = record { lower = None; upper = None }

-- the whole range has all entries
pub whole_has : (cmp : KeyOrder) (es : List Entry) → entries_in cmp whole_range es ≡ es
whole_has cmp [] = refl
whole_has cmp (e ∷ es) = ap (λ (fs : List Entry). e ∷ fs) (whole_has cmp es)

same_bytes : (a b : List ℕ) → bytes_eq a b ≡ true → a ≡ b
same_bytes a b h = (bytes_eq-Decides a b).0 h

bytes_same : (a : List ℕ) → bytes_eq a a ≡ true
bytes_same a = (bytes_eq-Decides a a).1 refl

-- entries that begin with one are that one and the rest
pub begins_so : (e : Entry) (es : List Entry) → begins_with e es ≡ true → es ≡ e ∷ drop 1 es
begins_so e [] h = absurd cc
begins_so e (f ∷ fs) h =
    let both = both_parts (bytes_eq f.key e.key) (bytes_eq f.value e.value) h in
    let same : f ≡ e = ap (λ (k : List ℕ). record { key = k; value = f.value }) (same_bytes f.key e.key both.0) ∙ ap (λ (x : List ℕ). record { key = e.key; value = x }) (same_bytes f.value e.value both.1) in
    ap (λ (x : Entry). x ∷ fs) same

begins_there : (e : Entry) (es : List Entry) → begins_with e (e ∷ es) ≡ true
begins_there e es = ap (λ (a : Bool). a && bytes_eq e.value e.value) (bytes_same e.key) ∙ bytes_same e.value

pub begins_not : (e : Entry) (rest es : List Entry) → begins_with e es ≡ false → e ∷ rest ≡ es → ⊥
begins_not e rest es h is = let both : true ≡ false = sym (begins_there e rest) ∙ (ap (begins_with e) is ∙ h) in cc both

-- ---- the walk

-- the kept entries from a place on are those still to come exactly if all are all
abbrev pub IsWalkedTo : List Entry → List Entry → ℕ → List Entry → Type 0
IsWalkedTo kept all place left = (kept ≡ all) ↔ (drop place kept ≡ left)

rest_of : List Entry → List Entry
rest_of [] = []
rest_of (e ∷ es) = es

taken_at : (es : List Entry) (place : ℕ) (e : Entry) → slice_get es place ≡ Some e → drop place es ≡ e ∷ drop (suc place) es
taken_at [] place e h = absurd (none-some e h)
taken_at (x ∷ es) zero e h = ap (λ (y : Entry). y ∷ es) (same_Some x e h)
taken_at (x ∷ es) (suc place) e h = taken_at es place e h

-- the entry whose key and value were read
entry_by : (o : Option Entry) (key value : List ℕ) → option_map (λ (e : Entry). e.key) o ≡ Some key → option_map (λ (e : Entry). e.value) o ≡ Some value → o ≡ Some (record { key = key; value = value })
entry_by None key value h k = absurd (none-some key h)
entry_by (Some e) key value h k =
    ap (λ (x : List ℕ). Some (record { key = x; value = e.value })) (same_Some e.key key h) ∙ ap (λ (x : List ℕ). Some (record { key = key; value = x })) (same_Some e.value value k)

module _ (kept all left : List Entry) (place : ℕ) (key value : List ℕ) (is_key : option_map (λ (e : Entry). e.key) (slice_get kept place) ≡ Some key) (is_value : option_map (λ (e : Entry). e.value) (slice_get kept place) ≡ Some value) where
  abbrev entry : Entry
  entry = record { key = key; value = value }

  here : drop place kept ≡ entry ∷ drop (suc place) kept
  here = taken_at kept place entry (entry_by (slice_get kept place) key value is_key is_value)

  pub walked_one : (next : List Entry) → begins_with entry left ≡ true → next ≡ drop 1 left → IsWalkedTo kept all place left → IsWalkedTo kept all (place + 1) next
  unfolding rest_of
  walked_one next begins is h =
      let there : left ≡ entry ∷ drop 1 left = begins_so entry left begins in
      let one : drop (place + 1) kept ≡ drop (suc place) kept = ap (λ (n : ℕ). drop n kept) (add-one place) in (
        λ same. one ∙ (ap rest_of (sym here ∙ (h.0 same ∙ there)) ∙ sym is),
        λ same. h.1 (here ∙ (ap (λ (es : List Entry). entry ∷ es) (sym one ∙ (same ∙ is)) ∙ sym there)),
      )

  pub walked_off : begins_with entry left ≡ false → IsWalkedTo kept all place left → (false ≡ true) ↔ (kept ≡ all)
  walked_off begins h =
      (λ is. absurd (cc is), λ same. absurd (begins_not entry (drop (suc place) kept) left begins (sym here ∙ h.0 same)))

-- ---- the run of the whole range

-- what holds unless the fault is Memory holds of Duplicate
pub unless_duplicate : (e : Fault) (P : Type 0) → e.name ≡ Duplicate → UnlessMemory e P → P
unless_duplicate e P is h = subst (λ (n : FaultName). UnlessNamed n e.input P) is h

run_if : (d : Bool) (x run : Run) → (if d then Ok x else Err (fault Duplicate)) ≡ Ok run → (d ≡ true) × (x ≡ run)
run_if true x run h = (refl, ok_is x run h)
run_if false x run h = absurd cc

refused_if : (d : Bool) (x : Run) (e : Fault) → (if d then Ok x else Err (fault Duplicate)) ≡ Err e → d ≡ false
refused_if true x e h = absurd cc
refused_if false x e h = refl

module _ (cmp : KeyOrder) (b : CompactionContext) (inputs : List (List Entry)) (law : DistinctLaw cmp) where
  -- the run of the whole range is what is kept of the union
  pub whole_run : (run : Run) → range_run cmp b inputs whole_range ≡ Ok run → (are_distinct (merged cmp inputs) ≡ true) × (run.kept ≡ kept cmp b.readable b.deeper (merged cmp inputs))
  whole_run run h =
      let all = whole_has cmp (merged cmp inputs) in
      let both = run_if (are_distinct (entries_in cmp whole_range (merged cmp inputs))) (run_of cmp b (entries_in cmp whole_range (merged cmp inputs))) run h in (
        ap are_distinct (sym all) ∙ both.0,
        ap (λ (r : Run). r.kept) (sym both.1) ∙ ap (kept cmp b.readable b.deeper) all,
      )

  pub kept_exactly : (run : Run) (outputs : List (List Entry)) (t : Bool) → range_run cmp b inputs whole_range ≡ Ok run → (t ≡ true) ↔ (run.kept ≡ merged cmp outputs) → (t ≡ true) ↔ HoldsKept cmp b.readable b.deeper inputs outputs
  kept_exactly run outputs t h exact =
      let both = whole_run run h in (
        λ is. record { union = merged cmp inputs; is_union = (law inputs (merged cmp inputs)).1 (refl, both.0); same = sym both.1 ∙ exact.0 is },
        λ held.
            let union : held.union ≡ merged cmp inputs = ((law inputs held.union).0 held.is_union).0 in
            exact.1 (both.1 ∙ (ap (kept cmp b.readable b.deeper) (sym union) ∙ held.same)),
      )

  pub never_kept : (outputs : List (List Entry)) (e : Fault) → range_run cmp b inputs whole_range ≡ Err e → (false ≡ true) ↔ HoldsKept cmp b.readable b.deeper inputs outputs
  never_kept outputs e h =
      let all = whole_has cmp (merged cmp inputs) in
      let not_distinct : are_distinct (merged cmp inputs) ≡ false = ap are_distinct (sym all) ∙ refused_if (are_distinct (entries_in cmp whole_range (merged cmp inputs))) (run_of cmp b (entries_in cmp whole_range (merged cmp inputs))) e h in (
        λ is. absurd (cc is),
        λ held. let both : true ≡ false = sym ((law inputs held.union).0 held.is_union).1 ∙ not_distinct in absurd (cc both),
      )
