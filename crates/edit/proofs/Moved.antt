-- Files found by their places, after one is taken out and the last one is put in its place.
use Rattle.std.proofs.Common.{◌≡◌, ℕ, zero, suc, ◌+◌, ◌-◌, ◌<◌, ◌≤◌, Bool, true, false, cond, eqb, List, [], ◌∷◌, length, get_or, Option, Some, None, slice_get, IsSome, is_some, refl, sym, ap, subst, ◌∙◌, arith}
use Rattle.std.specs.List.Sorted.{IsStrictlySortedBy}
use Rattle.std.specs.Map.{keys_of, values_of, lookup, remove_entry, set_value}
use Rattle.std.specs.Option.{option_map_or}
use Rattle.std.specs.Ordering.{nat_cmp}
use Rattle.std.specs.BTreeMap.{is_at}
use Rattle.std.proofs.lemmas.Bool.{eqb-true, eq-eqb, both_ways}
use Rattle.std.proofs.lemmas.Bool.Decides.{nat_tests}
use Rattle.std.proofs.lemmas.Cmp.{nat_cmp_total, eq_by_cmp_equiv}
use Rattle.std.proofs.lemmas.Map.{lookup-remove_entry, lookup-set_value, keys-set_value}
use Rattle.std.proofs.lemmas.Map.Keys.{IsDistinct-from_sorted}
use Rattle.std.proofs.lemmas.Option.{none-some, same_Some, slice_get-get_or, slice_get_within}
use Rattle.edit.specs.FilePlaces.{number_at, AreFilePlaces, numbered_files, with_place_of}
use Rattle.edit.specs.Version.{has_place, undeleted_files}
use Rattle.edit.specs.declared.meta.NewFile.{NewFile}
use Rattle.edit.specs.declared.meta.DeletedFile.{DeletedFile}
use Rattle.edit.proofs.Kept.{there_is, others_are}
use Rattle.edit.proofs.Tested.{by_test}
use Rattle.edit.proofs.Together.{Rises, Above, some, same, same_is, found, same_entries}
use Rattle.edit.proofs.Places.{AreComplete, number_of, by_file, at_place, found_placed, held_is, same_self, by_number_is}

-- ---- entries without one

above_without : {X : Type 0} (n : ℕ) (test : ℕ → Bool) (es : List (ℕ × X)) → Above n es → Above n (remove_entry test es)
above_without n test [] h = tt
above_without {X} n test (e ∷ es) h = by_test (test e.0) (λ (b : Bool). Above n (cond b es (e ∷ remove_entry test es))) (λ _. h.1) (λ _. (h.0, above_without n test es h.1))

pub rises_without : {X : Type 0} (test : ℕ → Bool) (es : List (ℕ × X)) → Rises es → Rises (remove_entry test es)
unfolding IsStrictlySortedBy
rises_without test [] h = tt
rises_without test (e ∷ es) h = by_test (test e.0) (λ (b : Bool). Rises (cond b es (e ∷ remove_entry test es))) (λ _. h.1) (λ _. (above_without e.0 test es h.0, rises_without test es h.1))

found_without : {X : Type 0} (d q : ℕ) (es : List (ℕ × X)) → Rises es → found (remove_entry (is_at (nat_cmp d)) es) q ≡ cond (same d q) None (found es q)
found_without d q es h = lookup-remove_entry (eq_by_cmp_equiv nat_cmp_total) (same d) ((eq_by_cmp_equiv nat_cmp_total).congr d) q es (IsDistinct-from_sorted nat_cmp (keys_of es) h)

found_set : (m i q : ℕ) (ps : List (ℕ × ℕ)) → IsSome (found ps m) → found (set_value (is_at (nat_cmp m)) ps i) q ≡ cond (same m q) (Some i) (found ps q)
found_set m i q ps there = lookup-set_value (eq_by_cmp_equiv nat_cmp_total) (same m) ((eq_by_cmp_equiv nat_cmp_total).congr m) q i ps there

-- ---- files without one, in whose place the last one is

pub record IsSwapped (files after : List NewFile) (i last : ℕ) : Type 0 where
  pub long : length files ≡ suc last
  pub short : length after ≡ last
  pub within : i ≤ last
  pub moved : i < last → slice_get after i ≡ slice_get files last
  pub others : (k : ℕ) → (k ≡ i → ⊥) → k < last → slice_get after k ≡ slice_get files k

abbrev some_file : NewFile → Option NewFile
some_file f = Some f

pub is_swapped : (files after : List NewFile) (x : NewFile) (n m i : ℕ) → n ≡ length files → m ≡ length after → m + 1 ≡ n → i < n
    → ((d : NewFile) → i + 1 < n → get_or after i d ≡ get_or files (n - 1) d) → ((k : ℕ) (d : NewFile) → (k ≡ i → ⊥) → k + 1 < n → get_or after k d ≡ get_or files k d) → IsSwapped files after i m
is_swapped files after x n m i long short one within at others = record {
  long = omega arith;
  short = sym short;
  within = omega arith;
  moved = λ lt.
      let end : n - 1 ≡ m = omega arith in
      slice_get-get_or after i x (omega arith) ∙ ap some_file (at x (omega arith)) ∙ sym (slice_get-get_or files (n - 1) x (omega arith)) ∙ ap (slice_get files) end;
  others = λ k apart lt. slice_get-get_or after k x (omega arith) ∙ ap some_file (others k x apart (omega arith)) ∙ sym (slice_get-get_or files k x (omega arith));
}

-- where the file of place j is
abbrev moved_to : ℕ → ℕ → ℕ → ℕ
moved_to last i j = cond (eqb j last) i j

abbrev moved : ℕ → ℕ → Option ℕ → Option ℕ
moved last i None = None
moved last i (Some j) = Some (moved_to last i j)

below : (i last j : ℕ) → i ≤ last → j ≡ last → (j ≡ i → ⊥) → i < last
below i last j le is apart = omega arith

before_last : (j last n : ℕ) → j < n → n ≡ suc last → eqb j last ≡ false → j < last
before_last j last n lt is apart = grind (arith, nat_tests)

file_by : (b : Bool) (files after : List NewFile) (i last j : ℕ) → IsSwapped files after i last → eqb j last ≡ b → (j ≡ i → ⊥) → j < length files → slice_get after (cond b i j) ≡ slice_get files j
file_by true files after i last j s is apart lt = s.moved (below i last j s.within (eqb-true j last is) apart) ∙ ap (slice_get files) (sym (eqb-true j last is))
file_by false files after i last j s is apart lt = s.others j apart (before_last j last (length files) lt s.long is)

abbrev AreSound : List NewFile → List (ℕ × ℕ) → Type 0
AreSound files ps = (n i : ℕ) → found ps n ≡ Some i → number_at files i ≡ Some n

-- what is taken out, and what is left
pub record TakesOne (files after : List NewFile) (ps : List (ℕ × ℕ)) (d i last : ℕ) : Type 0 where
  pub placed_so : AreFilePlaces files ps
  pub under : found ps d ≡ Some i
  pub swapped : IsSwapped files after i last

-- one file has one number
one_number : (files : List NewFile) (i n d : ℕ) → number_at files i ≡ Some n → number_at files i ≡ Some d → n ≡ d
one_number files i n d e h = same_Some n d (sym e ∙ h)

some_test : (d q : ℕ) → d ≡ q → same d q ≡ true
some_test d q e = same_self d q (sym e)

-- a place that another number has is another place
other_place : (files after : List NewFile) (ps : List (ℕ × ℕ)) (d i last q j : ℕ) → TakesOne files after ps d i last → same d q ≡ false → number_at files j ≡ Some q → j ≡ i → ⊥
other_place files after ps d i last q j t apart there is =
    both_ways (same d q) apart (some_test d q (one_number files i d q (t.placed_so.sound d i t.under) (ap (number_at files) (sym is) ∙ there)))

file_moved : (files after : List NewFile) (ps : List (ℕ × ℕ)) (d i last q j : ℕ) → TakesOne files after ps d i last → same d q ≡ false → number_at files j ≡ Some q → slice_get after (moved_to last i j) ≡ slice_get files j
file_moved files after ps d i last q j t apart there =
    by_file (slice_get files j) q (slice_get after (moved_to last i j) ≡ slice_get files j) there
    (λ f is num. file_by (eqb j last) files after i last j t.swapped refl (other_place files after ps d i last q j t apart there) (slice_get_within files j f is))

-- ---- what the places tell after

abbrev Moves : List (ℕ × ℕ) → List (ℕ × ℕ) → ℕ → ℕ → ℕ → Type 0
Moves ps qs d i last = (q : ℕ) → found qs q ≡ cond (same d q) None (moved last i (found ps q))

moved_same : (last : ℕ) (o : Option ℕ) → moved last last o ≡ o
moved_same last None = refl
moved_same last (Some j) = ap (λ (k : ℕ). some k) (by_test (eqb j last) (λ (b : Bool). eqb j last ≡ b → cond b last j ≡ j) (λ _ is. sym (eqb-true j last is)) (λ _ _. refl) refl)

not_last : (files after : List NewFile) (ps : List (ℕ × ℕ)) (i last m q : ℕ) (o : Option ℕ) → ((j : ℕ) → o ≡ Some j → number_at files j ≡ Some q) → number_at files last ≡ Some m → same m q ≡ false → moved last i o ≡ o
not_last files after ps i last m q None h is apart = refl
not_last files after ps i last m q (Some j) h is apart =
    ap (λ (k : ℕ). some k) (by_test (eqb j last) (λ (b : Bool). eqb j last ≡ b → cond b i j ≡ j)
    (λ _ e. absurd (both_ways (same m q) apart (some_test m q (one_number files last m q is (ap (number_at files) (sym (eqb-true j last e)) ∙ h j refl)))))
    (λ _ _. refl) refl)

moves_by : (b : Bool) (files after : List NewFile) (ps : List (ℕ × ℕ)) (d i last m q : ℕ) → TakesOne files after ps d i last → same m q ≡ b → same d m ≡ false → number_at files last ≡ Some m
    → cond b (some i) (cond (same d q) None (found ps q)) ≡ cond (same d q) None (moved last i (found ps q))
moves_by true files after ps d i last m q t is apart at =
    let none : same d q ≡ false = ap (same d) (sym (same_is m q is)) ∙ apart in
    let there : found ps q ≡ Some last = ap (found ps) (sym (same_is m q is)) ∙ t.placed_so.complete m last at in
    let self : eqb last last ≡ true = grind (arith, nat_tests) in
    rw (none, there, self) refl
moves_by false files after ps d i last m q t is apart at =
    ap (λ (o : Option ℕ). cond (same d q) None o) (sym (not_last files after ps i last m q (found ps q) (t.placed_so.sound q) at is))

none_within : (xs : List NewFile) (i : ℕ) → i < length xs → slice_get xs i ≡ None → ⊥
none_within [] i lt e = absurd (omega arith)
none_within (x ∷ xs) zero lt e = absurd cc
none_within (x ∷ xs) (suc i) lt e = none_within xs i (omega arith) e

last_file : (files after : List NewFile) (i last : ℕ) (o : Option NewFile) → IsSwapped files after i last → slice_get after i ≡ o → o ≡ None → i ≡ last
last_file files after i last o s is none =
    by_test (eqb i last) (λ (b : Bool). eqb i last ≡ b → i ≡ last) (λ _ e. eqb-true i last e)
    (λ _ e. let lt : i < last = (let le = s.within in grind (arith, nat_tests)) in
    absurd (none_within files last (let l = s.long in omega arith) (sym (s.moved lt) ∙ is ∙ none)))
    refl

moved_number : (files after : List NewFile) (ps : List (ℕ × ℕ)) (d i last : ℕ) (f : NewFile) → TakesOne files after ps d i last → slice_get after i ≡ Some f → i < last
moved_number files after ps d i last f t is = let lt = slice_get_within after i f is in let s = t.swapped.short in omega arith

other_number : (files after : List NewFile) (ps : List (ℕ × ℕ)) (d i last m : ℕ) → TakesOne files after ps d i last → i < last → number_at files last ≡ Some m → same d m ≡ false
other_number files after ps d i last m t lt at =
    by_test (same d m) (λ (b : Bool). same d m ≡ b → b ≡ false)
    (λ _ is. let e : i ≡ last = same_Some i last (sym t.under ∙ ap (found ps) (same_is d m is) ∙ t.placed_so.complete m last at) in absurd (omega arith))
    (λ _ _. refl) refl

moves_at : (o : Option NewFile) (files after : List NewFile) (ps : List (ℕ × ℕ)) (d i last : ℕ) → TakesOne files after ps d i last → slice_get after i ≡ o → Moves ps (with_place_of o i (remove_entry (is_at (nat_cmp d)) ps)) d i last
moves_at None files after ps d i last t is = λ q.
    found_without d q ps t.placed_so.rises
    ∙ ap (λ (o : Option ℕ). cond (same d q) None o) (sym (moved_same last (found ps q)) ∙ ap (λ (k : ℕ). moved last k (found ps q)) (sym (last_file files after i last None t.swapped is refl)))
moves_at (Some f) files after ps d i last t is = λ q.
    let lt = moved_number files after ps d i last f t is in
    let at : number_at files last ≡ Some f.meta.number = ap number_of (sym (t.swapped.moved lt) ∙ is) in
    let apart : same d f.meta.number ≡ false = other_number files after ps d i last f.meta.number t lt at in
    let there : found (remove_entry (is_at (nat_cmp d)) ps) f.meta.number ≡ Some last = found_without d f.meta.number ps t.placed_so.rises ∙ rw apart (t.placed_so.complete f.meta.number last at) in
    found_set f.meta.number i q (remove_entry (is_at (nat_cmp d)) ps) (ap is_some there)
    ∙ ap (λ (o : Option ℕ). cond (same f.meta.number q) (some i) o) (found_without d q ps t.placed_so.rises)
    ∙ moves_by (same f.meta.number q) files after ps d i last f.meta.number q t refl apart at

-- ---- what is found after

abbrev pub left : List NewFile → List (ℕ × ℕ) → ℕ → ℕ → List (ℕ × ℕ)
left after ps d i = with_place_of (slice_get after i) i (remove_entry (is_at (nat_cmp d)) ps)

rises_at : (o : Option NewFile) (i : ℕ) (ps : List (ℕ × ℕ)) → Rises ps → Rises (with_place_of o i ps)
rises_at None i ps h = h
rises_at (Some f) i ps h = subst (IsStrictlySortedBy nat_cmp) (sym (keys-set_value (is_at (nat_cmp f.meta.number)) ps i)) h

file_at : (files after : List NewFile) (ps : List (ℕ × ℕ)) (d i last q : ℕ) (o : Option ℕ) → TakesOne files after ps d i last → same d q ≡ false → ((j : ℕ) → o ≡ Some j → number_at files j ≡ Some q)
    → at_place after (moved last i o) ≡ at_place files o
file_at files after ps d i last q None t apart h = refl
file_at files after ps d i last q (Some j) t apart h = file_moved files after ps d i last q j t apart (h j refl)

number_by : (o : Option ℕ) (files : List NewFile) (q i last k : ℕ) → moved last i o ≡ Some k → ((j : ℕ) → o ≡ Some j → number_at files j ≡ Some q) → number_of (at_place files o) ≡ Some q
number_by None files q i last k e h = absurd (none-some k e)
number_by (Some j) files q i last k e h = h j refl

sound_by : (b : Bool) (files after : List NewFile) (ps : List (ℕ × ℕ)) (d i last n k : ℕ) → TakesOne files after ps d i last → same d n ≡ b → cond b None (moved last i (found ps n)) ≡ Some k → number_at after k ≡ Some n
sound_by true files after ps d i last n k t is e = absurd (none-some k e)
sound_by false files after ps d i last n k t is e =
    ap (λ (o : Option ℕ). number_of (at_place after o)) (sym e)
    ∙ ap number_of (file_at files after ps d i last n (found ps n) t is (t.placed_so.sound n))
    ∙ number_by (found ps n) files n i last k e (t.placed_so.sound n)

sound_after : (files after : List NewFile) (ps qs : List (ℕ × ℕ)) (d i last : ℕ) → TakesOne files after ps d i last → Moves ps qs d i last → AreSound after qs
sound_after files after ps qs d i last t m = λ n k e. sound_by (same d n) files after ps d i last n k t refl (sym (m n) ∙ e)

found_moved : (files after : List NewFile) (ps qs : List (ℕ × ℕ)) (d i last n j k : ℕ) → TakesOne files after ps d i last → Moves ps qs d i last → number_at files j ≡ Some n → (j ≡ i → ⊥) → moved_to last i j ≡ k → found qs n ≡ Some k
found_moved files after ps qs d i last n j k t m there apart is =
    let at : found ps n ≡ Some j = t.placed_so.complete n j there in
    let other : same d n ≡ false = by_test (same d n) (λ (b : Bool). same d n ≡ b → b ≡ false)
    (λ _ e. absurd (apart (sym (same_Some i j (sym t.under ∙ ap (found ps) (same_is d n e) ∙ at))))) (λ _ _. refl) refl in
    m n ∙ ap (λ (b : Bool). cond b None (moved last i (found ps n))) other ∙ ap (moved last i) at ∙ ap (λ (x : ℕ). some x) is

complete_by : (b : Bool) (files after : List NewFile) (ps qs : List (ℕ × ℕ)) (d i last n k : ℕ) → TakesOne files after ps d i last → Moves ps qs d i last → eqb k i ≡ b → k < last → number_at after k ≡ Some n → found qs n ≡ Some k
complete_by true files after ps qs d i last n k t m is lt there =
    let k-is = eqb-true k i is in
    let low : i < last = omega arith in
    let self : eqb last last ≡ true = grind (arith, nat_tests) in
    found_moved files after ps qs d i last n last k t m (ap number_of (sym (t.swapped.moved low)) ∙ ap (number_at after) (sym k-is) ∙ there) (λ e. omega arith) (ap (λ (b : Bool). cond b i last) self ∙ sym k-is)
complete_by false files after ps qs d i last n k t m is lt there =
    let apart : k ≡ i → ⊥ = λ e. both_ways (eqb k i) is (eq-eqb k i e) in
    let low : eqb k last ≡ false = grind (arith, nat_tests) in
    found_moved files after ps qs d i last n k k t m (ap number_of (sym (t.swapped.others k apart lt)) ∙ there) apart (ap (λ (b : Bool). cond b i k) low)

complete_after : (files after : List NewFile) (ps qs : List (ℕ × ℕ)) (d i last : ℕ) → TakesOne files after ps d i last → Moves ps qs d i last → AreComplete after qs
complete_after files after ps qs d i last t m = λ n k e.
    by_file (slice_get after k) n (found qs n ≡ Some k) e
    (λ f is num. let lt = slice_get_within after k f is in let s = t.swapped.short in complete_by (eqb k i) files after ps qs d i last n k t m refl (omega arith) e)

pub placed_left : (files after : List NewFile) (ps : List (ℕ × ℕ)) (d i last : ℕ) → TakesOne files after ps d i last → AreFilePlaces after (left after ps d i)
placed_left files after ps d i last t =
    let m = moves_at (slice_get after i) files after ps d i last t refl in
    record {
      rises = rises_at (slice_get after i) i (remove_entry (is_at (nat_cmp d)) ps) (rises_without (is_at (nat_cmp d)) ps t.placed_so.rises);
      sound = sound_after files after ps (left after ps d i) d i last t m;
      complete = complete_after files after ps (left after ps d i) d i last t m;
    }

same_by : (b : Bool) (files after : List NewFile) (ps : List (ℕ × ℕ)) (d i last q : ℕ) → TakesOne files after ps d i last → same d q ≡ b → at_place after (cond b None (moved last i (found ps q))) ≡ cond b None (at_place files (found ps q))
same_by true files after ps d i last q t is = refl
same_by false files after ps d i last q t is = file_at files after ps d i last q (found ps q) t is (t.placed_so.sound q)

-- the files that are left, by number, are those without the one that is taken out
pub left_is : (files after : List NewFile) (ps : List (ℕ × ℕ)) (d i last : ℕ) → TakesOne files after ps d i last → numbered_files after (left after ps d i) ≡ remove_entry (is_at (nat_cmp d)) (numbered_files files ps)
left_is files after ps d i last t =
    let was = by_number_is files ps t.placed_so in
    let now = placed_left files after ps d i last t in
    same_entries (numbered_files after (left after ps d i)) (remove_entry (is_at (nat_cmp d)) (numbered_files files ps)) (by_number_is after (left after ps d i) now).rises (rises_without (is_at (nat_cmp d)) (numbered_files files ps) was.rises)
    (λ q.
    found_placed after (left after ps d i) q (held_is after (left after ps d i) now)
    ∙ ap (at_place after) (moves_at (slice_get after i) files after ps d i last t refl q)
    ∙ same_by (same d q) files after ps d i last q t refl
    ∙ ap (λ (o : Option NewFile). cond (same d q) None o) (sym (found_placed files ps q (held_is files ps t.placed_so)))
    ∙ sym (found_without d q (numbered_files files ps) was.rises))

-- ---- a deletion

pub left_as : (after : List NewFile) (ps some_ps qs : List (ℕ × ℕ)) (d i : ℕ) → qs ≡ with_place_of (slice_get after i) i some_ps → some_ps ≡ remove_entry (is_at (nat_cmp d)) ps → qs ≡ left after ps d i
left_as after ps some_ps qs d i e h = e ∙ ap (with_place_of (slice_get after i) i) h

found_file : (files : List NewFile) (ps : List (ℕ × ℕ)) (n : ℕ) (o : Option ℕ) → AreFilePlaces files ps → found ps n ≡ o → at_place files o ≡ found (numbered_files files ps) n
found_file files ps n o h under = ap (at_place files) (sym under) ∙ sym (found_placed files ps n (held_is files ps h))

-- whether the file under a deletion's number stands at its level
pub stands_there : (files : List NewFile) (ps : List (ℕ × ℕ)) (d : DeletedFile) (i : ℕ) (x : NewFile) → AreFilePlaces files ps → found ps d.number ≡ Some i → slice_get files i ≡ Some x
    → eqb x.level d.level ≡ has_place (values_of (numbered_files files ps)) d
stands_there files ps d i x h under is =
    let es = by_number_is files ps h in
    ap (λ (o : Option NewFile). option_map_or (λ (f : NewFile). eqb f.level d.level) o false) (sym is ∙ found_file files ps d.number (Some i) h under) ∙ there_is (numbered_files files ps) d es.numbers es.rises

pub stands_nowhere : (files : List NewFile) (ps : List (ℕ × ℕ)) (d : DeletedFile) → AreFilePlaces files ps → found ps d.number ≡ None → false ≡ has_place (values_of (numbered_files files ps)) d
stands_nowhere files ps d h under =
    let es = by_number_is files ps h in
    ap (λ (o : Option NewFile). option_map_or (λ (f : NewFile). eqb f.level d.level) o false) (found_file files ps d.number None h under) ∙ there_is (numbered_files files ps) d es.numbers es.rises

pub others_left : (files after : List NewFile) (ps qs : List (ℕ × ℕ)) (d : DeletedFile) (i last : ℕ) → TakesOne files after ps d.number i last → qs ≡ left after ps d.number i → has_place (values_of (numbered_files files ps)) d ≡ true
    → values_of (numbered_files after qs) ≡ undeleted_files (d ∷ []) (values_of (numbered_files files ps))
others_left files after ps qs d i last t is there =
    let es = by_number_is files ps t.placed_so in
    ap (λ (q : List (ℕ × ℕ)). values_of (numbered_files after q)) is ∙ ap values_of (left_is files after ps d.number i last t) ∙ others_are (numbered_files files ps) d es.numbers es.rises there

-- ---- a place that no number has

set_none_by : (b : Bool) (test : ℕ → Bool) (p : ℕ × ℕ) (ps : List (ℕ × ℕ)) (i : ℕ) → cond b (some p.1) (lookup test ps) ≡ None → (lookup test ps ≡ None → set_value test ps i ≡ ps)
    → cond b ((p.0, i) ∷ ps) (p ∷ set_value test ps i) ≡ p ∷ ps
set_none_by true test p ps i none rest = absurd (none-some p.1 (sym none))
set_none_by false test p ps i none rest = ap (λ (qs : List (ℕ × ℕ)). p ∷ qs) (rest none)

pub set_none : (test : ℕ → Bool) (ps : List (ℕ × ℕ)) (i : ℕ) → lookup test ps ≡ None → set_value test ps i ≡ ps
set_none test [] i none = refl
set_none test (p ∷ ps) i none = set_none_by (test p.0) test p ps i none (set_none test ps i)
