-- Files under their numbers, and which of them an edit keeps.
use Rattle.std.proofs.Common.{◌≡◌, ℕ, Bool, true, false, not, cond, eqb, ◌&&◌, ◌||◌, List, [], ◌∷◌, Option, Some, None, refl, sym, ap, ◌∙◌}
use Rattle.std.specs.List.{filter, list_any, list_all, AllByRecursion}
use Rattle.std.specs.List.Sorted.{IsStrictlySortedBy}
use Rattle.std.specs.Map.{keys_of, values_of, lookup, remove_entry}
use Rattle.std.specs.Option.{is_none, option_map_or}
use Rattle.std.specs.Ordering.{nat_cmp, is_eq, match_ordering}
use Rattle.std.specs.BTreeMap.{is_at, insert_entry}
use Rattle.std.specs.declared.cmp.Ordering.{Ordering}
use Rattle.std.specs.declared.cmp.Ordering.TheVariants.{Less, Equal, Greater}
use Rattle.std.proofs.lemmas.Bool.{eqb-true}
use Rattle.edit.proofs.ByNumber.{IsByNumber}
use Rattle.edit.specs.Edit.{deleted_cmp}
use Rattle.edit.specs.Version.{place_of, is_same_place, is_deleted, has_place, undeleted_files, has_number, are_apart, are_new, number_cmp, with_file}
use Rattle.edit.specs.declared.meta.NewFile.{NewFile}
use Rattle.edit.specs.declared.meta.DeletedFile.{DeletedFile}
use Rattle.edit.proofs.Tested.{both_true, both_false, and_false, not_is_true, eqb-sym, is_eq-nat_cmp, is_eq-then, list_any-filter, by_test}

-- ---- files of different numbers

pub apart_filter : (keep : NewFile → Bool) (xs : List NewFile) → are_apart xs ≡ true → are_apart (filter keep xs) ≡ true
apart_filter keep [] h = refl
apart_filter keep (x ∷ xs) h =
    let a = both_true (not (has_number xs x.meta.number)) (are_apart xs) h in
    let rest = apart_filter keep xs a.1 in
    let none = list_any-filter (λ (g : NewFile). eqb x.meta.number g.meta.number) keep xs (not_is_true (has_number xs x.meta.number) a.0) in
    by_test (keep x) (λ (b : Bool). are_apart (cond b (x ∷ filter keep xs) (filter keep xs)) ≡ true) (λ _. rw none rest) (λ _. rest)

-- ---- files under their numbers

abbrev pub Numbered : List (ℕ × NewFile) → Type 0
Numbered es = AllByRecursion (λ e. e.0 ≡ e.1.meta.number) es

abbrev Above : ℕ → List (ℕ × NewFile) → Type 0
Above n es = AllByRecursion (λ k. nat_cmp n k ≡ Less) (keys_of es)

-- a key is looked at as its file's number
test_is : (n : ℕ) (e : ℕ × NewFile) → e.0 ≡ e.1.meta.number → is_at (nat_cmp n) e.0 ≡ eqb n e.1.meta.number
test_is n e is = is_eq-nat_cmp n e.0 ∙ ap (eqb n) is

above_none : (n : ℕ) (es : List (ℕ × NewFile)) → Numbered es → Above n es → has_number (values_of es) n ≡ false
above_none n [] h above = refl
above_none n (e ∷ es) h above =
    let here : eqb n e.1.meta.number ≡ false = sym (test_is n e h.0) ∙ ap is_eq above.0 in
    rw here (above_none n es h.1 above.1)

apart_entries : (es : List (ℕ × NewFile)) → Numbered es → IsStrictlySortedBy nat_cmp (keys_of es) → are_apart (values_of es) ≡ true
unfolding IsStrictlySortedBy
apart_entries [] h rises = refl
apart_entries (e ∷ es) h rises =
    let none : has_number (values_of es) e.1.meta.number ≡ false = ap (has_number (values_of es)) (sym h.0) ∙ above_none e.0 es h.1 rises.0 in
    rw none (apart_entries es h.1 rises.1)

pub by_number_apart : (es : List (ℕ × NewFile)) → IsByNumber es → are_apart (values_of es) ≡ true
by_number_apart es h = apart_entries es h.numbers h.rises

-- ---- a file put in

none_cond : (b : Bool) (f : NewFile) (rest : Option NewFile) (t : Bool) → is_none rest ≡ not t → is_none (cond b (Some f) rest) ≡ not (b || t)
none_cond true f rest t e = refl
none_cond false f rest t e = e

pub free_is : (es : List (ℕ × NewFile)) (n : ℕ) → Numbered es → is_none (lookup (is_at (nat_cmp n)) es) ≡ not (has_number (values_of es) n)
free_is [] n h = refl
free_is (e ∷ es) n h = rw (test_is n e h.0) (none_cond (eqb n e.1.meta.number) e.1 (lookup (is_at (nat_cmp n)) es) (has_number (values_of es) n) (free_is es n h.1))

abbrev pub no_file : Option NewFile
no_file = None

-- what a comparison with the first makes of entries and of files
put_by : (o : Ordering) (f : NewFile) (e : ℕ × NewFile) (es : List (ℕ × NewFile)) → cond (is_eq o) (Some e.1) (lookup (is_at (nat_cmp f.meta.number)) es) ≡ no_file
    → (lookup (is_at (nat_cmp f.meta.number)) es ≡ no_file → values_of (insert_entry nat_cmp es f.meta.number f) ≡ with_file (values_of es) f)
    → values_of (match_ordering o ((f.meta.number, f) ∷ e ∷ es) ((e.0, f) ∷ es) (e ∷ insert_entry nat_cmp es f.meta.number f)) ≡ match_ordering o (f ∷ e.1 ∷ values_of es) (e.1 ∷ values_of es) (e.1 ∷ with_file (values_of es) f)
put_by Less f e es none rest = refl
put_by Equal f e es none rest = absurd cc
put_by Greater f e es none rest = ap (λ (t : List NewFile). e.1 ∷ t) (rest none)

pub put_is : (es : List (ℕ × NewFile)) (f : NewFile) → Numbered es → lookup (is_at (nat_cmp f.meta.number)) es ≡ no_file → values_of (insert_entry nat_cmp es f.meta.number f) ≡ with_file (values_of es) f
put_is [] f h none = refl
put_is (e ∷ es) f h none =
    put_by (nat_cmp f.meta.number e.0) f e es none (put_is es f h.1)
    ∙ ap (λ (n : ℕ). match_ordering (nat_cmp f.meta.number n) (f ∷ e.1 ∷ values_of es) (e.1 ∷ values_of es) (e.1 ∷ with_file (values_of es) f)) h.0

numbered_by : (o : Ordering) (f : NewFile) (e : ℕ × NewFile) (es : List (ℕ × NewFile)) → Numbered (e ∷ es) → nat_cmp f.meta.number e.0 ≡ o → Numbered (insert_entry nat_cmp es f.meta.number f)
    → Numbered (match_ordering o ((f.meta.number, f) ∷ e ∷ es) ((e.0, f) ∷ es) (e ∷ insert_entry nat_cmp es f.meta.number f))
numbered_by Less f e es h is rest = (refl, h)
numbered_by Equal f e es h is rest = (sym (eqb-true f.meta.number e.0 (sym (is_eq-nat_cmp f.meta.number e.0) ∙ ap is_eq is)), h.1)
numbered_by Greater f e es h is rest = (h.0, rest)

pub numbered_put : (es : List (ℕ × NewFile)) (f : NewFile) → Numbered es → Numbered (insert_entry nat_cmp es f.meta.number f)
numbered_put [] f h = (refl, tt)
numbered_put (e ∷ es) f h = numbered_by (nat_cmp f.meta.number e.0) f e es h refl (numbered_put es f h.1)

-- ---- a file taken out

-- no file has the number of a place
no_place : (files : List NewFile) (d : DeletedFile) → has_number files d.number ≡ false → has_place files d ≡ false
no_place [] d e = refl
no_place (f ∷ files) d e =
    let h = both_false (eqb d.number f.meta.number) (has_number files d.number) e in
    let other : eqb f.meta.number d.number ≡ false = eqb-sym f.meta.number d.number ∙ h.0 in
    let here : is_same_place (place_of f) d ≡ false = and_false (eqb f.level d.level) (eqb f.meta.number d.number) other in
    rw here (no_place files d h.1)

kept_others : (files : List NewFile) (d : DeletedFile) → has_place files d ≡ false → undeleted_files (d ∷ []) files ≡ files
kept_others [] d e = refl
kept_others (f ∷ files) d e =
    let h = both_false (is_same_place (place_of f) d) (has_place files d) e in
    rw h.0 (ap (λ (t : List NewFile). f ∷ t) (kept_others files d h.1))

place_of_head : (level number behind : Bool) → number ≡ true → behind ≡ false → level ≡ ((level && number) || behind)
place_of_head true true false e h = refl
place_of_head false true false e h = refl
place_of_head level false behind e h = absurd cc
place_of_head level number true e h = absurd cc

-- the file under the number of a place stands there or none does
there_by : (t : Bool) (e : ℕ × NewFile) (es : List (ℕ × NewFile)) (d : DeletedFile) → eqb d.number e.1.meta.number ≡ t → (t ≡ true → has_place (values_of es) d ≡ false)
    → option_map_or (λ f. eqb f.level d.level) (lookup (is_at (nat_cmp d.number)) es) false ≡ has_place (values_of es) d
    → option_map_or (λ f. eqb f.level d.level) (cond t (Some e.1) (lookup (is_at (nat_cmp d.number)) es)) false ≡ (is_same_place (place_of e.1) d || has_place (values_of es) d)
there_by true e es d is none rest = place_of_head (eqb e.1.level d.level) (eqb e.1.meta.number d.number) (has_place (values_of es) d) (eqb-sym e.1.meta.number d.number ∙ is) (none refl)
there_by false e es d is none rest = rw (and_false (eqb e.1.level d.level) (eqb e.1.meta.number d.number) (eqb-sym e.1.meta.number d.number ∙ is)) rest

none_behind : (e : ℕ × NewFile) (es : List (ℕ × NewFile)) (d : DeletedFile) → Numbered (e ∷ es) → Above e.0 es → eqb d.number e.1.meta.number ≡ true → has_place (values_of es) d ≡ false
none_behind e es d h above is =
    no_place (values_of es) d (ap (has_number (values_of es)) (eqb-true d.number e.1.meta.number is ∙ sym h.0) ∙ above_none e.0 es h.1 above)

pub there_is : (es : List (ℕ × NewFile)) (d : DeletedFile) → Numbered es → IsStrictlySortedBy nat_cmp (keys_of es)
    → option_map_or (λ f. eqb f.level d.level) (lookup (is_at (nat_cmp d.number)) es) false ≡ has_place (values_of es) d
unfolding IsStrictlySortedBy
there_is [] d h rises = refl
there_is (e ∷ es) d h rises =
    rw (test_is d.number e h.0) (there_by (eqb d.number e.1.meta.number) e es d refl (none_behind e es d h rises.0) (there_is es d h.1 rises.1))

others_by : (t : Bool) (e : ℕ × NewFile) (es : List (ℕ × NewFile)) (d : DeletedFile) → eqb d.number e.1.meta.number ≡ t → (t ≡ true → has_place (values_of es) d ≡ false)
    → (has_place (values_of es) d ≡ true → values_of (remove_entry (is_at (nat_cmp d.number)) es) ≡ undeleted_files (d ∷ []) (values_of es))
    → (is_same_place (place_of e.1) d || has_place (values_of es) d) ≡ true
    → values_of (cond t es (e ∷ remove_entry (is_at (nat_cmp d.number)) es)) ≡ undeleted_files (d ∷ []) (e.1 ∷ values_of es)
others_by true e es d is none rest there =
    by_test (is_same_place (place_of e.1) d) (λ (b : Bool). (b || has_place (values_of es) d) ≡ true → values_of es ≡ cond (not (b || false)) (e.1 ∷ undeleted_files (d ∷ []) (values_of es)) (undeleted_files (d ∷ []) (values_of es)))
    (λ _ _. sym (kept_others (values_of es) d (none refl)))
    (λ _ h. let both : true ≡ false = sym h ∙ none refl in absurd cc)
    there
others_by false e es d is none rest there =
    let other : is_same_place (place_of e.1) d ≡ false = and_false (eqb e.1.level d.level) (eqb e.1.meta.number d.number) (eqb-sym e.1.meta.number d.number ∙ is) in
    let behind : has_place (values_of es) d ≡ true = ap (λ (b : Bool). b || has_place (values_of es) d) (sym other) ∙ there in
    rw other (ap (λ (t : List NewFile). e.1 ∷ t) (rest behind))

pub others_are : (es : List (ℕ × NewFile)) (d : DeletedFile) → Numbered es → IsStrictlySortedBy nat_cmp (keys_of es) → has_place (values_of es) d ≡ true
    → values_of (remove_entry (is_at (nat_cmp d.number)) es) ≡ undeleted_files (d ∷ []) (values_of es)
unfolding IsStrictlySortedBy
others_are [] d h rises there = refl
others_are (e ∷ es) d h rises there =
    rw (test_is d.number e h.0) (others_by (eqb d.number e.1.meta.number) e es d refl (none_behind e es d h rises.0) (others_are es d h.1 rises.1) there)

-- ---- the files that deletions name, taken out one by one

is_at-place : (a b : DeletedFile) → is_at (deleted_cmp a) b ≡ is_same_place a b
is_at-place a b =
    is_eq-then (nat_cmp a.level b.level) (nat_cmp a.number b.number)
    ∙ ap (λ (t : Bool). t && is_eq (nat_cmp a.number b.number)) (is_eq-nat_cmp a.level b.level)
    ∙ ap (λ (t : Bool). eqb a.level b.level && t) (is_eq-nat_cmp a.number b.number)

less_not_same : (d y : DeletedFile) → deleted_cmp d y ≡ Less → is_same_place d y ≡ false
less_not_same d y e = sym (is_at-place d y) ∙ ap is_eq e

place_is : (a b : DeletedFile) → is_same_place a b ≡ true → (a.level ≡ b.level) × (a.number ≡ b.number)
place_is a b e = let h = both_true (eqb a.level b.level) (eqb a.number b.number) e in (eqb-true _ _ h.0, eqb-true _ _ h.1)

-- a file that stands at one place stands at no other
one_place : (f : NewFile) (d y : DeletedFile) → is_same_place (place_of f) d ≡ true → is_same_place d y ≡ false → is_same_place (place_of f) y ≡ false
one_place f d y is apart =
    let p = place_is (place_of f) d is in
    ap (λ (k : ℕ). eqb k y.level && eqb f.meta.number y.number) p.0 ∙ ap (λ (k : ℕ). eqb d.level y.level && eqb k y.number) p.1 ∙ apart

still_there : (files : List NewFile) (d y : DeletedFile) → is_same_place d y ≡ false → has_place files y ≡ has_place (undeleted_files (d ∷ []) files) y
still_there [] d y apart = refl
still_there (f ∷ files) d y apart =
    let rest = still_there files d y apart in
    by_test (is_same_place (place_of f) d) (λ (b : Bool). is_same_place (place_of f) d ≡ b → (is_same_place (place_of f) y || has_place files y) ≡ has_place (cond (not (b || false)) (f ∷ undeleted_files (d ∷ []) files) (undeleted_files (d ∷ []) files)) y)
    (λ _ is. ap (λ (b : Bool). b || has_place files y) (one_place f d y is apart) ∙ rest)
    (λ _ _. ap (λ (b : Bool). is_same_place (place_of f) y || b) rest)
    refl

all_still_there : (files : List NewFile) (d : DeletedFile) (ds : List DeletedFile) → AllByRecursion (λ y. deleted_cmp d y ≡ Less) ds → list_all (has_place files) ds ≡ list_all (has_place (undeleted_files (d ∷ []) files)) ds
all_still_there files d [] h = refl
all_still_there files d (y ∷ ds) h =
    ap (λ (b : Bool). b && list_all (has_place files) ds) (still_there files d y (less_not_same d y h.0))
    ∙ ap (λ (b : Bool). has_place (undeleted_files (d ∷ []) files) y && b) (all_still_there files d ds h.1)

kept_both : (files : List NewFile) (d : DeletedFile) (ds : List DeletedFile) → undeleted_files (d ∷ ds) files ≡ undeleted_files ds (undeleted_files (d ∷ []) files)
kept_both [] d ds = refl
kept_both (f ∷ files) d ds =
    let rest = kept_both files d ds in
    by_test (is_same_place (place_of f) d) (λ (b : Bool). cond (not (b || is_deleted ds f)) (f ∷ undeleted_files (d ∷ ds) files) (undeleted_files (d ∷ ds) files) ≡ undeleted_files ds (cond (not (b || false)) (f ∷ undeleted_files (d ∷ []) files) (undeleted_files (d ∷ []) files)))
    (λ _. rest)
    (λ _. ap (λ (t : List NewFile). cond (not (is_deleted ds f)) (f ∷ t) t) rest)

pub kept_all : (files : List NewFile) → undeleted_files [] files ≡ files
kept_all [] = refl
kept_all (f ∷ files) = ap (λ (t : List NewFile). f ∷ t) (kept_all files)

-- what the deletions so far have left
pub record TakesOut (before : List NewFile) (all : List DeletedFile) (files : List NewFile) (rest : List DeletedFile) : Type 0 where
  pub kept : undeleted_files all before ≡ undeleted_files rest files
  pub there : list_all (has_place before) all ≡ list_all (has_place files) rest
  pub rises : IsStrictlySortedBy deleted_cmp rest

pub takes_on : (before : List NewFile) (all : List DeletedFile) (files after : List NewFile) (d : DeletedFile) (rest : List DeletedFile) → TakesOut before all files (d ∷ rest) → has_place files d ≡ true
    → after ≡ undeleted_files (d ∷ []) files → TakesOut before all after rest
unfolding IsStrictlySortedBy
takes_on before all files after d rest t there is = record {
  kept = t.kept ∙ kept_both files d rest ∙ ap (undeleted_files rest) (sym is);
  there = t.there
      ∙ ap (λ (b : Bool). b && list_all (has_place files) rest) there
      ∙ all_still_there files d rest t.rises.0
      ∙ ap (λ (fs : List NewFile). list_all (has_place fs) rest) (sym is);
  rises = t.rises.1;
}

-- ---- new files

or_turn : (a b c : Bool) → (a || (b || c)) ≡ (b || (a || c))
or_turn true true c = refl
or_turn true false c = refl
or_turn false b c = refl

-- what passes in files with one more, whose number was free
any_by : (p : NewFile → Bool) (o : Ordering) (x f : NewFile) (xs : List NewFile) → is_eq o ≡ false → list_any p (with_file xs f) ≡ (p f || list_any p xs)
    → list_any p (match_ordering o (f ∷ x ∷ xs) (x ∷ xs) (x ∷ with_file xs f)) ≡ (p f || (p x || list_any p xs))
any_by p Less x f xs apart rest = refl
any_by p Equal x f xs apart rest = absurd cc
any_by p Greater x f xs apart rest = ap (λ (b : Bool). p x || b) rest ∙ or_turn (p x) (p f) (list_any p xs)

pub any_with : (p : NewFile → Bool) (files : List NewFile) (f : NewFile) → has_number files f.meta.number ≡ false → list_any p (with_file files f) ≡ (p f || list_any p files)
any_with p [] f free = refl
any_with p (x ∷ xs) f free =
    let h = both_false (eqb f.meta.number x.meta.number) (has_number xs f.meta.number) free in
    any_by p (number_cmp f x) x f xs (is_eq-nat_cmp f.meta.number x.meta.number ∙ h.0) (any_with p xs f h.1)

or_sorted : (a b c d : Bool) → ((a || b) || (c || d)) ≡ ((a || c) || (b || d))
or_sorted true b c d = refl
or_sorted false true true d = refl
or_sorted false true false d = refl
or_sorted false false c d = refl

-- whether a new file has the number of one that is there, by the first new file and the others
clash_is : (f : NewFile) (rest files : List NewFile) → list_any (λ (g : NewFile). has_number (f ∷ rest) g.meta.number) files ≡ (has_number files f.meta.number || list_any (λ (g : NewFile). has_number rest g.meta.number) files)
clash_is f rest [] = refl
clash_is f rest (g ∷ files) =
    ap (λ (b : Bool). (eqb g.meta.number f.meta.number || has_number rest g.meta.number) || b) (clash_is f rest files)
    ∙ ap (λ (b : Bool). (b || has_number rest g.meta.number) || (has_number files f.meta.number || list_any (λ (x : NewFile). has_number rest x.meta.number) files)) (eqb-sym g.meta.number f.meta.number)
    ∙ or_sorted (eqb f.meta.number g.meta.number) (has_number rest g.meta.number) (has_number files f.meta.number) (list_any (λ (x : NewFile). has_number rest x.meta.number) files)

new_by : (a b c free : Bool) → free ≡ false → ((not a && b) && not (free || c)) ≡ (b && not (a || c))
new_by a b c true e = absurd cc
new_by true true c false e = refl
new_by true false c false e = refl
new_by false b c false e = refl

pub new_on : (files : List NewFile) (f : NewFile) (rest : List NewFile) → has_number files f.meta.number ≡ false → are_new files (f ∷ rest) ≡ are_new (with_file files f) rest
new_on files f rest free =
    ap (λ (b : Bool). (not (has_number rest f.meta.number) && are_apart rest) && not b) (clash_is f rest files)
    ∙ new_by (has_number rest f.meta.number) (are_apart rest) (list_any (λ (g : NewFile). has_number rest g.meta.number) files) (has_number files f.meta.number) free
    ∙ ap (λ (b : Bool). are_apart rest && not b) (sym (any_with (λ (g : NewFile). has_number rest g.meta.number) files f free))

-- no files with the first one are new if its number is taken
pub taken_is : (files : List NewFile) (f : NewFile) (rest : List NewFile) → has_number files f.meta.number ≡ true → are_new files (f ∷ rest) ≡ false
taken_is files f rest there =
    ap (λ (b : Bool). (not (has_number rest f.meta.number) && are_apart rest) && not b) (clash_is f rest files ∙ ap (λ (b : Bool). b || list_any (λ (g : NewFile). has_number rest g.meta.number) files) there)
    ∙ and_false (not (has_number rest f.meta.number) && are_apart rest) false refl

pub none_new : (files : List NewFile) → list_any (λ (g : NewFile). has_number [] g.meta.number) files ≡ false
none_new [] = refl
none_new (f ∷ files) = none_new files
