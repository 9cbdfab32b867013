-- The files after two edits as one.
use Rattle.std.proofs.Common.{◌≡◌, Bool, true, false, not, cond, ◌&&◌, ◌||◌, List, [], ◌∷◌, ◌++◌, Option, Some, None, refl, sym, ap, ◌∙◌}
use Rattle.std.specs.List.{AllByRecursion, filter, fold, list_all, list_any}
use Rattle.std.specs.List.Sorted.{IsStrictlySortedBy}
use Rattle.std.specs.Option.{option_map, option_or}
use Rattle.std.specs.Ordering.{is_eq, match_ordering}
use Rattle.std.specs.declared.cmp.Ordering.{Ordering}
use Rattle.std.specs.declared.cmp.Ordering.TheVariants.{Less, Equal, Greater}
use Rattle.std.proofs.lemmas.List.Sums.{fold-append}
use Rattle.edit.specs.Edit.{Edit}
use Rattle.edit.specs.Version.{State, are_apart, are_new, files_after, has_number, has_place, is_deleted, is_same_place, number_cmp, place_of, undeleted_files, with_file, with_pointer}
use Rattle.edit.specs.declared.meta.DeletedFile.{DeletedFile}
use Rattle.edit.specs.declared.meta.NewFile.{NewFile}
use Rattle.edit.proofs.Applied.{after_is}
use Rattle.edit.proofs.Inserted.{sorted_all}
use Rattle.edit.proofs.Kept.{new_on, taken_is}
use Rattle.edit.proofs.RisingFiles.{number_total, rising_filter, same_file}
use Rattle.edit.proofs.Tested.{both_false, both_true, by_test, is_eq-nat_cmp, list_any-filter, not_is_true}
use Rattle.install.specs.JoinedEdits.{JoinedApplies, joined_edit}
use Rattle.install.proofs.DeletedSets.{all_puts, and_both, any_puts, puts}
use Rattle.install.proofs.Options.{made, option_parts}

-- ---- a file that passes a test is put in before it or after it

below_rest : (f x : NewFile) (xs : List NewFile) → number_cmp f x ≡ Less → AllByRecursion (λ y. number_cmp x y ≡ Less) xs → AllByRecursion (λ y. number_cmp f y ≡ Less) xs
below_rest f x [] e h = tt
below_rest f x (y ∷ ys) e h = (number_total.trans f x y e h.0, below_rest f x ys e h.1)

below_kept : (keep : NewFile → Bool) (f : NewFile) (xs : List NewFile) → AllByRecursion (λ y. number_cmp f y ≡ Less) xs → AllByRecursion (λ y. number_cmp f y ≡ Less) (filter keep xs)
below_kept keep f [] h = tt
below_kept keep f (y ∷ ys) h =
    by_test (keep y) (λ (b : Bool). AllByRecursion (λ z. number_cmp f z ≡ Less) (cond b (y ∷ filter keep ys) (filter keep ys))) (λ _. (h.0, below_kept keep f ys h.1)) (λ _. below_kept keep f ys h.1)

put_first : (f : NewFile) (xs : List NewFile) → AllByRecursion (λ y. number_cmp f y ≡ Less) xs → with_file xs f ≡ f ∷ xs
put_first f [] h = refl
put_first f (x ∷ xs) h = ap (λ (o : Ordering). match_ordering o (f ∷ x ∷ xs) (x ∷ xs) (x ∷ with_file xs f)) h.0

module _ (keep : NewFile → Bool) (f : NewFile) (passes : keep f ≡ true) where
  first_kept : (xs : List NewFile) → filter keep (f ∷ xs) ≡ f ∷ filter keep xs
  first_kept xs = ap (λ (b : Bool). cond b (f ∷ filter keep xs) (filter keep xs)) passes

  put_by : (x : NewFile) (xs : List NewFile) (o : Ordering) → number_cmp f x ≡ o → is_eq o ≡ false → AllByRecursion (λ y. number_cmp x y ≡ Less) xs → filter keep (with_file xs f) ≡ with_file (filter keep xs) f
      → filter keep (match_ordering o (f ∷ x ∷ xs) (x ∷ xs) (x ∷ with_file xs f)) ≡ with_file (filter keep (x ∷ xs)) f
  put_by x xs Less e apart up rest = first_kept (x ∷ xs) ∙ sym (put_first f (filter keep (x ∷ xs)) (below_kept keep f (x ∷ xs) (e, below_rest f x xs e up)))
  put_by x xs Equal e apart up rest = absurd cc
  put_by x xs Greater e apart up rest =
      by_test (keep x) (λ (b : Bool). cond b (x ∷ filter keep (with_file xs f)) (filter keep (with_file xs f)) ≡ with_file (cond b (x ∷ filter keep xs) (filter keep xs)) f)
      (λ _. ap (λ (ys : List NewFile). x ∷ ys) rest ∙ sym (ap (λ (p : Ordering). match_ordering p (f ∷ x ∷ filter keep xs) (x ∷ filter keep xs) (x ∷ with_file (filter keep xs) f)) e))
      (λ _. rest)

  put_kept : (xs : List NewFile) → IsStrictlySortedBy number_cmp xs → has_number xs f.meta.number ≡ false → filter keep (with_file xs f) ≡ with_file (filter keep xs) f
  unfolding IsStrictlySortedBy
  put_kept [] up free = first_kept []
  put_kept (x ∷ xs) up free =
      let h = both_false (same_file f x) (has_number xs f.meta.number) free in
      put_by x xs (number_cmp f x) refl (is_eq-nat_cmp f.meta.number x.meta.number ∙ h.0) up.0 (put_kept xs up.1 h.1)

-- ---- new files

not_taken : (files : List NewFile) (f : NewFile) (rest : List NewFile) → are_new files (f ∷ rest) ≡ true → has_number files f.meta.number ≡ false
not_taken files f rest new = by (has_number files f.meta.number) refl
  where
    by : (b : Bool) → has_number files f.meta.number ≡ b → b ≡ false
    by true e = let both : false ≡ true = sym (taken_is files f rest e) ∙ new in absurd cc
    by false e = refl

-- those that pass a test are put in before it or after it
puts_kept : (keep : NewFile → Bool) (files added : List NewFile) → IsStrictlySortedBy number_cmp files → AllByRecursion (λ a. keep a ≡ true) added → are_new files added ≡ true → filter keep (fold with_file files added) ≡ fold with_file (filter keep files) added
puts_kept keep files [] up pass new = refl
puts_kept keep files (f ∷ added) up pass new =
    let free = not_taken files f added new in
    puts_kept keep (with_file files f) added (sorted_all number_cmp number_total files (f ∷ []) up) pass.1 (sym (new_on files f added free) ∙ new)
    ∙ ap (λ (xs : List NewFile). fold with_file xs added) (put_kept keep f pass.0 files up free)

-- some after others
new_then : (files one two : List NewFile) → are_new files one ≡ true → are_new files (one ++ two) ≡ are_new (fold with_file files one) two
new_then files [] two new = refl
new_then files (f ∷ one) two new =
    let free = not_taken files f one new in
    new_on files f (one ++ two) free ∙ new_then (with_file files f) one two (sym (new_on files f one free) ∙ new)

not_false : (a : Bool) → a ≡ false → not a ≡ true
not_false true e = absurd cc
not_false false e = refl

new_among : (keep : NewFile → Bool) (files added : List NewFile) → are_new files added ≡ true → are_new (filter keep files) added ≡ true
new_among keep files added new =
    let p = λ (f : NewFile). has_number added f.meta.number in
    let parts = both_true (are_apart added) (not (list_any p files)) new in
    and_both (are_apart added) (not (list_any p (filter keep files))) parts.0 (not_false (list_any p (filter keep files)) (list_any-filter p keep files (not_is_true (list_any p files) parts.1)))

-- ---- files that no deletion names

kept_twice : (one two both : NewFile → Bool) → ((f : NewFile) → both f ≡ (one f && two f)) → (files : List NewFile) → filter both files ≡ filter two (filter one files)
kept_twice one two both same [] = refl
kept_twice one two both same (f ∷ files) =
    ap (λ (b : Bool). cond b (f ∷ filter both files) (filter both files)) (same f)
    ∙ by_test (one f) (λ (b : Bool). cond (b && two f) (f ∷ filter both files) (filter both files) ≡ filter two (cond b (f ∷ filter one files) (filter one files)))
    (λ _. ap (λ (xs : List NewFile). cond (two f) (f ∷ xs) xs) (kept_twice one two both same files))
    (λ _. kept_twice one two both same files)

neither : (a b : Bool) → not (a || b) ≡ (not a && not b)
neither true b = refl
neither false b = refl

undeleted_both : (one two : List DeletedFile) (files : List NewFile) → undeleted_files (puts one two) files ≡ undeleted_files two (undeleted_files one files)
undeleted_both one two files =
    kept_twice (λ f. not (is_deleted one f)) (λ f. not (is_deleted two f)) (λ f. not (is_deleted (puts one two) f))
    (λ f. ap not (any_puts (is_same_place (place_of f)) one two) ∙ neither (is_deleted one f) (is_deleted two f)) files

-- ---- both edits

abbrev some_files : List NewFile → Option (List NewFile)
some_files files = Some files

record IsAfter (files : List NewFile) (deleted : List DeletedFile) (added after : List NewFile) : Type 0 where
  places : list_all (has_place files) deleted ≡ true
  new : are_new (undeleted_files deleted files) added ≡ true
  is : fold with_file (undeleted_files deleted files) added ≡ after

tests_passed : (a b : Bool) (x y : List NewFile) → cond (a && b) (Some x) None ≡ some_files y → (a ≡ true) × (b ≡ true) × (x ≡ y)
tests_passed true true x y e = (refl, refl, cc)
tests_passed true false x y e = absurd cc
tests_passed false b x y e = absurd cc

taken_apart : (files : List NewFile) (deleted : List DeletedFile) (added after : List NewFile) → files_after files deleted added ≡ Some after → IsAfter files deleted added after
taken_apart files deleted added after h =
    let t = tests_passed (list_all (has_place files) deleted) (are_new (undeleted_files deleted files) added) (fold with_file (undeleted_files deleted files) added) after h in
    record { places = t.0; new = t.1; is = t.2 }

undeleted_all : (deleted : List DeletedFile) (added : List NewFile) → AllByRecursion (λ (a : NewFile). is_deleted deleted a ≡ false) added → AllByRecursion (λ (a : NewFile). not (is_deleted deleted a) ≡ true) added
undeleted_all deleted [] h = tt
undeleted_all deleted (a ∷ added) h = (not_false (is_deleted deleted a) h.0, undeleted_all deleted added h.1)

files_joined : (files middle after : List NewFile) (one two : List DeletedFile) (a b : List NewFile) → IsStrictlySortedBy number_cmp files → files_after files one a ≡ Some middle → files_after middle two b ≡ Some after
    → list_all (has_place files) two ≡ true → AllByRecursion (λ (x : NewFile). is_deleted two x ≡ false) a → files_after files (puts one two) (a ++ b) ≡ Some after
files_joined files middle after one two a b up first later places apart =
    let h = taken_apart files one a middle first in
    let k = taken_apart middle two b after later in
    let keep = λ (f : NewFile). not (is_deleted two f) in
    let left = undeleted_files one files in
    let both = undeleted_both one two files in
    let up_left = rising_filter number_cmp (λ (f : NewFile). not (is_deleted one f)) files up in
    let moved : undeleted_files two middle ≡ fold with_file (undeleted_files two left) a =
    ap (undeleted_files two) (sym h.is) ∙ puts_kept keep left a up_left (undeleted_all two a apart) h.new in
    let new : are_new (undeleted_files (puts one two) files) (a ++ b) ≡ true =
    ap (λ (xs : List NewFile). are_new xs (a ++ b)) both
    ∙ new_then (undeleted_files two left) a b (new_among keep left a h.new)
    ∙ ap (λ (xs : List NewFile). are_new xs b) (sym moved)
    ∙ k.new in
    after_is files (puts one two) (a ++ b) (all_puts (has_place files) one two h.places places) new
    ∙ ap some_files (
    ap (λ (xs : List NewFile). fold with_file xs (a ++ b)) both
    ∙ fold-append with_file (undeleted_files two left) a b
    ∙ ap (λ (xs : List NewFile). fold with_file xs b) (sym moved)
    ∙ k.is
    )

-- ---- versions

or_three : {A : Type 0} (a b c : Option A) → option_or (option_or a b) c ≡ option_or a (option_or b c)
or_three None b c = refl
or_three (Some x) b c = refl

made_joined : (v : State) (e f : Edit) (middle files : List NewFile) → made v (joined_edit e f) files ≡ made (made v e middle) f files
made_joined v e f middle files =
    let log = or_three f.log_number e.log_number v.log_number in
    let previous = or_three f.previous_log e.previous_log v.previous_log in
    let next = or_three f.next_file e.next_file v.next_file in
    let last = or_three f.last_sequence e.last_sequence v.last_sequence in
    let pointers = fold-append with_pointer v.pointers e.pointers f.pointers in
    rw (log, previous, next, last, pointers) refl

pub joined_applies : JoinedApplies
joined_applies v next last e f state first later places apart =
    let one = option_parts (made v e) (files_after v.files e.deleted e.added) next first in
    let two = option_parts (made next f) (files_after next.files f.deleted f.added) last later in
    let middle : one.0 ≡ next.files = ap (λ (s : State). s.files) one.2 in
    let files = files_joined v.files next.files two.0 e.deleted f.deleted e.added f.added state.files_rise (one.1 ∙ ap some_files middle) two.1 places apart in
    ap (option_map (made v (joined_edit e f))) files
    ∙ ap (λ (s : State). Some s) (made_joined v e f one.0 two.0 ∙ ap (λ (s : State). made s f two.0) one.2 ∙ two.2)
