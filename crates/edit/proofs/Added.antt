-- New files, known from others by how many entries there are.
use Rattle.std.proofs.Common.{◌≡◌, ℕ, suc, ◌+◌, ◌<◌, ◌≤◌, Bool, true, false, not, eqb, List, [], ◌∷◌, length, Option, Some, None, Result, Ok, if◌then◌else◌, is_none, refl, sym, ap, ◌∙◌, arith}
use Rattle.std.specs.List.{fold}
use Rattle.std.specs.List.Sorted.{IsStrictlySortedBy}
use Rattle.std.specs.Map.{values_of}
use Rattle.std.specs.Ordering.{nat_cmp, is_eq, match_ordering}
use Rattle.std.specs.BTreeMap.{is_at}
use Rattle.std.specs.declared.cmp.Ordering.{Ordering}
use Rattle.std.specs.declared.cmp.Ordering.TheVariants.{Less, Equal, Greater}
use Rattle.std.proofs.lemmas.Bool.Decides.{nat_tests}
use Rattle.std.proofs.lemmas.Map.Entries.{lookup_head, lookup_tail}
use Rattle.coding.specs.declared.fault.Fault.{Fault}
use Rattle.edit.proofs.ByNumber.{IsByNumber, with_numbered}
use Rattle.edit.specs.Version.{has_number, are_new, with_file}
use Rattle.edit.specs.declared.meta.NewFile.{NewFile}
use Rattle.edit.proofs.Kept.{Numbered, no_file, free_is, put_is, numbered_put, new_on, taken_is, none_new}
use Rattle.edit.proofs.Tested.{not_is_true}
use Rattle.edit.proofs.Together.{Rises, found, below_head, rises_put}

-- ---- how many entries there are with one more

abbrev some_file : NewFile → Option NewFile
some_file f = Some f

one_more_by : (o : Ordering) (e : ℕ × NewFile) (es : List (ℕ × NewFile)) (f : NewFile) → nat_cmp f.meta.number e.0 ≡ o → found (e ∷ es) f.meta.number ≡ no_file
    → (found es f.meta.number ≡ no_file → length (with_numbered es f) ≡ suc (length es))
    → length (match_ordering o ((f.meta.number, f) ∷ e ∷ es) ((e.0, f) ∷ es) (e ∷ with_numbered es f)) ≡ suc (suc (length es))
one_more_by Less e es f is none rest = refl
one_more_by Equal e es f is none rest = let there : some_file e.1 ≡ no_file = sym (lookup_head (is_at (nat_cmp f.meta.number)) e es (ap is_eq is)) ∙ none in absurd cc
one_more_by Greater e es f is none rest = ap suc (rest (sym (lookup_tail (is_at (nat_cmp f.meta.number)) e es (ap is_eq is)) ∙ none))

one_more : (es : List (ℕ × NewFile)) (f : NewFile) → found es f.meta.number ≡ no_file → length (with_numbered es f) ≡ suc (length es)
one_more [] f none = refl
one_more (e ∷ es) f none = one_more_by (nat_cmp f.meta.number e.0) e es f refl none (one_more es f)

as_many_by : (o : Ordering) (e : ℕ × NewFile) (es : List (ℕ × NewFile)) (f g : NewFile) → nat_cmp f.meta.number e.0 ≡ o → Rises (e ∷ es) → found (e ∷ es) f.meta.number ≡ some_file g
    → (found es f.meta.number ≡ some_file g → length (with_numbered es f) ≡ length es)
    → length (match_ordering o ((f.meta.number, f) ∷ e ∷ es) ((e.0, f) ∷ es) (e ∷ with_numbered es f)) ≡ suc (length es)
as_many_by Less e es f g is h there rest = let none : no_file ≡ some_file g = sym (below_head f.meta.number e es h is) ∙ there in absurd cc
as_many_by Equal e es f g is h there rest = refl
as_many_by Greater e es f g is h there rest = ap suc (rest (sym (lookup_tail (is_at (nat_cmp f.meta.number)) e es (ap is_eq is)) ∙ there))

as_many : (es : List (ℕ × NewFile)) (f g : NewFile) → Rises es → found es f.meta.number ≡ some_file g → length (with_numbered es f) ≡ length es
unfolding IsStrictlySortedBy
as_many [] f g h there = absurd cc
as_many (e ∷ es) f g h there = as_many_by (nat_cmp f.meta.number e.0) e es f g refl h there (as_many es f g h.1)

-- ---- how many there are with all

at_most_one : (o : Option NewFile) (es : List (ℕ × NewFile)) (f : NewFile) → Rises es → found es f.meta.number ≡ o → length (with_numbered es f) ≤ suc (length es)
at_most_one None es f h is = omega (arith, one_more es f is)
at_most_one (Some g) es f h is = omega (arith, as_many es f g h is)

at_most_all : (es : List (ℕ × NewFile)) (added : List NewFile) → Rises es → length (fold with_numbered es added) ≤ length es + length added
at_most_all es [] h = omega arith
at_most_all es (f ∷ added) h = omega (arith, at_most_one (found es f.meta.number) es f h refl, at_most_all (with_numbered es f) added (rises_put es f.meta.number f h))

too_few : (n m : ℕ) → n < m → eqb n m ≡ false
too_few n m lt = grind (arith, nat_tests)

number_free : (es : List (ℕ × NewFile)) (f : NewFile) → Numbered es → found es f.meta.number ≡ no_file → has_number (values_of es) f.meta.number ≡ false
number_free es f h none = let e : true ≡ not (has_number (values_of es) f.meta.number) = sym (ap is_none none) ∙ free_is es f.meta.number h in not_is_true (has_number (values_of es) f.meta.number) (sym e)

not_turned : (b : Bool) → false ≡ not b → b ≡ true
not_turned true e = refl
not_turned false e = absurd cc

number_taken : (es : List (ℕ × NewFile)) (f g : NewFile) → Numbered es → found es f.meta.number ≡ some_file g → has_number (values_of es) f.meta.number ≡ true
number_taken es f g h there = not_turned (has_number (values_of es) f.meta.number) (sym (ap is_none there) ∙ free_is es f.meta.number h)

count_by : (o : Option NewFile) (es : List (ℕ × NewFile)) (f : NewFile) (added : List NewFile) → Numbered es → Rises es → found es f.meta.number ≡ o
    → eqb (length (fold with_numbered (with_numbered es f) added)) (length (with_numbered es f) + length added) ≡ are_new (values_of (with_numbered es f)) added
    → eqb (length (fold with_numbered (with_numbered es f) added)) (length es + suc (length added)) ≡ are_new (values_of es) (f ∷ added)
count_by None es f added n h none rest =
    let more : length es + suc (length added) ≡ length (with_numbered es f) + length added = omega (arith, one_more es f none) in
    ap (eqb (length (fold with_numbered (with_numbered es f) added))) more
    ∙ rest
    ∙ ap (λ (fs : List NewFile). are_new fs added) (put_is es f n none)
    ∙ sym (new_on (values_of es) f added (number_free es f n none))
count_by (Some g) es f added n h there rest =
    let fewer : length (fold with_numbered (with_numbered es f) added) < length es + suc (length added) = omega (arith, as_many es f g h there, at_most_all (with_numbered es f) added (rises_put es f.meta.number f h)) in
    too_few (length (fold with_numbered (with_numbered es f) added)) (length es + suc (length added)) fewer ∙ sym (taken_is (values_of es) f added (number_taken es f g n there))

-- the files are new exactly if each makes one entry more
count_is : (es : List (ℕ × NewFile)) (added : List NewFile) → Numbered es → Rises es → eqb (length (fold with_numbered es added)) (length es + length added) ≡ are_new (values_of es) added
count_is es [] n h = grind (arith, nat_tests, none_new (values_of es))
count_is es (f ∷ added) n h =
    count_by (found es f.meta.number) es f added n h refl (count_is (with_numbered es f) added (numbered_put es f n) (rises_put es f.meta.number f h))

-- ---- the files with all

files_by : (o : Option NewFile) (es : List (ℕ × NewFile)) (f : NewFile) (added : List NewFile) → Numbered es → found es f.meta.number ≡ o → are_new (values_of es) (f ∷ added) ≡ true
    → (are_new (values_of (with_numbered es f)) added ≡ true → values_of (fold with_numbered (with_numbered es f) added) ≡ fold with_file (values_of (with_numbered es f)) added)
    → values_of (fold with_numbered (with_numbered es f) added) ≡ fold with_file (with_file (values_of es) f) added
files_by None es f added n none new rest =
    let put = put_is es f n none in
    rest (ap (λ (fs : List NewFile). are_new fs added) put ∙ sym (new_on (values_of es) f added (number_free es f n none)) ∙ new) ∙ ap (λ (fs : List NewFile). fold with_file fs added) put
files_by (Some g) es f added n there new rest = let taken : false ≡ true = sym (taken_is (values_of es) f added (number_taken es f g n there)) ∙ new in absurd cc

files_are : (es : List (ℕ × NewFile)) (added : List NewFile) → Numbered es → are_new (values_of es) added ≡ true → values_of (fold with_numbered es added) ≡ fold with_file (values_of es) added
files_are es [] n new = refl
files_are es (f ∷ added) n new = files_by (found es f.meta.number) es f added n refl new (files_are (with_numbered es f) added (numbered_put es f n))

-- ---- what the count says

are_new_is : (es all : List (ℕ × NewFile)) (files added : List NewFile) → IsByNumber es → values_of es ≡ files → all ≡ fold with_numbered es added
    → eqb (length all) (length es + length added) ≡ are_new files added
are_new_is es all files added h view whole =
    ap (λ (t : List (ℕ × NewFile)). eqb (length t) (length es + length added)) whole
    ∙ count_is es added h.numbers h.rises
    ∙ ap (λ (fs : List NewFile). are_new fs added) view

pub new_by_count : (es all : List (ℕ × NewFile)) (files added : List NewFile) (before more after : ℕ) (b : Bool) → IsByNumber es → values_of es ≡ files → all ≡ fold with_numbered es added
    → before ≡ length es → more ≡ length added → after ≡ length all → eqb after (before + more) ≡ b → are_new files added ≡ b
new_by_count es all files added before more after b h view whole before-is more-is after-is counted =
    sym (are_new_is es all files added h view whole)
    ∙ ap (λ (n : ℕ). eqb n (length es + length added)) (sym after-is)
    ∙ ap (λ (n : ℕ). eqb after (n + length added)) (sym before-is)
    ∙ ap (λ (n : ℕ). eqb after (before + n)) (sym more-is)
    ∙ counted

pub values_are : (es all : List (ℕ × NewFile)) (files added : List NewFile) → IsByNumber es → values_of es ≡ files → all ≡ fold with_numbered es added → are_new files added ≡ true
    → values_of all ≡ fold with_file files added
values_are es all files added h view whole new =
    ap values_of whole
    ∙ files_are es added h.numbers (ap (λ (fs : List NewFile). are_new fs added) view ∙ new)
    ∙ ap (λ (fs : List NewFile). fold with_file fs added) view

abbrev pub answer : Bool → List NewFile → Result (Option (List NewFile)) Fault
answer new files = Ok (if new then Some files else None)

pub some_files : (new : Bool) (files all : List NewFile) → new ≡ true → all ≡ files → answer new files ≡ Ok (Some all)
some_files new files all is same = rw is (ap (answer true) (sym same))

pub no_files : (new : Bool) (files : List NewFile) → new ≡ false → answer new files ≡ Ok None
no_files new files is = rw is refl
