-- Files found by their places, and new ones put in.
use Rattle.std.proofs.Common.{◌≡◌, ◌⊎◌, inl, inr, Bor, map, ℕ, zero, suc, Bool, true, false, not, cond, List, [], ◌∷◌, ◌++◌, length, Option, Some, None, slice_get, nat_eq, ◌<◌, option_map, is_none, refl, sym, ap, subst, ◌∙◌, arith, append-nil, append_assoc, length-append}
use Rattle.std.specs.List.{fold, AllByRecursion}
use Rattle.std.specs.List.Sorted.{IsStrictlySortedBy}
use Rattle.std.specs.Map.{keys_of, values_of}
use Rattle.std.specs.Ordering.{nat_cmp, is_eq, match_ordering}
use Rattle.std.specs.BTreeMap.{insert_entry}
use Rattle.std.specs.declared.cmp.Ordering.{Ordering}
use Rattle.std.specs.declared.cmp.Ordering.TheVariants.{Less, Equal, Greater}
use Rattle.std.proofs.lemmas.Cmp.{nat_cmp_total, tied_itself}
use Rattle.std.proofs.lemmas.Map.Lookups.{exact_unsigned}
use Rattle.std.proofs.lemmas.Option.{none-some, same_Some, slice_get_within}
use Rattle.edit.proofs.ByNumber.{IsByNumber, with_numbered}
use Rattle.edit.specs.FilePlaces.{number_at, AreFilePlaces, with_found, numbered_files, file_places_from, with_place}
use Rattle.edit.specs.Version.{has_number, are_new}
use Rattle.edit.specs.VersionOrder.{files_at}
use Rattle.edit.specs.declared.meta.FileMeta.{FileMeta}
use Rattle.edit.specs.declared.meta.NewFile.{NewFile}
use Rattle.edit.proofs.Kept.{Numbered, free_is, put_is, new_on, taken_is}
use Rattle.edit.proofs.Together.{Rises, some, same, same_is, found, found_put, rises_each, at_head, past_head}

-- ---- numbers with places where their files are

abbrev pub Held : List NewFile → List (ℕ × ℕ) → Type 0
Held files ps = AllByRecursion (λ p. number_at files p.1 ≡ Some p.0) ps

abbrev pub number_of : Option NewFile → Option ℕ
number_of o = option_map (λ (f : NewFile). f.meta.number) o

-- if there is a number, there is a file of that number
pub by_file : (o : Option NewFile) (n : ℕ) (P : Type 0) → number_of o ≡ Some n → ((f : NewFile) → o ≡ Some f → f.meta.number ≡ n → P) → P
by_file None n P e k = absurd (none-some n e)
by_file (Some f) n P e k = k f refl (same_Some f.meta.number n e)

keys_by : (p : ℕ × ℕ) (o : Option NewFile) (es : List (ℕ × NewFile)) (ns : List ℕ) → number_of o ≡ Some p.0 → keys_of es ≡ ns → keys_of (with_found p.0 o es) ≡ p.0 ∷ ns
keys_by p None es ns e h = absurd (none-some p.0 e)
keys_by p (Some f) es ns e h = ap (λ (t : List ℕ). p.0 ∷ t) h

pub keys_placed : (files : List NewFile) (ps : List (ℕ × ℕ)) → Held files ps → keys_of (numbered_files files ps) ≡ keys_of ps
keys_placed files [] h = refl
keys_placed files (p ∷ ps) h = keys_by p (slice_get files p.1) (numbered_files files ps) (keys_of ps) h.0 (keys_placed files ps h.1)

numbered_by : (p : ℕ × ℕ) (o : Option NewFile) (es : List (ℕ × NewFile)) → number_of o ≡ Some p.0 → Numbered es → Numbered (with_found p.0 o es)
numbered_by p None es e h = absurd (none-some p.0 e)
numbered_by p (Some f) es e h = (sym (same_Some f.meta.number p.0 e), h)

pub numbered_placed : (files : List NewFile) (ps : List (ℕ × ℕ)) → Held files ps → Numbered (numbered_files files ps)
numbered_placed files [] h = tt
numbered_placed files (p ∷ ps) h = numbered_by p (slice_get files p.1) (numbered_files files ps) h.0 (numbered_placed files ps h.1)

length_by : (p : ℕ × ℕ) (o : Option NewFile) (es : List (ℕ × NewFile)) (n : ℕ) → number_of o ≡ Some p.0 → length es ≡ n → length (with_found p.0 o es) ≡ suc n
length_by p None es n e h = absurd (none-some p.0 e)
length_by p (Some f) es n e h = ap suc h

pub length_placed : (files : List NewFile) (ps : List (ℕ × ℕ)) → Held files ps → length (numbered_files files ps) ≡ length ps
length_placed files [] h = refl
length_placed files (p ∷ ps) h = length_by p (slice_get files p.1) (numbered_files files ps) (length ps) h.0 (length_placed files ps h.1)

-- ---- what is found

abbrev pub at_place : List NewFile → Option ℕ → Option NewFile
at_place files None = None
at_place files (Some i) = slice_get files i

at_by : (b : Bool) (f : NewFile) (i : ℕ) (files : List NewFile) (o : Option ℕ) (r : Option NewFile) → slice_get files i ≡ Some f → r ≡ at_place files o → cond b (Some f) r ≡ at_place files (cond b (some i) o)
at_by true f i files o r is h = sym is
at_by false f i files o r is h = h

found_by : (o : Option NewFile) (files : List NewFile) (p : ℕ × ℕ) (es : List (ℕ × NewFile)) (ps : List (ℕ × ℕ)) (q : ℕ) → slice_get files p.1 ≡ o → number_of o ≡ Some p.0 → found es q ≡ at_place files (found ps q)
    → found (with_found p.0 o es) q ≡ at_place files (cond (same q p.0) (Some p.1) (found ps q))
found_by None files p es ps q is e h = absurd (none-some p.0 e)
found_by (Some f) files p es ps q is e h = at_by (same q p.0) f p.1 files (found ps q) (found es q) is h

pub found_placed : (files : List NewFile) (ps : List (ℕ × ℕ)) (q : ℕ) → Held files ps → found (numbered_files files ps) q ≡ at_place files (found ps q)
found_placed files [] q h = refl
found_placed files (p ∷ ps) q h = found_by (slice_get files p.1) files p (numbered_files files ps) ps q refl h.0 (found_placed files ps q h.1)

held_test : (b : Bool) (files : List NewFile) (p : ℕ × ℕ) (ps : List (ℕ × ℕ)) (n i : ℕ) → same n p.0 ≡ b → cond b (some p.1) (found ps n) ≡ Some i → number_at files p.1 ≡ Some p.0
    → (found ps n ≡ Some i → number_at files i ≡ Some n) → number_at files i ≡ Some n
held_test true files p ps n i is e here rest = ap (number_at files) (sym (same_Some p.1 i e)) ∙ here ∙ ap (λ (k : ℕ). some k) (sym (same_is n p.0 is))
held_test false files p ps n i is e here rest = rest e

pub held_found : (files : List NewFile) (ps : List (ℕ × ℕ)) → Held files ps → (n i : ℕ) → found ps n ≡ Some i → number_at files i ≡ Some n
held_found files [] h n i e = absurd (none-some i e)
held_found files (p ∷ ps) h n i e = held_test (same n p.0) files p ps n i refl e h.0 (held_found files ps h.1 n i)

behind_by : (b : Bool) (p : ℕ × ℕ) (ps : List (ℕ × ℕ)) (n i : ℕ) → Rises (p ∷ ps) → same n p.0 ≡ b → found ps n ≡ Some i → cond b (some p.1) (found ps n) ≡ Some i
behind_by true p ps n i r is e = absurd (none-some i (sym (past_head n p ps r is) ∙ e))
behind_by false p ps n i r is e = e

pub found_held : (files : List NewFile) (ps : List (ℕ × ℕ)) → Rises ps → ((n i : ℕ) → found ps n ≡ Some i → number_at files i ≡ Some n) → Held files ps
unfolding IsStrictlySortedBy
found_held files [] r k = tt
found_held files (p ∷ ps) r k = (k p.0 p.1 (at_head p ps), found_held files ps r.1 (λ n i e. k n i (behind_by (same n p.0) p ps n i r refl e)))

pub held_is : (files : List NewFile) (ps : List (ℕ × ℕ)) → AreFilePlaces files ps → Held files ps
held_is files ps h = found_held files ps h.rises h.sound

pub by_number_is : (files : List NewFile) (ps : List (ℕ × ℕ)) → AreFilePlaces files ps → IsByNumber (numbered_files files ps)
by_number_is files ps h = record {
  numbers = numbered_placed files ps (held_is files ps h);
  rises = subst (IsStrictlySortedBy nat_cmp) (sym (keys_placed files ps (held_is files ps h))) h.rises;
}

-- ---- one more file at the end

get_more : (xs ys : List NewFile) (i : ℕ) (x : NewFile) → slice_get xs i ≡ Some x → slice_get (xs ++ ys) i ≡ Some x
get_more [] ys i x e = absurd (none-some x e)
get_more (a ∷ xs) ys zero x e = e
get_more (a ∷ xs) ys (suc i) x e = get_more xs ys i x e

get_last : (xs : List NewFile) (y : NewFile) → slice_get (xs ++ y ∷ []) (length xs) ≡ Some y
get_last [] y = refl
get_last (a ∷ xs) y = get_last xs y

number_more : (files more : List NewFile) (i n : ℕ) → number_at files i ≡ Some n → number_at (files ++ more) i ≡ Some n
number_more files more i n e = by_file (slice_get files i) n (number_at (files ++ more) i ≡ Some n) e (λ f is num. ap number_of (get_more files more i f is) ∙ ap (λ (k : ℕ). some k) num)

number_last : (files : List NewFile) (f : NewFile) → number_at (files ++ f ∷ []) (length files) ≡ Some f.meta.number
number_last files f = ap number_of (get_last files f)

same_found : (n : ℕ) (o p : Option NewFile) (ds es : List (ℕ × NewFile)) → o ≡ p → ds ≡ es → with_found n o ds ≡ with_found n p es
same_found n o p ds es e h = ap (λ (x : Option NewFile). with_found n x ds) e ∙ ap (with_found n p) h

get_same : (files more : List NewFile) (i n : ℕ) → number_at files i ≡ Some n → slice_get (files ++ more) i ≡ slice_get files i
get_same files more i n e = by_file (slice_get files i) n (slice_get (files ++ more) i ≡ slice_get files i) e (λ f is num. get_more files more i f is ∙ sym is)

placed_more : (files more : List NewFile) (ps : List (ℕ × ℕ)) → Held files ps → numbered_files (files ++ more) ps ≡ numbered_files files ps
placed_more files more [] h = refl
placed_more files more (p ∷ ps) h =
    same_found p.0 (slice_get (files ++ more) p.1) (slice_get files p.1) (numbered_files (files ++ more) ps) (numbered_files files ps) (get_same files more p.1 p.0 h.0) (placed_more files more ps h.1)

held_more : (files more : List NewFile) (ps : List (ℕ × ℕ)) → Held files ps → Held (files ++ more) ps
held_more files more [] h = tt
held_more files more (p ∷ ps) h = (number_more files more p.1 p.0 h.0, held_more files more ps h.1)

abbrev with_last : List NewFile → List (ℕ × ℕ) → NewFile → List (ℕ × ℕ)
with_last files ps f = insert_entry nat_cmp ps f.meta.number (length files)

placed_by : (o : Ordering) (files : List NewFile) (f g : NewFile) (p : ℕ × ℕ) (ps : List (ℕ × ℕ)) → Held files (p ∷ ps) → slice_get files p.1 ≡ Some g
    → numbered_files (files ++ f ∷ []) (with_last files ps f) ≡ with_numbered (numbered_files files ps) f
    → numbered_files (files ++ f ∷ []) (match_ordering o ((f.meta.number, length files) ∷ p ∷ ps) ((p.0, length files) ∷ ps) (p ∷ with_last files ps f))
    ≡ match_ordering o ((f.meta.number, f) ∷ (p.0, g) ∷ numbered_files files ps) ((p.0, f) ∷ numbered_files files ps) ((p.0, g) ∷ with_numbered (numbered_files files ps) f)
placed_by Less files f g p ps h is rest =
    same_found f.meta.number (slice_get (files ++ f ∷ []) (length files)) (some f) (numbered_files (files ++ f ∷ []) (p ∷ ps)) ((p.0, g) ∷ numbered_files files ps) (get_last files f)
    (same_found p.0 (slice_get (files ++ f ∷ []) p.1) (some g) (numbered_files (files ++ f ∷ []) ps) (numbered_files files ps) (get_more files (f ∷ []) p.1 g is) (placed_more files (f ∷ []) ps h.1))
placed_by Equal files f g p ps h is rest =
    same_found p.0 (slice_get (files ++ f ∷ []) (length files)) (some f) (numbered_files (files ++ f ∷ []) ps) (numbered_files files ps) (get_last files f) (placed_more files (f ∷ []) ps h.1)
placed_by Greater files f g p ps h is rest =
    same_found p.0 (slice_get (files ++ f ∷ []) p.1) (some g) (numbered_files (files ++ f ∷ []) (with_last files ps f)) (with_numbered (numbered_files files ps) f) (get_more files (f ∷ []) p.1 g is) rest

placed_put : (files : List NewFile) (f : NewFile) (ps : List (ℕ × ℕ)) → Held files ps → numbered_files (files ++ f ∷ []) (with_last files ps f) ≡ with_numbered (numbered_files files ps) f
placed_put files f [] h = same_found f.meta.number (slice_get (files ++ f ∷ []) (length files)) (some f) [] [] (get_last files f) refl
placed_put files f (p ∷ ps) h =
    by_file (slice_get files p.1) p.0 (numbered_files (files ++ f ∷ []) (with_last files (p ∷ ps) f) ≡ with_numbered (numbered_files files (p ∷ ps)) f) h.0
    (λ g is num. placed_by (nat_cmp f.meta.number p.0) files f g p ps h is (placed_put files f ps h.1) ∙ ap (λ (o : Option NewFile). with_numbered (with_found p.0 o (numbered_files files ps)) f) (sym is))

held_by : (o : Ordering) (files : List NewFile) (f : NewFile) (p : ℕ × ℕ) (ps : List (ℕ × ℕ)) → nat_cmp f.meta.number p.0 ≡ o → Held files (p ∷ ps) → Held (files ++ f ∷ []) (with_last files ps f)
    → Held (files ++ f ∷ []) (match_ordering o ((f.meta.number, length files) ∷ p ∷ ps) ((p.0, length files) ∷ ps) (p ∷ with_last files ps f))
held_by Less files f p ps is h rest = (number_last files f, held_more files (f ∷ []) (p ∷ ps) h)
held_by Equal files f p ps is h rest = (number_last files f ∙ ap (λ (k : ℕ). some k) (exact_unsigned f.meta.number p.0 is), held_more files (f ∷ []) ps h.1)
held_by Greater files f p ps is h rest = (number_more files (f ∷ []) p.1 p.0 h.0, rest)

held_put : (files : List NewFile) (f : NewFile) (ps : List (ℕ × ℕ)) → Held files ps → Held (files ++ f ∷ []) (with_last files ps f)
held_put files f [] h = (number_last files f, tt)
held_put files f (p ∷ ps) h = held_by (nat_cmp f.meta.number p.0) files f p ps refl h (held_put files f ps h.1)

-- ---- each file's number has its place

abbrev pub AreComplete : List NewFile → List (ℕ × ℕ) → Type 0
AreComplete files ps = (n i : ℕ) → number_at files i ≡ Some n → found ps n ≡ Some i

last_or : (xs : List NewFile) (y : NewFile) (i : ℕ) (x : NewFile) → slice_get (xs ++ y ∷ []) i ≡ Some x → (slice_get xs i ≡ Some x) ⊎ ((i ≡ length xs) × (x ≡ y))
last_or [] y zero x e = inr (refl, sym (same_Some y x e))
last_or [] y (suc i) x e = absurd (none-some x e)
last_or (a ∷ xs) y zero x e = inl e
last_or (a ∷ xs) y (suc i) x e = elim (last_or xs y i x e) [ inl t ↦ inl t | inr t ↦ inr (ap suc t.0, t.1) ]

other_by : (b : Bool) (ps : List (ℕ × ℕ)) (k n i j : ℕ) → same k n ≡ b → found ps k ≡ None → found ps n ≡ Some i → cond b (some j) (found ps n) ≡ Some i
other_by true ps k n i j is none there = absurd (none-some i (sym none ∙ ap (found ps) (same_is k n is) ∙ there))
other_by false ps k n i j is none there = there

pub same_self : (k n : ℕ) → n ≡ k → same k n ≡ true
same_self k n e = ap (same k) e ∙ ap is_eq (tied_itself nat_cmp_total k)

complete_put : (files : List NewFile) (ps : List (ℕ × ℕ)) (f : NewFile) → AreComplete files ps → found ps f.meta.number ≡ None → AreComplete (files ++ f ∷ []) (with_last files ps f)
complete_put files ps f t none = λ n i e.
    by_file (slice_get (files ++ f ∷ []) i) n (found (with_last files ps f) n ≡ Some i) e
    (λ g is num.
    elim (last_or files f i g is) [
      | inl was ↦ found_put ps f.meta.number (length files) n ∙ other_by (same f.meta.number n) ps f.meta.number n i (length files) refl none (t n i (ap number_of was ∙ ap (λ (k : ℕ). some k) num))
      | inr w ↦ found_put ps f.meta.number (length files) n
          ∙ ap (λ (b : Bool). cond b (some (length files)) (found ps n)) (same_self f.meta.number n (sym num ∙ ap (λ (x : NewFile). x.meta.number) w.1))
          ∙ ap (λ (k : ℕ). some k) (sym w.0)
    ])

-- ---- all new files at the end

abbrev pub places_after : List NewFile → List (ℕ × ℕ) → List NewFile → List (ℕ × ℕ)
places_after files ps added = fold with_place ps (file_places_from (length files) added)

one_longer : (files : List NewFile) (f : NewFile) → length (files ++ f ∷ []) ≡ suc (length files)
one_longer files f = length-append files (f ∷ []) ∙ omega arith

-- what holds of files and places with one more, and the rest after it, holds with all
carried : (P : List NewFile → List (ℕ × ℕ) → Type 0) (files : List NewFile) (ps : List (ℕ × ℕ)) (f : NewFile) (added : List NewFile)
    → P ((files ++ f ∷ []) ++ added) (places_after (files ++ f ∷ []) (with_last files ps f) added) → P (files ++ f ∷ added) (places_after files ps (f ∷ added))
carried P files ps f added h =
    subst (λ (fs : List NewFile). P fs (places_after files ps (f ∷ added))) (append_assoc files (f ∷ []) added)
    (subst (λ (n : ℕ). P ((files ++ f ∷ []) ++ added) (fold with_place (with_last files ps f) (file_places_from n added))) (one_longer files f) h)

pub all_placed : (added files : List NewFile) (ps : List (ℕ × ℕ)) → Held files ps → numbered_files (files ++ added) (places_after files ps added) ≡ fold with_numbered (numbered_files files ps) added
all_placed [] files ps h = ap (λ (fs : List NewFile). numbered_files fs ps) (append-nil files)
all_placed (f ∷ added) files ps h =
    carried (λ fs qs. numbered_files fs qs ≡ fold with_numbered (numbered_files files ps) (f ∷ added)) files ps f added
    (all_placed added (files ++ f ∷ []) (with_last files ps f) (held_put files f ps h) ∙ ap (λ (es : List (ℕ × NewFile)). fold with_numbered es added) (placed_put files f ps h))

all_held : (added files : List NewFile) (ps : List (ℕ × ℕ)) → Held files ps → Held (files ++ added) (places_after files ps added)
all_held [] files ps h = held_more files [] ps h
all_held (f ∷ added) files ps h = carried Held files ps f added (all_held added (files ++ f ∷ []) (with_last files ps f) (held_put files f ps h))

free_by : (b : Bool) (files : List NewFile) (f : NewFile) (added : List NewFile) → has_number files f.meta.number ≡ b → are_new files (f ∷ added) ≡ true → b ≡ false
free_by true files f added is new = sym new ∙ taken_is files f added is
free_by false files f added is new = refl

is_free : (files : List NewFile) (f : NewFile) (added : List NewFile) → are_new files (f ∷ added) ≡ true → has_number files f.meta.number ≡ false
is_free files f added new = free_by (has_number files f.meta.number) files f added refl new

nothing : (o : Option NewFile) (b : Bool) → is_none o ≡ not b → b ≡ false → o ≡ None
nothing None b e h = refl
nothing (Some f) b e h = absurd cc

no_entry : (files : List NewFile) (ps : List (ℕ × ℕ)) (n : ℕ) → Held files ps → has_number (values_of (numbered_files files ps)) n ≡ false → found (numbered_files files ps) n ≡ None
no_entry files ps n h free = nothing (found (numbered_files files ps) n) (has_number (values_of (numbered_files files ps)) n) (free_is (numbered_files files ps) n (numbered_placed files ps h)) free

place_by : (o : Option ℕ) (files : List NewFile) (n : ℕ) → at_place files o ≡ None → ((i : ℕ) → o ≡ Some i → number_at files i ≡ Some n) → o ≡ None
place_by None files n e k = refl
place_by (Some i) files n e k = absurd (none-some n (sym (ap number_of e) ∙ k i refl))

no_place : (files : List NewFile) (ps : List (ℕ × ℕ)) (n : ℕ) → Held files ps → has_number (values_of (numbered_files files ps)) n ≡ false → found ps n ≡ None
no_place files ps n h free = place_by (found ps n) files n (sym (found_placed files ps n h) ∙ no_entry files ps n h free) (held_found files ps h n)

all_complete : (added files : List NewFile) (ps : List (ℕ × ℕ)) → Held files ps → AreComplete files ps → are_new (values_of (numbered_files files ps)) added ≡ true → AreComplete (files ++ added) (places_after files ps added)
all_complete [] files ps h t new = subst (λ (fs : List NewFile). AreComplete fs ps) (sym (append-nil files)) t
all_complete (f ∷ added) files ps h t new =
    let free = is_free (values_of (numbered_files files ps)) f added new in
    let next : are_new (values_of (numbered_files (files ++ f ∷ []) (with_last files ps f))) added ≡ true =
    ap (λ (es : List (ℕ × NewFile)). are_new (values_of es) added) (placed_put files f ps h)
    ∙ ap (λ (fs : List NewFile). are_new fs added) (put_is (numbered_files files ps) f (numbered_placed files ps h) (no_entry files ps f.meta.number h free))
    ∙ sym (new_on (values_of (numbered_files files ps)) f added free)
    ∙ new in
    carried AreComplete files ps f added (all_complete added (files ++ f ∷ []) (with_last files ps f) (held_put files f ps h) (complete_put files ps f t (no_place files ps f.meta.number h free)) next)

pub placed_after : (files : List NewFile) (ps : List (ℕ × ℕ)) (added all : List NewFile) (qs : List (ℕ × ℕ)) → AreFilePlaces files ps → all ≡ files ++ added → qs ≡ places_after files ps added
    → numbered_files all qs ≡ fold with_numbered (numbered_files files ps) added
placed_after files ps added all qs h all-is qs-is =
    ap (λ (fs : List NewFile). numbered_files fs qs) all-is ∙ ap (numbered_files (files ++ added)) qs-is ∙ all_placed added files ps (held_is files ps h)

pub length_after : (files : List NewFile) (ps : List (ℕ × ℕ)) (added all : List NewFile) (qs : List (ℕ × ℕ)) → AreFilePlaces files ps → all ≡ files ++ added → qs ≡ places_after files ps added
    → length qs ≡ length (numbered_files all qs)
length_after files ps added all qs h all-is qs-is =
    sym (length_placed all qs (subst (λ (fs : List NewFile). Held fs qs) (sym all-is) (subst (Held (files ++ added)) (sym qs-is) (all_held added files ps (held_is files ps h)))))

pub is_placed_after : (files : List NewFile) (ps : List (ℕ × ℕ)) (added all : List NewFile) (qs : List (ℕ × ℕ)) → AreFilePlaces files ps → all ≡ files ++ added → qs ≡ places_after files ps added
    → are_new (values_of (numbered_files files ps)) added ≡ true → AreFilePlaces all qs
is_placed_after files ps added all qs h all-is qs-is new =
    subst (λ (fs : List NewFile). AreFilePlaces fs qs) (sym all-is) (subst (AreFilePlaces (files ++ added)) (sym qs-is) (record {
      rises = rises_each ps (file_places_from (length files) added) h.rises;
      sound = held_found (files ++ added) (places_after files ps added) (all_held added files ps (held_is files ps h));
      complete = all_complete added files ps (held_is files ps h) h.complete new;
    }))

-- places that count from the length of the files
pub counted : (files : List NewFile) (ps : List (ℕ × ℕ)) (added given : List NewFile) (qs : List (ℕ × ℕ)) (first : ℕ) → first ≡ length files → given ≡ added → qs ≡ fold with_place ps (file_places_from first given) → qs ≡ places_after files ps added
counted files ps added given qs first is same-files e = e ∙ ap (λ (n : ℕ). fold with_place ps (file_places_from n given)) is ∙ ap (λ (fs : List NewFile). fold with_place ps (file_places_from (length files) fs)) same-files

length_values : (es : List (ℕ × NewFile)) → length es ≡ length (values_of es)
length_values [] = refl
length_values (e ∷ es) = ap suc (length_values es)

pub count_before : (files : List NewFile) (ps : List (ℕ × ℕ)) → AreFilePlaces files ps → length ps ≡ length (numbered_files files ps)
count_before files ps h = sym (length_placed files ps (held_is files ps h))

pub view_length : (files : List NewFile) (ps : List (ℕ × ℕ)) → AreFilePlaces files ps → length ps ≡ length (values_of (numbered_files files ps))
view_length files ps h = count_before files ps h ∙ length_values (numbered_files files ps)

-- the place under a number is within the files
pub is_within : (files : List NewFile) (ps : List (ℕ × ℕ)) (n i : ℕ) → AreFilePlaces files ps → found ps n ≡ Some i → i < length files
is_within files ps n i h e = by_file (slice_get files i) n (i < length files) (h.sound n i e) (λ f is num. slice_get_within files i f is)

-- ---- the files of a level, one after the other

abbrev pub metas_at : List NewFile → List (ℕ × ℕ) → ℕ → List FileMeta
metas_at files ps level = files_at (values_of (numbered_files files ps)) level

met_by : (b : Bool) (o : Option NewFile) (f : NewFile) (files : List NewFile) (n : ℕ) (rest : List (ℕ × ℕ)) (level : ℕ) → o ≡ Some f → nat_eq f.level level ≡ b
    → files_at (values_of (with_found n o (numbered_files files rest))) level ≡ cond b (f.meta ∷ metas_at files rest level) (metas_at files rest level)
met_by true o f files n rest level is at = rw (is, at) refl
met_by false o f files n rest level is at = rw (is, at) refl

pub met_one : (b : Bool) (files : List NewFile) (ps rest : List (ℕ × ℕ)) (p : ℕ × ℕ) (f : NewFile) (level : ℕ) → ps ≡ p ∷ rest → slice_get files p.1 ≡ Some f → nat_eq f.level level ≡ b
    → metas_at files ps level ≡ cond b (f.meta ∷ metas_at files rest level) (metas_at files rest level)
met_one b files ps rest p f level is there at = ap (λ (qs : List (ℕ × ℕ)). metas_at files qs level) is ∙ met_by b (slice_get files p.1) f files p.0 rest level there at

pub met_none : (files : List NewFile) (ps rest : List (ℕ × ℕ)) (p : ℕ × ℕ) (level : ℕ) → ps ≡ p ∷ rest → slice_get files p.1 ≡ None → metas_at files ps level ≡ metas_at files rest level
met_none files ps rest p level is none = ap (λ (qs : List (ℕ × ℕ)). metas_at files qs level) is ∙ ap (λ (o : Option NewFile). files_at (values_of (with_found p.0 o (numbered_files files rest))) level) none

abbrev lent : List (Bor FileMeta) → List FileMeta
lent xs = map (λ (f : Bor FileMeta). f.now) xs

lent_more : (xs ys : List (Bor FileMeta)) → lent (xs ++ ys) ≡ lent xs ++ lent ys
lent_more [] ys = refl
lent_more (x ∷ xs) ys = ap (λ (fs : List FileMeta). x.now ∷ fs) (lent_more xs ys)

-- what is found and what is left make the whole, with one that goes from what is left to what is found
pub pushed : (before after : List (Bor FileMeta)) (x : Bor FileMeta) (here rest all : List FileMeta) → after ≡ before ++ x ∷ [] → lent before ++ here ≡ all → here ≡ x.now ∷ rest → lent after ++ rest ≡ all
pushed before after x here rest all e whole is =
    ap (λ (xs : List (Bor FileMeta)). lent xs ++ rest) e
    ∙ ap (λ (fs : List FileMeta). fs ++ rest) (lent_more before (x ∷ []))
    ∙ append_assoc (lent before) (x.now ∷ []) rest
    ∙ ap (λ (fs : List FileMeta). lent before ++ fs) (sym is)
    ∙ whole

-- the same with one that is not found
pub passed : (before : List (Bor FileMeta)) (here rest all : List FileMeta) → lent before ++ here ≡ all → here ≡ rest → lent before ++ rest ≡ all
passed before here rest all whole is = ap (λ (fs : List FileMeta). lent before ++ fs) (sym is) ∙ whole
