-- Every step-th key of lists.
use Rattle.std.proofs.Common.{◌≡◌, ℕ, zero, suc, ◌+◌, ◌-◌, ◌*◌, ◌/◌, ◌<◌, ◌≤◌, Bool, List, [], ◌∷◌, ◌++◌, length, drop, map, get_or, refl, sym, ap, subst, ◌∙◌, inl, inr, arith}
use Rattle.std.specs.Prelude.{◌⊎◌, Contains, All, true, false, nat_le, if◌then◌else◌}
use Rattle.std.specs.List.{flat_map}
use Rattle.std.specs.declared.cmp.Ordering.{Ordering}
use Rattle.std.proofs.lemmas.Bool.{lt-leb}
use Rattle.std.proofs.lemmas.List.{append_assoc, append-nil}
use Rattle.std.proofs.lemmas.List.Elements.{Contains-get_or, Contains-append_left, Contains-append_right, Contains-append_cases}
use Rattle.std.proofs.lemmas.Option.{slice_get_within, get_or_from_slice_get}
use Rattle.table.specs.TableContents.{Contents}
use Rattle.split.specs.SplitChoice.{index_users_of, each_after, every, every_of, sample_of, index_sample_of, IsChoice}
use Rattle.split.proofs.Lent.{lent_users}
use Rattle.split.proofs.OneChoice.{first_or_later, first_in, later_in}

-- with no gap it is all keys
all_after : (keys : List (List ℕ)) → each_after 0 0 keys ≡ keys
all_after [] = refl
all_after (key ∷ keys) = ap (λ (l : List (List ℕ)). key ∷ l) (all_after keys)

pub every_first : (lists : List (List (List ℕ))) → every_of 1 lists ≡ flat_map (λ list. list) lists
every_first [] = refl
every_first (list ∷ lists) = ap (λ (l : List (List ℕ)). l ++ every_of 1 lists) (all_after list) ∙ ap (λ (l : List (List ℕ)). list ++ l) (every_first lists)

-- the others are passed over
pub after_others : (gap skip : ℕ) (keys : List (List ℕ)) → each_after gap 0 (drop skip keys) ≡ each_after gap skip keys
after_others gap zero keys = refl
after_others gap (suc skip) [] = refl
after_others gap (suc skip) (key ∷ keys) = after_others gap skip keys

-- what is taken from a place on is the key there, and what is taken from the next place on
pub one_more : (gap place next : ℕ) (keys : List (List ℕ)) (d : List ℕ) → place < length keys → next ≡ place + suc gap → each_after gap 0 (drop place keys) ≡ get_or keys place d ∷ each_after gap 0 (drop next keys)
one_more gap place next [] d lt is = absurd (omega arith)
one_more gap zero next (key ∷ keys) d lt is =
    let P : ℕ → Type 0 = λ n. key ∷ each_after gap gap keys ≡ key ∷ each_after gap 0 (drop n (key ∷ keys)) in
    let e : suc gap ≡ next = omega arith in
    subst P e (ap (λ (l : List (List ℕ)). key ∷ l) (sym (after_others gap gap keys)))
one_more gap (suc place) next (key ∷ keys) d lt is =
    let P : ℕ → Type 0 = λ n. each_after gap 0 (drop place keys) ≡ get_or keys place d ∷ each_after gap 0 (drop n (key ∷ keys)) in
    let e : suc (place + suc gap) ≡ next = omega arith in
    subst P e (one_more gap place (place + suc gap) keys d (omega arith) refl)

-- nothing is taken after the end
pub none_after : (gap place : ℕ) (keys : List (List ℕ)) → length keys ≤ place → each_after gap 0 (drop place keys) ≡ []
none_after gap zero [] le = refl
none_after gap (suc place) [] le = refl
none_after gap zero (key ∷ keys) le = absurd (omega arith)
none_after gap (suc place) (key ∷ keys) le = none_after gap place keys (omega arith)

-- the same, in the words of a loop
pub one_pushed : (step place next : ℕ) (keys front front' all : List (List ℕ)) (key d : List ℕ) → 0 < step → place < length keys → next ≡ place + step → key ≡ get_or keys place d → front' ≡ front ++ key ∷ []
    → front ++ each_after (step - 1) 0 (drop place keys) ≡ all → front' ++ each_after (step - 1) 0 (drop next keys) ≡ all
one_pushed step place next keys front front' all key d some lt is key_is front_is taken =
    let rest : List (List ℕ) = each_after (step - 1) 0 (drop next keys) in
    ap (λ (l : List (List ℕ)). l ++ rest) front_is ∙ append_assoc front (key ∷ []) rest ∙ ap (λ (k : List ℕ). front ++ k ∷ rest) key_is
    ∙ ap (λ (l : List (List ℕ)). front ++ l) (sym (one_more (step - 1) place next keys d lt (omega arith))) ∙ taken

pub last_pushed : (step next : ℕ) (keys front all : List (List ℕ)) → length keys ≤ next → front ++ each_after (step - 1) 0 (drop next keys) ≡ all → front ≡ all
last_pushed step next keys front all past taken =
    sym (append-nil front) ∙ ap (λ (l : List (List ℕ)). front ++ l) (sym (none_after (step - 1) next keys past)) ∙ taken

-- each key that is taken is one of the list
of_first : (key : List ℕ) (keys taken : List (List ℕ)) (k : List ℕ) → (Contains taken k → Contains keys k) → (k ≡ key) ⊎ Contains taken k → Contains (key ∷ keys) k
of_first key keys taken k within (inl e) =
    let P : List ℕ → Type 0 = λ l. Contains (key ∷ keys) l in
    subst P (sym e) (first_in key keys)
of_first key keys taken k within (inr later) = later_in key keys k (within later)

after_in : (gap skip : ℕ) (keys : List (List ℕ)) (k : List ℕ) → Contains (each_after gap skip keys) k → Contains keys k
after_in gap skip [] k at = at
after_in gap zero (key ∷ keys) k at = of_first key keys (each_after gap gap keys) k (after_in gap gap keys k) (first_or_later key (each_after gap gap keys) k at)
after_in gap (suc skip) (key ∷ keys) k at = later_in key keys k (after_in gap skip keys k at)

of_front : (list taken all others : List (List ℕ)) (k : List ℕ) → (Contains taken k → Contains list k) → (Contains others k → Contains all k) → Contains taken k ⊎ Contains others k → Contains (list ++ all) k
of_front list taken all others k within later (inl front) = Contains-append_left list all k (within front)
of_front list taken all others k within later (inr behind) = Contains-append_right list all k (later behind)

every_in : (step : ℕ) (lists : List (List (List ℕ))) (k : List ℕ) → Contains (every_of step lists) k → Contains (flat_map (λ list. list) lists) k
every_in step [] k at = at
every_in step (list ∷ lists) k at =
    of_front list (every step list) (flat_map (λ l. l) lists) (every_of step lists) k (after_in (step - 1) (step / 2) list k) (every_in step lists k)
    (Contains-append_cases (every step list) (every_of step lists) k at)

-- a sample has only keys of the lists
of_test : (enough : Bool) (lists : List (List (List ℕ))) (k : List ℕ) → Contains (if enough then every_of 16 lists else flat_map (λ list. list) lists) k → Contains (flat_map (λ list. list) lists) k
of_test true lists k at = every_in 16 lists k at
of_test false lists k at = at

sample_in : (want : ℕ) (lists : List (List (List ℕ))) (k : List ℕ) → Contains (sample_of want lists) k → Contains (flat_map (λ list. list) lists) k
sample_in want lists k at = of_test (nat_le (4 * want) (length (every_of 16 lists))) lists k at

-- too few for a sample are all
pub too_few : (want : ℕ) (lists : List (List (List ℕ))) → length (every_of 16 lists) < 4 * want → every_of 1 lists ≡ sample_of want lists
too_few want lists few =
    every_first lists ∙ ap (λ (enough : Bool). if enough then every_of 16 lists else flat_map (λ list. list) lists) (sym (lt-leb (4 * want) (length (every_of 16 lists)) few))

-- the boundaries that are chosen are among the keys
chosen_in : (cmp : List ℕ → List ℕ → Ordering) (users : List (List ℕ)) (want : ℕ) (boundaries : List (List ℕ)) → IsChoice cmp users want boundaries → (k : List ℕ) → Contains boundaries k → Contains users k
chosen_in cmp users want boundaries is k at =
    let stands = is.at_places.only k at in
    let place : ℕ = stands.0 * length is.keys / want in
    is.each_once.only k (place, slice_get_within is.keys place k stands.3, get_or_from_slice_get is.keys place k k stands.3)

-- those of a sample are index users
pub sampled_in : (cmp : List ℕ → List ℕ → Ordering) (tables : List Contents) (want : ℕ) (boundaries : List (List ℕ)) → IsChoice cmp (index_sample_of want tables) want boundaries → All (Contains (index_users_of tables)) boundaries
sampled_in cmp tables want boundaries is k d lt =
    let key : List ℕ = get_or boundaries k d in
    let P : List (List ℕ) → Type 0 = λ users. Contains users key in
    let lists : List (List (List ℕ)) = map (λ table. table.index_users) tables in
    subst P (lent_users tables lists refl) (sample_in want lists key (chosen_in cmp (index_sample_of want tables) want boundaries is key (Contains-get_or boundaries k d lt)))
