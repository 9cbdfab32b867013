-- Files that lose the entries of a user key, one after the other.
use Rattle.std.proofs.Common.{◌≡◌, ℕ, zero, suc, ◌+◌, ◌<◌, ◌≤◌, List, [], ◌∷◌, ◌++◌, length, map, take, set, get_or, refl, sym, ap, ◌∙◌, arith, append_assoc, append-nil}
use Rattle.std.proofs.lemmas.List.{map-append, take_more}
use Rattle.std.proofs.lemmas.Grind.{flat_map-append}
use Rattle.faults.specs.KeyFaults.{FileEntries, SearchedEntry, searched_in, searched_of}
use Rattle.faults.specs.KeyWalk.{after_user, with_user}

-- the first n files have lost them
abbrev pub part_behind : List ℕ → ℕ → List FileEntries → List FileEntries
part_behind user zero fs = fs
part_behind user (suc n) [] = []
part_behind user (suc n) (f ∷ fs) = after_user user f ∷ part_behind user n fs

pub behind_at : (user : List ℕ) (n : ℕ) (fs : List FileEntries) (d : FileEntries) → get_or (part_behind user n fs) n d ≡ get_or fs n d
behind_at user zero fs d = refl
behind_at user (suc n) [] d = refl
behind_at user (suc n) (f ∷ fs) d = behind_at user n fs d

pub behind_next : (user : List ℕ) (n : ℕ) (fs : List FileEntries) (f : FileEntries) → n < length fs → f ≡ get_or fs n f → set (part_behind user n fs) n (after_user user f) ≡ part_behind user (suc n) fs
behind_next user n [] f lt is = absurd (omega arith)
behind_next user zero (g ∷ fs) f lt is = ap (λ (x : FileEntries). after_user user x ∷ fs) is
behind_next user (suc n) (g ∷ fs) f lt is = ap (λ (xs : List FileEntries). after_user user g ∷ xs) (behind_next user n fs f (omega arith) is)

pub behind_all : (user : List ℕ) (n : ℕ) (fs : List FileEntries) → length fs ≤ n → part_behind user n fs ≡ map (after_user user) fs
behind_all user zero [] le = refl
behind_all user (suc n) [] le = refl
behind_all user zero (f ∷ fs) le = absurd (omega arith)
behind_all user (suc n) (f ∷ fs) le = ap (λ (xs : List FileEntries). after_user user f ∷ xs) (behind_all user n fs (omega arith))

-- their entries so far
abbrev pub taken_with : List ℕ → ℕ → List FileEntries → List SearchedEntry
taken_with user n fs = searched_of (map (with_user user) (take n fs))

pub taken_more : (user : List ℕ) (n : ℕ) (fs : List FileEntries) (f : FileEntries) (rest : List SearchedEntry) → n < length fs → f ≡ get_or fs n f
    → taken_with user (n + 1) fs ++ rest ≡ taken_with user n fs ++ (searched_in (with_user user f) ++ rest)
taken_more user n fs f rest lt is =
    let own : List SearchedEntry = searched_in (with_user user f) in
    let front : take (n + 1) fs ≡ take n fs ++ f ∷ [] = take_more fs n f lt ∙ ap (λ (x : FileEntries). take n fs ++ x ∷ []) (sym is) in
    ap (λ (xs : List FileEntries). searched_of (map (with_user user) xs) ++ rest) front
    ∙ ap (λ (xs : List FileEntries). searched_of xs ++ rest) (map-append (with_user user) (take n fs) (f ∷ []))
    ∙ ap (λ (xs : List SearchedEntry). xs ++ rest) (flat_map-append searched_in (map (with_user user) (take n fs)) (with_user user f ∷ []) ∙ ap (λ (xs : List SearchedEntry). taken_with user n fs ++ xs) (append-nil own))
    ∙ append_assoc (taken_with user n fs) own rest
