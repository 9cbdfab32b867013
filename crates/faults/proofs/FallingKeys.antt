-- No user key is misplaced exactly if of each user key the sequences fall.
use Rattle.std.proofs.Common.{◌≡◌, ℕ, ◌<◌, Bool, true, false, cond, List, [], ◌∷◌, ◌++◌, map, Option, Some, None, refl, sym, ap, ap₂, subst, ◌∙◌, inl, inr, arith}
use Rattle.std.specs.Prelude.{Contains, nat_le}
use Rattle.std.specs.List.{filter, filter_map}
use Rattle.std.specs.Cmp.{IsTotalOrder}
use Rattle.std.specs.Option.{option_map}
use Rattle.std.proofs.lemmas.Bool.{leb-false, lt-leb}
use Rattle.std.proofs.lemmas.List.{map-append}
use Rattle.table.specs.Comparator.{IsExact, KeyOrder}
use Rattle.table.specs.Key.{sequence_of, user_of}
use Rattle.table.specs.EncodedEntry.{Entry}
use Rattle.folder.specs.meta.NewFile.{NewFile}
use Rattle.folder.specs.Calls.{Files}
use Rattle.reads.specs.TableOrder.{IsNewer}
use Rattle.reads.specs.Tables.{NumberedContents, all_entries, table_entries}
use Rattle.reads.proofs.Members.{first_in, first_or_later, from_filter, in_filter, later_in, none_in}
use Rattle.reads.proofs.Pairs.{Pairs, pairs_map, pairs_unmap, pairs_within}
use Rattle.faults.specs.VersionFault.{MisplacedKey}
use Rattle.faults.specs.KeyFaults.{SearchedEntry, break_after, first_break, is_of, misplaced_at, misplaced_keys, read_file, searched_in, searched_of, users_of}
use Rattle.faults.proofs.KeySteps.{key_of}
use Rattle.faults.proofs.MisplacedLemmas.{are_misplaced, pairs_filter}
use Rattle.faults.proofs.UserEntries.{of_user, searched, user_is}

-- of one user key, the first key has the greater sequence
abbrev pub IsKeyNewer : List ℕ → List ℕ → Type 0
IsKeyNewer k m = user_of k ≡ user_of m → sequence_of m < sequence_of k

abbrev pub IsSearchedNewer : SearchedEntry → SearchedEntry → Type 0
IsSearchedNewer a b = IsKeyNewer a.key b.key

abbrev IsHigher : SearchedEntry → SearchedEntry → Type 0
IsHigher a b = sequence_of b.key < sequence_of a.key

-- ---- one user key

none_behind : (file sequence : ℕ) (rest : List SearchedEntry) → break_after file sequence rest ≡ None → (e : SearchedEntry) → Contains rest e → sequence_of e.key < sequence
none_behind file sequence [] h e at = absurd (none_in e at)
none_behind file sequence (f ∷ rest) h e at = by (nat_le sequence (sequence_of f.key)) refl h (λ k l. none_behind f.file (sequence_of f.key) rest k e l)
  where
    by : (b : Bool) → nat_le sequence (sequence_of f.key) ≡ b → cond b (Some (file, f.file)) (break_after f.file (sequence_of f.key) rest) ≡ None
        → (break_after f.file (sequence_of f.key) rest ≡ None → Contains rest e → sequence_of e.key < sequence_of f.key) → sequence_of e.key < sequence
    by true is k later = absurd cc
    by false is k later =
        let lt : sequence_of f.key < sequence = leb-false sequence (sequence_of f.key) is in
        elim (first_or_later f rest e at) [
          | inl same ↦ subst (λ (x : SearchedEntry). sequence_of x.key < sequence) (sym same) lt
          | inr behind ↦ omega (arith, lt, later k behind)
        ]

none_rest : (file sequence : ℕ) (rest : List SearchedEntry) → break_after file sequence rest ≡ None → first_break rest ≡ None
none_rest file sequence [] h = refl
none_rest file sequence (f ∷ rest) h = by (nat_le sequence (sequence_of f.key)) h
  where
    by : (b : Bool) → cond b (Some (file, f.file)) (break_after f.file (sequence_of f.key) rest) ≡ None → break_after f.file (sequence_of f.key) rest ≡ None
    by true k = absurd cc
    by false k = k

none_from : (file sequence : ℕ) (rest : List SearchedEntry) → ((e : SearchedEntry) → Contains rest e → sequence_of e.key < sequence) → Pairs IsHigher rest → break_after file sequence rest ≡ None
none_from file sequence [] below pairs = refl
none_from file sequence (f ∷ rest) below pairs =
    ap (λ (b : Bool). cond b (Some (file, f.file)) (break_after f.file (sequence_of f.key) rest)) (lt-leb sequence (sequence_of f.key) (below f (first_in f rest)))
    ∙ none_from f.file (sequence_of f.key) rest pairs.0 pairs.1

none_first : (es : List SearchedEntry) → Pairs IsHigher es → first_break es ≡ None
none_first [] pairs = refl
none_first (e ∷ es) pairs = none_from e.file (sequence_of e.key) es pairs.0 pairs.1

-- ---- all user keys

falls_from : (es : List SearchedEntry) → ((user : List ℕ) → first_break (filter (is_of user) es) ≡ None) → Pairs IsSearchedNewer es
falls_from [] none = tt
falls_from (e ∷ es) none = (
  λ g at same. none_behind e.file (sequence_of e.key) (filter (is_of (user_of e.key)) es) own g (in_filter (is_of (user_of e.key)) es g (user_is (user_of e.key) g (sym same)) at),
  falls_from es (λ user. behind user (is_of user e) refl (none user)),
)
  where
    own : break_after e.file (sequence_of e.key) (filter (is_of (user_of e.key)) es) ≡ None
    own =
        sym (ap (λ (b : Bool). first_break (cond b (e ∷ filter (is_of (user_of e.key)) es) (filter (is_of (user_of e.key)) es))) (user_is (user_of e.key) e refl))
        ∙ none (user_of e.key)

    behind : (user : List ℕ) (b : Bool) → is_of user e ≡ b → first_break (cond b (e ∷ filter (is_of user) es) (filter (is_of user) es)) ≡ None → first_break (filter (is_of user) es) ≡ None
    behind user true is h = none_rest e.file (sequence_of e.key) (filter (is_of user) es) h
    behind user false is h = h

none_of : (es : List SearchedEntry) → Pairs IsSearchedNewer es → (user : List ℕ) → first_break (filter (is_of user) es) ≡ None
none_of es pairs user =
    none_first (filter (is_of user) es)
    (pairs_within IsSearchedNewer IsHigher (filter (is_of user) es)
    (λ a b i j newer. newer (of_user user a (from_filter (is_of user) es a i).1 ∙ sym (of_user user b (from_filter (is_of user) es b j).1)))
    (pairs_filter IsSearchedNewer (is_of user) es pairs))

nothing_kept : {X Y : Type 0} (h : X → Option Y) (xs : List X) → ((x : X) → h x ≡ None) → filter_map h xs ≡ []
nothing_kept h [] none = refl
nothing_kept h (x ∷ xs) none = rw (none x) (nothing_kept h xs none)

pub none_misplaced : (cmp : KeyOrder) (es : List SearchedEntry) → Pairs IsSearchedNewer es → misplaced_keys cmp es ≡ []
none_misplaced cmp es pairs = nothing_kept (misplaced_at es) (users_of cmp es) (λ user. ap (option_map (key_of user)) (none_of es pairs user))

pub falls_if_none : (cmp : KeyOrder) → IsTotalOrder cmp → IsExact cmp → (es : List SearchedEntry) → misplaced_keys cmp es ≡ [] → Pairs IsSearchedNewer es
falls_if_none cmp total exact es none = falls_from es (λ user. by user (first_break (filter (is_of user) es)) refl)
  where
    by : (user : List ℕ) (o : Option (ℕ × ℕ)) → first_break (filter (is_of user) es) ≡ o → o ≡ None
    by user None is = refl
    by user (Some files) is =
        let k : MisplacedKey = key_of user files in
        let at = (are_misplaced cmp total exact es).all user k (ap (option_map (key_of user)) is) in
        absurd (none_in k (subst (λ (ks : List MisplacedKey). Contains ks k) none at))

-- ---- the entries of files, and those of their tables

abbrev pub searched_key : SearchedEntry → List ℕ
searched_key e = e.key

abbrev pub entry_key : Entry → List ℕ
entry_key e = e.key

one_file : (n : ℕ) (es : List Entry) → map searched_key (map (searched n) es) ≡ map entry_key es
one_file n [] = refl
one_file n (e ∷ es) = ap (λ (ks : List (List ℕ)). e.key ∷ ks) (one_file n es)

pub same_keys : (cmp : KeyOrder) (files : Files) (tables : List NumberedContents) (list : List NewFile) → ((f : NewFile) → Contains list f → (read_file cmp files f.meta).entries ≡ table_entries tables f.meta.number)
    → map searched_key (searched_of (map (read_file cmp files) (map (λ (f : NewFile). f.meta) list))) ≡ map entry_key (all_entries tables list)
same_keys cmp files tables [] each = refl
same_keys cmp files tables (f ∷ list) each =
    let behind : List SearchedEntry = searched_of (map (read_file cmp files) (map (λ (g : NewFile). g.meta) list)) in
    map-append searched_key (searched_in (read_file cmp files f.meta)) behind
    ∙ ap₂ (λ (xs ys : List (List ℕ)). xs ++ ys) (one_file f.meta.number (read_file cmp files f.meta).entries ∙ ap (map entry_key) (each f (first_in f list))) (same_keys cmp files tables list (λ g at. each g (later_in f list g at)))
    ∙ sym (map-append entry_key (table_entries tables f.meta.number) (all_entries tables list))

pub newer_searched : (found : List SearchedEntry) (es : List Entry) → map searched_key found ≡ map entry_key es → Pairs IsNewer es → Pairs IsSearchedNewer found
newer_searched found es same pairs = pairs_unmap IsKeyNewer searched_key found (subst (Pairs IsKeyNewer) (sym same) (pairs_map IsKeyNewer entry_key es pairs))

pub searched_newer : (found : List SearchedEntry) (es : List Entry) → map searched_key found ≡ map entry_key es → Pairs IsSearchedNewer found → Pairs IsNewer es
searched_newer found es same pairs = pairs_unmap IsKeyNewer entry_key es (subst (Pairs IsKeyNewer) same (pairs_map IsKeyNewer searched_key found pairs))
