-- The last of kept keys, and whether another key has its user key.
use Rattle.std.proofs.Common.{◌≡◌, ℕ, zero, suc, ◌+◌, ◌-◌, ◌<◌, ◌≤◌, Bool, true, false, eqb, cond, List, [], ◌∷◌, ◌++◌, length, take, Some, None, Option, refl, sym, ap, ◌∙◌, arith, length-append}
use Rattle.std.specs.Prelude.{nat_eq, nat_le, ◌&&◌, if◌then◌else◌, slice_get}
use Rattle.std.specs.List.{common_prefix_len}
use Rattle.std.specs.Option.{option_map, is_some}
use Rattle.std.specs.Str.{bytes_eq}
use Rattle.std.proofs.lemmas.Bool.{eqb-true, eq-eqb, leb-true, le-leb, and_parts, and_from, both_ways}
use Rattle.std.proofs.lemmas.List.{length-take-le}
use Rattle.std.proofs.lemmas.Option.{same_Some}
use Rattle.std.proofs.lemmas.Slice.Eq.{bytes_eq-Decides}
use Rattle.coding.proofs.Beginnings.{common_behind}
use Rattle.ikey.specs.Key.{user_of}
use Rattle.reads.specs.EncodedEntry.{Entry}
use Rattle.reads.specs.BuilderView.{last_key}
use Rattle.keep.specs.EntryChunks.{all_kept}
use Rattle.keep.specs.Versions.{StoredVersion, last_version, newer_of}

-- the key at the last place is the last key
pub last_found : (before key : List ℕ) (es : List Entry) (n : ℕ) → length es ≡ n + 1 → option_map (λ (e : Entry). e.key) (slice_get es n) ≡ Some key → last_key before es ≡ key
last_found before key [] n l h = absurd (omega (arith, l))
last_found before key (e ∷ []) zero l h = same_Some e.key key h
last_found before key (e ∷ f ∷ es) zero l h = absurd (omega (arith, l))
last_found before key (e ∷ es) (suc n) l h = last_found e.key key es n (omega (arith, l)) h

last_behind : (before : List ℕ) (xs ys : List Entry) → 0 < length ys → last_key before (xs ++ ys) ≡ last_key [] ys
last_behind before [] [] some = absurd (omega arith)
last_behind before [] (y ∷ ys) some = refl
last_behind before (x ∷ xs) ys some = last_behind x.key xs ys some

longer : (ps : List (List Entry)) (last : List Entry) → 0 < length last → 0 < length (all_kept ps last)
longer [] last some = some
longer (p ∷ ps) last some = omega (arith, longer ps last some, length-append p (all_kept ps last))

-- the last of all is the last of the last chunk, if that has an entry
pub last_of_all : (ps : List (List Entry)) (last : List Entry) → 0 < length last → last_key [] (all_kept ps last) ≡ last_key [] last
last_of_all [] last some = refl
last_of_all (p ∷ ps) last some = last_behind [] p (all_kept ps last) (longer ps last some) ∙ last_of_all ps last some

-- the last key after one more entry
pub last_pushed : (before : List ℕ) (es : List Entry) (e : Entry) → last_key before (es ++ e ∷ []) ≡ e.key
last_pushed before [] e = refl
last_pushed before (f ∷ es) e = last_pushed f.key es e

-- ---- one user key

front_by : (same : Bool) (n x y : ℕ) (xs ys : List ℕ) → eqb x y ≡ same → suc n ≤ cond same (1 + common_prefix_len nat_eq xs ys) 0 → (n ≤ common_prefix_len nat_eq xs ys → take n xs ≡ take n ys)
    → take (suc n) (x ∷ xs) ≡ take (suc n) (y ∷ ys)
front_by true n x y xs ys e h tail =
    let below : suc n ≤ 1 + common_prefix_len nat_eq xs ys = h in
    ap (λ (z : ℕ). z ∷ take n xs) (eqb-true x y e) ∙ ap (λ (zs : List ℕ). y ∷ zs) (tail (omega (arith, below)))
front_by false n x y xs ys e h tail =
    let below : suc n ≤ 0 = h in
    absurd (omega (arith, below))

-- as many bytes as two lists share are the same in both
front_same : (n : ℕ) (xs ys : List ℕ) → n ≤ common_prefix_len nat_eq xs ys → take n xs ≡ take n ys
front_same zero xs ys h = refl
front_same (suc n) [] ys h =
    let below : suc n ≤ 0 = h in
    absurd (omega (arith, below))
front_same (suc n) (x ∷ xs) [] h =
    let below : suc n ≤ 0 = h in
    absurd (omega (arith, below))
front_same (suc n) (x ∷ xs) (y ∷ ys) h = front_by (eqb x y) n x y xs ys refl h (front_same n xs ys)

same_test : (a b : Bool) → (a ≡ true → b ≡ true) → (b ≡ true → a ≡ true) → a ≡ b
same_test true b f g = sym (f refl)
same_test false true f g = g refl
same_test false false f g = refl

-- two internal keys have one user key if they are as long and share all of it
pub same_user : (kept key : List ℕ) (shared : ℕ) → shared ≡ common_prefix_len nat_eq kept key → 8 ≤ length kept → 8 ≤ length key
    → (nat_eq (length kept) (length key) && nat_le (length key - 8) shared) ≡ bytes_eq (user_of kept) (user_of key)
same_user kept key shared s k l =
    same_test (nat_eq (length kept) (length key) && nat_le (length key - 8) shared) (bytes_eq (user_of kept) (user_of key))
    (λ both.
    let parts = and_parts (nat_eq (length kept) (length key)) (nat_le (length key - 8) shared) both in
    let long : length kept ≡ length key = eqb-true (length kept) (length key) parts.0 in
    let enough : length key - 8 ≤ shared = leb-true (length key - 8) shared parts.1 in
    let front : take (length key - 8) kept ≡ take (length key - 8) key = front_same (length key - 8) kept key (omega (arith, s, enough)) in
    (bytes_eq-Decides (user_of kept) (user_of key)).1 (ap (λ (n : ℕ). take (n - 8) kept) long ∙ front))
    (λ same.
    let is : user_of kept ≡ user_of key = (bytes_eq-Decides (user_of kept) (user_of key)).0 same in
    let long : length kept ≡ length key = omega (arith, k, l, ap length is, length-take-le (length kept - 8) kept (omega arith), length-take-le (length key - 8) key (omega arith)) in
    let front : take (length key - 8) kept ≡ take (length key - 8) key = ap (λ (n : ℕ). take (n - 8) kept) (sym long) ∙ is in
    let shares = common_behind (length key - 8) kept key (omega (arith, long)) (omega arith) front in
    and_from (nat_eq (length kept) (length key)) (nat_le (length key - 8) shared) (eq-eqb (length kept) (length key) long) (le-leb (length key - 8) shared (omega (arith, s, shares))))

-- ---- the previous entry

same_by : (same : Bool) (sequence : ℕ) (newer : Option ℕ) → newer ≡ (if same then Some sequence else None) → is_some newer ≡ true → same ≡ true
same_by true n newer is some = refl
same_by false n newer is some = absurd (both_ways (is_some newer) (ap is_some is) some)

same_of : (sequence : Option ℕ) (own user : List ℕ) (newer : Option ℕ) → newer ≡ newer_of (option_map (λ (n : ℕ). record { user = own; sequence = n }) sequence) user → is_some newer ≡ true → own ≡ user
same_of None own user newer is some = absurd (both_ways (is_some newer) (ap is_some is) some)
same_of (Some n) own user newer is some = (bytes_eq-Decides own user).0 (same_by (bytes_eq own user) n newer is some)

-- if it has a user key, that lies where it lay
pub passed_by : (kept user : List ℕ) (v : StoredVersion) (newer : Option ℕ) (sequence : ℕ) → newer ≡ newer_of (last_version kept v) user → is_some newer ≡ true
    → last_version kept (record { is_kept = v.is_kept; user = v.user; sequence = Some sequence }) ≡ Some (record { user = user; sequence = sequence })
passed_by kept user v newer sequence is some =
    ap (λ (own : List ℕ). Some (record { user = own; sequence = sequence })) (same_of v.sequence (if v.is_kept then user_of kept else v.user) user newer is some)
