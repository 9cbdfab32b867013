-- Numbers as groups of seven bits, spelt and read in at most n + 1 groups.
use Rattle.std.proofs.Common.{◌≡◌, ℕ, zero, suc, ◌+◌, ◌-◌, ◌*◌, ◌/◌, ◌%◌, ◌<◌, ◌≤◌, Bool, true, false, cond, eqb, ltb, List, [], ◌∷◌, ◌++◌, length, get_or, drop, Option, Some, None, refl, sym, ap, subst, ◌∙◌, ◌⊎◌, inl, inr, arith}
use Rattle.std.specs.Prelude.{◌&&◌}
use Rattle.std.specs.List.{starts_with}
use Rattle.std.proofs.lemmas.Bool.{cases_lt, cases_eq, lt-ltb, le-ltb, ltb-true, eq-eqb}
use Rattle.std.proofs.lemmas.Bool.Decides.{Decides-eqb, nat_tests}
use Rattle.std.proofs.lemmas.List.{append-nil}
use Rattle.std.proofs.lemmas.Slice.Eq.{starts_is}
use Rattle.coding.specs.Varint.{groups, IsGroups, front_number}

-- where the numbers end of which n + 1 groups are what is left of 64 bits
abbrev pub limit_of : ℕ → ℕ
limit_of zero = 2
limit_of (suc n) = 128 * limit_of n

-- where the numbers end that have n + 1 groups or fewer
abbrev pub groups_end : ℕ → ℕ
groups_end zero = 128
groups_end (suc n) = 128 * groups_end n

pub two_le_limit_of : (n : ℕ) → 2 ≤ limit_of n
two_le_limit_of zero = omega arith
two_le_limit_of (suc n) = omega (arith, two_le_limit_of n)

-- ---- one group

pub groups_small : (n x : ℕ) → x < 128 → groups n x ≡ x ∷ []
groups_small zero x lt = refl
groups_small (suc n) x lt = rw (lt-ltb x 128 lt) refl

pub groups_large : (n x : ℕ) → 128 ≤ x → groups (suc n) x ≡ (128 + x % 128) ∷ groups n (x / 128)
groups_large n x le = rw (le-ltb x 128 le) refl

pub front_last : (b : ℕ) (bytes : List ℕ) → b < 128 → front_number (b ∷ bytes) ≡ b
front_last b bytes lt = rw (lt-ltb b 128 lt) refl

pub front_more : (b : ℕ) (bytes : List ℕ) → 128 ≤ b → front_number (b ∷ bytes) ≡ (b - 128) + 128 * front_number bytes
front_more b bytes le = rw (le-ltb b 128 le) refl

-- ---- what is spelt is what the groups stand for

pub front_groups : (n x : ℕ) (rest : List ℕ) → x < limit_of n → front_number (groups n x ++ rest) ≡ x
front_groups zero x rest lt = front_last x rest (omega arith)
front_groups (suc n) x rest lt =
    elim (cases_lt x 128) [
      | inl small ↦ ap (λ (g : List ℕ). front_number (g ++ rest)) (groups_small (suc n) x small) ∙ front_last x rest small
      | inr large ↦
          let below : x / 128 < limit_of n = omega arith in
          let again = front_groups n (x / 128) rest below in
          let step = front_more (128 + x % 128) (groups n (x / 128) ++ rest) (omega arith) in
          let value : (128 + x % 128 - 128) + 128 * front_number (groups n (x / 128) ++ rest) ≡ x = omega (arith, again) in
          ap (λ (g : List ℕ). front_number (g ++ rest)) (groups_large n x large) ∙ step ∙ value
    ]

-- ---- how long a spelling is

pub length-groups_pos : (n x : ℕ) → 0 < length (groups n x)
length-groups_pos zero x = omega arith
length-groups_pos (suc n) x =
    elim (cases_lt x 128) [
      | inl small ↦ rw (groups_small (suc n) x small) (omega arith)
      | inr large ↦ rw (groups_large n x large) (omega arith)
    ]

pub length-groups_le : (n x : ℕ) → length (groups n x) ≤ n + 1
length-groups_le zero x = omega arith
length-groups_le (suc n) x =
    elim (cases_lt x 128) [
      | inl small ↦ rw (groups_small (suc n) x small) (omega arith)
      | inr large ↦ rw (groups_large n x large) (omega (arith, length-groups_le n (x / 128)))
    ]

pub length-groups_few : (n m x : ℕ) → x < groups_end m → length (groups n x) ≤ m + 1
length-groups_few zero m x lt = omega arith
length-groups_few (suc n) zero x lt = rw (groups_small (suc n) x lt) (omega arith)
length-groups_few (suc n) (suc m) x lt =
    elim (cases_lt x 128) [
      | inl small ↦ rw (groups_small (suc n) x small) (omega arith)
      | inr large ↦
          let below : x / 128 < groups_end m = omega arith in
          rw (groups_large n x large) (omega (arith, length-groups_few n m (x / 128) below))
    ]

one_byte : (x i : ℕ) → x < 128 → get_or (x ∷ []) i 0 < 256
one_byte x zero lt = omega arith
one_byte x (suc i) lt = omega arith

more_bytes : (b : ℕ) (bytes : List ℕ) → b < 256 → ((i : ℕ) → get_or bytes i 0 < 256) → (i : ℕ) → get_or (b ∷ bytes) i 0 < 256
more_bytes b bytes lt h zero = lt
more_bytes b bytes lt h (suc i) = h i

pub groups_bytes : (n x : ℕ) → x < limit_of n → (i : ℕ) → get_or (groups n x) i 0 < 256
groups_bytes zero x lt zero = omega arith
groups_bytes zero x lt (suc i) = omega arith
groups_bytes (suc n) x lt i =
    elim (cases_lt x 128) [
      | inl small ↦ rw (groups_small (suc n) x small) (one_byte x i small)
      | inr large ↦
          let below : x / 128 < limit_of n = omega arith in
          rw (groups_large n x large) (more_bytes (128 + x % 128) (groups n (x / 128)) (omega arith) (groups_bytes n (x / 128) below) i)
    ]

-- ---- reading in at most n + 1 groups

-- the number below bound whose spelling in at most n + 1 groups begins the bytes
abbrev pub reading : ℕ → ℕ → List ℕ → Option (ℕ × ℕ)
reading n bound bytes =
    cond (ltb (front_number bytes) bound && starts_with eqb bytes (groups n (front_number bytes)))
    (Some (front_number bytes, length (groups n (front_number bytes))))
    None

starts_parts : (bytes text : List ℕ) → starts_with eqb bytes text ≡ true → bytes ≡ text ++ drop (length text) bytes
starts_parts bytes text e = (starts_is Decides-eqb bytes text (starts_with eqb bytes text) refl).0 e

parts_start : (bytes text rest : List ℕ) → bytes ≡ text ++ rest → starts_with eqb bytes text ≡ true
parts_start bytes text rest e = (starts_is Decides-eqb bytes text (starts_with eqb bytes text) refl).1 rest e

both_hold : {A : Type 0} (s t : Bool) (x y : A) → cond (s && t) (Some x) None ≡ Some y → (s ≡ true) × (t ≡ true) × (x ≡ y)
both_hold true true x y e = (refl, refl, cc)
both_hold true false x y e = absurd cc
both_hold false t x y e = absurd cc

pub reading_again : (n bound x : ℕ) (rest : List ℕ) → x < limit_of n → x < bound → reading n bound (groups n x ++ rest) ≡ Some (x, length (groups n x))
reading_again n bound x rest lt below =
    let front = front_groups n x rest lt in
    let small : ltb (front_number (groups n x ++ rest)) bound ≡ true = lt-ltb _ _ (omega (arith, front)) in
    let starts : starts_with eqb (groups n x ++ rest) (groups n (front_number (groups n x ++ rest))) ≡ true =
    parts_start (groups n x ++ rest) (groups n (front_number (groups n x ++ rest))) rest (ap (λ (y : ℕ). groups n y ++ rest) (sym front)) in
    rw (small, starts) (ap (λ (y : ℕ). Some (y, length (groups n y))) front)

-- what a reading says of the bytes
pub record Reads (n bound : ℕ) (bytes : List ℕ) (x used : ℕ) : Type 0 where
  pub below : x < bound
  pub len : used ≡ length (groups n x)
  pub parts : bytes ≡ groups n x ++ drop used bytes

pub reading_takes : (n bound : ℕ) (bytes : List ℕ) (x used : ℕ) → reading n bound bytes ≡ Some (x, used) → Reads n bound bytes x used
reading_takes n bound bytes x used e =
    let front = front_number bytes in
    let b = both_hold (ltb front bound) (starts_with eqb bytes (groups n front)) (front, length (groups n front)) (x, used) e in
    let is : Reads n bound bytes front (length (groups n front)) = record {
      below = ltb-true front bound b.0;
      len = refl;
      parts = starts_parts bytes (groups n front) b.1;
    } in
    subst (λ (p : ℕ × ℕ). Reads n bound bytes p.0 p.1) b.2 is

-- ---- reading a byte at a time

-- number, which used groups stand for, and what was read after them, scaled by their width
abbrev pub joined : ℕ → ℕ → ℕ → Option (ℕ × ℕ) → Option (ℕ × ℕ)
joined used number scale None = None
joined used number scale (Some (x, more)) = cond (eqb x 0) None (Some (number + scale * x, used + more))

never : {A : Type 0} (s : Bool) (x : A) → cond (s && false) (Some x) None ≡ None
never true x = refl
never false x = refl

pub reading_empty : (n bound : ℕ) → reading n bound [] ≡ None
reading_empty n bound = rw (groups_small n 0 (omega arith)) (never (ltb 0 bound) (0, 1))

pub reading_last : (n bound b : ℕ) (bytes : List ℕ) → b < 128 → b < limit_of n → b < bound → reading n bound (b ∷ bytes) ≡ Some (b, 1)
reading_last n bound b bytes small fits below =
    let g = groups_small n b small in
    let again = reading_again n bound b bytes fits below in
    ap (λ (t : List ℕ). reading n bound (t ++ bytes)) (sym g) ∙ again ∙ ap (λ (t : List ℕ). Some (b, length t)) g

-- what reading answers if the groups at the front stand for f
abbrev seen : ℕ → ℕ → List ℕ → ℕ → Option (ℕ × ℕ)
seen n bound bytes f = cond (ltb f bound && starts_with eqb bytes (groups n f)) (Some (f, length (groups n f))) None

other_eqb : (a b : ℕ) → a < b → eqb a b ≡ false
other_eqb a b lt = grind (arith, nat_tests)

scaled_ltb : (r x bound : ℕ) → r < 128 → ltb (r + 128 * x) (128 * bound) ≡ ltb x bound
scaled_ltb r x bound lt =
    elim (cases_lt x bound) [
      | inl below ↦ lt-ltb (r + 128 * x) (128 * bound) (omega arith) ∙ sym (lt-ltb x bound below)
      | inr above ↦ le-ltb (r + 128 * x) (128 * bound) (omega arith) ∙ sym (le-ltb x bound above)
    ]

never_group : {A : Type 0} (s : Bool) (f b : ℕ) (x : A) → f < b → cond (s && (eqb f b && true)) (Some x) None ≡ None
never_group s f b x lt = rw (other_eqb f b lt) (never s x)

seen_other : (n bound b f : ℕ) (bytes : List ℕ) → f < 128 → f < b → seen n bound (b ∷ bytes) f ≡ None
seen_other n bound b f bytes small lt =
    let one : List ℕ → Option (ℕ × ℕ) = λ t. cond (ltb f bound && starts_with eqb (b ∷ bytes) t) (Some (f, length t)) None in
    ap one (groups_small n f small) ∙ never_group (ltb f bound) f b (f, 1) lt

seen_past : (n bound f : ℕ) (bytes : List ℕ) → bound ≤ f → seen n bound bytes f ≡ None
seen_past n bound f bytes le = rw (le-ltb f bound le) refl

-- the last group has but one bit
pub reading_full : (b : ℕ) (bytes : List ℕ) → 2 ≤ b → reading 0 2 (b ∷ bytes) ≡ None
reading_full b bytes le =
    elim (cases_lt (front_number (b ∷ bytes)) 2) [
      | inl small ↦ seen_other 0 2 b (front_number (b ∷ bytes)) bytes (omega arith) (omega arith)
      | inr large ↦ seen_past 0 2 (front_number (b ∷ bytes)) (b ∷ bytes) large
    ]

joined_zero : (s : Bool) (used number scale more : ℕ) → joined used number scale (cond s (Some (0, more)) None) ≡ None
joined_zero true used number scale more = refl
joined_zero false used number scale more = refl

joined_more : (s : Bool) (number scale x more : ℕ) → 0 < x → joined 1 number scale (cond s (Some (x, more)) None) ≡ cond s (Some (number + scale * x, suc more)) None
joined_more true number scale x more pos =
    let some : eqb x 0 ≡ false = grind (arith, nat_tests) in
    let one : 1 + more ≡ suc more = omega arith in
    rw (some, one) refl
joined_more false number scale x more pos = refl

same_group : (s t : Bool) (b : ℕ) (x : ℕ × ℕ) → cond (s && (eqb b b && t)) (Some x) None ≡ cond (s && t) (Some x) None
same_group s t b x = rw (eq-eqb b b refl) refl

groups_joined : (n b x : ℕ) → 128 ≤ b → b < 256 → 0 < x → groups (suc n) ((b - 128) + 128 * x) ≡ b ∷ groups n x
groups_joined n b x large byte pos =
    let f = (b - 128) + 128 * x in
    let head : 128 + f % 128 ≡ b = omega arith in
    let tail : f / 128 ≡ x = omega arith in
    groups_large n f (omega arith) ∙ ap (λ (h : ℕ). h ∷ groups n (f / 128)) head ∙ ap (λ (y : ℕ). b ∷ groups n y) tail

seen_more : (n bound b x : ℕ) (bytes : List ℕ) → 128 ≤ b → b < 256 → 0 < x → seen (suc n) (128 * bound) (b ∷ bytes) ((b - 128) + 128 * x) ≡ joined 1 (b - 128) 128 (seen n bound bytes x)
seen_more n bound b x bytes large byte pos =
    let f = (b - 128) + 128 * x in
    let g = groups n x in
    let is : groups (suc n) f ≡ b ∷ g = groups_joined n b x large byte pos in
    let one : Bool → List ℕ → Option (ℕ × ℕ) = λ s t. cond (s && starts_with eqb (b ∷ bytes) t) (Some (f, length t)) None in
    ap (one (ltb f (128 * bound))) is
    ∙ ap (λ (s : Bool). one s (b ∷ g)) (scaled_ltb (b - 128) x bound (omega arith))
    ∙ same_group (ltb x bound) (starts_with eqb bytes g) b (f, suc (length g))
    ∙ sym (joined_more (ltb x bound && starts_with eqb bytes g) (b - 128) 128 x (length g) pos)

seen_zero : (n bound : ℕ) (bytes : List ℕ) (used number scale f : ℕ) → f ≡ 0 → joined used number scale (seen n bound bytes f) ≡ None
seen_zero n bound bytes used number scale f zero_is =
    ap (λ (y : ℕ). joined used number scale (seen n bound bytes y)) zero_is
    ∙ joined_zero (ltb 0 bound && starts_with eqb bytes (groups n 0)) used number scale (length (groups n 0))

pub reading_more : (n bound b : ℕ) (bytes : List ℕ) → 128 ≤ b → b < 256 → reading (suc n) (128 * bound) (b ∷ bytes) ≡ joined 1 (b - 128) 128 (reading n bound bytes)
reading_more n bound b bytes large byte =
    let front = front_number bytes in
    ap (seen (suc n) (128 * bound) (b ∷ bytes)) (front_more b bytes large)
    ∙ elim (cases_eq front 0) [
      | inl none ↦ seen_other (suc n) (128 * bound) b ((b - 128) + 128 * front) bytes (omega arith) (omega arith) ∙ sym (seen_zero n bound bytes 1 (b - 128) 128 front none)
      | inr some ↦ seen_more n bound b front bytes large byte (omega arith)
    ]

-- ---- the spelling is the shortest

IsGroups-length : (bytes : List ℕ) → IsGroups bytes → 0 < length bytes
IsGroups-length [] h = absurd h
IsGroups-length (b ∷ bytes) h = omega arith

pub IsGroups-groups : (n x : ℕ) → x < limit_of n → IsGroups (groups n x)
IsGroups-groups zero x lt = inl (omega arith, refl)
IsGroups-groups (suc n) x lt =
    elim (cases_lt x 128) [
      | inl small ↦ rw (groups_small (suc n) x small) (inl (small, refl))
      | inr large ↦
          let below : x / 128 < limit_of n = omega arith in
          rw (groups_large n x large) (inr (omega arith, omega arith, IsGroups-groups n (x / 128) below))
    ]

pub front-groups : (n x : ℕ) → x < limit_of n → front_number (groups n x) ≡ x
front-groups n x lt = ap front_number (sym (append-nil (groups n x))) ∙ front_groups n x [] lt

-- the shortest of all groups that stand for the number, and the only one of its length
abbrev IsShortest : ℕ → List ℕ → ℕ → Type 0
IsShortest n bytes f = (bytes ≡ groups n f) ⊎ (length (groups n f) < length bytes)

shortest_last : (n b : ℕ) (bytes : List ℕ) → b < 128 → bytes ≡ [] → IsShortest n (b ∷ bytes) b
shortest_last n b bytes small end = inl (ap (λ (t : List ℕ). b ∷ t) end ∙ sym (groups_small n b small))

shortest_zero : (n b f : ℕ) (bytes : List ℕ) → 0 < length bytes → f < 128 → IsShortest n (b ∷ bytes) f
shortest_zero n b f bytes more small = inr (rw (groups_small n f small) (omega arith))

shortest_more : (n b x : ℕ) (bytes : List ℕ) → 128 ≤ b → b < 256 → 0 < x → IsShortest n bytes x → IsShortest (suc n) (b ∷ bytes) ((b - 128) + 128 * x)
shortest_more n b x bytes large byte pos h =
    let is = groups_joined n b x large byte pos in
    elim h [
      | inl e ↦ inl (ap (λ (t : List ℕ). b ∷ t) e ∙ sym is)
      | inr lt ↦ inr (omega (arith, ap length is))
    ]

shortest_byte : (n b : ℕ) (bytes : List ℕ) → 128 ≤ b → b < 256 → 0 < length bytes → (b - 128) + 128 * front_number bytes < limit_of n
    → ((m : ℕ) → front_number bytes < limit_of m → IsShortest m bytes (front_number bytes)) → IsShortest n (b ∷ bytes) ((b - 128) + 128 * front_number bytes)
shortest_byte zero b bytes large byte more below again = shortest_zero 0 b ((b - 128) + 128 * front_number bytes) bytes more (omega arith)
shortest_byte (suc n) b bytes large byte more below again =
    elim (cases_eq (front_number bytes) 0) [
      | inl none ↦ shortest_zero (suc n) b ((b - 128) + 128 * front_number bytes) bytes more (omega arith)
      | inr some ↦ shortest_more n b (front_number bytes) bytes large byte (omega arith) (again n (omega arith))
    ]

pub groups_shortest : (bytes : List ℕ) → IsGroups bytes → (n : ℕ) → front_number bytes < limit_of n → IsShortest n bytes (front_number bytes)
groups_shortest [] h n lt = absurd h
groups_shortest (b ∷ bytes) (inl last) n lt = subst (IsShortest n (b ∷ bytes)) (sym (front_last b bytes last.0)) (shortest_last n b bytes last.0 last.1)
groups_shortest (b ∷ bytes) (inr more) n lt =
    let front = front_more b bytes more.0 in
    subst (IsShortest n (b ∷ bytes)) (sym front)
    (shortest_byte n b bytes more.0 more.1 (IsGroups-length bytes more.2) (omega (arith, front)) (groups_shortest bytes more.2))
