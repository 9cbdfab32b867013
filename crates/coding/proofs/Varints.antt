-- A number has one spelling, and no spelling begins another: what is read is what was spelt.
use Rattle.std.proofs.Common.{◌≡◌, ℕ, ◌^◌, ◌<◌, ◌≤◌, Bool, true, false, cond, eqb, ltb, List, [], ◌∷◌, ◌++◌, length, get_or, drop, Option, Some, None, refl, sym, ap, ◌∙◌, ◌⊎◌, arith, length-append}
use Rattle.std.specs.Prelude.{◌&&◌}
use Rattle.std.specs.List.{starts_with}
use Rattle.std.proofs.lemmas.Bool.{lt-ltb, le-ltb, ltb-true}
use Rattle.std.proofs.lemmas.List.{append_cancel_left}
use Rattle.coding.specs.Varint.{groups, IsGroups, varint, front_number, varint_reading}
use Rattle.coding.proofs.Groups.{groups_small, front_groups, front-groups, length-groups_pos, length-groups_le, length-groups_few, groups_bytes, reading, reading_again, reading_takes, reading_empty, reading_last, IsGroups-groups, groups_shortest}

-- ---- varints

pub varint_reading-varint : (limit x : ℕ) (rest : List ℕ) → x < limit → limit ≤ 2 ^ 64 → varint_reading limit (varint x ++ rest) ≡ Some (x, length (varint x))
unfolding varint varint_reading
varint_reading-varint limit x rest below within = reading_again 9 limit x rest (omega arith) below

-- what a varint's reading says of the bytes
pub record IsVarintRead (limit : ℕ) (bytes : List ℕ) (x used : ℕ) : Type 0 where
  pub below : x < limit
  pub len : used ≡ length (varint x)
  pub parts : bytes ≡ varint x ++ drop used bytes
  pub within : used ≤ length bytes

pub reads_varint : (limit : ℕ) (bytes : List ℕ) (x used : ℕ) → varint_reading limit bytes ≡ Some (x, used) → IsVarintRead limit bytes x used
unfolding varint varint_reading
reads_varint limit bytes x used e =
    let r = reading_takes 9 limit bytes x used e in
    record {
      below = r.below;
      len = r.len;
      parts = r.parts;
      within = omega (arith, r.len, ap length r.parts, length-append (groups 9 x) (drop used bytes));
    }

pub one_varint : (x y : ℕ) (a b : List ℕ) → x < 2 ^ 64 → y < 2 ^ 64 → varint x ++ a ≡ varint y ++ b → (x ≡ y) × (a ≡ b)
unfolding varint
one_varint x y a b x_fits y_fits e =
    let same : x ≡ y = sym (front_groups 9 x a x_fits) ∙ ap front_number e ∙ front_groups 9 y b y_fits in
    (same, append_cancel_left (groups 9 x) a b (e ∙ ap (λ (z : ℕ). groups 9 z ++ b) (sym same)))

pub length-varint_pos : (x : ℕ) → 0 < length (varint x)
unfolding varint
length-varint_pos x = length-groups_pos 9 x

pub length-varint_le : (x : ℕ) → length (varint x) ≤ 10
unfolding varint
length-varint_le x = length-groups_le 9 x

pub length-varint_le_5 : (x : ℕ) → x < 2 ^ 35 → length (varint x) ≤ 5
unfolding varint
length-varint_le_5 x lt = length-groups_few 9 4 x lt

pub varint_small : (x : ℕ) → x < 128 → varint x ≡ x ∷ []
unfolding varint
varint_small x lt = groups_small 9 x lt

pub varint_bytes : (x : ℕ) → x < 2 ^ 64 → (i : ℕ) → get_or (varint x) i 0 < 256
unfolding varint
varint_bytes x lt i = groups_bytes 9 x lt i

-- ---- the width of a reading

-- the reading below a lower limit
abbrev pub narrowed : ℕ → Option (ℕ × ℕ) → Option (ℕ × ℕ)
narrowed limit None = None
narrowed limit (Some (x, used)) = cond (ltb x limit) (Some (x, used)) None

narrowed_cases : (limit x used : ℕ) (s u t : Bool) → ltb x limit ≡ s → (s ≡ true → u ≡ true) → cond (s && t) (Some (x, used)) None ≡ narrowed limit (cond (u && t) (Some (x, used)) None)
narrowed_cases limit x used true true true is up = rw is refl
narrowed_cases limit x used true true false is up = refl
narrowed_cases limit x used true false t is up = absurd (let no : false ≡ true = up refl in cc)
narrowed_cases limit x used false true true is up = rw is refl
narrowed_cases limit x used false true false is up = refl
narrowed_cases limit x used false false t is up = refl

pub varint_reading-narrowed : (low high : ℕ) (bytes : List ℕ) → low ≤ high → varint_reading low bytes ≡ narrowed low (varint_reading high bytes)
unfolding varint_reading
varint_reading-narrowed low high bytes le =
    let front = front_number bytes in
    narrowed_cases low front (length (varint front)) (ltb front low) (ltb front high) (starts_with eqb bytes (varint front)) refl
    (λ e. let lt = ltb-true front low e in lt-ltb front high (omega arith))

pub varint_reading-low_none : (low high : ℕ) (bytes : List ℕ) → low ≤ high → None ≡ varint_reading high bytes → varint_reading low bytes ≡ None
varint_reading-low_none low high bytes le e = varint_reading-narrowed low high bytes le ∙ ap (narrowed low) (sym e)

pub varint_reading-low_past : (low high x used : ℕ) (bytes : List ℕ) → low ≤ high → Some (x, used) ≡ varint_reading high bytes → low ≤ x → varint_reading low bytes ≡ None
varint_reading-low_past low high x used bytes le e past =
    varint_reading-narrowed low high bytes le ∙ ap (narrowed low) (sym e) ∙ rw (le-ltb x low past) refl

pub varint_reading-low_some : (low high x used : ℕ) (bytes : List ℕ) → low ≤ high → Some (x, used) ≡ varint_reading high bytes → x < low → varint_reading low bytes ≡ Some (x, used)
varint_reading-low_some low high x used bytes le e below =
    varint_reading-narrowed low high bytes le ∙ ap (narrowed low) (sym e) ∙ rw (lt-ltb x low below) refl

-- ---- the first byte

no_first : (limit : ℕ) (bytes : List ℕ) → length bytes ≡ 0 → reading 9 limit bytes ≡ None
no_first limit [] len = reading_empty 9 limit
no_first limit (b ∷ bytes) len = absurd (omega arith)

pub varint_reading-empty : (limit : ℕ) (bytes : List ℕ) → length bytes ≡ 0 → varint_reading limit bytes ≡ None
unfolding varint varint_reading
varint_reading-empty limit bytes len = no_first limit bytes len

small_first : (limit : ℕ) (bytes : List ℕ) → 0 < length bytes → get_or bytes 0 0 < 128 → 128 ≤ limit → reading 9 limit bytes ≡ Some (get_or bytes 0 0, 1)
small_first limit [] len small wide = absurd (omega arith)
small_first limit (b ∷ bytes) len small wide = reading_last 9 limit b bytes small (omega arith) (omega arith)

pub varint_reading-small : (limit : ℕ) (bytes : List ℕ) → 0 < length bytes → get_or bytes 0 0 < 128 → 128 ≤ limit → varint_reading limit bytes ≡ Some (get_or bytes 0 0, 1)
unfolding varint varint_reading
varint_reading-small limit bytes len small wide = small_first limit bytes len small wide

-- ---- the spelling is the shortest

pub IsGroups-varint : (x : ℕ) → x < 2 ^ 64 → IsGroups (varint x)
unfolding varint
IsGroups-varint x lt = IsGroups-groups 9 x lt

pub front_number-varint : (x : ℕ) → x < 2 ^ 64 → front_number (varint x) ≡ x
unfolding varint
front_number-varint x lt = front-groups 9 x lt

pub varint_shortest : (bytes : List ℕ) → IsGroups bytes → front_number bytes < 2 ^ 64 → (bytes ≡ varint (front_number bytes)) ⊎ (length (varint (front_number bytes)) < length bytes)
unfolding varint
varint_shortest bytes h lt = groups_shortest bytes h 9 lt
