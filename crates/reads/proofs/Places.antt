-- Tables, found by the places of the first ones of each number.
use Rattle.std.proofs.Common.{◌≡◌, ℕ, zero, suc, ◌+◌, ◌-◌, ◌<◌, ◌≤◌, Bool, true, false, cond, eqb, List, [], ◌∷◌, length, drop, get_or, Option, Some, None, refl, sym, ap, ◌∙◌, arith}
use Rattle.std.specs.Prelude.{find, slice_get}
use Rattle.std.specs.Option.{option_map}
use Rattle.std.specs.Ordering.{nat_cmp}
use Rattle.std.specs.BTreeMap.{insert_entry}
use Rattle.std.proofs.lemmas.Option.{same_Some, slice_get_read}
use Rattle.edit.proofs.Tested.{is_eq-nat_cmp}
use Rattle.edit.proofs.Together.{found, found_put, same}
use Rattle.reads.specs.Tables.{NumberedContents, table_of_number}
use Rattle.reads.specs.Places.{first_place, AreFirstPlaces}

-- under each number is the place of its first table from this place on
abbrev pub ArePlacesFrom : List NumberedContents → List (ℕ × ℕ) → ℕ → Type 0
ArePlacesFrom tables places place = (number : ℕ) → found places number ≡ first_place (drop place tables) place number

pub none_placed : (tables : List NumberedContents) (place : ℕ) → place ≡ length tables → ArePlacesFrom tables [] place
none_placed tables place is number = sym (ap (λ (ts : List NumberedContents). first_place ts place number) (ap (λ (n : ℕ). drop n tables) is ∙ all_gone tables))
  where
    all_gone : (ts : List NumberedContents) → drop (length ts) ts ≡ []
    all_gone [] = refl
    all_gone (t ∷ ts) = all_gone ts

rest_at : (tables : List NumberedContents) (place : ℕ) (t : NumberedContents) → place < length tables → t ≡ get_or tables place t → drop place tables ≡ t ∷ drop (suc place) tables
rest_at [] place t lt is = absurd (omega arith)
rest_at (s ∷ tables) zero t lt is = ap (λ (x : NumberedContents). x ∷ tables) (sym is)
rest_at (s ∷ tables) (suc place) t lt is = rest_at tables place t (omega arith) is

pub one_placed : (tables : List NumberedContents) (places : List (ℕ × ℕ)) (before place : ℕ) (t : NumberedContents) → before ≡ suc place → place < length tables → t ≡ get_or tables place t → ArePlacesFrom tables places before → ArePlacesFrom tables (insert_entry nat_cmp places t.number place) place
one_placed tables places before place t next lt is so_far number =
    found_put places t.number place number
    ∙ ap (λ (o : Option ℕ). cond (same t.number number) (Some place) o) (so_far number ∙ ap (λ (n : ℕ). first_place (drop n tables) n number) next)
    ∙ ap (λ (b : Bool). cond b (Some place) (first_place (drop (suc place) tables) (suc place) number)) (is_eq-nat_cmp t.number number)
    ∙ sym (ap (λ (ts : List NumberedContents). first_place ts place number) (rest_at tables place t lt is))

-- the table at a place
pub record IsFound (tables : List NumberedContents) (first number place : ℕ) : Type 0 where
  pub table : NumberedContents
  pub low : first ≤ place
  pub within : place < first + length tables
  pub at : get_or tables (place - first) table ≡ table
  pub is : table_of_number tables number ≡ Some table.contents

contents_by : (b : Bool) (t : NumberedContents) (o : Option NumberedContents) → option_map (λ (x : NumberedContents). x.contents) (cond b (Some t) o) ≡ cond b (Some t.contents) (option_map (λ (x : NumberedContents). x.contents) o)
contents_by true t o = refl
contents_by false t o = refl

-- the table of a number is the first one, or else that of the others
table_first : (t : NumberedContents) (tables : List NumberedContents) (number : ℕ) (b : Bool) → eqb t.number number ≡ b → table_of_number (t ∷ tables) number ≡ cond b (Some t.contents) (table_of_number tables number)
table_first t tables number b e = contents_by (eqb t.number number) t (find (λ (x : NumberedContents). eqb x.number number) tables) ∙ ap (λ (test : Bool). cond test (Some t.contents) (table_of_number tables number)) e

found_by : (b : Bool) (t : NumberedContents) (tables : List NumberedContents) (first number place : ℕ) → eqb t.number number ≡ b → cond b (Some first) (first_place tables (suc first) number) ≡ Some place → (first_place tables (suc first) number ≡ Some place → IsFound tables (suc first) number place)
    → IsFound (t ∷ tables) first number place
found_by true t tables first number place e h rest =
    let here : first ≡ place = same_Some first place h in
    let none : place - first ≡ 0 = omega arith in
    record {
      table = t;
      low = omega (arith, here);
      within = omega (arith, here);
      at = ap (λ (n : ℕ). get_or (t ∷ tables) n t) none;
      is = table_first t tables number true e;
    }
found_by false t tables first number place e h rest =
    let more : IsFound tables (suc first) number place = rest h in
    let next : place - first ≡ suc (place - suc first) = omega (arith, more.low) in
    record {
      table = more.table;
      low = omega (arith, more.low);
      within = omega (arith, more.within);
      at = ap (λ (n : ℕ). get_or (t ∷ tables) n more.table) next ∙ more.at;
      is = table_first t tables number false e ∙ more.is;
    }

pub found_at : (tables : List NumberedContents) (first number place : ℕ) → first_place tables first number ≡ Some place → IsFound tables first number place
found_at [] first number place h = absurd cc
found_at (t ∷ tables) first number place h = found_by (eqb t.number number) t tables first number place refl h (found_at tables (suc first) number place)

none_by : (b : Bool) (t : NumberedContents) (tables : List NumberedContents) (first number : ℕ) → eqb t.number number ≡ b → cond b (Some first) (first_place tables (suc first) number) ≡ None → (first_place tables (suc first) number ≡ None → table_of_number tables number ≡ None) → table_of_number (t ∷ tables) number ≡ None
none_by true t tables first number e h rest = absurd cc
none_by false t tables first number e h rest = table_first t tables number false e ∙ rest h

pub none_found : (tables : List NumberedContents) (first number : ℕ) → first_place tables first number ≡ None → table_of_number tables number ≡ None
none_found [] first number h = refl
none_found (t ∷ tables) first number h = none_by (eqb t.number number) t tables first number refl h (none_found tables (suc first) number)

-- what the map holds under a number is the place of its first table
pub sought_at : (tables : List NumberedContents) (places : List (ℕ × ℕ)) (number place : ℕ) → AreFirstPlaces tables places → found places number ≡ Some place → IsFound tables 0 number place
sought_at tables places number place are is = found_at tables 0 number place (sym (are number) ∙ is)

pub sought_none : (tables : List NumberedContents) (places : List (ℕ × ℕ)) (number : ℕ) → AreFirstPlaces tables places → found places number ≡ None → table_of_number tables number ≡ None
sought_none tables places number are is = none_found tables 0 number (sym (are number) ∙ is)

-- the table at that place
pub found_there : (tables : List NumberedContents) (number place : ℕ) → IsFound tables 0 number place → option_map (λ (x : NumberedContents). x.contents) (slice_get tables place) ≡ table_of_number tables number
found_there tables number place found =
    let same_place : place - 0 ≡ place = omega arith in
    let within : place < length tables = omega (arith, found.within) in
    let here : slice_get tables place ≡ Some found.table =
    slice_get_read tables (length tables) place found.table refl within (sym found.at ∙ ap (λ (n : ℕ). get_or tables n found.table) same_place) in
    ap (option_map (λ (x : NumberedContents). x.contents)) here ∙ sym found.is
