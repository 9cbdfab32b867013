-- Where a table of a number is found after a compaction.
use Rattle.std.proofs.Common.{◌≡◌, ℕ, Bool, true, false, cond, eqb, List, [], ◌∷◌, ◌++◌, map, Some, None, Option, Result, Ok, Err, refl, sym, ap, subst, ◌∙◌}
use Rattle.std.specs.List.{filter, find}
use Rattle.std.specs.Map.{lookup}
use Rattle.std.specs.Option.{option_map}
use Rattle.std.specs.Result.{result_unwrap_or}
use Rattle.std.specs.declared.cmp.Ordering.{Ordering}
use Rattle.std.proofs.lemmas.Bool.{eqb-true}
use Rattle.std.proofs.lemmas.Option.{none-some, same_Some}
use Rattle.folder.specs.fault.Fault.{Fault}
use Rattle.reads.specs.CheckedContents.{contents_in}
use Rattle.reads.specs.TableContents.{Contents, contents_of, contents_reading}
use Rattle.reads.specs.Tables.{NumberedContents, table_of_number}
use Rattle.compact.specs.SurvivingReads.{output_table}
use Rattle.store.proofs.Loaded.{own_bytes, turned}

-- the first table of a number
pub record IsFirst (tables : List NumberedContents) (n : ℕ) (t : Contents) : Type 0 where
  pub table : NumberedContents
  pub found : find (λ (x : NumberedContents). eqb x.number n) tables ≡ Some table
  pub holds : table.contents ≡ t

pub first_of : (tables : List NumberedContents) (n : ℕ) (t : Contents) → table_of_number tables n ≡ Some t → IsFirst tables n t
first_of tables n t h = by (find (λ (x : NumberedContents). eqb x.number n) tables) refl h
  where
    by : (o : Option NumberedContents) → find (λ (x : NumberedContents). eqb x.number n) tables ≡ o → option_map (λ (x : NumberedContents). x.contents) o ≡ Some t → IsFirst tables n t
    by None e is = absurd (none-some t is)
    by (Some x) e is = record { table = x; found = e; holds = same_Some x.contents t is }

-- what is found passes the test of its number, and what is found of a part that passes another test passes that one
abbrev left_of : (ℕ → Bool) → List NumberedContents → List NumberedContents
left_of keep tables = filter (λ (y : NumberedContents). keep y.number) tables

abbrev found_in : ℕ → List NumberedContents → Option NumberedContents
found_in n tables = find (λ (y : NumberedContents). eqb y.number n) tables

passed_both : (keep : ℕ → Bool) (tables : List NumberedContents) (n : ℕ) (x : NumberedContents) → found_in n (left_of keep tables) ≡ Some x → keep n ≡ true
passed_both keep [] n x h = absurd (none-some x h)
passed_both keep (y ∷ tables) n x h = by (keep y.number) refl (passed_both keep tables n x) h
  where
    by_number : (b : Bool) → eqb y.number n ≡ b → keep y.number ≡ true → (found_in n (left_of keep tables) ≡ Some x → keep n ≡ true) → cond b (Some y) (found_in n (left_of keep tables)) ≡ Some x → keep n ≡ true
    by_number true e k rest is = subst (λ (m : ℕ). keep m ≡ true) (eqb-true y.number n e) k
    by_number false e k rest is = rest is

    by : (k : Bool) → keep y.number ≡ k → (found_in n (left_of keep tables) ≡ Some x → keep n ≡ true) → found_in n (cond k (y ∷ left_of keep tables) (left_of keep tables)) ≡ Some x → keep n ≡ true
    by true e rest is = by_number (eqb y.number n) refl e rest is
    by false e rest is = rest is

-- a table that is found among those of some numbers is found among all
kept_found : (keep : ℕ → Bool) (tables : List NumberedContents) (n : ℕ) (x : NumberedContents) → found_in n (left_of keep tables) ≡ Some x → found_in n tables ≡ Some x
kept_found keep [] n x h = h
kept_found keep (y ∷ tables) n x h = by (keep y.number) (eqb y.number n) refl refl (kept_found keep tables n x) h
  where
    turn : (b : Bool) → eqb y.number n ≡ b → cond (eqb y.number n) (Some y) (found_in n (left_of keep tables)) ≡ Some x → cond b (Some y) (found_in n (left_of keep tables)) ≡ Some x
    turn b f is = sym (ap (λ (a : Bool). cond a (Some y) (found_in n (left_of keep tables))) f) ∙ is

    by : (k b : Bool) → keep y.number ≡ k → eqb y.number n ≡ b → (found_in n (left_of keep tables) ≡ Some x → found_in n tables ≡ Some x)
        → found_in n (cond k (y ∷ left_of keep tables) (left_of keep tables)) ≡ Some x → cond b (Some y) (found_in n tables) ≡ Some x
    by true true e f rest is = turn true f is
    by true false e f rest is = rest (turn false f is)
    by false true e f rest is =
        let both : true ≡ false = sym (passed_both keep tables n x is) ∙ sym (ap keep (eqb-true y.number n f)) ∙ e in
        absurd (cc both)
    by false false e f rest is = rest is

pub kept_table : (keep : ℕ → Bool) (tables : List NumberedContents) (n : ℕ) (t : Contents) → table_of_number (filter (λ (y : NumberedContents). keep y.number) tables) n ≡ Some t → table_of_number tables n ≡ Some t
kept_table keep tables n t h =
    let first = first_of (filter (λ (y : NumberedContents). keep y.number) tables) n t h in
    ap (option_map (λ (x : NumberedContents). x.contents)) (kept_found keep tables n first.table first.found) ∙ ap (λ (c : Contents). Some c) first.holds

-- the bytes of what bytes hold are these bytes, whether they are a table or none
in_bytes : (cmp : List ℕ → List ℕ → Ordering) (bytes : List ℕ) → (contents_in cmp bytes).bytes ≡ bytes
in_bytes cmp bytes = by (contents_reading cmp bytes) refl
  where
    by : (r : Result Contents Fault) → contents_reading cmp bytes ≡ r → (result_unwrap_or r (contents_of bytes [])).bytes ≡ bytes
    by (Ok t) e = own_bytes cmp bytes t e
    by (Err d) e = refl

-- the table of a number, among outputs and others, is of the bytes that are found among both
pub found_after : (cmp : List ℕ → List ℕ → Ordering) (outputs loaded : List (ℕ × List ℕ)) (rest : List NumberedContents) (n : ℕ) (t : Contents)
    → (table_of_number rest n ≡ Some t → lookup (eqb n) loaded ≡ Some t.bytes) → table_of_number (map (output_table cmp) outputs ++ rest) n ≡ Some t → lookup (eqb n) (outputs ++ loaded) ≡ Some t.bytes
found_after cmp [] loaded rest n t others h = others h
found_after cmp (o ∷ outputs) loaded rest n t others h = by (eqb o.0 n) refl (found_after cmp outputs loaded rest n t others) h
  where
    by : (b : Bool) → eqb o.0 n ≡ b → (table_of_number (map (output_table cmp) outputs ++ rest) n ≡ Some t → lookup (eqb n) (outputs ++ loaded) ≡ Some t.bytes)
        → option_map (λ (x : NumberedContents). x.contents) (cond b (Some (output_table cmp o)) (find (λ (x : NumberedContents). eqb x.number n) (map (output_table cmp) outputs ++ rest))) ≡ Some t
        → cond (eqb n o.0) (Some o.1) (lookup (eqb n) (outputs ++ loaded)) ≡ Some t.bytes
    by true e later is =
        let same : contents_in cmp o.1 ≡ t = same_Some (contents_in cmp o.1) t is in
        let hit : eqb n o.0 ≡ true = turned n o.0 ∙ e in
        rw hit (ap (λ (x : List ℕ). Some x) (sym (in_bytes cmp o.1) ∙ ap (λ (c : Contents). c.bytes) same))
    by false e later is =
        let miss : eqb n o.0 ≡ false = turned n o.0 ∙ e in
        rw miss (later is)
