-- The tables of a round, and all of them.
use Rattle.std.proofs.Common.{◌≡◌, ℕ, ◌<◌, List, [], ◌∷◌, ◌++◌, length, map, take, drop, get_or, Some, Result, Ok, Err, refl, sym, ap, ap₂, ◌∙◌, append_assoc, arith, slice_get}
use Rattle.std.specs.Option.{option_map}
use Rattle.std.specs.Global.{Vec}
use Rattle.std.specs.declared.cmp.Ordering.{Ordering}
use Rattle.std.proofs.lemmas.List.{length-map, map-append, take-append-drop}
use Rattle.std.proofs.lemmas.Option.{same_Some, slice_get-get_or, slice_get-map, slice_get_read}
use Rattle.ikey.specs.Answers.{◌>>=◌, FailsOrMemory}
use Rattle.ikey.specs.fault.Fault.{Fault}
use Rattle.ikey.proofs.Refusals.{unless_from}
use Rattle.board.specs.CollectedResults.{collected_results}
use Rattle.reads.specs.Tables.{NumberedContents}
use Rattle.checks.specs.TableReadings.{numbered_reading, tables_reading}
use Rattle.checks.specs.TableAnswers.{table_answers}
use Rattle.checks.proofs.Lent.{lent_table}

pub same_tables : (tables : List NumberedContents) → map (λ t. t) tables ≡ tables
same_tables [] = refl
same_tables (t ∷ tables) = ap (λ (ts : List NumberedContents). t ∷ ts) (same_tables tables)

-- the answers of all tables, collected
pub tables_collected : (cmp : List ℕ → List ℕ → Ordering) (tables : List (ℕ × List ℕ)) → collected_results (table_answers cmp tables) ≡ tables_reading cmp tables
tables_collected cmp [] = refl
tables_collected cmp (t ∷ tables) =
    ap (λ (rest : Result (List NumberedContents) Fault). numbered_reading cmp t >>= λ first. rest >>= λ others. Ok (first ∷ others)) (tables_collected cmp tables)

module _ (cmp : List ℕ → List ℕ → Ordering) (loaded : List (ℕ × Vec ℕ)) where
  pub answers_length : length (table_answers cmp (map lent_table loaded)) ≡ length loaded
  answers_length = length-map (map lent_table loaded) (numbered_reading cmp) ∙ length-map loaded lent_table

  -- the answer of the table at a place
  answer_at : (job : ℕ) (t : ℕ × Vec ℕ) → job < length loaded → t ≡ get_or loaded job t → slice_get (table_answers cmp (map lent_table loaded)) job ≡ Some (numbered_reading cmp (lent_table t))
  answer_at job t lt is =
      slice_get-map (numbered_reading cmp) (map lent_table loaded) job
      ∙ ap (option_map (numbered_reading cmp)) (slice_get-map lent_table loaded job ∙ ap (option_map lent_table) (slice_get_read loaded (length loaded) job t refl lt is))

  pub answer_is : (job : ℕ) (t : ℕ × Vec ℕ) (answer : Result NumberedContents Fault) → job < length loaded → t ≡ get_or loaded job t
      → slice_get (table_answers cmp (map lent_table loaded)) job ≡ Some answer → numbered_reading cmp (lent_table t) ≡ answer
  answer_is job t answer lt is at = same_Some (numbered_reading cmp (lent_table t)) answer (sym (answer_at job t lt is) ∙ at)

  -- there is one for each table
  pub some_answer : (job : ℕ) → job < length loaded → (answer : Result NumberedContents Fault) × (slice_get (table_answers cmp (map lent_table loaded)) job ≡ Some answer)
  some_answer job lt =
      let answers = table_answers cmp (map lent_table loaded) in
      (get_or answers job (numbered_reading cmp (0, [])), slice_get-get_or answers job (numbered_reading cmp (0, [])) (omega (arith, answers_length)))

-- the tables that are checked, and those after them
abbrev pub tables_after : List NumberedContents → Result (List NumberedContents) Fault → Result (List NumberedContents) Fault
tables_after front rest = rest >>= λ others. Ok (front ++ others)

value_same : (r : Result (List NumberedContents) Fault) → r ≡ tables_after [] r
value_same (Ok tables) = refl
value_same (Err e) = refl

-- tables, and others after them
pub reading_append : (cmp : List ℕ → List ℕ → Ordering) (xs ys : List (ℕ × List ℕ)) → tables_reading cmp (xs ++ ys) ≡ (tables_reading cmp xs >>= λ front. tables_after front (tables_reading cmp ys))
reading_append cmp [] ys = value_same (tables_reading cmp ys)
reading_append cmp (t ∷ xs) ys =
    ap (λ (rest : Result (List NumberedContents) Fault). numbered_reading cmp t >>= λ first. rest >>= λ others. Ok (first ∷ others)) (reading_append cmp xs ys)
    ∙ regroup (numbered_reading cmp t) (tables_reading cmp xs) (tables_reading cmp ys)
  where
    regroup : (a : Result NumberedContents Fault) (b c : Result (List NumberedContents) Fault)
        → (a >>= λ first. (b >>= λ front. tables_after front c) >>= λ others. Ok (first ∷ others)) ≡ ((a >>= λ first. b >>= λ others. Ok (first ∷ others)) >>= λ front. tables_after front c)
    regroup (Err e) b c = refl
    regroup (Ok first) (Err e) c = refl
    regroup (Ok first) (Ok front) (Err e) = refl
    regroup (Ok first) (Ok front) (Ok others) = refl

after_twice : (front more : List NumberedContents) (rest : Result (List NumberedContents) Fault) → tables_after front (tables_after more rest) ≡ tables_after (front ++ more) rest
after_twice front more (Ok others) = ap (λ (ts : List NumberedContents). Ok ts) (sym (append_assoc front more others))
after_twice front more (Err e) = refl

module _ (cmp : List ℕ → List ℕ → Ordering) (loaded round behind : List (ℕ × Vec ℕ)) (n : ℕ) (is_round : round ≡ take n loaded) (is_behind : behind ≡ drop n loaded) where
  parts : loaded ≡ round ++ behind
  parts = sym (ap₂ (λ (a b : List (ℕ × Vec ℕ)). a ++ b) is_round is_behind ∙ take-append-drop n loaded)

  by_round : tables_reading cmp (map lent_table loaded) ≡ (tables_reading cmp (map lent_table round) >>= λ front. tables_after front (tables_reading cmp (map lent_table behind)))
  by_round = ap (λ (l : List (ℕ × Vec ℕ)). tables_reading cmp (map lent_table l)) parts ∙ ap (tables_reading cmp) (map-append lent_table round behind) ∙ reading_append cmp (map lent_table round) (map lent_table behind)

  -- a round more
  pub round_more : (front checked after : List NumberedContents) (total : Result (List NumberedContents) Fault) → tables_reading cmp (map lent_table round) ≡ Ok checked → after ≡ front ++ checked
      → tables_after front (tables_reading cmp (map lent_table loaded)) ≡ total → tables_after after (tables_reading cmp (map lent_table behind)) ≡ total
  round_more front checked after total read made so_far =
      ap (λ (ts : List NumberedContents). tables_after ts (tables_reading cmp (map lent_table behind))) made ∙ sym (after_twice front checked (tables_reading cmp (map lent_table behind)))
      ∙ sym (ap (tables_after front) (by_round ∙ ap (λ (r : Result (List NumberedContents) Fault). r >>= λ ts. tables_after ts (tables_reading cmp (map lent_table behind))) read)) ∙ so_far

  -- a round that is refused
  pub round_refused : (front : List NumberedContents) (e : Fault) (total : Result (List NumberedContents) Fault) → tables_after front (tables_reading cmp (map lent_table loaded)) ≡ total
      → FailsOrMemory e (tables_reading cmp (map lent_table round)) → FailsOrMemory e total
  round_refused front e total so_far failed =
      unless_from e (tables_reading cmp (map lent_table round) ≡ Err e) (total ≡ Err e)
      (λ read. sym so_far ∙ ap (tables_after front) (by_round ∙ ap (λ (r : Result (List NumberedContents) Fault). r >>= λ ts. tables_after ts (tables_reading cmp (map lent_table behind))) read)) failed
