-- Rows that are told, one part after the other.
use Rattle.std.proofs.Common.{◌≡◌, ℕ, ◌+◌, ◌-◌, Bool, true, false, List, [], ◌∷◌, ◌++◌, length, take, Option, Some, None, Result, Ok, Err, IsErrAnd, refl, ap, ◌∙◌, inl, inr, arith, append_assoc}
use Rattle.std.specs.Option.{option_map}
use Rattle.std.proofs.Math.Seq.{take-append-add, take-nil}
use Rattle.std.proofs.lemmas.List.{length-append}
use Rattle.table.specs.fault.Fault.{Fault}
use Rattle.checks.proofs.TakerLemmas.{told_append}
use Rattle.scan.specs.Row.{Row}
use Rattle.scan.specs.ChosenRows.{rows_within}
use Rattle.scan.specs.RowParts.{AreBegun, AreEnough, AreScanned, AreTelling, AreWanted, IsAfterOne, IsRowPart}
use Rattle.scan.specs.declared.row_limit.RowLimit.{RowLimit}
use Rattle.scan.specs.declared.row_limit.RowLimit.TheVariants.{More, Enough}
use Rattle.scan.specs.ToldRows.{telling_by}

regroup : (a b c d : List Row) → a ++ ((b ++ c) ++ d) ≡ (a ++ b) ++ (c ++ d)
regroup a b c d = simp append_assoc

count_none : (left : Option ℕ) → left ≡ option_map (λ n. n + 0) left
count_none None = refl
count_none (Some n) = let e : n ≡ n + 0 = omega arith in ap (λ (m : ℕ). Some m) e

count_on : (left less : Option ℕ) (a b c : ℕ) → c ≡ a + b → left ≡ option_map (λ n. n + b) less → option_map (λ n. n + a) left ≡ option_map (λ n. n + c) less
count_on left less a b c sum h = ap (option_map (λ n. n + a)) h ∙ by less
  where
    by : (o : Option ℕ) → option_map (λ n. n + a) (option_map (λ n. n + b) o) ≡ option_map (λ n. n + c) o
    by None = refl
    by (Some n) = let e : (n + b) + a ≡ n + c = omega (arith, sum) in ap (λ (m : ℕ). Some m) e

module _ {T : Type 0} (tells : T → Row → Bool → T → Type 0) where
  -- nothing is told yet
  pub none_told : (rows : List Row) (old new : T) (left : Option ℕ) → new ≡ old → IsRowPart (telling_by tells old new) rows left rows left true
  none_told rows old new left same = record { told = []; parts = refl; taken = (refl, same); counted = count_none left }

  -- and one row is told
  pub one_told : (r : Row) (old new : T) (left less : Option ℕ) (goes : Bool) → tells old r goes new → left ≡ option_map (λ n. n + 1) less → IsRowPart (telling_by tells old new) (r ∷ []) left [] less goes
  one_told r old new left less goes h count = record { told = r ∷ []; parts = refl; taken = inl (refl, h); counted = count }

  pub part_then : (rows front behind untold : List Row) (old mid new : T) (limit left less : Option ℕ) (goes : Bool) → IsRowPart (telling_by tells old mid) rows limit (front ++ behind) left true → IsRowPart (telling_by tells mid new) front left untold less goes
      → IsRowPart (telling_by tells old new) rows limit (untold ++ behind) less goes
  part_then rows front behind untold old mid new limit left less goes p q = record {
    told = p.told ++ q.told;
    parts = p.parts ∙ ap (λ (rs : List Row). p.told ++ (rs ++ behind)) q.parts ∙ regroup p.told q.told untold behind;
    taken = told_append tells p.told q.told old mid new goes p.taken q.taken;
    counted = p.counted ∙ count_on left less (length p.told) (length q.told) (length (p.told ++ q.told)) (length-append p.told q.told) q.counted;
  }

  -- a part, after some of the rows
  module _ (rows front behind : List Row) (old mid new : T) (limit left : Option ℕ) (p : IsRowPart (telling_by tells old mid) rows limit (front ++ behind) left true) where
    pub more_then : (less : Option ℕ) → AreTelling tells front mid left new (Ok (More less)) → IsRowPart (telling_by tells old new) rows limit behind less true
    more_then less h = part_then rows front behind [] old mid new limit left less true p h.1

    pub enough_then : AreEnough tells front mid left new → AreEnough tells rows old limit new
    enough_then h = record { untold = h.untold ++ behind; left = h.left; goes = h.goes; part = part_then rows front behind h.untold old mid new limit left h.left h.goes p h.part; ended = h.ended }

    pub begun_then : AreBegun tells front mid left new → AreBegun tells rows old limit new
    begun_then h = record { untold = h.untold ++ behind; left = h.left; part = part_then rows front behind h.untold old mid new limit left h.left true p h.part }

  -- a refusal that `?` hands on
  pub handed_begun : (rows : List Row) (old new : T) (limit : Option ℕ) (r : Result RowLimit Fault) (e : Fault) → IsErrAnd r (λ f. f ≡ e) → AreBegun tells rows old limit new → AreTelling tells rows old limit new r
  handed_begun rows old new limit (Ok w) e h begun = absurd h
  handed_begun rows old new limit (Err f) e h begun = begun

  pub handed_scanned : (rows : List Row) (old new : T) (limit : Option ℕ) (r : Result (Unit {0}) Fault) (e : Fault) → IsErrAnd r (λ f. f ≡ e) → AreBegun tells rows old limit new → AreScanned tells rows old limit new r
  handed_scanned rows old new limit (Ok w) e h begun = absurd h
  handed_scanned rows old new limit (Err f) e h begun = begun

  -- before a refusal nothing was told
  pub refused_first : (rows : List Row) (old new : T) (limit : Option ℕ) → new ≡ old → AreBegun tells rows old limit new
  refused_first rows old new limit same = record { untold = rows; left = limit; part = none_told rows old new limit same }

-- after one row
less_one : (left : Option ℕ) → AreWanted left → (less : Option ℕ) × (left ≡ option_map (λ n. n + 1) less)
less_one None h = (None, refl)
less_one (Some n) h =
    let e : n ≡ (n - 1) + 1 = omega (arith, h) in
    (Some (n - 1), ap (λ (m : ℕ). Some m) e)

module _ {T : Type 0} (tells : T → Row → Bool → T → Type 0) (r : Row) (old new : T) (left : Option ℕ) (wanted : AreWanted left) where
  -- the taker says to stop
  pub stopped_by : tells old r false new → AreTelling tells (r ∷ []) old left new (Ok Enough)
  stopped_by h = let less = less_one left wanted in record { untold = []; left = less.0; goes = false; part = one_told tells r old new left less.0 false h less.1; ended = inl refl }

  -- it says to go on
  pub goes_on : (w : RowLimit) → tells old r true new → IsAfterOne left w → AreTelling tells (r ∷ []) old left new (Ok w)
  goes_on w h = by left w
    where
      by : (o : Option ℕ) (w : RowLimit) → IsAfterOne o w → AreTelling tells (r ∷ []) old o new (Ok w)
      by None (More None) k = (tt, one_told tells r old new None None true h refl)
      by None (More (Some less)) k = absurd k
      by None Enough k = absurd k
      by (Some n) (More None) k = absurd k
      by (Some n) (More (Some less)) k = (k.1, one_told tells r old new (Some n) (Some less) true h (ap (λ (m : ℕ). Some m) k.0))
      by (Some n) Enough k = record { untold = []; left = Some 0; goes = true; part = one_told tells r old new (Some n) (Some 0) true h (ap (λ (m : ℕ). Some m) k); ended = inr refl }

-- ---- the rows within a limit

pub within_parts : (rows told untold : List Row) (limit left : Option ℕ) → rows ≡ told ++ untold → limit ≡ option_map (λ n. n + length told) left → rows_within limit rows ≡ told ++ rows_within left untold
within_parts rows told untold limit left parts count = ap (λ (o : Option ℕ). rows_within o rows) count ∙ by left
  where
    by : (o : Option ℕ) → rows_within (option_map (λ n. n + length told) o) rows ≡ told ++ rows_within o untold
    by None = parts
    by (Some n) =
        let e : n + length told ≡ length told + n = omega arith in
        ap (λ (m : ℕ). take m rows) e ∙ ap (take (length told + n)) parts ∙ take-append-add told untold n

pub within_none : (left : Option ℕ) → rows_within left [] ≡ []
within_none None = refl
within_none (Some n) = take-nil {A = Row} n
