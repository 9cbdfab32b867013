-- Numbers whose tables are known to be valid, beside those that are read in order.
use Rattle.std.proofs.Common.{◌≡◌, ℕ, Bool, true, false, nat_eq, cond, List, [], ◌∷◌, ◌++◌, Result, Ok, Err, IfOk, refl, sym, ap, subst, ◌∙◌}
use Rattle.std.specs.Prelude.{filter}
use Rattle.std.specs.List.{AllZip, list_any}
use Rattle.std.specs.declared.cmp.Ordering.{Ordering}
use Rattle.std.proofs.lemmas.Bool.{eqb-true, not-false}
use Rattle.std.proofs.lemmas.List.Elements.{All-append, All-contains, All-map, All-nil}
use Rattle.std.proofs.lemmas.Map.Views.{Contains-from_any}
use Rattle.ikey.proofs.Binds.{done, failed}
use Rattle.ikey.specs.Answers.{◌>>=◌}
use Rattle.ikey.specs.fault.Fault.{Fault}
use Rattle.table.specs.TableContents.{Contents}
use Rattle.folder.specs.Calls.{Files}
use Rattle.folder.specs.LoadedTables.{IsFirstMissing, IsTableAnswer, IsTableOf}
use Rattle.folder.specs.ReadsAs.{IsFileIn}
use Rattle.reads.specs.Tables.{NumberedContents}
use Rattle.checks.specs.HeldTables.{AreHeldIn, IsTableIn, held_numbers}
use Rattle.checks.specs.InOrder.{AreChecked, AreSoundIn, IsSoundIn, is_unknown}
use Rattle.checks.specs.TableReadings.{tables_reading}
use Rattle.checks.proofs.OrderLemmas.{read_more, refused_now, refused_still}

-- ---- which are known

-- those of held tables
pub sound_held : (cmp : List ℕ → List ℕ → Ordering) (files : Files) (tables : List NumberedContents) → AreHeldIn cmp files tables → AreSoundIn cmp files (held_numbers tables)
sound_held cmp files tables are = All-map (IsSoundIn cmp files) (λ (t : NumberedContents). t.number) tables (λ k d lt. ((_, are k d lt)))

pub sound_more : (cmp : List ℕ → List ℕ → Ordering) (files : Files) (sound : List ℕ) (tables : List NumberedContents) → AreSoundIn cmp files sound → AreHeldIn cmp files tables → AreSoundIn cmp files (sound ++ held_numbers tables)
sound_more cmp files sound tables h are = All-append (IsSoundIn cmp files) sound (held_numbers tables) h (sound_held cmp files tables are)

-- the numbers that a test noted which began with none
pub known_numbers : (cmp : List ℕ → List ℕ → Ordering) (files : Files) (held : List NumberedContents) → held ≡ [] → (before : List ℕ) → before ≡ [] → (sound : List ℕ) → (AreHeldIn cmp files held → AreSoundIn cmp files before → AreSoundIn cmp files sound)
    → (lent : List ℕ) → lent ≡ sound → AreSoundIn cmp files lent
known_numbers cmp files held none before empty sound h lent same =
    subst (AreSoundIn cmp files) (sym same)
    (h (subst (AreHeldIn cmp files) (sym none) (All-nil (λ (t : NumberedContents). IsTableIn cmp files t.number t.contents))) (subst (AreSoundIn cmp files) (sym empty) (All-nil (IsSoundIn cmp files))))

-- what holds whatever is answered
pub of_any : {X E P : Type 0} (r : Result X E) → P → IfOk r (λ x. P)
of_any (Ok x) p = p
of_any (Err e) p = tt

same_numbers : (x y : ℕ) → nat_eq y x ≡ true → x ≡ y
same_numbers x y h = sym (eqb-true y x h)

-- ---- what is answered of all

-- tables that answer as others do
module _ (cmp : List ℕ → List ℕ → Ordering) where
  record AnswersAs (some all : List (ℕ × List ℕ)) : Type 0 where
    refused : (e : Fault) → tables_reading cmp some ≡ Err e → tables_reading cmp all ≡ Err e
    passed : (tables : List NumberedContents) → tables_reading cmp some ≡ Ok tables → (whole : List NumberedContents) × (tables_reading cmp all ≡ Ok whole)

  clash : (e : Fault) (tables : List NumberedContents) → failed {A = List NumberedContents} e ≡ done tables → ⊥
  clash e tables h = cc

  -- beside a valid table
  beside : (t : ℕ × List ℕ) (one : List NumberedContents) (some all : List (ℕ × List ℕ)) → tables_reading cmp (t ∷ []) ≡ Ok one → AnswersAs some all → AnswersAs some (t ∷ all)
  beside t one some all valid h = record {
    refused = λ e k. refused_now cmp (t ∷ []) all one e valid (h.refused e k);
    passed = λ tables k. (one ++ (h.passed tables k).0, read_more cmp (t ∷ []) all one (h.passed tables k).0 valid (h.passed tables k).1);
  }

  -- and each with the same table before them
  behind : (t : ℕ × List ℕ) (some all : List (ℕ × List ℕ)) → AnswersAs some all → AnswersAs (t ∷ some) (t ∷ all)
  behind t some all h = by (tables_reading cmp (t ∷ [])) refl (tables_reading cmp some) refl
    where
      by : (a : Result (List NumberedContents) Fault) → tables_reading cmp (t ∷ []) ≡ a → (b : Result (List NumberedContents) Fault) → tables_reading cmp some ≡ b → AnswersAs (t ∷ some) (t ∷ all)
      by (Err d) one b rest = record {
        refused = λ e k. refused_still cmp (t ∷ []) all d one ∙ sym (refused_still cmp (t ∷ []) some d one) ∙ k;
        passed = λ tables k. absurd (clash d tables (sym (refused_still cmp (t ∷ []) some d one) ∙ k));
      }
      by (Ok first) one (Err d) rest = record {
        refused = λ e k. refused_now cmp (t ∷ []) all first d one (h.refused d rest) ∙ sym (refused_now cmp (t ∷ []) some first d one rest) ∙ k;
        passed = λ tables k. absurd (clash d tables (sym (refused_now cmp (t ∷ []) some first d one rest) ∙ k));
      }
      by (Ok first) one (Ok others) rest =
          let more = h.passed others rest in
          record {
            refused = λ e k. absurd (clash e (first ++ others) (sym k ∙ read_more cmp (t ∷ []) some first others one rest));
            passed = λ tables k. (first ++ more.0, read_more cmp (t ∷ []) all first more.0 one more.1);
          }

module _ (cmp : List ℕ → List ℕ → Ordering) (files : Files) (sound : List ℕ) (are : AreSoundIn cmp files sound) where
  abbrev unknown : List ℕ → List ℕ
  unknown numbers = filter (is_unknown sound) numbers

  abbrev AreTables : List ℕ → List (ℕ × List ℕ) → Type 0
  AreTables numbers loaded = AllZip (IsTableOf (IsFileIn files)) numbers loaded

  -- the table of a number that is known, and that it is valid
  record KnownTable (n : ℕ) : Type 0 where
    bytes : List ℕ
    there : IsTableAnswer (IsFileIn files) n (Ok bytes)
    one : List NumberedContents
    valid : tables_reading cmp ((n, bytes) ∷ []) ≡ Ok one

  known : (n : ℕ) → is_unknown sound n ≡ false → KnownTable n
  known n is =
      let found = All-contains (IsSoundIn cmp files) sound n are (Contains-from_any {eq = λ a b. nat_eq b a} same_numbers n sound (not-false (list_any (λ (m : ℕ). nat_eq m n) sound) is)) in
      let first : NumberedContents = record { number = n; contents = found.0 } in
      record {
        bytes = found.0.bytes;
        there = found.1.there;
        one = first ∷ [];
        valid = ap (λ (r : Result Contents Fault). (r >>= λ contents. Ok (record { number = n; contents = contents })) >>= λ first. done (first ∷ [])) found.1.read;
      }

  record Whole (numbers : List ℕ) (some : List (ℕ × List ℕ)) : Type 0 where
    all : List (ℕ × List ℕ)
    there : AreTables numbers all
    answers : AnswersAs cmp some all

  -- the tables of all numbers, if those that aren't known are loaded
  whole : (numbers : List ℕ) (some : List (ℕ × List ℕ)) → AreTables (unknown numbers) some → Whole numbers some
  whole [] [] h = record { all = []; there = tt; answers = record { refused = λ e k. k; passed = λ tables k. (tables, k) } }
  whole [] (t ∷ some) h = absurd h
  whole (n ∷ numbers) some h = by (is_unknown sound n) refl (λ others k. whole numbers others k) some h
    where
      by : (b : Bool) → is_unknown sound n ≡ b → ((others : List (ℕ × List ℕ)) → AreTables (unknown numbers) others → Whole numbers others) → (some : List (ℕ × List ℕ)) → AreTables (cond b (n ∷ unknown numbers) (unknown numbers)) some → Whole (n ∷ numbers) some
      by true is ahead [] h = absurd h
      by true is ahead (t ∷ some) h =
          let rest = ahead some h.1 in
          record { all = t ∷ rest.all; there = (h.0, rest.there); answers = behind cmp t some rest.all rest.answers }
      by false is ahead some h =
          let rest = ahead some h in
          let k = known n is in
          record { all = (n, k.bytes) ∷ rest.all; there = ((refl, k.there), rest.there); answers = beside cmp (n, k.bytes) k.one some rest.all k.valid rest.answers }

  -- the first missing one is the first of all
  module _ (e : Fault) where
    abbrev Misses : List ℕ → Type 0
    Misses numbers = IsFirstMissing (IsFileIn files) numbers e

    first : (numbers : List ℕ) (n number : ℕ) → n ≡ number → IsTableAnswer (IsFileIn files) number (Err e) → Misses (n ∷ numbers)
    first numbers n number same missing = record { before = []; tables = []; number = n; behind = numbers; parts = refl; read = tt; missing = subst (λ (k : ℕ). IsTableAnswer (IsFileIn files) k (Err e)) (sym same) missing }

    later : (numbers : List ℕ) (n : ℕ) (t : ℕ × List ℕ) → IsTableOf (IsFileIn files) n t → Misses numbers → Misses (n ∷ numbers)
    later numbers n t own m = record { before = n ∷ m.before; tables = t ∷ m.tables; number = m.number; behind = m.behind; parts = ap (λ (ns : List ℕ). n ∷ ns) m.parts; read = (own, m.read); missing = m.missing }

    module _ (number : ℕ) (behind : List ℕ) (missing : IsTableAnswer (IsFileIn files) number (Err e)) where
      abbrev Splits : List ℕ → List ℕ → Type 0
      Splits some numbers = (before : List ℕ) (tables : List (ℕ × List ℕ)) → some ≡ before ++ number ∷ behind → AreTables before tables → Misses numbers

      missed : (numbers : List ℕ) → Splits (unknown numbers) numbers
      missed [] [] tables parts read = absurd (cc parts)
      missed [] (b ∷ before) tables parts read = absurd (cc parts)
      missed (n ∷ numbers) before tables parts read = by (is_unknown sound n) refl (λ bs ts p r. missed numbers bs ts p r) before tables parts read
        where
          by : (b : Bool) → is_unknown sound n ≡ b → Splits (unknown numbers) numbers → Splits (cond b (n ∷ unknown numbers) (unknown numbers)) (n ∷ numbers)
          by true is ahead [] tables parts read = let same : n ≡ number = cc parts in first numbers n number same missing
          by true is ahead (b ∷ before) [] parts read = absurd read
          by true is ahead (b ∷ before) (t ∷ tables) parts read =
              let same : b ≡ n = cc parts in
              let rest : unknown numbers ≡ before ++ number ∷ behind = cc parts in
              later numbers n t (subst (λ (k : ℕ). IsTableOf (IsFileIn files) k t) same read.0) (ahead before tables rest read.1)
          by false is ahead before tables parts read =
              let k = known n is in
              later numbers n (n, k.bytes) (refl, k.there) (ahead before tables parts read)

    still_missing : (numbers : List ℕ) → Misses (unknown numbers) → Misses numbers
    still_missing numbers m = missed m.number m.behind m.missing numbers m.before m.tables m.parts m.read

  -- what is answered of those that aren't known is answered of all
  pub all_checked : (numbers : List ℕ) (a : Result (Unit {0}) Fault) → AreChecked cmp files (unknown numbers) a → AreChecked cmp files numbers a
  all_checked numbers a (Err d, h) = (Err d, (still_missing d numbers h.0, h.1))
  all_checked numbers a (Ok loaded, (there, (Err d, h))) =
      let all = whole numbers loaded there in
      (Ok all.all, (all.there, (Err d, (all.answers.refused d h.0, h.1))))
  all_checked numbers a (Ok loaded, (there, (Ok tables, h))) =
      let all = whole numbers loaded there in
      let passed = all.answers.passed tables h.0 in
      (Ok all.all, (all.there, (Ok passed.0, (passed.1, h.1))))
