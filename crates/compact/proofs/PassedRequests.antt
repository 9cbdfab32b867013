-- What a request has that passes its tests.
use Rattle.std.proofs.Common.{◌≡◌, ◌≢◌, ℕ, ◌+◌, ◌-◌, ◌<◌, ◌≤◌, ◌^◌, Bool, true, false, eqb, ◌&&◌, ◌||◌, List, [], ◌∷◌, length, Result, Ok, Err, refl, inl, inr, arith}
use Rattle.std.specs.Prelude.{◌⊎◌, nat_lt, nat_le}
use Rattle.std.specs.List.{All, list_all}
use Rattle.std.specs.List.Sorted.{IsStrictlyIncreasing}
use Rattle.std.specs.declared.cmp.Ordering.{Ordering}
use Rattle.std.proofs.lemmas.Bool.{eqb-true, and_parts}
use Rattle.std.proofs.lemmas.Bool.Decides.{nat_tests}
use Rattle.std.proofs.lemmas.List.Elements.{All-cons, All-nil}
use Rattle.ikey.specs.Answers.{◌>>=◌}
use Rattle.ikey.specs.fault.Fault.{Fault}
use Rattle.ikey.specs.fault.FaultName.TheVariants.{NoInput, Level, Options, Snapshot, SnapshotList}
use Rattle.table.specs.Options.{are_in_limits}
use Rattle.table.specs.EntryTests.{is_some_list}
use Rattle.table.specs.TestResult.{test_result}
use Rattle.table.proofs.EntryTests.{passed}
use Rattle.pick.specs.declared.picked_inputs.InputFile.{InputFile}
use Rattle.keep.specs.Marks.{largest_rise}
use Rattle.keep.specs.RisesBy.{rises_by}
use Rattle.keep.specs.Readable.{listed_of}
use Rattle.keep.proofs.RisingTests.{rise_told}
use Rattle.keep.specs.declared.snapshots.Snapshots.{Snapshots}
use Rattle.keep.specs.declared.snapshots.Snapshots.TheVariants.{From, Listed}
use Rattle.compact.specs.PassedRequest.{PassedLaw}
use Rattle.compact.specs.Request.{has_levels, has_options, has_snapshots, is_snapshot_list, named_by}
use Rattle.compact.proofs.OptionLimits.{limits_told}

-- a step that was taken, and what follows it
step : (own : Result (Unit {0}) Fault) (rest : Result (Unit {0}) Fault) → (own >>= λ _. rest) ≡ Ok tt → (x : Unit {0}) × (own ≡ Ok x) × (rest ≡ Ok tt)
step (Ok x) rest h = (x, refl, h)
step (Err e) rest h = absurd cc

low : (m n : ℕ) → nat_le m n ≡ true → m ≤ n
low m n h = grind (arith, nat_tests)

below : (m n : ℕ) → nat_lt m n ≡ true → m < n
below m n h = grind (arith, nat_tests)

either : (a b : Bool) → (a || b) ≡ true → (a ≡ true) ⊎ (b ≡ true)
either true b h = inl h
either false b h = inr h

some_files : (files : List InputFile) → is_some_list files ≡ true → files ≢ []
some_files [] h = absurd cc
some_files (i ∷ is) h = λ e. cc

of_levels : (level : ℕ) (files : List InputFile) → list_all (λ (i : InputFile). eqb i.level level || eqb i.level (level + 1)) files ≡ true → All (λ (i : InputFile). (i.level ≡ level) ⊎ (i.level ≡ level + 1)) files
of_levels level [] h = All-nil (λ (i : InputFile). (i.level ≡ level) ⊎ (i.level ≡ level + 1))
of_levels level (i ∷ files) h =
    let parts = and_parts (eqb i.level level || eqb i.level (level + 1)) (list_all (λ (x : InputFile). eqb x.level level || eqb x.level (level + 1)) files) h in
    let own : (i.level ≡ level) ⊎ (i.level ≡ level + 1) = elim (either (eqb i.level level) (eqb i.level (level + 1)) parts.0) [ inl e ↦ inl (eqb-true i.level level e) | inr e ↦ inr (eqb-true i.level (level + 1) e) ] in
    All-cons (λ (x : InputFile). (x.level ≡ level) ⊎ (x.level ≡ level + 1)) i files own (of_levels level files parts.1)

parts_of_four : (a b c d : Bool) → (a && b && c && d) ≡ true → (a ≡ true) × (b ≡ true) × (c ≡ true) × (d ≡ true)
parts_of_four true true true true h = (refl, refl, refl, refl)
parts_of_four false b c d h = absurd cc
parts_of_four true false c d h = absurd cc
parts_of_four true true false d h = absurd cc
parts_of_four true true true false h = absurd cc

parts_of_three : (a b c : Bool) → (a && b && c) ≡ true → (a ≡ true) × (b ≡ true) × (c ≡ true)
parts_of_three true true true h = (refl, refl, refl)
parts_of_three false b c h = absurd cc
parts_of_three true false c h = absurd cc
parts_of_three true true false h = absurd cc

listed_rise : (snapshots : Snapshots) (last : ℕ) → is_snapshot_list snapshots last ≡ true → IsStrictlyIncreasing (listed_of snapshots)
listed_rise (From oldest) last h = λ k within. absurd (omega arith)
listed_rise (Listed list) last h =
    rise_told list.now (parts_of_three (nat_le (length list.now) 4096) (rises_by nat_lt list.now) (list_all (λ n. nat_le n last) list.now) h).1

pub passed_law : (cmp : List ℕ → List ℕ → Ordering) → PassedLaw cmp
passed_law cmp r h =
    let listed = test_result (is_snapshot_list r.snapshots r.last_sequence) SnapshotList in
    let behind_options = test_result (has_snapshots r) Snapshot >>= λ _. listed in
    let behind_levels = test_result (has_options cmp r) Options >>= λ _. behind_options in
    let first = step (test_result (is_some_list r.picked.files) NoInput) (test_result (has_levels r.picked) Level >>= λ _. behind_levels) h in
    let second = step (test_result (has_levels r.picked) Level) behind_levels first.2 in
    let third = step (test_result (has_options cmp r) Options) behind_options second.2 in
    let fourth = step (test_result (has_snapshots r) Snapshot) listed third.2 in
    let levels = and_parts (nat_le r.picked.level 5) (list_all (λ (i : InputFile). eqb i.level r.picked.level || eqb i.level (r.picked.level + 1)) r.picked.files) (passed (has_levels r.picked) Level second.0 second.1) in
    let few = nat_le (length r.picked.files) 256 in
    let counts = eqb (length r.tables) (length r.picked.files) in
    let options = parts_of_four (are_in_limits r.options) few counts (largest_rise cmp r.picked.grandparents) (passed (has_options cmp r) Options third.0 third.1) in
    record {
      some = some_files r.picked.files (passed (is_some_list r.picked.files) NoInput first.0 first.1);
      few = low (length r.picked.files) 256 options.1;
      tables = eqb-true (length r.tables) (length r.picked.files) options.2;
      level = low r.picked.level 5 levels.0;
      levels = of_levels r.picked.level r.picked.files levels.1;
      limits = limits_told r.options options.0;
      grandparents = options.3;
      listed = listed_rise r.snapshots r.last_sequence (passed (is_snapshot_list r.snapshots r.last_sequence) SnapshotList tt fourth.2);
      last_sequence = below r.last_sequence (2 ^ 56 - 1) (and_parts (nat_lt r.last_sequence (2 ^ 56 - 1)) (list_all (λ n. nat_lt n (2 ^ 56 - 1)) (named_by r.snapshots)) (passed (has_snapshots r) Snapshot fourth.0 fourth.1)).0;
    }
