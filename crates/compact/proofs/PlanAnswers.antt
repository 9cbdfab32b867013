-- What is answered of outputs is what is answered of their plan.
use Rattle.std.proofs.Common.{◌≡◌, ℕ, suc, ◌+◌, ◌^◌, Bool, true, false, ◌&&◌, List, [], ◌∷◌, length, map, Result, Ok, refl, sym, ap, ◌∙◌}
use Rattle.std.specs.Prelude.{nat_le, nat_lt}
use Rattle.std.specs.List.{list_all}
use Rattle.std.proofs.lemmas.List.{length-append}
use Rattle.std.proofs.lemmas.List.Sums.{sum_by-cons}
use Rattle.ikey.specs.Answers.{◌>>=◌}
use Rattle.ikey.specs.fault.Fault.{Fault}
use Rattle.ikey.specs.fault.FaultName.TheVariants.{Numbers, TooLarge}
use Rattle.table.specs.EncodedEntry.{Entry}
use Rattle.table.specs.DataBlocks.{data_blocks}
use Rattle.table.specs.TestResult.{test_result}
use Rattle.table.specs.declared.options.Options.{Options}
use Rattle.edit.specs.Edit.{edit_bytes}
use Rattle.edit.specs.declared.meta.NewFile.{NewFile}
use Rattle.cut.specs.Plan.{OutputView, plan_tables, parts, planned_from}
use Rattle.compact.specs.EditOf.{edit_of, new_file, new_files}
use Rattle.compact.specs.OneThread.{Answer, outputs_answer}
use Rattle.compact.specs.OutputTables.{Output, data_block_count, numbered_tables, outputs_from}
use Rattle.compact.specs.Request.{RequestView}
use Rattle.compact.specs.WrittenOutputs.{answer_of, planned_file, planned_files, written_of}

module _ (table_of : List Entry → List ℕ) (o : Options) where
  length_is : (number : ℕ) (qs : List (List Entry)) → length (outputs_from table_of number qs) ≡ length qs
  length_is number [] = refl
  length_is number (q ∷ qs) = ap suc (length_is (number + 1) qs)

  short_is : (number : ℕ) (qs : List (List Entry)) → list_all (λ (w : Output). nat_le (length w.bytes) (2 ^ 30)) (outputs_from table_of number qs) ≡ list_all (λ q. nat_le (length (table_of q)) (2 ^ 30)) qs
  short_is number [] = refl
  short_is number (q ∷ qs) = ap (λ (b : Bool). nat_le (length (table_of q)) (2 ^ 30) && b) (short_is (number + 1) qs)

  count_is : (number : ℕ) (qs : List (List Entry)) → data_block_count o (outputs_from table_of number qs) ≡ length (parts o qs)
  count_is number [] = refl
  count_is number (q ∷ qs) =
      sum_by-cons (λ (w : Output). length (data_blocks o w.entries)) (record { number = number; entries = q; bytes = table_of q }) (outputs_from table_of (number + 1) qs)
      ∙ ap (λ (n : ℕ). length (data_blocks o q) + n) (count_is (number + 1) qs) ∙ sym (length-append (data_blocks o q) (parts o qs))

  tables_are : (number : ℕ) (qs : List (List Entry)) → numbered_tables (outputs_from table_of number qs) ≡ plan_tables table_of (planned_from table_of o number qs)
  tables_are number [] = refl
  tables_are number (q ∷ qs) = ap (λ (ts : List (ℕ × List ℕ)). (number, table_of q) ∷ ts) (tables_are (number + 1) qs)

  files_are : (level number : ℕ) (qs : List (List Entry)) → map (new_file level) (outputs_from table_of number qs) ≡ map (planned_file level) (planned_from table_of o number qs)
  files_are level number [] = refl
  files_are level number (q ∷ qs) = ap (λ (fs : List NewFile). new_file level (record { number = number; entries = q; bytes = table_of q }) ∷ fs) (files_are level (number + 1) qs)

module _ (table_of : List Entry → List ℕ) (r : RequestView) (qs : List (List Entry)) where
  abbrev ws : List Output
  ws = outputs_from table_of r.first_number qs

  abbrev plan : List OutputView
  plan = planned_from table_of r.options r.first_number qs

  abbrev tests : Bool → Bool → Bool → Result (Unit {0}) Fault
  tests few short blocks = test_result few Numbers >>= λ _. test_result (short && blocks) TooLarge

  abbrev answer : List (ℕ × List ℕ) → List NewFile → Answer
  answer tables files = record { tables = tables; edit = edit_bytes (edit_of r files) }

  -- the order of the tests is one, and so is what comes after them
  steps : (few limits : Bool) (a : Answer) → answer_of table_of r plan ≡ a
      → ((test_result few Numbers >>= λ _. test_result limits TooLarge) >>= λ _. Ok a) ≡ ((test_result few Numbers >>= λ _. (test_result limits TooLarge >>= λ _. Ok plan)) >>= λ p. Ok (answer_of table_of r p))
  steps true true a h = ap (λ (x : Answer). Ok x) (sym h)
  steps true false a h = refl
  steps false limits a h = refl

  -- the outputs' answer is that of their plan
  pub outputs_planned : outputs_answer r ws ≡ written_of table_of r qs
  outputs_planned =
      ap (λ (n : ℕ). (test_result (nat_lt (r.first_number + n) (2 ^ 64)) Numbers >>= λ _. test_result (list_all (λ (w : Output). nat_le (length w.bytes) (2 ^ 30)) ws && nat_le (data_block_count r.options ws) (2 ^ 40)) TooLarge) >>= λ _. Ok (answer (numbered_tables ws) (new_files r ws))) (length_is table_of r.options r.first_number qs)
      ∙ ap (λ (b : Bool). tests (nat_lt (r.first_number + length qs) (2 ^ 64)) b (nat_le (data_block_count r.options ws) (2 ^ 40)) >>= λ _. Ok (answer (numbered_tables ws) (new_files r ws))) (short_is table_of r.options r.first_number qs)
      ∙ ap (λ (n : ℕ). tests (nat_lt (r.first_number + length qs) (2 ^ 64)) (list_all (λ q. nat_le (length (table_of q)) (2 ^ 30)) qs) (nat_le n (2 ^ 40)) >>= λ _. Ok (answer (numbered_tables ws) (new_files r ws))) (count_is table_of r.options r.first_number qs)
      ∙ steps (nat_lt (r.first_number + length qs) (2 ^ 64)) (list_all (λ q. nat_le (length (table_of q)) (2 ^ 30)) qs && nat_le (length (parts r.options qs)) (2 ^ 40)) (answer (numbered_tables ws) (new_files r ws))
      (ap (λ (ts : List (ℕ × List ℕ)). answer ts (planned_files r plan)) (sym (tables_are table_of r.options r.first_number qs))
      ∙ ap (λ (fs : List NewFile). answer (numbered_tables ws) fs) (sym (files_are table_of r.options (r.picked.level + 1) r.first_number qs)))
