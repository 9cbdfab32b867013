-- Of the worked row, the first file alone isn't closed.
use Rattle.std.proofs.Common.{◌≡◌, ℕ, List, [], ◌∷◌, refl, sym, ◌∙◌, arith}
use Rattle.std.specs.declared.cmp.Ordering.{Ordering}
use Rattle.std.proofs.lemmas.List.Elements.{All-contains}
use Rattle.ikey.specs.Key.{user_of, sequence_of}
use Rattle.ikey.specs.declared.kind.Kind.TheVariants.{Put}
use Rattle.ikey.proofs.Keys.{user_of-internal_key, sequence_of-internal_key}
use Rattle.edit.specs.declared.meta.NewFile.{NewFile}
use Rattle.pick.specs.declared.picked_inputs.InputFile.{InputFile}
use Rattle.reads.specs.Lawful.{AreNewer}
use Rattle.reads.specs.Tables.{table_entries}
use Rattle.reads.proofs.Members.{first_in, later_in}
use Rattle.reads.proofs.Newer.{newer_at}
use Rattle.compact.specs.ClosedInputs.{AreClosed}
use Rattle.compact.specs.WorkedRow.{key_of_sequence, file_at, entry_of_sequence, two_files, two_tables, first_alone}

abbrev first_file : NewFile
first_file = record { level = 1; meta = file_at 8 10 }

abbrev second_file : NewFile
second_file = record { level = 1; meta = file_at 9 5 }

abbrev the_input : InputFile
the_input = record { level = 1; meta = file_at 8 10 }

pub not_closed : (cmp : List ℕ → List ℕ → Ordering) → AreClosed cmp two_files two_tables first_alone → ⊥
not_closed cmp closed =
    let all = closed.same_level second_file (later_in first_file (second_file ∷ []) second_file (first_in second_file [])) refl refl in
    let newer : AreNewer (table_entries two_tables 9) (table_entries two_tables 8) =
    All-contains (λ (i : InputFile). AreNewer (table_entries two_tables 9) (table_entries two_tables i.meta.number)) (the_input ∷ []) the_input all (first_in the_input []) in
    let five : sequence_of (key_of_sequence 5) ≡ 5 = sequence_of-internal_key (117 ∷ []) 5 Put (omega arith) in
    let ten : sequence_of (key_of_sequence 10) ≡ 10 = sequence_of-internal_key (117 ∷ []) 10 Put (omega arith) in
    let same : user_of (key_of_sequence 5) ≡ user_of (key_of_sequence 10) = user_of-internal_key (117 ∷ []) 5 Put ∙ sym (user_of-internal_key (117 ∷ []) 10 Put) in
    let lt = newer_at (table_entries two_tables 9) (table_entries two_tables 8) newer (entry_of_sequence 5) (entry_of_sequence 10) (first_in (entry_of_sequence 5) []) (first_in (entry_of_sequence 10) []) same in
    absurd (omega arith)
