-- The names of the files that a compaction of a level reads.
use Rattle.std.specs.Prelude.{◌≡◌, ℕ, List, [], ◌∷◌, ◌++◌, codes, is_some, if◌then◌else◌}
use Rattle.std.specs.Prelude.{Result, Ok, Err}
use Rattle.std.specs.List.{flat_map}
use Rattle.folder.specs.Answers.{IsThen, fault, ◌>>=◌}
use Rattle.folder.specs.fault.Fault.{Fault}
use Rattle.folder.specs.fault.FaultName.TheVariants.{Missing}
use Rattle.folder.specs.Comparator.{KeyOrder}
use Rattle.folder.specs.Version.{State}
use Rattle.folder.specs.Calls.{Files}
use Rattle.folder.specs.Names.{manifest_name, old_table_name, table_name}
use Rattle.store.specs.InputsCompaction.{IsChoiceAnswer, input_numbers}
use Rattle.store.specs.declared.choice.Choice.TheVariants.{Picked}

-- the name under which the table of a number is there, or Missing if it is under neither
abbrev pub name_there : Files → ℕ → Result (List ℕ) Fault
name_there files number =
    if is_some (files (table_name number)) then Ok (table_name number)
    else (if is_some (files (old_table_name number)) then Ok (old_table_name number)
    else Err (fault Missing))

-- those of these numbers in their order, or Missing if one is missing
abbrev pub names_there : Files → List ℕ → Result (List (List ℕ)) Fault
names_there files [] = Ok []
names_there files (number ∷ numbers) = do
  name ← name_there files number
  names ← names_there files numbers
  Ok (name ∷ names)

-- a name and a newline
abbrev pub name_line : List ℕ → List ℕ
name_line name = name ++ codes "\n"

-- The lines of a level of a version that was opened by the manifest of a number: CURRENT, that
-- manifest, and each input in order. The first refusal counts: of the version's files; of a level
-- without inputs; Missing if a table of theirs is missing.
abbrev pub AreFilesToCompact : KeyOrder → Files → State → ℕ → ℕ → Result (List ℕ) Fault → Type 0
AreFilesToCompact cmp files v manifest level =
    IsThen (IsChoiceAnswer cmp v (Picked level)) (λ p answer.
    answer ≡ (names_there files (input_numbers p.files) >>= λ names.
    Ok (flat_map name_line (codes "CURRENT" ∷ manifest_name manifest ∷ names))))
