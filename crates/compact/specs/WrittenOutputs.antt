-- What is written of the outputs of a compaction.
use Rattle.std.specs.Prelude.{ℕ, ◌+◌, List, [], map, Result, Ok}
use Rattle.ikey.specs.Answers.{◌>>=◌}
use Rattle.ikey.specs.fault.Fault.{Fault}
use Rattle.table.specs.EncodedEntry.{Entry}
use Rattle.reads.specs.BuilderView.{last_key}
use Rattle.table.specs.EntryTests.{first_key}
use Rattle.edit.specs.Edit.{edit_bytes}
use Rattle.edit.specs.declared.meta.NewFile.{NewFile}
use Rattle.cut.specs.Plan.{OutputView, plan_of, plan_tables}
use Rattle.compact.specs.Request.{RequestView}
use Rattle.compact.specs.EditOf.{edit_of}
use Rattle.compact.specs.OneThread.{Answer}

-- an output of a plan as a new file of a level
abbrev pub planned_file : ℕ → OutputView → NewFile
planned_file level p = record {
  level = level;
  meta = record {
    number = p.number;
    size = p.length;
    smallest = first_key p.entries;
    largest = last_key [] p.entries;
  };
}

-- the outputs of a plan as new files of the level after the compaction's
abbrev pub planned_files : RequestView → List OutputView → List NewFile
planned_files r plan = map (planned_file (r.picked.level + 1)) plan

-- the answer of planned outputs, with the table of each
abbrev pub answer_of : (List Entry → List ℕ) → RequestView → List OutputView → Answer
answer_of table_of r plan =
    record {
      tables = plan_tables table_of plan;
      edit =
          edit_bytes (edit_of r (planned_files r plan));
    }

-- the answer for the entries of the outputs: the plan's refusal, or the answer of the plan
abbrev pub written_of : (List Entry → List ℕ) → RequestView → List (List Entry)
    → Result Answer Fault
written_of table_of r outputs =
    plan_of table_of r.options r.first_number outputs >>= λ plan. Ok (answer_of table_of r plan)
