-- What a compaction answers, as definitions see it.
use Rattle.std.specs.Prelude.{ℕ, map}
use Rattle.std.specs.Global.{Vec}
use Rattle.edit.specs.declared.outcome.Outcome.{Outcome}
use Rattle.compact.specs.OneThread.{Answer}

-- the tables with their numbers, and the bytes of the edit, of the code's outcome
abbrev pub answer_in : Outcome → Answer
answer_in o = record {
  tables = map (λ (t : ℕ × Vec ℕ). (t.0, t.1.items)) o.tables.items;
  edit =
      o.edit.items;
}
