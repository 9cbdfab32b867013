-- The answer of a compaction whose tables are encoded group by group.
use Rattle.std.specs.Prelude.{ℕ, List, length, map, flat_map}
use Rattle.compact.specs.OneThread.{Answer}

-- the tables with their numbers, dealt out in groups, and the bytes of the edit
pub record GroupedAnswer : Type 0 where
  pub groups : List (List (ℕ × List ℕ))
  pub edit : List ℕ

-- the answer with the tables of all groups, one group after the other
abbrev pub joined_answer : GroupedAnswer → Answer
joined_answer p = record { tables = flat_map (λ group. group) p.groups; edit = p.edit }

-- the number of each table, and its length
abbrev pub table_sizes : List (ℕ × List ℕ) → List (ℕ × ℕ)
table_sizes tables = map (λ (t : ℕ × List ℕ). (t.0, length t.1)) tables
