use Rattle.std.proofs.Common.{◌≡◌, ◌∷◌, [], ℕ, List, Option, Vec, Global, Result, Ok, map, refl, subst}
use Rattle.std.specs.Option.{MatchOption}
use Rattle.std.specs.Vec.Iter.{into_iter_items}
use Rattle.ikey.specs.fault.Fault.{Fault}
use Rattle.table.specs.TableContents.{Contents, contents_reading}
use Rattle.reads.specs.Tables.{NumberedContents}
use Rattle.checks.specs.TableReadings.{tables_reading}
use Rattle.checks.proofs.Lent.{lent_table}
use Rattle.checks.proofs.ReadTables.{one_invalid, one_read}
use Rattle.checks.proofs.TableRounds.{round_more, tables_after}
use Rattle.checks.proofs.found_tables.owned_tables.Goals as goal

pub loop-pair-preserved : goal.loop-pair-preserved
loop-pair-preserved g c =
    let cmp = g.C.Comparator.cmp in
    let t : ℕ × Vec ℕ Global = c.in-Some.pair in
    let rest : List (ℕ × Vec ℕ Global) = into_iter_items c.next.new.self in
    let x : NumberedContents = c.in-Some-2.table in
    let front : List NumberedContents = c.loop-pair.tables.items in
    let total = tables_reading cmp (map lent_table c.args.loaded.items) in
    let so_far : tables_after front (tables_reading cmp (map lent_table (t ∷ rest))) ≡ total =
    subst (λ (ts : List (ℕ × Vec ℕ Global)). tables_after front (tables_reading cmp (map lent_table ts)) ≡ total) c.in-Some.ensures.steps.0 c.loop-pair.invariant in
    let is = subst (λ (o : Option NumberedContents). MatchOption o ((y : Contents) → contents_reading cmp t.1.items ≡ Ok y → ⊥) (λ y. (y.number ≡ t.0) × (y.contents.bytes ≡ t.1.items) × (contents_reading cmp t.1.items ≡ Ok y.contents))) c.in-Some-2.is c.in_ok-table.ensures.checked in
    round_more cmp (t ∷ rest) (t ∷ []) rest 1 refl refl front (x ∷ []) c.push.new.self.items total (one_read cmp t x is.0 is.2) c.in_ok-push.ensures.items so_far

pub returns-in_default-clause-checked : goal.returns-in_default-clause-checked
returns-in_default-clause-checked g c =
    let cmp = g.C.Comparator.cmp in
    let t : ℕ × Vec ℕ Global = c.in-Some.pair in
    let rest : List (ℕ × Vec ℕ Global) = into_iter_items c.next.new.self in
    let front : List NumberedContents = c.loop-pair.tables.items in
    let total = tables_reading cmp (map lent_table c.args.loaded.items) in
    let so_far : tables_after front (tables_reading cmp (map lent_table (t ∷ rest))) ≡ total =
    subst (λ (ts : List (ℕ × Vec ℕ Global)). tables_after front (tables_reading cmp (map lent_table ts)) ≡ total) c.in-Some.ensures.steps.0 c.loop-pair.invariant in
    let invalid = subst (λ (o : Option NumberedContents). MatchOption o ((y : Contents) → contents_reading cmp t.1.items ≡ Ok y → ⊥) (λ y. (y.number ≡ t.0) × (y.contents.bytes ≡ t.1.items) × (contents_reading cmp t.1.items ≡ Ok y.contents))) c.in_default.is c.in_ok-table.ensures.checked in
    one_invalid cmp front t rest total invalid so_far
