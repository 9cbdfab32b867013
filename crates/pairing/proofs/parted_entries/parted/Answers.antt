use Rattle.std.proofs.Common.{List, sym, subst}
use Rattle.std.specs.List.{AllByRecursion}
use Rattle.pairing.specs.TestedUnion.{tested_entries}
use Rattle.pairing.specs.Ranges.{IsBefore, IsFrom}
use Rattle.pairing.specs.declared.tested_entry.TestedEntry.{TestedEntry}
use Rattle.pairing.proofs.Unions.{before_cut, from_cut}
use Rattle.pairing.proofs.parted_entries.parted.Goals as goal

pub returns-clause-before : goal.returns-clause-before
returns-clause-before c =
    subst (λ (ts : List TestedEntry). AllByRecursion (IsBefore c.args.at.now) (tested_entries ts)) (sym c.split_at.ensures.front)
    (before_cut c.args.at.now c.first_from.result c.args.entries.now c.first_from.ensures.before c.first_from.ensures.within)

pub returns-clause-from : goal.returns-clause-from
returns-clause-from c rising =
    subst (λ (ts : List TestedEntry). AllByRecursion (IsFrom c.args.at.now) (tested_entries ts)) (sym c.split_at.ensures.back)
    (from_cut c.args.at.now c.first_from.result c.args.entries.now rising c.first_from.ensures.from)
