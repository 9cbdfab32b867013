use Rattle.std.proofs.Common.{List, ℕ, Result, ap, subst}
use Rattle.table.specs.Answers.{EqualOrMemory, ◌>>=◌}
use Rattle.table.specs.fault.Fault.{Fault}
use Rattle.block.specs.EncodedEntry.{Entry}
use Rattle.block.specs.BlockReading.{block_reading}
use Rattle.table.proofs.Steps.{check_gives}
use Rattle.scan.proofs.block_search.block_in.Goals as goal

pub returns : goal.returns
returns c =
    let e = c.check.ensures in
    subst (λ (a : Result (List Entry) Fault). EqualOrMemory (λ block. block.entries) c.check.result a) (ap (λ (r : Result (List ℕ) Fault). r >>= block_reading) c.in_ok-contents.ensures)
    (check_gives (λ block. block.entries) c.in_ok-contents.field-0.now c.check.result e.found e.only e.refused)
