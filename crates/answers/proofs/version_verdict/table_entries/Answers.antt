use Rattle.std.proofs.Common.{◌≡◌, ℕ, List, Result, Ok, sym, ap, ◌∙◌}
use Rattle.table.specs.Answers.{◌>>=◌}
use Rattle.table.specs.fault.Fault.{Fault}
use Rattle.table.specs.EncodedEntry.{Entry}
use Rattle.table.specs.Bytewise.{bytewise_cmp}
use Rattle.table.specs.TableContents.{blocks_of, table_reading}
use Rattle.table.specs.declared.tally.Tally.{Tally}
use Rattle.answers.specs.FaultLines.{counted_entries}
use Rattle.answers.proofs.TableLemmas.{from_contents}
use Rattle.answers.proofs.version_verdict.table_entries.Goals as goal

pub returns : goal.returns
returns c =
    let read : table_reading bytewise_cmp c.args.bytes.now ≡ Ok c.in_ok-table.table.entries = from_contents (blocks_of bytewise_cmp c.args.bytes.now) c.args.bytes.now c.in_ok-table.table c.in_ok-table.ensures.exact in
    let counted : c.tally.result.entries ≡ counted_entries c.in_ok-table.table.entries = ap (λ (t : Tally). t.entries) c.tally.ensures.tally in
    ap (λ (r : Result (List Entry) Fault). r >>= λ entries. Ok (counted_entries entries)) read ∙ ap (λ (n : ℕ). Ok n) (sym counted)
