use Rattle.std.proofs.Common.{◌≡◌, ◌++◌, ℕ, List, Result, Ok, sym, ap, ◌∙◌}
use Rattle.std.specs.Global.{Vec}
use Rattle.table.specs.Answers.{◌>>=◌}
use Rattle.table.specs.fault.Fault.{Fault}
use Rattle.table.specs.EncodedEntry.{Entry}
use Rattle.table.specs.Bytewise.{bytewise_cmp}
use Rattle.table.specs.TableContents.{blocks_of, table_reading}
use Rattle.answers.specs.Dump.{dump_lines}
use Rattle.answers.proofs.TableLemmas.{from_contents}
use Rattle.answers.proofs.table_dump.dump.Goals as goal

pub returns : goal.returns
returns c =
    let lines = dump_lines c.args.spelling c.in_ok-table.table.entries in
    let read : table_reading bytewise_cmp c.args.bytes.now ≡ Ok c.in_ok-table.table.entries = from_contents (blocks_of bytewise_cmp c.args.bytes.now) c.args.bytes.now c.in_ok-table.table c.in_ok-table.ensures.exact in
    let made = ap (λ (x : Vec ℕ). x.items) c.into_bytes.ensures.value ∙ (c.in_ok-push_lines.ensures.ok ∙ ap (λ (t : List ℕ). t ++ lines) c.new-out.ensures.bytes) in
    ap (λ (r : Result (List Entry) Fault). r >>= λ entries. Ok (dump_lines c.args.spelling entries)) read ∙ ap (λ (t : List ℕ). Ok t) (sym made)
