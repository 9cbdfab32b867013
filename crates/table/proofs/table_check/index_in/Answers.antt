use Rattle.std.proofs.Common.{◌≡◌, ℕ, ◌-◌, ◌^◌, ◌≤◌, nat_le, Bool, List, length, drop, Result, Ok, sym, ap, ◌∙◌, arith, rules}
use Rattle.std.proofs.lemmas.Bool.{le-leb}
use Rattle.std.proofs.lemmas.Result.{err_from_is_err_and}
use Rattle.coding.specs.Answers.{◌>>=◌}
use Rattle.coding.specs.declared.fault.Fault.{Fault}
use Rattle.coding.specs.declared.fault.FaultName.TheVariants.{Size, Short}
use Rattle.coding.proofs.Refusals.{FailsOrMemory-from}
use Rattle.block.specs.EncodedEntry.{Entry}
use Rattle.table.specs.Footer.{footer_reading}
use Rattle.table.specs.declared.footer.Footer.{Footer}
use Rattle.table.specs.TestResult.{test_result}
use Rattle.table.specs.IndexReading.{stored_at, block_in}
use Rattle.table.specs.TableContents.{index_in}
use Rattle.table.proofs.Steps.{handed_on}
use Rattle.table.proofs.table_check.index_in.Goals as goal

-- the index block, if the metaindex block passes its tests
abbrev of_blocks : List ℕ → List ℕ → Result (List Entry) Fault
of_blocks metaindex index = block_in metaindex >>= λ _. block_in index

-- the index block of this footer, if the metaindex has these bytes
abbrev behind_metaindex : List ℕ → Footer → List ℕ → Result (List Entry) Fault
behind_metaindex bytes footer metaindex = stored_at bytes footer.index >>= of_blocks metaindex

-- the index block of this footer
abbrev behind_footer : List ℕ → Footer → Result (List Entry) Fault
behind_footer bytes footer = stored_at bytes footer.metaindex >>= behind_metaindex bytes footer

-- bytes that are neither too many nor too few are read by their footer
by_footer : (bytes : List ℕ) (footer : Result Footer Fault) → length bytes ≤ 2 ^ 30 → 48 ≤ length bytes → footer_reading (drop (length bytes - 48) bytes) ≡ footer → index_in bytes ≡ (footer >>= behind_footer bytes)
by_footer bytes footer most least is =
    ap (λ (b : Bool). test_result b Size >>= λ _. test_result (nat_le 48 (length bytes)) Short >>= λ _. footer_reading (drop (length bytes - 48) bytes) >>= behind_footer bytes) (le-leb (length bytes) (2 ^ 30) most)
    ∙ ap (λ (b : Bool). test_result b Short >>= λ _. footer_reading (drop (length bytes - 48) bytes) >>= behind_footer bytes) (le-leb 48 (length bytes) least)
    ∙ ap (λ (r : Result Footer Fault). r >>= behind_footer bytes) is

pub returns-in_err-footer : goal.returns-in_err-footer
returns-in_err-footer c =
    let p = err_from_is_err_and c.from_residual.result c.from_residual.ensures.1 in
    let bytes = c.args.bytes.now in
    let d = c.in_err-footer.field-0.0 in
    let total = by_footer bytes _ (omega arith) (omega arith) (ap footer_reading (sym c.split_at.ensures.back) ∙ sym c.in_err-footer.ensures) in
    handed_on (λ block. block.entries) c.from_residual.result p.0 d (index_in bytes) p.1 p.2 (FailsOrMemory-from d (index_in bytes) total)

pub returns-in_err-metaindex : goal.returns-in_err-metaindex
returns-in_err-metaindex c =
    let p = err_from_is_err_and c.from_residual-in_err-metaindex.result c.from_residual-in_err-metaindex.ensures.1 in
    let bytes = c.args.bytes.now in
    let footer = c.in_ok-footer.footer in
    let d = c.in_err-metaindex.field-0.0 in
    let total =
    by_footer bytes (Ok footer) (omega arith) (omega arith) (ap footer_reading (sym c.split_at.ensures.back) ∙ sym c.in_ok-footer.ensures)
    ∙ ap (λ (r : Result (List ℕ) Fault). r >>= behind_metaindex bytes footer) (sym c.in_err-metaindex.ensures.reading) in
    handed_on (λ block. block.entries) c.from_residual-in_err-metaindex.result p.0 d (index_in bytes) p.1 p.2 (FailsOrMemory-from d (index_in bytes) total)

pub returns-in_err-index : goal.returns-in_err-index
returns-in_err-index c =
    let p = err_from_is_err_and c.from_residual-in_err-index.result c.from_residual-in_err-index.ensures.1 in
    let bytes = c.args.bytes.now in
    let footer = c.in_ok-footer.footer in
    let metaindex = c.in_ok-metaindex.metaindex.now in
    let d = c.in_err-index.field-0.0 in
    let total =
    by_footer bytes (Ok footer) (omega arith) (omega arith) (ap footer_reading (sym c.split_at.ensures.back) ∙ sym c.in_ok-footer.ensures)
    ∙ ap (λ (r : Result (List ℕ) Fault). r >>= behind_metaindex bytes footer) (sym c.in_ok-metaindex.ensures.reading)
    ∙ ap (λ (r : Result (List ℕ) Fault). r >>= of_blocks metaindex) (sym c.in_err-index.ensures.reading) in
    handed_on (λ block. block.entries) c.from_residual-in_err-index.result p.0 d (index_in bytes) p.1 p.2 (FailsOrMemory-from d (index_in bytes) total)

pub returns : goal.returns
returns c = search rules
