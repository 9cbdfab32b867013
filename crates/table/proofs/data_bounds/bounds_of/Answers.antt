use Rattle.std.proofs.Common.{◌≡◌, List, ℕ, Result, Ok, Err, sym, ap, subst}
use Rattle.std.specs.Prelude.{IsOk, is_ok}
use Rattle.std.specs.Option.{option_map}
use Rattle.std.proofs.lemmas.Result.{err_from_is_err_and}
use Rattle.coding.specs.Answers.{EqualOrMemory, FailsOrMemory, ◌>>=◌}
use Rattle.coding.specs.declared.fault.Fault.{Fault}
use Rattle.block.specs.EncodedEntry.{Entry}
use Rattle.block.specs.BlockReading.{block_reading}
use Rattle.block.proofs.BlockReadings.{reads_blocks}
use Rattle.table.specs.BoundsReading.{bounds_reading}
use Rattle.table.specs.declared.bounds.Bounds.{Bounds}
use Rattle.table.specs.IndexReading.{block_in}
use Rattle.table.proofs.Steps.{check_gives, handed_on}
use Rattle.table.proofs.OneWalk.{first_fails, walked}
use Rattle.table.proofs.data_bounds.bounds_of.Goals as goal

pub returns-in_err-enter : goal.returns-in_err-enter
returns-in_err-enter g c =
    let p = err_from_is_err_and c.from_residual-in_err-enter.result c.from_residual-in_err-enter.ensures.1 in
    let d = c.in_err-enter.field-0.0 in
    let bytes = c.in_ok-bytes.bytes.now in
    let bounds : List Entry → Result Bounds Fault = bounds_reading g.C.Comparator.cmp (option_map (λ key. key.bytes.now) c.args.before) c.args.so_far in
    let whole : (block_reading bytes >>= bounds) ≡ (block_in c.args.stored.now >>= bounds) = ap (λ (r : Result (List ℕ) Fault). (r >>= block_reading) >>= bounds) c.in_ok-bytes.ensures in
    handed_on (λ b. b) c.from_residual-in_err-enter.result p.0 d (block_in c.args.stored.now >>= bounds) p.1 p.2
    (subst (FailsOrMemory d) whole (first_fails d (block_reading bytes) bounds c.in_err-enter.ensures.refused))

pub returns-in-Ok : goal.returns-in-Ok
returns-in-Ok g c =
    let cmp = g.C.Comparator.cmp in
    let before = option_map (λ key. key.bytes.now) c.args.before in
    let bytes = c.in_ok-bytes.bytes.now in
    let cursor = c.enter.new.self in
    let bounds : List Entry → Result Bounds Fault = bounds_reading cmp before c.args.so_far in
    let whole : (block_reading bytes >>= bounds) ≡ (block_in c.args.stored.now >>= bounds) = ap (λ (r : Result (List ℕ) Fault). (r >>= block_reading) >>= bounds) c.in_ok-bytes.ensures in
    let ok : IsOk (block_reading cursor.bytes) = ap is_ok c.in-Ok.ensures.block in
    subst (λ (total : Result Bounds Fault). total ≡ Ok c.in-Ok.bounds) whole
    (walked (λ b. b) cmp before c.args.so_far (Ok c.in-Ok.bounds) (block_reading bytes) cursor.all cursor.ahead c.in_ok-enter.ensures.ahead c.in_ok-enter.ensures.all (λ _. c.in-Ok.ensures.bounds ok)
    (subst (λ (b : List ℕ). IsOk (block_reading b)) c.in_ok-enter.ensures.bytes ok))

pub returns-in_err-check-in-Err : goal.returns-in_err-check-in-Err
returns-in_err-check-in-Err g c =
    let p = err_from_is_err_and c.from_residual-in_err-check-in-Err.result c.from_residual-in_err-check-in-Err.ensures.1 in
    let d = c.in_err-check-in-Err.field-0.0 in
    let bytes = c.in_ok-bytes.bytes.now in
    let e = c.check.ensures in
    let bounds : List Entry → Result Bounds Fault = bounds_reading g.C.Comparator.cmp (option_map (λ key. key.bytes.now) c.args.before) c.args.so_far in
    let whole : (block_reading bytes >>= bounds) ≡ (block_in c.args.stored.now >>= bounds) = ap (λ (r : Result (List ℕ) Fault). (r >>= block_reading) >>= bounds) c.in_ok-bytes.ensures in
    let refused : FailsOrMemory d (block_reading bytes) = subst (λ r. EqualOrMemory (λ block. block.entries) r (block_reading bytes)) c.in_err-check-in-Err.was (check_gives (λ block. block.entries) bytes c.check.result e.found e.only e.refused) in
    handed_on (λ b. b) c.from_residual-in_err-check-in-Err.result p.0 d (block_in c.args.stored.now >>= bounds) p.1 p.2
    (subst (FailsOrMemory d) whole (first_fails d (block_reading bytes) bounds refused))

pub returns-in_ok-check-in-Err : goal.returns-in_ok-check-in-Err
returns-in_ok-check-in-Err g c =
    let cmp = g.C.Comparator.cmp in
    let before = option_map (λ key. key.bytes.now) c.args.before in
    let bytes = c.in_ok-bytes.bytes.now in
    let cursor = c.enter.new.self in
    let bounds : List Entry → Result Bounds Fault = bounds_reading cmp before c.args.so_far in
    let whole : (block_reading bytes >>= bounds) ≡ (block_in c.args.stored.now >>= bounds) = ap (λ (r : Result (List ℕ) Fault). (r >>= block_reading) >>= bounds) c.in_ok-bytes.ensures in
    let ok : IsOk (block_reading bytes) = ap is_ok (reads_blocks.only bytes c.in_ok-check-in-Err.field-0.entries c.in_ok-check-in-Err.ensures.found) in
    subst (FailsOrMemory c.in-Err.refused) whole
    (walked (λ (b : Bounds). b) cmp before c.args.so_far (Err c.in-Err.refused) (block_reading bytes) cursor.all cursor.ahead c.in_ok-enter.ensures.ahead c.in_ok-enter.ensures.all
    (λ _. c.in-Err.ensures.bounds (subst (λ (b : List ℕ). IsOk (block_reading b)) (sym c.in_ok-enter.ensures.bytes) ok)) ok)
