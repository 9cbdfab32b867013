-- What refuses the bytes of a table isn't Device.
use Rattle.std.proofs.Common.{◌≡◌, ◌≢◌, ℕ, ◌+◌, nat_le, List, Result, Ok, Err, IfErr, IsErrAnd, sym, subst}
use Rattle.table.proofs.Refusals.{unless_device}
use Rattle.table.specs.Answers.{UnlessMemory}
use Rattle.table.specs.fault.Fault.{Fault}
use Rattle.table.specs.fault.FaultName.TheVariants.{Device, Range}
use Rattle.folder.specs.OpenAnswer.{HasDeviceFailed}
use Rattle.table.specs.Footer.{footer_reading}
use Rattle.table.specs.declared.handle.BlockHandle.{BlockHandle}
use Rattle.table.specs.IndexReading.{block_in}
use Rattle.scan.specs.SearchAnswers.{index_handle, len_with_trailer}
use Rattle.checks.proofs.TableRefusals.{AllOther, IsOther, bound, footer_other, in_other, named, not_device, tested, value}

len_other : (size : ℕ) (handle : BlockHandle) → AllOther (len_with_trailer size handle)
unfolding IsOther
len_other size handle = tested (nat_le (handle.offset + handle.size + 5 + 48) size) _ _ (value (handle.size + 5)) (named _ Range tt)

pub index_handle_other : (size : ℕ) (footer : List ℕ) (e : Fault) → index_handle size footer ≡ Err e → e.name ≢ Device
index_handle_other size footer e =
    not_device (index_handle size footer) e
    (bound (footer_reading footer) _ (footer_other footer) (λ f.
    bound (len_with_trailer size f.metaindex) _ (len_other size f.metaindex) (λ a. bound (len_with_trailer size f.index) _ (len_other size f.index) (λ b. value f.index))))

-- ---- refusals that `?` hands on

pub other_handed : {X : Type 0} (r : Result X Fault) (e : Fault) → IsErrAnd r (λ f. f ≡ e) → e.name ≢ Device → IfErr r (λ f. f.name ≢ Device)
other_handed (Ok x) e h other = absurd h
other_handed (Err f) e h other = subst (λ (x : Fault). x.name ≢ Device) (sym h) other

pub never_device : {X : Type 0} (before now : ℕ) (r : Result X Fault) → IfErr r (λ f. f.name ≢ Device) → IfErr r (HasDeviceFailed before now)
never_device before now (Ok x) h = tt
never_device before now (Err e) h = λ same. absurd (h same)

-- a stored block's refusal, or Memory
pub block_refused : (stored : List ℕ) (e : Fault) → UnlessMemory e (block_in stored ≡ Err e) → e.name ≢ Device
block_refused stored e h = λ same. not_device (block_in stored) e (in_other stored) (unless_device e (block_in stored ≡ Err e) same h) same
