-- The count of failures over calls.
use Rattle.std.proofs.Common.{◌≡◌, ◌⊎◌, ℕ, ◌+◌, ◌-◌, ◌<◌, ◌≤◌, ◌^◌, nat_eq, Bool, true, false, Result, Ok, Err, IsErrAnd, refl, sym, ap, subst, ◌∙◌, inl, inr, arith, if◌then◌else◌}
use Rattle.std.proofs.lemmas.Bool.{eqb-true}
use Rattle.ikey.proofs.Binds.{failed}
use Rattle.ikey.specs.Answers.{fault}
use Rattle.ikey.specs.fault.Fault.{Fault}
use Rattle.ikey.specs.fault.FaultName.TheVariants as name
use Rattle.folder.specs.OpenAnswer.{StopsAtDevice}
use Rattle.folder.specs.Folder.{DeviceFailed, failures_after, fault_name, one_more}
use Rattle.folder.specs.declared.folder.FolderFault.{FolderFault}
use Rattle.folder.specs.declared.folder.FolderFault.TheVariants.{Device, Memory}

more_by : (b : Bool) (n end : ℕ) → (b ≡ true → n ≡ end) → (n < (if b then n else n + 1)) ⊎ (n ≡ end)
more_by true n end h = inr (h refl)
more_by false n end h = inl (omega arith)

later_by : (b : Bool) (n : ℕ) → n ≤ (if b then n else n + 1)
later_by true n = omega arith
later_by false n = omega arith

one_more_failed : (n : ℕ) → DeviceFailed n (one_more n)
one_more_failed n = more_by (nat_eq n (2 ^ 64 - 1)) n (2 ^ 64 - 1) (eqb-true n (2 ^ 64 - 1))

-- the count doesn't fall
pub count_later : {T : Type 0} (before now : ℕ) (r : Result T FolderFault) → now ≡ failures_after before r → before ≤ now
count_later before now (Ok x) is = omega (arith, is)
count_later before now (Err Device) is = subst (λ (n : ℕ). before ≤ n) (sym is) (later_by (nat_eq before (2 ^ 64 - 1)) before)
count_later before now (Err Memory) is = omega (arith, is)

-- after Device the device failed
pub count_device : {T : Type 0} (before now : ℕ) (r : Result T FolderFault) → now ≡ failures_after before r → r ≡ Err Device → DeviceFailed before now
count_device before now r is e = subst (DeviceFailed before) (sym (is ∙ ap (failures_after before) e)) (one_more_failed before)

-- if the count rises, Device is the answer
pub count_rises : {T : Type 0} (before now : ℕ) (r : Result T FolderFault) → now ≡ failures_after before r → before < now → r ≡ Err Device
count_rises before now (Ok x) is rose = absurd (omega (arith, is))
count_rises before now (Err Device) is rose = refl
count_rises before now (Err Memory) is rose = absurd (omega (arith, is))

-- a call that answers Ok leaves the count as it was
pub steady : {X : Type 0} (first before now : ℕ) (x : X) (r : Result X Fault) → r ≡ Ok x → before ≡ first → before ≤ now → StopsAtDevice before now r → now ≡ first
steady first before now x r ok same later stops =
    let never : before < now → ⊥ = λ rose. let one : Ok x ≡ Err (fault name.Device) = sym ok ∙ stops rose in cc one in
    le_same before now later never ∙ same
  where
    le_same : (a b : ℕ) → a ≤ b → (a < b → ⊥) → b ≡ a
    le_same a b h never = omega (arith, never)

-- a refusal that `?` hands on
pub stops_on : {X Z : Type 0} (before now : ℕ) (first : Result Z Fault) (r : Result X Fault) (e : Fault) → first ≡ Err e → IsErrAnd r (λ f. f ≡ e) → StopsAtDevice before now first → StopsAtDevice before now r
stops_on before now first (Ok x) e was is stops = absurd is
stops_on {X} {Z} before now first (Err f) e was is stops = λ rose.
    let both : failed {A = Z} e ≡ failed (fault name.Device) = sym was ∙ stops rose in
    let one : e ≡ fault name.Device = cc both in
    ap (λ (g : Fault). failed {A = X} g) (is ∙ one)

-- if a call answered Ok, none failed
pub stops_ok : {X Z : Type 0} (before now : ℕ) (x : Z) (first : Result Z Fault) (r : Result X Fault) → first ≡ Ok x → StopsAtDevice before now first → StopsAtDevice before now r
stops_ok before now x first r ok stops = λ rose. let one : Ok x ≡ Err (fault name.Device) = sym ok ∙ stops rose in absurd (cc one)

-- one call after another that answered Ok
pub stops_next : {X Z : Type 0} (before middle now : ℕ) (x : Z) (first : Result Z Fault) (r : Result X Fault) → first ≡ Ok x → StopsAtDevice before middle first → StopsAtDevice middle now r → StopsAtDevice before now r
stops_next before middle now x first r ok one two = λ rose.
    let never : before < middle → ⊥ = λ more. let same : Ok x ≡ Err (fault name.Device) = sym ok ∙ one more in cc same in
    two (still before middle now never rose)
  where
    still : (a b c : ℕ) → (a < b → ⊥) → a < c → b < c
    still a b c never h = omega (arith, never)

-- the count was the same before
pub stops_since : {X : Type 0} (before middle now : ℕ) (r : Result X Fault) → middle ≡ before → StopsAtDevice middle now r → StopsAtDevice before now r
stops_since before middle now r is stops = λ rose. stops (omega (arith, is, rose))

pub later_still : (before middle now : ℕ) → before ≤ middle → middle ≤ now → before ≤ now
later_still before middle now one two = omega arith

pub later_since : (before middle now : ℕ) → middle ≡ before → middle ≤ now → before ≤ now
later_since before middle now is more = omega (arith, is, more)

-- a reading that answered Ok left the count as it was
pub read_same : {T : Type 0} (before now : ℕ) (x : T) (first : Result T FolderFault) → first ≡ Ok x → now ≡ failures_after before first → now ≡ before
read_same before now x first ok count = count ∙ ap (failures_after before) ok

abbrev stopped : {A : Type 0} → FolderFault → Result A FolderFault
stopped e = Err e

same_fault : {A : Type 0} (d e : FolderFault) → stopped {A = A} d ≡ stopped e → d ≡ e
same_fault d e h = cc

-- a reading's fault that `?` hands on
pub read_stops : {X T : Type 0} (before now : ℕ) (first : Result T FolderFault) (r : Result X Fault) (e : FolderFault) → first ≡ Err e → IsErrAnd r (λ f. f ≡ fault (fault_name e)) → now ≡ failures_after before first → StopsAtDevice before now r
read_stops before now first (Ok x) e was is count = absurd is
read_stops {X} {T} before now first (Err f) e was is count = λ rose.
    let one : e ≡ Device = same_fault {A = T} e Device (sym was ∙ count_rises before now first count rose) in
    ap (λ (g : Fault). failed {A = X} g) (is ∙ ap (λ (g : FolderFault). fault (fault_name g)) one)
