-- What calls on a folder report of the device, and leave of it, one after the other.
use Rattle.std.proofs.Common.{◌≡◌, ◌≢◌, ℕ, ◌≤◌, Result, Ok, Err, IfErr, IsErrAnd, refl, sym, ap, subst, ◌∙◌, arith}
use Rattle.ikey.proofs.Refusals.{unless_device}
use Rattle.ikey.specs.Answers.{UnlessMemory, fault}
use Rattle.ikey.specs.fault.Fault.{Fault}
use Rattle.ikey.specs.fault.FaultName.TheVariants as name
use Rattle.folder.proofs.CountLemmas.{count_device, count_later, later_since, later_still, read_stops, stops_next, stops_ok, stops_on, stops_since}
use Rattle.folder.proofs.LoadingLemmas.{told_since}
use Rattle.folder.proofs.OpeningLemmas.{failed_since}
use Rattle.folder.specs.Folder.{failures_after, fault_name}
use Rattle.folder.specs.OpenAnswer.{HasDeviceFailed, IsStopped}
use Rattle.folder.specs.Reports.{OnlyReads, ReportsDevice}
use Rattle.folder.specs.declared.folder.Folder.{Ghosts}
use Rattle.folder.specs.declared.folder.FolderFault.{FolderFault}
use Rattle.folder.specs.declared.folder.FolderFault.TheVariants.{Device, Memory}

-- a device that failed after a time failed after an earlier time
pub device_since : {X : Type 0} (before middle now : ℕ) (r : Result X Fault) → before ≤ middle → middle ≤ now → IfErr r (HasDeviceFailed middle now) → IfErr r (HasDeviceFailed before now)
device_since before middle now (Ok x) one two h = tt
device_since before middle now (Err e) one two h = λ same. failed_since before middle now one two (h same)

-- a refusal that `?` hands on
pub device_handed : {X : Type 0} (before middle now : ℕ) (r : Result X Fault) (e : Fault) → IsErrAnd r (λ f. f ≡ e) → before ≤ middle → middle ≤ now → HasDeviceFailed middle now e → IfErr r (HasDeviceFailed before now)
device_handed before middle now (Ok x) e h one two given = tt
device_handed before middle now (Err f) e h one two given = λ same. failed_since before middle now one two (given (sym (ap (λ (x : Fault). x.name) h) ∙ same))

device_of : {X : Type 0} (before now : ℕ) (first : Result X Fault) (e : Fault) → first ≡ Err e → IfErr first (HasDeviceFailed before now) → HasDeviceFailed before now e
device_of before now first e is h = subst (λ (r : Result _ Fault). IfErr r (HasDeviceFailed before now)) is h

-- a refusal of another name
never_device : {X : Type 0} (before now : ℕ) (r : Result X Fault) → IfErr r (λ e. e.name ≢ name.Device) → IfErr r (HasDeviceFailed before now)
never_device before now (Ok x) h = tt
never_device before now (Err e) h = λ same. absurd (h same)

-- a refusal that says that the device failed
pub stopped_device : {X : Type 0} (before now : ℕ) (r : Result X Fault) → IfErr r (λ e. UnlessMemory e (IsStopped before now e)) → IfErr r (HasDeviceFailed before now)
stopped_device before now (Ok x) h = tt
stopped_device before now (Err e) h = λ same. (unless_device e (IsStopped before now e) same h).1

-- a folder's fault is named Device only if it is Device
device_named : (e : FolderFault) → fault_name e ≡ name.Device → e ≡ Device
device_named Device h = refl
device_named Memory h = absurd (cc h)

read_device : {X T : Type 0} (before now : ℕ) (first : Result T FolderFault) (r : Result X Fault) (e : FolderFault) → first ≡ Err e → IsErrAnd r (λ f. f ≡ fault (fault_name e)) → now ≡ failures_after before first
    → IfErr r (HasDeviceFailed before now)
read_device before now first (Ok x) e was is count = tt
read_device {T = T} before now first (Err f) e was is count = λ same.
    let one : e ≡ Device = device_named e (sym (ap (λ (x : Fault). x.name) is) ∙ same) in
    count_device before now first count (was ∙ ap (λ (x : FolderFault). failing T x) one)
  where
    failing : (A : Type 0) → FolderFault → Result A FolderFault
    failing A x = Err x

module _ {D : Type 0} {g : Ghosts D} where
  -- a call that only reads, after another one
  pub reads_then : {a b c : D} → OnlyReads g a b → OnlyReads g b c → OnlyReads g a c
  reads_then {a} {b} {c} one two = record { same = told_since (g.tells a) (g.tells b) (g.tells c) one.same two.same; calls = two.calls ∙ one.calls }

  -- `?` hands on that a call of the folder failed
  pub reports_failed : {X T : Type 0} {a b : D} {first : Result T FolderFault} {e : FolderFault} (r : Result X Fault) → first ≡ Err e → g.failed b ≡ failures_after (g.failed a) first → IsErrAnd r (λ f. f ≡ fault (fault_name e))
      → ReportsDevice g a b r
  reports_failed {a = a} {b = b} {first = first} {e = e} r was count is = record {
    device = read_device (g.failed a) (g.failed b) first r e was is count;
    at_once = read_stops (g.failed a) (g.failed b) first r e was is count;
    later = count_later (g.failed a) (g.failed b) first count;
  }

  -- the count stays as it is, and the answer isn't Device
  pub reports_steady : {X : Type 0} {a b : D} (r : Result X Fault) → g.failed b ≡ g.failed a → IfErr r (λ e. e.name ≢ name.Device) → ReportsDevice g a b r
  reports_steady {a = a} {b = b} r is other = record {
    device = never_device (g.failed a) (g.failed b) r other;
    at_once = λ rose. absurd (omega (arith, is, rose));
    later = omega (arith, is);
  }

  -- what reports after a time at which the count was the same
  pub reports_on : {X : Type 0} {a b c : D} {r : Result X Fault} → g.failed b ≡ g.failed a → ReportsDevice g b c r → ReportsDevice g a c r
  reports_on {a = a} {b = b} {c = c} {r = r} is h =
      let one : g.failed a ≤ g.failed b = omega (arith, is) in
      record {
        device = device_since (g.failed a) (g.failed b) (g.failed c) r one h.later h.device;
        at_once = stops_since (g.failed a) (g.failed b) (g.failed c) r is h.at_once;
        later = later_since (g.failed a) (g.failed b) (g.failed c) is h.later;
      }

  -- `?` hands on what a call refused
  pub reports_handed : {X Y : Type 0} {a b : D} {first : Result X Fault} {e : Fault} (r : Result Y Fault) → first ≡ Err e → ReportsDevice g a b first → IsErrAnd r (λ f. f ≡ e) → ReportsDevice g a b r
  reports_handed {a = a} {b = b} {first = first} {e = e} r was h is = record {
    device = device_handed (g.failed a) (g.failed a) (g.failed b) r e is (omega arith) h.later (device_of (g.failed a) (g.failed b) first e was h.device);
    at_once = stops_on (g.failed a) (g.failed b) first r e was is h.at_once;
    later = h.later;
  }

  -- a call that reports, after one that answered a value
  pub reports_then : {X Y : Type 0} {a b c : D} {first : Result X Fault} {x : X} {r : Result Y Fault} → first ≡ Ok x → ReportsDevice g a b first → ReportsDevice g b c r → ReportsDevice g a c r
  reports_then {a = a} {b = b} {c = c} {first = first} {x = x} {r = r} was one two = record {
    device = device_since (g.failed a) (g.failed b) (g.failed c) r one.later two.later two.device;
    at_once = stops_next (g.failed a) (g.failed b) (g.failed c) x first r was one.at_once two.at_once;
    later = later_still (g.failed a) (g.failed b) (g.failed c) one.later two.later;
  }

  -- after a call that answered a value no other is made
  pub reports_after : {X Y : Type 0} {a b : D} {first : Result X Fault} {x : X} (r : Result Y Fault) → first ≡ Ok x → ReportsDevice g a b first → IfErr r (HasDeviceFailed (g.failed a) (g.failed b)) → ReportsDevice g a b r
  reports_after {a = a} {b = b} {first = first} {x = x} r was h device = record { device = device; at_once = stops_ok (g.failed a) (g.failed b) x first r was h.at_once; later = h.later }
