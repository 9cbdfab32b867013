-- A removal after a compaction, as a part of a row of them.
use Rattle.std.proofs.Common.{Bool, Err, IsErrAnd, List, Ok, Option, Result, Some, ap, inl, inr, refl, subst, ℕ, ◌∙◌, ◌≡◌, ◌⊎◌}
use Rattle.folder.specs.Answers.{fault}
use Rattle.folder.specs.Calls.{Step, ToldFiles as Told}
use Rattle.folder.specs.Orders.{order_cmp}
use Rattle.folder.specs.Version.{State}
use Rattle.folder.specs.declared.order.Order.{Order}
use Rattle.folder.specs.fault.Fault.{Fault}
use Rattle.folder.specs.fault.FaultName.TheVariants.{Memory}
use Rattle.install.proofs.Changes.{change_by}
use Rattle.install.specs.ObsoleteFile.{AreObsolete}
use Rattle.install.specs.FolderChange.{IsUntouched}
use Rattle.install.specs.Removal.{AreRemoved, StaysAs}
use Rattle.store.specs.Cleaning.{CleanTeller, IsListRemoved, named_version}
use Rattle.store.specs.Telling.{IsGoTold}
use Rattle.store.specs.declared.synced_version.SyncedVersion.{SyncedVersion}
use Rattle.store.proofs.Flow.{no_refusal as ok_refused, same_refusal, refusal}

-- the answer of a removal, as an option
abbrev pub reopening : Option SyncedVersion → Result (Option SyncedVersion) Fault
reopening o = Ok o

-- ---- of a version that is the same

pub obsolete_of : (one order : Order) (w v : State) (n manifest : ℕ) (given names : List (List ℕ)) → one ≡ order → w ≡ v → n ≡ manifest → given ≡ names → (removed : List (List ℕ)) → AreObsolete (order_cmp one) w n given removed
    → AreObsolete (order_cmp order) v manifest names removed
obsolete_of one order w v n manifest given names is_order is_version is_manifest is removed h =
    subst (λ (xs : List (List ℕ)). AreObsolete (order_cmp order) v manifest xs removed) is
    (subst (λ (m : ℕ). AreObsolete (order_cmp order) v m given removed) is_manifest
    (subst (λ (x : State). AreObsolete (order_cmp order) x n given removed) is_version
    (subst (λ (o : Order). AreObsolete (order_cmp o) w n given removed) is_order h)))

pub stays_of : (one order : Order) (w v : State) (n manifest : ℕ) (tables : List (ℕ × List ℕ)) (before after : List Step) (old new : Told) → one ≡ order → w ≡ v → n ≡ manifest → StaysAs (order_cmp one) one w n tables (change_by before after old new)
    → StaysAs (order_cmp order) order v manifest tables (change_by before after old new)
stays_of one order w v n manifest tables before after old new is_order is_version is_manifest h =
    subst (λ (m : ℕ). StaysAs (order_cmp order) order v m tables (change_by before after old new)) is_manifest
    (subst (λ (x : State). StaysAs (order_cmp order) order x n tables (change_by before after old new)) is_version
    (subst (λ (o : Order). StaysAs (order_cmp o) o w n tables (change_by before after old new)) is_order h))

-- ---- the answer after the removal

module _ {W U : Type 0} (by : CleanTeller W) (one order : Order) (w v : State) (n manifest : ℕ) (given names : List (List ℕ)) (is_order : one ≡ order) (is_version : w ≡ v) (is_manifest : n ≡ manifest) (is : given ≡ names)
    (before after : List Step) (old new : Told) (listed told : W) where
  -- what the removal leaves
  abbrev LeftBy : Result U Fault → Type 0
  LeftBy q = (IsUntouched (change_by before after old new) listed told × (q ≡ Err (fault Memory))) ⊎ AreRemoved by.removes (AreObsolete (order_cmp one) w n given) (change_by before after old new) listed told q

  -- it was refused
  pub cut_part : (r : Result (Option SyncedVersion) Fault) (e : Fault) → IsErrAnd r (λ f. f ≡ e) → LeftBy (Err e) → IsListRemoved by (named_version order v manifest) (change_by before after old new) listed told IsGoTold (Some names) r
  cut_part (Ok x) e h left = absurd h
  cut_part (Err f) e h (inl u) = inl (u.0, ap (λ (x : Fault). refusal {Y = Option SyncedVersion} x) (h ∙ same_refusal {Y = U} e (fault Memory) u.1))
  cut_part (Err f) e h (inr a) = inr (
    told,
    record {
      removed = a.removed;
      obsolete = obsolete_of one order w v n manifest given names is_order is_version is_manifest is a.removed a.obsolete;
      run = record { runs = record { steps = a.run.runs.steps; made = a.run.runs.made; appended = a.run.runs.appended; change = a.run.runs.change }; told_all = a.run.told_all };
    },
    refl,
  )

  -- it was made, and told
  pub done_part : (o : Option SyncedVersion) (u : U) (told_now : W) (goes : Bool) → by.ends told goes told_now → IsGoTold goes o → LeftBy (Ok u) → IsListRemoved by (named_version order v manifest) (change_by before after old new) listed told_now IsGoTold (Some names) (reopening o)
  done_part o u told_now goes ends went (inl a) = absurd (ok_refused u (fault Memory) a.1)
  done_part o u told_now goes ends went (inr a) = inr (
    told,
    record {
      removed = a.removed;
      obsolete = obsolete_of one order w v n manifest given names is_order is_version is_manifest is a.removed a.obsolete;
      run = record { runs = record { steps = a.run.runs.steps; made = a.run.runs.made; appended = a.run.runs.appended; change = a.run.runs.change }; told_all = a.run.told_all };
    },
    (goes, ends, went),
  )
