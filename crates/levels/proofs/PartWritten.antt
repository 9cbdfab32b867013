-- One part whose tables are written.
use Rattle.std.proofs.Common.{◌≡◌, ◌⊎◌, ℕ, ◌+◌, ◌-◌, ◌<◌, ◌≤◌, ◌^◌, true, false, List, [], ◌∷◌, ◌++◌, nat_lt, Option, Some, Result, Ok, Err, IfErr, IsErrAnd, OnOk, refl, sym, ap, subst, ◌∙◌, inl, inr, arith}
use Rattle.std.specs.declared.cmp.Ordering.{Ordering}
use Rattle.std.proofs.lemmas.Bool.Decides.{nat_tests}
use Rattle.std.proofs.lemmas.List.Elements.{All-nil}
use Rattle.table.specs.TableBytes.{AreBytes}
use Rattle.edit.proofs.Refusals.{unless_from}
use Rattle.edit.specs.Answers.{UnlessMemory, fault}
use Rattle.edit.specs.fault.Fault.{Fault}
use Rattle.edit.specs.fault.FaultName.TheVariants.{Memory, Numbers}
use Rattle.edit.specs.Comparator.{ShortKeys}
use Rattle.edit.specs.Version.{State}
use Rattle.edit.specs.Key.{IsInternalKey}
use Rattle.folder.specs.Calls.{Files, Step, Tells}
use Rattle.folder.specs.CallSequence.{MakesCalls}
use Rattle.folder.specs.Folder.{TellsSame}
use Rattle.folder.specs.OpenAnswer.{IsStopped}
use Rattle.folder.specs.Reports.{OnlyReads}
use Rattle.folder.specs.declared.folder.Folder.{Ghosts}
use Rattle.folder.proofs.OpeningLemmas.{failed_since}
use Rattle.install.specs.Install.{table_calls}
use Rattle.pick.specs.PickedInputs.{PickedInputs}
use Rattle.checks.specs.HeldTables.{AreHeldBy, IsTableBy}
use Rattle.reads.specs.Tables.{NumberedContents}
use Rattle.compact.specs.OneThread.{Answer}
use Rattle.compact.specs.declared.settings.Settings.{Settings}
use Rattle.store.specs.InputsCompaction.{IsPickedAnswer}
use Rattle.store.specs.PickedOutcome.{IsPickedCompacted}
use Rattle.store.proofs.InstallPart.{still}
use Rattle.levels.specs.PartsEnd.{IsOutcomeWritten, IsPartWritten, IsRefusedFor, IsTakenIn}
use Rattle.levels.specs.declared.part_writer.WrittenParts.{WrittenParts}
use Rattle.levels.proofs.Ends.{ended_calls}
use Rattle.levels.proofs.FewOutputs.{first_told}

no_ok : {T : Type 0} (q : Result T Fault) (e : Fault) (P : Type 0) → IsErrAnd q (λ f. f ≡ e) → OnOk q P
no_ok (Ok x) e P h = absurd h
no_ok (Err f) e P h = tt

-- no tables are held
pub held_none : (cmp : List ℕ → List ℕ → Ordering) (tells : List ℕ → Option (List ℕ) → Type 0) (held : List NumberedContents) → held ≡ [] → AreHeldBy cmp tells held
held_none cmp tells held none = subst (AreHeldBy cmp tells) (sym none) (All-nil (λ (t : NumberedContents). IsTableBy cmp tells t.number t.contents))

pub unnumbered : (last : ℕ) → 2 ^ 64 ≤ last + 1 → nat_lt last (2 ^ 64 - 1) ≡ false
unnumbered last h = grind (arith, nat_tests, h)

pub numbered : (last first : ℕ) → first ≡ last + 1 → last + 1 < 2 ^ 64 → nat_lt last (2 ^ 64 - 1) ≡ true
numbered last first is small = grind (arith, nat_tests, is, small)

module _ {F X : Type 0} (g : Ghosts F) (a : Answer) (bytes : AreBytes a.edit) (before after : WrittenParts) (old new : F) (q : Result X Fault) where
  -- they were written, and memory ran out then
  pub made_untaken : {Y : Type 0} (r : Result Y Fault) (y : Y) (e : Fault) → r ≡ Ok y → e ≡ fault Memory → IsErrAnd q (λ f. f ≡ e) → MakesCalls (table_calls (a.tables ∷ [])) (g.calls old) (g.calls new) (g.tells old) (g.tells new) r → IsOutcomeWritten g a before after old new q
  made_untaken {Y = Y} r y e was memory is runs = inr (record {
    runs = ended_calls (λ f. f ≡ e) (table_calls (a.tables ∷ [])) (g.calls old) (g.calls new) (g.tells old) (g.tells new) y q is (subst (λ (x : Result Y Fault). MakesCalls (table_calls (a.tables ∷ [])) (g.calls old) (g.calls new) (g.tells old) (g.tells new) x) was runs);
    refused = handed q is;
    taken = no_ok q e (IsTakenIn before after a) is;
    bytes = bytes;
  })
    where
      handed : (p : Result X Fault) → IsErrAnd p (λ f. f ≡ e) → IfErr p (λ f. UnlessMemory f (IsStopped (g.failed old) (g.failed new) f))
      handed (Ok x) h = absurd h
      handed (Err f) h = subst (λ (d : Fault). UnlessMemory d (IsStopped (g.failed old) (g.failed new) d)) (sym (h ∙ memory)) tt

-- they were written, and the part is taken in
pub made_done : {F X Y : Type 0} (g : Ghosts F) (a : Answer) → AreBytes a.edit → (before after : WrittenParts) (old new : F) (r : Result Y Fault) (y : Y) (x : X) → r ≡ Ok y → MakesCalls (table_calls (a.tables ∷ [])) (g.calls old) (g.calls new) (g.tells old) (g.tells new) r → IsTakenIn before after a
    → IsOutcomeWritten {X = X} g a before after old new (Ok x)
made_done {Y = Y} g a bytes before after old new r y x was runs taken =
    let k : MakesCalls {E = Fault} (table_calls (a.tables ∷ [])) (g.calls old) (g.calls new) (g.tells old) (g.tells new) (Ok y) = subst (λ (z : Result Y Fault). MakesCalls (table_calls (a.tables ∷ [])) (g.calls old) (g.calls new) (g.tells old) (g.tells new) z) was runs in
    inr (record {
      runs = record { steps = k.steps; made = k.made; appended = k.appended; change = k.change };
      refused = tt;
      taken = taken;
      bytes = bytes;
    })

-- ---- a part

module _ {F X : Type 0} (g : Ghosts F) (cmp : List ℕ → List ℕ → Ordering) (short_keys : ShortKeys) (v : State) (s : Settings) (p : PickedInputs) (before after : WrittenParts) (old mid new : F) (q : Result X Fault) where
  -- no number is left
  pub part_unnumbered : old ≡ new → nat_lt before.last (2 ^ 64 - 1) ≡ false → IsErrAnd q (λ f. f ≡ fault Numbers) → IsPartWritten g cmp short_keys v s p before after old new q
  part_unnumbered same none is = inl (record {
    nothing = record {
      calls = ap g.calls (sym same);
      same = subst (λ (x : F). TellsSame (g.tells old) (g.tells x)) same (λ name held. ((λ h. h), (λ h. h)));
      refused = no_ok q (fault Numbers) ⊥ is;
    };
    why = λ files told. by files q is;
  })
    where
      by : (files : Files) (r : Result X Fault) → IsErrAnd r (λ f. f ≡ fault Numbers) → IfErr r (λ e. UnlessMemory e (IsStopped (g.failed old) (g.failed new) e ⊎ IsRefusedFor cmp short_keys files v s before.last p e))
      by files (Ok x) h = absurd h
      by files (Err e) h = subst (λ (d : Fault). UnlessMemory d (IsStopped (g.failed old) (g.failed new) d ⊎ IsRefusedFor cmp short_keys files v s before.last p d)) (sym h) (inr (inl (none, refl)))

  -- it is refused
  pub part_refused : (e : Fault) → nat_lt before.last (2 ^ 64 - 1) ≡ true → IsErrAnd q (λ f. f ≡ e) → OnlyReads g old new
      → ((files : Files) → Tells (g.tells old) files → UnlessMemory e (IsStopped (g.failed old) (g.failed new) e ⊎ IsPickedAnswer (Some (before.last + 1)) cmp short_keys files v s p (Err e))) → IsPartWritten g cmp short_keys v s p before after old new q
  part_refused e left is reads why = inl (record {
    nothing = record { calls = reads.calls; same = reads.same; refused = no_ok q e ⊥ is };
    why = λ files told. by files q is (why files told);
  })
    where
      by : (files : Files) (r : Result X Fault) → IsErrAnd r (λ f. f ≡ e) → UnlessMemory e (IsStopped (g.failed old) (g.failed new) e ⊎ IsPickedAnswer (Some (before.last + 1)) cmp short_keys files v s p (Err e))
          → IfErr r (λ e. UnlessMemory e (IsStopped (g.failed old) (g.failed new) e ⊎ IsRefusedFor cmp short_keys files v s before.last p e))
      by files (Ok x) h given = absurd h
      by files (Err d) h given = subst (λ (x : Fault). UnlessMemory x (IsStopped (g.failed old) (g.failed new) x ⊎ IsRefusedFor cmp short_keys files v s before.last p x)) (sym h)
          (unless_from e (IsStopped (g.failed old) (g.failed new) e ⊎ IsPickedAnswer (Some (before.last + 1)) cmp short_keys files v s p (Err e)) (IsStopped (g.failed old) (g.failed new) e ⊎ IsRefusedFor cmp short_keys files v s before.last p e)
          (λ x. elim x [ inl stop ↦ inl stop | inr answer ↦ inr (inr (left, answer)) ]) given)

  stopped_since : (before middle now : ℕ) (r : Result X Fault) → before ≤ middle → middle ≤ now → IfErr r (λ f. UnlessMemory f (IsStopped middle now f)) → IfErr r (λ f. UnlessMemory f (IsStopped before now f))
  stopped_since before middle now (Ok x) one two given = tt
  stopped_since before middle now (Err e) one two given = unless_from e (IsStopped middle now e) (IsStopped before now e) (λ s. (s.0, failed_since before middle now one two s.1)) given

  -- its outcome was written
  pub part_done : (a : Answer) → IsPickedCompacted (Some (before.last + 1)) cmp short_keys (g.tells old) v s p a → IsInternalKey p.pointer.key → OnlyReads g old mid → g.failed old ≤ g.failed mid → g.failed mid ≤ g.failed new
      → IsOutcomeWritten g a before after mid new q → IsPartWritten g cmp short_keys v s p before after old new q
  part_done a compacted pointer reads one two (inl (many, nothing)) =
      let few = (first_told cmp short_keys v compacted.loaded p s (before.last + 1) a compacted.answered).few in
      absurd (omega (arith, few, many))
  part_done a compacted pointer reads one two (inr made) = inr (record {
    answer = a;
    compacted = compacted;
    pointer = pointer;
    made = record {
      runs = record {
        steps = made.runs.steps;
        made = made.runs.made;
        appended = made.runs.appended ∙ ap (λ (t : List Step). t ++ made.runs.steps) reads.calls;
        change = λ view tells. made.runs.change view (still (g.tells old) (g.tells mid) reads.same view.files tells);
      };
      refused = stopped_since (g.failed old) (g.failed mid) (g.failed new) q one two made.refused;
      taken = made.taken;
      bytes = made.bytes;
    };
  })
