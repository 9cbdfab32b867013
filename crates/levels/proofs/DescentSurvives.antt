-- What a crash leaves of compactions of levels, one after the other.
use Rattle.std.proofs.Common.{◌≡◌, ◌⊎◌, ℕ, List, [], ◌∷◌, Bool, Some, None, Option, Result, Ok, Err, OnOk, refl, sym, ap, subst, ◌∙◌, inl, inr}
use Rattle.edit.proofs.Edits.{one_edit}
use Rattle.edit.specs.Answers.{◌>>=◌}
use Rattle.edit.specs.fault.Fault.{Fault}
use Rattle.edit.specs.Version.{State, applied_by}
use Rattle.folder.proofs.Binds.{ok_is}
use Rattle.folder.specs.Calls.{Step}
use Rattle.folder.specs.Crash.{LeavesOnly, World}
use Rattle.folder.specs.Manifest.{order_name}
use Rattle.folder.specs.declared.folder.Folder.{Ghosts}
use Rattle.folder.specs.declared.order.Order.{Order}
use Rattle.install.specs.ReadsOf.{NamedVersion}
use Rattle.folder.specs.CallSequence.{MakesCalls}
use Rattle.folder.specs.Orders.{order_cmp}
use Rattle.install.specs.FolderChange.{change_of}
use Rattle.install.specs.ObsoleteFile.{AreObsolete, IsObsoleteFile}
use Rattle.install.specs.Removal.{removal_calls}
use Rattle.install.specs.Work.{Cleared, IsSettledEnd, WorkLink, WorkSurvives, place_at}
use Rattle.install.proofs.WorkRows.{leaves_then}
use Rattle.store.specs.Cleaning.{CleanTeller, IsCleaned, IsListRemoved, named_version}
use Rattle.store.specs.FolderRequest.{manifest_of}
use Rattle.store.specs.OpenedAfter.{IsOpenedAfter}
use Rattle.store.specs.declared.compaction_step.CompactionStep.{CompactionStep}
use Rattle.levels.specs.DescentRuns.{AreLinksMade, DescentLink, IsLinkInstalled, IsStopTold}
use Rattle.levels.specs.LevelMade.{At, IsMadeTold, way_by}
use Rattle.levels.specs.declared.selection.Selection.{Selection}
use Rattle.compact.specs.declared.settings.Settings.{Settings}
use Rattle.levels.specs.Survival.{AreSurvived, DescentsSurvive, HeldVersion, IsNumbered, LeavesEither, LevelsSurvive, ReadsHeld, StandsHeld}
use Rattle.levels.specs.declared.descent_end.DescentEnd.{DescentEnd}
use Rattle.levels.proofs.StepSurvives.{either, kept}
use Rattle.levels.proofs.WholeWork.{done_of, done_runs}
use Rattle.std.specs.List.{All}
use Rattle.std.proofs.lemmas.List.Elements.{All-cons, All-nil}
use Rattle.levels.proofs.OpenedNext.{opened}

-- ---- one edit makes one version

never : (o : Order) (w : State) (m : ℕ) (e : Fault) → opened o w m ≡ Err e → ⊥
never o w m e h = cc h

one_opened : (order : Order) (v : State) (bytes : List ℕ) (a b : Order × State × ℕ) → IsOpenedAfter order v bytes (Ok a) → IsOpenedAfter order v bytes (Ok b) → a ≡ b
one_opened order v bytes a b (Err d, (h, is)) k = absurd (never a.0 a.1 a.2 d is)
one_opened order v bytes a b (Ok e, (h, is)) (Err d, (k, other)) = absurd (never b.0 b.1 b.2 d other)
one_opened order v bytes a b (Ok e, (h, is)) (Ok f, (k, other)) =
    let same = one_edit bytes e f h k in
    ok_is a b (is ∙ ap (λ (x : _). applied_by (order_name order) v x >>= λ w. opened order w (manifest_of v)) same ∙ sym other)

-- ---- a removal

all_obsolete : (cmp : List ℕ → List ℕ → _) (v : State) (manifest : ℕ) (names removed : List (List ℕ)) → AreObsolete cmp v manifest names removed → All (IsObsoleteFile cmp v manifest) removed
all_obsolete cmp v manifest [] removed h = subst (All (IsObsoleteFile cmp v manifest)) (sym h) (All-nil (IsObsoleteFile cmp v manifest))
all_obsolete cmp v manifest (name ∷ names) removed (inl (is, (rest, same, h))) = subst (All (IsObsoleteFile cmp v manifest)) (sym same) (All-cons (IsObsoleteFile cmp v manifest) name rest is (all_obsolete cmp v manifest names rest h))
all_obsolete cmp v manifest (name ∷ names) removed (inr (other, h)) = all_obsolete cmp v manifest names removed h

module _ {F W : Type 0} (g : Ghosts F) (by : CleanTeller W) (work : WorkSurvives g) (levels : LevelsSurvive g) where
  record Cleans (v : HeldVersion) (start : World) (old new : F) : Type 0 where
    stays : LeavesOnly start (g.calls old) (g.calls new) (ReadsHeld v)
    stands : StandsHeld v start (g.calls new)

  nothing_cleaned : (v : HeldVersion) (start : World) (old new : F) → g.calls new ≡ g.calls old → StandsHeld v start (g.calls old) → Cleans v start old new
  nothing_cleaned v start old new same stands = record {
    stays = subst (λ (c : List Step). LeavesOnly start (g.calls old) c (ReadsHeld v)) (sym same) (kept g work v start old stands);
    stands = subst (StandsHeld v start) (sym same) stands;
  }

  -- names that were removed
  module _ (v : HeldVersion) (start : World) (old new : F) (removed : List (List ℕ)) (obsolete : All (IsObsoleteFile (order_cmp v.named.order) v.named.version v.named.manifest) removed) where
    link : WorkLink F
    link = record { piece = Cleared removed; to = record { folder = new; place = place_at v.named } }

    settled : (r : Result (Unit {0}) Fault) → IsSettledEnd r (link ∷ [])
    unfolding link
    settled (Ok u) = tt
    settled (Err e) = tt

    names_cleaned : {T : Type 0} (r : Result T Fault) → MakesCalls (removal_calls removed) (g.calls old) (g.calls new) (g.tells old) (g.tells new) r → StandsHeld v start (g.calls old) → Cleans v start old new
    unfolding link
    names_cleaned r runs stands =
        let law = work old link.to v.named v.tables (done_of r) (link ∷ []) start
        (record { goes = (refl, refl, obsolete); runs = done_runs (removal_calls removed) (g.calls old) (g.calls new) (g.tells old) (g.tells new) r runs }, refl) stands in
        record {
          stays = record { steps = law.0.steps; all = law.0.all; each = λ sofar moment files left. elim (law.0.each sofar moment files left) [ inl x ↦ x | inr x ↦ x ] };
          stands = law.1 (settled (done_of r));
        }

  cleaned : {T : Type 0} (v : HeldVersion) (start : World) (old new : F) (told told_now : W) (IsAsTold : Bool → T → Type 0) (r : Result T Fault) → IsCleaned by v.named (change_of g old new) told told_now IsAsTold r → StandsHeld v start (g.calls old) → Cleans v start old new
  cleaned {T = T} v start old new told told_now IsAsTold r h stands = of h.names h.removal
    where
      of : (names : Option (List (List ℕ))) → IsListRemoved by v.named (change_of g old new) h.listed told_now IsAsTold names r → Cleans v start old new
      of None none = nothing_cleaned v start old new none.0.calls stands
      of (Some names) (inl none) = nothing_cleaned v start old new none.0.calls stands
      of (Some names) (inr (last, some, ended)) = names_cleaned v start old new some.removed (all_obsolete (order_cmp v.named.order) v.named.version v.named.manifest names some.removed some.obsolete) r some.run.runs stands

  -- ---- a row

  module _ (selection : Selection) (s : Settings) (bottom : ℕ) (start : World) where
    -- a compaction that was told
    record Linked (v : HeldVersion) (at : At F W) (l : DescentLink F W) : Type 0 where
      tables : List (ℕ × List ℕ)
      numbered : IsNumbered l.next
      leaves : LeavesEither v (record { named = named_version v.named.order l.next (manifest_of v.named.version); tables = tables }) start (g.calls at.folder) (g.calls l.installed.folder)
      stands : StandsHeld (record { named = named_version v.named.order l.next (manifest_of v.named.version); tables = tables }) start (g.calls l.installed.folder)

    linked : (v : HeldVersion) (at : At F W) (l : DescentLink F W) → IsNumbered v.named.version → IsLinkInstalled g by (way_by selection v.named.order s bottom) v.named.version at l → StandsHeld v start (g.calls at.folder) → Linked v at l
    linked v at l is h stands =
        let law = levels selection l.level s v at.folder l.installed.folder (Ok l.step) start is h.run stands in
        let next = law.0 in
        let same = one_opened v.named.order v.named.version l.step.edit.items (next.named.order, next.named.version, next.named.manifest) (v.named.order, l.next, manifest_of v.named.version) law.3.1 h.edited in
        let named : next.named ≡ named_version v.named.order l.next (manifest_of v.named.version) = ap (λ (t : Order × State × ℕ). named_version t.0 t.1 t.2) same in
        record {
          tables = next.tables;
          numbered = subst IsNumbered (ap (λ (n : NamedVersion). n.version) named) law.3.0;
          leaves = subst (λ (n : NamedVersion). LeavesEither v (record { named = n; tables = next.tables }) start (g.calls at.folder) (g.calls l.installed.folder)) named law.1;
          stands = subst (λ (n : NamedVersion). StandsHeld (record { named = n; tables = next.tables }) start (g.calls l.installed.folder)) named law.2;
        }

    abbrev held_next : (v : HeldVersion) (at : At F W) (l : DescentLink F W) → Linked v at l → HeldVersion
    held_next v at l x = record { named = named_version v.named.order l.next (manifest_of v.named.version); tables = x.tables }

    survived : (v : HeldVersion) (at end : At F W) (result : Result DescentEnd Fault) (links : List (DescentLink F W)) → IsNumbered v.named.version → AreLinksMade g by (way_by selection v.named.order s bottom) v.named.version at end result links
        → StandsHeld v start (g.calls at.folder) → AreSurvived g v start at end links
    survived v at end result [] is (inl none) stands = (
      v,
      either v v (subst (λ (c : List Step). LeavesOnly start (g.calls at.folder) c (ReadsHeld v)) (sym none.0.calls) (kept g work v start at.folder stands)),
      inl none.0.untold,
    )
    survived v at end result [] is (inr (inl (level, next_level, last))) stands =
        let law = levels selection level s v at.folder end.folder last.made start is last.run stands in
        (law.0, law.1, told last.made last.is_told law.2)
      where
        told : {P : Type 0} (made : Result CompactionStep Fault) → IsMadeTold by.installs at.told end.told IsStopTold made result → OnOk made P → (end.told ≡ at.told) ⊎ P
        told (Ok step) h p = inr p
        told (Err e) h p = inl h.0
    survived v at end result [] is (inr (inr (link, is_end, one, two))) stands =
        let x = linked v at link is one stands in
        let n = held_next v at link x in
        let c = cleaned n start link.installed.folder link.after.folder link.installed.told link.after.told IsStopTold result two x.stands in
        let all : LeavesEither v n start (g.calls at.folder) (g.calls link.after.folder) =
        leaves_then start (g.calls at.folder) (g.calls link.installed.folder) (g.calls link.after.folder) (λ files. ReadsHeld v files ⊎ ReadsHeld n files) (ReadsHeld n) (λ files. ReadsHeld v files ⊎ ReadsHeld n files) (λ files h. h) (λ files h. inr h) x.leaves c.stays in (
          n,
          subst (λ (e : At F W). LeavesEither v n start (g.calls at.folder) (g.calls e.folder)) is_end all,
          inr (subst (λ (e : At F W). StandsHeld n start (g.calls e.folder)) is_end c.stands),
        )
    survived v at end result (l ∷ links) is (one, two, rest) stands =
        let x = linked v at l is one stands in
        let n = held_next v at l x in
        let c = cleaned n start l.installed.folder l.after.folder l.installed.told l.after.told _ (Ok tt) two x.stands in (
          n,
          record { is_next = refl; leaves = x.leaves; installed = x.stands; stays = c.stays; stands = c.stands },
          survived n l.after end result links x.numbered rest c.stands,
        )

pub descents_survive : {F W : Type 0} (g : Ghosts F) (by : CleanTeller W) → WorkSurvives g → LevelsSurvive g → DescentsSurvive g by
descents_survive {F = F} {W = W} g by work levels way v at end result links start same is made stands =
    survived g by work levels way.selection way.settings way.bottom start v at end result links is
    (subst (λ (o : Order). AreLinksMade g by (way_by way.selection o way.settings way.bottom) v.named.version at end result links) (sym same) made) stands
