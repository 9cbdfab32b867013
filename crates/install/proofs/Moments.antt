-- Every moment of an installation.
use Rattle.std.proofs.Common.{◌≡◌, ℕ, true, List, [], ◌∷◌, ◌++◌, map, Option, Result, Ok, Err, OnOk, refl, sym, ap, subst, ◌∙◌, inl, inr, append_assoc}
use Rattle.std.proofs.lemmas.List.{append-nil, append_cancel_left, map-append}
use Rattle.std.specs.declared.cmp.Ordering.{Ordering}
use Rattle.edit.specs.Version.{State}
use Rattle.folder.specs.Calls.{Call, Created, Done, Files, FolderView, Step, Synced, Tells}
use Rattle.folder.specs.CallSequence.{AreMade, AreMadeBy, MakesCalls}
use Rattle.folder.specs.Crash.{IsMoment, Leads, LeavesOnly, World, open_world}
use Rattle.folder.specs.FreeNames.{IsFree}
use Rattle.folder.specs.Names.{current_text, manifest_name, temporary_name}
use Rattle.folder.specs.ReadsAs.{ReadsAs, StandsAs}
use Rattle.folder.specs.declared.order.Order.{Order}
use Rattle.folder.proofs.CrashLemmas.{left_reads, shown_left}
use Rattle.folder.proofs.RunLemmas.{made_behind}
use Rattle.folder.proofs.WrittenLemmas.{AllOther, IsShort, file_passed}
use Rattle.install.specs.Install.{IsBeforeOrAfter, current_calls, install_calls, table_calls, temporary_calls, next_version_tables, write_calls}
use Rattle.install.specs.GroupedInstallation.{tables_of_groups}
use Rattle.install.proofs.Outputs.{AreApart, filed, tables_passed}
use Rattle.install.proofs.Switch.{Setting, ends, last_calls}

-- steps that lead on lead to a world between
pub leads_split : (start w : World) (one two : List Step) → Leads start (one ++ two) w → (middle : World) × Leads start one middle × Leads middle two w
leads_split start w [] two l = (start, refl, l)
leads_split start w (step ∷ one) two l = let rest = leads_split l.0 w one two l.2 in (rest.0, (l.0, l.1, rest.1), rest.2)

pub no_moment : (sofar : List Step) → IsMoment [] sofar → sofar ≡ []
no_moment [] h = refl
no_moment (now ∷ sofar) h = absurd h

-- what was done at a moment is a beginning of the calls
pub moment_made : (calls : List Call) (steps sofar : List Step) → AreMade calls steps → IsMoment steps sofar → AreMade calls sofar
moment_made [] steps sofar made h = no_moment sofar (subst (λ (s : List Step). IsMoment s sofar) made h)
moment_made (call ∷ calls) steps [] made h = inl refl
moment_made (call ∷ calls) steps (now ∷ sofar) (inl none') h = absurd (subst (λ (s : List Step). IsMoment s (now ∷ sofar)) none' h)
moment_made (call ∷ calls) steps (now ∷ sofar) (inr (inl one)) h =
    elim (subst (λ (s : List Step). IsMoment s (now ∷ sofar)) one h) [
      | inl a ↦ let none' = no_moment sofar a.1 in inr (inl (rw (a.0, none') refl))
      | inr b ↦ inr (inl (rw (b.0, b.1) refl))
    ]
moment_made (call ∷ calls) steps (now ∷ sofar) (inr (inr more)) h =
    elim (subst (λ (s : List Step). IsMoment s (now ∷ sofar)) more.1 h) [
      | inl a ↦ inr (inr (sofar, rw a.0 refl, moment_made calls more.0 sofar more.2 a.1))
      | inr b ↦ inr (inl (rw (b.0, b.1) refl))
    ]

-- the steps of a function are a beginning of its calls
pub made_by : {T E : Type 0} (calls : List Call) (steps : List Step) (r : Result T E) → AreMadeBy calls steps r → AreMade calls steps
made_by calls steps (Ok x) h =
    let all : AreMade (calls ++ []) (map Done calls ++ []) = made_behind calls [] [] refl in
    rw h (subst (λ (s : List Step). AreMade calls s) (append-nil (map Done calls)) (subst (λ (c : List Call). AreMade c (map Done calls ++ [])) (append-nil calls) all))
made_by calls steps (Err e) h = h

-- the calls of an installation, each part before all that follow
abbrev pub install_chain : ℕ → List (List (ℕ × List ℕ)) → List ℕ → List Call
install_chain number groups manifest = table_calls groups ++ (write_calls (manifest_name number) manifest ++ (temporary_calls number ++ current_calls number))

pub chained : (number : ℕ) (groups : List (List (ℕ × List ℕ))) (manifest : List ℕ) → install_calls number groups manifest ≡ install_chain number groups manifest
chained number groups manifest = append_assoc (table_calls groups) (write_calls (manifest_name number) manifest ++ temporary_calls number) (current_calls number)

-- no two of the names are one, and none is of use to the version before
pub record Apart (cmp : List ℕ → List ℕ → Ordering) (v : State) (outputs : List (ℕ × List ℕ)) (number : ℕ) (manifest : List ℕ) : Type 0 where
  pub outputs_apart : AreApart cmp v outputs []
  pub manifest_free : IsFree cmp v (manifest_name number)
  pub manifest_other : AllOther (manifest_name number) (filed outputs [])
  pub temporary_free : IsFree cmp v (temporary_name number)
  pub temporary_other : AllOther (temporary_name number) ((manifest_name number, manifest) ∷ filed outputs [])

module _ (cmp : List ℕ → List ℕ → Ordering) (order : Order) (v next : State) (tables : List (ℕ × List ℕ)) (groups : List (List (ℕ × List ℕ))) (number : ℕ) (manifest : List ℕ) (setting : (w : World) → StandsAs cmp order v tables w → Setting cmp order v next tables (tables_of_groups groups) number manifest) (apart : Apart cmp v (tables_of_groups groups) number manifest) where
  abbrev outputs : List (ℕ × List ℕ)
  outputs = tables_of_groups groups

  abbrev IsLeft : World → Type 0
  IsLeft w = IsBeforeOrAfter cmp order v tables next (next_version_tables cmp next outputs tables) w.left

  abbrev StandsNext : World → Type 0
  StandsNext w = StandsAs cmp order next (next_version_tables cmp next outputs tables) w

  abbrev all_calls : List Call
  all_calls = install_chain number groups manifest

  short_of : (steps : List Step) (w : World) → StandsAs cmp order v tables w × IsShort steps all_calls → IsLeft w × (steps ≡ map Done all_calls → StandsNext w)
  short_of steps w h = (inl (left_reads cmp order v tables w h.0), λ done. absurd (h.1 done))

  -- Whatever part of the calls was made, a crash leaves one of the two, and after all of them the edited version stands.
  pub installs : (start w : World) (steps : List Step) → StandsAs cmp order v tables start → AreMade all_calls steps → Leads start steps w → IsLeft w × (steps ≡ map Done all_calls → StandsNext w)
  installs start w steps h made l =
      let given = setting start h in
      let m = manifest_name number in
      let t = temporary_name number in
      let rest_two = Created t (current_text number) ∷ Synced t ∷ last_calls cmp order v next tables outputs number manifest given in
      let rest_one = Created m manifest ∷ Synced m ∷ rest_two in
      elim (tables_passed cmp order v tables groups [] rest_one steps start w h apart.outputs_apart tt made l) [
        | inl still ↦ short_of steps w still
        | inr one ↦ elim (file_passed cmp order v tables m manifest rest_two (filed outputs []) one.more one.world w one.stands apart.manifest_free apart.manifest_other one.written one.made one.leads) [
          | inl still ↦ short_of steps w (still.0, behind steps (table_calls groups) rest_one one.more one.whole still.1)
          | inr two ↦ elim (file_passed cmp order v tables t (current_text number) (last_calls cmp order v next tables outputs number manifest given) ((m, manifest) ∷ filed outputs []) two.more two.world w two.stands apart.temporary_free apart.temporary_other two.written two.made two.leads) [
            | inl still ↦ short_of steps w (still.0, behind steps (table_calls groups) rest_one one.more one.whole (behind one.more (Created m manifest ∷ Synced m ∷ []) rest_two two.more two.whole still.1))
            | inr three ↦
                let end = ends cmp order v next tables outputs number manifest given three.world w three.more three.stands three.written three.made three.leads in (
                  end.0,
                  λ done.
                      let a = after steps (table_calls groups) rest_one one.more one.whole done in
                      let b = after one.more (Created m manifest ∷ Synced m ∷ []) rest_two two.more two.whole a in
                      let c = after two.more (Created t (current_text number) ∷ Synced t ∷ []) (last_calls cmp order v next tables outputs number manifest given) three.more three.whole b in
                      end.1 c,
                )
          ]
        ]
      ]
    where
      -- if all calls were done, those after the first were
      after : (steps : List Step) (calls rest : List Call) (more : List Step) → steps ≡ map Done calls ++ more → steps ≡ map Done (calls ++ rest) → more ≡ map Done rest
      after steps calls rest more whole done = append_cancel_left (map Done calls) more (map Done rest) (sym whole ∙ (done ∙ map-append Done calls rest))

      behind : (steps : List Step) (calls rest : List Call) (more : List Step) → steps ≡ map Done calls ++ more → IsShort more rest → IsShort steps (calls ++ rest)
      behind steps calls rest more whole short done = short (after steps calls rest more whole done)

  -- each moment of a run, from any start after which the version before stands
  pub any_moment : {T E : Type 0} (start : World) (before now : List Step) (old new : List ℕ → Option (List ℕ) → Type 0) (r : Result T E) → ((w : World) → Leads start before w → StandsAs cmp order v tables w)
      → MakesCalls all_calls before now old new r → LeavesOnly start before now (IsBeforeOrAfter cmp order v tables next (next_version_tables cmp next outputs tables))
  any_moment start before now old new r stands runs = record {
    steps = runs.steps;
    all = runs.appended;
    each = λ sofar moment files left.
        let split = leads_split start left.0 before sofar left.1 in
        let made = moment_made all_calls runs.steps sofar (made_by all_calls runs.steps r runs.made) moment in
        subst (IsBeforeOrAfter cmp order v tables next (next_version_tables cmp next outputs tables)) (sym left.2) (installs split.0 left.0 sofar (stands split.0 split.1) made split.2).0;
  }

  -- at Ok the edited version stands
  pub stands_installed : {T E : Type 0} (start : World) (before now : List Step) (old new : List ℕ → Option (List ℕ) → Type 0) (r : Result T E) → ((w : World) → Leads start before w → StandsAs cmp order v tables w)
      → MakesCalls all_calls before now old new r → OnOk r ((w : World) → Leads start now w → StandsNext w)
  stands_installed start before now old new (Ok x) stands runs = λ w l.
      let split = leads_split start w before runs.steps (subst (λ (s : List Step). Leads start s w) runs.appended l) in
      (installs split.0 w runs.steps (stands split.0 split.1) (made_by {T = Unit {0}} {E = Unit {0}} all_calls runs.steps (Ok tt) runs.made) split.2).1 runs.made
  stands_installed start before now old new (Err e) stands runs = tt

  -- without a crash one of the two is read, and at Ok the edited version
  pub reads_then : {T E : Type 0} (before now : List Step) (old new : List ℕ → Option (List ℕ) → Type 0) (r : Result T E) → MakesCalls all_calls before now old new r → (files : Files) → Tells old files → ReadsAs cmp order v tables files
      → (files' : Files) × Tells new files' × IsBeforeOrAfter cmp order v tables next (next_version_tables cmp next outputs tables) files' × OnOk r (ReadsAs cmp order next (next_version_tables cmp next outputs tables) files')
  reads_then before now old new r runs files tells reads =
      let s : FolderView = record { files = files; synced = λ name. true } in
      let last = runs.change s tells in
      let stands : StandsAs cmp order v tables (open_world s) = record { reads = reads; settled = λ name rests. record { kept = inl refl; left = refl } } in
      let end = installs (open_world s) (open_world last.0) runs.steps stands (made_by all_calls runs.steps r runs.made) (shown_left runs.steps s last.0 last.1) in
      (last.0.files, last.2, end.0, on_ok r runs.made end.1)
    where
      on_ok : {T E : Type 0} {w : World} (r : Result T E) → AreMadeBy all_calls runs.steps r → (runs.steps ≡ map Done all_calls → StandsNext w) → OnOk r (ReadsAs cmp order next (next_version_tables cmp next outputs tables) w.left)
      on_ok {w = w} (Ok x) made then = left_reads cmp order next (next_version_tables cmp next outputs tables) w (then made)
      on_ok (Err e) made then = tt

-- nothing was done, and the version before stands
pub nothing_done : (cmp : List ℕ → List ℕ → Ordering) (order : Order) (v next : State) (tables tables' : List (ℕ × List ℕ)) (start : World) (before : List Step) → ((w : World) → Leads start before w → StandsAs cmp order v tables w)
    → LeavesOnly start before before (IsBeforeOrAfter cmp order v tables next tables')
nothing_done cmp order v next tables tables' start before stands = record {
  steps = [];
  all = sym (append-nil before);
  each = λ sofar moment files left.
      let none' = no_moment sofar moment in
      let same : before ++ sofar ≡ before = ap (λ (s : List Step). before ++ s) none' ∙ append-nil before in
      let leads = subst (λ (s : List Step). Leads start s left.0) same left.1 in
      inl (subst (ReadsAs cmp order v tables) (sym left.2) (left_reads cmp order v tables left.0 (stands left.0 leads)));
}
