-- Files that are removed and told, one after the other.
use Rattle.std.proofs.Common.{◌≡◌, ℕ, List, [], ◌∷◌, ◌++◌, map, Option, Result, Ok, Err, IsErrAnd, refl, sym, ap, subst, ◌∙◌, inl, inr, append_assoc}
use Rattle.std.proofs.lemmas.List.{append-nil, map-append}
use Rattle.folder.specs.Calls.{Call, Created, Done, FolderSynced, Removed, Renamed, Step, Synced, TellsAfter, Tried, Written, step_of}
use Rattle.folder.specs.CallSequence.{AreMadeBy}
use Rattle.folder.specs.declared.folder.FolderFault.{FolderFault}
use Rattle.folder.proofs.RunLemmas.{changes_then, made_behind, made_front}
use Rattle.install.specs.ToldNames.{AreTold}
use Rattle.install.specs.Removal.{IsToldRemoval, removal_calls, removed_by}
use Rattle.install.proofs.Changes.{change_by}

told_then : {W : Type 0} (tells : W → List ℕ → W → Type 0) (a b : List (List ℕ)) (x y z : W) → AreTold tells x a y → AreTold tells y b z → AreTold tells x (a ++ b) z
told_then tells [] b x y z h k = let same : y ≡ x = h in subst (λ w. AreTold tells w b z) same k
told_then tells (name ∷ a) b x y z h k = (h.0, h.1, told_then tells a b h.0 y z h.2 k)

removed_append : (a b : List Step) → removed_by (a ++ b) ≡ removed_by a ++ removed_by b
removed_append [] b = refl
removed_append (Done (Removed name) ∷ a) b = ap (λ (names : List (List ℕ)). name ∷ names) (removed_append a b)
removed_append (Done (Created name bytes) ∷ a) b = removed_append a b
removed_append (Done (Written files) ∷ a) b = removed_append a b
removed_append (Done (Synced name) ∷ a) b = removed_append a b
removed_append (Done (Renamed from to) ∷ a) b = removed_append a b
removed_append (Done FolderSynced ∷ a) b = removed_append a b
removed_append (Tried call ∷ a) b = removed_append a b

module _ {W : Type 0} (tells : W → List ℕ → W → Type 0) where
  -- no call
  pub run_empty : {T E : Type 0} (before : List Step) (old : List ℕ → Option (List ℕ) → Type 0) (told : W) (x : T) → IsToldRemoval {E = E} tells [] (change_by before before old old) told told (Ok x)
  run_empty before old told x = record {
    runs = record { steps = []; made = refl; appended = sym (append-nil before); change = λ s h. (s, refl, h) };
    told_all = refl;
  }

  -- a call that was done, and told
  pub run_removed : {T E : Type 0} (name : List ℕ) (before after : List Step) (old new : List ℕ → Option (List ℕ) → Type 0) (told now : W) (x : T) → after ≡ before ++ Done (Removed name) ∷ [] → TellsAfter (Done (Removed name)) old new
      → tells told name now → IsToldRemoval {E = E} tells (Removed name ∷ []) (change_by before after old new) told now (Ok x)
  run_removed name before after old new told now x is change h = record {
    runs = record {
      steps = Done (Removed name) ∷ [];
      made = refl;
      appended = is;
      change = λ s t. let y = change s t in (y.0, (y.0, y.1, refl), y.2);
    };
    told_all = (now, h, refl);
  }

  -- a call that failed
  pub run_failed : {U G : Type 0} (P : G → Type 0) (call : Call) (before after : List Step) (old new : List ℕ → Option (List ℕ) → Type 0) (told : W) (r : Result U G) → IsErrAnd r P → after ≡ before ++ Tried call ∷ [] → TellsAfter (Tried call) old new
      → IsToldRemoval tells (call ∷ []) (change_by before after old new) told told r
  run_failed P call before after old new told (Ok x) h is change = absurd h
  run_failed P call before after old new told (Err e) h is change = record {
    runs = record {
      steps = Tried call ∷ [];
      made = inr (inl refl);
      appended = is;
      change = λ s t. let y = change s t in (y.0, (y.0, y.1, refl), y.2);
    };
    told_all = refl;
  }

  -- a sync of the folder
  pub run_synced : {T : Type 0} (before after : List Step) (old new : List ℕ → Option (List ℕ) → Type 0) (told : W) (r : Result T FolderFault) → after ≡ before ++ step_of FolderSynced r ∷ [] → TellsAfter (step_of FolderSynced r) old new
      → IsToldRemoval tells (FolderSynced ∷ []) (change_by before after old new) told told r
  run_synced before after old new told (Ok x) is change = record {
    runs = record {
      steps = Done FolderSynced ∷ [];
      made = refl;
      appended = is;
      change = λ s t. let y = change s t in (y.0, (y.0, y.1, refl), y.2);
    };
    told_all = refl;
  }
  run_synced before after old new told (Err e) is change = run_failed (λ _. Unit {0}) FolderSynced before after old new told (Err e) tt is change

  made_then : {U G : Type 0} (calls more : List Call) (one two : List Step) (r : Result U G) → one ≡ map Done calls → AreMadeBy more two r → AreMadeBy (calls ++ more) (one ++ two) r
  made_then calls more one two (Ok y) h k = ap (λ (t : List Step). t ++ two) h ∙ (ap (λ (t : List Step). map Done calls ++ t) k ∙ sym (map-append Done calls more))
  made_then calls more one two (Err f) h k = rw h (made_behind calls more two k)

  -- the next calls after the first
  pub run_then : {T E U G : Type 0} (calls more : List Call) (before middle after : List Step) (old between new : List ℕ → Option (List ℕ) → Type 0) (told then now : W) (x : T) (r : Result U G)
      → IsToldRemoval {E = E} tells calls (change_by before middle old between) told then (Ok x) → IsToldRemoval tells more (change_by middle after between new) then now r → IsToldRemoval tells (calls ++ more) (change_by before after old new) told now r
  run_then {E = E} calls more before middle after old between new told then now x r h k = record {
    runs = record {
      steps = h.runs.steps ++ k.runs.steps;
      made = made_then calls more h.runs.steps k.runs.steps r h.runs.made k.runs.made;
      appended = k.runs.appended ∙ (ap (λ (t : List Step). t ++ k.runs.steps) h.runs.appended ∙ append_assoc before h.runs.steps k.runs.steps);
      change = changes_then h.runs.steps k.runs.steps old between new h.runs.change k.runs.change;
    };
    told_all = subst (λ (names : List (List ℕ)). AreTold tells told names now) (sym (removed_append h.runs.steps k.runs.steps))
        (told_then tells (removed_by h.runs.steps) (removed_by k.runs.steps) told then now h.told_all k.told_all);
  }

  -- what failed among the first calls failed among all
  pub run_handed : {T E U G : Type 0} (P : G → Type 0) (calls more : List Call) (before after : List Step) (old new : List ℕ → Option (List ℕ) → Type 0) (told now : W) (e : E) (r : Result U G) → IsErrAnd r P
      → IsToldRemoval {T = T} tells calls (change_by before after old new) told now (Err e) → IsToldRemoval tells (calls ++ more) (change_by before after old new) told now r
  run_handed P calls more before after old new told now e (Ok x) k h = absurd k
  run_handed P calls more before after old new told now e (Err f) k h = record {
    runs = record { steps = h.runs.steps; made = made_front calls more h.runs.steps h.runs.made; appended = h.runs.appended; change = h.runs.change };
    told_all = h.told_all;
  }

  -- an answer that says as much
  pub run_as : {T E U G : Type 0} (calls : List Call) (before after : List Step) (old new : List ℕ → Option (List ℕ) → Type 0) (told now : W) (x : T) (y : U) → IsToldRemoval {E = E} tells calls (change_by before after old new) told now (Ok x)
      → IsToldRemoval {E = G} tells calls (change_by before after old new) told now (Ok y)
  run_as calls before after old new told now x y h = record {
    runs = record { steps = h.runs.steps; made = h.runs.made; appended = h.runs.appended; change = h.runs.change };
    told_all = h.told_all;
  }

  -- a refusal that says as much
  pub run_err : {T E U G : Type 0} (P : G → Type 0) (calls : List Call) (before after : List Step) (old new : List ℕ → Option (List ℕ) → Type 0) (told now : W) (e : E) (r : Result U G) → IsErrAnd r P
      → IsToldRemoval {T = T} tells calls (change_by before after old new) told now (Err e) → IsToldRemoval tells calls (change_by before after old new) told now r
  run_err P calls before after old new told now e (Ok x) k h = absurd k
  run_err P calls before after old new told now e (Err f) k h = record {
    runs = record { steps = h.runs.steps; made = h.runs.made; appended = h.runs.appended; change = h.runs.change };
    told_all = h.told_all;
  }

  pub run_same : {T E : Type 0} (calls others : List Call) (before after : List Step) (old new : List ℕ → Option (List ℕ) → Type 0) (told now : W) (r : Result T E) → calls ≡ others → IsToldRemoval tells calls (change_by before after old new) told now r
      → IsToldRemoval tells others (change_by before after old new) told now r
  run_same calls others before after old new told now r same h = subst (λ (c : List Call). IsToldRemoval tells c (change_by before after old new) told now r) same h

  -- a removal that failed among all
  pub all_handed : {T E U G : Type 0} (P : G → Type 0) (names : List (List ℕ)) (before after : List Step) (old new : List ℕ → Option (List ℕ) → Type 0) (told now : W) (e : E) (r : Result U G) → IsErrAnd r P
      → IsToldRemoval {T = T} tells (map Removed names) (change_by before after old new) told now (Err e) → IsToldRemoval tells (removal_calls names) (change_by before after old new) told now r
  all_handed {T = T} P [] before after old new told now e r k h = run_handed {T = T} P [] [] before after old new told now e r k h
  all_handed {T = T} P (name ∷ names) before after old new told now e r k h = run_handed {T = T} P (map Removed (name ∷ names)) (FolderSynced ∷ []) before after old new told now e r k h

  -- there was no file
  pub none_removed : {T E U G : Type 0} (names : List (List ℕ)) (before after : List Step) (old new : List ℕ → Option (List ℕ) → Type 0) (told now : W) (x : T) (y : U) → names ≡ []
      → IsToldRemoval {E = E} tells (map Removed names) (change_by before after old new) told now (Ok x) → IsToldRemoval {E = G} tells (removal_calls names) (change_by before after old new) told now (Ok y)
  none_removed {E = E} {G = G} [] before after old new told now x y is h = run_as {E = E} {G = G} [] before after old new told now x y h
  none_removed {E = E} {G = G} (name ∷ names) before after old new told now x y is h = absurd (cc is)

  -- a sync of the folder after removals
  pub all_synced : {T E U G : Type 0} (names : List (List ℕ)) (before middle after : List Step) (old between new : List ℕ → Option (List ℕ) → Type 0) (told then now : W) (x : T) (r : Result U G) → (names ≡ [] → ⊥)
      → IsToldRemoval {E = E} tells (map Removed names) (change_by before middle old between) told then (Ok x) → IsToldRemoval tells (FolderSynced ∷ []) (change_by middle after between new) then now r → IsToldRemoval tells (removal_calls names) (change_by before after old new) told now r
  all_synced [] before middle after old between new told then now x r some h k = absurd (some refl)
  all_synced {E = E} (name ∷ names) before middle after old between new told then now x r some h k = run_then {E = E} (map Removed (name ∷ names)) (FolderSynced ∷ []) before middle after old between new told then now x r h k
