-- Calls that a function makes one after the other.
use Rattle.std.proofs.Common.{◌≡◌, ℕ, List, [], ◌∷◌, ◌++◌, map, Option, Result, Ok, Err, refl, sym, ap, ◌∙◌, inl, inr, append_assoc}
use Rattle.std.proofs.lemmas.List.{append-nil, map-append}
use Rattle.folder.specs.Calls.{Call, Done, FolderView, Step, TellsAfter, Tried, step_of}
use Rattle.folder.specs.CallSequence.{AreMade, MakesCalls, ShowsAll, TellsThrough}
use Rattle.folder.specs.declared.folder.FolderFault.{FolderFault}

-- no step is a beginning of any calls
pub made_none : (calls : List Call) → AreMade calls []
made_none [] = refl
made_none (call ∷ calls) = inl refl

-- what was made of the first calls was made of all
pub made_front : (calls more : List Call) (steps : List Step) → AreMade calls steps → AreMade (calls ++ more) steps
made_front [] more steps h = rw h (made_none more)
made_front (call ∷ calls) more steps (inl h) = inl h
made_front (call ∷ calls) more steps (inr (inl h)) = inr (inl h)
made_front (call ∷ calls) more steps (inr (inr h)) = inr (inr (h.0, h.1, made_front calls more h.0 h.2))

-- all of the first calls, and then some of the next
pub made_behind : (calls more : List Call) (steps : List Step) → AreMade more steps → AreMade (calls ++ more) (map Done calls ++ steps)
made_behind [] more steps h = h
made_behind (call ∷ calls) more steps h = inr (inr (map Done calls ++ steps, refl, made_behind calls more steps h))

pub shows_then : (one two : List Step) (s middle last : FolderView) → ShowsAll one s middle → ShowsAll two middle last → ShowsAll (one ++ two) s last
shows_then [] two s middle last a b = let same : middle ≡ s = a in rw (← same) b
shows_then (step ∷ one) two s middle last a b = (a.0, a.1, shows_then one two a.0 middle last a.2 b)

pub changes_then : (one two : List Step) (old middle new : List ℕ → Option (List ℕ) → Type 0) → TellsThrough one old middle → TellsThrough two middle new → TellsThrough (one ++ two) old new
changes_then one two old middle new a b s h =
    let x = a s h in
    let y = b x.0 x.2 in
    (y.0, shows_then one two s x.0 y.0 x.1 y.1, y.2)

-- a function that fails before its first call
pub runs_none : {T E : Type 0} (calls : List Call) (before : List Step) (tells : List ℕ → Option (List ℕ) → Type 0) (e : E) → MakesCalls {T = T} calls before before tells tells (Err e)
runs_none calls before tells e = record {
  steps = [];
  made = made_none calls;
  appended = sym (append-nil before);
  change = λ s h. (s, refl, h);
}

-- a call, whose answer says as much as the function's
pub runs_one : {T : Type 0} (call : Call) (before after : List Step) (old new : List ℕ → Option (List ℕ) → Type 0) (answer : Result T FolderFault) → after ≡ before ++ step_of call answer ∷ [] → TellsAfter (step_of call answer) old new
    → MakesCalls (call ∷ []) before after old new answer
runs_one call before after old new (Ok x) is change = record {
  steps = Done call ∷ [];
  made = refl;
  appended = is;
  change = λ s h. let x = change s h in (x.0, (x.0, x.1, refl), x.2);
}
runs_one call before after old new (Err x) is change = record {
  steps = Tried call ∷ [];
  made = inr (inl refl);
  appended = is;
  change = λ s h. let x = change s h in (x.0, (x.0, x.1, refl), x.2);
}

-- what failed among the first calls failed among all
pub runs_stopped : {T E U G : Type 0} (calls more : List Call) (before after : List Step) (old new : List ℕ → Option (List ℕ) → Type 0) (e : E) (f : G) → MakesCalls {T = T} calls before after old new (Err e) → MakesCalls {T = U} (calls ++ more) before after old new (Err f)
runs_stopped calls more before after old new e f h = record {
  steps = h.steps;
  made = made_front calls more h.steps h.made;
  appended = h.appended;
  change = h.change;
}

-- the next calls after the first
pub runs_then : {T E U G : Type 0} (calls more : List Call) (before middle after : List Step) (old between new : List ℕ → Option (List ℕ) → Type 0) (x : T) (result : Result U G) → MakesCalls {E = E} calls before middle old between (Ok x)
    → MakesCalls more middle after between new result → MakesCalls (calls ++ more) before after old new result
runs_then calls more before middle after old between new x (Ok y) h k = record {
  steps = h.steps ++ k.steps;
  made = ap (λ (t : List Step). t ++ k.steps) h.made ∙ (ap (λ (t : List Step). map Done calls ++ t) k.made ∙ sym (map-append Done calls more));
  appended = k.appended ∙ (ap (λ (t : List Step). t ++ k.steps) h.appended ∙ append_assoc before h.steps k.steps);
  change = changes_then h.steps k.steps old between new h.change k.change;
}
runs_then calls more before middle after old between new x (Err f) h k =
    let first : h.steps ≡ map Done calls = h.made in
    record {
      steps = h.steps ++ k.steps;
      made = rw first (made_behind calls more k.steps k.made);
      appended = k.appended ∙ (ap (λ (t : List Step). t ++ k.steps) h.appended ∙ append_assoc before h.steps k.steps);
      change = changes_then h.steps k.steps old between new h.change k.change;
    }
