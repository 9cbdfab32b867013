-- The calls that a function makes one after the other.
use Rattle.std.specs.Prelude.{◌≡◌, ◌⊎◌, List, [], ◌∷◌, ◌++◌, map, Result, Ok, Err}
use Rattle.folder.specs.Calls.{Call, Done, FolderView, Shows, Step, Tells, ToldFiles, Tried}

-- The steps of these calls in their order, up to one that failed, or ended earlier without one.
abbrev pub AreMade : List Call → List Step → Type 0
AreMade [] steps = steps ≡ []
AreMade (call ∷ calls) steps = (steps ≡ [])
    ⊎ ((steps ≡ Tried call ∷ [])
    ⊎ ((rest : List Step) × (steps ≡ Done call ∷ rest) × AreMade calls rest))

-- The steps of these calls under a function's answer: at Ok all of them were done.
abbrev pub AreMadeBy : {T E : Type 0} → List Call → List Step → Result T E → Type 0
AreMadeBy calls steps (Ok _) = steps ≡ map Done calls
AreMadeBy calls steps (Err _) = AreMade calls steps

-- what is read after steps, if no crash comes
abbrev pub ShowsAll : List Step → FolderView → FolderView → Type 0
ShowsAll [] s last = last ≡ s
ShowsAll (step ∷ steps) s last = (next : FolderView) × Shows step s next × ShowsAll steps next last

-- what steps change of what a folder tells
abbrev pub TellsThrough : List Step → ToldFiles → ToldFiles → Type 0
TellsThrough steps old new = (s : FolderView) → Tells old s.files →
    (last : FolderView) × ShowsAll steps s last × Tells new last.files

-- A function makes these calls in their order, each once and no others, up to one that fails. At Ok
-- all were done.
pub record MakesCalls {T E : Type 0} (calls : List Call) (before after : List Step)
    (old new : ToldFiles) (result : Result T E) : Type 0 where
  pub steps : List Step
  pub made : AreMadeBy calls steps result
  pub appended : after ≡ before ++ steps
  pub change : TellsThrough steps old new
