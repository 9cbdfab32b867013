-- The compaction of all levels, step by step.
use Rattle.std.proofs.Common.{List, Option, subst, sym, ℕ, ◌≡◌}
use Rattle.folder.specs.Answers.{UnlessMemory, fault}
use Rattle.folder.specs.Folder.{TellsSame}
use Rattle.folder.specs.fault.Fault.{Fault}
use Rattle.folder.specs.fault.FaultName.TheVariants.{Memory}

pub same_tells : (tells : List ℕ → Option (List ℕ) → Type 0) → TellsSame tells tells
same_tells tells name bytes = (λ h. h, λ h. h)

-- Memory needs no reason
pub by_memory : (e : Fault) (P : Fault → Type 0) → e ≡ fault Memory → UnlessMemory e (P e)
by_memory e P is = subst (λ (x : Fault). UnlessMemory x (P x)) (sym is) tt
