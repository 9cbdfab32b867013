use Rattle.std.proofs.Common.{ℕ, List, Option, Result, Ok, Err, IfOk}
use Rattle.folder_tests.proofs.silent_shelf.SilentShelfFolder.read_part.Goals as goal

-- what holds of a value holds if less is said of it
weaker : {T E : Type 0} (r : Result T E) (P Q : T → Type 0) → ((x : T) → P x → Q x) → IfOk r P → IfOk r Q
weaker (Ok x) P Q f h = f x h
weaker (Err e) P Q f h = tt

pub returns-clause-held : goal.returns-clause-held
returns-clause-held c = weaker c.read_part.result _ _ (λ part told. (told.0, (tt, told.1.1))) c.read_part.ensures.held
