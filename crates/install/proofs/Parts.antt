-- The parts of an installation, one after the other.
use Rattle.std.proofs.Common.{◌≡◌, ℕ, List, ◌++◌, Option, Result, Ok, Err, IsErrAnd}
use Rattle.edit.specs.fault.Fault.{Fault}
use Rattle.folder.specs.Calls.{Call, Step}
use Rattle.folder.specs.CallSequence.{MakesCalls}
use Rattle.folder.proofs.RunLemmas.{runs_none, runs_stopped, runs_then}
use Rattle.install.specs.Install.{write_calls}

-- calls that were all made
abbrev pub RunsWhole : List Call → List Step → List Step → (List ℕ → Option (List ℕ) → Type 0) → (List ℕ → Option (List ℕ) → Type 0) → Type 0
RunsWhole calls before after old new = MakesCalls {T = Unit {0}} {E = Fault} calls before after old new (Ok tt)

-- a call's failure that `?` hands on
pub hands_stopped : {T E U G : Type 0} (P : G → Type 0) (calls more : List Call) (before after : List Step) (old new : List ℕ → Option (List ℕ) → Type 0) (e : E) (r : Result U G) → IsErrAnd r P
    → MakesCalls {T = T} calls before after old new (Err e) → MakesCalls (calls ++ more) before after old new r
hands_stopped P calls more before after old new e (Ok x) h k = absurd h
hands_stopped P calls more before after old new e (Err f) h k = runs_stopped calls more before after old new e f k

-- a failure before the first call
pub hands_none : {U G : Type 0} (P : G → Type 0) (calls : List Call) (before : List Step) (tells : List ℕ → Option (List ℕ) → Type 0) (r : Result U G) → IsErrAnd r P → MakesCalls calls before before tells tells r
hands_none P calls before tells (Ok x) h = absurd h
hands_none P calls before tells (Err f) h = runs_none calls before tells f

-- whatever the value is, all were made
pub runs_whole : {T E : Type 0} (calls : List Call) (before after : List Step) (old new : List ℕ → Option (List ℕ) → Type 0) (x : T) → MakesCalls {E = E} calls before after old new (Ok x) → RunsWhole calls before after old new
runs_whole calls before after old new x h = record { steps = h.steps; made = h.made; appended = h.appended; change = h.change }

-- calls that are the same
pub runs_same : {T E : Type 0} (calls others : List Call) (before after : List Step) (old new : List ℕ → Option (List ℕ) → Type 0) (r : Result T E) → calls ≡ others → MakesCalls calls before after old new r → MakesCalls others before after old new r
runs_same calls others before after old new r same h = rw (← same) h

-- a file under another spelling of its name, with its bytes
pub same_writes : (a b x y : List ℕ) → a ≡ b → x ≡ y → write_calls a x ≡ write_calls b y
same_writes a b x y one two = cc

-- what was made so far, if a later one fails before its first call
pub hands_behind : {U G : Type 0} (P : G → Type 0) (calls more : List Call) (before after : List Step) (old new : List ℕ → Option (List ℕ) → Type 0) (r : Result U G) → IsErrAnd r P
    → RunsWhole calls before after old new → MakesCalls (calls ++ more) before after old new r
hands_behind P calls more before after old new r h k = runs_then {E = Fault} calls more before after after old new new tt r k (hands_none P more after new r h)
