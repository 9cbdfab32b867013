-- What a labour states of its jobs, and what a run answers.
use Rattle.std.specs.Prelude.{◌≡◌, ℕ, ◌<◌, List, Option, None, Some, length, slice_index_or}
use Rattle.coding.specs.declared.fault.Fault.{Fault}
use Rattle.coding.specs.declared.fault.FaultName.TheVariants.{Workers as NamedWorkers}
use Rattle.coding.specs.declared.fault.FaultName.TheVariants.{Memory as NamedMemory}
use Rattle.coding.specs.Answers.{UnlessMemory, fault}
use Rattle.board.specs.declared.pool.RunFault.{RunFault}

-- a fault of the job: the one that the labour states, or Memory
abbrev pub IsFaultOf : (ℕ → Option Fault) → ℕ → Fault → Type 0
IsFaultOf refusal job e = UnlessMemory e (refusal job ≡ Some e)

-- why a run has no results, as the fault of a call that made it
abbrev pub fault_of_run : RunFault → Fault
fault_of_run (RunFault.Job job e) = e
fault_of_run RunFault.Workers = fault NamedWorkers
fault_of_run RunFault.Memory = fault NamedMemory

module _ {O : Type 0} (refusal : ℕ → Option Fault) (gives : ℕ → O → Type 0) where
  -- a result of the job, as the labour states it
  abbrev pub IsResult : ℕ × O → Type 0
  IsResult r = (refusal r.0 ≡ None) × gives r.0 r.1

  -- one result for each job, at the job's number
  pub record AreResults (jobs : ℕ) (outs : List O) : Type 0 where
    pub len : length outs ≡ jobs
    pub each : (i : ℕ) (d : O) → i < jobs → IsResult (i, slice_index_or outs i d)

  -- One of the jobs, with a fault of it. Each job before it has a result, so the labour states no
  -- fault of those.
  pub record IsRefused (jobs job : ℕ) (e : Fault) : Type 0 where
    pub within : job < jobs
    pub before : (i : ℕ) → i < job → (out : O) × IsResult (i, out)
    pub refused : IsFaultOf refusal job e
