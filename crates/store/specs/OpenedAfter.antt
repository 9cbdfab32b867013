-- What a folder is opened as after a compaction.
use Rattle.std.specs.Prelude.{◌≡◌, ℕ, List, Result, Ok, Err}
use Rattle.folder.specs.Answers.{IsThen, ◌>>=◌}
use Rattle.folder.specs.fault.Fault.{Fault}
use Rattle.folder.specs.Edit.{Edit, IsEdit, IsEditRefused}
use Rattle.folder.specs.Version.{State, applied_by}
use Rattle.folder.specs.Manifest.{order_name}
use Rattle.folder.specs.declared.order.Order.{Order}
use Rattle.store.specs.FolderRequest.{manifest_of}

-- the edit that bytes read as, or their refusal
abbrev pub IsEditAnswer : List ℕ → Result Edit Fault → Type 0
IsEditAnswer bytes (Ok edit) = IsEdit bytes edit
IsEditAnswer bytes (Err e) = IsEditRefused bytes e

-- the order, the version after the edit of these bytes, and the number of the manifest that has it;
-- or the refusal of the edit
abbrev pub IsOpenedAfter : Order → State → List ℕ → Result (Order × State × ℕ) Fault → Type 0
IsOpenedAfter order v bytes = IsThen (IsEditAnswer bytes) (λ edit answer.
    answer ≡ (applied_by (order_name order) v edit >>= λ next. Ok (order, next, manifest_of v)))
