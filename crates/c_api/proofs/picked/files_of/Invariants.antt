use Rattle.std.proofs.Common.{◌≡◌, ◌++◌, drop}
use Rattle.c_api.specs.Requests.{files_of}
use Rattle.c_api.proofs.picked.files_of.Given as goal

abbrev pub invariant-loop-input : goal.invariant-loop-input
invariant-loop-input l =
    l.files.items ++ files_of (drop l.input-index l.inputs) ≡ files_of l.inputs
