use Rattle.std.proofs.Common.{refl}
use Rattle.folder.proofs.CrashLemmas.{left_reads, shown_left}
use Rattle.folder.specs.Crash.{open_world}
use Rattle.folder.proofs.folder_answer_laws.crash_laws.Goals as goal

pub returns : goal.returns
returns c = record {
  shown = λ steps s last h. (open_world last, shown_left steps s last h, refl);
  left = left_reads;
}
