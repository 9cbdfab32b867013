use Rattle.scan.proofs.CounterLemmas.{all_counted}
use Rattle.scan.proofs.row_counter.row_count_law.Goals as goal

pub returns : goal.returns
returns c = all_counted
