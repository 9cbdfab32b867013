use Rattle.disk.proofs.PartLemmas.{counted_part}
use Rattle.disk.proofs.disk.DiskFolder.read_part.Goals as goal

pub returns-clause-held : goal.returns-clause-held
returns-clause-held g c = counted_part c.args.name.now c.args.offset c.args.len c.part_in-answer.result c.counted.result c.part_in-answer.ensures c.counted.ensures.value
