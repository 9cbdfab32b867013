use Rattle.logrec.proofs.Readers.{none_read}
use Rattle.logrec.proofs.record_reader.RecordReader.new.Goals as goal

pub returns : goal.returns
returns c = none_read c.args.bytes.now
