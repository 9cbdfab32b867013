-- A fragment of the code as contracts see it.
use Rattle.logrec.specs.LogReader.{FragmentReading}
use Rattle.logrec.specs.declared.log_reader.Fragment.{Fragment}

-- a fragment by its bytes
abbrev pub fragment_view : Fragment → FragmentReading
fragment_view f = record { kind = f.kind; content = f.content.now; rest = f.rest.now }
