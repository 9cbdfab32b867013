use Rattle.table.proofs.Handles.{handle_read}
use Rattle.table.proofs.Stored.{stored_again, only_stored}
use Rattle.table.proofs.Footers.{footer_again}
use Rattle.table.proofs.parts_law.parts_read_back.Goals as goal

pub returns-clause-handle : goal.returns-clause-handle
returns-clause-handle c = handle_read

pub returns-clause-stored : goal.returns-clause-stored
returns-clause-stored c = stored_again

pub returns-clause-only_stored : goal.returns-clause-only_stored
returns-clause-only_stored c = only_stored

pub returns-clause-footer : goal.returns-clause-footer
returns-clause-footer c = footer_again
