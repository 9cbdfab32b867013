use Rattle.adoption.proofs.adopted_edit.counted_edit.Goals as goal

pub returns-clause-levels : goal.returns-clause-levels
returns-clause-levels c = record { pointers = c.requires.pointers; deleted = c.requires.deleted; added = c.requires.added }
