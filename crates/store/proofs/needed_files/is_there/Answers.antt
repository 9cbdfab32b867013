use Rattle.std.proofs.Common.{ℕ, ◌∙◌}
use Rattle.std.specs.Global.{Vec}
use Rattle.store.proofs.NamesThere.{part_there}
use Rattle.store.proofs.needed_files.is_there.Goals as goal

pub returns-clause-there : goal.returns-clause-there
returns-clause-there g c files told =
    c.is_some.ensures ∙ part_there (g.F.Folder.tells c.args.folder.now) files c.args.name.now 0 0 (λ (b : Vec ℕ). b.items) c.in_ok-part.part told c.in_ok-part.ensures.held
