use Rattle.std.proofs.Common.{length, ap, ◌∙◌}
use Rattle.edit.proofs.Places.{view_length}
use Rattle.edit.proofs.files.Files.len.Goals as goal

pub returns : goal.returns
returns c = c.len.ensures.len ∙ view_length c.self.inside.files.items c.self.inside.places.entries c.self.invariant ∙ ap length c.self.view_is
