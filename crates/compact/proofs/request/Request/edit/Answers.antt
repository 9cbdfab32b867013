use Rattle.std.proofs.Common.{◌≡◌, rules, [], ◌∷◌}
use Rattle.pick.specs.PickedInputs.{picked_in}
use Rattle.compact.specs.EditOf.{deletions_of}
use Rattle.compact.proofs.EditLevels.{levels_of}
use Rattle.compact.proofs.request.Request.edit.Goals as goal

pub returns-clause-levels : goal.returns-clause-levels
returns-clause-levels c levels low =
    let deleted : c.in_ok-deleted.deleted.keys ≡ deletions_of c.args.self.now.picked.now.files.items = search rules in
    let pointers : c.push.new.self.items ≡ record { level = c.args.self.now.picked.now.level; key = c.args.self.now.picked.now.pointer.key } ∷ [] = search rules in
    levels_of (picked_in c.args.self.now.picked.now) _ levels pointers deleted low
