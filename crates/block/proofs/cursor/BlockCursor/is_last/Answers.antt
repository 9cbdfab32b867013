use Rattle.std.proofs.Common.{◌≡◌, [], length, ap, sym, ◌∙◌}
use Rattle.std.proofs.lemmas.Bool.{eqb-true, eq-eqb}
use Rattle.std.proofs.lemmas.List.{nil_from_length}
use Rattle.block.specs.EntriesOfBytes.{entries_of_encoded}
use Rattle.block.proofs.Walks.{none_behind, last_by}
use Rattle.block.proofs.cursor.BlockCursor.is_last.Goals as goal

pub returns : goal.returns
returns c =
    let key = c.self.inside.key in
    let rest = c.self.inside.rest.now in
    let last = last_by c.self.inside.valid _ (entries_of_encoded key rest) c.args.self.now c.self.view_is c.requires in (
      λ h. let none : rest ≡ [] = nil_from_length rest (eqb-true _ _ (sym c.is_empty.ensures ∙ h)) in
          last.0 (ap (entries_of_encoded key) none),
      λ h. c.is_empty.ensures ∙ eq-eqb _ _ (ap length (none_behind key rest c.self.invariant (last.1 h))),
    )
