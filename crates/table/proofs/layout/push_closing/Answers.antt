use Rattle.std.proofs.Common.{◌++◌, ℕ, List, length, ap, ◌∙◌}
use Rattle.block.specs.BlockFormat.{block}
use Rattle.block.specs.BuilderView.{BlockBuilding}
use Rattle.table.specs.Trailer.{stored_block}
use Rattle.table.proofs.Indexes.{closing_written}
use Rattle.table.proofs.Refused.{OnOk-map}
use Rattle.table.proofs.layout.push_closing.Goals as goal

pub returns-clause-ok : goal.returns-clause-ok
returns-clause-ok c =
    let out : List ℕ = c.args.out.now.items in
    let a : List ℕ = c.push_stored-2.new.out.items in
    let one = c.requires in
    let none = c.new.ensures in
    let first = c.in_ok-metaindex.ensures.ok ∙ ap (λ (b : BlockBuilding). out ++ stored_block (block b.interval b.entries)) none in
    let first_at = c.in_ok-metaindex.ensures.handle ∙ ap (λ (b : BlockBuilding). record { offset = length out; size = length (block b.interval b.entries) }) none in
    let second = c.in_ok-index.ensures.ok ∙ ap (λ (n : ℕ). a ++ stored_block (block n c.args.index.now.entries)) one in
    let second_at = c.in_ok-index.ensures.handle ∙ ap (λ (n : ℕ). record { offset = length a; size = length (block n c.args.index.now.entries) }) one in
    OnOk-map c.push.result _ _ (λ e. e ∙ closing_written out a c.push_stored-3.new.out.items c.args.index.now.entries c.in_ok-metaindex.metaindex c.in_ok-index.index first first_at second second_at) c.push.ensures.ok
