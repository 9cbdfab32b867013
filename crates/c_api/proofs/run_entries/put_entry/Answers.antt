use Rattle.std.proofs.Common.{◌+◌, List, ℕ, length, ap, ◌∙◌}
use Rattle.std.specs.Simd.Lanes.{put_chunk}
use Rattle.c_api.proofs.RunWrites.{put_more}
use Rattle.c_api.proofs.run_entries.put_entry.Goals as goal

pub returns-clause-written : goal.returns-clause-written
returns-clause-written c =
    c.put_at-2.ensures ∙ ap (λ (r : List ℕ). put_chunk (c.args.at + length c.args.key.now) r c.args.value.now) c.put_at.ensures
    ∙ put_more c.args.at c.args.room.now c.args.key.now c.args.value.now
