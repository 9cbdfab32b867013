use Rattle.refusals.proofs.manifest_refusal.edits_seen.Given as goal

abbrev pub decreases-loop-seen : goal.decreases-loop-seen
decreases-loop-seen l = l.records.left
