use Rattle.std.proofs.Common.{◌≡◌, true}
use Rattle.block.proofs.Checks.{is_block, points_at, no_parts, parts_sound}
use Rattle.block.proofs.sound_block.check.Goals as goal

pub returns-in_default-clause-only : goal.returns-in_default-clause-only
returns-in_default-clause-only c entries h = absurd (no_parts c.args.bytes.now entries h c.in_default.ensures.none)

pub returns-then-not-are_entries-clause-only : goal.returns-then-not-are_entries-clause-only
returns-then-not-are_entries-clause-only c entries h =
    let sound = parts_sound c.args.bytes.now c.in-Some.parts.area.now c.in-Some.parts.restarts.now entries h c.in-Some.ensures.found in
    let yes : c.are_entries.result ≡ true = c.are_entries.ensures.1 sound.0 in
    absurd cc

pub returns-clause-found : goal.returns-clause-found
returns-clause-found c =
    is_block c.args.bytes.now c.in-Some.parts.area.now c.in-Some.parts.restarts.now c.in-Some.ensures.found (c.are_entries.ensures.0 c.if-not-are_entries.false)

pub returns-clause-places : goal.returns-clause-places
returns-clause-places c =
    points_at c.args.bytes.now c.in-Some.parts.area.now c.in-Some.parts.restarts.now c.in-Some.ensures.found (c.are_entries.ensures.0 c.if-not-are_entries.false)

pub returns-clause-only : goal.returns-clause-only
returns-clause-only c entries h =
    (parts_sound c.args.bytes.now c.in-Some.parts.area.now c.in-Some.parts.restarts.now entries h c.in-Some.ensures.found).1
