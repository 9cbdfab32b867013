use Rattle.block.proofs.Checks.{is_block, points_at, no_parts, parts_sound}
use Rattle.block.proofs.sound_block.reopen.Goals as goal

pub unreachable-requires : goal.unreachable-requires
unreachable-requires c = no_parts c.args.bytes.now c.requires.0 c.requires.1 c.in_default.ensures.none

pub invariant_of-result : goal.invariant_of-result
invariant_of-result c =
    (parts_sound c.args.bytes.now c.in-Some.parts.area.now c.in-Some.parts.restarts.now c.requires.0 c.requires.1 c.in-Some.ensures.found).0

pub returns-clause-found : goal.returns-clause-found
returns-clause-found c =
    is_block c.args.bytes.now c.in-Some.parts.area.now c.in-Some.parts.restarts.now c.in-Some.ensures.found
    (parts_sound c.args.bytes.now c.in-Some.parts.area.now c.in-Some.parts.restarts.now c.requires.0 c.requires.1 c.in-Some.ensures.found).0

pub returns-clause-places : goal.returns-clause-places
returns-clause-places c =
    points_at c.args.bytes.now c.in-Some.parts.area.now c.in-Some.parts.restarts.now c.in-Some.ensures.found
    (parts_sound c.args.bytes.now c.in-Some.parts.area.now c.in-Some.parts.restarts.now c.requires.0 c.requires.1 c.in-Some.ensures.found).0

pub returns-clause-only : goal.returns-clause-only
returns-clause-only c entries h =
    (parts_sound c.args.bytes.now c.in-Some.parts.area.now c.in-Some.parts.restarts.now entries h c.in-Some.ensures.found).1
