use Rattle.std.proofs.Common.{List, length, map, ◌≡◌, ◌+◌, ◌-◌, ◌<◌, arith}
use Rattle.std.proofs.lemmas.List.{length-map}
use Rattle.table.specs.EncodedEntry.{Entry}
use Rattle.merge.proofs.Tournaments.{none_played, played_down, all_played_down}
use Rattle.merge.proofs.tournament.play_matches.Goals as goal

pub loop-node-init : goal.loop-node-init
loop-node-init g c =
    let lists : List (List Entry) = map g.S.Entries.remaining c.args.cursors.now in
    let count : length lists ≡ length c.args.cursors.now = length-map c.args.cursors.now g.S.Entries.remaining in
    record { bracket = c.requires; others = none_played g.C.Comparator.cmp lists c.args.winners.now (length c.args.cursors.now) count; low = omega arith }

pub loop-node-preserved : goal.loop-node-preserved
loop-node-preserved g c =
    let cmp = g.C.Comparator.cmp in
    let lists : List (List Entry) = map g.S.Entries.remaining c.args.cursors.now in
    let count : length lists ≡ length c.args.cursors.now = length-map c.args.cursors.now g.S.Entries.remaining in
    let next : c.loop-node.node ≡ (c.loop-node.node - 1) + 1 = omega (arith, c.loop-node-test.true) in
    let some : 0 < c.loop-node.node - 1 = omega (arith, c.loop-node-test.true) in
    let inner : c.loop-node.node - 1 < length c.args.cursors.now = omega (arith, c.loop-node-test.true, c.loop-node.invariant.low) in
    record {
      bracket = c.play.ensures.bracket;
      others = played_down cmp lists (length c.args.cursors.now) c.loop-node.winners c.play.new.winners c.loop-node.node (c.loop-node.node - 1) next count c.loop-node.invariant.bracket c.loop-node.invariant.others some inner c.play.ensures.played;
      low = omega (arith, c.loop-node.invariant.low);
    }

pub returns-clause-bracket : goal.returns-clause-bracket
returns-clause-bracket g c = c.loop-node.invariant.bracket

pub returns-clause-played : goal.returns-clause-played
returns-clause-played g c =
    all_played_down g.C.Comparator.cmp (map g.S.Entries.remaining c.args.cursors.now) c.loop-node.winners c.loop-node.node c.loop-node.invariant.others c.loop-node-test.false
