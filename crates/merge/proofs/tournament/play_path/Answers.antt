use Rattle.std.proofs.Common.{List, [], ℕ, Bool, true, false, cond, length, map, get_or, refl, sym, subst, ◌≡◌, ◌+◌, ◌<◌, ◌/◌, arith, get_or-set_same}
use Rattle.std.proofs.lemmas.List.{length-map}
use Rattle.table.specs.EncodedEntry.{Entry}
use Rattle.merge.specs.Tournament.{first_head, IsWinner}
use Rattle.merge.proofs.Tournaments.{all_played_up, beside_within, path_next}
use Rattle.merge.proofs.tournament.play_path.Goals.{then-wins, else-wins}
use Rattle.merge.proofs.tournament.play_path.Goals as goal

pub loop-node-init : goal.loop-node-init
loop-node-init g c =
    let lists : List (List Entry) = map g.S.Entries.remaining c.args.cursors.now in
    let inner : c.args.place < length lists = omega (arith, c.requires.within, length-map c.args.cursors.now g.S.Entries.remaining) in
    record {
      path = record { bracket = c.requires.bracket; others = c.requires.others; low = omega (arith, c.requires.within) };
      here = sym (c.requires.bracket.leaves c.args.place c.requires.within);
      head = c.requires.heads.each c.args.place inner;
    }

pub loop-node-preserved : goal.loop-node-preserved
loop-node-preserved g c =
    let cmp = g.C.Comparator.cmp in
    let head_of = g.C.Comparator.head_of in
    let lists : List (List Entry) = map g.S.Entries.remaining c.args.cursors.now in
    let number : ℕ = length c.args.cursors.now in
    let count : length lists ≡ number = length-map c.args.cursors.now g.S.Entries.remaining in
    let winners : List ℕ = c.loop-node.winners in
    let node : ℕ = c.loop-node.node in
    let best : ℕ = c.loop-node.best in
    let before = c.loop-node.invariant.path in
    let size : length winners ≡ number + number = before.bracket.size in
    let high : c.beside.result < number + number = beside_within number node c.beside.result c.beside.ensures c.loop-node-test.true before.low in
    let other : ℕ = get_or winners c.beside.result 0 in
    let other_low : other < length lists = subst (λ n. other < n) (sym count) (before.bracket.within c.beside.result (omega (arith, size, high))) in
    let IsDecided = λ (n h : ℕ). IsWinner cmp lists best other n × (h ≡ first_head head_of (get_or lists n [])) in
    let decided : IsDecided c.if-wins.best c.if-wins.best_head =
    elim c.if-wins.branch [
      | then-wins w ↦
          let wins : IsWinner cmp lists best other other = subst (λ (b : Bool). IsWinner cmp lists best other (cond b other best)) w.if-wins.true c.wins.ensures in
          subst (λ n. IsDecided n c.if-wins.best_head) (sym w.best-is) (subst (λ h. IsDecided other h) (sym w.best_head-is) (wins, c.requires.heads.each other other_low))
      | else-wins w ↦
          let wins : IsWinner cmp lists best other best = subst (λ (b : Bool). IsWinner cmp lists best other (cond b other best)) w.if-wins.false c.wins.ensures in
          subst (λ n. IsDecided n c.if-wins.best_head) (sym w.best-is) (subst (λ h. IsDecided best h) (sym w.best_head-is) (wins, c.loop-node.invariant.head))
    ] in
    record {
      path = path_next cmp lists number winners node c.beside.result best other c.if-wins.best count before c.loop-node-test.true c.beside.ensures c.loop-node.invariant.here refl decided.0;
      here = sym (get_or-set_same winners (node / 2) c.if-wins.best 0 (omega (arith, size, before.low)));
      head = decided.1;
    }

pub returns-clause-bracket : goal.returns-clause-bracket
returns-clause-bracket g c = c.loop-node.invariant.path.bracket

pub returns-clause-played : goal.returns-clause-played
returns-clause-played g c =
    all_played_up g.C.Comparator.cmp (map g.S.Entries.remaining c.args.cursors.now) c.loop-node.winners c.loop-node.node c.loop-node.invariant.path.others c.loop-node-test.false
