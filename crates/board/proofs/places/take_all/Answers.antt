use Rattle.std.proofs.Common.{◌≡◌, ◌<◌, None, length, get_or, ◌∙◌, sym, ap, subst, arith, rules, length-set, get_or-set_other, length-append, List, ◌∷◌, []}
use Rattle.board.specs.RunAnswer.{IsResult}
use Rattle.board.proofs.ResultPlaces.{not_empty, read_is, holds_more}
use Rattle.board.proofs.places.take_all.Goals as goal

pub unreachable-requires : goal.unreachable-requires
unreachable-requires g c =
    let i = c.loop-i.invariant in
    let lt : c.loop-i.i < length c.loop-i.places.items = search rules in
    let lt' : c.loop-i.i < length c.args.places.items = omega (arith, i.long) in
    not_empty c.loop-i.places.items c.args.places.items c.loop-i.i c.index_mut.result.now lt (i.later c.loop-i.i (omega arith)) (c.requires.each c.loop-i.i lt') c.index_mut.ensures.value c.in_default.ensures.value

pub loop-i-preserved : goal.loop-i-preserved
loop-i-preserved g c =
    let i = c.loop-i.invariant in
    let lt : c.loop-i.i < length c.loop-i.places.items = search rules in
    let read = read_is c.loop-i.places.items c.args.places.items c.loop-i.i c.index_mut.result.now c.in-Some.out lt (i.later c.loop-i.i (omega arith)) c.index_mut.ensures.value c.in-Some.ensures.value in
    let is = c.requires.placed c.loop-i.i c.in-Some.out read in
    let Result = IsResult (g.L.Labour.refusal c.args.labour.now) (g.L.Labour.gives c.args.labour.now) in
    let more = c.push_reserved.ensures.items in record {
      long = length-set c.loop-i.places.items c.loop-i.i c.take.new.self ∙ i.long;
      count = ap length more ∙ omega (arith, length-append c.loop-i.results.items (c.in-Some.out ∷ []), i.count);
      room = omega (arith, i.room, c.push_reserved.ensures.capacity);
      later = λ k le. get_or-set_other c.loop-i.places.items c.loop-i.i k c.take.new.self None (omega arith) ∙ i.later k (omega arith);
      each = λ k d below. subst (λ l. Result (k, get_or l k d)) (sym {A = List g.row.L-Out.Denot} more) (holds_more (λ n o. Result (n, o)) c.loop-i.results.items c.loop-i.i c.in-Some.out i.count i.each is k d below);
    }

pub returns : goal.returns
returns g c =
    let i = c.loop-i.invariant in
    let all : c.loop-i.i ≡ length c.args.places.items = search (rules, i.long) in record {
      len = i.count ∙ all;
      each = λ k d below. i.each k d (omega (arith, all, below));
    }
