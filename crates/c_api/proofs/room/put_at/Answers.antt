use Rattle.std.proofs.Common.{◌++◌, List, drop, take, length, sym, ap, ◌∙◌}
use Rattle.std.proofs.lemmas.Simd.{put_chunk_is}
use Rattle.c_api.proofs.room.put_at.Goals as goal

pub returns : goal.returns
returns g c =
    ap (λ (l : List _). c.split_at_mut-rest.result.0.now ++ l) c.fill.ensures
    ∙ ap (λ (l : List _). l ++ (c.args.items.now ++ drop (length c.args.items.now) c.split_at_mut-rest.result.1.now)) c.split_at_mut-rest.ensures.front
    ∙ ap (λ (l : List _). take c.args.at c.args.room.now ++ (c.args.items.now ++ drop (length c.args.items.now) l)) c.split_at_mut-rest.ensures.back
    ∙ sym (put_chunk_is c.args.at c.args.room.now c.args.items.now c.requires)
