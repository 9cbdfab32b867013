use Rattle.std.proofs.Common.{sym, ap, ◌∙◌}
use Rattle.std.specs.Option.{option_map}
use Rattle.reads.specs.Ranges.{KeyRange}
use Rattle.c_api.proofs.KeyLists.{some_key}
use Rattle.c_api.proofs.key_arrays.boundary.Goals as goal

pub unreachable-requires : goal.unreachable-requires
unreachable-requires g c =
    some_key c.args.split.now c.args.number c.requires
    (sym (ap (λ (r : KeyRange). r.upper) c.range.ensures.bounds) ∙ ap (option_map (λ key. key.now)) c.in-None.is)
