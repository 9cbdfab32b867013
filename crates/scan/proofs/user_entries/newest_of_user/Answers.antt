use Rattle.std.proofs.Common.{◌≡◌, ℕ, List, ap, sym, subst, ◌∙◌}
use Rattle.std.specs.Option.{option_map}
use Rattle.table.proofs.Binds.{ok_is}
use Rattle.table.proofs.Keys.{kind_of-internal_key, sequence_of-internal_key, user_of-internal_key}
use Rattle.table.specs.Key.{internal_key, kind_of, sequence_of, user_of}
use Rattle.reads.specs.kind.Kind.TheVariants.{Put}
use Rattle.reads.specs.Visible.{IsAnswer, visible_of}
use Rattle.scan.proofs.Giving.{gives_from}
use Rattle.scan.proofs.user_entries.newest_of_user.Goals as goal

pub newest_in_file-requires : goal.newest_in_file-requires
newest_in_file-requires g c =
    let made : c.as_key.result.bytes.now ≡ internal_key c.args.user.now c.args.at Put = c.as_key.ensures ∙ sym (ok_is _ _ c.in_ok-target.ensures) in
    ap kind_of made ∙ kind_of-internal_key c.args.user.now c.args.at Put c.requires.sequence_fits

pub returns-clause-given : goal.returns-clause-given
returns-clause-given g c table held read size =
    let made : c.as_key.result.bytes.now ≡ internal_key c.args.user.now c.args.at Put = c.as_key.ensures ∙ sym (ok_is _ _ c.in_ok-target.ensures) in
    let user : user_of c.as_key.result.bytes.now ≡ c.args.user.now = ap user_of made ∙ user_of-internal_key c.args.user.now c.args.at Put in
    let at : sequence_of c.as_key.result.bytes.now ≡ c.args.at = ap sequence_of made ∙ sequence_of-internal_key c.args.user.now c.args.at Put c.requires.sequence_fits in
    gives_from c.newest_in_file.result _ _
    (λ found h. subst (λ (n : ℕ). IsAnswer table.entries c.args.user.now n (option_map visible_of found)) at (subst (λ (u : List ℕ). IsAnswer table.entries u (sequence_of c.as_key.result.bytes.now) (option_map visible_of found)) user h))
    (c.newest_in_file.ensures.given table held read size)
