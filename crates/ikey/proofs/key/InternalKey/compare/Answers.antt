use Rattle.std.proofs.Common.{sym, ◌∙◌, rules}
use Rattle.ikey.proofs.Ordered.{internal_cmp-tags, internal_cmp-exact}
use Rattle.ikey.proofs.key.InternalKey.compare.Goals as goal

pub returns-clause-order : goal.returns-clause-order
returns-clause-order g c =
    rw (internal_cmp-tags g.C.Comparator.cmp _ _ c.args.self.now.lawful c.args.other.now.lawful) (search rules)

pub returns-clause-exact : goal.returns-clause-exact
returns-clause-exact g c h =
    internal_cmp-exact g.met.C.Comparator.exact _ _ c.args.self.now.lawful c.args.other.now.lawful (sym (returns-clause-order g c) ∙ h)
