use Rattle.std.proofs.Common.{rules}
use Rattle.ikey.specs.Comparator.{IsBetween}
use Rattle.ikey.specs.Order.{internal_cmp}
use Rattle.ikey.specs.ShortenedKeys.{internal_separator_of}
use Rattle.ikey.proofs.Answered.{IfOk-EqualOrMemory}
use Rattle.ikey.proofs.Shortened.{internal_separator_of-between}
use Rattle.ikey.proofs.short_keys.internal_separator.Goals as goal

pub returns-then-is_eq-clause-separator : goal.returns-then-is_eq-clause-separator
unfolding internal_separator_of
returns-then-is_eq-clause-separator g c = search rules

pub returns-then-is_eq-clause-between : goal.returns-then-is_eq-clause-between
returns-then-is_eq-clause-between g c h =
    IfOk-EqualOrMemory (IsBetween (internal_cmp g.C.Comparator.cmp) c.args.a.bytes.now c.args.b.bytes.now) c.of.result _ (returns-then-is_eq-clause-separator g c)
    (internal_separator_of-between g.C.Comparator.cmp g.met.C.Comparator.total g.C.Comparator.short_keys.separator g.met.C.Comparator.between c.args.a.bytes.now c.args.b.bytes.now h)

pub returns-clause-separator : goal.returns-clause-separator
unfolding internal_separator_of
returns-clause-separator g c = search rules

pub returns-clause-between : goal.returns-clause-between
returns-clause-between g c h =
    IfOk-EqualOrMemory (IsBetween (internal_cmp g.C.Comparator.cmp) c.args.a.bytes.now c.args.b.bytes.now) c.shorten.result _ (returns-clause-separator g c)
    (internal_separator_of-between g.C.Comparator.cmp g.met.C.Comparator.total g.C.Comparator.short_keys.separator g.met.C.Comparator.between c.args.a.bytes.now c.args.b.bytes.now h)
