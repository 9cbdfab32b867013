use Rattle.std.proofs.Common.{rules, ◌≢◌, Greater}
use Rattle.ikey.specs.Order.{internal_cmp}
use Rattle.ikey.specs.ShortenedKeys.{internal_successor_of}
use Rattle.ikey.proofs.Answered.{IfOk-EqualOrMemory}
use Rattle.ikey.proofs.Shortened.{internal_successor_of-above}
use Rattle.ikey.proofs.short_keys.internal_successor.Goals as goal

pub returns-clause-successor : goal.returns-clause-successor
unfolding internal_successor_of
returns-clause-successor g c = search rules

pub returns-clause-above : goal.returns-clause-above
returns-clause-above g c =
    IfOk-EqualOrMemory (λ own. internal_cmp g.C.Comparator.cmp c.args.key.bytes.now own ≢ Greater) c.shorten.result _ (returns-clause-successor g c)
    (internal_successor_of-above g.C.Comparator.cmp g.met.C.Comparator.total g.C.Comparator.short_keys.successor c.args.key.bytes.now)
