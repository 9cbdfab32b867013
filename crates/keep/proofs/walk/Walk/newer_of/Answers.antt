use Rattle.std.proofs.Common.{ℕ, List, [], sym, ap, ◌∙◌}
use Rattle.std.specs.Prelude.{nat_eq}
use Rattle.std.specs.List.{common_prefix_len}
use Rattle.ikey.specs.Key.{user_of}
use Rattle.reads.specs.BuilderView.{last_key}
use Rattle.keep.specs.Versions.{last_version, newer_of}
use Rattle.keep.specs.WalkedRange.{WalkedRange}
use Rattle.keep.proofs.walk.Walk.newer_of.Goals as goal

pub newer_of-requires-clause-shared : goal.newer_of-requires-clause-shared
newer_of-requires-clause-shared c =
    c.requires
    ∙ ap (λ (w : WalkedRange). common_prefix_len nat_eq (last_key [] w.run.kept) c.args.key.bytes.now) (sym c.self.view_is)
    ∙ ap (λ (kept : List ℕ). common_prefix_len nat_eq kept c.args.key.bytes.now) (sym c.last_key.ensures.value)

pub newer_of-requires-clause-tagged : goal.newer_of-requires-clause-tagged
newer_of-requires-clause-tagged c = λ kept. c.last_key.ensures.tagged (c.self.invariant kept)

pub returns : goal.returns
returns c =
    c.newer_of.ensures
    ∙ ap (λ (kept : List ℕ). newer_of (last_version kept c.self.inside.last) (user_of c.args.key.bytes.now)) c.last_key.ensures.value
    ∙ ap (λ (w : WalkedRange). newer_of w.last (user_of c.args.key.bytes.now)) c.self.view_is
