use Rattle.std.proofs.Common.{ℕ, true, Some, ap, ◌∙◌}
use Rattle.keep.specs.Versions.{StoredVersion}
use Rattle.keep.proofs.last_version.LastVersion.keep.Goals as goal

pub returns : goal.returns
returns c =
    let kept : ℕ → StoredVersion → StoredVersion = λ n v. record { is_kept = true; user = v.user; sequence = Some n } in
    ap (λ (v : StoredVersion). kept c.sequence.result v) c.self.view_is
    ∙ ap (λ (n : ℕ). kept n c.args.self.now) c.sequence.ensures.value
