use Rattle.std.proofs.Common.{ℕ, Some, ap, ◌∙◌}
use Rattle.keep.specs.Versions.{StoredVersion}
use Rattle.keep.proofs.last_version.LastVersion.pass.Goals as goal

pub returns : goal.returns
returns c =
    let passed : ℕ → StoredVersion → StoredVersion = λ n v. record { is_kept = v.is_kept; user = v.user; sequence = Some n } in
    ap (λ (v : StoredVersion). passed c.sequence.result v) c.self.view_is
    ∙ ap (λ (n : ℕ). passed n c.args.self.now) c.sequence.ensures.value
