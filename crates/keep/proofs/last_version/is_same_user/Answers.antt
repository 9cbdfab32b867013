use Rattle.std.proofs.Common.{◌≡◌, ◌-◌, ℕ, Bool, List, length, sym, ap, ◌∙◌, arith}
use Rattle.std.specs.Prelude.{nat_le, ◌&&◌}
use Rattle.std.proofs.lemmas.Bool.{eq-eqb}
use Rattle.keep.proofs.LastKept.{same_user}
use Rattle.keep.proofs.last_version.is_same_user.Goals as goal

pub returns-then-kept-len : goal.returns-then-kept-len
returns-then-kept-len c =
    let kept : List ℕ = c.args.kept.now in
    let key : List ℕ = c.args.key.bytes.now in
    let long : length kept ≡ length key = omega (arith, c.if-kept-len.true, ap length c.bytes-len.ensures) in
    ap (λ (bytes : List ℕ). nat_le (length bytes - 8) c.args.shared) c.bytes-len.ensures
    ∙ ap (λ (b : Bool). b && nat_le (length key - 8) c.args.shared) (sym (eq-eqb (length kept) (length key) long))
    ∙ same_user kept key c.args.shared c.requires.shared c.requires.tagged c.args.key.lawful.tagged
