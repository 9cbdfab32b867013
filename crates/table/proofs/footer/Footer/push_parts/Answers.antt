use Rattle.std.proofs.Common.{◌-◌, ◌∙◌, ap, ◌++◌, List, ℕ, arith}
use Rattle.table.specs.Footer.{magic}
use Rattle.table.proofs.Footers.{length-handles_bytes, handles_len, footer_written}
use Rattle.table.proofs.footer.Footer.push_parts.Goals as goal

pub split_at-requires : goal.split_at-requires
split_at-requires c =
    let len = handles_len c.args.self c.args.out.now.items c.push.new.out.items c.push-2.new.out.items c.in_ok-push.ensures.ok c.in_ok-push-2.ensures.ok in
    omega (arith, len, length-handles_bytes c.args.self)

pub returns-clause-ok : goal.returns-clause-ok
returns-clause-ok c =
    c.in_ok-extend_from_slice-2.ensures.items
    ∙ ap (λ (x : List ℕ). x ++ magic) c.in_ok-extend_from_slice.ensures.items
    ∙ footer_written c.args.self c.args.out.now.items c.push.new.out.items c.push-2.new.out.items c.split_at.result.1.now (c.len.result - c.len-start.result) c.in_ok-push.ensures.ok c.in_ok-push-2.ensures.ok (omega arith) c.split_at.ensures.back
