use Rattle.std.proofs.Common.{◌≡◌, string_bytes, true, ◌∙◌, ap}
use Rattle.folder.specs.Orders.{order_cmp}
use Rattle.install.proofs.ObsoleteNames.{step_needed, step_obsolete}
use Rattle.install.proofs.obsolete_files.obsolete_names.Goals as goal
use Rattle.install.proofs.obsolete_files.obsolete_names.Goals.{else-branch, then-branch+in_ok-push}

pub loop-name-preserved : goal.loop-name-preserved
loop-name-preserved c =
    let o = c.args.opened.now in
    let names = c.args.names.now in
    let i = c.loop-name.name-index in
    let x = c.name-item.result in
    elim c.if-branch.branch [
      | then-branch+in_ok-push w ↦
          step_obsolete (order_cmp o.order) o.version o.manifest string_bytes names i x c.loop-name.obsolete.items c.if-branch.obsolete.items c.as_str.result w.as_str-then-branch.result c.loop-name-test.true c.name-item.is
          c.as_str.ensures.value w.as_str-then-branch.ensures.value (ap (λ v. v.items) w.obsolete-is ∙ w.in_ok-push.ensures.items) (c.in_ok-test_name.ensures.exact.0 w.if-branch.true) c.loop-name.invariant
      | else-branch w ↦
          step_needed (order_cmp o.order) o.version o.manifest string_bytes names i x c.loop-name.obsolete.items c.if-branch.obsolete.items c.as_str.result c.loop-name-test.true c.name-item.is
          c.as_str.ensures.value (ap (λ v. v.items) w.obsolete-is) (λ o'. let yes' : c.in_ok-test_name.field-0 ≡ true = c.in_ok-test_name.ensures.exact.1 o' in cc (yes', w.if-branch.false)) c.loop-name.invariant
    ]
