use Rattle.std.proofs.Common.{[], ◌∷◌, ◌++◌}
use Rattle.texts.specs.Spelling.{key_text}
use Rattle.answers.proofs.Appended.{appended_on, kept_on}
use Rattle.answers.proofs.scan_row.push_row.Goals as goal

pub returns-in_err-push_value-in-Some-clause-err : goal.returns-in_err-push_value-in-Some-clause-err
returns-in_err-push_value-in-Some-clause-err c =
    let old = c.args.lines.now.items in
    let k = key_text c.args.spelling c.args.key.now in
    let two = appended_on old c.push_key.new.out.items c.push.new.self.items k (32 ∷ []) c.in_ok-push_key-in-Some.ensures.ok c.in_ok-push-in-Some.ensures.items in
    kept_on c.from_residual-in_err-push_value-in-Some.result old (k ++ (32 ∷ [])) c.push.new.self.items c.push_value.new.out.items two c.in_err-push_value-in-Some.ensures.err
