use Rattle.std.proofs.Common.{◌≡◌, ℕ, ◌∙◌, List, Ok, map, length, ap, subst, arith}
use Rattle.std.proofs.lemmas.List.{length-map}
use Rattle.table.specs.Answers.{EqualOrMemory}
use Rattle.table.proofs.Binds.{ok_is}
use Rattle.split.specs.SplitChoice.{every_of}
use Rattle.split.proofs.Samples.{too_few}
use Rattle.split.proofs.split_choice.sampled_keys.Goals as goal

pub returns : goal.returns
returns c =
    let lists : List (List (List ℕ)) = c.args.lists.now in
    let many : length (every_of 16 lists) ≡ length c.in_ok-sample.sample.items = ap length (ok_is _ _ c.in_ok-sample.ensures) ∙ length-map c.in_ok-sample.sample.items (λ key. key.now) in
    subst (λ (keys : List (List ℕ)). EqualOrMemory (λ keys. map (λ key. key.now) keys.items) c.lent_keys-2.result (Ok keys)) (too_few c.args.want lists (omega arith)) c.lent_keys-2.ensures
