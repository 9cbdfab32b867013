use Rattle.std.proofs.Common.{◌≡◌, false, List, ℕ, Option, Some, sym, subst, ◌∙◌, rules}
use Rattle.std.specs.Option.{option_map}
use Rattle.ikey.specs.declared.kind.Kind.TheVariants.{Put}
use Rattle.table.specs.Key.{internal_key}
use Rattle.table.proofs.Binds.{ok_is}
use Rattle.merge.specs.CursorsLeft.{is_before, LosesOnly}
use Rattle.merge.proofs.LeftEntries.{leaves_all}
use Rattle.merge.proofs.Sought.{sought_leaves}
use Rattle.merge.proofs.range_start.seek_user.Goals as goal

pub returns-in_default-clause-left : goal.returns-in_default-clause-left
returns-in_default-clause-left g c = λ fit. leaves_all (is_before g.C.Comparator.cmp (option_map (λ key. key.now) c.args.user) false) (g.S.Entries.remaining c.args.cursor.now)

pub returns-then-user-gt-MAX_USER_KEY-clause-left : goal.returns-then-user-gt-MAX_USER_KEY-clause-left
returns-then-user-gt-MAX_USER_KEY-clause-left g c = λ fit. leaves_all (is_before g.C.Comparator.cmp (option_map (λ key. key.now) c.args.user) false) (g.S.Entries.remaining c.args.cursor.now)

pub returns-in_err-first-clause-left : goal.returns-in_err-first-clause-left
returns-in_err-first-clause-left g c = λ fit. leaves_all (is_before g.C.Comparator.cmp (option_map (λ key. key.now) c.args.user) false) (g.S.Entries.remaining c.args.cursor.now)

pub returns-clause-left : goal.returns-clause-left
returns-clause-left g c =
    let cmp = g.C.Comparator.cmp in
    let olds = g.S.Entries.remaining c.args.cursor.now in
    let news = g.S.Entries.remaining c.seek.new.self in
    let bound : option_map (λ key. key.now) c.args.user ≡ Some c.in-Some.user.now = search rules in
    let target : c.as_key.result.bytes.now ≡ internal_key c.in-Some.user.now 72057594037927935 Put = c.as_key.ensures ∙ sym (ok_is _ _ c.in_ok-first.ensures) in
    λ fit. subst (λ (b : Option (List ℕ)). LosesOnly (is_before cmp b false) olds news) (sym bound)
    (sought_leaves cmp c.in-Some.user.now c.as_key.result.bytes.now target olds news c.seek.result c.seek.ensures.ok c.seek.ensures.err fit)
