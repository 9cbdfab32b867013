use Rattle.std.proofs.Common.{◌∙◌, BTreeMap, Result, IfOk, subst, ℕ, ap, fold}
use Rattle.std.specs.BTreeMap.{IsFromIterResult}
use Rattle.std.specs.Ordering.{nat_cmp}
use Rattle.std.proofs.lemmas.Iterator.Adapters.{YieldsList-from_vec, fact_from_collect}
use Rattle.edit.specs.FilePlaces.{with_place}
use Rattle.edit.proofs.Together.{together_is}
use Rattle.edit.proofs.file_insertion.insert_together.Goals as goal

pub returns-clause-ok : goal.returns-clause-ok
returns-clause-ok c =
    let entries = c.in_ok-entries.entries.items in
    let made = fact_from_collect (IsFromIterResult {X = ℕ} nat_cmp) c.collect.result c.collect.ensures.ran (YieldsList-from_vec entries c.into_iter.ensures.rest (c.into_iter.ensures.len ∙ c.in_ok-entries.entries.ok.0)) in
    together_is c.args.places.now c.in_ok-new.new c.append.new.self entries c.requires.ordered (subst (λ (r : Result (BTreeMap ℕ ℕ) _). IfOk r (IsFromIterResult nat_cmp entries)) c.in_ok-new.was made) c.in_ok-append.ensures.inserts_all
    ∙ ap (fold with_place c.args.places.now.entries) c.in_ok-entries.ensures.ok
