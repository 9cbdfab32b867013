use Rattle.std.proofs.Common.{◌<◌, ◌+◌, ◌++◌, List, ℕ, [], ◌∷◌, drop, length, arith, refl, sym, ap, subst, ◌∙◌, take}
use Rattle.folder.specs.Calls.{Call}
use Rattle.install.specs.Install.{table_calls}
use Rattle.store.proofs.GroupRuns.{calls_from, calls_next, calls_split, group_at}
use Rattle.store.proofs.Runs.{run_handed, run_ok, run_same, run_then}
use Rattle.store.proofs.planned_installation.write_groups.Goals as goal

pub returns-in_err-write_encoded : goal.returns-in_err-write_encoded
returns-in_err-write_encoded g c =
    let groups = c.args.planned.now.groups in
    let place = c.loop-place.place in
    let a = c.args.folder.now in
    let b = c.loop-place.folder in
    let n = c.write_encoded.new.folder in
    let r = c.from_residual.result in
    let at = group_at groups place (subst (λ (m : ℕ). place < m) c.len-place-end.ensures c.loop-place-test.true) in
    let rest = table_calls (drop (place + 1) groups) in
    run_same _ (table_calls groups) a n r (ap (λ (t : List Call). table_calls (take place groups) ++ t) (sym (calls_from groups place at.0 at.1)) ∙ calls_split groups place)
    (run_then (table_calls (take place groups)) _ a b n _ tt r refl c.loop-place.invariant.run
    (run_handed (table_calls (at.0 ∷ [])) rest b n c.write_encoded.result c.in_err-write_encoded.field-0.0 r c.in_err-write_encoded.was c.from_residual.ensures.1 (c.write_encoded.ensures at.0 at.1)))

pub loop-place-preserved : goal.loop-place-preserved
loop-place-preserved g c =
    let groups = c.args.planned.now.groups in
    let place = c.loop-place.place in
    let a = c.args.folder.now in
    let b = c.loop-place.folder in
    let n = c.write_encoded.new.folder in
    let within : place < length groups = subst (λ (m : ℕ). place < m) c.len-place-end.ensures c.loop-place-test.true in
    let at = group_at groups place within in
    record {
      within = omega (arith, within);
      run = run_same _ (table_calls (take (place + 1) groups)) a n _ (calls_next groups place at.0 at.1)
          (run_then (table_calls (take place groups)) (table_calls (at.0 ∷ [])) a b n _ tt _ refl c.loop-place.invariant.run
          (run_ok (table_calls (at.0 ∷ [])) b n c.write_encoded.result c.in_ok-write_encoded.field-0 tt c.in_ok-write_encoded.was (c.write_encoded.ensures at.0 at.1)));
    }
