use Rattle.std.proofs.Common.{ℕ, List, map, Result, Ok, sym, ap, ◌∙◌, arith}
use Rattle.std.proofs.lemmas.List.{take_all}
use Rattle.ikey.specs.fault.Fault.{Fault}
use Rattle.c_api.specs.Requests.{no_table}
use Rattle.c_api.proofs.Tested.{tables_more}
use Rattle.c_api.proofs.request_calls.no_tables.Goals as goal

pub loop-file-preserved : goal.loop-file-preserved
loop-file-preserved c =
    tables_more c.loop-file.tables.items c.push.new.self.items c.empty_table.result c.args.files.now c.loop-file.file-index c.loop-file-test.true c.in_ok-push.ensures.items c.loop-file.invariant c.empty_table.ensures

pub returns : goal.returns
returns c =
    let ok : List (List ℕ) → Result (List (List ℕ)) Fault = λ tables. Ok tables in
    ap ok (sym (c.loop-file.invariant ∙ ap (map no_table) (take_all c.loop-file.file-index c.args.files.now (omega arith))))
