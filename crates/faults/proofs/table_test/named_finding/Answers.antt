use Rattle.std.proofs.Common.{◌≡◌, ℕ, false, List, Option, Result, Ok, length, nat_eq, sym, ap, ◌∙◌}
use Rattle.std.specs.Option.{option_map}
use Rattle.table.specs.fault.Fault.{Fault}
use Rattle.faults.specs.Findings.{finding_under}
use Rattle.faults.specs.declared.table_test.TableFinding.{TableFinding}
use Rattle.faults.proofs.LongTables.{long_found, none_found}
use Rattle.faults.proofs.table_test.named_finding.Goals as goal

abbrev answer : Option TableFinding → Result (Option TableFinding) Fault
answer o = Ok o

pub returns-in_default-clause-answer : goal.returns-in_default-clause-answer
returns-in_default-clause-answer g c held told =
    let cmp = g.C.Comparator.cmp in
    let f = c.args.file.now in
    let part = c.in_ok-part.ensures.held in
    let is : held c.args.name.now ≡ part.0 = (told c.args.name.now part.0).0 part.1.0 in
    ap answer (none_found cmp f part.0 (part.1.1 ∙ ap (option_map (λ bytes. bytes.items)) c.in_default.is) ∙ ap (finding_under cmp f) (sym is))

pub returns-then-not-is_empty-clause-answer : goal.returns-then-not-is_empty-clause-answer
returns-then-not-is_empty-clause-answer g c held told =
    let cmp = g.C.Comparator.cmp in
    let f = c.args.file.now in
    let part = c.in_ok-part.ensures.held in
    let is : held c.args.name.now ≡ part.0 = (told c.args.name.now part.0).0 part.1.0 in
    let some : nat_eq (length c.in-Some.part.items) 0 ≡ false = ap (λ (xs : List ℕ). nat_eq (length xs) 0) (sym c.as_slice.ensures.value) ∙ sym c.is_empty.ensures ∙ c.if-not-is_empty.true in
    ap answer (long_found cmp f part.0 c.in-Some.part.items (part.1.1 ∙ ap (option_map (λ bytes. bytes.items)) c.in-Some.is) some ∙ ap (finding_under cmp f) (sym is))
