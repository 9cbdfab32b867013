use Rattle.std.proofs.Common.{◌≡◌, [], ◌∷◌, List, Err, sym, subst}
use Rattle.std.proofs.lemmas.Result.{err_from_is_err_and}
use Rattle.ikey.specs.Answers.{EqualOrMemory, UnlessMemory}
use Rattle.ikey.specs.fault.Fault.{Fault}
use Rattle.block.specs.EncodedEntry.{Entry}
use Rattle.ikey.specs.Bytewise.{bytewise_cmp}
use Rattle.merge.specs.Union.{IsUnion}
use Rattle.pairing.specs.Blocks.{IsBlocksAnswer, IsUnionAnswer, counted_block}
use Rattle.pairing.specs.TestedUnion.{tested_entries}
use Rattle.pairing.specs.declared.tested_entry.TestedEntry.{TestedEntry}
use Rattle.pairing.proofs.FileAnswers.{blocks_counted, blocks_merged, union_refused}
use Rattle.pairing.proofs.two_blocks.blocks.Goals as goal

-- what is said of slices is said of what they are of
at_lists : (xs xs' ys ys' : List TestedEntry) (P : List Entry → List Entry → Type 0) → xs ≡ xs' → ys ≡ ys' → P (tested_entries xs) (tested_entries ys) → P (tested_entries xs') (tested_entries ys')
at_lists xs xs' ys ys' P p q h = subst (λ (t : List TestedEntry). P (tested_entries t) (tested_entries ys')) p (subst (λ (t : List TestedEntry). P (tested_entries xs) (tested_entries t)) q h)

pub returns-in_err-entries-clause-answer : goal.returns-in_err-entries-clause-answer
returns-in_err-entries-clause-answer g c =
    let p = err_from_is_err_and c.from_residual-in_err-entries.result c.from_residual-in_err-entries.ensures.1 in
    let e : Fault = c.in_err-entries.field-0.0 in
    let none = at_lists c.deref.result.now c.in_ok-entries_a.entries_a.items c.deref-2.result.now c.in_ok-entries_b.entries_b.items (λ a b. UnlessMemory e (IsUnionAnswer a b (Err e))) c.deref.ensures.value c.deref-2.ensures.value c.in_err-entries.ensures in
    let answer = union_refused c.args.a.now c.args.b.now (tested_entries c.in_ok-entries_a.entries_a.items) (tested_entries c.in_ok-entries_b.entries_b.items) e c.in_ok-entries_a.ensures.answer c.in_ok-entries_b.ensures.answer none in
    rw (p.1) (subst (λ (f : Fault). UnlessMemory f (IsBlocksAnswer c.args.a.now c.args.b.now (Err f))) (sym p.2) answer)

pub returns-clause-answer : goal.returns-clause-answer
returns-clause-answer g c =
    let union : List Entry = tested_entries c.in_ok-entries.entries.items in
    let is = at_lists c.deref.result.now c.in_ok-entries_a.entries_a.items c.deref-2.result.now c.in_ok-entries_b.entries_b.items (λ a b. IsUnion bytewise_cmp (a ∷ b ∷ []) union) c.deref.ensures.value c.deref-2.ensures.value c.in_ok-entries.ensures in
    let given = subst (λ (ts : List TestedEntry). EqualOrMemory (λ r. (r.0, r.1.items)) c.counted.result (counted_block (tested_entries ts))) c.deref-3.ensures.value c.counted.ensures in
    blocks_counted c.args.a.now c.args.b.now (tested_entries c.in_ok-entries_a.entries_a.items) (tested_entries c.in_ok-entries_b.entries_b.items) union c.counted.result c.in_ok-entries_a.ensures.answer c.in_ok-entries_b.ensures.answer is given

pub returns-clause-merged : goal.returns-clause-merged
returns-clause-merged g c =
    let union : List Entry = tested_entries c.in_ok-entries.entries.items in
    let is = at_lists c.deref.result.now c.in_ok-entries_a.entries_a.items c.deref-2.result.now c.in_ok-entries_b.entries_b.items (λ a b. IsUnion bytewise_cmp (a ∷ b ∷ []) union) c.deref.ensures.value c.deref-2.ensures.value c.in_ok-entries.ensures in
    let given = subst (λ (ts : List TestedEntry). EqualOrMemory (λ r. (r.0, r.1.items)) c.counted.result (counted_block (tested_entries ts))) c.deref-3.ensures.value c.counted.ensures in
    blocks_merged c.args.a.now c.args.b.now (tested_entries c.in_ok-entries_a.entries_a.items) (tested_entries c.in_ok-entries_b.entries_b.items) union c.counted.result c.in_ok-entries_a.ensures.found c.in_ok-entries_b.ensures.found is given
