use Rattle.std.proofs.Common.{ℕ, List, length, get_or, [], sym, ap, subst, ◌∙◌, arith}
use Rattle.table.specs.KeyLists.{cut_at, AreKeyEnds}
use Rattle.table.proofs.KeyLists.{counted}
use Rattle.table.proofs.key_list.KeyList.get.Goals as goal

pub cut-requires-clause-ends : goal.cut-requires-clause-ends
cut-requires-clause-ends c =
    subst (λ (ends : List ℕ). AreKeyEnds 0 ends c.deref.result.now) (sym c.deref-2.ensures.value)
    (subst (λ (bytes : List ℕ). AreKeyEnds 0 c.self.inside.ends.items bytes) (sym c.deref.ensures.value) c.self.invariant)

pub cut-requires-clause-inside : goal.cut-requires-clause-inside
cut-requires-clause-inside c =
    let count = counted 0 c.self.inside.ends.items c.self.inside.bytes.items in
    let seen = ap length c.self.view_is in
    let lent = ap length c.deref-2.ensures.value in
    omega (arith, count, seen, lent, c.requires)

pub returns : goal.returns
returns c =
    c.cut.ensures
    ∙ ap (λ (ends : List ℕ). get_or (cut_at 0 ends c.deref.result.now) c.args.place []) c.deref-2.ensures.value
    ∙ ap (λ (bytes : List ℕ). get_or (cut_at 0 c.self.inside.ends.items bytes) c.args.place []) c.deref.ensures.value
    ∙ ap (λ (keys : List (List ℕ)). get_or keys c.args.place []) c.self.view_is
