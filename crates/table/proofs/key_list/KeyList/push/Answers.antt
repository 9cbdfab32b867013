use Rattle.std.proofs.Common.{◌+◌, ◌++◌, ◌∷◌, ℕ, List, length, [], sym, ap, subst, ◌∙◌, arith}
use Rattle.table.specs.KeyLists.{cut_at, AreKeyEnds}
use Rattle.table.proofs.KeyLists.{cut_pushed, ends_pushed}
use Rattle.table.proofs.key_list.KeyList.push.Goals as goal

pub invariant_of-self : goal.invariant_of-self
invariant_of-self c =
    subst (λ (ends : List ℕ). AreKeyEnds 0 ends c.append.new.bytes.items) (sym c.in_err-append.ensures.ends_kept)
    (subst (λ (bytes : List ℕ). AreKeyEnds 0 c.self.inside.ends.items bytes) (sym c.in_err-append.ensures.bytes_kept) c.self.invariant)

pub invariant_of-self-2 : goal.invariant_of-self-2
invariant_of-self-2 c =
    let bytes : List ℕ = c.self.inside.bytes.items in
    let ends : List ℕ = c.self.inside.ends.items in
    let key : List ℕ = c.args.key.now in
    let to : ℕ = length bytes + length key in
    subst (λ (all : List ℕ). AreKeyEnds 0 all c.append.new.bytes.items) (sym c.in_ok-append.ensures.ends)
    (subst (λ (all : List ℕ). AreKeyEnds 0 (ends ++ to ∷ []) all) (sym c.in_ok-append.ensures.bytes) (ends_pushed 0 ends bytes key to c.self.invariant (omega arith)))

pub returns-clause-ok : goal.returns-clause-ok
returns-clause-ok c =
    let bytes : List ℕ = c.self.inside.bytes.items in
    let ends : List ℕ = c.self.inside.ends.items in
    let key : List ℕ = c.args.key.now in
    let to : ℕ = length bytes + length key in
    ap (λ (all : List ℕ). cut_at 0 all c.append.new.bytes.items) c.in_ok-append.ensures.ends
    ∙ ap (cut_at 0 (ends ++ to ∷ [])) c.in_ok-append.ensures.bytes
    ∙ cut_pushed 0 ends bytes key to c.self.invariant (omega arith)
    ∙ ap (λ (keys : List (List ℕ)). keys ++ key ∷ []) c.self.view_is
