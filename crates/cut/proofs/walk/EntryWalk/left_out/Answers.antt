use Rattle.std.proofs.Common.{◌≡◌, ◌<◌, ℕ, List, length, drop, Some, Option, sym, ap, subst, ◌∙◌, arith}
use Rattle.std.specs.Prelude.{nat_eq, slice_get}
use Rattle.std.specs.List.{common_prefix_len}
use Rattle.std.specs.Option.{option_map}
use Rattle.block.specs.EncodedEntry.{Entry}
use Rattle.cut.specs.EntryWalkView.{EntryWalkView, shared_with_before, left_out_len}
use Rattle.cut.proofs.Walks.{key_of, in_slice, next_is, at_restart, past_restart, with_none_before, shared_is, shared_first}
use Rattle.cut.proofs.walk.EntryWalk.left_out.Goals as goal

pub returns-then-since-eq0 : goal.returns-then-since-eq0
returns-then-since-eq0 c = at_restart c.args.since c.args.self.now.before c.args.self.now.rest (omega arith) c.requires

pub shared-requires-clause-within : goal.shared-requires-clause-within
shared-requires-clause-within c =
    in_slice c.self.inside.start c.self.inside.slice c.self.inside.passed _ c.self.invariant (subst (λ (w : EntryWalkView). 0 < length w.rest) (sym c.self.view_is) c.requires)

pub returns-then-self-gt0 : goal.returns-then-self-gt0
returns-then-self-gt0 c =
    let was = c.self.inside in
    let before : Option (List ℕ) = option_map (λ key. key.bytes.now) was.before in
    let lt : was.passed < length was.slice = in_slice was.start was.slice was.passed before c.self.invariant (subst (λ (w : EntryWalkView). 0 < length w.rest) (sym c.self.view_is) c.requires) in
    subst (λ (w : EntryWalkView). option_map (λ (e : Entry). left_out_len c.args.since w.before e.key) (slice_get w.rest 0) ≡ Some c.shared.result) c.self.view_is
    (past_restart c.args.since c.shared.result before (drop was.passed was.start) (λ none. absurd (omega (arith, none)))
    (shared_is was.start was.slice was.passed c.shared.result before c.self.invariant c.if-self-gt0.true lt c.shared.ensures))

pub key-requires : goal.key-requires
key-requires c =
    let was = c.self.inside in
    let lt : was.passed < length was.slice = in_slice was.start was.slice was.passed _ c.self.invariant (subst (λ (w : EntryWalkView). 0 < length w.rest) (sym c.self.view_is) c.requires) in
    omega (arith, lt)

pub returns-in-Some : goal.returns-in-Some
returns-in-Some c =
    let was = c.self.inside in
    let before : Option (List ℕ) = option_map (λ key. key.bytes.now) was.before in
    let lt : was.passed < length was.slice = in_slice was.start was.slice was.passed before c.self.invariant (subst (λ (w : EntryWalkView). 0 < length w.rest) (sym c.self.view_is) c.requires) in
    let first : was.passed ≡ 0 = omega (arith, c.if-self-gt0.false) in
    let key : option_map key_of (slice_get (drop was.passed was.start) 0) ≡ Some c.key.result.bytes.now =
    ap (option_map key_of) (next_is was.start was.slice was.passed before c.self.invariant lt ∙ ap (slice_get was.slice) first) ∙ c.key.ensures in
    let is : c.common_len.result ≡ shared_with_before (Some c.in-Some.before.bytes.now) c.key.result.bytes.now =
    c.common_len.ensures.value
    ∙ ap (λ (xs : List ℕ). common_prefix_len nat_eq xs c.bytes-in-Some.result.now) c.bytes.ensures
    ∙ ap (common_prefix_len nat_eq c.in-Some.before.bytes.now) c.bytes-in-Some.ensures in
    subst (λ (w : EntryWalkView). option_map (λ (e : Entry). left_out_len c.args.since w.before e.key) (slice_get w.rest 0) ≡ Some c.common_len.result) c.self.view_is
    (past_restart c.args.since c.common_len.result before (drop was.passed was.start) (λ none. absurd (omega (arith, none)))
    (ap (λ (b : Option (List ℕ)). option_map (λ (e : Entry). shared_with_before b e.key) (slice_get (drop was.passed was.start) 0)) (ap (option_map (λ key. key.bytes.now)) c.in-Some.is)
    ∙ shared_first (Some c.in-Some.before.bytes.now) (drop was.passed was.start) c.key.result.bytes.now key
    ∙ ap (λ (n : ℕ). Some n) (sym is)))

pub returns-in-None : goal.returns-in-None
returns-in-None c =
    let was = c.self.inside in
    let before : Option (List ℕ) = option_map (λ key. key.bytes.now) was.before in
    let some : 0 < length (drop was.passed was.start) = subst (λ (w : EntryWalkView). 0 < length w.rest) (sym c.self.view_is) c.requires in
    subst (λ (w : EntryWalkView). option_map (λ (e : Entry). left_out_len c.args.since w.before e.key) (slice_get w.rest 0) ≡ Some 0) c.self.view_is
    (with_none_before c.args.since before (drop was.passed was.start) (ap (option_map (λ key. key.bytes.now)) c.in-None.is) some)
