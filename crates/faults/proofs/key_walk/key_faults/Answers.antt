use Rattle.std.proofs.Common.{◌≡◌, ℕ, List, [], ◌++◌, length, map, refl, sym, ap, subst, ◌∙◌, arith}
use Rattle.std.specs.Prelude.{suc, ◌≤◌}
use Rattle.std.specs.List.{AllByRecursion}
use Rattle.merge.specs.MergedLists.{entries_of_lists}
use Rattle.reads.specs.Ranges.{key_range}
use Rattle.table.specs.EntriesFrom.{NeverFalls}
use Rattle.faults.specs.KeyFaults.{FileEntries, first_break, searched_of}
use Rattle.faults.specs.KeyWalk.{AreAllFrom, IsNextUser, break_of, found_keys, misplaced_in, with_user}
use Rattle.faults.proofs.KeySteps.{IsWalkedTo, fewer, left_is, own_entries, walk_begin, walk_end, walk_more}
use Rattle.faults.proofs.key_walk.key_faults.Goals as goal

pub loop-is_there-init : goal.loop-is_there-init
loop-is_there-init g c =
    let cmp = g.C.Comparator.cmp in
    let total = g.met.C.Comparator.total in
    let exact = g.met.C.Comparator.exact in
    let range = key_range c.args.range in
    let files : List FileEntries = c.args.files.items in
    let same : c.deref.result.now ≡ files = c.deref.ensures.value in
    let none : [] ≡ map misplaced_in c.new-faults.result.items = sym (ap (map misplaced_in) c.new-faults.ensures.items) in
    record {
      walked = subst (IsWalkedTo cmp total exact range (searched_of files) files) none (walk_begin cmp total exact range (searched_of files) files refl);
      some = λ more. subst (λ (fs : List FileEntries). IsNextUser cmp range.upper (entries_of_lists (map own_entries fs)) c.next_user.new.user.items) same (c.in_ok-is_there.ensures.some more);
      none = λ no. subst (λ (fs : List FileEntries). AreAllFrom cmp range.upper (entries_of_lists (map own_entries fs))) same (c.in_ok-is_there.ensures.none no);
      ordered = subst (λ (fs : List FileEntries). AllByRecursion (NeverFalls cmp) (map own_entries fs)) same c.in_ok-is_there.ensures.ordered;
    }

pub loop-is_there-preserved : goal.loop-is_there-preserved
loop-is_there-preserved g c =
    let cmp = g.C.Comparator.cmp in
    let total = g.met.C.Comparator.total in
    let exact = g.met.C.Comparator.exact in
    let range = key_range c.args.range in
    let now = c.loop-is_there in
    let all = searched_of c.args.files.items in
    let files : List FileEntries = now.files.items in
    let user : List ℕ = now.user.items in
    let lent : c.deref_mut.result.now ≡ files = c.deref_mut.ensures.value in
    let own : c.deref-in-loop-is_there.result.now ≡ user = c.deref-in-loop-is_there.ensures.value in
    let left = left_is now.files.len files c.deref_mut.result.now c.take_user.new.files user c.deref-in-loop-is_there.result.now lent own (sym c.deref_mut.ensures.len) c.in_ok-order.ensures.rest in
    let order : break_of c.in_ok-order.order [] ≡ first_break (searched_of (map (with_user user) files)) =
    c.in_ok-order.ensures.order ∙ ap (λ (u : List ℕ). first_break (searched_of (map (with_user u) c.deref_mut.result.now))) own ∙ ap (λ (fs : List FileEntries). first_break (searched_of (map (with_user user) fs))) lent in
    let pushed : map misplaced_in c.push_fault.new.faults.items ≡ map misplaced_in now.faults.items ++ found_keys cmp range.lower user (break_of c.in_ok-order.order []) =
    c.in_ok-push_fault.ensures.ok ∙ ap (λ (u : List ℕ). map misplaced_in now.faults.items ++ found_keys cmp range.lower u (break_of c.in_ok-order.order [])) c.deref-in-loop-is_there-2.ensures.value in
    let last = c.deref-in-loop-is_there-3.ensures.value in
    record {
      walked = subst (λ (fs : List FileEntries). IsWalkedTo cmp total exact range all fs (map misplaced_in c.push_fault.new.faults.items)) (sym left)
          (walk_more cmp total exact range all files (map misplaced_in now.faults.items) now.invariant.walked user (now.invariant.some c.loop-is_there-test.true) now.invariant.ordered (break_of c.in_ok-order.order []) order (map misplaced_in c.push_fault.new.faults.items) pushed);
      some = λ more. subst (λ (fs : List FileEntries). IsNextUser cmp range.upper (entries_of_lists (map own_entries fs)) c.next_user-in-loop-is_there.new.user.items) last (c.in_ok-is_there-2.ensures.some more);
      none = λ no. subst (λ (fs : List FileEntries). AreAllFrom cmp range.upper (entries_of_lists (map own_entries fs))) last (c.in_ok-is_there-2.ensures.none no);
      ordered = subst (λ (fs : List FileEntries). AllByRecursion (NeverFalls cmp) (map own_entries fs)) last c.in_ok-is_there-2.ensures.ordered;
    }

pub loop-is_there-smaller : goal.loop-is_there-smaller
loop-is_there-smaller g c =
    let cmp = g.C.Comparator.cmp in
    let range = key_range c.args.range in
    let now = c.loop-is_there in
    let files : List FileEntries = now.files.items in
    let user : List ℕ = now.user.items in
    let lent : c.deref_mut.result.now ≡ files = c.deref_mut.ensures.value in
    let own : c.deref-in-loop-is_there.result.now ≡ user = c.deref-in-loop-is_there.ensures.value in
    let left = left_is now.files.len files c.deref_mut.result.now c.take_user.new.files user c.deref-in-loop-is_there.result.now lent own (sym c.deref_mut.ensures.len) c.in_ok-order.ensures.rest in
    let less = fewer cmp g.met.C.Comparator.total g.met.C.Comparator.exact range.upper files user (now.invariant.some c.loop-is_there-test.true) now.invariant.ordered in
    subst (λ (fs : List FileEntries). suc (length (searched_of fs)) ≤ length (searched_of files)) (sym left) (omega (arith, less))

pub returns-clause-faults : goal.returns-clause-faults
returns-clause-faults g c =
    let now = c.loop-is_there in
    walk_end g.C.Comparator.cmp g.met.C.Comparator.total g.met.C.Comparator.exact (key_range c.args.range) (searched_of c.args.files.items) now.files.items (map misplaced_in now.faults.items) (now.invariant.none c.loop-is_there-test.false) now.invariant.walked
