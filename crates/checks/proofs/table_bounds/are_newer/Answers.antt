use Rattle.std.proofs.Common.{◌≡◌, ◌<◌, ℕ, Bor, List, map, length, get_or, sym, ap, ◌∙◌, arith}
use Rattle.std.proofs.Math.ListN.{get_or-map}
use Rattle.std.proofs.lemmas.List.{length-map}
use Rattle.table.specs.EncodedEntry.{Entry}
use Rattle.table.specs.TableContents.{Contents}
use Rattle.reads.specs.Lawful.{AreNewer}
use Rattle.reads.proofs.Members.{none_in}
use Rattle.checks.proofs.BoundsLemmas.{all_more, all_so_far}
use Rattle.checks.proofs.table_bounds.are_newer.Goals as goal

pub loop-other-init : goal.loop-other-init
loop-other-init g c = λ entries at. absurd (none_in entries at)

pub loop-other-preserved : goal.loop-other-preserved
loop-other-preserved g c =
    let entries_in : Bor Contents → List Entry = λ t. t.now.entries in
    let all : List (List Entry) = map entries_in c.args.others.now in
    let k : ℕ = c.loop-other.other-index in
    let lt : k < length all = omega (arith, c.loop-other-test.true, length-map c.args.others.now entries_in) in
    let is : entries_in c.other-item.result ≡ get_or all k (entries_in c.other-item.result) = ap entries_in c.other-item.is ∙ sym (get_or-map entries_in c.args.others.now k c.other-item.result) in
    all_more (λ (entries : List Entry). AreNewer entries c.args.table.now.entries) all k (entries_in c.other-item.result) lt is c.loop-other.invariant (c.are_apart.ensures c.if-not-are_apart.false)

pub returns : goal.returns
returns g c told entries at =
    let entries_in : Bor Contents → List Entry = λ t. t.now.entries in
    let all : List (List Entry) = map entries_in c.args.others.now in
    c.loop-other.invariant entries (all_so_far all c.loop-other.other-index (omega (arith, c.loop-other-test.false, length-map c.args.others.now entries_in)) entries at)
