use Rattle.std.proofs.Common.{◌≡◌, ◌-◌, ◌≤◌, ◌^◌, min, List, ℕ, length, ap, sym, ◌∙◌, arith}
use Rattle.reads.specs.StatedFiles.{matches_metadata}
use Rattle.reads.proofs.SoundFiles.{stated_tests}
use Rattle.split.specs.Ranges.{key_range}
use Rattle.table.specs.TableContents.{Contents}
use Rattle.table.specs.Tallies.{tally_of}
use Rattle.table.specs.declared.tally.Tally.{Tally}
use Rattle.checks.specs.GroupTest.{IsStatedBy, alone}
use Rattle.checks.proofs.CountLemmas.{count_none, count_some}
use Rattle.checks.proofs.FileTables.{alone_there}
use Rattle.checks.proofs.TableSizes.{few_entries}
use Rattle.checks.proofs.entry_counts.counted_file.Goals as goal

pub returns-then-not-starts_in-clause-counted : goal.returns-then-not-starts_in-clause-counted
returns-then-not-starts_in-clause-counted g c =
    let cmp = g.C.Comparator.cmp in
    let f = c.args.file.now in
    let t = c.args.table.now in
    let small = c.smallest.result.bytes.now in
    let large = c.largest.result.bytes.now in
    let is : c.is_stated.result ≡ matches_metadata c.args.next f (length t.bytes) small large = c.is_stated.ensures ∙ ap (λ (bytes : List ℕ). matches_metadata c.args.next f (length bytes) small large) c.bytes.ensures.bytes in
    let stated : IsStatedBy cmp c.args.next f t =
    (stated_tests cmp (alone f t) c.args.next f t small large (alone_there f t) c.bytes.ensures.reading c.smallest.ensures c.largest.ensures g.met.C.Comparator.total c.is_stated.result is).0 c.if-not-is_stated.false in
    (stated, count_none cmp (key_range c.args.range) f t (sym c.starts_in.ensures ∙ c.if-not-starts_in.true))

-- as many as there are
counted : (n : ℕ) (x : Contents) → n ≡ (tally_of x.entries).entries → length x.entries ≤ 2 ^ 60 → n ≡ length x.entries
counted n x is few =
    let same : n ≡ min (length x.entries) (2 ^ 64 - 1) = is in
    omega (arith, same, few)

pub returns-clause-small : goal.returns-clause-small
returns-clause-small g c =
    let t = c.args.table.now in
    let few = few_entries g.C.Comparator.cmp t.bytes t c.bytes.ensures.reading in
    let is : c.tally.result.entries ≡ length t.entries = counted c.tally.result.entries t (ap (λ (x : Tally). x.entries) c.tally.ensures.tally) few in
    omega (arith, is, few)

pub returns-clause-counted : goal.returns-clause-counted
returns-clause-counted g c =
    let cmp = g.C.Comparator.cmp in
    let f = c.args.file.now in
    let t = c.args.table.now in
    let small = c.smallest.result.bytes.now in
    let large = c.largest.result.bytes.now in
    let is : c.is_stated.result ≡ matches_metadata c.args.next f (length t.bytes) small large = c.is_stated.ensures ∙ ap (λ (bytes : List ℕ). matches_metadata c.args.next f (length bytes) small large) c.bytes.ensures.bytes in
    let stated : IsStatedBy cmp c.args.next f t =
    (stated_tests cmp (alone f t) c.args.next f t small large (alone_there f t) c.bytes.ensures.reading c.smallest.ensures c.largest.ensures g.met.C.Comparator.total c.is_stated.result is).0 c.if-not-is_stated.false in (
      stated,
      count_some cmp (key_range c.args.range) f t c.tally.result.entries (sym c.starts_in.ensures ∙ c.if-not-starts_in.false)
          (counted c.tally.result.entries t (ap (λ (x : Tally). x.entries) c.tally.ensures.tally) (few_entries cmp t.bytes t c.bytes.ensures.reading)),
    )
