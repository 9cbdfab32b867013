use Rattle.std.proofs.Common.{Bor, ◌≡◌, ℕ, ◌+◌, ◌-◌, ◌<◌, List, ◌++◌, length, map, refl, sym, ap, subst, ◌∙◌, arith}
use Rattle.std.proofs.lemmas.Bool.{not-false, not-true}
use Rattle.folder.specs.meta.FileMeta.{FileMeta}
use Rattle.folder.proofs.CountLemmas.{steady}
use Rattle.folder.proofs.ReportLemmas.{reads_then}
use Rattle.reads.proofs.Covers.{covers}
use Rattle.reads.specs.Ranges.{KeyRange, key_range, range_at}
use Rattle.checks.specs.HeldTables.{AreHeldBy}
use Rattle.checks.proofs.FolderTests.{told_still}
use Rattle.checks.proofs.HeldAnswers.{held_in, held_through, none_held}
use Rattle.faults.specs.VersionFault.{MisplacedKey, VersionFault, OfKey}
use Rattle.faults.specs.KeyFaults.{misplaced_keys, read_file, searched_of}
use Rattle.faults.specs.KeyWalk.{misplaced_in}
use Rattle.faults.specs.RangeKeys.{keys_from, keys_in}
use Rattle.faults.specs.ToldFaults.{IsPart}
use Rattle.faults.specs.declared.key_walk.KeyFault.{KeyFault}
use Rattle.faults.proofs.FaultAnswers.{stopped_handed}
use Rattle.faults.proofs.MisplacedLemmas.{part_is}
use Rattle.faults.proofs.RangeSteps.{none_left, told_left}
use Rattle.faults.proofs.TellingLemmas.{begun_at, handed_begun, none_told, told_end, told_more, told_stops}
use Rattle.faults.proofs.range_faults.tell_ranges.Goals as goal

abbrev now_of : Bor FileMeta → FileMeta
now_of f = f.now

pub loop-number-init : goal.loop-number-init
loop-number-init g c = record {
  told = λ files told sound.
      let cmp = g.C.Comparator.cmp in
      let all : ℕ = length c.args.split.now + 1 in
      let keys : List MisplacedKey = misplaced_keys cmp (searched_of (map (read_file cmp files) (map now_of c.args.files.now))) in
      let faults : ℕ → List VersionFault = λ n. map OfKey (keys_from cmp c.args.split.now keys 0 n) in
      let same : all ≡ all - 0 = omega arith in
      subst (λ (n : ℕ). IsPart g.T.FaultTaker.tells (faults all) c.args.taker.now c.args.told.count (faults n) c.args.taker.now c.args.told) same (none_told g.T.FaultTaker.tells (faults all) c.args.taker.now c.args.told c.requires);
  held = subst (AreHeldBy g.C.Comparator.cmp (g.F.Folder.tells c.args.folder.now)) (sym c.none-held.ensures) (none_held g.C.Comparator.cmp (g.F.Folder.tells c.args.folder.now));
  goes = c.requires;
  reads = record { same = λ name held. (λ h. h, λ h. h); calls = refl };
  failures = refl;
}

pub loop-number-preserved : goal.loop-number-preserved
loop-number-preserved g c =
    let cmp = g.C.Comparator.cmp in
    let tells = g.F.Folder.tells in
    let failed = g.F.Folder.failed in
    let met = g.met.C.Comparator g.world.𝓛 g.world.𝓜 g.world.𝓡 ((λ s x. x), (λ x. x), (λ x. x), λ x. x) in
    let now = c.loop-number in
    let more = not-false _ c.if-not-told.false in
    record {
      told = λ files told sound.
          let entries = searched_of (map (read_file cmp files) (map now_of c.args.files.now)) in
          let all : ℕ = length c.args.split.now + 1 in
          let keys : List MisplacedKey = misplaced_keys cmp entries in
          let own : map misplaced_in c.in_ok-faults.faults.items ≡ keys_in cmp (range_at c.args.split.now now.number) keys =
          part_is cmp met.total met.exact entries (key_range c.range-range.result) (map misplaced_in c.in_ok-faults.faults.items) (c.in_ok-faults.ensures.faults files (told_still (tells c.args.folder.now) (tells now.folder) files now.invariant.reads.same told) (held_in g.C.Comparator.cmp (tells c.args.folder.now) files told now.held now.invariant.held) sound)
          ∙ ap (λ (r : KeyRange). keys_in cmp r keys) c.range-range.ensures.bounds in
          let lt : now.number < all = omega (arith, c.len-number-end.ensures.number, now.auto.number-end, c.loop-number-test.true) in
          let step = told_left cmp c.args.split.now keys all now.number c.in_ok-faults.faults.items lt own in
          let behind : List VersionFault = map OfKey (keys_from cmp c.args.split.now keys (now.number + 1) (all - (now.number + 1))) in
          let whole : List VersionFault = map OfKey (keys_from cmp c.args.split.now keys 0 all) in
          told_more g.T.FaultTaker.tells whole (map (λ k. OfKey (misplaced_in k)) c.deref.result.now) behind c.args.taker.now now.taker c.tell_keys-told.new.taker c.args.told.count now.told now.invariant.goes
          (subst (λ (fs : List VersionFault). IsPart g.T.FaultTaker.tells whole c.args.taker.now c.args.told.count fs now.taker now.told) (step ∙ ap (λ (ks : List KeyFault). map (λ k. OfKey (misplaced_in k)) ks ++ behind) (sym c.deref.ensures.value)) (now.invariant.told files told sound)) c.tell_keys-told.result c.tell_keys-told.ensures more;
      held = held_through g.C.Comparator.cmp (tells c.args.folder.now) (tells now.folder) now.invariant.reads.same now.held c.range_faults.new.held c.in_ok-faults.ensures.held now.invariant.held;
      goes = more;
      reads = reads_then now.invariant.reads c.range_faults.ensures.reads;
      failures = steady (failed c.args.folder.now) (failed now.folder) (failed c.range_faults.new.folder) c.in_ok-faults.faults c.range_faults.result c.in_ok-faults.was now.invariant.failures c.range_faults.ensures.device.later c.range_faults.ensures.device.at_once;
    }

pub returns-in_err-faults-clause-told : goal.returns-in_err-faults-clause-told
returns-in_err-faults-clause-told g c files told sound =
    let cmp = g.C.Comparator.cmp in
    let now = c.loop-number in
    let all : ℕ = length c.args.split.now + 1 in
    let keys : List MisplacedKey = misplaced_keys cmp (searched_of (map (read_file cmp files) (map now_of c.args.files.now))) in
    let whole : List VersionFault = map OfKey (keys_from cmp c.args.split.now keys 0 all) in
    let behind : List VersionFault = map OfKey (keys_from cmp c.args.split.now keys now.number (all - now.number)) in
    handed_begun g.T.FaultTaker.tells whole c.args.taker.now now.taker c.args.told.count c.from_residual.result c.in_err-faults.field-0.0 c.from_residual.ensures.1
    (begun_at g.T.FaultTaker.tells whole behind c.args.taker.now now.taker c.args.told.count now.told (now.invariant.told files told sound) now.invariant.goes)

pub returns-in_err-faults-clause-errors : goal.returns-in_err-faults-clause-errors
returns-in_err-faults-clause-errors g c files told sound =
    let tells = g.F.Folder.tells in
    let failed = g.F.Folder.failed in
    let now = c.loop-number in
    stopped_handed (failed c.args.folder.now) (failed now.folder) (failed c.range_faults.new.folder) c.from_residual.result c.in_err-faults.field-0.0 c.from_residual.ensures.1 (omega (arith, now.invariant.failures)) c.range_faults.ensures.device.later
    (c.in_err-faults.ensures.errors files (told_still (tells c.args.folder.now) (tells now.folder) files now.invariant.reads.same told) (held_in g.C.Comparator.cmp (tells c.args.folder.now) files told now.held now.invariant.held) sound)

pub returns-then-not-told-clause-told : goal.returns-then-not-told-clause-told
returns-then-not-told-clause-told g c files told sound =
    let cmp = g.C.Comparator.cmp in
    let tells = g.F.Folder.tells in
    let met = g.met.C.Comparator g.world.𝓛 g.world.𝓜 g.world.𝓡 ((λ s x. x), (λ x. x), (λ x. x), λ x. x) in
    let now = c.loop-number in
    let entries = searched_of (map (read_file cmp files) (map now_of c.args.files.now)) in
    let all : ℕ = length c.args.split.now + 1 in
    let keys : List MisplacedKey = misplaced_keys cmp entries in
    let own : map misplaced_in c.in_ok-faults.faults.items ≡ keys_in cmp (range_at c.args.split.now now.number) keys =
    part_is cmp met.total met.exact entries (key_range c.range-range.result) (map misplaced_in c.in_ok-faults.faults.items) (c.in_ok-faults.ensures.faults files (told_still (tells c.args.folder.now) (tells now.folder) files now.invariant.reads.same told) (held_in g.C.Comparator.cmp (tells c.args.folder.now) files told now.held now.invariant.held) sound)
    ∙ ap (λ (r : KeyRange). keys_in cmp r keys) c.range-range.ensures.bounds in
    let lt : now.number < all = omega (arith, c.len-number-end.ensures.number, now.auto.number-end, c.loop-number-test.true) in
    let step = told_left cmp c.args.split.now keys all now.number c.in_ok-faults.faults.items lt own in
    let behind : List VersionFault = map OfKey (keys_from cmp c.args.split.now keys (now.number + 1) (all - (now.number + 1))) in
    let whole : List VersionFault = map OfKey (keys_from cmp c.args.split.now keys 0 all) in
    told_stops g.T.FaultTaker.tells whole (map (λ k. OfKey (misplaced_in k)) c.deref.result.now) behind c.args.taker.now now.taker c.tell_keys-told.new.taker c.args.told.count now.told now.invariant.goes
    (subst (λ (fs : List VersionFault). IsPart g.T.FaultTaker.tells whole c.args.taker.now c.args.told.count fs now.taker now.told) (step ∙ ap (λ (ks : List KeyFault). map (λ k. OfKey (misplaced_in k)) ks ++ behind) (sym c.deref.ensures.value)) (now.invariant.told files told sound)) c.tell_keys-told.result c.tell_keys-told.ensures (not-true _ c.if-not-told.true)

pub returns-clause-told : goal.returns-clause-told
returns-clause-told g c files told sound =
    let cmp = g.C.Comparator.cmp in
    let now = c.loop-number in
    let all : ℕ = length c.args.split.now + 1 in
    let keys : List MisplacedKey = misplaced_keys cmp (searched_of (map (read_file cmp files) (map now_of c.args.files.now))) in
    let whole : List VersionFault = map OfKey (keys_from cmp c.args.split.now keys 0 all) in
    let end : all ≡ now.number = omega (arith, c.loop-number-test.false, now.auto.number-end, c.len-number-end.ensures.number) in
    told_end g.T.FaultTaker.tells whole c.args.taker.now now.taker c.args.told.count now.told
    (subst (λ (ks : List MisplacedKey). IsPart g.T.FaultTaker.tells whole c.args.taker.now c.args.told.count (map OfKey ks) now.taker now.told) (none_left cmp c.args.split.now keys all now.number end) (now.invariant.told files told sound))

pub returns-clause-cover : goal.returns-clause-cover
returns-clause-cover g c = covers g.C.Comparator.cmp (g.met.C.Comparator g.world.𝓛 g.world.𝓜 g.world.𝓡 ((λ s x. x), (λ x. x), (λ x. x), λ x. x)).total c.args.split.now c.len-number-end.ensures.split.rising
