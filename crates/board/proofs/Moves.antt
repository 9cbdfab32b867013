-- What a seat may do at its board.
use Rattle.std.proofs.Common.{◌≡◌, inl, inr, ℕ, suc, ◌+◌, ◌-◌, ◌<◌, ◌≤◌, ◌^◌, ◌%◌, min, List, [], ◌∷◌, ◌++◌, length, set, get_or, refl, sym, ap, ◌∙◌, subst, arith, length-set, get_or-set_same, get_or-set_other, replicate, Bool, true, false, cond, ltb, ltb-true}
use Rattle.std.proofs.lemmas.Bool.Decides.{nat_tests}
use Rattle.std.proofs.lemmas.List.{set-get_or, get_or-replicate}
use native.Mathlib.Decide.{dec_le}
use mathlib.Core.Option.{none, some}
use lib.ListN.{get_elem?}
use Rattle.atomic_table.specs.Table.{State, Me, step, keeps, Allows, Splits, Joins, Seen, opening}
use Rattle.atomic_table.proofs.Lists.{at_set}
use Rattle.board.specs.declared.rule.SeatView.{SeatView}
use Rattle.board.specs.declared.rule.Extent.{Extent}
use Rattle.board.specs.Shares.{times}
use Rattle.board.specs.Progress.{no_fault}
use Rattle.board.specs.Words.{job_at, total, once_below, word_of, claims_of}
use Rattle.board.specs.Rule.{fresh_view, view_after_draw, saw_empty, has_failed, has_looked, has_skipped, gathered_views, HasNoLists, Fits, times_drawn, times_empty, times_failed, times_looked, times_skipped, KeepsDrawn, KeepsSkipped, BoardRule, TableKeepsRule, Claims, StepClaims, StepLooks, StepSettles, StepSkips, has_looked_for, IsLeastFound, IsWhole, fault_of, opening_words}
use Rattle.board.proofs.Sums.{total_set, total-snoc, le-total, total_le, total_only, times-append, times-snoc, same_one}
use Rattle.board.proofs.Spans.{claimed_le, claimed_all, word_below, word_apart}
use Rattle.board.proofs.Views.{each_set, each_snoc}
use Rattle.board.proofs.Draws.{draws, sees, still_drawn, opens}
use Rattle.board.proofs.Faults.{still_failed, still_skipped, settles, looks, skips, no_faults}

-- no claim word wraps
all_empty_few : (n w : ℕ) (words : List ℕ) (views : List SeatView) (k : ℕ) → KeepsDrawn n w words views → times_empty k views ≤ 64
all_empty_few n w words views k h =
    let t = total_le (λ (v : SeatView). times k v.empty) (λ (v : SeatView). v.members) views (λ i v at. (h.each i v at).once k) in
    let p = h.members in let few = h.seats.1 in omega arith

claims_few : (n w : ℕ) (words : List ℕ) (views : List SeatView) (k : ℕ) → KeepsDrawn n w words views → k < w → claims_of w words k < 2 ^ 41
claims_few n w words views k h lt =
    let b = h.bounded k lt in let e = all_empty_few n w words views k h in let j = h.jobs in omega arith

-- no number is claimed twice
drawn_once : (n w : ℕ) (words : List ℕ) (views : List SeatView) (x : ℕ) → KeepsDrawn n w words views → times_drawn x views ≤ once_below x n
drawn_once n w words views x h = let d = h.drawn x in let l = claimed_le n w (claims_of w words) x in omega arith

pub below_one : (x n : ℕ) → (once_below x n ≤ 1) × (0 < once_below x n → x < n)
below_one x n = (grind (arith, nat_tests), λ h. grind (arith, nat_tests))

wrapless : (c : ℕ) → c < 2 ^ 41 → suc c ≡ (c + 1) % 2 ^ 64
wrapless c small = let s : c < 2199023255552 = small in omega arith

-- what one claim leaves, if the seat has not seen the share empty
pub claim_step : (v : SeatView) (words : List ℕ) (views : List SeatView) (id k : ℕ) → BoardRule v.jobs v.seats words views → get_elem? views id ≡ some v → k < v.seats → times k v.empty < v.members
    → (u : SeatView) × BoardRule v.jobs v.seats (set words (word_of v.seats k) ((claims_of v.seats words k + 1) % 2 ^ 64)) (set views id u) × Claims v k (claims_of v.seats words k) u
claim_step v words views id k h at lt once =
    let n = v.jobs in let w = v.seats in let c : ℕ = claims_of v.seats words k in let i : ℕ = word_of v.seats k in
    let small = claims_few n w words views k h.drawn lt in
    let next : suc c ≡ (c + 1) % 2 ^ 64 = wrapless c small in
    let fault : fault_of (set words i (suc c)) ≡ fault_of words = get_or-set_other words i 64 (suc c) 0 (let below = word_below w k h.drawn.seats.1 lt in omega arith) in
    elim (dec_le (suc (job_at w k c)) n) [
      | yes room ↦
          let x : ℕ = job_at w k c in
          let u : SeatView = view_after_draw v x in
          let new = draws n w words views id v k c h.drawn at (omega arith) lt refl room in
          let most = drawn_once n w (set words i (suc c)) (set views id u) x new in
          let e = total_set (λ (z : SeatView). times x z.drawn) views id v u at in
          let s = times-snoc x v.drawn x in let o = same_one x in
          let b = (below_one x n).0 in
          let mine : times x v.drawn ≤ times_drawn x views = le-total (λ (z : SeatView). times x z.drawn) views id v at in (
            u,
            subst (λ (m : ℕ). BoardRule n w (set words i m) (set views id u)) next record {
              drawn = new;
              failed = still_failed n words (set words i (suc c)) views (set views id u) h.failed fault
                  (λ y. let t = total_set (λ (z : SeatView). times y z.failed) views id v u at in omega arith)
                  (λ y. let t = total_set (λ (z : SeatView). times y z.looked) views id v u at in omega arith);
              skipped = still_skipped words (set words i (suc c)) views (set views id u) h.skipped (omega arith)
                  (λ y. let t = total_set (λ (z : SeatView). times y z.skipped) views id v u at in omega arith);
            },
            record { few = small; drew = λ _. refl; new = λ _. omega arith; empty = λ full. absurd (omega arith) },
          )
      | no above ↦
          let u : SeatView = saw_empty v k in
          let new = sees n w words views id v k c h.drawn at once lt refl (omega arith) in (
            u,
            subst (λ (m : ℕ). BoardRule n w (set words i m) (set views id u)) next record {
              drawn = new;
              failed = still_failed n words (set words i (suc c)) views (set views id u) h.failed fault
                  (λ y. let t = total_set (λ (z : SeatView). times y z.failed) views id v u at in omega arith)
                  (λ y. let t = total_set (λ (z : SeatView). times y z.looked) views id v u at in omega arith);
              skipped = still_skipped words (set words i (suc c)) views (set views id u) h.skipped (omega arith)
                  (λ y. let t = total_set (λ (z : SeatView). times y z.skipped) views id v u at in omega arith);
            },
            record { few = small; drew = λ room. absurd (omega arith); new = λ room. absurd (omega arith); empty = λ _. refl },
          )
    ]

-- a seat's view has the numbers of jobs and seats of the board
extent_of : (n w : ℕ) (words : List ℕ) (views : List SeatView) (id : ℕ) (v : SeatView) → KeepsDrawn n w words views → get_elem? views id ≡ some v → 0 < v.members → (v.jobs ≡ n) × (v.seats ≡ w)
extent_of n w words views id v h at sits = (h.each id v at).same sits

pub claims : (e : Extent) (slots id : ℕ) (me : Me (Unit {0}) SeatView) (k : ℕ) → k < me.0.seats → times k me.0.empty < me.0.members
    → Allows (TableKeepsRule e) slots id me (word_of me.0.seats k) (λ x. (x + 1) % 2 ^ 64) (StepClaims (step slots (word_of me.0.seats k) 1 0 none) me)
claims e slots id me k lt once s h len at small =
    let v = me.0 in
    let is = extent_of e.jobs e.seats s.words s.views id v h.drawn at (omega arith) in
    let here = subst (λ (z : ℕ × ℕ). BoardRule z.0 z.1 s.words s.views) (λ i. (sym is.0 i, sym is.1 i)) h in
    let r = claim_step v s.words s.views id k here at lt once in
    let claimed_of : (j : ℕ) → j < v.seats → word_of v.seats k ≡ word_of v.seats j → Claims v j (claims_of v.seats s.words k) r.0 =
    (λ j less same. subst (λ (i : ℕ). Claims v i (claims_of v.seats s.words k) r.0) (word_apart v.seats k j (omega arith) here.drawn.seats.1 same) r.2) in
    (r.0, keeps, tt, subst (λ (z : ℕ × ℕ). BoardRule z.0 z.1 (set s.words (word_of v.seats k) ((claims_of v.seats s.words k + 1) % 2 ^ 64)) (set s.views id r.0)) (λ i. (is.0 i, is.1 i)) r.1, (claimed_of, refl))

-- the same at the word's number
pub claims_at : (e : Extent) (slots id : ℕ) (me : Me (Unit {0}) SeatView) (k word : ℕ) → word ≡ word_of me.0.seats k → k < me.0.seats → times k me.0.empty < me.0.members
    → Allows (TableKeepsRule e) slots id me word (λ x. (x + 1) % 2 ^ 64) (StepClaims (step slots word 1 0 none) me)
claims_at e slots id me k word is lt once = subst (λ (i : ℕ). Allows (TableKeepsRule e) slots id me i (λ x. (x + 1) % 2 ^ 64) (StepClaims (step slots i 1 0 none) me)) (sym is) (claims e slots id me k lt once)

-- the seats' lists are put together or apart, and the words stay
rearranged : (n w : ℕ) (words : List ℕ) (views views' : List SeatView) → BoardRule n w words views
    → total (λ (v : SeatView). v.members) views' ≡ total (λ (v : SeatView). v.members) views → ((i : ℕ) (v : SeatView) → get_elem? views' i ≡ some v → Fits n w v)
    → ((x : ℕ) → times_drawn x views' ≡ times_drawn x views) → ((k : ℕ) → times_empty k views' ≡ times_empty k views)
    → ((x : ℕ) → times_failed x views' ≡ times_failed x views) → ((x : ℕ) → times_looked x views' ≡ times_looked x views) → ((x : ℕ) → times_skipped x views' ≡ times_skipped x views)
    → BoardRule n w words views'
rearranged n w words views views' h members each drawn empty failed looked skipped = record {
  drawn = still_drawn n w words words views views' h.drawn refl (λ k lt. refl) members each drawn empty;
  failed = still_failed n words words views views' h.failed refl failed looked;
  skipped = still_skipped words words views views' h.skipped (omega arith) skipped;
}

pub splits : (e : Extent) (id p q n w : ℕ) → 0 < p → q ≡ suc p → Splits (TableKeepsRule e) id (fresh_view q n w) (fresh_view p n w) (fresh_view 1 n w)
splits e id p q n w any more s h at =
    let v : SeatView = fresh_view q n w in let left : SeatView = fresh_view p n w in let right : SeatView = fresh_view 1 n w in
    let is = (h.drawn.each id v at).same (omega arith) in
    let moved : (f : SeatView → ℕ) → f left + f right ≡ f v → total f (set s.views id left ++ right ∷ []) ≡ total f s.views =
    (λ f sum. let a = total_set f s.views id v left at in let b = total-snoc f (set s.views id left) right in omega arith) in
    let fits : (r : ℕ) → Fits e.jobs e.seats (fresh_view r n w) = (λ r. record { same = λ _. is; spent = λ none. (refl, refl, refl, refl, refl); once = λ k. omega arith }) in
    rearranged e.jobs e.seats s.words s.views (set s.views id left ++ right ∷ []) h
    (moved (λ z. z.members) (omega arith))
    (each_snoc (Fits e.jobs e.seats) (set s.views id left) right (each_set (Fits e.jobs e.seats) s.views id left h.drawn.each (fits p)) (fits 1))
    (λ x. moved (λ z. times x z.drawn) refl) (λ x. moved (λ z. times x z.empty) refl)
    (λ x. moved (λ z. times x z.failed) refl) (λ x. moved (λ z. times x z.looked) refl) (λ x. moved (λ z. times x z.skipped) refl)

pub joins : (e : Extent) (id : ℕ) (v : SeatView) (other : ℕ) (u : SeatView) → 0 < v.members → Joins (TableKeepsRule e) id v other u (gathered_views v u) (fresh_view 0 0 0)
joins e id v other u sits s h at apart there =
    let both : SeatView = gathered_views v u in let spent : SeatView = fresh_view 0 0 0 in
    let old : get_elem? s.views other ≡ some u = elim (at_set s.views id other both u there) [ inl t ↦ absurd (apart t.0) | inr t ↦ t.1 ] in
    let mine = h.drawn.each id v at in let theirs = h.drawn.each other u old in
    let moved : (f : SeatView → ℕ) → f both ≡ f v + f u → f spent ≡ 0 → total f (set (set s.views id both) other spent) ≡ total f s.views =
    (λ f sum zero. let a = total_set f s.views id v both at in let b = total_set f (set s.views id both) other u spent there in omega arith) in
    rearranged e.jobs e.seats s.words s.views (set (set s.views id both) other spent) h
    (moved (λ z. z.members) refl refl)
    (each_set (Fits e.jobs e.seats) (set s.views id both) other spent
    (each_set (Fits e.jobs e.seats) s.views id both h.drawn.each record {
      same = λ _. mine.same sits;
      spent = λ none. absurd (omega arith);
      once = λ k. let a = times-append k v.empty u.empty in let b = mine.once k in let c = theirs.once k in omega arith;
    })
    record { same = λ any. absurd (omega arith); spent = λ _. (refl, refl, refl, refl, refl); once = λ k. omega arith })
    (λ x. moved (λ z. times x z.drawn) (times-append x v.drawn u.drawn) refl) (λ x. moved (λ z. times x z.empty) (times-append x v.empty u.empty) refl)
    (λ x. moved (λ z. times x z.failed) (times-append x v.failed u.failed) refl) (λ x. moved (λ z. times x z.looked) (times-append x v.looked u.looked) refl)
    (λ x. moved (λ z. times x z.skipped) (times-append x v.skipped u.skipped) refl)

pub settle_step : (e : Extent) (slots id : ℕ) (me : Me (Unit {0}) SeatView) (j : ℕ) → 0 < me.0.members → j < me.0.jobs
    → Allows (TableKeepsRule e) slots id me 64 (λ x. min x j) (StepSettles (step slots 64 j 0 none) me)
settle_step e slots id me j sits small s h len at range =
    let v = me.0 in let u : SeatView = has_failed v j in
    let is = extent_of e.jobs e.seats s.words s.views id v h.drawn at sits in
    let mine = h.drawn.each id v at in
    let words : List ℕ = set s.words 64 (min (fault_of s.words) j) in
    let wide : 64 < length s.words = (let l = h.drawn.wide in omega arith) in
    let less : fault_of words ≤ fault_of s.words = (let g : fault_of words ≡ min (fault_of s.words) j = get_or-set_same s.words 64 (min (fault_of s.words) j) 0 wide in omega arith) in
    let same : (f : SeatView → ℕ) → f u ≡ f v → total f (set s.views id u) ≡ total f s.views = (λ f e. let t = total_set f s.views id v u at in omega arith) in (
      u,
      keeps,
      tt,
      record {
        drawn = still_drawn e.jobs e.seats s.words words s.views (set s.views id u) h.drawn (length-set s.words 64 (min (fault_of s.words) j))
            (λ k lt. get_or-set_other s.words 64 (word_of e.seats k) (min (fault_of s.words) j) 0 (let below = word_below e.seats k h.drawn.seats.1 lt in omega arith))
            (same (λ z. z.members) refl)
            (each_set (Fits e.jobs e.seats) s.views id u h.drawn.each record { same = mine.same; spent = λ none. absurd (omega arith); once = mine.once })
            (λ x. same (λ z. times x z.drawn) refl) (λ x. same (λ z. times x z.empty) refl);
        failed = settles e.jobs s.words s.views id v j h.failed wide at (let q = is.0 in omega arith);
        skipped = still_skipped s.words words s.views (set s.views id u) h.skipped less (λ x. same (λ z. times x z.skipped) refl);
      },
      (refl, refl),
    )

-- the view after a look, with which a job may be skipped
look_kept : (e : Extent) (s : State (Unit {0}) SeatView) (id : ℕ) (v u : SeatView) → TableKeepsRule e s → get_elem? s.views id ≡ some v → 0 < v.members
    → u.members ≡ v.members → u.jobs ≡ v.jobs → u.seats ≡ v.seats → u.drawn ≡ v.drawn → u.empty ≡ v.empty → u.failed ≡ v.failed → u.looked ≡ v.looked ++ fault_of s.words ∷ []
    → KeepsSkipped s.words (set s.views id u) → BoardRule e.jobs e.seats s.words (set s.views id u)
look_kept e s id v u h at sits members jobs seats drawn empty failed looked skipped =
    let mine = h.drawn.each id v at in
    let is = mine.same sits in
    let same : (f : SeatView → ℕ) → f u ≡ f v → total f (set s.views id u) ≡ total f s.views = (λ f e. let t = total_set f s.views id v u at in omega arith) in record {
      drawn = still_drawn e.jobs e.seats s.words s.words s.views (set s.views id u) h.drawn refl (λ k lt. refl)
          (same (λ z. z.members) members)
          (each_set (Fits e.jobs e.seats) s.views id u h.drawn.each record {
            same = λ _. (jobs ∙ is.0, seats ∙ is.1);
            spent = λ none. absurd (omega arith);
            once = λ k. let o = mine.once k in let t : times k u.empty ≡ times k v.empty = ap (times k) empty in omega arith;
          })
          (λ x. same (λ z. times x z.drawn) (ap (times x) drawn)) (λ x. same (λ z. times x z.empty) (ap (times x) empty));
      failed = looks e.jobs s.words s.views id v u h.failed at failed looked;
      skipped = skipped;
    }

-- what a look finds
least_found : (e : Extent) (s : State (Unit {0}) SeatView) (id : ℕ) (v : SeatView) → TableKeepsRule e s → get_elem? s.views id ≡ some v → 0 < v.members → IsLeastFound v (fault_of s.words)
least_found e s id v h at sits =
    let is = (h.drawn.each id v at).same sits in record {
      failed = λ x any. let t = le-total (λ (z : SeatView). times x z.failed) s.views id v at in let l = h.failed.least x (omega arith) in ((let a = l.0 in let b = is.0 in omega arith), l.1);
      looked = λ x any.
          let t = le-total (λ (z : SeatView). times x z.looked) s.views id v at in
          let l = h.failed.looked x (omega arith) in
          (l.0, elim l.1 [ inl free ↦ inl free | inr there ↦ inr (let a = (h.failed.least x there).0 in let b = is.0 in omega arith) ]);
    }

pub look_step : (e : Extent) (slots id : ℕ) (me : Me (Unit {0}) SeatView) → 0 < me.0.members
    → Allows (TableKeepsRule e) slots id me 64 (λ x. x) (StepLooks (step slots 64 0 0 none) me)
look_step e slots id me sits s h len at range =
    let v = me.0 in let r = fault_of s.words in let u : SeatView = has_looked v r in
    let same : (f : SeatView → ℕ) → f u ≡ f v → total f (set s.views id u) ≡ total f s.views = (λ f e. let q = total_set f s.views id v u at in omega arith) in (
      u,
      keeps,
      tt,
      subst (λ (ws : List ℕ). BoardRule e.jobs e.seats ws (set s.views id u)) (sym (set-get_or s.words 64 0))
          (look_kept e s id v u h at sits refl refl refl refl refl refl refl
          (still_skipped s.words s.words s.views (set s.views id u) h.skipped (omega arith) (λ x. same (λ z. times x z.skipped) refl))),
      (refl, least_found e s id v h at sits, refl),
    )

pub skip_step : (e : Extent) (slots id : ℕ) (me : Me (Unit {0}) SeatView) (x : ℕ) → 0 < me.0.members
    → Allows (TableKeepsRule e) slots id me 64 (λ n. n) (StepSkips x (step slots 64 0 0 none) me)
skip_step e slots id me x sits s h len at range =
    let v = me.0 in let r = fault_of s.words in let u : SeatView = has_looked_for v x r in
    (u, keeps, tt, subst (λ (ws : List ℕ). BoardRule e.jobs e.seats ws (set s.views id u)) (sym (set-get_or s.words 64 0)) (by_test (ltb r x) refl), (refl, least_found e s id v h at sits, refl))
  where
    v : SeatView
    v = me.0

    r : ℕ
    r = fault_of s.words

    by_test : (b : Bool) → ltb r x ≡ b → BoardRule e.jobs e.seats s.words (set s.views id (cond b (has_skipped (has_looked v r) x) (has_looked v r)))
    by_test true is = look_kept e s id v (has_skipped (has_looked v r) x) h at sits refl refl refl refl refl refl refl (skips s.words s.views id v (has_skipped (has_looked v r) x) x h.skipped at refl (ltb-true r x is))
    by_test false is = look_kept e s id v (has_looked v r) h at sits refl refl refl refl refl refl refl
        (still_skipped s.words s.words s.views (set s.views id (has_looked v r)) h.skipped (omega arith) (λ y. let q = total_set (λ (z : SeatView). times y z.skipped) s.views id v (has_looked v r) at in omega arith))

-- the board at the start
pub begins : (e : Extent) (words : List ℕ) → 0 < e.seats → e.seats ≤ 64 → e.jobs ≤ 2 ^ 40 → length words ≡ 65 → ((k : ℕ) → k < 64 → get_or words k 0 ≡ 0) → fault_of words ≡ no_fault
    → TableKeepsRule e (opening words [] (fresh_view e.seats e.jobs e.seats))
begins e words any few small long zeros fault =
    let f = no_faults e.jobs e.seats words fault in
    record { drawn = opens e.jobs e.seats words any few small long zeros; failed = f.0; skipped = f.1 }

-- who has all members knows all lists
pub learns : (e : Extent) (id : ℕ) (v : SeatView) (s : State (Unit {0}) SeatView) → Seen (TableKeepsRule e) id v s → 0 < v.members → v.members ≡ v.seats → IsWhole v (fault_of s.words)
learns e id v s seen sits whole =
    let h = seen.0 in let at = seen.1 in
    let is = (h.drawn.each id v at).same sits in
    let all_parts : total (λ (z : SeatView). z.members) s.views ≡ v.members = (let p = h.drawn.members in let q = is.1 in omega arith) in
    let mine : (f : SeatView → ℕ) → ((z : SeatView) → HasNoLists z → f z ≡ 0) → total f s.views ≡ f v =
    (λ f zero. total_only (λ (z : SeatView). z.members) f s.views id v (λ j b there none. zero b ((h.drawn.each j b there).spent none)) at all_parts) in
    let drawn : (x : ℕ) → times_drawn x s.views ≡ times x v.drawn = (λ x. mine (λ z. times x z.drawn) (λ z n. ap (times x) n.0)) in
    let empty : (x : ℕ) → times_empty x s.views ≡ times x v.empty = (λ x. mine (λ z. times x z.empty) (λ z n. ap (times x) n.1)) in
    let failed : (x : ℕ) → times_failed x s.views ≡ times x v.failed = (λ x. mine (λ z. times x z.failed) (λ z n. ap (times x) n.2)) in
    let looked : (x : ℕ) → times_looked x s.views ≡ times x v.looked = (λ x. mine (λ z. times x z.looked) (λ z n. ap (times x) n.3)) in
    let skipped : (x : ℕ) → times_skipped x s.views ≡ times x v.skipped = (λ x. mine (λ z. times x z.skipped) (λ z n. ap (times x) n.4)) in record {
      once = λ x. let d = drawn x in let o = drawn_once e.jobs e.seats s.words s.views x h.drawn in let n : once_below x v.jobs ≡ once_below x e.jobs = ap (once_below x) is.0 in omega arith;
      all = λ seen x.
          let c = claimed_all e.seats h.drawn.seats.0 e.jobs (claims_of e.seats s.words) x (λ k lt. (h.drawn.empty k (let a = seen k (let q = is.1 in omega arith) in let b = empty k in omega arith)).1) in
          let n : once_below x v.jobs ≡ once_below x e.jobs = ap (once_below x) is.0 in
          let d = drawn x in let w = h.drawn.drawn x in omega arith;
      found = elim h.failed.found [ inl free ↦ inl free | inr there ↦ inr (let f = failed (fault_of s.words) in omega arith) ];
      least = λ x any. let l = h.failed.least x (let f = failed x in omega arith) in ((let a = l.0 in let b = is.0 in omega arith), l.1);
      looked = λ x any. elim (h.failed.looked x (let f = looked x in omega arith)).1 [ inl free ↦ inl free | inr there ↦ inr (let f = failed x in omega arith) ];
      skipped = λ x any. h.skipped.above x (let f = skipped x in omega arith);
    }

opening_zero : (k : ℕ) → k < 64 → get_or opening_words k 0 ≡ 0
opening_zero k lt = get_or-set_other (replicate 65 0) 64 k no_fault 0 (omega arith) ∙ get_or-replicate 65 k 0 0 (omega arith)

pub begins_so : (e : Extent) (words : List ℕ) → words ≡ opening_words → 0 < e.seats → e.seats ≤ 64 → e.jobs ≤ 2 ^ 40
    → TableKeepsRule e (opening words [] (fresh_view e.seats e.jobs e.seats))
begins_so e words is any few small = subst (λ (ws : List ℕ). TableKeepsRule e (opening ws [] (fresh_view e.seats e.jobs e.seats))) (sym is) (begins e opening_words any few small refl opening_zero refl)

-- one seat is cut off from several
pub splits_as : (e : Extent) (id q n w : ℕ) (v : SeatView) → v ≡ fresh_view q n w → 1 < q → Splits (TableKeepsRule e) id v (fresh_view (v.members - 1) v.jobs v.seats) (fresh_view 1 v.jobs v.seats)
splits_as e id q n w v is more = subst (λ (u : SeatView). Splits (TableKeepsRule e) id u (fresh_view (u.members - 1) u.jobs u.seats) (fresh_view 1 u.jobs u.seats)) (sym is) (splits e id (q - 1) q n w (omega arith) (omega arith))

-- what any seat knows at the end
pub learns_part : (e : Extent) (id : ℕ) (v : SeatView) (s : State (Unit {0}) SeatView) → Seen (TableKeepsRule e) id v s → 0 < v.members → (x : ℕ) → times x v.drawn ≤ once_below x v.jobs
learns_part e id v s seen sits x =
    let h = seen.0 in let at = seen.1 in
    let is = (h.drawn.each id v at).same sits in
    let o = drawn_once e.jobs e.seats s.words s.views x h.drawn in
    let n : once_below x v.jobs ≡ once_below x e.jobs = ap (once_below x) is.0 in
    let m : times x v.drawn ≤ times_drawn x s.views = le-total (λ (z : SeatView). times x z.drawn) s.views id v at in omega arith
