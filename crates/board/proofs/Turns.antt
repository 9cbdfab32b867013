-- The order in which a seat goes over the shares, and what it draws on its way.
use Rattle.std.proofs.Common.{◌≡◌, ◌≢◌, ℕ, zero, suc, ◌+◌, ◌-◌, ◌<◌, ◌≤◌, ◌^◌, ◌%◌, List, [], ◌∷◌, ◌++◌, length, refl, sym, ap, ◌∙◌, subst, arith, length-append, add-one, mod-eq_of_lt, mod-lt}
use native.Mathlib.Decide.{dec_le}
use native.Mathlib.Nat.{add-mod_right}
use Rattle.atomic_table.specs.Table.{Me}
use Rattle.atomic_table.specs.Seated.{TableId}
use Rattle.atomic_table.proofs.Lists.{one_turn}
use Rattle.board.specs.declared.rule.SeatView.{SeatView}
use Rattle.board.specs.Shares.{times, one_if_same, share_in_turn, IsInShare}
use Rattle.board.specs.Progress.{Progress, shares_in_turn, SeesInTurn, after_draw, DrawsJob, DrawsNone}
use Rattle.board.specs.Rule.{fresh_view, view_after_draw, saw_empty}
use Rattle.board.specs.Seats.{progress_of, IsSeated, IsCounted}
use Rattle.board.proofs.Sums.{times-snoc, other_zero, same_one}

pub length-shares_in_turn : (w s m : ℕ) → length (shares_in_turn w s m) ≡ m
length-shares_in_turn w s zero = refl
length-shares_in_turn w s (suc m) = let e = length-shares_in_turn w s m in omega (arith, length-append (shares_in_turn w s m) (share_in_turn w s m ∷ []))

apart : (w s i m : ℕ) → i < m → m < w → share_in_turn w s m ≢ share_in_turn w s i
apart w s i m lt few same = let e : s + i ≡ s + m = one_turn (s + i) (s + m) w (omega arith) (omega arith) (sym same) in omega arith

not_before : (w s m i : ℕ) → i ≤ m → m < w → times (share_in_turn w s m) (shares_in_turn w s i) ≡ 0
not_before w s m zero le few = refl
not_before w s m (suc i) le few =
    let e = not_before w s m i (omega arith) few in
    let a = times-snoc (share_in_turn w s m) (shares_in_turn w s i) (share_in_turn w s i) in
    let o = other_zero (share_in_turn w s m) (share_in_turn w s i) (apart w s i m (omega arith) few) in omega arith

-- the next share was not passed yet
pub turn_new : (w s m : ℕ) → m < w → times (share_in_turn w s m) (shares_in_turn w s m) ≡ 0
turn_new w s m few = not_before w s m m (omega arith) few

among : (w s k i m : ℕ) → i < m → share_in_turn w s i ≡ k → 0 < times k (shares_in_turn w s m)
among w s k i zero lt is = absurd (omega arith)
among w s k i (suc m) lt is =
    let a = times-snoc k (shares_in_turn w s m) (share_in_turn w s m) in
    elim (dec_le m i) [
      | yes le ↦
          let same : i ≡ m = omega arith in
          let o : one_if_same k (share_in_turn w s m) ≡ 1 = ap (λ (j : ℕ). one_if_same k (share_in_turn w s j)) (sym same) ∙ ap (λ (j : ℕ). one_if_same k j) is ∙ same_one k in omega arith
      | no above ↦ (let e = among w s k i m (omega arith) is in omega arith)
    ]

-- all shares are passed in the end
pub turns_all : (w s k : ℕ) → s < w → k < w → 0 < times k (shares_in_turn w s w)
turns_all w s k sl kl = elim (dec_le s k) [
  | yes le ↦ among w s k (k - s) w (omega arith) (let e : s + (k - s) ≡ k = omega arith in ap (λ (j : ℕ). j % w) e ∙ mod-eq_of_lt kl)
  | no above ↦ among w s k (k + w - s) w (omega arith) (let e : s + (k + w - s) ≡ k + w = omega arith in ap (λ (j : ℕ). j % w) e ∙ add-mod_right k w ∙ mod-eq_of_lt kl)
]

-- a share was seen empty
pub passes : (number passed jobs seats : ℕ) (me me' : Me (Unit {0}) SeatView) → IsSeated number passed jobs seats me → passed < seats → me'.0 ≡ saw_empty me.0 (share_in_turn seats number passed) → me'.1 ≡ me.1
    → IsSeated number (passed + 1) jobs seats me'
passes number passed jobs seats me me' h lt is slots = record {
  slots = slots ∙ h.slots;
  one = ap (λ (v : SeatView). v.members) is ∙ h.one;
  extent = (ap (λ (v : SeatView). v.jobs) is ∙ h.extent.0, ap (λ (v : SeatView). v.seats) is ∙ h.extent.1);
  within = h.within;
  few = h.few;
  passes = omega arith;
  empty = ap (λ (v : SeatView). v.empty) is ∙ ap (λ (xs : List ℕ). xs ++ share_in_turn seats number passed ∷ []) h.empty ∙ ap (shares_in_turn seats number) (sym (add-one passed));
}

-- the shares that a seat has passed are those that it has seen empty
pub sees_in_turn : (number passed jobs seats : ℕ) (t : TableId) (me : Me (Unit {0}) SeatView) (ds : List ℕ) → IsSeated number passed jobs seats me → SeesInTurn (progress_of t number me.0 ds)
sees_in_turn number passed jobs seats t me ds h =
    let el : passed ≡ length me.0.empty = sym (ap length h.empty ∙ length-shares_in_turn seats number passed) in
    h.empty ∙ (λ i. shares_in_turn (sym h.extent.1 i) number (el i))

-- a number was drawn of share k, which is the next one in turn
pub draws_job : (p : Progress) (x k number passed jobs seats : ℕ) (t t' : TableId) (me : Me (Unit {0}) SeatView) (v' : SeatView) (ds : List ℕ)
    → IsSeated number passed jobs seats me → k ≡ share_in_turn seats number passed → passed < seats → progress_of t number me.0 ds ≡ after_draw p p.drawn me.0.empty → length p.empty ≤ passed → SeesInTurn p
    → t' ≡ t → v' ≡ view_after_draw me.0 x → IsInShare seats k x → (x < jobs) × (times x me.0.drawn ≡ 0)
    → DrawsJob p x (progress_of t' number v' ds)
draws_job p x k number passed jobs seats t t' me v' ds h next lt so more before et ev share new =
    let ej : jobs ≡ p.board.jobs = sym h.extent.0 ∙ ap (λ (q : Progress). q.board.jobs) so in
    let es : seats ≡ p.board.seats = sym h.extent.1 ∙ ap (λ (q : Progress). q.board.seats) so in
    let en : number ≡ p.number = ap (λ (q : Progress). q.number) so in
    let el : passed ≡ length me.0.empty = sym (ap length h.empty ∙ length-shares_in_turn seats number passed) in
    let ek : k ≡ share_in_turn p.board.seats p.number (length me.0.empty) = next ∙ (λ i. share_in_turn (es i) (en i) (el i)) in
    let ed : me.0.drawn ≡ p.drawn = ap (λ (q : Progress). q.drawn) so in
    subst (λ (z : TableId × SeatView). DrawsJob p x (progress_of z.0 number z.1 ds)) (λ i. (sym et i, sym ev i)) record {
      drawn = ap (λ (q : Progress). after_draw q (q.drawn ++ x ∷ []) q.empty) so;
      new = (omega (arith, new.0), sym (ap (times x) ed) ∙ new.1);
      empty = (before, omega arith, sees_in_turn number passed jobs seats t me ds h, omega arith);
      share = subst (λ (z : ℕ × ℕ). IsInShare z.0 z.1 x) (λ i. (es i, ek i)) share;
    }

-- a seat that has passed some shares may claim from the next one
pub may_claim : (number passed jobs seats k : ℕ) (me : Me (Unit {0}) SeatView) → IsSeated number passed jobs seats me → k ≡ share_in_turn seats number passed → passed < seats
    → (k < seats) × (times k me.0.empty < me.0.members)
may_claim number passed jobs seats k me h is lt =
    let t = turn_new seats number passed lt in let e : times k me.0.empty ≡ times (share_in_turn seats number passed) (shares_in_turn seats number passed) = (λ i. times (is i) (h.empty i)) in
    let below : share_in_turn seats number passed < seats = mod-lt (number + passed) (omega arith) in
    let o = h.one in (omega arith, omega arith)

-- a new seat
pub seats_new : (number jobs seats : ℕ) (me : Me (Unit {0}) SeatView) → me ≡ (fresh_view 1 jobs seats, []) → number < seats → seats ≤ 64 → jobs ≤ 2 ^ 40 → IsSeated number 0 jobs seats me
seats_new number jobs seats me is lt few small =
    subst (IsSeated number 0 jobs seats) (sym is) record { slots = refl; one = refl; extent = (refl, refl); within = lt; few = (few, small); passes = omega arith; empty = refl }

pub counts_new : (jobs seats : ℕ) (me : Me (Unit {0}) SeatView) (done : List ℕ) → me ≡ (fresh_view 1 jobs seats, []) → done ≡ [] → IsCounted me.0 done 0 0 0
counts_new jobs seats me done is none =
    subst (λ (z : Me (Unit {0}) SeatView × List ℕ). IsCounted z.0.0 z.1 0 0 0) (λ i. (sym is i, sym none i)) record { within = λ x any. absurd (omega arith); once = λ x. omega arith; spent = λ x. omega arith; counts = (refl, refl, refl) }

pub before_draw : (p : Progress) (number passed jobs seats : ℕ) (t : TableId) (me : Me (Unit {0}) SeatView) (ds : List ℕ) → IsSeated number passed jobs seats me → progress_of t number me.0 ds ≡ p
    → (progress_of t number me.0 ds ≡ after_draw p p.drawn me.0.empty) × (length p.empty ≤ passed) × SeesInTurn p
before_draw p number passed jobs seats t me ds h is =
    let e : p.empty ≡ me.0.empty = sym (ap (λ (q : Progress). q.empty) is) in
    let l : length p.empty ≡ passed = ap length (e ∙ h.empty) ∙ length-shares_in_turn seats number passed in
    (is ∙ ap (λ (xs : List ℕ). after_draw p p.drawn xs) e, omega arith, subst SeesInTurn is (sees_in_turn number passed jobs seats t me ds h))

pub after_pass : (p : Progress) (number k : ℕ) (t t' : TableId) (v v' : SeatView) (ds : List ℕ) → progress_of t number v ds ≡ after_draw p p.drawn v.empty → t' ≡ t → v' ≡ saw_empty v k
    → progress_of t' number v' ds ≡ after_draw p p.drawn v'.empty
after_pass p number k t t' v v' ds so et ev =
    subst (λ (z : TableId × SeatView). progress_of z.0 number z.1 ds ≡ after_draw p p.drawn z.1.empty) (λ i. (sym et i, sym ev i)) (ap (λ (q : Progress). after_draw q q.drawn (v.empty ++ k ∷ [])) so)

-- nothing was drawn
pub draws_none : (p : Progress) (number passed jobs seats : ℕ) (t : TableId) (me : Me (Unit {0}) SeatView) (ds : List ℕ) → IsSeated number passed jobs seats me → seats ≤ passed
    → progress_of t number me.0 ds ≡ after_draw p p.drawn me.0.empty → length p.empty ≤ passed → SeesInTurn p → DrawsNone p (progress_of t number me.0 ds)
draws_none p number passed jobs seats t me ds h all so more before =
    let es : seats ≡ p.board.seats = sym h.extent.1 ∙ ap (λ (q : Progress). q.board.seats) so in
    let el : length me.0.empty ≡ passed = ap length h.empty ∙ length-shares_in_turn seats number passed in
    let ep : passed ≡ seats = (let m = h.passes in omega arith) in record {
      same = so;
      empty = (before, omega arith, sees_in_turn number passed jobs seats t me ds h);
      each = λ k lt.
          let e : times k me.0.empty ≡ times k (shares_in_turn seats number seats) = ap (times k) (h.empty ∙ ap (shares_in_turn seats number) ep) in
          let a = turns_all seats number k h.within (omega arith) in omega arith;
    }
