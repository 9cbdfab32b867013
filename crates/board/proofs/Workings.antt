-- What a worker's calls leave.
use Rattle.std.proofs.Common.{◌≡◌, inl, inr, ℕ, zero, suc, ◌+◌, ◌-◌, ◌<◌, ◌≤◌, List, [], ◌∷◌, ◌++◌, map, All, Option, Some, refl, sym, ap, ◌∙◌, subst, arith}
use Rattle.std.proofs.lemmas.List.Elements.{All-append, All-nil}
use mathlib.Core.List.{map-append}
use Rattle.coding.specs.declared.fault.Fault.{Fault}
use Rattle.board.specs.declared.shift.Shift.{Shift}
use Rattle.board.specs.Shares.{times}
use Rattle.board.specs.Progress.{Layout, Progress, after_done, after_fail, after_look, after_skip, DrawsJob, DrawsNone, HasEachShare, unused_seat, unused_seats}
use Rattle.board.specs.RunAnswer.{IsFaultOf, IsResult}
use Rattle.board.specs.WorkerResult.{IsLeastFailed, IsWorking}
use Rattle.board.proofs.Sums.{times-snoc, same_tells, same_one}

pub all_one : {A : Type 0} (P : A → Type 0) (x : A) → P x → All P (x ∷ [])
all_one P x h zero d lt = h
all_one P x h (suc k) d lt = absurd (omega arith)

module _ {O : Type 0} (refusal : ℕ → Option Fault) (gives : ℕ → O → Type 0) (b : Layout) (s s' : Shift O) where
  pub works_fail : (j : ℕ) → IsWorking refusal gives b (j ∷ []) s → s'.seat ≡ after_fail s.seat j → s'.results.items ≡ s.results.items → IsLeastFailed refusal (s.seat.failed ++ j ∷ []) s'.refused → IsWorking refusal gives b [] s'
  works_fail j h seat results refused = record {
    due = λ x any. absurd (omega arith);
    within = λ x any. h.within x (let e : times x s'.seat.done ≡ times x s.seat.done = ap (λ (p : Progress). times x p.done) seat in omega arith);
    board = ap (λ (p : Progress). p.board) seat ∙ h.board;
    spent = λ x.
        let q = h.spent x in let e = times-snoc x s.seat.failed j in
        subst (λ (p : Progress). times x p.drawn ≤ (times x p.done + times x p.failed + times x p.skipped) + 0) (sym seat) (omega arith);
    done = ap (λ (p : Progress). p.done) seat ∙ h.done ∙ ap (map (λ (r : ℕ × O). r.0)) (sym results);
    results = subst (All (IsResult refusal gives)) (sym results) h.results;
    refused = subst (λ (xs : List ℕ). IsLeastFailed refusal xs s'.refused) (sym (ap (λ (p : Progress). p.failed) seat)) refused;
  }

  pub works_done : (j y : ℕ) (out : O) → IsWorking refusal gives b (j ∷ []) s → s'.seat ≡ after_done (after_look s.seat y) j → s'.results.items ≡ s.results.items ++ (j, out) ∷ [] → s'.refused ≡ s.refused → IsResult refusal gives (j, out) → IsWorking refusal gives b [] s'
  works_done j y out h seat results refused is = record {
    due = λ x any. absurd (omega arith);
    within = λ x any.
        let e : times x s'.seat.done ≡ times x (s.seat.done ++ j ∷ []) = ap (λ (p : Progress). times x p.done) seat in let t = times-snoc x s.seat.done j in
        elim (same_tells x j) [ inl q ↦ h.due x (let a = q.0 in omega arith) | inr q ↦ h.within x (let a = q.0 in omega arith) ];
    board = ap (λ (p : Progress). p.board) seat ∙ h.board;
    spent = λ x.
        let q = h.spent x in let e = times-snoc x s.seat.done j in
        subst (λ (p : Progress). times x p.drawn ≤ (times x p.done + times x p.failed + times x p.skipped) + 0) (sym seat) (omega arith);
    done = ap (λ (p : Progress). p.done) seat ∙ ap (λ (xs : List ℕ). xs ++ j ∷ []) h.done ∙ sym (map-append (λ (r : ℕ × O). r.0) s.results.items ((j, out) ∷ [])) ∙ ap (map (λ (r : ℕ × O). r.0)) (sym results);
    results = subst (All (IsResult refusal gives)) (sym results) (All-append (IsResult refusal gives) s.results.items ((j, out) ∷ []) h.results (all_one (IsResult refusal gives) (j, out) is));
    refused = subst (λ (z : List ℕ × Option (ℕ × Fault)). IsLeastFailed refusal z.0 z.1) (λ i. (sym (ap (λ (p : Progress). p.failed) seat) i, sym refused i)) h.refused;
  }

  pub works_skip : (j y : ℕ) → IsWorking refusal gives b (j ∷ []) s → s'.seat ≡ after_skip (after_look s.seat y) j → s'.results.items ≡ s.results.items → s'.refused ≡ s.refused → IsWorking refusal gives b [] s'
  works_skip j y h seat results refused = record {
    due = λ x any. absurd (omega arith);
    within = λ x any. h.within x (let e : times x s'.seat.done ≡ times x s.seat.done = ap (λ (p : Progress). times x p.done) seat in omega arith);
    board = ap (λ (p : Progress). p.board) seat ∙ h.board;
    spent = λ x.
        let q = h.spent x in let e = times-snoc x s.seat.skipped j in
        subst (λ (p : Progress). times x p.drawn ≤ (times x p.done + times x p.failed + times x p.skipped) + 0) (sym seat) (omega arith);
    done = ap (λ (p : Progress). p.done) seat ∙ h.done ∙ ap (map (λ (r : ℕ × O). r.0)) (sym results);
    results = subst (All (IsResult refusal gives)) (sym results) h.results;
    refused = subst (λ (z : List ℕ × Option (ℕ × Fault)). IsLeastFailed refusal z.0 z.1) (λ i. (sym (ap (λ (p : Progress). p.failed) seat) i, sym refused i)) h.refused;
  }

  -- the seat looked, or drew nothing
  pub works_still : (due : List ℕ) → IsWorking refusal gives b due s → s'.seat.board ≡ s.seat.board → s'.seat.drawn ≡ s.seat.drawn → s'.seat.done ≡ s.seat.done → s'.seat.failed ≡ s.seat.failed → s'.seat.skipped ≡ s.seat.skipped
      → s'.results.items ≡ s.results.items → s'.refused ≡ s.refused → IsWorking refusal gives b due s'
  works_still due h board drawn done failed skipped results refused = record {
    due = h.due;
    within = λ x any. h.within x (let e : times x s'.seat.done ≡ times x s.seat.done = ap (times x) done in omega arith);
    board = board ∙ h.board;
    spent = λ x.
        let q = h.spent x in
        let a : times x s'.seat.drawn ≡ times x s.seat.drawn = ap (times x) drawn in let e : times x s'.seat.done ≡ times x s.seat.done = ap (times x) done in
        let f : times x s'.seat.failed ≡ times x s.seat.failed = ap (times x) failed in let k : times x s'.seat.skipped ≡ times x s.seat.skipped = ap (times x) skipped in omega arith;
    done = done ∙ h.done ∙ ap (map (λ (r : ℕ × O). r.0)) (sym results);
    results = subst (All (IsResult refusal gives)) (sym results) h.results;
    refused = subst (λ (z : List ℕ × Option (ℕ × Fault)). IsLeastFailed refusal z.0 z.1) (λ i. (sym failed i, sym refused i)) h.refused;
  }

  pub works_none : IsWorking refusal gives b [] s → DrawsNone s.seat s'.seat → s'.results.items ≡ s.results.items → s'.refused ≡ s.refused → IsWorking refusal gives b [] s'
  works_none h none results refused =
      let n = none.same in
      works_still [] h (ap (λ (p : Progress). p.board) n) (ap (λ (p : Progress). p.drawn) n) (ap (λ (p : Progress). p.done) n) (ap (λ (p : Progress). p.failed) n) (ap (λ (p : Progress). p.skipped) n) results refused

  pub works_draw : (x : ℕ) → IsWorking refusal gives b [] s → DrawsJob s.seat x s'.seat → s'.results.items ≡ s.results.items → s'.refused ≡ s.refused → IsWorking refusal gives b (x ∷ []) s'
  works_draw x h d results refused = record {
    due = λ y any. elim (same_tells y x) [ inl q ↦ (let a = q.1 in let n = d.new.0 in let b' : s.seat.board.jobs ≡ b.jobs = ap (λ (l : Layout). l.jobs) h.board in omega arith) | inr q ↦ absurd (let a = q.0 in omega arith) ];
    within = λ y any. h.within y (let e : times y s'.seat.done ≡ times y s.seat.done = ap (λ (p : Progress). times y p.done) d.drawn in omega arith);
    board = ap (λ (p : Progress). p.board) d.drawn ∙ h.board;
    spent = λ y.
        let q = h.spent y in let e = times-snoc y s.seat.drawn x in
        subst (λ (p : Progress). times y p.drawn ≤ (times y p.done + times y p.failed + times y p.skipped) + times y (x ∷ [])) (sym d.drawn) (omega arith);
    done = ap (λ (p : Progress). p.done) d.drawn ∙ h.done ∙ ap (map (λ (r : ℕ × O). r.0)) (sym results);
    results = subst (All (IsResult refusal gives)) (sym results) h.results;
    refused = subst (λ (z : List ℕ × Option (ℕ × Fault)). IsLeastFailed refusal z.0 z.1) (λ i. (sym (ap (λ (p : Progress). p.failed) d.drawn) i, sym refused i)) h.refused;
  }

-- a job that failed is the least of itself alone
pub least_one : (refusal : ℕ → Option Fault) (number : ℕ) (fault : Fault) → IsFaultOf refusal number fault → IsLeastFailed refusal (number ∷ []) (Some (number, fault))
least_one refusal number fault is = (
  (let o = same_one number in omega arith),
  (λ x any. elim (same_tells x number) [ inl t ↦ (let a = t.1 in omega arith) | inr t ↦ absurd (let a = t.0 in omega arith) ]),
  is,
)

-- a seat that draws nothing has seen each share empty
pub none_all : (p q : Progress) (b : Layout) → DrawsNone p q → p.board ≡ b → HasEachShare b.seats q.empty
none_all p q b none board = subst (λ (l : Layout). HasEachShare l.seats q.empty) board none.each

-- the seats of a new board are its own
pub unused_boards : (b : Layout) (m : ℕ) → All (λ p. p.board ≡ b) (unused_seats b m)
unused_boards b zero = All-nil (λ p. p.board ≡ b)
unused_boards b (suc m) = All-append (λ p. p.board ≡ b) (unused_seats b m) (unused_seat b m ∷ []) (unused_boards b m) (all_one (λ p. p.board ≡ b) (unused_seat b m) refl)

-- the last seat is made
pub all_made : (b : Layout) (w number : ℕ) (ps ps' : List Progress) (p : Progress) → 0 < w → number ≡ w - 1 → ps ≡ unused_seats b number → p ≡ unused_seat b (w - 1) → ps' ≡ ps ++ p ∷ [] → ps' ≡ unused_seats b w
all_made b w number ps ps' p any last made is all =
    let n : suc number ≡ w = omega arith in
    all ∙ (λ i. made i ++ (is ∙ ap (unused_seat b) (sym last)) i ∷ []) ∙ ap (unused_seats b) n
