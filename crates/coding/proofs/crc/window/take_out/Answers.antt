use Rattle.std.proofs.Common.{◌≡◌, ◌≤◌, ◌+◌, ◌*◌, ◌/◌, [], length, take, get_or, slice_get, None, Some, refl, sym, ap, ap₂, ◌∙◌, arith}
use Rattle.std.specs.List.{concat}
use Rattle.std.specs.Option.{option_copied}
use Rattle.coding.specs.CrcRegister.{register_after_steps}
use Rattle.coding.specs.CrcWindow.{IsRegisterOf, register_of_taken, the_lags}
use Rattle.coding.proofs.CrcKernel.{fed_none}
use Rattle.coding.proofs.CrcWindows.{fed, moved, pairs_more, pairs_end, is_one, one_left, none_left}
use Rattle.coding.proofs.crc.window.take_out.Goals as goal
use Rattle.coding.proofs.crc.window.take_out.Goals.{in-Some, in_default}

pub loop-pair-init : goal.loop-pair-init
loop-pair-init c = record {
  place = refl;
  len = c.told-taken;
  stands = λ r first. first ∙ ap (register_after_steps 2128) (sym (fed_none r));
}

pub loop-pair-preserved : goal.loop-pair-preserved
loop-pair-preserved c =
    let chunks = c.args.chunks.now in
    let i = c.loop-pair.pair-index in
    let place = c.loop-pair.place in
    record {
      place = omega (arith, c.loop-pair.invariant.place);
      len = c.take_pair.array_long;
      stands = λ r first.
          pairs_more c.loop-pair.taken c.take_pair.new.taken chunks (get_or c.as_chunks.result.0.now i []) i (length chunks / 2) place (place + 32) c.as_chunks.result.0.now
          c.as_chunks.ensures.front refl (omega (arith, c.loop-pair-test.true, c.as_chunks.ensures.front_len)) refl
          c.take_pair.ensures r (c.loop-pair.invariant.stands r first);
    }

pub returns : goal.returns
returns c r first =
    let chunks = c.args.chunks.now in
    let last = c.as_chunks.result.1.now in
    let i = c.loop-pair.pair-index in
    let place = c.loop-pair.place in
    let whole = fed r (concat chunks) in
    let done = fed r (concat (take (2 * i) chunks)) in
    let all : i ≡ length chunks / 2 = omega (arith, c.loop-pair-test.false, c.loop-pair.auto.pair-index-end, c.as_chunks.ensures.front_len) in
    let few : length last ≤ 1 = omega (arith, c.as_chunks.ensures.back_len) in
    let rest : fed done (concat last) ≡ whole = pairs_end r i (length chunks / 2) chunks last all c.as_chunks.ensures.back in
    let stands : IsRegisterOf (take place c.loop-pair.taken) done = c.loop-pair.invariant.stands r first in
    ap (λ t. register_of_taken the_lags (take 266 t)) c.copy_within.ensures.after
    ∙ moved c.match-first.place whole c.match-first.taken
    (elim c.match-first.branch [
      | in-Some w ↦ omega (arith, w.place-is, c.loop-pair.invariant.place)
      | in_default w ↦ omega (arith, w.place-is, c.loop-pair.invariant.place)
    ])
    (elim c.match-first.branch [
      | in-Some w ↦
          let one : slice_get last 0 ≡ Some w.in-Some.chunk.now = sym c.first.ensures.value ∙ ap option_copied w.in-Some.is in
          omega (arith, w.place-is, c.loop-pair.invariant.place, c.match-first.array_long, all, is_one last w.in-Some.chunk.now one, c.as_chunks.ensures.back_len, c.requires)
      | in_default w ↦ omega (arith, w.place-is, c.loop-pair.invariant.place, c.match-first.array_long, all, c.requires)
    ])
    (elim c.match-first.branch [
      | in-Some w ↦
          let one : slice_get last 0 ≡ Some w.in-Some.chunk.now = sym c.first.ensures.value ∙ ap option_copied w.in-Some.is in
          ap₂ (λ n t. register_of_taken the_lags (take n t)) w.place-is w.taken-is
          ∙ w.take_one.ensures done stands
          ∙ ap (register_after_steps 2128) (ap (fed done) (one_left last w.in-Some.chunk.now few one) ∙ rest)
      | in_default w ↦
          let none : slice_get last 0 ≡ None = sym c.first.ensures.value ∙ ap option_copied w.in_default.is in
          ap₂ (λ n t. register_of_taken the_lags (take n t)) w.place-is w.taken-is
          ∙ stands
          ∙ ap (register_after_steps 2128) (sym (fed_none done) ∙ ap (fed done) (sym (none_left last none)) ∙ rest)
    ])
