use Rattle.std.proofs.Common.{◌≡◌, ◌-◌, ℕ, [], take, drop, ap, arith}
use Rattle.block.specs.BuilderView.{last_key}
use Rattle.keep.specs.Sizes.{later_entries_size}
use Rattle.cut.proofs.walk.fitting.Goals as goal

pub loop-fits-init : goal.loop-fits-init
loop-fits-init c =
    let none : 0 ≡ c.args.place - c.args.place = omega arith in record {
      rises = omega arith;
      ends = c.requires.rises;
      within = omega arith;
      after = λ lt. lt;
      before = omega arith;
      room = c.requires.room;
      len = ap (λ (n : ℕ). later_entries_size (last_key [] (take c.args.place c.args.slice.now)) (take n (drop c.args.place c.args.slice.now))) none;
    }
