use Rattle.std.proofs.Common.{◌≡◌, ◌≤◌, ◌<◌, ◌-◌, [], take, drop}
use Rattle.block.specs.BuilderView.{last_key}
use Rattle.keep.specs.Sizes.{later_entries_size}
use Rattle.cut.proofs.walk.fitting.Given as goal

abbrev pub invariant-loop-fits : goal.invariant-loop-fits
invariant-loop-fits l = record {
  rises : l.place ≤ l.fits;
  ends : l.fits ≤ l.end;
  within : l.end ≤ l.fn.end;
  after : l.fits < l.end → l.fits < l.probe;
  before : l.probe ≤ l.end;
  room : l.len < l.room;
  len : l.len ≡ later_entries_size (last_key [] (take l.place l.slice)) (take (l.fits - l.place) (drop l.place l.slice));
}

abbrev pub decreases-loop-fits : goal.decreases-loop-fits
decreases-loop-fits l = l.end - l.fits
