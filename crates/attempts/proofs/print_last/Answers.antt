use Rattle.std.proofs.Math.ListN.{replicate}
use Rattle.attempts.proofs.Shown.{shown, last-fits}
use Rattle.attempts.proofs.print_last.Goals as goal

pub returns : goal.returns
returns g c =
    let a = c.args in
    let fits = last-fits a.broken a.registries a.credentials c.ranges.registries.fits c.ranges.credentials.fits in
    let value = c.write_last-n.ensures.value in
    let e = shown (replicate 80 0) c.write_last-n.new.out _ c.write_last-n.result fits value.0 value.1 in
    rw e at c.write_all.ensures.bytes
