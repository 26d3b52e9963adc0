-- What is raised so far, and what is to be raised of the rest, is each count with its test.
use Rattle.std.proofs.Common.{◌≡◌, ◌++◌, length, take, drop, true}
use Rattle.tally.specs.Counts.{plus_of, each_plus}
use Rattle.tally.proofs.Count.count.Given as goal

abbrev pub invariant-loop-i : goal.invariant-loop-i
invariant-loop-i g l =
    record { all : l.self.all ≡ plus_of l.fn.self.all true; same_length : length l.self.held ≡ g.row.K; held : take l.i l.self.held ++ each_plus (drop l.i l.self.held) (drop l.i l.tests) ≡ each_plus l.fn.self.held l.tests }
