use Rattle.std.proofs.Common.{◌≤◌, length}
use Rattle.ex_image.specs.Grammar.{Makes}
use Rattle.ex_image.proofs.decoding.read.Given as goal

abbrev pub invariant-loop-rest : goal.invariant-loop-rest
invariant-loop-rest l = record {
  makes : Makes l.bytes l.reading l.rest;
  within : length l.rest ≤ length l.bytes;
}

abbrev pub decreases-loop-rest : goal.decreases-loop-rest
decreases-loop-rest l = length l.rest
