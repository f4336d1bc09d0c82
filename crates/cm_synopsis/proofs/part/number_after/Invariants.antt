use Rattle.std.proofs.Common.{◌≡◌, drop}
use Rattle.cm_synopsis.specs.Parts.{number_after}
use Rattle.cm_synopsis.proofs.part.number_after.Given as goal

abbrev pub invariant-loop-byte : goal.invariant-loop-byte
invariant-loop-byte l = number_after l.number (drop l.byte-index l.digits) ≡ number_after 0 l.digits
