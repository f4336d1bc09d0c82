use Rattle.std.proofs.Common.{◌≡◌, length, map, take}
use Rattle.std.specs.Char.{to_ascii_uppercase}
use Rattle.cm_recognise.proofs.letters.capitals.Given as goal

abbrev pub invariant-loop-byte : goal.invariant-loop-byte
invariant-loop-byte l = record {
  same : l.capitals ≡ map to_ascii_uppercase (take l.byte-index l.text);
  size : length l.capitals ≡ l.byte-index;
}
