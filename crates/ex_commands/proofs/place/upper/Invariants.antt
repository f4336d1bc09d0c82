use Rattle.std.proofs.Common.{◌≡◌, take, map}
use Rattle.std.specs.Char.{to_ascii_uppercase}
use Rattle.cm_files.specs.Spec.{part}
use Rattle.ex_commands.proofs.place.upper.Given as goal

abbrev pub invariant-loop-byte : goal.invariant-loop-byte
invariant-loop-byte l = record {
  items : l.byte-items ≡ part l.text l.fn.place;
  name : l.name ≡ map to_ascii_uppercase (take l.byte-index l.byte-items);
}
