use Rattle.std.proofs.Common.{◌≡◌, ◌++◌, take}
use Rattle.std.specs.List.{flat_map}
use Rattle.cm_io_tests.specs.Texts.{byte_meaning}
use Rattle.cm_io_tests.proofs.text.push_meaning.Given as goal

-- those so far are put
abbrev pub invariant-loop-byte : goal.invariant-loop-byte
invariant-loop-byte l = l.bytes.items ≡ l.fn.bytes.items ++ flat_map byte_meaning (take l.byte-index l.text)
