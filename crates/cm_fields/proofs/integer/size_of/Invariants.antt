use Rattle.std.proofs.Common.{◌≡◌, ◌≤◌, take}
use Rattle.std.specs.Str.Parse.{digits_value}
use Rattle.cm_fields.specs.declared.digits.TheConstants.{NUMBER_LIMIT}
use Rattle.cm_fields.proofs.integer.size_of.Given as goal

abbrev pub invariant-loop-digit : goal.invariant-loop-digit
invariant-loop-digit l = record {
  value : l.size ≡ digits_value l.base (take l.digit-index l.digits);
  small : l.size ≤ NUMBER_LIMIT;
}
