-- Logical names are short.
use Rattle.std.proofs.Common.{◌≡◌, ◌≤◌, ℕ, List, true, length, arith}
use Rattle.std.proofs.lemmas.Bool.Decides.{nat_tests}
use Rattle.cm_text.specs.declared.name.TheConstants.{NAME_LIMIT}
use Rattle.cm_files.specs.LogicalName.{is_logical_name}

-- a logical name has at most as many bytes as any name
pub short_name : (name : List ℕ) → is_logical_name name ≡ true → length name ≤ NAME_LIMIT
unfolding is_logical_name
short_name name is = grind (arith, nat_tests)
