-- What `?` says of one of some numbers.
use Rattle.std.specs.Prelude.{ℕ, List, ◌++◌, codes}
use Rattle.cm_fields.specs.Numbers.{number_text}
use Rattle.cm_fields.specs.declared.numbers.Numbers.{Numbers}
use Rattle.cm_fields.specs.declared.numbers.Radix.{Radix}
use Rattle.cm_fields.specs.declared.numbers.Radix.TheVariants.{Octal, Decimal, Hexadecimal}

-- a number of a radix, which is told where it is not decimal
unfoldable pub radix_phrase : Radix → List ℕ
radix_phrase Octal = codes "octal number from "
radix_phrase Decimal = codes "number from "
radix_phrase Hexadecimal = codes "hexadecimal number from "

unfoldable pub range_join : List ℕ
range_join = codes " to "

-- the ends are written in the radix
unfoldable pub numbers_phrase : Numbers → List ℕ
numbers_phrase numbers =
    radix_phrase numbers.radix ++ number_text numbers.radix numbers.least
    ++ range_join ++ number_text numbers.radix numbers.most
