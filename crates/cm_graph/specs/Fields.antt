-- The blocks that read a field.
use Rattle.std.specs.Prelude.{ℕ, ◌+◌, false, min, List, Option, Some, None, pos}
use Rattle.cm_fields.specs.declared.numbers.Radix.TheVariants.{Decimal}
use Rattle.cm_synopsis.specs.declared.field.Kind.{Kind}
use Rattle.cm_synopsis.specs.declared.field.Kind.TheVariants.{Class, Date, Ipv4, Ipv4Prefix, Ipv6, Ipv6Prefix, Listed, Mac, Number, Quoted, Rest, Word}
use Rattle.cm_blocks.specs.Words.{block}
use Rattle.cm_blocks.specs.declared.function.Function.{Function}
use Rattle.cm_blocks.specs.declared.function.Function.TheVariants as functions
use Rattle.cm_blocks.specs.declared.function.Role.TheVariants as roles
use Rattle.cm_blocks.specs.declared.node.Block.{Block}

-- any number, or those of a range
abbrev pub numbers_of : Option (ℕ × ℕ) → Function
numbers_of None = functions.Number
numbers_of (Some range) =
    functions.Numeral (record { radix = Decimal; signed = false; least = pos range.0; most = pos range.1 })

-- the hook of a list by its number: lists behind the last of 250 share its hook
abbrev pub hook_of : ℕ → ℕ
hook_of list = 5 + min list 250

-- what reads a kind of field, where numbers have this range
abbrev pub function_of : Option (ℕ × ℕ) → Kind → Function
function_of range Number = numbers_of range
function_of range Word = functions.Word
function_of range Quoted = functions.LongQuoted
function_of range Date = functions.Date
function_of range Rest = functions.Text
function_of range Ipv4 = functions.Hook 0
function_of range Ipv4Prefix = functions.Hook 1
function_of range Ipv6 = functions.Hook 2
function_of range Ipv6Prefix = functions.Hook 3
function_of range Mac = functions.Hook 4
function_of range (Listed list) = functions.Hook (hook_of list)
function_of range (Class set) = functions.Run set

-- the name of the field is the help of kinds whose function has no words of its own for what it reads
abbrev pub help_of : List ℕ → Kind → Option (List ℕ)
help_of name Word = Some name
help_of name Rest = Some name
help_of name (Class set) = Some name
help_of name (Listed list) = Some name
help_of name kind = None

-- a block of a field with a name, before the node that follows
abbrev pub field_block : List ℕ → Option (ℕ × ℕ) → ℕ → Kind → Block
field_block name range next kind =
    record (block (function_of range kind) roles.None next) { help = help_of name kind }
