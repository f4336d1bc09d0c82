-- The names of the files of messages: `MSG-` and four digits.
use Rattle.std.specs.Prelude.{ℕ, ◌+◌, ◌/◌, ◌%◌, ◌==◌, ◌&&◌, Bool, List, [], ◌∷◌, ◌++◌, codes, drop, length, take}
use Rattle.std.specs.Char.{is_ascii_digit}
use Rattle.std.specs.List.{list_all}
use Rattle.std.specs.Str.{bytes_eq}
use Rattle.std.specs.Str.Parse.{digits_value}

-- the last digit of a number, and a number as four digits
abbrev pub digit : ℕ → ℕ
digit number = 48 + number % 10

abbrev pub four_digits : ℕ → List ℕ
four_digits number = digit (number / 1000) ∷ digit (number / 100) ∷ digit (number / 10) ∷ digit number ∷ []

-- what such a name begins with
unfoldable pub prefix : List ℕ
prefix = codes "MSG-"

-- the name of the file of the message with a number
abbrev pub message_name : ℕ → List ℕ
message_name number = prefix ++ four_digits number

-- the digits of a name, whether it is one, and the number of the message
abbrev pub digits_of : List ℕ → List ℕ
digits_of name = drop 4 name

abbrev pub is_message_name : List ℕ → Bool
is_message_name name =
    bytes_eq (take 4 name) prefix && length (digits_of name) == 4 && list_all is_ascii_digit (digits_of name)

abbrev pub name_number : List ℕ → ℕ
name_number name = digits_value 10 (digits_of name)
