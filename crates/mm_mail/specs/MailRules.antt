-- What mail says of its one kind of field, the number of a message.
use Rattle.std.specs.Prelude.{ℕ, ◌&&◌, nat_le, nat_lt, if◌then◌else◌, List, [], codes}
use Rattle.std.specs.Char.{is_ascii_digit}
use Rattle.std.specs.List.{list_all}
use Rattle.std.specs.Str.Parse.{digits_value}
use Rattle.cm_hooks.specs.FieldBytes.{name_bytes}
use Rattle.cm_hooks.specs.Meanings.{Meanings}
use Rattle.cm_hooks.specs.declared.answer.Answer.{Answer}
use Rattle.cm_hooks.specs.declared.answer.Answer.TheVariants.{No, Yes}
use Rattle.cm_hooks.specs.declared.answer.Tail.TheVariants as tails
use Rattle.mm_mail.specs.declared.message_name.TheConstants.{MOST_MESSAGES}

-- digits alone, of a value from 1 to 9999
unfoldable pub mail_verdict : List ℕ → Answer
mail_verdict atom =
    if list_all is_ascii_digit atom && nat_lt 0 (digits_value 10 atom) && nat_le (digits_value 10 atom) MOST_MESSAGES
    then Yes (digits_value 10 atom) else No

unfoldable pub mail_help : List ℕ
mail_help = codes "message number"

-- each hook reads so, and completes nothing
abbrev pub mail_meanings : Meanings
mail_meanings = record {
  bytes = λ id. name_bytes;
  names = λ id. [];
  verdict = λ id atom. mail_verdict atom;
  completion = λ id atom. tails.None;
  help = λ id. mail_help;
}
