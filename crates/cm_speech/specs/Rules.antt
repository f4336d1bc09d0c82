-- What a command language says of its fields: addresses, and names of its lists.
use Rattle.std.specs.Prelude.{◌≡◌, ℕ, ◌-◌, ◌==◌, ◌||◌, ◌&&◌, Bool, true, nat_le, nat_lt, if◌then◌else◌, List, [], get_or, length}
use Rattle.std.specs.List.{list_all}
use Rattle.std.proofs.Common.{arith}
use Rattle.std.proofs.lemmas.Bool.Decides.{nat_tests}
use Rattle.cm_text.specs.Bytes.{is_name, is_word}
use Rattle.cm_text.specs.declared.name.TheConstants.{NAME_LIMIT}
use Rattle.cm_hooks.specs.Among.{completion_among, verdict_among}
use Rattle.cm_hooks.specs.FieldBytes.{FieldBytes, is_graphic}
use Rattle.cm_hooks.specs.Meanings.{Meanings}
use Rattle.cm_hooks.specs.declared.answer.Answer.{Answer}
use Rattle.cm_hooks.specs.declared.answer.Tail.{Tail}
use Rattle.cm_hooks.specs.declared.answer.Tail.TheVariants as tails
use Rattle.cm_speech.specs.Address.{address_verdict, help_of}
use Rattle.cm_speech.specs.declared.rules.TheConstants.{FIRST_LIST_HOOK}

-- a name byte, a point, a colon or a slash
unfoldable pub is_speech_byte : ℕ → Bool
is_speech_byte byte = is_name byte || byte == 46 || byte == 58 || byte == 47

pub speech_graphic : (byte : ℕ) → is_speech_byte byte ≡ true → is_graphic byte ≡ true
unfolding is_speech_byte is_name is_word
speech_graphic byte is = grind (arith, nat_tests)

abbrev pub speech_bytes : FieldBytes
speech_bytes = record { test = is_speech_byte; graphic = speech_graphic }

-- a text that may be typed as a name
abbrev pub is_speech_text : List ℕ → Bool
is_speech_text name = nat_le (length name) NAME_LIMIT && list_all is_speech_byte name

abbrev pub are_texts : List (List ℕ) → Bool
are_texts names = list_all is_speech_text names

-- the list of the hook with this id; there is none below the first, nor past the last
unfoldable pub list_of : List (List (List ℕ)) → ℕ → List (List ℕ)
list_of lists id = if nat_lt id FIRST_LIST_HOOK then [] else get_or lists (id - FIRST_LIST_HOOK) []

-- an address, or the only name that an atom may stand for
unfoldable pub verdict_of : List (List (List ℕ)) → ℕ → List ℕ → Answer
verdict_of lists id atom =
    if nat_lt id FIRST_LIST_HOOK then address_verdict id atom else verdict_among (list_of lists id) atom

-- names that may all be typed are completed; addresses are not
unfoldable pub completion_of : List (List (List ℕ)) → ℕ → List ℕ → Tail
completion_of lists id atom =
    if are_texts (list_of lists id) then completion_among (list_of lists id) atom else tails.None

abbrev pub speech_meanings : List (List (List ℕ)) → Meanings
speech_meanings lists = record {
  bytes = λ id. speech_bytes;
  names = λ id. list_of lists id;
  verdict = λ id atom. verdict_of lists id atom;
  completion = λ id atom. completion_of lists id atom;
  help = λ id. help_of id;
}
