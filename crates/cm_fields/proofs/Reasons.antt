-- What a reason of an application keeps.
use Rattle.std.proofs.Common.{◌≡◌, ℕ, ◌<◌, ◌≤◌, ◌&&◌, nat_le, nat_lt, true, false, refl, List, length, arith}
use Rattle.std.specs.List.{list_all}
use Rattle.std.specs.Str.{IsAscii}
use Rattle.std.proofs.lemmas.Bool.{and_parts}
use Rattle.std.proofs.lemmas.Bool.Decides.{nat_tests}
use Rattle.cm_lists.proofs.Ascii.{IsAscii_of_all}
use Rattle.cm_text.specs.declared.name.TheConstants.{NAME_LIMIT}
use Rattle.cm_fields.specs.Code.{code_number, code_text, is_own}
use Rattle.cm_fields.specs.declared.code.Code.{Code}
use Rattle.cm_fields.specs.declared.code.Code.TheVariants.{NotKeyword, Ambiguous, NotSwitch, NeedColon, BadNoise, BadNumber, NumberRange, NoField, FieldLong, NotQuoted, NoQuote, NotToken, BadDate, YearRange, SpecShape, NameLong, GenRange, WildHere, Device, NoLogical, NoDirectory, NoUser, NoFile, NotComma, NotConfirmed, Rejected, TooMany, OutOfRange, Repeated, NoMatch, GenFull, FileExists, NameNeeded, CopyRange, DirLimit, FileLimit, FileSize, StoreSize, LogicalLimit, QueueLimit, NoDefinition, TakeDepth, LineLimit, BadLine, NotInTake, NoLabel, BadControl, NoSubcommands, NoMessage, MailFull, Own}
use Rattle.cm_fields.specs.Reason.{is_printing, is_reason, is_reason_text}
use Rattle.cm_fields.specs.declared.reason.TheConstants.{OWN_NUMBER}
use Rattle.cm_fields.proofs.Numerals.{range_reason_shown}

pub reason_number : (number : ℕ) (text : List ℕ) → is_reason number text ≡ true → OWN_NUMBER ≤ number
unfolding is_reason
reason_number number text is =
    let least = (and_parts (nat_le OWN_NUMBER number) (is_reason_text text) is).0 in
    grind (arith, nat_tests)

pub reason_text : (number : ℕ) (text : List ℕ) → is_reason number text ≡ true → is_reason_text text ≡ true
unfolding is_reason
reason_text number text is = (and_parts (nat_le OWN_NUMBER number) (is_reason_text text) is).1

text_short : (text : List ℕ) → is_reason_text text ≡ true → length text ≤ NAME_LIMIT
unfolding is_reason_text
text_short text is =
    let size = (and_parts (nat_lt 0 (length text) && nat_le (length text) NAME_LIMIT) (list_all is_printing text) is).0 in
    let most = (and_parts (nat_lt 0 (length text)) (nat_le (length text) NAME_LIMIT) size).1 in
    grind (arith, nat_tests)

printing_low : (byte : ℕ) → is_printing byte ≡ true → byte < 128
printing_low byte is = grind (arith, nat_tests)

pub text_ascii : (text : List ℕ) → is_reason_text text ≡ true → IsAscii text
unfolding is_reason_text
text_ascii text is =
    IsAscii_of_all is_printing printing_low text
    (and_parts (nat_lt 0 (length text) && nat_le (length text) NAME_LIMIT) (list_all is_printing text) is).1

pub reason_short : (number : ℕ) (text : List ℕ) → is_reason number text ≡ true → length text ≤ NAME_LIMIT
reason_short number text is = text_short text (reason_text number text is)

pub reason_ascii : (number : ℕ) (text : List ℕ) → is_reason number text ≡ true → IsAscii text
reason_ascii number text is = text_ascii text (reason_text number text is)

-- a code of the library has a number below those of an application, and a text that a screen may show
library_code : (code : Code) → is_own code ≡ false
    → (nat_lt (code_number code) OWN_NUMBER ≡ true) × (is_reason_text (code_text code) ≡ true)
unfolding code_number code_text is_reason_text
library_code NotKeyword library = (refl, refl)
library_code Ambiguous library = (refl, refl)
library_code NotSwitch library = (refl, refl)
library_code NeedColon library = (refl, refl)
library_code BadNoise library = (refl, refl)
library_code BadNumber library = (refl, refl)
library_code NumberRange library = (refl, refl)
library_code NoField library = (refl, refl)
library_code FieldLong library = (refl, refl)
library_code NotQuoted library = (refl, refl)
library_code NoQuote library = (refl, refl)
library_code NotToken library = (refl, refl)
library_code BadDate library = (refl, refl)
library_code YearRange library = (refl, refl)
library_code SpecShape library = (refl, refl)
library_code NameLong library = (refl, refl)
library_code GenRange library = (refl, refl)
library_code WildHere library = (refl, refl)
library_code Device library = (refl, refl)
library_code NoLogical library = (refl, refl)
library_code NoDirectory library = (refl, refl)
library_code NoUser library = (refl, refl)
library_code NoFile library = (refl, refl)
library_code NotComma library = (refl, refl)
library_code NotConfirmed library = (refl, refl)
library_code Rejected library = (refl, refl)
library_code TooMany library = (refl, refl)
library_code (OutOfRange numbers) library = (refl, range_reason_shown numbers)
library_code Repeated library = (refl, refl)
library_code NoMatch library = (refl, refl)
library_code GenFull library = (refl, refl)
library_code FileExists library = (refl, refl)
library_code NameNeeded library = (refl, refl)
library_code CopyRange library = (refl, refl)
library_code DirLimit library = (refl, refl)
library_code FileLimit library = (refl, refl)
library_code FileSize library = (refl, refl)
library_code StoreSize library = (refl, refl)
library_code LogicalLimit library = (refl, refl)
library_code QueueLimit library = (refl, refl)
library_code NoDefinition library = (refl, refl)
library_code TakeDepth library = (refl, refl)
library_code LineLimit library = (refl, refl)
library_code BadLine library = (refl, refl)
library_code NotInTake library = (refl, refl)
library_code NoLabel library = (refl, refl)
library_code BadControl library = (refl, refl)
library_code NoSubcommands library = (refl, refl)
library_code NoMessage library = (refl, refl)
library_code MailFull library = (refl, refl)
library_code (Own reason) library = cc

pub library_number : (code : Code) → is_own code ≡ false → code_number code < OWN_NUMBER
library_number code library = let below = (library_code code library).0 in grind (arith, nat_tests)

pub library_text : (code : Code) → is_own code ≡ false → is_reason_text (code_text code) ≡ true
library_text code library = (library_code code library).1
