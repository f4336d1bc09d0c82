-- The refusals: their numbers in the log and their texts on the screen.
use Rattle.std.specs.Prelude.{ℕ, Bool, true, false, List, codes}
use Rattle.cm_fields.specs.declared.code.Code.{Code}
use Rattle.cm_fields.specs.declared.code.Code.TheVariants.{NotKeyword, Ambiguous, NotSwitch, NeedColon, BadNoise, BadNumber, NumberRange, NoField, FieldLong, NotQuoted, NoQuote, NotToken, BadDate, YearRange, SpecShape, NameLong, GenRange, WildHere, Device, NoLogical, NoDirectory, NoUser, NoFile, NotComma, NotConfirmed, Rejected, TooMany, OutOfRange, Repeated, NoMatch, GenFull, FileExists, NameNeeded, CopyRange, DirLimit, FileLimit, FileSize, StoreSize, LogicalLimit, QueueLimit, NoDefinition, TakeDepth, LineLimit, BadLine, NotInTake, NoLabel, BadControl, NoSubcommands, NoMessage, MailFull, Own}
use Rattle.cm_fields.specs.Numbers.{range_reason}

unfoldable pub code_number : Code → ℕ
code_number NotKeyword = 1
code_number Ambiguous = 2
code_number NotSwitch = 3
code_number NeedColon = 4
code_number BadNoise = 5
code_number BadNumber = 6
code_number NumberRange = 7
code_number NoField = 8
code_number FieldLong = 9
code_number NotQuoted = 10
code_number NoQuote = 11
code_number NotToken = 12
code_number BadDate = 13
code_number YearRange = 14
code_number SpecShape = 15
code_number NameLong = 16
code_number GenRange = 17
code_number WildHere = 18
code_number Device = 19
code_number NoLogical = 20
code_number NoDirectory = 21
code_number NoUser = 22
code_number NoFile = 23
code_number NotComma = 24
code_number NotConfirmed = 25
code_number Rejected = 26
code_number TooMany = 27
code_number (OutOfRange numbers) = 28
code_number Repeated = 29
code_number NoMatch = 30
code_number GenFull = 31
code_number FileExists = 32
code_number NameNeeded = 33
code_number CopyRange = 34
code_number DirLimit = 35
code_number FileLimit = 36
code_number FileSize = 37
code_number StoreSize = 38
code_number LogicalLimit = 39
code_number QueueLimit = 40
code_number NoDefinition = 41
code_number TakeDepth = 43
code_number LineLimit = 44
code_number BadLine = 45
code_number NotInTake = 46
code_number NoLabel = 47
code_number BadControl = 48
code_number NoSubcommands = 49
code_number NoMessage = 50
code_number MailFull = 51
code_number (Own reason) = reason.number

unfoldable pub code_text : Code → List ℕ
code_text NotKeyword = codes "Unrecognized keyword"
code_text Ambiguous = codes "Ambiguous keyword"
code_text NotSwitch = codes "Not a switch"
code_text NeedColon = codes "Switch needs a value"
code_text BadNoise = codes "Guide word does not match"
code_text BadNumber = codes "Invalid number"
code_text NumberRange = codes "Number too large"
code_text NoField = codes "Field is missing"
code_text FieldLong = codes "Field too long"
code_text NotQuoted = codes "Quoted string expected"
code_text NoQuote = codes "Closing quote is missing"
code_text NotToken = codes "Token does not match"
code_text BadDate = codes "Invalid date"
code_text YearRange = codes "Year not in 1970 to 2099"
code_text SpecShape = codes "Invalid file specification"
code_text NameLong = codes "Name too long"
code_text GenRange = codes "Invalid generation"
code_text WildHere = codes "Wildcard not allowed"
code_text Device = codes "Device not allowed"
code_text NoLogical = codes "No such logical name"
code_text NoDirectory = codes "No such directory"
code_text NoUser = codes "No such user"
code_text NoFile = codes "No such file"
code_text NotComma = codes "Comma expected"
code_text NotConfirmed = codes "Not confirmed"
code_text Rejected = codes "Value not accepted"
code_text TooMany = codes "Too many fields"
code_text (OutOfRange numbers) = range_reason numbers
code_text Repeated = codes "Already given"
code_text NoMatch = codes "No files match"
code_text GenFull = codes "No higher generation"
code_text FileExists = codes "File already exists"
code_text NameNeeded = codes "File name is needed"
code_text CopyRange = codes "Copies must be 1 to 63"
code_text DirLimit = codes "Too many directories"
code_text FileLimit = codes "Too many files"
code_text FileSize = codes "File too large"
code_text StoreSize = codes "No room for files"
code_text LogicalLimit = codes "Too many logical names"
code_text QueueLimit = codes "Print queue is full"
code_text NoDefinition = codes "Logical name is not defined"
code_text TakeDepth = codes "TAKE too deep"
code_text LineLimit = codes "Too many lines"
code_text BadLine = codes "Invalid line in command file"
code_text NotInTake = codes "Not allowed in a command file"
code_text NoLabel = codes "No such label"
code_text BadControl = codes "Invalid line in control file"
code_text NoSubcommands = codes "Subcommands not allowed here"
code_text NoMessage = codes "No such message"
code_text MailFull = codes "Mailbox is full"
code_text (Own reason) = reason.text

-- a reason of an application's own
abbrev pub is_own : Code → Bool
is_own (Own reason) = true
is_own code = false
