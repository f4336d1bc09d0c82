-- What people are told of each fault.
use Rattle.std.specs.Prelude.{ℕ, List, codes}
use Rattle.cm_synopsis.specs.declared.reason.Reason.{Reason}
use Rattle.cm_synopsis.specs.declared.reason.Reason.TheVariants.{BadByte, NoName, BadWord, LongWord, OpenGuide, UnknownKind, BadClass, ManyKinds, BadRange, NoField, NotOpen, NoBar, EmptyBracket, NotOption, NotLast, NotClosed, DeepBracket, NoPart, NoHelp, SecondPrompt, SameList, SameName, ManyLists, ManyWords, LongText, NoCommand}

unfoldable pub reason_text : Reason → List ℕ
reason_text BadByte = codes "A byte that does not print"
reason_text NoName = codes "A name is missing"
reason_text BadWord = codes "A byte that no name has"
reason_text LongWord = codes "A name of more than 39 bytes"
reason_text OpenGuide = codes "A guide word without its end"
reason_text UnknownKind = codes "No kind, and no list above"
reason_text BadClass = codes "No class of bytes"
reason_text ManyKinds = codes "More than 8 kinds"
reason_text BadRange = codes "No range of numbers"
reason_text NoField = codes "No field where one must be"
reason_text NotOpen = codes "An end of a bracket that is not open"
reason_text NoBar = codes "A bar in no choice"
reason_text EmptyBracket = codes "Nothing in a bracket"
reason_text NotOption = codes "No keyword and no switch in front"
reason_text NotLast = codes "A part behind the rest of the line"
reason_text NotClosed = codes "A bracket without its end"
reason_text DeepBracket = codes "More than 16 brackets in one another"
reason_text NoPart = codes "A command without a part"
reason_text NoHelp = codes "A help without a text"
reason_text SecondPrompt = codes "A second prompt"
reason_text SameList = codes "A list above, or a kind, has this name"
reason_text SameName = codes "A name that the list has already"
reason_text ManyLists = codes "More than 200 lists"
reason_text ManyWords = codes "More than 16 keywords before a help"
reason_text LongText = codes "A text of more than 1048576 bytes"
reason_text NoCommand = codes "A text without a command"
