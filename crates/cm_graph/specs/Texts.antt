-- What people are told of each reason.
use Rattle.std.specs.Prelude.{ℕ, List, codes}
use Rattle.cm_graph.specs.declared.fault.GraphReason.{GraphReason}
use Rattle.cm_graph.specs.declared.fault.GraphReason.TheVariants.{Clash, SameLine, EmptyLine, BadKeyword, BadHelp, ManyKeywords, ManyTables, LongChain, NotDrawn}

unfoldable pub reason_text : GraphReason → List ℕ
reason_text Clash = codes "Cannot be told from a command before"
reason_text SameLine = codes "The same line as a command before"
reason_text EmptyLine = codes "A command that may be an empty line"
reason_text BadKeyword = codes "A keyword with more than letters, digits and hyphens"
reason_text BadHelp = codes "A help of more than 39 bytes, or with a ?"
reason_text ManyKeywords = codes "More than 1024 keywords at one place"
reason_text ManyTables = codes "Too many places with keywords"
reason_text LongChain = codes "Too many fields at one place"
reason_text NotDrawn = codes "No places of a language"
