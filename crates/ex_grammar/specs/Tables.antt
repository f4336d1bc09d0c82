-- The keyword tables of the EXEC: the commands, what INFORMATION tells about, the subcommands and switches of
-- commands, and what SET sets.
use Rattle.std.specs.Prelude.{List, [], ◌∷◌, codes}
use Rattle.cm_tables.specs.declared.entry.Entry.{Entry}
use Rattle.cm_tables.specs.declared.entry.Flag.{Flag}
use Rattle.cm_tables.specs.declared.entry.Flag.TheVariants.{Invisible, NoRecognise, Short}
use Rattle.cm_tables.specs.Words.{entry, value_entry}
use Rattle.ex_grammar.specs.declared.node.TheConstants.{LINE_END}
use Rattle.ex_grammar.specs.declared.tables.TheConstants.{TYPE_POSITION}
use Rattle.ex_grammar.specs.declared.code.TheConstants.{AFTER, APPEND, BEFORE, BUILD, CONNECT, COPIES, COPY, DEFINE, DELETE, DELETED, DIRECTORY, DIRECTORY_TOPIC, EXPUNGE, FILE, FORMS, GENERATION_RETENTION_COUNT, GENERATIONS, INFORMATION, JOBNAME, LOGICAL_NAMES, LOGOUT, NO_KEYWORD, NOTE, OUTPUT_REQUESTS, PRINT, READ, REMARK, RENAME, SET, SINCE, TAKE, TYPE, UNDELETE, VERSION}

-- the same keyword, which takes part in the look-up in this way
abbrev pub flagged : Entry → Flag → Entry
flagged keyword flag = record keyword { flag = flag }

unfoldable pub command_entries : List Entry
command_entries =
    entry (codes "APPEND") APPEND 6
    ∷ entry (codes "BUILD") BUILD 33
    ∷ entry (codes "CONNECT") CONNECT 17
    ∷ entry (codes "COPY") COPY 1
    ∷ entry (codes "DEFINE") DEFINE 28
    ∷ entry (codes "DELETE") DELETE 13
    ∷ entry (codes "DIRECTORY") DIRECTORY 23
    ∷ entry (codes "EXPUNGE") EXPUNGE 35
    ∷ entry (codes "INFORMATION") INFORMATION 26
    ∷ flagged (entry (codes "KJOB") LOGOUT LINE_END) Invisible
    ∷ flagged (entry (codes "L") NO_KEYWORD LINE_END) NoRecognise
    ∷ flagged (entry (codes "LO") NO_KEYWORD LINE_END) NoRecognise
    ∷ entry (codes "LOGOUT") LOGOUT LINE_END
    ∷ entry (codes "PRINT") PRINT 37
    ∷ entry (codes "REMARK") REMARK 45
    ∷ entry (codes "RENAME") RENAME 10
    ∷ entry (codes "SET") SET 51
    ∷ flagged (entry (codes "T") NO_KEYWORD LINE_END) (Short TYPE_POSITION)
    ∷ entry (codes "TAKE") TAKE 21
    ∷ entry (codes "TYPE") TYPE 19
    ∷ entry (codes "UNDELETE") UNDELETE 15
    ∷ []

-- what INFORMATION tells about
unfoldable pub topic_entries : List Entry
topic_entries =
    entry (codes "DIRECTORY") DIRECTORY_TOPIC LINE_END
    ∷ entry (codes "LOGICAL-NAMES") LOGICAL_NAMES LINE_END
    ∷ entry (codes "OUTPUT-REQUESTS") OUTPUT_REQUESTS LINE_END
    ∷ entry (codes "VERSION") VERSION LINE_END
    ∷ []

-- the subcommands of DIRECTORY
unfoldable pub directory_entries : List Entry
directory_entries =
    entry (codes "BEFORE") BEFORE 47
    ∷ entry (codes "DELETED") DELETED LINE_END
    ∷ entry (codes "READ") READ LINE_END
    ∷ entry (codes "SINCE") SINCE 47
    ∷ []

-- the subcommand of BUILD
unfoldable pub build_entries : List Entry
build_entries = entry (codes "GENERATIONS") GENERATIONS 49 ∷ []

-- the switches of PRINT, each with a value
unfoldable pub switch_entries : List Entry
switch_entries =
    value_entry (codes "AFTER") AFTER 40
    ∷ value_entry (codes "COPIES") COPIES 41
    ∷ value_entry (codes "FORMS") FORMS 42
    ∷ value_entry (codes "JOBNAME") JOBNAME 43
    ∷ value_entry (codes "NOTE") NOTE 44
    ∷ []

-- what SET sets something of
unfoldable pub set_entries : List Entry
set_entries = entry (codes "FILE") FILE 52 ∷ []

-- what SET FILE sets
unfoldable pub file_entries : List Entry
file_entries = entry (codes "GENERATION-RETENTION-COUNT") GENERATION_RETENTION_COUNT 53 ∷ []

-- the tables, each at its number
unfoldable pub exec_tables : List (List Entry)
exec_tables =
    command_entries ∷ topic_entries ∷ directory_entries ∷ build_entries ∷ switch_entries ∷ set_entries ∷ file_entries
    ∷ []
