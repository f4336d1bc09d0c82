-- The fixed texts of what commands show.
use Rattle.std.specs.Prelude.{ℕ, List, codes}

-- between two parts of a line
unfoldable pub space : List ℕ
space = codes " "

-- before a type, and before a generation
unfoldable pub dot : List ℕ
dot = codes "."

-- around a directory
unfoldable pub left_angle : List ℕ
left_angle = codes "<"

unfoldable pub right_angle : List ℕ
right_angle = codes ">"

-- from one file to another
unfoldable pub arrow : List ℕ
arrow = codes " => "

unfoldable pub from_terminal : List ℕ
from_terminal = codes " TTY: => "

-- before a file that is queued
unfoldable pub queued : List ℕ
queued = codes " Queued "

-- that it is done
unfoldable pub done_mark : List ℕ
done_mark = codes " [OK]"

-- the structure that all directories are on, before the directory of a listing
unfoldable pub structure : List ℕ
structure = codes "   PS:"

-- around the number of files in a listing
unfoldable pub total_of : List ℕ
total_of = codes " Total of "

unfoldable pub files_counted : List ℕ
files_counted = codes " files"

-- in the place of the day when a file was last read
unfoldable pub never : List ℕ
never = codes "Never"

-- around the number of pages that were freed
unfoldable pub pages_freed : List ℕ
pages_freed = codes " [Pages freed: "

unfoldable pub right_bracket : List ℕ
right_bracket = codes "]"

-- what is before the directory that INFORMATION tells about, its count of generations, and its pages
unfoldable pub of_structure : List ℕ
of_structure = codes " PS:"

unfoldable pub kept : List ℕ
kept = codes " Generations to keep: "

unfoldable pub pages_had : List ℕ
pages_had = codes " Pages: "

-- between a logical name and its directory
unfoldable pub stands_for : List ℕ
stands_for = codes ": => PS:"

-- before the parts of an entry of the print queue
unfoldable pub copies_mark : List ℕ
copies_mark = codes " /COPIES:"

unfoldable pub forms_mark : List ℕ
forms_mark = codes " /FORMS:"

unfoldable pub job_mark : List ℕ
job_mark = codes " /JOBNAME:"

unfoldable pub after_mark : List ℕ
after_mark = codes " /AFTER:"

unfoldable pub note_mark : List ℕ
note_mark = codes " /NOTE:\""

-- after a note
unfoldable pub quote : List ℕ
quote = codes "\""

-- the program and its version
unfoldable pub version : List ℕ
version = codes " EXEC20 1"

-- at the end of the run
unfoldable pub farewell : List ℕ
farewell = codes "Logged out"
