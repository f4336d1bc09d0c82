-- The fixed texts of a banner.
use Rattle.std.specs.Prelude.{ℕ, List, codes}

-- before the name of a job, the full name of a file, the name of a form, the number of a copy and how many there are,
-- and a note
unfoldable pub before_job : List ℕ
before_job = codes " JOB "

unfoldable pub before_file : List ℕ
before_file = codes " FILE "

unfoldable pub before_form : List ℕ
before_form = codes " FORM "

unfoldable pub before_copy : List ℕ
before_copy = codes " COPY "

unfoldable pub before_copies : List ℕ
before_copies = codes " OF "

unfoldable pub before_note : List ℕ
before_note = codes " NOTE "

-- after the name of a file that is not there
unfoldable pub not_there : List ℕ
not_there = codes " IS NOT THERE"

-- round the name of a directory
unfoldable pub left_angle : List ℕ
left_angle = codes "<"

unfoldable pub right_angle : List ℕ
right_angle = codes ">"

-- before a type, and before a generation
unfoldable pub dot : List ℕ
dot = codes "."
