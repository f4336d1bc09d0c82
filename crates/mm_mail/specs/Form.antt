-- What the words of the program ask for.
use Rattle.std.specs.Prelude.{ℕ, false, List, codes, Option, None, Some}
use Rattle.cm_io.specs.Words.{Given}
use Rattle.ex_system.specs.Form.{Form, Two, in_out, pair_of}

-- what is shown where they ask for nothing that it does
unfoldable pub usage : List ℕ
usage = codes "Usage: mm20 IN OUT"

-- two files, IN and OUT
abbrev pub form_by : Option Two → Option Form
form_by None = None
form_by (Some two) = in_out false two.first two.second

unfoldable pub form_of : Given → Option Form
form_of words = form_by (pair_of words)
