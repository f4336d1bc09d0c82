-- The words in which keyword tables are written.
use Rattle.std.specs.Prelude.{ℕ, true, false, List, Some, None}
use Rattle.cm_tables.specs.declared.entry.Entry.{Entry}
use Rattle.cm_tables.specs.declared.entry.Flag.TheVariants.{Plain}

-- a keyword, which no colon follows: its text, its code, and the node that it leads to; it has no help
abbrev pub entry : List ℕ → ℕ → ℕ → Entry
entry text code next = record { text = text; flag = Plain; colon = false; code = code; next = next; help = None }

-- a switch, which a colon and a value follow
abbrev pub value_entry : List ℕ → ℕ → ℕ → Entry
value_entry text code next = record { text = text; flag = Plain; colon = true; code = code; next = next; help = None }

-- the same entry with this help
abbrev pub with_help : List ℕ → Entry → Entry
with_help help entry = record entry { help = Some help }
