-- A logical name stands for a directory from now on. Letters have no case, and the name is kept in upper case.
use Rattle.std.specs.Prelude.{ℕ, not, ◌&&◌, nat_le, if◌then◌else◌, List, length, map, Result, Ok, Err}
use Rattle.std.specs.Char.{to_ascii_uppercase}
use Rattle.std.specs.Ordering.{on}
use Rattle.std.specs.declared.cmp.Ordering.{Ordering}
use Rattle.cm_lists.specs.Ascent.{insertion}
use Rattle.cm_fields.specs.declared.code.Code.{Code}
use Rattle.cm_fields.specs.declared.code.Code.TheVariants.{LogicalLimit}
use Rattle.cm_files.specs.Catalogue.{by_bytes}
use Rattle.cm_text.specs.Case.{equals}
use Rattle.ex_store.specs.declared.directory.Definition.{Definition}
use Rattle.ex_store.specs.declared.limits.TheConstants.{LOGICAL_LIMIT}
use Rattle.ex_store.specs.State.{has_definition}

-- logical names by their bytes
abbrev pub by_definition : Definition → Definition → Ordering
by_definition = on (λ entry. entry.name) by_bytes

-- the logical name of the same name stands for another directory
abbrev pub redirection : Definition → Definition → Definition
redirection new entry = if equals entry.name new.name then record entry { directory = new.directory } else entry

-- the logical name that is there is redirected; or a new one is at its place
abbrev pub with_definition : Definition → List Definition → List Definition
with_definition new logical =
    if has_definition new.name logical
    then map (redirection new) logical
    else insertion by_definition new logical

-- the logical name that is defined, or the limit that is passed where it is a new one
abbrev pub definition_of : List ℕ → List ℕ → List Definition → Result Definition Code
definition_of name directory logical =
    if not (has_definition name logical) && nat_le LOGICAL_LIMIT (length logical) then Err LogicalLimit
    else Ok (record { name = map to_ascii_uppercase name; directory = directory })
