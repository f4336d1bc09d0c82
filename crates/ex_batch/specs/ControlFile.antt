-- The control file that a word names.
use Rattle.std.specs.Prelude.{ℕ, ◌==◌, List, length, Option, None, Some, Result, Ok, Err, if◌then◌else◌}
use Rattle.cm_text.specs.Text.{finished}
use Rattle.cm_fields.specs.declared.code.Code.{Code}
use Rattle.cm_fields.specs.declared.code.Code.TheVariants.{SpecShape}
use Rattle.cm_fields.specs.declared.trial.Try.{Try}
use Rattle.cm_fields.specs.declared.trial.Try.TheVariants as tries
use Rattle.cm_fields.specs.declared.value.FileKind.TheVariants.{In}
use Rattle.cm_files.specs.Catalogue.{Catalogue}
use Rattle.cm_files.specs.Fields.{file}
use Rattle.cm_blocks.specs.Words.{no_flags}
use Rattle.ex_store.specs.declared.place.Place.{Place}
use Rattle.ex_commands.specs.Line.{place_by}
use Rattle.ex_batch.specs.Control.{is_parsable}

-- a place, where there is one
abbrev pub place_or_shape : Option Place → Result Place Code
place_or_shape None = Err SpecShape
place_or_shape (Some place) = Ok place

-- the specification of a file that is there takes the whole word
abbrev pub place_said : Catalogue → List ℕ → Try → Result Place Code
place_said c word (tries.Accept value looked end) =
    if end == length word then place_or_shape (place_by c no_flags (finished word) value) else Err SpecShape
place_said c word (tries.Refuse code looked) = Err code
place_said c word tries.More = Err SpecShape

-- a word that could not be in a line is no specification
unfoldable pub named_file : Catalogue → List ℕ → Result Place Code
named_file c word =
    if is_parsable word then place_said c word (file c In no_flags (finished word) 0) else Err SpecShape
