-- The parts of what names files and directories are no longer than a name.
-- Names are short since no part that is read is long.
use Rattle.std.proofs.Common.{◌≡◌, ℕ, Bool, false, List, Option, Some, None, option_map, Ok, ap, sym, subst, ◌∙◌, arith}
use Rattle.std.proofs.lemmas.Bool.Decides.{nat_tests}
use Rattle.cm_fields.specs.declared.value.FileKind.{FileKind}
use Rattle.cm_fields.specs.declared.value.Span.{Span}
use Rattle.cm_fields.specs.declared.value.Spec.{Spec}
use Rattle.cm_fields.specs.declared.value.Value.{Value}
use Rattle.cm_fields.specs.declared.value.Value.TheVariants as values
use Rattle.cm_files.specs.declared.flags.Flags.{Flags}
use Rattle.cm_files.specs.Catalogue.{Catalogue}
use Rattle.cm_files.specs.Fields.{directory_of, file_of, moved}
use Rattle.cm_files.specs.Spec.{is_long}
use Rattle.cm_blocks.proofs.Places.{SaysDirectory, directory_says, file_says, parts_are_short}
use Rattle.ex_commands.specs.NameParts.{IsSaid, IsShort}

-- a part stays as short where it is moved
short_moved : (at : ℕ) (place : Option Span) → is_long place ≡ false → IsShort (option_map (moved at) place)
short_moved at None short = tt
short_moved at (Some place) short = grind (arith, nat_tests)

pub file_said : (c : Catalogue) (kind : FileKind) (flags : Flags) (at : ℕ) (run : List ℕ) (value : Value)
    → file_of c kind flags at run ≡ Ok value → IsSaid value
file_said c kind flags at run value is =
    let of = file_says c kind flags at run value is in
    let short = parts_are_short run of.spec of.read in
    subst IsSaid (sym of.value_is) (short_moved at of.spec.name short.name, short_moved at of.spec.kind short.kind)

pub directory_said : (new : Bool) (c : Catalogue) (at : ℕ) (run : List ℕ) (value : Value)
    → directory_of new c at run ≡ Ok value → IsSaid value
directory_said new c at run value is =
    let of = directory_says new c at run value is in
    let short = parts_are_short run of.spec of.read in
    by of.spec of.meant short.directory value of.says
  where
    moved_short : (part place : Span) (directory : Option Span) → is_long directory ≡ false → directory ≡ Some part → place ≡ moved at part
        → IsShort (Some place)
    moved_short part place directory short is same =
        subst (λ (it : Span). IsShort (Some it)) (sym same)
        (short_moved at (Some part) (ap is_long (sym is) ∙ short))

    by : (spec : Spec) (meant : ℕ) → is_long spec.directory ≡ false → (value : Value) → SaysDirectory new c at run spec meant value
        → IsSaid value
    by spec meant short (values.NewDirectory place) says = moved_short says.0 place spec.directory short says.1 says.2
    by spec meant short (values.Directory directory) says = tt
    by spec meant short (values.File kind of directory) says = absurd says
    by spec meant short (values.Hook id number) says = absurd says
    by spec meant short (values.Word place) says = absurd says
    by spec meant short (values.Date day) says = absurd says
    by spec meant short value says = tt
