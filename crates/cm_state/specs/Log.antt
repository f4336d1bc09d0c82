-- The line of the log that tells of one key and of the parse held after it.
use Rattle.std.specs.Prelude.{ℕ, ℤ, pos, int_lt, unsigned_abs, Bool, true, false, if◌then◌else◌, List, [], ◌∷◌, ◌++◌, length, codes}
use Rattle.std.specs.List.{flat_map}
use Rattle.std.specs.Fmt.{decimal}
use Rattle.cm_io.specs.Pieces.{hex}
use Rattle.cm_fields.specs.declared.value.FileKind.{FileKind}
use Rattle.cm_fields.specs.declared.value.FileKind.TheVariants.{In, Out, Any}
use Rattle.cm_fields.specs.declared.value.Value.{Value}
use Rattle.cm_fields.specs.declared.value.Value.TheVariants as values
use Rattle.cm_fields.specs.Code.{code_number}
use Rattle.cm_blocks.specs.declared.field.Fault.{Fault}
use Rattle.cm_blocks.specs.declared.field.Ending.{Ending}
use Rattle.cm_blocks.specs.declared.field.Ending.TheVariants as ending
use Rattle.cm_blocks.specs.FieldView.{FieldView}
use Rattle.cm_state.specs.SessionState.{SessionState}

-- a number after a text
unfoldable pub marked : List ℕ → ℕ → List ℕ
marked mark number = mark ++ decimal number

-- ` FCODE.NODE@PLACE`
unfoldable pub fault_log : Fault → List ℕ
fault_log fault =
    marked (codes " F") (code_number fault.code)
    ++ marked (codes ".") fault.node ++ marked (codes "@") fault.at

-- ` O`, ` D` or a fault
unfoldable pub ending_log : Ending → List ℕ
ending_log (ending.Open place) = codes " O"
ending_log ending.Done = codes " D"
ending_log (ending.Fault fault) = fault_log fault

-- a day, with `-` before the number of one before 1-JAN-1970
unfoldable pub day_log : ℤ → List ℕ
day_log day =
    if int_lt day (pos 0) then marked (codes "d-") (unsigned_abs day) else marked (codes "d") (unsigned_abs day)

-- a number of a radix in decimal digits, with `-` before one below 0
unfoldable pub integer_log : ℤ → List ℕ
integer_log number =
    if int_lt number (pos 0) then marked (codes "#-") (unsigned_abs number) else marked (codes "#") (unsigned_abs number)

-- the id of a hook, and what it made of the field
unfoldable pub hook_log : ℕ → ℕ → List ℕ
hook_log id value = marked (codes "h") id ++ marked (codes ":") value

-- a letter for what a file is wanted for
unfoldable pub file_log : FileKind → List ℕ
file_log In = codes "i"
file_log Out = codes "o"
file_log Any = codes "f"

-- what a field stands for: a letter or a sign for the function that took it, and where there is one a number
unfoldable pub value_log : Value → List ℕ
value_log (values.Key entry code) = marked (codes "k") code
value_log (values.Switch entry code) = marked (codes "s") code
value_log (values.Noise true) = codes "n1"
value_log (values.Noise false) = codes "n0"
value_log (values.Number number) = marked (codes "#") number
value_log (values.Integer number) = integer_log number
value_log (values.Word span) = codes "w"
value_log (values.Quoted span) = codes "q"
value_log values.Token = codes "t"
value_log (values.Date day) = day_log day
value_log (values.User directory) = codes "u"
value_log (values.Directory directory) = codes "D"
value_log (values.NewDirectory span) = codes "D"
value_log (values.File kind spec directory) = file_log kind
value_log (values.Text span) = codes "x"
value_log values.Comma = codes ","
value_log values.Confirm = codes "c"
value_log (values.Hook id value) = hook_log id value

-- `=` where the field was taken from the default of its node
unfoldable pub default_log : Bool → List ℕ
default_log true = codes "="
default_log false = []

-- ` NODE.BLOCKVALUE@START-END`, and `=` where it was taken from the default
unfoldable pub field_log : FieldView → List ℕ
field_log field =
    marked (codes " ") field.node ++ marked (codes ".") field.block ++ value_log field.value
    ++ marked (codes "@") field.start ++ marked (codes "-") field.end ++ default_log field.defaulted

unfoldable pub fields_log : List FieldView → List ℕ
fields_log fields = flat_map field_log fields

-- [log-line] `KEY LENGTH ENDING`, each field, and a line feed
unfoldable pub log_line : ℕ → SessionState → List ℕ
log_line key held =
    hex key ++ marked (codes " ") (length held.line) ++ ending_log held.ending ++ fields_log held.fields ++ 10 ∷ []
