-- PRINT: files are queued for printing.
use Rattle.std.specs.Prelude.{ℕ, ◌==◌, ◌&&◌, nat_le, nat_lt, ℤ, List, [], if◌then◌else◌, take, Option, Some, None, option_and_then, unwrap_or}
use Rattle.std.specs.Option.{option_map_or}
use Rattle.cm_text.specs.declared.name.TheConstants.{NAME_LIMIT}
use Rattle.cm_fields.specs.declared.code.Code.TheVariants.{CopyRange}
use Rattle.cm_fields.specs.declared.value.Value.{Value}
use Rattle.cm_fields.specs.declared.value.Value.TheVariants as values
use Rattle.cm_fields.specs.Quoted.{unquoted}
use Rattle.cm_files.specs.Spec.{part}
use Rattle.cm_blocks.specs.declared.function.Role.TheVariants as roles
use Rattle.cm_blocks.specs.FieldView.{FieldView}
use Rattle.cm_state.specs.Roles.{field_of}
use Rattle.ex_store.specs.declared.limits.TheConstants.{COPIES_LIMIT}
use Rattle.ex_store.specs.declared.place.Place.{Place}
use Rattle.ex_store.specs.declared.plan.Plan.TheVariants as plans
use Rattle.ex_store.specs.declared.print.Request.{Request}
use Rattle.ex_store.specs.Plan.{planned}
use Rattle.ex_store.specs.State.{State}
use Rattle.ex_commands.specs.declared.command.Command.{Command}
use Rattle.ex_commands.specs.declared.command.Command.TheVariants as commands
use Rattle.ex_commands.specs.declared.commands.print.TheConstants.{AFTER_NODE, COPIES_NODE, FORMS_NODE, FORM_RULE, JOBNAME_NODE, NORMAL, NOTE_NODE}
use Rattle.ex_commands.specs.declared.pairs.Origin.TheVariants.{Queue}
use Rattle.ex_commands.specs.Effect.{Act, plays, refuses}
use Rattle.ex_commands.specs.Line.{Line, day_by, last_at, on, place_in, said_of, upper}

abbrev pub number_by : Value → Option ℕ
number_by (values.Number number) = Some number
number_by value = None

-- the number of a form, where the rule of forms took it
abbrev pub form_by : Value → Option ℕ
form_by (values.Hook id form) = if id == FORM_RULE then Some form else None
form_by value = None

-- a word, in upper case
abbrev pub word_by : List ℕ → Value → Option (List ℕ)
word_by text (values.Word place) = Some (upper text place)
word_by text value = None

-- what a quoted text says, a quote that stands twice as one; at most 39 bytes are taken
abbrev pub quoted_by : List ℕ → Value → List ℕ
quoted_by text (values.Quoted place) = take NAME_LIMIT (unquoted (part text place))
quoted_by text value = []

-- the value of each switch is the last one that its node took: one copy, on the form NORMAL, where no switch says
-- otherwise; and else no day, no job and no note
abbrev pub copies_in : List FieldView → ℕ
copies_in fields = unwrap_or (option_and_then (λ field. number_by field.value) (last_at COPIES_NODE fields)) 1

abbrev pub form_in : List FieldView → ℕ
form_in fields = unwrap_or (option_and_then (λ field. form_by field.value) (last_at FORMS_NODE fields)) NORMAL

abbrev pub after_in : List FieldView → Option ℤ
after_in fields = option_and_then (λ field. day_by field.value) (last_at AFTER_NODE fields)

abbrev pub job_in : Line → Option (List ℕ)
job_in line =
    option_and_then (λ field. word_by (said_of line.graph line.text field) field.value)
    (last_at JOBNAME_NODE line.fields)

abbrev pub note_in : Line → List ℕ
note_in line =
    option_map_or (λ field. quoted_by (said_of line.graph line.text field) field.value)
    (last_at NOTE_NODE line.fields) []

abbrev pub print_of : Line → Command
print_of line =
    on (λ files.
    commands.Print files (copies_in line.fields) (form_in line.fields) (after_in line.fields) (job_in line)
    (note_in line)) (place_in line (field_of roles.Files line.fields))

abbrev pub request_of : ℕ → ℕ → Option ℤ → Option (List ℕ) → List ℕ → Request
request_of copies form after job note =
    record { copies = copies; form = form; after = after; job = job; note = note }

-- 1 to 63 copies may be asked for
abbrev pub prints : Place → ℕ → ℕ → Option ℤ → Option (List ℕ) → List ℕ → ℕ → State → Act
prints files copies form after job note moment state =
    if nat_lt 0 copies && nat_le copies COPIES_LIMIT
    then plays Queue (planned (plans.Print files (request_of copies form after job note)) moment state) state
    else refuses CopyRange state
