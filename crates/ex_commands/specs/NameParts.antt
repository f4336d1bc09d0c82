-- What the parts of a line have that names are made of.
use Rattle.std.specs.Prelude.{◌≡◌, ℕ, ◌<◌, ◌+◌, ◌==◌, ◌≤◌, true, List, Option, Some, None, IfSome}
use Rattle.cm_text.specs.declared.name.TheConstants.{NAME_LIMIT}
use Rattle.cm_fields.specs.declared.value.Span.{Span}
use Rattle.cm_fields.specs.declared.value.Value.{Value}
use Rattle.cm_fields.specs.declared.value.Value.TheVariants as values
use Rattle.cm_files.specs.Catalogue.{Catalogue}
use Rattle.cm_blocks.specs.declared.function.Role.TheVariants as roles
use Rattle.cm_blocks.specs.Grammar.{Graph}
use Rattle.cm_blocks.specs.FieldView.{FieldView}
use Rattle.cm_state.specs.SessionState.{SessionState, text_of}
use Rattle.cm_state.specs.Roles.{field_of}
use Rattle.ex_store.specs.WellFormed.{is_day}
use Rattle.ex_store.specs.declared.limits.TheConstants.{FORMS, RETENTION_LIMIT}
use Rattle.ex_commands.specs.declared.commands.define.TheConstants.{NAME_RULE}
use Rattle.ex_commands.specs.declared.commands.print.TheConstants.{FORMS_NODE, FORM_RULE, JOBNAME_NODE}
use Rattle.ex_commands.specs.Line.{Line, last_at}

-- the line that a session holds
abbrev pub line_of : Graph → Catalogue → SessionState → Line
line_of graph catalogue held =
    record { graph = graph; catalogue = catalogue; text = text_of held; fields = held.fields }

-- a part that is given is no longer than a name
abbrev pub IsShort : Option Span → Type 0
IsShort None = Unit {0}
IsShort (Some place) = place.end ≤ place.start + NAME_LIMIT

-- what a rule makes of a field is at most 63, and the number of a form where it is that rule
pub record IsRuled (id value : ℕ) : Type 0 where
  pub few : value ≤ RETENTION_LIMIT
  pub form : (id == FORM_RULE) ≡ true → value < FORMS

-- what a value says is so short, or in range
abbrev pub IsSaid : Value → Type 0
IsSaid (values.File kind spec directory) = IsShort spec.name × IsShort spec.kind
IsSaid (values.NewDirectory place) = place.end ≤ place.start + NAME_LIMIT
IsSaid (values.Word place) = place.end ≤ place.start + NAME_LIMIT
IsSaid (values.Hook id value) = IsRuled id value
IsSaid (values.Date day) = is_day (Some day) ≡ true
IsSaid value = Unit {0}

abbrev pub IsSaidIn : Option FieldView → Type 0
IsSaidIn field = IfSome field (λ it. IsSaid it.value)

-- what the rule of logical names took is no longer than a name
abbrev pub IsLogical : FieldView → Value → Type 0
IsLogical field (values.Hook id size) = (id == NAME_RULE) ≡ true → field.end ≤ field.start + NAME_LIMIT
IsLogical field value = Unit {0}

abbrev pub IsLogicalIn : Option FieldView → Type 0
IsLogicalIn field = IfSome field (λ it. IsLogical it it.value)

-- the parts of a line that are read as names are no longer than one, and its numbers are in range
pub record IsReadable (fields : List FieldView) : Type 0 where
  pub source : IsSaidIn (field_of roles.Source fields)
  pub target : IsSaidIn (field_of roles.Target fields)
  pub files : IsSaidIn (field_of roles.Files fields)
  pub value : IsSaidIn (field_of roles.Value fields)
  pub logical : IsLogicalIn (field_of roles.Value fields)
  pub form : IsSaidIn (last_at FORMS_NODE fields)
  pub job : IsSaidIn (last_at JOBNAME_NODE fields)
