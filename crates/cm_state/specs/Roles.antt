-- What the fields of a line are for.
use Rattle.std.specs.Prelude.{ℕ, ◌==◌, ◌&&◌, Bool, List, find, Option}
use Rattle.std.specs.List.{filter}
use Rattle.std.specs.Option.{option_map}
use Rattle.cm_fields.specs.declared.value.Value.{Value}
use Rattle.cm_blocks.specs.declared.function.Role.{Role}
use Rattle.cm_blocks.specs.declared.function.Role.TheVariants as roles
use Rattle.cm_blocks.specs.FieldView.{FieldView}

-- the number of a role, by which two are compared
abbrev pub role_number : Role → ℕ
role_number roles.None = 0
role_number roles.Verb = 1
role_number roles.What = 2
role_number roles.Source = 3
role_number roles.Target = 4
role_number roles.Files = 5
role_number roles.Sub = 6
role_number roles.Value = 7
role_number (roles.Own number) = 8

-- and the number that the program gave its own
abbrev pub own_number : Role → ℕ
own_number (roles.Own number) = number
own_number role = 0

-- the two are one role
abbrev pub is_role : Role → Role → Bool
is_role wanted role = role_number role == role_number wanted && own_number role == own_number wanted

-- the fields of a role, in the order of the line
abbrev pub fields_of : Role → List FieldView → List FieldView
fields_of wanted fields = filter (λ field. is_role wanted field.role) fields

-- the first field of a role
abbrev pub field_of : Role → List FieldView → Option FieldView
field_of wanted fields = find (λ field. is_role wanted field.role) fields

-- what it stands for
abbrev pub value_of : Role → List FieldView → Option Value
value_of wanted fields = option_map (λ (field : FieldView). field.value) (field_of wanted fields)
