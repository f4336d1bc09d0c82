-- What a line of a control file is.
use Rattle.std.specs.Prelude.{◌≡◌, ℕ, ◌-◌, ◌==◌, ◌&&◌, Bool, true, false, not, nat_le, nat_lt, if◌then◌else◌, List, [], ◌∷◌, length, take, drop, codes}
use Rattle.std.specs.List.{list_all}
use Rattle.std.specs.Str.{bytes_eq}
use Rattle.cm_text.specs.Bytes.{is_text, is_word}
use Rattle.cm_text.specs.Case.{begins_with}
use Rattle.cm_text.specs.declared.name.TheConstants.{NAME_LIMIT}
use Rattle.cm_text.specs.declared.text.TheConstants.{LINE_LIMIT}
use Rattle.ex_batch.specs.declared.control.Control as lent_controls
use Rattle.ex_batch.specs.declared.control.Control.TheVariants as lent
use Rattle.ex_batch.specs.declared.control.Order as lent_orders
use Rattle.ex_batch.specs.declared.control.Order.TheVariants as lent_order

-- what a line orders: to go on at a label, to do a line of the EXEC's, or nothing that a control file may order
pub data Order : Type 0 where
  Goto : List ℕ → Order
  Exec : List ℕ → Order
  Bad : Order

-- what a line is: nothing to do; an order that is done only where the line before was refused, or only where it was
-- not; a label; or an order
pub data Control : Type 0 where
  Nothing : Control
  Condition : Bool → Order → Control
  Label : List ℕ → Control
  Plain : Order → Control

-- the words
unfoldable pub if_error : List ℕ
if_error = codes "@IF (ERROR) "

unfoldable pub if_no_error : List ℕ
if_no_error = codes "@IF (NOERROR) "

unfoldable pub if_word : List ℕ
if_word = codes "@IF "

unfoldable pub goto_word : List ℕ
goto_word = codes "@GOTO "

unfoldable pub colons : List ℕ
colons = codes "::"

-- a line begins with this byte
abbrev pub begins_at : ℕ → List ℕ → Bool
begins_at byte [] = false
begins_at byte (first ∷ line) = first == byte

-- the name of a label: 1 to 39 word bytes
unfoldable pub is_label_name : List ℕ → Bool
is_label_name name = nat_lt 0 (length name) && (nat_le (length name) NAME_LIMIT && list_all is_word name)

-- an order: `@GOTO NAME`, or `@` and another text that begins with none of the controller's words
abbrev pub is_goto : List ℕ → Bool
is_goto line = begins_with line goto_word && is_label_name (drop (length goto_word) line)

abbrev pub is_exec : List ℕ → Bool
is_exec line = begins_at 64 line && (not (begins_with line if_word) && not (begins_with line goto_word))

unfoldable pub order_of : List ℕ → Order
order_of line =
    if is_goto line then Goto (drop (length goto_word) line) else (if is_exec line then Exec (drop 1 line) else Bad)

-- nothing is done at an empty line, nor at one that begins with `!`
abbrev pub is_nothing : List ℕ → Bool
is_nothing [] = true
is_nothing (first ∷ line) = first == 33

-- `@IF (ERROR) ` or `@IF (NOERROR) `, and what begins with `@`
abbrev pub is_condition : List ℕ → List ℕ → Bool
is_condition word line = begins_with line word && begins_at 64 (drop (length word) line)

-- `NAME::`
abbrev pub name_in : List ℕ → List ℕ
name_in line = take (length line - 2) line

abbrev pub is_label : List ℕ → Bool
is_label line = bytes_eq (drop (length line - 2) line) colons && is_label_name (name_in line)

unfoldable pub control_of : List ℕ → Control
control_of line =
    if is_nothing line then Nothing
    else (if is_condition if_error line then Condition true (order_of (drop (length if_error) line))
    else (if is_condition if_no_error line then Condition false (order_of (drop (length if_no_error) line))
    else (if is_label line then Label (name_in line) else Plain (order_of line))))

-- a text that can be parsed as a line of the EXEC's: text bytes alone, and at most as many as a line has
abbrev pub is_parsable : List ℕ → Bool
is_parsable text = nat_le (length text) LINE_LIMIT && list_all is_text text

-- the same, as the code holds it: texts that are lent
abbrev pub order_view : lent_orders.Order → Order
order_view (lent_order.Goto name) = Goto name.now
order_view (lent_order.Exec text) = Exec text.now
order_view lent_order.Bad = Bad

abbrev pub control_view : lent_controls.Control → Control
control_view lent.Nothing = Nothing
control_view (lent.Condition error order) = Condition error (order_view order)
control_view (lent.Label name) = Label name.now
control_view (lent.Plain order) = Plain (order_view order)

-- the labels that an order, or a line, names have names of labels
abbrev pub IsNamed : Order → Type 0
IsNamed (Goto name) = is_label_name name ≡ true
IsNamed (Exec text) = Unit {0}
IsNamed Bad = Unit {0}

abbrev pub AreNamed : Control → Type 0
AreNamed Nothing = Unit {0}
AreNamed (Condition error order) = IsNamed order
AreNamed (Label name) = is_label_name name ≡ true
AreNamed (Plain order) = IsNamed order
