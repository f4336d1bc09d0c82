-- The prompts of the router are printed bytes, since each interface has a name.
use Rattle.std.proofs.Common.{◌≡◌, ℕ, Bool, true, false, if◌then◌else◌, List, [], codes, insert, arith, refl}
use Rattle.std.specs.Prelude.{Option, None, Some, slice_get}
use Rattle.std.specs.Option.{option_map_or}
use Rattle.std.proofs.lemmas.Bool.{and_parts}
use Rattle.std.proofs.lemmas.Bool.Decides.{nat_tests}
use Rattle.cm_lists.proofs.Quantifiers.{all_at, all_push, all_weaker}
use Rattle.cm_text.specs.Bytes.{is_word}
use Rattle.cm_io.specs.Display.{is_printed}
use Rattle.cm_run.specs.LineSemantics.{HasPrinted}
use Rattle.cm_run.specs.PromptLaws.{named_printed}
use Rattle.eg_router.specs.InterfaceLaws.{change_are, made_are, typed_parts, without_are}
use Rattle.eg_router.specs.Interfaces.{AreInterfaces, fresh, has, is_interface_name, is_typed_byte, is_typed_name, may_enter, place, with_name}
use Rattle.eg_router.specs.Program.{line_in, prompt}
use Rattle.eg_router.specs.Router.{entered, obeyed, with_setting}
use Rattle.eg_router.specs.declared.grammar.TheConstants.{INTERFACE_LINES}
use Rattle.eg_router.specs.declared.command.Command.{Command}
use Rattle.eg_router.specs.declared.command.Command.TheVariants as commands
use Rattle.eg_router.specs.declared.interface.Change.{Change}
use Rattle.eg_router.specs.declared.interface.Interface.{Interface}
use Rattle.eg_router.specs.declared.router.Mode.{Mode}
use Rattle.eg_router.specs.declared.router.Mode.TheVariants as modes
use Rattle.eg_router.specs.declared.router.Router.{Router}

byte_printed : (byte : ℕ) → is_typed_byte byte ≡ true → is_printed byte ≡ true
unfolding is_word is_printed
byte_printed byte is = grind (arith, nat_tests)

-- a name is printed, and its mark after it
name_printed : (name : List ℕ) → is_interface_name name ≡ true → (node : ℕ) → HasPrinted (Some (node, prompt name (codes "#")))
unfolding is_printed
name_printed name is node =
    let (begins, short, bytes) = typed_parts name (and_parts (is_typed_name name) _ is).0 in
    named_printed name (codes "#") short (omega arith)
    (all_push is_printed name 35 (all_weaker is_typed_byte is_printed byte_printed name bytes) refl)

pub line_printed : (mode : Mode) (interfaces : List Interface) → AreInterfaces interfaces
    → HasPrinted (line_in mode interfaces)
unfolding is_printed
line_printed modes.User interfaces are = named_printed _ (codes ">") (omega arith) (omega arith) refl
line_printed modes.Privileged interfaces are = named_printed _ (codes "#") (omega arith) (omega arith) refl
line_printed modes.Configuration interfaces are = named_printed _ (codes "#") (omega arith) (omega arith) refl
line_printed modes.Protocol interfaces are = named_printed _ (codes "#") (omega arith) (omega arith) refl
line_printed modes.Ended interfaces are = tt
line_printed (modes.Interface at) interfaces are = by (slice_get interfaces at) refl
  where
    by : (got : Option Interface) → slice_get interfaces at ≡ got
        → HasPrinted (Some (INTERFACE_LINES, prompt (option_map_or (λ (it : Interface). it.name) got []) (codes "#")))
    by None is = named_printed [] (codes "#") (omega arith) (omega arith) refl
    by (Some it) is =
        name_printed it.name (all_at (λ (it : Interface). is_interface_name it.name) interfaces at it are.names is)
        INTERFACE_LINES

entered_are : (name : List ℕ) (at : Router) → AreInterfaces at.interfaces → AreInterfaces (entered name at).interfaces
entered_are name at are = by (may_enter name at.interfaces) refl
  where
    made : (there : Bool) → has name at.interfaces ≡ there → may_enter name at.interfaces ≡ true
        → AreInterfaces (if there then at.interfaces else insert at.interfaces (place name at.interfaces) (fresh name))
    made true is may = are
    made false is may = made_are name at.interfaces are may is

    by : (may : Bool) → may_enter name at.interfaces ≡ may
        → AreInterfaces (if may then record at {
          interfaces = with_name name at.interfaces;
          mode = modes.Interface (place name at.interfaces);
        } else at).interfaces
    by true is = made (has name at.interfaces) refl is
    by false is = are

set_are : (mode : Mode) (change : Change) (interfaces : List Interface) → AreInterfaces interfaces
    → AreInterfaces (with_setting mode change interfaces)
set_are (modes.Interface at) change interfaces are = change_are at change interfaces are
set_are mode change interfaces are = are

-- after each command they are interfaces
pub obeyed_are : (command : Command) (at : Router) → AreInterfaces at.interfaces
    → AreInterfaces (obeyed command at).interfaces
obeyed_are commands.Nothing at are = are
obeyed_are (commands.Go mode) at are = are
obeyed_are commands.Exit at are = are
obeyed_are (commands.Interface name) at are = entered_are name at are
obeyed_are (commands.NoInterface name) at are = without_are name at.interfaces are
obeyed_are (commands.Set change) at are = set_are at.mode change at.interfaces are
obeyed_are (commands.Show what) at are = are
