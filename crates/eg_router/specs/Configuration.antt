-- What the router shows, and the commands that its configuration is made of.
use Rattle.std.specs.Prelude.{ℕ, ◌==◌, Bool, true, if◌then◌else◌, List, [], ◌∷◌, ◌++◌, length, codes, map}
use Rattle.std.specs.List.{flat_map}
use Rattle.eg_router.specs.declared.command.Command.{Command}
use Rattle.eg_router.specs.declared.command.Command.TheVariants as commands
use Rattle.eg_router.specs.declared.command.Shown.TheVariants as shown
use Rattle.eg_router.specs.declared.interface.Change.{Change}
use Rattle.eg_router.specs.declared.interface.Change.TheVariants as changes
use Rattle.eg_router.specs.declared.interface.Interface.{Interface}

unfoldable pub blank : List ℕ
blank = codes " "

-- a byte of a quoted text: a quote stands twice
unfoldable pub quoted_byte : ℕ → List ℕ
quoted_byte byte = if byte == 34 then 34 ∷ 34 ∷ [] else byte ∷ []

-- the fixed texts of the configuration
unfoldable pub interface_word : List ℕ
interface_word = codes "interface "

unfoldable pub address_word : List ℕ
address_word = codes " address "

unfoldable pub description_word : List ℕ
description_word = codes " description \""

unfoldable pub quote : List ℕ
quote = codes "\""

unfoldable pub shutdown_word : List ℕ
shutdown_word = codes " shutdown"

unfoldable pub exit_word : List ℕ
exit_word = codes "exit"

-- the lines of each setting; what is as in a new interface has none
unfoldable pub address_lines : List ℕ → List (List ℕ)
address_lines text = if length text == 0 then [] else (address_word ++ text) ∷ []

unfoldable pub description_lines : List ℕ → List (List ℕ)
description_lines text =
    if length text == 0 then [] else (description_word ++ flat_map quoted_byte text ++ quote) ∷ []

unfoldable pub shutdown_lines : Bool → List (List ℕ)
shutdown_lines is_down = if is_down then shutdown_word ∷ [] else []

-- the lines of an interface
unfoldable pub configuration_of : Interface → List (List ℕ)
configuration_of it =
    (interface_word ++ it.name)
    ∷ (address_lines it.address ++ (description_lines it.description ++ (shutdown_lines it.is_down ++ exit_word ∷ [])))

-- the configuration, as it is shown
unfoldable pub configuration : List Interface → List (List ℕ)
configuration interfaces = flat_map configuration_of interfaces

-- the commands that make each setting
abbrev pub text_commands : (List ℕ → Change) → List ℕ → List Command
text_commands change text = if length text == 0 then [] else commands.Set (change text) ∷ []

abbrev pub shutdown_commands : Bool → List Command
shutdown_commands is_down = if is_down then commands.Set (changes.Shutdown true) ∷ [] else []

-- the commands that make an interface
abbrev pub commands_of : Interface → List Command
commands_of it =
    commands.Interface it.name
    ∷ (text_commands changes.Address it.address ++ (text_commands changes.Description it.description
    ++ (shutdown_commands it.is_down ++ commands.Exit ∷ [])))

-- the commands that make them all, in their order
abbrev pub listing : List Interface → List Command
listing interfaces = flat_map commands_of interfaces

-- what is typed for a command of a listing
abbrev pub typed : Command → List ℕ
typed (commands.Interface name) = interface_word ++ name
typed (commands.Set (changes.Address text)) = address_word ++ text
typed (commands.Set (changes.Description text)) = description_word ++ flat_map quoted_byte text ++ quote
typed (commands.Set (changes.Shutdown true)) = shutdown_word
typed commands.Exit = exit_word
typed command = []

-- the line of an interface in SHOW INTERFACES: `ETH0 up 10.0.0.1 by the door`
unfoldable pub up_word : List ℕ
up_word = codes " up"

unfoldable pub down_word : List ℕ
down_word = codes " down"

unfoldable pub interface_line : Interface → List ℕ
interface_line it =
    it.name ++ (if it.is_down then down_word else up_word)
    ++ (if length it.address == 0 then [] else blank) ++ it.address
    ++ (if length it.description == 0 then [] else blank) ++ it.description

unfoldable pub version : List ℕ
version = codes "The router of Lughvero"

-- the lines that a command shows
abbrev pub reply : Command → List Interface → List (List ℕ)
reply (commands.Show shown.Interfaces) interfaces = map interface_line interfaces
reply (commands.Show shown.Configuration) interfaces = configuration interfaces
reply (commands.Show shown.Version) interfaces = version ∷ []
reply command interfaces = []
