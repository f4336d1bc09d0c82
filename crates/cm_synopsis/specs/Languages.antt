-- A language, as its text tells it line by line.
use Rattle.std.specs.Prelude.{ℕ, ◌+◌, ◌==◌, nat_lt, if◌then◌else◌, List, [], ◌∷◌, ◌++◌, length, Option, None, Some, is_some, Result, Ok, Err}
use Rattle.cm_text.specs.Lines.{lines}
use Rattle.cm_synopsis.specs.CommandView.{CommandView}
use Rattle.cm_synopsis.specs.Helps.{KeywordHelp}
use Rattle.cm_synopsis.specs.Sayings.{saying_of}
use Rattle.cm_synopsis.specs.declared.language.TextFault.{TextFault}
use Rattle.cm_synopsis.specs.declared.language.TheConstants.{TEXT_SIZE_LIMIT}
use Rattle.cm_synopsis.specs.declared.fault.Fault.{Fault}
use Rattle.cm_synopsis.specs.declared.reason.Reason.TheVariants.{LongText, NoCommand}
use Rattle.cm_synopsis.specs.declared.line.Saying.{Saying}
use Rattle.cm_synopsis.specs.declared.line.Saying.TheVariants as sayings

-- the prompt; the names of the lists, and of each the names that it has; the help of keywords; the commands, and the
-- number of the line that each stands on
pub record Language : Type 0 where
  pub prompt : Option (List ℕ)
  pub names : List (List ℕ)
  pub lists : List (List (List ℕ))
  pub helps : List KeywordHelp
  pub commands : List CommandView
  pub lines : List ℕ

abbrev pub nothing : Language
nothing = record { prompt = None; names = []; lists = []; helps = []; commands = []; lines = [] }

-- with what a line says, which has this number
abbrev pub with_saying : Language → ℕ → Saying → Language
with_saying it number sayings.Nothing = it
with_saying it number (sayings.Prompt text) = record it { prompt = Some text }
with_saying it number (sayings.Listing name names) =
    record it { names = it.names ++ name ∷ []; lists = it.lists ++ names ∷ [] }
with_saying it number (sayings.Help help) = record it { helps = it.helps ++ help ∷ [] }
with_saying it number (sayings.Command command) =
    record it { commands = it.commands ++ command ∷ []; lines = it.lines ++ number ∷ [] }

abbrev pub at_line : ℕ → Fault → TextFault
at_line number fault = record { line = number; place = fault.place; reason = fault.reason }

-- what is made of what a line says, or its fault
abbrev pub unless_wrong : ℕ → (Saying → Result Language TextFault) → Result Saying Fault → Result Language TextFault
unless_wrong number after (Ok saying) = after saying
unless_wrong number after (Err fault) = Err (at_line number fault)

-- a language with these lines more, the first of which has this number
abbrev pub read_lines : ℕ → Language → List (List ℕ) → Result Language TextFault
read_lines number it [] = Ok it
read_lines number it (line ∷ more) =
    unless_wrong number (λ saying. read_lines (number + 1) (with_saying it number saying) more)
    (saying_of it.names (is_some it.prompt) line)

-- a language has a command at least
abbrev pub some_command : Result Language TextFault → Result Language TextFault
some_command (Err fault) = Err fault
some_command (Ok it) =
    if length it.commands == 0 then Err (record { line = 1; place = 0; reason = NoCommand }) else Ok it

-- [language] the language that a text tells, or its first fault
unfoldable pub language_of : List ℕ → Result Language TextFault
language_of text =
    if nat_lt TEXT_SIZE_LIMIT (length text) then Err (record { line = 1; place = 0; reason = LongText })
    else some_command (read_lines 1 nothing (lines text))
