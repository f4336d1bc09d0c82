-- What a confirmed line commands, and what a subcommand line adds.
use Rattle.std.specs.Prelude.{ℕ, ◌==◌, Bool, false, ◌||◌, List, length, if◌then◌else◌, Option}
use Rattle.std.specs.Option.{option_map_or}
use Rattle.cm_blocks.specs.declared.function.Role.TheVariants as roles
use Rattle.cm_blocks.specs.FieldView.{FieldView}
use Rattle.cm_state.specs.Roles.{field_of}
use Rattle.ex_grammar.specs.declared.code.TheConstants.{APPEND, BEFORE, BUILD, CONNECT, COPY, DEFINE, DELETE, DELETED, DIRECTORY, EXPUNGE, INFORMATION, LOGOUT, PRINT, READ, REMARK, RENAME, SET, SINCE, TAKE, TYPE, UNDELETE}
use Rattle.ex_grammar.specs.declared.node.TheConstants.{BUILD_SUBCOMMANDS, COMMANDS, DIRECTORY_SUBCOMMANDS}
use Rattle.ex_commands.specs.declared.command.Command.{Command}
use Rattle.ex_commands.specs.declared.command.Command.TheVariants as commands
use Rattle.ex_commands.specs.Line.{Line, keyword_code}
use Rattle.ex_commands.specs.Commands.Append.{append_of}
use Rattle.ex_commands.specs.Commands.Build.{build_of, retention_with}
use Rattle.ex_commands.specs.Commands.Connect.{connect_of}
use Rattle.ex_commands.specs.Commands.Copy.{copy_of}
use Rattle.ex_commands.specs.Commands.Define.{define_of}
use Rattle.ex_commands.specs.Commands.Delete.{delete_of}
use Rattle.ex_commands.specs.Commands.Directory.{day_with, directory_of}
use Rattle.ex_commands.specs.Commands.Expunge.{expunge_of}
use Rattle.ex_commands.specs.Commands.Information.{information_of}
use Rattle.ex_commands.specs.Commands.Print.{print_of}
use Rattle.ex_commands.specs.Commands.Rename.{rename_of}
use Rattle.ex_commands.specs.Commands.Set.{set_of}
use Rattle.ex_commands.specs.Commands.Take.{take_of}
use Rattle.ex_commands.specs.Commands.TypeOut.{type_of}
use Rattle.ex_commands.specs.Commands.Undelete.{undelete_of}

-- the command that a keyword of this code names, with what its other fields say
abbrev pub named : Line → ℕ → Command
named line verb =
    if verb == APPEND then append_of line
    else (if verb == BUILD then build_of line
    else (if verb == CONNECT then connect_of line
    else (if verb == COPY then copy_of line
    else (if verb == DEFINE then define_of line
    else (if verb == DELETE then delete_of line
    else (if verb == DIRECTORY then directory_of line
    else (if verb == EXPUNGE then expunge_of line
    else (if verb == INFORMATION then information_of line
    else (if verb == LOGOUT then commands.Logout
    else (if verb == PRINT then print_of line
    else (if verb == REMARK then commands.Remark
    else (if verb == RENAME then rename_of line
    else (if verb == SET then set_of line
    else (if verb == TAKE then take_of line
    else (if verb == TYPE then type_of line
    else (if verb == UNDELETE then undelete_of line
    else commands.Empty))))))))))))))))

-- the field of role Verb names the command; a line without fields is empty
unfoldable pub command_of : Line → Command
command_of line =
    option_map_or (λ (verb : FieldView). named line (keyword_code verb.value)) (field_of roles.Verb line.fields)
    commands.Empty

-- it waits for subcommands
abbrev pub is_pending : Command → Bool
is_pending (commands.Build directory retention sub) = sub
is_pending (commands.Directory files since before deleted read sub) = sub
is_pending command = false

-- the node where its subcommands begin
abbrev pub subcommand_node : Command → ℕ
subcommand_node (commands.Build directory retention sub) = BUILD_SUBCOMMANDS
subcommand_node (commands.Directory files since before deleted read sub) = DIRECTORY_SUBCOMMANDS
subcommand_node command = COMMANDS

-- the command with a subcommand of this code and what its value says
abbrev pub with_sub : ℕ → Option FieldView → Command → Command
with_sub code said (commands.Build directory retention sub) =
    commands.Build directory (retention_with code said retention) sub
with_sub code said (commands.Directory files since before deleted read sub) =
    commands.Directory files (day_with (code == SINCE) said since) (day_with (code == BEFORE) said before)
    (code == DELETED || deleted) (code == READ || read) sub
with_sub code said command = command

-- it waits for no more
abbrev pub complete : Command → Command
complete (commands.Build directory retention sub) = commands.Build directory retention false
complete (commands.Directory files since before deleted read sub) =
    commands.Directory files since before deleted read false
complete command = command

-- what the fields of a subcommand line add
abbrev pub extended : List FieldView → Command → Command
extended fields command =
    option_map_or (λ (verb : FieldView). with_sub (keyword_code verb.value) (field_of roles.Value fields) command)
    (field_of roles.Verb fields) command

-- what becomes of it by a subcommand line with these fields; a line without fields ends the subcommands
abbrev pub added : List FieldView → Command → Command
added fields command = if length fields == 0 then complete command else extended fields command
