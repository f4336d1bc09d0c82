-- What a command does at a moment.
use Rattle.std.specs.Prelude.{ℕ, []}
use Rattle.ex_store.specs.State.{State}
use Rattle.ex_commands.specs.declared.command.Command.{Command}
use Rattle.ex_commands.specs.declared.command.Command.TheVariants as commands
pub use Rattle.ex_commands.specs.Effect.{Act, does, pends, plays, plays_by, refuses}
pub use Rattle.ex_commands.specs.Commands.Copy.{begins, writes}
use Rattle.ex_commands.specs.Commands.Append.{appends}
use Rattle.ex_commands.specs.Commands.Build.{builds}
use Rattle.ex_commands.specs.Commands.Connect.{connects}
use Rattle.ex_commands.specs.Commands.Copy.{copies_files}
use Rattle.ex_commands.specs.Commands.Define.{defines}
use Rattle.ex_commands.specs.Commands.Delete.{deletes}
use Rattle.ex_commands.specs.Commands.Directory.{lists}
use Rattle.ex_commands.specs.Commands.Expunge.{expunges_or_connected}
use Rattle.ex_commands.specs.Commands.Information.{tells}
use Rattle.ex_commands.specs.Commands.Logout.{logs_out}
use Rattle.ex_commands.specs.Commands.Print.{prints}
use Rattle.ex_commands.specs.Commands.Rename.{renames}
use Rattle.ex_commands.specs.Commands.Set.{sets}
use Rattle.ex_commands.specs.Commands.Take.{takes}
use Rattle.ex_commands.specs.Commands.TypeOut.{types_out}
use Rattle.ex_commands.specs.Commands.Undelete.{undeletes}

-- each command by a word of its own; an empty line and a remark do nothing
unfoldable pub act_of : Command → ℕ → State → Act
act_of commands.Empty moment state = does [] state
act_of (commands.Append from to) moment state = appends from to moment state
act_of (commands.Build directory retention sub) moment state = builds directory retention sub moment state
act_of (commands.Connect directory) moment state = connects directory state
act_of (commands.Copy from to) moment state = copies_files from to moment state
act_of (commands.CopyTty to) moment state = begins to state
act_of (commands.Define name directory) moment state = defines name directory moment state
act_of (commands.Delete files) moment state = deletes files state
act_of (commands.Directory files since before deleted read sub) moment state =
    lists files since before deleted read sub state
act_of (commands.Expunge directory) moment state = expunges_or_connected directory state
act_of (commands.Information what) moment state = tells what state
act_of commands.Logout moment state = logs_out state
act_of (commands.Print files copies form after job note) moment state =
    prints files copies form after job note moment state
act_of commands.Remark moment state = does [] state
act_of (commands.Rename from to) moment state = renames from to moment state
act_of (commands.Set files keep) moment state = sets files keep state
act_of (commands.Take file) moment state = takes state
act_of (commands.TypeOut files) moment state = types_out files moment state
act_of (commands.Undelete files) moment state = undeletes files state
