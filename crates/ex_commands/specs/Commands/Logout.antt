-- LOGOUT: the run ends.
use Rattle.std.specs.Prelude.{ℕ, List, ◌++◌}
use Rattle.cm_text.specs.ScreenBytes.{end_of_line}
use Rattle.ex_store.specs.State.{State}
use Rattle.ex_commands.specs.declared.acted.Acted.TheVariants as answers
use Rattle.ex_commands.specs.Effect.{Act, without_marked}
use Rattle.ex_commands.specs.Texts.{farewell}

unfoldable pub farewell_line : List ℕ
farewell_line = farewell ++ end_of_line

-- the marked files of the connected directory are removed
abbrev pub logs_out : State → Act
logs_out state =
    record { answer = answers.Logout; reply = farewell_line; state = without_marked state.connected state }
