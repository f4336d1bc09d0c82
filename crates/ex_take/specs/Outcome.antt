-- How the engine is told what came of a command.
use Rattle.std.specs.Prelude.{Bool, true, false, Result, Ok, Err}
use Rattle.cm_run.specs.declared.stop.Stop.{Stop}
use Rattle.cm_run.specs.declared.stop.Stop.TheVariants as stop
use Rattle.ex_commands.specs.declared.acted.Acted.{Acted}
use Rattle.ex_commands.specs.declared.acted.Acted.TheVariants as answers

abbrev pub outcome_of : Acted → Result Unit Stop
outcome_of answers.Ok = Ok tt
outcome_of (answers.Refused code) = Ok tt
outcome_of answers.Pending = Ok tt
outcome_of answers.Data = Ok tt
outcome_of answers.Take = Ok tt
outcome_of answers.Logout = Ok tt
outcome_of answers.NoMemory = Err stop.Memory
outcome_of answers.Failed = Err stop.Screen

-- memory ran out
abbrev pub lacks_memory : Result Unit Stop → Bool
lacks_memory (Ok value) = false
lacks_memory (Err stop.Memory) = true
lacks_memory (Err stop.Screen) = false
lacks_memory (Err stop.Log) = false
lacks_memory (Err stop.Keys) = false
lacks_memory (Err stop.Limit) = false
