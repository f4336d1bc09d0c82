-- The outcome of a key.
use Rattle.cm_io.specs.declared.sink.Put.{Put}
use Rattle.cm_io.specs.declared.sink.Put.TheVariants.{Done, Failed}
use Rattle.cm_line.specs.declared.key.KeyClass.{KeyClass}
use Rattle.cm_line.specs.declared.key.KeyClass.TheVariants.{End, Stop}
use Rattle.cm_blocks.specs.declared.field.Ending.{Ending}
use Rattle.cm_blocks.specs.declared.field.Ending.TheVariants as ending
use Rattle.cm_state.specs.declared.turn.Turn.{Turn}
use Rattle.cm_state.specs.declared.turn.Turn.TheVariants as turn

-- how the put of the echo went
abbrev pub put_of : Turn → Put
put_of turn.Failed = Failed
put_of turn.Edited = Done
put_of turn.Confirmed = Done
put_of turn.Abandoned = Done
put_of (turn.Refused fault) = Done

-- how a finished line turns out; its parse is never open
abbrev pub end_turn : Ending → Turn
end_turn (ending.Open place) = turn.Edited
end_turn ending.Done = turn.Confirmed
end_turn (ending.Fault fault) = turn.Refused fault

-- [key-turn] the outcome of a key of this class
abbrev pub turn_of : KeyClass → Ending → Turn
turn_of End ending = end_turn ending
turn_of Stop ending = turn.Abandoned
turn_of class ending = turn.Edited
