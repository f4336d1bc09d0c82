-- What comes of an act whose reply is written: the writer tells in the end whether the reply was cut.
use Rattle.std.specs.Prelude.{◌≡◌, Bool, true}
use Rattle.cm_io.specs.declared.sink.Sink.{Ghosts}
use Rattle.cm_io.specs.declared.writer.Writer.{Writer}
use Rattle.cm_io.specs.Writer.{Writes}
use Rattle.ex_store.specs.State.{State}
use Rattle.ex_commands.specs.declared.acted.Acted.{Acted}
use Rattle.ex_commands.specs.declared.acted.Acted.TheVariants as answers
use Rattle.ex_commands.specs.Effect.{Act}

-- it is done: this is its answer, its whole reply is written, and it leaves its state
pub record Replies {T : Type 0} (s : Ghosts T) (before now : Writer T) (act : Act) (left : State) (answer : Acted)
    : Type 0 where
  pub answer_is : act.answer ≡ answer
  pub reply : Writes s before now act.reply
  pub state : left ≡ act.state

-- memory ran out where it may be: nothing is written, and nothing changes
pub record IsWanting {T : Type 0} (before now : Writer T) (lacks : Bool) (start left : State) : Type 0 where
  pub may_allocate : lacks ≡ true
  pub unwritten : now ≡ before
  pub state : left ≡ start

-- by what it answers, given whether memory may run out for it
abbrev pub Outcome : {T : Type 0} → Ghosts T → Writer T → Writer T → Act → Bool → State → State → Acted → Type 0
Outcome s before now act lacks state left answers.NoMemory = IsWanting before now lacks state left
Outcome s before now act lacks state left answers.Failed = ⊥
Outcome s before now act lacks state left answers.Ok = Replies s before now act left answers.Ok
Outcome s before now act lacks state left (answers.Refused code) = Replies s before now act left (answers.Refused code)
Outcome s before now act lacks state left answers.Pending = Replies s before now act left answers.Pending
Outcome s before now act lacks state left answers.Data = Replies s before now act left answers.Data
Outcome s before now act lacks state left answers.Take = Replies s before now act left answers.Take
Outcome s before now act lacks state left answers.Logout = Replies s before now act left answers.Logout
