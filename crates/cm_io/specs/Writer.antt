-- What a writer leaves: the sink that it writes on, what it still holds, and whether a put has failed.
use Rattle.std.specs.Prelude.{◌≡◌, ℕ, ◌≤◌, List, [], ◌++◌}
use Rattle.std.specs.Borrow.{MutBor}
use Rattle.cm_io.specs.Contents.{Contents, Adds, add}
use Rattle.cm_io.specs.Fault.{PutCause}
use Rattle.cm_io.specs.declared.sink.Put.{Put}
use Rattle.cm_io.specs.declared.sink.Put.TheVariants.{Done, Failed}
use Rattle.cm_io.specs.declared.sink.Sink.{Ghosts}
use Rattle.cm_io.specs.declared.writer.Writer.{Writer}

-- what a sink tells, its faults, what is held back from it, and how the puts on it went
pub record Outlet : Type 0 where
  pub contents : Contents
  pub faults : ℕ
  pub held : List ℕ
  pub outcome : Put

-- the outlet of a writer
abbrev pub outlet : {T : Type 0} → Ghosts T → Writer T → Outlet
outlet s out = record {
  contents = s.contents out.sink.now;
  faults = s.faults out.sink.now;
  held = out.held;
  outcome = out.outcome;
}

-- a text is put on a sink that told this, and had so many faults, as a sink puts it
pub record Puts (before now : Contents) (faults later : ℕ) (text : List ℕ) (outcome : Put) : Type 0 where
  pub bytes : Adds before now text outcome
  pub rise : faults ≤ later
  pub cause : PutCause faults later outcome

-- what is not given to the sink yet is held, until a put fails
abbrev pub Holds : Put → List ℕ → List ℕ → Type 0
Holds Done rest held = rest ≡ held
Holds Failed rest held = Unit {0}

-- of what is held and a text after it a part is given to the sink, and the rest is held
pub record Gives (before now : Outlet) (text : List ℕ) : Type 0 where
  pub given : List ℕ
  pub rest : List ℕ
  pub joined : given ++ rest ≡ before.held ++ text
  pub added : now.contents ≡ add before.contents given
  pub rise : before.faults ≤ now.faults
  pub cause : PutCause before.faults now.faults now.outcome
  pub holds : Holds now.outcome rest now.held

-- after a failure nothing is given
pub record Rests (before now : Outlet) : Type 0 where
  pub contents : now.contents ≡ before.contents
  pub faults : now.faults ≡ before.faults
  pub outcome : now.outcome ≡ Failed

-- by how the puts went so far
abbrev pub PutsOn : Put → Outlet → Outlet → List ℕ → Type 0
PutsOn Done before now text = Gives before now text
PutsOn Failed before now text = Rests before now

-- a writer writes the text, on the sink that it has
pub record Writes {T : Type 0} (s : Ghosts T) (before now : Writer T) (text : List ℕ) : Type 0 where
  pub same : now.sink.ghost_name ≡ before.sink.ghost_name
  pub puts : PutsOn before.outcome (outlet s before) (outlet s now) text

-- a writer on this sink, which holds nothing, and of which no put has failed
pub record Begins {T : Type 0} (s : Ghosts T) (sink : MutBor T) (out : Writer T) : Type 0 where
  pub same : out.sink.ghost_name ≡ sink.ghost_name
  pub begins : outlet s out
      ≡ record { contents = s.contents sink.now; faults = s.faults sink.now; held = []; outcome = Done }

-- a writer hands on what it holds, and tells how all went; where it holds nothing its sink is not asked
pub record Finishes {T : Type 0} (s : Ghosts T) (before now : Writer T) (outcome : Put) : Type 0 where
  pub writes : Writes s before now []
  pub none : now.held ≡ []
  pub went : outcome ≡ now.outcome
  pub idle : before.held ≡ [] → outcome ≡ before.outcome

-- of the whole text some is written, and the rest is left
pub record Left {T : Type 0} (s : Ghosts T) (before now : Writer T) (rest whole : List ℕ) : Type 0 where
  pub front : List ℕ
  pub writes : Writes s before now front
  pub joined : front ++ rest ≡ whole
