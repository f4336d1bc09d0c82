-- What a generated run leaves of the screen and of the counter.
use Rattle.std.specs.Prelude.{◌≡◌, ◌+◌, ℕ, List, []}
use Rattle.cm_io.specs.Fault.{Rose}
use Rattle.cm_io.specs.Contents.{Contents, AddsPart, add}
use Rattle.cm_run.specs.Event.{trials_of}
use Rattle.ex_program.specs.Summary.{LacksMemory, generated_trace, summary_of, summary_text}
use Rattle.ex_system.specs.Messages.{message}
use Rattle.ex_system.specs.Trying.{Tried}
use Rattle.cm_io.specs.declared.status.Status.{Status}
use Rattle.cm_io.specs.declared.status.Status.TheVariants as status

-- a text is shown whole, and the count of faults stays; or a prefix of it, and the count rose
abbrev pub Shows : List ℕ → Contents → Contents → ℕ → ℕ → Status → Type 0
Shows text before now f g status.Done = (now ≡ add before text) × (g ≡ f)
Shows text before now f g status.WriteFault = AddsPart before now text × Rose f g
Shows text before now f g result = ⊥

-- the summary is shown; or memory runs out, and its message is tried
abbrev pub Sums : ℕ → Contents → Contents → ℕ → ℕ → Status → Type 0
Sums lines before now f g status.NoMemory = Tried before now f g [] (message status.NoMemory)
Sums lines before now f g result = Shows (summary_text (summary_of lines)) before now f g result

-- the counter rises by what the trials of all keys cost; where memory runs out, by those before
abbrev pub Rises : ℕ → ℕ → ℕ → Status → Type 0
Rises lines before now status.NoMemory = LacksMemory lines before now
Rises lines before now result = now ≡ before + trials_of (generated_trace lines)
