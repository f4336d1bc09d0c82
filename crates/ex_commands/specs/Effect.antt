-- The outcome of a command: what it shows, the state that it leaves, and what it answers.
use Rattle.std.specs.Prelude.{ℕ, List, [], Result, Ok, Err}
use Rattle.std.specs.List.{flat_map}
use Rattle.cm_fields.specs.declared.code.Code.{Code}
use Rattle.cm_state.specs.Echo.{refusal}
use Rattle.ex_generations.specs.declared.file.Remark.{Remark}
use Rattle.ex_store.specs.declared.key.NamePair.{NamePair}
use Rattle.ex_store.specs.declared.place.Place.{Place}
use Rattle.ex_store.specs.Plan.{Planned, sources}
use Rattle.ex_store.specs.Rows.{expunged}
use Rattle.ex_store.specs.Selection.{rows_with_remark}
use Rattle.ex_store.specs.State.{State}
use Rattle.ex_commands.specs.declared.acted.Acted.{Acted}
use Rattle.ex_commands.specs.declared.acted.Acted.TheVariants as answers
use Rattle.ex_commands.specs.declared.lines.Lines.TheVariants.{Changed}
use Rattle.ex_commands.specs.declared.pairs.Origin.{Origin}
use Rattle.ex_commands.specs.Replies.{line_of, origin_line}

pub record Act : Type 0 where
  pub answer : Acted
  pub reply : List ℕ
  pub state : State

-- it is done, with this reply, and leaves this state
abbrev pub does : List ℕ → State → Act
does reply state = record { answer = answers.Ok; reply = reply; state = state }

-- it is refused, and changes nothing
abbrev pub refuses : Code → State → Act
refuses code state = record { answer = answers.Refused code; reply = refusal code; state = state }

-- it waits for its subcommands, and changes nothing
abbrev pub pends : State → Act
pends state = record { answer = answers.Pending; reply = []; state = state }

-- all of a plan is done, with what is replied to its pairs of files; or none of it
abbrev pub plays_by : (List NamePair → List ℕ) → Result Planned Code → State → Act
plays_by reply (Ok made) state = does (reply made.pairs) made.state
plays_by reply (Err code) state = refuses code state

-- a line for each pair of files
abbrev pub pair_lines : Origin → List NamePair → List ℕ
pair_lines origin pairs = flat_map (origin_line origin) pairs

abbrev pub plays : Origin → Result Planned Code → State → Act
plays origin made state = plays_by (pair_lines origin) made state

-- one thing is changed of files, with a line for each
abbrev pub changes : Remark → Place → State → Act
changes remark files state =
    does (flat_map (line_of Changed) (sources files state))
    (record state { rows = rows_with_remark remark files state })

-- the marked files of a directory are removed
abbrev pub without_marked : List ℕ → State → State
without_marked directory state = record state { rows = expunged directory state.rows }
