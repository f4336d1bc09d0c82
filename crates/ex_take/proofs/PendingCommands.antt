-- A command that waits for its subcommands.
use Rattle.std.proofs.Common.{◌≡◌, ℕ, Bool, true, false, [], ◌∷◌, Option, None, Some, Result, Ok, Err, refl, sym, ap, ◌∙◌, subst}
use Rattle.std.specs.Option.{ForSome}
use Rattle.cm_lists.proofs.Pieces.{single_split}
use Rattle.cm_io.specs.Contents.{Contents, add}
use Rattle.cm_io.proofs.Additions.{add_none}
use Rattle.cm_run.specs.Semantics.{Effect, IsLineAt}
use Rattle.cm_run.specs.Obey.{Obeys, Stage, after, stage}
use Rattle.cm_run.proofs.Acts.{obeys_done, obeys_wanting}
use Rattle.cm_run.specs.declared.stop.Stop.{Stop}
use Rattle.cm_run.specs.declared.stop.Stop.TheVariants as stop
use Rattle.ex_grammar.specs.declared.node.TheConstants.{COMMANDS}
use Rattle.ex_store.specs.State.{State}
use Rattle.ex_commands.specs.Act.{act_of}
use Rattle.ex_commands.specs.Answer.{MayAct}
use Rattle.ex_commands.specs.Command.{is_pending, subcommand_node}
use Rattle.ex_store.specs.Plan.{IsTarget}
use Rattle.ex_commands.specs.declared.acted.Acted.{Acted}
use Rattle.ex_commands.specs.declared.acted.Acted.TheVariants as answers
use Rattle.ex_commands.specs.declared.command.Command.{Command}
use Rattle.ex_commands.proofs.Outcomes.{waiting_changes_nothing, waits_for_subcommands}
use Rattle.ex_take.specs.Interpreter.{becomes, completion_answer, effect_of, mode_by, subcommand_effects}
use Rattle.ex_take.specs.Outcome.{lacks_memory}
use Rattle.ex_take.specs.InterpreterState.{InterpreterState}
use Rattle.ex_take.specs.declared.pending.Pending.{Pending}
use Rattle.ex_take.specs.declared.typing.Typing.{Typing}
use Rattle.ex_take.proofs.CommandAnswers.{obeys_after, obeys_silent}

-- the command with the moment of its main line
abbrev pub pending_of : Command → ℕ → Pending
pending_of command moment = record { command = command; moment = moment }

-- a command with subcommands waits for them, and shows nothing
pub waits_obeys : (now : InterpreterState) (moment : ℕ) (command : Command) (contents : Contents) → is_pending command ≡ true
    → Obeys (stage contents now) (stage contents (record now { pending = Some (pending_of command moment) })) (effect_of now moment command ∷ []) (Ok tt)
unfolding becomes
waits_obeys now moment command contents pending =
    let act = act_of command moment now.state in
    let answer = (waits_for_subcommands command moment now.state).1 pending in
    let rest = waiting_changes_nothing command moment now.state answer in
    obeys_done (effect_of now moment command) contents contents now (record now { pending = Some (pending_of command moment) })
    (sym (add_none contents) ∙ ap (add contents) (sym rest.1))
    (ap (λ (it : State). record (record now { pending = Some (pending_of command moment) }) { state = it }) (sym rest.0)
    ∙ ap (λ (it : Acted). record (becomes now moment command it) { state = act.state }) (sym answer))

module _ (contents then : Contents) (one other next : InterpreterState) (effect : Effect InterpreterState) where
  -- one act leaves what it leaves, whatever was met, but where memory runs out
  pub obeys_from : (result : Result Unit Stop) → lacks_memory result ≡ false
      → Obeys (stage contents one) (stage then next) (effect ∷ []) result → Obeys (stage contents other) (stage then next) (effect ∷ []) result
  unfolding Obeys
  obeys_from (Ok value) short obeys = obeys
  obeys_from (Err stop.Screen) short obeys = record { at = obeys.at; screen = obeys.screen; state = obeys.state }
  obeys_from (Err stop.Memory) short obeys = absurd (cc)
  obeys_from (Err stop.Log) short obeys = absurd obeys
  obeys_from (Err stop.Keys) short obeys = absurd obeys
  obeys_from (Err stop.Limit) short obeys = absurd obeys

-- where memory runs out for a single act, nothing is shown and all stays
record IsLeft (contents then : Contents) (one next : InterpreterState) (effect : Effect InterpreterState) : Type 0 where
  shown : then ≡ contents
  same : next ≡ one
  may_allocate : effect.may_allocate ≡ true

wanting_leaves : (contents then : Contents) (one next : InterpreterState) (effect : Effect InterpreterState)
    → Obeys (stage contents one) (stage then next) (effect ∷ []) (Err stop.Memory) → IsLeft contents then one next effect
unfolding Obeys
wanting_leaves contents then one next effect obeys =
    let first = single_split obeys.at.done obeys.at.rest obeys.at.effect effect obeys.at.split in
    let stands : stage then next ≡ after (stage contents one) [] = obeys.stands ∙ ap (after (stage contents one)) first.0 in
    record {
      shown = ap (λ (it : Stage InterpreterState). it.screen) stands ∙ add_none contents;
      same = ap (λ (it : Stage InterpreterState). it.state) stands;
      may_allocate = ap (λ (it : Effect InterpreterState). it.may_allocate) (sym first.1) ∙ obeys.may_allocate;
    }

-- that is what an answer says which lacks memory
lacking_leaves : (contents then : Contents) (one next : InterpreterState) (effect : Effect InterpreterState) (result : Result Unit Stop)
    → lacks_memory result ≡ true → Obeys (stage contents one) (stage then next) (effect ∷ []) result → IsLeft contents then one next effect
lacking_leaves contents then one next effect (Err stop.Memory) lacks obeys = wanting_leaves contents then one next effect obeys
lacking_leaves contents then one next effect (Ok value) lacks obeys = absurd (cc)
lacking_leaves contents then one next effect (Err stop.Screen) lacks obeys = absurd (cc)
lacking_leaves contents then one next effect (Err stop.Log) lacks obeys = absurd (cc)
lacking_leaves contents then one next effect (Err stop.Keys) lacks obeys = absurd (cc)
lacking_leaves contents then one next effect (Err stop.Limit) lacks obeys = absurd (cc)

pub lacking_same : (contents then : Contents) (one next : InterpreterState) (effect : Effect InterpreterState) (result : Result Unit Stop)
    → lacks_memory result ≡ true → Obeys (stage contents one) (stage then next) (effect ∷ []) result → next ≡ one
lacking_same contents then one next effect result lacks obeys = (lacking_leaves contents then one next effect result lacks obeys).same

lacking_obeys : (contents then : Contents) (one other : InterpreterState) (effect : Effect InterpreterState) (result : Result Unit Stop)
    → lacks_memory result ≡ true → effect.may_allocate ≡ true → then ≡ contents → other ≡ one
    → Obeys (stage contents one) (stage then other) (effect ∷ []) result
lacking_obeys contents then one other effect (Err stop.Memory) lacks may shown same =
    obeys_wanting effect contents then one other may shown same
lacking_obeys contents then one other effect (Ok value) lacks may shown same = absurd (cc)
lacking_obeys contents then one other effect (Err stop.Screen) lacks may shown same = absurd (cc)
lacking_obeys contents then one other effect (Err stop.Log) lacks may shown same = absurd (cc)
lacking_obeys contents then one other effect (Err stop.Keys) lacks may shown same = absurd (cc)
lacking_obeys contents then one other effect (Err stop.Limit) lacks may shown same = absurd (cc)

-- a command for which memory runs out waits on
pub waits_on : (state : State) (held : Option Typing) (ended : Bool) (waits : Option Pending) (contents then : Contents) (one next : InterpreterState)
    (effect : Effect InterpreterState) (pending : Pending) (result : Result Unit Stop)
    → record { state = state; typing = held; ended = ended; pending = waits } ≡ next → lacks_memory result ≡ true
    → Obeys (stage contents one) (stage then next) (effect ∷ []) result
    → Obeys (stage contents (record one { pending = Some pending }))
    (stage then (record { state = state; typing = held; ended = ended; pending = Some pending })) (effect ∷ []) result
waits_on state held ended waits contents then one next effect pending result view lacks obeys =
    let left = lacking_leaves contents then one next effect result lacks obeys in
    lacking_obeys contents then (record one { pending = Some pending })
    (record { state = state; typing = held; ended = ended; pending = Some pending }) effect result lacks left.may_allocate left.shown
    (ap (λ (it : InterpreterState). record it { pending = Some pending }) (view ∙ left.same))

-- and so it is sound that it waits
pub waits_sound : (state : State) (held : Option Typing) (ended : Bool) (waits : Option Pending) (now : InterpreterState) (pending : Pending)
    → record { state = state; typing = held; ended = ended; pending = waits } ≡ now → now.typing ≡ None
    → MayAct pending.command now.state
    → ForSome held (λ (it : Typing). IsTarget it.to state.directories)
    × (ForSome (Some pending) (λ (it : Pending). MayAct it.command state) × ForSome held (λ (it : Typing). Some pending ≡ None))
waits_sound state held ended waits now pending view line may =
    let none : held ≡ None = ap (λ (it : InterpreterState). it.typing) view ∙ line in
    let there : MayAct pending.command state =
    subst (λ (it : State). MayAct pending.command it) (sym (ap (λ (it : InterpreterState). it.state) view)) may in (
      λ typing some. let wrong : None ≡ Some typing = sym none ∙ some in absurd (cc),
      (
        λ it some. let same : pending ≡ it = cc in subst (λ (it : Pending). MayAct it.command state) same there,
        λ typing some. let wrong : None ≡ Some typing = sym none ∙ some in absurd (cc),
      ),
    )

-- after a line that has fields it waits on
pub more_obeys : (contents : Contents) (one interpreter : InterpreterState) (pending : Pending) → is_pending pending.command ≡ true
    → Obeys (stage contents one) (stage contents (record interpreter { pending = Some pending })) (subcommand_effects interpreter pending) (Ok tt)
more_obeys contents one interpreter pending waits =
    rw waits (obeys_silent contents one (record interpreter { pending = Some pending }))

-- and after an empty one it acts
pub last_obeys : (contents then : Contents) (one interpreter next : InterpreterState) (pending : Pending) (result : Result Unit Stop)
    → is_pending pending.command ≡ false → interpreter.pending ≡ None
    → Obeys (stage contents (record interpreter { pending = Some pending })) (stage then next)
    (effect_of interpreter pending.moment pending.command ∷ []) result
    → Obeys (stage contents one) (stage then next) (subcommand_effects interpreter pending) result
last_obeys contents then one interpreter next pending result acts free obeys =
    rw acts (obeys_after contents then one (record interpreter { pending = Some pending }) next
    (effect_of (record interpreter { pending = None }) pending.moment pending.command ∷ []) result
    (subst (λ (it : Option Pending). Obeys (stage contents (record interpreter { pending = Some pending })) (stage then next)
    (effect_of (record interpreter { pending = it }) pending.moment pending.command ∷ []) result) free obeys))

-- both, as the EXEC holds it
pub goes_on : (state : State) (held : Option Typing) (ended : Bool) (waits : Option Pending) (now one : InterpreterState) (pending : Pending) (contents : Contents)
    → record { state = state; typing = held; ended = ended; pending = waits } ≡ now → is_pending pending.command ≡ true
    → Obeys (stage contents one) (stage contents (record { state = state; typing = held; ended = ended; pending = Some pending }))
    (subcommand_effects now pending) (Ok tt)
goes_on state held ended waits now one pending contents view more =
    subst (λ (it : InterpreterState). Obeys (stage contents one) (stage contents (record it { pending = Some pending }))
    (subcommand_effects now pending) (Ok tt)) (sym view) (more_obeys contents one now pending more)

-- what is answered
pub waits_answer : (interpreter : InterpreterState) (pending : Pending) → is_pending pending.command ≡ true → answers.Pending ≡ completion_answer interpreter pending
waits_answer interpreter pending more = rw more refl

pub acts_answer : (interpreter : InterpreterState) (pending : Pending) (answer : Acted) → is_pending pending.command ≡ false
    → answer ≡ (act_of pending.command pending.moment interpreter.state).answer → answer ≡ completion_answer interpreter pending
acts_answer interpreter pending answer last is = rw last is

-- a line of subcommands is read where a command waits for them, and a main line else
pub subcommand_line : (ended : Bool) (typing : Option Typing) (pending : Pending) (node : ℕ)
    → IsLineAt (mode_by ended typing (Some pending)) node → (typing ≡ None) × (subcommand_node pending.command ≡ node)
subcommand_line true typing pending node line = absurd line
subcommand_line false (Some typing) pending node line = absurd line
subcommand_line false None pending node line = (refl, line)

pub main_line : (ended : Bool) (typing : Option Typing) (node : ℕ)
    → IsLineAt (mode_by ended typing None) node → (typing ≡ None) × (COMMANDS ≡ node)
main_line true typing node line = absurd line
main_line false (Some typing) node line = absurd line
main_line false None node line = (refl, line)

-- where none waits there is nothing to say of one
pub none_waits : (P : Pending → Type 0) (waits : Option Pending) → waits ≡ None → ForSome waits P
none_waits P waits none = λ pending some. let wrong : None ≡ Some pending = sym none ∙ some in absurd (cc)
