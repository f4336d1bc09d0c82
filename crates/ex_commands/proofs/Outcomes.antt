-- [cut-reply]
-- The outcome of a command: it is done or refused, or it is COPY TTY:, TAKE or LOGOUT, or it waits for subcommands.
-- Laws over all commands stand on one list of cases (Comes), most of them absurd (cc).
use Rattle.std.proofs.Common.{◌≡◌, ◌↔◌, ℕ, Bool, true, false, cond, ◌&&◌, nat_le, nat_lt, Some, None, List, [], ◌∷◌, Result, Ok, Err, refl, ap, sym, ◌∙◌}
use Rattle.cm_fields.specs.declared.code.Code.{Code}
use Rattle.cm_fields.specs.declared.code.Code.TheVariants.{CopyRange, NameNeeded, NoDefinition, NoMatch}
use Rattle.cm_state.specs.Echo.{refusal}
use Rattle.ex_store.specs.declared.place.Place.{Place}
use Rattle.ex_store.specs.declared.plan.Plan.TheVariants as plans
use Rattle.ex_store.specs.declared.row.Row.{Row}
use Rattle.ex_store.specs.declared.limits.TheConstants.{COPIES_LIMIT}
use Rattle.ex_store.specs.Copying.{lacks_name}
use Rattle.ex_store.specs.Plan.{Planned, planned}
use Rattle.ex_store.specs.State.{State, defined}
use Rattle.ex_commands.specs.declared.acted.Acted.TheVariants as answers
use Rattle.ex_commands.specs.declared.command.Command.{Command}
use Rattle.ex_commands.specs.declared.command.Command.TheVariants as commands
use Rattle.ex_commands.specs.declared.pairs.Origin.{Origin}
use Rattle.ex_commands.specs.declared.pairs.Origin.TheVariants.{Files, Queue}
use Rattle.ex_commands.specs.Act.{act_of}
use Rattle.ex_commands.specs.Command.{is_pending}
use Rattle.ex_commands.specs.Commands.Directory.{lists_rows}
use Rattle.ex_commands.specs.Commands.Print.{request_of}
use Rattle.ex_commands.specs.Effect.{Act, pends, plays, refuses}

pub data Comes (command : Command) (state : State) (act : Act) : Type 0 where
  done : act.answer ≡ answers.Ok → Comes command state act
  refused : (code : Code) → act ≡ refuses code state → Comes command state act
  waits : is_pending command ≡ true → act ≡ pends state → Comes command state act
  begun : (to : Place) → command ≡ commands.CopyTty to → act.answer ≡ answers.Data → Comes command state act
  taken : (file : Place) → command ≡ commands.Take file → act.answer ≡ answers.Take → Comes command state act
  ended : command ≡ commands.Logout → act.answer ≡ answers.Logout → Comes command state act

plan_comes : (command : Command) (origin : Origin) (made : Result Planned Code) (state : State)
    → Comes command state (plays origin made state)
plan_comes command origin (Ok made) state = done refl
plan_comes command origin (Err code) state = refused code refl

list_comes : (command : Command) (read : Bool) (directory : List ℕ) (rows : List Row) (state : State)
    → Comes command state (lists_rows read directory rows state)
list_comes command read directory [] state = refused NoMatch refl
list_comes command read directory (row ∷ rows) state = done refl

choice_comes : (command : Command) (state : State) (test : Bool) (one other : Act) → Comes command state one
    → Comes command state other → Comes command state (cond test one other)
choice_comes command state true one other here there = here
choice_comes command state false one other here there = there

-- with subcommands it waits, and else it acts
pend_comes : (command : Command) (state : State) (sub : Bool) (act : Act) → is_pending command ≡ sub
    → Comes command state act → Comes command state (cond sub (pends state) act)
pend_comes command state true act is there = waits is refl
pend_comes command state false act is there = there

pub comes : (command : Command) (moment : ℕ) (state : State) → Comes command state (act_of command moment state)
unfolding act_of
comes commands.Empty moment state = done refl
comes (commands.Append from to) moment state =
    plan_comes (commands.Append from to) Files (planned (plans.Append from to) moment state) state
comes (commands.Build directory retention sub) moment state =
    pend_comes (commands.Build directory retention sub) state sub _ refl
    (plan_comes (commands.Build directory retention sub) Files (planned (plans.Build directory retention) moment state) state)
comes (commands.Connect directory) moment state = done refl
comes (commands.Copy from to) moment state =
    plan_comes (commands.Copy from to) Files (planned (plans.Copy from to) moment state) state
comes (commands.CopyTty to) moment state =
    choice_comes (commands.CopyTty to) state (lacks_name to) _ _ (refused NameNeeded refl) (begun to refl refl)
comes (commands.Define name None) moment state =
    choice_comes (commands.Define name None) state (defined name state) _ _ (done refl) (refused NoDefinition refl)
comes (commands.Define name (Some directory)) moment state =
    plan_comes (commands.Define name (Some directory)) Files (planned (plans.Define name directory) moment state) state
comes (commands.Delete files) moment state = done refl
comes (commands.Directory files since before deleted read sub) moment state =
    pend_comes (commands.Directory files since before deleted read sub) state sub _ refl
    (list_comes (commands.Directory files since before deleted read sub) read files.directory _ state)
comes (commands.Expunge directory) moment state = done refl
comes (commands.Information what) moment state = done refl
comes commands.Logout moment state = ended refl refl
comes (commands.Print files copies form after job note) moment state =
    choice_comes (commands.Print files copies form after job note) state (nat_lt 0 copies && nat_le copies COPIES_LIMIT) _ _
    (plan_comes (commands.Print files copies form after job note) Queue
    (planned (plans.Print files (request_of copies form after job note)) moment state) state)
    (refused CopyRange refl)
comes commands.Remark moment state = done refl
comes (commands.Rename from to) moment state =
    plan_comes (commands.Rename from to) Files (planned (plans.Rename from to) moment state) state
comes (commands.Set files keep) moment state = done refl
comes (commands.Take file) moment state = taken file refl refl
comes (commands.TypeOut files) moment state = done refl
comes (commands.Undelete files) moment state = done refl

-- a refused act changes nothing, and shows why it is refused
refused_stays : (command : Command) (state : State) (act : Act) → Comes command state act → (code : Code)
    → act.answer ≡ answers.Refused code → (act.state ≡ state) × (act.reply ≡ refusal code)
refused_stays command state act (done is) code says = absurd (cc)
refused_stays command state act (refused other is) code says =
    let both : answers.Refused other ≡ answers.Refused code = sym (ap (λ (act : Act). act.answer) is) ∙ says in
    let same : other ≡ code = cc in
    (ap (λ (act : Act). act.state) is, ap (λ (act : Act). act.reply) is ∙ ap refusal same)
refused_stays command state act (waits pending is) code says =
    let both : answers.Pending ≡ answers.Refused code = sym (ap (λ (act : Act). act.answer) is) ∙ says in absurd (cc)
refused_stays command state act (begun to named is) code says = absurd (cc)
refused_stays command state act (taken file named is) code says = absurd (cc)
refused_stays command state act (ended named is) code says = absurd (cc)

pub refusal_stays : (command : Command) (moment : ℕ) (state : State) (code : Code)
    → (act_of command moment state).answer ≡ answers.Refused code
    → ((act_of command moment state).state ≡ state) × ((act_of command moment state).reply ≡ refusal code)
refusal_stays command moment state =
    refused_stays command state (act_of command moment state) (comes command moment state)

-- LOGOUT alone ends the run
of_logout : (command : Command) (state : State) (act : Act) → Comes command state act → act.answer ≡ answers.Logout
    → command ≡ commands.Logout
of_logout command state act (done is) says = absurd (cc)
of_logout command state act (refused code is) says =
    let both : answers.Refused code ≡ answers.Logout = sym (ap (λ (act : Act). act.answer) is) ∙ says in absurd (cc)
of_logout command state act (waits pending is) says =
    let both : answers.Pending ≡ answers.Logout = sym (ap (λ (act : Act). act.answer) is) ∙ says in absurd (cc)
of_logout command state act (begun to named is) says = absurd (cc)
of_logout command state act (taken file named is) says = absurd (cc)
of_logout command state act (ended named is) says = named

logout_ends : (moment : ℕ) (state : State) → (act_of commands.Logout moment state).answer ≡ answers.Logout
unfolding act_of
logout_ends moment state = refl

pub ends_by_logout : (command : Command) (moment : ℕ) (state : State)
    → ((act_of command moment state).answer ≡ answers.Logout) ↔ (command ≡ commands.Logout)
ends_by_logout command moment state = (
  of_logout command state (act_of command moment state) (comes command moment state),
  λ named. ap (λ (command : Command). (act_of command moment state).answer) named ∙ logout_ends moment state,
)

-- COPY TTY: alone begins to type a file in
of_copy : (command : Command) (state : State) (act : Act) → Comes command state act → act.answer ≡ answers.Data
    → (to : Place) × (command ≡ commands.CopyTty to)
of_copy command state act (done is) says = absurd (cc)
of_copy command state act (refused code is) says =
    let both : answers.Refused code ≡ answers.Data = sym (ap (λ (act : Act). act.answer) is) ∙ says in absurd (cc)
of_copy command state act (waits pending is) says =
    let both : answers.Pending ≡ answers.Data = sym (ap (λ (act : Act). act.answer) is) ∙ says in absurd (cc)
of_copy command state act (begun to named is) says = (to, named)
of_copy command state act (taken file named is) says = absurd (cc)
of_copy command state act (ended named is) says = absurd (cc)

pub begins_by_copy : (command : Command) (moment : ℕ) (state : State)
    → (act_of command moment state).answer ≡ answers.Data → (to : Place) × (command ≡ commands.CopyTty to)
begins_by_copy command moment state =
    of_copy command state (act_of command moment state) (comes command moment state)

-- TAKE alone begins a command file
of_take : (command : Command) (state : State) (act : Act) → Comes command state act → act.answer ≡ answers.Take
    → (file : Place) × (command ≡ commands.Take file)
of_take command state act (done is) says = absurd (cc)
of_take command state act (refused code is) says =
    let both : answers.Refused code ≡ answers.Take = sym (ap (λ (act : Act). act.answer) is) ∙ says in absurd (cc)
of_take command state act (waits pending is) says =
    let both : answers.Pending ≡ answers.Take = sym (ap (λ (act : Act). act.answer) is) ∙ says in absurd (cc)
of_take command state act (begun to named is) says = absurd (cc)
of_take command state act (taken file named is) says = (file, named)
of_take command state act (ended named is) says = absurd (cc)

take_begins : (file : Place) (moment : ℕ) (state : State) → (act_of (commands.Take file) moment state).answer ≡ answers.Take
unfolding act_of
take_begins file moment state = refl

pub begins_by_take : (command : Command) (moment : ℕ) (state : State)
    → ((act_of command moment state).answer ≡ answers.Take) ↔ ((file : Place) × (command ≡ commands.Take file))
begins_by_take command moment state = (
  of_take command state (act_of command moment state) (comes command moment state),
  λ named. ap (λ (command : Command). (act_of command moment state).answer) named.1 ∙ take_begins named.0 moment state,
)

-- what waits for subcommands, and nothing else, is pending; it changes nothing and shows nothing
of_pending : (command : Command) (state : State) (act : Act) → Comes command state act → act.answer ≡ answers.Pending
    → (is_pending command ≡ true) × (act ≡ pends state)
of_pending command state act (done is) says = absurd (cc)
of_pending command state act (refused code is) says =
    let both : answers.Refused code ≡ answers.Pending = sym (ap (λ (act : Act). act.answer) is) ∙ says in absurd (cc)
of_pending command state act (waits pending is) says = (pending, is)
of_pending command state act (begun to named is) says = absurd (cc)
of_pending command state act (taken file named is) says = absurd (cc)
of_pending command state act (ended named is) says = absurd (cc)

pending_waits : (command : Command) (moment : ℕ) (state : State) → is_pending command ≡ true
    → act_of command moment state ≡ pends state
unfolding act_of
pending_waits (commands.Build directory retention true) moment state pending = refl
pending_waits (commands.Build directory retention false) moment state pending = absurd (cc)
pending_waits (commands.Directory files since before deleted read true) moment state pending = refl
pending_waits (commands.Directory files since before deleted read false) moment state pending = absurd (cc)
pending_waits command moment state pending = absurd (cc)

pub waits_for_subcommands : (command : Command) (moment : ℕ) (state : State)
    → ((act_of command moment state).answer ≡ answers.Pending) ↔ (is_pending command ≡ true)
waits_for_subcommands command moment state = (
  λ says. (of_pending command state (act_of command moment state) (comes command moment state) says).0,
  λ pending. ap (λ (act : Act). act.answer) (pending_waits command moment state pending),
)

pub waiting_changes_nothing : (command : Command) (moment : ℕ) (state : State)
    → (act_of command moment state).answer ≡ answers.Pending
    → ((act_of command moment state).state ≡ state) × ((act_of command moment state).reply ≡ [])
waiting_changes_nothing command moment state says =
    let it = of_pending command state (act_of command moment state) (comes command moment state) says in
    (ap (λ (act : Act). act.state) it.1, ap (λ (act : Act). act.reply) it.1)
