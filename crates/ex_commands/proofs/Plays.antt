-- A plan that is done with a line for each pair of files, and one that is refused.
use Rattle.std.proofs.Common.{◌≡◌, ◌∙◌, ℕ, true, List, Result, Ok, Err, refl, ap, subst}
use Rattle.cm_fields.specs.declared.code.Code.{Code}
use Rattle.cm_io.specs.declared.sink.Sink.{Ghosts}
use Rattle.cm_io.specs.declared.writer.Writer.{Writer}
use Rattle.cm_io.specs.Writer.{Writes}
use Rattle.ex_store.specs.declared.key.NamePair.{NamePair}
use Rattle.ex_store.specs.declared.plan.Refusal.{Refusal}
use Rattle.ex_store.specs.declared.plan.Refusal.TheVariants as refusals
use Rattle.ex_store.specs.Plan.{IsRefused, Planned}
use Rattle.ex_store.specs.Ready.{Change, applied, done_on}
use Rattle.ex_store.specs.State.{State}
use Rattle.ex_commands.specs.declared.acted.Acted.{Acted}
use Rattle.ex_commands.specs.declared.acted.Acted.TheVariants as answers
use Rattle.ex_commands.specs.Effect.{plays_by, refuses}
use Rattle.ex_commands.specs.Outcome.{Outcome}

-- a plan that is ready, the reply to it written and then all of it done
pub play_done : {T : Type 0} (s : Ghosts T) (before now : Writer T) (reply : List NamePair → List ℕ) (plan : Result Planned Code)
    (change : Change) (state middle left : State) → plan ≡ Ok (done_on state change) → middle ≡ state
    → Writes s before now (reply change.pairs) → left ≡ applied change middle
    → Outcome s before now (plays_by reply plan state) true state left answers.Ok
play_done s before now reply plan change state middle left ready same writes leaves =
    rw ready (record { answer_is = refl; reply = writes; state = leaves ∙ ap (applied change) same })

-- a plan that is refused, which leaves what there was
pub play_refused : {T : Type 0} (s : Ghosts T) (before now : Writer T) (reply : List NamePair → List ℕ) (plan : Result Planned Code)
    (refusal : Refusal) (code shown : Code) (state left : State) (answer : Acted) → IsRefused plan refusal
    → refusal ≡ refusals.Code code → shown ≡ code → left ≡ state
    → Outcome s before now (refuses shown state) true state state answer
    → Outcome s before now (plays_by reply plan state) true state left answer
play_refused s before now reply plan refusal code shown state left answer refused is_code same leaves acts =
    let coded : plan ≡ Err code = subst (IsRefused plan) is_code refused in
    rw (coded, ← same, leaves) acts
