-- What is answered where a reply was written, and the writer is finished.
use Rattle.std.proofs.Common.{◌≡◌, ℕ, ◌≤◌, Bool, [], ap, subst, sym, ◌∙◌}
use Rattle.std.specs.Borrow.{MutBor}
use Rattle.cm_io.specs.declared.sink.Put.{Put}
use Rattle.cm_io.specs.declared.sink.Put.TheVariants.{Done, Failed}
use Rattle.cm_io.specs.declared.sink.Sink.{Ghosts}
use Rattle.cm_io.specs.declared.writer.Writer.{Writer}
use Rattle.cm_io.specs.Contents.{Contents}
use Rattle.cm_io.specs.Writer.{Begins, Finishes, Outlet, Puts, Writes}
use Rattle.cm_io.proofs.Additions.{add_none}
use Rattle.cm_io.proofs.Texts.{writes_none}
use Rattle.cm_io.proofs.Writers.{finish_puts}
use Rattle.ex_store.specs.State.{State}
use Rattle.ex_commands.specs.declared.acted.Acted.{Acted}
use Rattle.ex_commands.specs.declared.acted.Acted.TheVariants as answers
use Rattle.ex_commands.specs.Answer.{ActCause, Answers, IsDone, answer_by}
use Rattle.ex_commands.specs.Effect.{Act}
use Rattle.ex_commands.specs.Outcome.{IsWanting, Outcome, Replies}

-- what a public call says of its answer
pub record Reports (before now : Contents) (faults last : ℕ) (act : Act) (lacks : Bool) (start left : State)
    (answer : Acted) : Type 0 where
  pub acts : Answers before now act lacks start left answer
  pub rise : faults ≤ last
  pub cause : ActCause faults last answer

-- by how the reply was put
by_put : (before now : Contents) (faults last : ℕ) (act : Act) (lacks : Bool) (start left : State) (answer : Acted)
    (put : Put) → act.answer ≡ answer → left ≡ act.state → Puts before now faults last act.reply put
    → (IsDone before now act left answer → Answers before now act lacks start left answer)
    → (last ≡ faults → ActCause faults last answer)
    → Reports before now faults last act lacks start left (answer_by answer put)
by_put before now faults last act lacks start left answer Done is state puts done cause = record {
  acts = done (record { answer_is = is; contents = puts.bytes; state = state });
  rise = puts.rise;
  cause = cause puts.cause;
}
by_put before now faults last act lacks start left answer Failed is state puts done cause =
    record { acts = record { contents = puts.bytes; state = state }; rise = puts.rise; cause = puts.cause }

-- where memory ran out nothing is written, so that the sink was not asked
wanting : {T : Type 0} (s : Ghosts T) (sink : MutBor T) (a b c : Writer T) (act : Act) (lacks : Bool)
    (start left : State) (put : Put) → Finishes s b c put → IsWanting a b lacks start left → Begins s sink a
    → Reports (s.contents sink.now) (s.contents c.sink.now) (s.faults sink.now) (s.faults c.sink.now) act lacks start
    left (answer_by answers.NoMemory put)
wanting s sink a b c act lacks start left put finishes wants begun =
    let held : b.held ≡ [] =
    ap (λ (it : Writer _). it.held) wants.unwritten ∙ ap (λ (at : Outlet). at.held) begun.begins in
    let outcome : b.outcome ≡ Done =
    ap (λ (it : Writer _). it.outcome) wants.unwritten ∙ ap (λ (at : Outlet). at.outcome) begun.begins in
    let done : put ≡ Done = finishes.idle held ∙ outcome in
    let puts = finish_puts s sink a b c [] put finishes
    (subst (λ it. Writes s a it []) (sym wants.unwritten) (writes_none s a)) begun in
    let told : Puts (s.contents sink.now) (s.contents c.sink.now) (s.faults sink.now) (s.faults c.sink.now) [] Done =
    subst (λ it. Puts (s.contents sink.now) (s.contents c.sink.now) (s.faults sink.now) (s.faults c.sink.now) [] it)
    done puts in
    rw done (record {
      acts = record {
        may_allocate = wants.may_allocate;
        contents = told.bytes ∙ add_none (s.contents sink.now);
        state = wants.state;
      };
      rise = told.rise;
      cause = told.cause;
    })

-- [cut-reply] what comes of an act whose reply is written, and then finished
pub outcome_reports : {T : Type 0} (s : Ghosts T) (sink : MutBor T) (a b c : Writer T) (act : Act) (lacks : Bool)
    (start left : State) (done : Acted) (put : Put) → Finishes s b c put
    → Outcome s a b act lacks start left done → Begins s sink a
    → Reports (s.contents sink.now) (s.contents c.sink.now) (s.faults sink.now) (s.faults c.sink.now) act lacks start
    left (answer_by done put)
outcome_reports s sink a b c act lacks start left done put finishes outcome begun = by done outcome
  where
    replied : (answer : Acted) → Replies s a b act left answer
        → (IsDone (s.contents sink.now) (s.contents c.sink.now) act left answer
        → Answers (s.contents sink.now) (s.contents c.sink.now) act lacks start left answer)
        → (s.faults c.sink.now ≡ s.faults sink.now → ActCause (s.faults sink.now) (s.faults c.sink.now) answer)
        → Reports (s.contents sink.now) (s.contents c.sink.now) (s.faults sink.now) (s.faults c.sink.now) act lacks
        start left (answer_by answer put)
    replied answer replies = by_put _ _ _ _ act lacks start left answer put replies.answer_is replies.state
        (finish_puts s sink a b c act.reply put finishes replies.reply begun)

    by : (done : Acted) → Outcome s a b act lacks start left done
        → Reports (s.contents sink.now) (s.contents c.sink.now) (s.faults sink.now) (s.faults c.sink.now) act lacks
        start left (answer_by done put)
    by answers.NoMemory wants = wanting s sink a b c act lacks start left put finishes wants begun
    by answers.Failed never = absurd never
    by answers.Ok replies = replied answers.Ok replies (λ it. it) (λ it. it)
    by (answers.Refused code) replies = replied (answers.Refused code) replies (λ it. it) (λ it. it)
    by answers.Pending replies = replied answers.Pending replies (λ it. it) (λ it. it)
    by answers.Data replies = replied answers.Data replies (λ it. it) (λ it. it)
    by answers.Take replies = replied answers.Take replies (λ it. it) (λ it. it)
    by answers.Logout replies = replied answers.Logout replies (λ it. it) (λ it. it)
