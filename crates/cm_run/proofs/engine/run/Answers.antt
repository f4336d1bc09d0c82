use Rattle.std.proofs.Common.{◌≡◌, true, false, refl, ap, sym, ◌∙◌, arith}
use Rattle.cm_lists.proofs.Numbers.{le_add_more}
use Rattle.cm_lists.proofs.Pieces.{count_of_cons}
use Rattle.cm_run.specs.Cause.{Counts, KeystrokeCause, ObeyCause}
use Rattle.cm_run.specs.Trace.{run_state}
use Rattle.cm_run.proofs.FirstPrompt.{run_begins, run_unbegun}
use Rattle.cm_run.proofs.Causes.{acts_cause, asked_last, asked_more, count_cut, count_end, count_limit, count_over, count_prompt, count_unread, counts_same, keystroke_run, run_limit, run_quiet, run_unread}
use Rattle.cm_run.proofs.MomentLaws.{gone_first, gone_on, runs_to}
use Rattle.cm_run.proofs.Progress.{so_far_first, so_far_on, went_cut, went_sound}
use Rattle.cm_run.proofs.Course.{run_ends, run_fails, run_goes_on, run_halts, run_over, run_stops}
use Rattle.cm_run.proofs.engine.run.Goals as goal

pub returns-in-Err-clause-traces : goal.returns-in-Err-clause-traces
returns-in-Err-clause-traces g c = λ keys_tell clock_tells.
    run_unbegun g.A.Application.means c.args.logging _ _ _ _ _ _ (c.in-Err.ensures.traces _ _ _ _ _)

pub returns-in-Err-clause-cause : goal.returns-in-Err-clause-cause
returns-in-Err-clause-cause g c =
    keystroke_run _ _ _ _ refl (acts_cause _ _ _ _ _ _ _ c.in-Err.ensures.cause refl refl)

pub returns-in-Err-clause-count : goal.returns-in-Err-clause-count
returns-in-Err-clause-count g c = λ keys_tell.
    count_prompt c.args.limit _ _ _ 0 _ _ c.in-Err.ensures.cause

pub loop-turn-init : goal.loop-turn-init
unfolding ObeyCause
loop-turn-init g c = record {
  ahead = λ keys_tell clock_tells.
      run_begins g.A.Application.means c.args.logging _ _ _ _ _ _ _ _ (c.in-Ok.ensures.traces _ _ _ _ _) c.new-session.ensures.session c.in-Ok.ensures.session;
  ready = c.in-Ok.ensures.ready;
  count = λ keys_tell. omega arith;
  asked = omega arith;
  screen = c.in-Ok.ensures.cause;
  log = refl;
  keys = refl;
  so_far = λ keys_tell clock_tells. so_far_first g.A.Application.means c.args.app.now _ _ _ _ c.new-session.ensures.session c.in-Ok.ensures.session;
  gone = λ keys_tell. gone_first g.A.Application.means c.args.app.now _ _ _ c.new-session.ensures.session c.in-Ok.ensures.session;
  quiet = λ none. refl;
}

pub returns-then-has_ended-clause-traces : goal.returns-then-has_ended-clause-traces
returns-then-has_ended-clause-traces g c = λ keys_tell clock_tells.
    run_over g.A.Application.means c.args.logging (run_state c.loop-turn.session c.loop-turn.app (g.C.Clock.left c.loop-turn.clock)) _ _ _ _ _ _ _ _ _ _ _
    (c.loop-turn.invariant.ahead keys_tell clock_tells) (sym c.has_ended.ensures ∙ c.if-has_ended.true)

pub returns-then-has_ended-clause-cause : goal.returns-then-has_ended-clause-cause
returns-then-has_ended-clause-cause g c =
    run_quiet _ _ _ _ _ _ _ c.loop-turn.invariant.screen c.loop-turn.invariant.log c.loop-turn.invariant.keys

pub returns-then-has_ended-clause-count : goal.returns-then-has_ended-clause-count
returns-then-has_ended-clause-count g c = λ keys_tell.
    count_over c.args.limit _ _ c.loop-turn._turn _ _ (c.loop-turn.invariant.count keys_tell) c.loop-turn.auto._turn-end (sym c.has_ended.ensures ∙ c.if-has_ended.true)

pub returns-in-End-clause-traces : goal.returns-in-End-clause-traces
returns-in-End-clause-traces g c = λ keys_tell clock_tells.
    run_ends g.A.Application.means c.args.logging (run_state c.loop-turn.session c.loop-turn.app (g.C.Clock.left c.loop-turn.clock)) _ _ _ _ _ _ _ _ _ _ _ _ _
    (c.loop-turn.invariant.ahead keys_tell clock_tells) (sym c.has_ended.ensures ∙ c.if-has_ended.false)
    (c.in-End.ensures.bytes keys_tell).0 (c.in-End.ensures.bytes keys_tell).1 c.in-End.ensures.asked

pub returns-in-End-clause-cause : goal.returns-in-End-clause-cause
returns-in-End-clause-cause g c =
    run_quiet _ _ _ _ _ _ _ c.loop-turn.invariant.screen c.loop-turn.invariant.log (c.in-End.ensures.cause ∙ c.loop-turn.invariant.keys)

pub returns-in-End-clause-count : goal.returns-in-End-clause-count
returns-in-End-clause-count g c = λ keys_tell.
    count_end c.args.limit _ c.loop-turn._turn _ _ _ _ (c.loop-turn.invariant.count keys_tell) c.loop-turn-test.true
    (c.in-End.ensures.bytes keys_tell).0 (c.in-End.ensures.bytes keys_tell).1

pub returns-in-Failed-clause-traces : goal.returns-in-Failed-clause-traces
returns-in-Failed-clause-traces g c = λ keys_tell clock_tells.
    run_fails g.A.Application.means c.args.logging (run_state c.loop-turn.session c.loop-turn.app (g.C.Clock.left c.loop-turn.clock)) _ _ _ _ _ _ _ _ _ _ _ _
    (c.loop-turn.invariant.ahead keys_tell clock_tells) (sym c.has_ended.ensures ∙ c.if-has_ended.false)
    (c.in-Failed.ensures.bytes keys_tell) c.in-Failed.ensures.asked

pub returns-in-Failed-clause-cause : goal.returns-in-Failed-clause-cause
returns-in-Failed-clause-cause g c =
    run_unread _ _ _ _ _ _ _ c.loop-turn.invariant.screen c.loop-turn.invariant.log c.loop-turn.invariant.keys c.in-Failed.ensures.cause

pub returns-in-Failed-clause-count : goal.returns-in-Failed-clause-count
returns-in-Failed-clause-count g c = λ keys_tell.
    count_unread c.args.limit _ c.loop-turn._turn _ _ _ (c.loop-turn.invariant.count keys_tell) c.loop-turn-test.true
    (c.in-Failed.ensures.bytes keys_tell)

pub returns-in-Err-handle_key-clause-traces : goal.returns-in-Err-handle_key-clause-traces
returns-in-Err-handle_key-clause-traces g c = λ keys_tell clock_tells.
    run_stops g.A.Application.means c.args.logging (run_state c.loop-turn.session c.loop-turn.app (g.C.Clock.left c.loop-turn.clock)) _ _ _ _ _ _ _ _ _ _ _ _ _ c.in-Byte.key _
    (c.loop-turn.invariant.ahead keys_tell clock_tells) (sym c.has_ended.ensures ∙ c.if-has_ended.false)
    (c.in-Byte.ensures.bytes keys_tell) c.in-Byte.ensures.asked (c.in-Err-handle_key.ensures.traces clock_tells _ _)

pub returns-in-Err-handle_key-clause-count : goal.returns-in-Err-handle_key-clause-count
returns-in-Err-handle_key-clause-count g c = λ keys_tell.
    count_cut c.args.limit _ c.loop-turn._turn _ _ c.in-Byte.key _ _ _ _ (c.loop-turn.invariant.count keys_tell) c.loop-turn-test.true
    (c.in-Byte.ensures.bytes keys_tell) (c.in-Err-handle_key.ensures.cause 0)

pub returns-in-Err-handle_key-clause-cause : goal.returns-in-Err-handle_key-clause-cause
returns-in-Err-handle_key-clause-cause g c =
    keystroke_run _ _ _ _ (counts_same _ _ _ _ _ _ c.loop-turn.invariant.screen c.loop-turn.invariant.log (c.in-Byte.ensures.cause ∙ c.loop-turn.invariant.keys))
    (c.in-Err-handle_key.ensures.cause (g.K.Source.faults c.get.new.self))

pub loop-turn-preserved : goal.loop-turn-preserved
unfolding KeystrokeCause
loop-turn-preserved g c = record {
  ahead = λ keys_tell clock_tells.
      run_goes_on g.A.Application.means c.args.logging (run_state c.loop-turn.session c.loop-turn.app (g.C.Clock.left c.loop-turn.clock)) _ _ _ _ _ _ _ _ _ _ _ _ _ c.in-Byte.key
      (run_state c.handle_key.new.session c.handle_key.new.app (g.C.Clock.left c.handle_key.new.clock)) _
      (c.loop-turn.invariant.ahead keys_tell clock_tells) (sym c.has_ended.ensures ∙ c.if-has_ended.false)
      (c.in-Byte.ensures.bytes keys_tell) c.in-Byte.ensures.asked (c.in-Ok-handle_key.ensures.traces clock_tells _ _)
      (c.in-Ok-handle_key.ensures.next clock_tells refl);
  ready = c.in-Ok-handle_key.ensures.ready refl;
  count = λ keys_tell. count_of_cons _ c.loop-turn._turn _ _ c.in-Byte.key (c.loop-turn.invariant.count keys_tell) (c.in-Byte.ensures.bytes keys_tell);
  asked = asked_more _ _ _ c.loop-turn._turn c.loop-turn.invariant.asked c.in-Byte.ensures.asked;
  screen = ap (λ (n : Counts). n.screen) (c.in-Ok-handle_key.ensures.cause 0) ∙ c.loop-turn.invariant.screen;
  log = ap (λ (n : Counts). n.log) (c.in-Ok-handle_key.ensures.cause 0) ∙ c.loop-turn.invariant.log;
  keys = c.in-Byte.ensures.cause ∙ c.loop-turn.invariant.keys;
  so_far = λ keys_tell clock_tells.
      so_far_on g.A.Application.means _ _ _ _ (c.loop-turn.invariant.so_far keys_tell clock_tells) _ c.in-Byte.key
      (run_state c.handle_key.new.session c.handle_key.new.app (g.C.Clock.left c.handle_key.new.clock))
      (sym c.has_ended.ensures ∙ c.if-has_ended.false) (c.in-Byte.ensures.bytes keys_tell) c.meets_sound.ensures
      (c.in-Ok-handle_key.ensures.next clock_tells refl);
  gone = λ keys_tell.
      gone_on g.A.Application.means _ _ _ _ _ (c.loop-turn.invariant.gone keys_tell) _ c.in-Byte.key _ _
      (sym c.has_ended.ensures ∙ c.if-has_ended.false) (c.in-Byte.ensures.bytes keys_tell) c.meets_sound.ensures
      (c.in-Ok-handle_key.ensures.leads refl);
  quiet = λ none. (c.in-Ok-handle_key.ensures.quiet none).0 ∙ c.loop-turn.invariant.quiet none;
}

pub returns-then-has_ended-2-clause-traces : goal.returns-then-has_ended-2-clause-traces
returns-then-has_ended-2-clause-traces g c = λ keys_tell clock_tells.
    run_over g.A.Application.means c.args.logging (run_state c.loop-turn.session c.loop-turn.app (g.C.Clock.left c.loop-turn.clock)) _ _ _ _ _ _ _ _ _ _ _
    (c.loop-turn.invariant.ahead keys_tell clock_tells) (sym c.has_ended-2.ensures ∙ c.if-has_ended-2.true)

pub returns-then-has_ended-2-clause-cause : goal.returns-then-has_ended-2-clause-cause
returns-then-has_ended-2-clause-cause g c =
    run_quiet _ _ _ _ _ _ _ c.loop-turn.invariant.screen c.loop-turn.invariant.log c.loop-turn.invariant.keys

pub returns-then-has_ended-2-clause-count : goal.returns-then-has_ended-2-clause-count
returns-then-has_ended-2-clause-count g c = λ keys_tell.
    count_over c.args.limit _ _ c.loop-turn._turn _ _ (c.loop-turn.invariant.count keys_tell) c.loop-turn.auto._turn-end (sym c.has_ended-2.ensures ∙ c.if-has_ended-2.true)

pub returns-else-has_ended-2-clause-traces : goal.returns-else-has_ended-2-clause-traces
returns-else-has_ended-2-clause-traces g c = λ keys_tell clock_tells.
    run_halts g.A.Application.means c.args.logging (run_state c.loop-turn.session c.loop-turn.app (g.C.Clock.left c.loop-turn.clock)) _ _ _ _ _ _ _ _ _ _
    (c.loop-turn.invariant.ahead keys_tell clock_tells) (sym c.has_ended-2.ensures ∙ c.if-has_ended-2.false)

pub returns-else-has_ended-2-clause-cause : goal.returns-else-has_ended-2-clause-cause
returns-else-has_ended-2-clause-cause g c =
    run_limit _ _ _ _ _ _ c.loop-turn.invariant.screen c.loop-turn.invariant.log c.loop-turn.invariant.keys

pub returns-else-has_ended-2-clause-count : goal.returns-else-has_ended-2-clause-count
returns-else-has_ended-2-clause-count g c = λ keys_tell.
    count_limit c.args.limit _ _ c.loop-turn._turn _ (c.loop-turn.invariant.count keys_tell) c.loop-turn.auto._turn-end c.loop-turn-test.false
    (sym c.has_ended-2.ensures ∙ c.if-has_ended-2.false)

-- what the keys that were taken met
pub returns-in-Err-clause-sound : goal.returns-in-Err-clause-sound
returns-in-Err-clause-sound g c = λ keys_tell clock_tells.
    went_sound g.A.Application.means _ _ _ _
    (so_far_first g.A.Application.means c.args.app.now (g.C.Clock.left c.args.clock.now) (g.K.Source.left c.args.keys.now) _ _ refl refl) _ refl

pub returns-then-has_ended-clause-sound : goal.returns-then-has_ended-clause-sound
returns-then-has_ended-clause-sound g c = λ keys_tell clock_tells.
    went_sound g.A.Application.means _ _ _ _ (c.loop-turn.invariant.so_far keys_tell clock_tells) _ refl

pub returns-in-End-clause-sound : goal.returns-in-End-clause-sound
returns-in-End-clause-sound g c = λ keys_tell clock_tells.
    went_sound g.A.Application.means _ _ _ _ (c.loop-turn.invariant.so_far keys_tell clock_tells) _
    ((c.in-End.ensures.bytes keys_tell).1 ∙ sym (c.in-End.ensures.bytes keys_tell).0)

pub returns-in-Failed-clause-sound : goal.returns-in-Failed-clause-sound
returns-in-Failed-clause-sound g c = λ keys_tell clock_tells.
    went_sound g.A.Application.means _ _ _ _ (c.loop-turn.invariant.so_far keys_tell clock_tells) _ (c.in-Failed.ensures.bytes keys_tell)

pub returns-in-Err-handle_key-clause-sound : goal.returns-in-Err-handle_key-clause-sound
returns-in-Err-handle_key-clause-sound g c = λ keys_tell clock_tells.
    went_sound g.A.Application.means _ _ _ _
    (went_cut g.A.Application.means _ _ _ _ (c.loop-turn.invariant.so_far keys_tell clock_tells) _ c.in-Byte.key
    (sym c.has_ended.ensures ∙ c.if-has_ended.false) (c.in-Byte.ensures.bytes keys_tell) c.meets_sound.ensures) _ refl

pub returns-then-has_ended-2-clause-sound : goal.returns-then-has_ended-2-clause-sound
returns-then-has_ended-2-clause-sound g c = λ keys_tell clock_tells.
    went_sound g.A.Application.means _ _ _ _ (c.loop-turn.invariant.so_far keys_tell clock_tells) _ refl

pub returns-else-has_ended-2-clause-sound : goal.returns-else-has_ended-2-clause-sound
returns-else-has_ended-2-clause-sound g c = λ keys_tell clock_tells.
    went_sound g.A.Application.means _ _ _ _ (c.loop-turn.invariant.so_far keys_tell clock_tells) _ refl

-- how many gets were asked
pub returns-in-Err-clause-asked : goal.returns-in-Err-clause-asked
returns-in-Err-clause-asked g c = omega arith

pub returns-then-has_ended-clause-asked : goal.returns-then-has_ended-clause-asked
returns-then-has_ended-clause-asked g c =
    le_add_more c.args.limit _ _ c.loop-turn._turn c.loop-turn.invariant.asked c.loop-turn.auto._turn-end

pub returns-in-End-clause-asked : goal.returns-in-End-clause-asked
returns-in-End-clause-asked g c =
    asked_last c.args.limit _ _ _ c.loop-turn._turn c.loop-turn.invariant.asked c.loop-turn-test.true c.in-End.ensures.asked

pub returns-in-Failed-clause-asked : goal.returns-in-Failed-clause-asked
returns-in-Failed-clause-asked g c =
    asked_last c.args.limit _ _ _ c.loop-turn._turn c.loop-turn.invariant.asked c.loop-turn-test.true c.in-Failed.ensures.asked

pub returns-in-Err-handle_key-clause-asked : goal.returns-in-Err-handle_key-clause-asked
returns-in-Err-handle_key-clause-asked g c =
    asked_last c.args.limit _ _ _ c.loop-turn._turn c.loop-turn.invariant.asked c.loop-turn-test.true c.in-Byte.ensures.asked

pub returns-then-has_ended-2-clause-asked : goal.returns-then-has_ended-2-clause-asked
returns-then-has_ended-2-clause-asked g c =
    le_add_more c.args.limit _ _ c.loop-turn._turn c.loop-turn.invariant.asked c.loop-turn.auto._turn-end

pub returns-else-has_ended-2-clause-asked : goal.returns-else-has_ended-2-clause-asked
returns-else-has_ended-2-clause-asked g c =
    le_add_more c.args.limit _ _ c.loop-turn._turn c.loop-turn.invariant.asked c.loop-turn.auto._turn-end

-- where the keys that were taken lead
pub returns-then-has_ended-clause-leads : goal.returns-then-has_ended-clause-leads
returns-then-has_ended-clause-leads g c = λ keys_tell so_far.
    runs_to g.A.Application.means _ _ _ _ _ (c.loop-turn.invariant.gone keys_tell) _ refl
    (λ going. let both : true ≡ false = sym c.if-has_ended.true ∙ c.has_ended.ensures ∙ going in absurd (cc))

pub returns-in-End-clause-leads : goal.returns-in-End-clause-leads
returns-in-End-clause-leads g c = λ keys_tell so_far.
    runs_to g.A.Application.means _ _ _ _ _ (c.loop-turn.invariant.gone keys_tell) _
    ((c.in-End.ensures.bytes keys_tell).1 ∙ sym (c.in-End.ensures.bytes keys_tell).0) (λ going. (c.in-End.ensures.bytes keys_tell).1)

pub returns-then-has_ended-2-clause-leads : goal.returns-then-has_ended-2-clause-leads
returns-then-has_ended-2-clause-leads g c = λ keys_tell so_far.
    runs_to g.A.Application.means _ _ _ _ _ (c.loop-turn.invariant.gone keys_tell) _ refl
    (λ going. let both : true ≡ false = sym c.if-has_ended-2.true ∙ c.has_ended-2.ensures ∙ going in absurd (cc))
