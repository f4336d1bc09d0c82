-- A control file is run, or it is not.
use Rattle.std.proofs.Common.{◌≡◌, ℕ, ◌+◌, ◌≤◌, List, [], ◌∷◌, ◌++◌, Result, Ok, Err, refl, sym, ap, ◌∙◌, subst, arith}
use Rattle.std.specs.Prelude.{IfOk}
use Rattle.std.proofs.lemmas.List.Sums.{sum_by-append}
use Rattle.cm_text.specs.Lines.{lines}
use Rattle.cm_fields.specs.declared.code.Code.{Code}
use Rattle.cm_io.proofs.Additions.{add_none}
use Rattle.cm_run.specs.Cause.{ObeyCause}
use Rattle.cm_run.specs.Cut.{Cut, EndCut, KeyCut, LimitCut, LogCut, MemoryCut, ScreenCut, Traces, event_of, part_of}
use Rattle.cm_run.specs.Event.{Event, Memory, event_trials, trials_of}
use Rattle.cm_run.specs.Observation.{Observation, Performs}
use Rattle.cm_run.specs.declared.stop.Stop.{Stop}
use Rattle.cm_run.specs.declared.stop.Stop.TheVariants as stop
use Rattle.cm_run.proofs.Joins.{performs_none, traces_both, traces_none}
use Rattle.ex_commands.specs.Commands.Take.{bytes_of}
use Rattle.ex_store.specs.State.{State, catalogue_of}
use Rattle.ex_store.specs.declared.place.Place.{Place}
use Rattle.ex_take.specs.ExecState.{ExecState, exec_start}
use Rattle.ex_batch.specs.Batch.{Batch, batch_of}
use Rattle.ex_batch.specs.ControlFile.{named_file}
use Rattle.ex_batch.specs.RunEnd.{Ran, Scene, seen}
use Rattle.ex_batch.specs.Takes.{Runs, step_outcome}
use Rattle.ex_batch.specs.Whole.{batch_by, whole_of}
use Rattle.ex_batch.specs.declared.step.Ended.{Ended}
use Rattle.ex_batch.specs.declared.step.Ended.TheVariants.{Stopped}

-- memory is given
memory_given : (a : Observation ExecState) → Performs a a (Memory ∷ [])
unfolding Performs
memory_given a = record {
  screen = sym (add_none a.screen);
  log = sym (add_none a.log);
  keys = refl;
  gets = refl;
  moments = refl;
  trials = omega arith;
  state = refl;
}

module _ (known : Type 0) (word : List ℕ) (start state : State) (job : ExecState) (begins : job ≡ exec_start start)
    (held : state ≡ job.interpreter.state) where
  here : state ≡ start
  here = held ∙ ap (λ (it : ExecState). it.interpreter.state) begins

  -- the whole run, by the file that is named
  named : (said : Result Place Code) (moments : List ℕ) → said ≡ named_file (catalogue_of state) word
      → whole_of start word moments ≡ batch_by start moments said
  unfolding whole_of
  named said moments is =
      ap (λ (it : State). batch_by start moments (named_file (catalogue_of it) word)) (sym here)
      ∙ ap (λ (it : Result Place Code). batch_by start moments it) (sym is)

  module _ (a : Scene) where
    -- the file is refused
    pub ran_refused : (code : Code) → Err code ≡ named_file (catalogue_of state) word
        → Ran known word start job (Ok (Stopped code)) a a
    unfolding ObeyCause
    ran_refused code is =
        let so : whole_of start word a.moments ≡ record { events = []; end = Stopped code } = named (Err code) a.moments is in
        record {
          given = a.moments;
          later = a.moments;
          own = λ _. (refl, refl);
          runs = record {
            traces = subst (λ (it : Batch). Traces (seen a a.moments (exec_start start)) (seen a a.moments job) it.events (Ok tt)) (sym so)
                (subst (λ (it : ExecState). Traces (seen a a.moments (exec_start start)) (seen a a.moments it) [] (Ok tt)) (sym begins)
                (traces_none (seen a a.moments (exec_start start)) tt));
            end = ap (λ (it : Batch). it.end) (sym so);
          };
          cause = refl;
        }

    module _ (place : Place) (is : Ok place ≡ named_file (catalogue_of state) word) where
      abbrev batch : List ℕ → Batch
      batch moments = batch_of (lines (bytes_of place start)) moments (exec_start start)

      so : (moments : List ℕ) → whole_of start word moments ≡ record { events = Memory ∷ (batch moments).events; end = (batch moments).end }
      so moments = named (Ok place) moments is

      -- memory runs out for its lines
      pub ran_short : Ran known word start job (Err stop.Memory) a a
      unfolding Traces ObeyCause
      ran_short = record {
        given = a.moments;
        later = a.moments;
        own = λ _. (refl, refl);
        runs = record {
          traces = subst (λ (it : Batch). Traces (seen a a.moments (exec_start start)) (seen a a.moments job) it.events (Err stop.Memory))
              (sym (so a.moments))
              (record {
                done = [];
                cut = MemoryCut;
                rest = (batch a.moments).events;
                cause = refl;
                split = refl;
                stands = subst (λ (it : ExecState). Performs (seen a a.moments (exec_start start)) (seen a a.moments it) []) (sym begins)
                    (performs_none (seen a a.moments (exec_start start)));
              });
          end = tt;
        };
        cause = refl;
      }

      -- the lines are run over these moments
      pub ran_lines : (held_lines : List (List ℕ)) (bytes : List ℕ) (left : ExecState) (b : Scene) (how : Result Ended Stop)
          → bytes ≡ bytes_of place state → held_lines ≡ lines bytes
          → (given later : List ℕ) → (known → (given ≡ a.moments) × (later ≡ b.moments))
          → Runs (seen a given job) (seen b later left) (batch_of held_lines given job) how
          → ObeyCause a.faults b.faults (step_outcome how) → Ran known word start left how a b
      ran_lines held_lines bytes left b how of read given later own runs cause =
          let same : held_lines ≡ lines (bytes_of place start) =
          read ∙ ap lines of ∙ ap (λ (it : State). lines (bytes_of place it)) here in
          let run : batch_of held_lines given job ≡ batch given =
          ap (λ (it : List (List ℕ)). batch_of it given job) same
          ∙ ap (λ (it : ExecState). batch_of (lines (bytes_of place start)) given it) begins in
          record {
            given = given;
            later = later;
            own = own;
            runs = record {
              traces = subst (λ (it : Batch). Traces (seen a given (exec_start start)) (seen b later left) it.events (step_outcome how)) (sym (so given))
                  (traces_both (seen a given (exec_start start)) (seen a given (exec_start start)) (seen b later left) (Memory ∷ []) (batch given).events
                  (step_outcome how)
                  (subst (λ (it : Batch). Traces (seen a given (exec_start start)) (seen b later left) it.events (step_outcome how)) run
                  (subst (λ (it : ExecState). Traces (seen a given it) (seen b later left) (batch_of held_lines given job).events (step_outcome how)) begins
                  runs.traces))
                  (memory_given (seen a given (exec_start start))));
              end = subst (λ (it : Batch). IfOk how (λ end. end ≡ it.end)) (sym (so given))
                  (subst (λ (it : Batch). IfOk how (λ end. end ≡ it.end)) run runs.end);
            };
            cause = cause;
          }

-- a run that was cut has counted no more than the whole costs
none_cost : (cut : Cut) → trials_of {S = ExecState} (part_of cut) ≡ 0
none_cost (ScreenCut part rest) = refl
none_cost (LogCut part rest) = refl
none_cost (KeyCut key) = refl
none_cost EndCut = refl
none_cost MemoryCut = refl
none_cost LimitCut = refl

pub cut_most : (a b : Observation ExecState) (events : List (Event ExecState)) (result : Result Unit Stop) → Traces a b events result
    → b.trials ≤ a.trials + trials_of events
unfolding Traces Performs
cut_most a b events (Ok value) traces = let all : b.trials ≡ a.trials + trials_of events = traces.trials in omega (arith, all)
cut_most a b events (Err why) traces =
    let counted : b.trials ≡ a.trials + trials_of (traces.done ++ part_of traces.cut) = traces.stands.trials in
    let before : trials_of (traces.done ++ part_of traces.cut) ≡ trials_of traces.done + trials_of (part_of traces.cut) =
    sum_by-append event_trials traces.done (part_of traces.cut) in
    let none : trials_of (part_of traces.cut) ≡ 0 = none_cost traces.cut in
    let whole : trials_of (traces.done ++ event_of traces.cut ∷ traces.rest) ≡ trials_of traces.done + trials_of (event_of traces.cut ∷ traces.rest) =
    sum_by-append event_trials traces.done (event_of traces.cut ∷ traces.rest) in
    let same : trials_of (traces.done ++ event_of traces.cut ∷ traces.rest) ≡ trials_of events = ap (λ (it : List (Event ExecState)). trials_of it) traces.split in
    omega (arith, counted, before, none, whole, same)
