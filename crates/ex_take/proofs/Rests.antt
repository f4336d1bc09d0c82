-- Where nothing is left to be done, and what a line leaves of that with the command files that it takes.
-- After a line of a command file a file is open, or nothing is left (StandsClosed of Quiet, which gives Stands of typed
-- lines by closed_stands). Rests says it by is_at_rest alone.
use Rattle.std.proofs.Common.{◌≡◌, inl, ℕ, ◌==◌, ◌&&◌, not, Bool, true, false, List, [], ◌∷◌, length, None, refl, sym, ◌∙◌}
use Rattle.std.proofs.lemmas.Bool.{eqb-true}
use Rattle.cm_lists.proofs.Bools.{and_first, and_second}
use Rattle.cm_lists.proofs.Options.{none_of_not_some}
use Rattle.cm_lists.proofs.Pieces.{cons_is_not_empty}
use Rattle.cm_fields.specs.declared.code.Code.{Code}
use Rattle.cm_run.specs.Semantics.{Effect}
use Rattle.cm_run.specs.Obey.{left_by}
use Rattle.cm_run.specs.declared.engine.TheConstants.{FILE_LINES}
use Rattle.ex_commands.specs.Command.{is_pending}
use Rattle.ex_commands.specs.declared.command.Command.{Command}
use Rattle.ex_commands.specs.declared.command.Command.TheVariants as commands
use Rattle.ex_store.specs.declared.place.Place.{Place}
use Rattle.ex_take.specs.Exec.{command_effects, refuses, stopped}
use Rattle.ex_take.specs.ExecState.{ExecState}
use Rattle.ex_take.specs.Interpreter.{is_free}
use Rattle.ex_take.specs.Taking.{RestsUnlessEnded, is_at_rest}
use Rattle.ex_take.proofs.Quiet.{AreClosed, StandsClosed, stopped_closed}
use Rattle.ex_take.proofs.QuietKeys.{after, all_closed}
use Rattle.ex_take.proofs.QuietLines.{commands_closed}

no_file : (files : List (List (List ℕ))) → (length files == 0) ≡ true → files ≡ []
no_file [] none = refl
no_file (file ∷ files) none = let wrong : true ≡ false = sym none ∙ cons_is_not_empty file files in absurd (cc)

not_true : (test : Bool) → not test ≡ true → test ≡ false
not_true true is = absurd (cc)
not_true false is = refl

pub rest_goes_on : (at : ExecState) → is_at_rest at ≡ true → at.interpreter.ended ≡ false
rest_goes_on at rests = not_true at.interpreter.ended (and_first _ _ rests)

pub rest_typing : (at : ExecState) → is_at_rest at ≡ true → at.interpreter.typing ≡ None
rest_typing at rests = none_of_not_some at.interpreter.typing (and_second _ _ (and_first _ _ (and_second _ _ rests)))

pub rest_pending : (at : ExecState) → is_at_rest at ≡ true → at.interpreter.pending ≡ None
rest_pending at rests = none_of_not_some at.interpreter.pending (and_first _ _ (and_first _ _ (and_second _ _ rests)))

pub rest_files : (at : ExecState) → is_at_rest at ≡ true → at.files ≡ []
rest_files at rests = no_file at.files (and_first _ _ (and_second _ _ (and_second _ _ rests)))

none_taken : (goes_on free closed none : Bool) → (goes_on && (free && (closed && none))) ≡ true → none ≡ true
none_taken goes_on free closed none all =
    and_second closed none (and_second free (closed && none) (and_second goes_on (free && (closed && none)) all))

closed_of : (at : ExecState) → is_at_rest at ≡ true → AreClosed at
closed_of at rests = record {
  files = rest_files at rests;
  taken = eqb-true at.taken 0 (none_taken (not at.interpreter.ended) (is_free at.interpreter) (length at.files == 0) (at.taken == 0) rests);
  line = rest_typing at rests;
  free = rest_pending at rests;
}

rest_of : (at : ExecState) → at.interpreter.ended ≡ false → AreClosed at → is_at_rest at ≡ true
rest_of at going closed = rw (going, closed.free, closed.line, closed.files, closed.taken) refl

module _ (at : ExecState) (moment : ℕ) (rests : is_at_rest at ≡ true) where
  -- after these acts, and the lines of the command files that they open
  abbrev pub Rest : List (Effect ExecState) → Type 0
  Rest effects = RestsUnlessEnded (after moment FILE_LINES (left_by at effects))

  rest_by : (effects : List (Effect ExecState)) → StandsClosed 0 (left_by at effects) → Rest effects
  rest_by effects stands = λ going.
      rest_of (after moment FILE_LINES (left_by at effects)) going (all_closed moment (left_by at effects) stands going)

  pub nothing_rests : Rest []
  nothing_rests = rest_by [] (λ going. inl (closed_of at rests))

  pub refusal_rests : (code : Code) → Rest (refuses code at ∷ [])
  refusal_rests code = rest_by (refuses code at ∷ []) (stopped_closed 0 code at (rest_typing at rests))

  -- a command that neither types a file in nor waits
  pub command_rests : (command : Command) → ((to : Place) → command ≡ commands.CopyTty to → ⊥) → is_pending command ≡ false
      → Rest (command_effects at moment command)
  command_rests command other done = rest_by (command_effects at moment command) (commands_closed at moment command (closed_of at rests) other done)

pub stopped_rests : (at : ExecState) (code : Code) → is_at_rest at ≡ true → RestsUnlessEnded (stopped code at)
stopped_rests at code rests = λ going.
    rest_of (stopped code at) going (record { files = refl; taken = refl; line = rest_typing at rests; free = refl })
