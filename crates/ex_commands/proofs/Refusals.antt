-- Acts that are refused, as the answers to them say.
-- A put before a change of the store (mark, unmark, set_keep, touch) closes with nothing. A refusal that a test chooses
-- has one lemma, whose premise is the test's result. A name comes home by rw c.as_str.ensures.value at
-- c.undefine.ensures. parts() ensures that the state is well formed.
use Rattle.std.proofs.Common.{◌≡◌, ℕ, Bool, true, false, cond, List, [], ◌∷◌, length, Result, Ok, Err, refl, ap, sym, subst, ◌∙◌}
use Rattle.cm_lists.proofs.Bools.{cond_holds}
use Rattle.cm_fields.specs.declared.code.Code.{Code}
use Rattle.cm_fields.specs.declared.code.Code.TheVariants.{CopyRange, NameNeeded, NoDefinition, NoMatch}
use Rattle.cm_io.specs.declared.sink.Sink.{Ghosts}
use Rattle.cm_io.specs.declared.writer.Writer.{Writer}
use Rattle.ex_store.specs.declared.directory.Definition.{Definition}
use Rattle.ex_store.specs.declared.place.Place.{Place}
use Rattle.ex_store.specs.declared.row.Row.{Row}
use Rattle.ex_store.specs.Copying.{lacks_name}
use Rattle.ex_store.specs.State.{State, defined, undefined}
use Rattle.ex_store.proofs.StateLaws.{nothing_undefined}
use Rattle.ex_commands.specs.declared.acted.Acted.{Acted}
use Rattle.ex_commands.specs.Commands.Copy.{begins}
use Rattle.ex_commands.specs.Commands.Define.{undefines}
use Rattle.ex_commands.specs.Commands.Directory.{lists_rows}
use Rattle.ex_commands.specs.Effect.{Act, does, refuses}
use Rattle.ex_commands.specs.Outcome.{Outcome}

-- what is typed in wants a name
pub refused_to_begin : {T : Type 0} (s : Ghosts T) (before now : Writer T) (to : Place) (state : State) (answer : Acted)
    → lacks_name to ≡ true → Outcome s before now (refuses NameNeeded state) false state state answer
    → Outcome s before now (begins to state) false state state answer
refused_to_begin s before now to state answer lacks refused =
    cond_holds (λ act. Outcome s before now act false state state answer) (lacks_name to) _ _ lacks refused

-- a logical name that stands for nothing
pub refused_to_undefine : {T : Type 0} (s : Ghosts T) (before now : Writer T) (name : List ℕ) (state left : State)
    (result : Result (Unit {0}) Code) (code : Code) (answer : Acted) → result ≡ Err code
    → result ≡ cond (defined name state) (Ok tt) (Err NoDefinition) → left ≡ undefined name state
    → Outcome s before now (refuses code state) false state state answer
    → Outcome s before now (undefines name state) false state left answer
refused_to_undefine s before now name state left result code answer is by_test leaves refused =
    by (defined name state) refl by_test
  where
    by : (test : Bool) → defined name state ≡ test → result ≡ cond test (Ok tt) (Err NoDefinition)
        → Outcome s before now (cond test (does [] (undefined name state)) (refuses NoDefinition state)) false state left answer
    by true there ends = absurd (cc)
    by false there ends =
        let same : code ≡ NoDefinition = cc in
        let stays : left ≡ state =
        leaves ∙ ap (λ (logical : List Definition). record state { logical = logical }) (nothing_undefined name state.logical there) in
        subst (λ code. Outcome s before now (refuses code state) false state left answer) same
        (subst (λ left. Outcome s before now (refuses code state) false state left answer) (sym stays) refused)

-- a listing of no file
pub refused_to_list : {T : Type 0} (s : Ghosts T) (before now : Writer T) (read : Bool) (directory : List ℕ) (rows : List Row)
    (state : State) (answer : Acted) → 0 ≡ length rows → Outcome s before now (refuses NoMatch state) false state state answer
    → Outcome s before now (lists_rows read directory rows state) false state state answer
refused_to_list s before now read directory [] state answer none refused = refused
refused_to_list s before now read directory (row ∷ rows) state answer none refused = absurd (cc)

-- copies that may not be asked for
pub refused_to_print : {T : Type 0} (s : Ghosts T) (before now : Writer T) (test : Bool) (one : Act) (state : State) (answer : Acted)
    → test ≡ false → Outcome s before now (refuses CopyRange state) true state state answer
    → Outcome s before now (cond test one (refuses CopyRange state)) true state state answer
refused_to_print s before now true one state answer lacks refused = absurd (cc)
refused_to_print s before now false one state answer lacks refused = refused
