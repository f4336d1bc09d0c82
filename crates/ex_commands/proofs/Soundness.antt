-- What a command leaves of a state that is well formed is well formed.
use Rattle.std.proofs.Common.{◌≡◌, ℕ, ◌≤◌, Bool, ◌&&◌, not, true, false, List, [], ◌∷◌, nat_le, nat_lt, Some, None, Result, Ok, Err, refl, arith}
use Rattle.std.proofs.lemmas.Bool.{and_parts, cond_both}
use Rattle.std.proofs.lemmas.Bool.Decides.{nat_tests}
use Rattle.cm_lists.proofs.Bools.{cond_each}
use Rattle.cm_text.specs.Case.{equals}
use Rattle.cm_fields.specs.declared.code.Code.{Code}
use Rattle.cm_fields.specs.declared.code.Code.TheVariants.{CopyRange, NoDefinition}
use Rattle.ex_generations.specs.declared.file.Remark.{Remark}
use Rattle.ex_generations.specs.declared.file.Remark.TheVariants as remarks
use Rattle.ex_store.specs.declared.directory.Definition.{Definition}
use Rattle.ex_store.specs.declared.limits.TheConstants.{COPIES_LIMIT, RETENTION_LIMIT}
use Rattle.ex_store.specs.declared.place.Place.{Place}
use Rattle.ex_store.specs.declared.plan.Plan.{Plan}
use Rattle.ex_store.specs.declared.plan.Plan.TheVariants as plans
use Rattle.ex_store.specs.declared.row.Row.{Row}
use Rattle.ex_store.specs.Copying.{lacks_name, moment_of}
use Rattle.ex_store.specs.Plan.{IsRequest, MayPlan, Planned, planned}
use Rattle.ex_store.specs.Rows.{is_in}
use Rattle.ex_store.specs.Selection.{is_selected_by, rows_with_remark}
use Rattle.ex_store.specs.State.{State, defined, undefined}
use Rattle.ex_store.specs.WellFormed.{IsWellFormed, is_remark}
use Rattle.ex_store.proofs.RemarkLaws.{rows_left, rows_of_remark, well_formed_with_rows}
use Rattle.ex_store.proofs.SoundLaws.{plan_sound}
use Rattle.ex_store.proofs.StateLaws.{fewer_well_formed}
use Rattle.ex_store.proofs.AllCopiedLaws.{moment_within}
use Rattle.ex_commands.specs.declared.command.Command.{Command}
use Rattle.ex_commands.specs.declared.command.Command.TheVariants as commands
use Rattle.ex_commands.specs.declared.pairs.Origin.{Origin}
use Rattle.ex_commands.specs.declared.pairs.Origin.TheVariants.{Files, Queue}
use Rattle.ex_commands.specs.Act.{act_of}
use Rattle.ex_commands.specs.Answer.{MayAct}
use Rattle.ex_commands.specs.Commands.Directory.{lists_rows}
use Rattle.ex_commands.specs.Commands.Print.{request_of}
use Rattle.ex_commands.specs.Effect.{Act, does, pends, plays, refuses, without_marked}

-- a plan
plays_sound : (origin : Origin) (plan : Plan) (moment : ℕ) (state : State) → IsWellFormed state → MayPlan plan state
    → (result : Result Planned Code) → planned plan moment state ≡ result → IsWellFormed (plays origin result state).state
plays_sound origin plan moment state well may (Ok made) is = plan_sound plan moment state made well may is
plays_sound origin plan moment state well may (Err code) is = well

-- files of which something is changed, and those that are removed
changes_sound : (remark : Remark) (files : Place) (state : State) → is_remark remark ≡ true → IsWellFormed state
    → IsWellFormed (record state { rows = rows_with_remark remark files state })
changes_sound remark files state fits well =
    well_formed_with_rows state _ well
    (rows_of_remark state.directories state.rows (is_selected_by files.flags.deleted files state) remark fits well.draft.rows)

kept_within : (keep : ℕ) → keep ≤ RETENTION_LIMIT → nat_le keep RETENTION_LIMIT ≡ true
kept_within keep few = grind (arith, nat_tests)

removed_sound : (directory : List ℕ) (state : State) → IsWellFormed state → IsWellFormed (without_marked directory state)
removed_sound directory state well =
    well_formed_with_rows state _ well
    (rows_left state.directories state.rows (λ row. not (is_in directory row && row.file.deleted)) well.draft.rows)

listed_sound : (read : Bool) (directory : List ℕ) (rows : List Row) (state : State) → IsWellFormed state
    → IsWellFormed (lists_rows read directory rows state).state
listed_sound read directory [] state well = well
listed_sound read directory (row ∷ rows) state well = well

pub act_sound : (command : Command) (moment : ℕ) (state : State) → IsWellFormed state → MayAct command state
    → IsWellFormed (act_of command moment state).state
unfolding act_of
act_sound commands.Empty moment state well may = well
act_sound (commands.Append from to) moment state well may = plays_sound Files (plans.Append from to) moment state well may _ refl
act_sound (commands.Build directory retention sub) moment state well may =
    cond_each (λ (act : Act). IsWellFormed act.state) sub (pends state) _ well
    (plays_sound Files (plans.Build directory retention) moment state well may _ refl)
act_sound (commands.Connect directory) moment state well may = record {
  draft = record {
    directories_ascend = well.draft.directories_ascend;
    directories_within = well.draft.directories_within;
    few_directories = well.draft.few_directories;
    logical_ascend = well.draft.logical_ascend;
    logical_within = well.draft.logical_within;
    few_logical = well.draft.few_logical;
    rows = well.draft.rows;
    queue_within = well.draft.queue_within;
    few_entries = well.draft.few_entries;
  };
  connected_there = may;
}
act_sound (commands.Copy from to) moment state well may = plays_sound Files (plans.Copy from to) moment state well may _ refl
act_sound (commands.CopyTty to) moment state well may =
    cond_each (λ (act : Act). IsWellFormed act.state) (lacks_name to) _ _ well well
act_sound (commands.Define name None) moment state well may =
    cond_each (λ (act : Act). IsWellFormed act.state) (defined name state) (does [] (undefined name state)) (refuses NoDefinition state)
    (fewer_well_formed state (λ (entry : Definition). not (equals entry.name name)) well) well
act_sound (commands.Define name (Some directory)) moment state well may =
    plays_sound Files (plans.Define name directory) moment state well may _ refl
act_sound (commands.Delete files) moment state well may = changes_sound (remarks.Deleted true) files state refl well
act_sound (commands.Directory files since before deleted read sub) moment state well may =
    cond_each (λ (act : Act). IsWellFormed act.state) sub (pends state) _ well (listed_sound read files.directory _ state well)
act_sound (commands.Expunge directory) moment state well may = removed_sound _ state well
act_sound (commands.Information what) moment state well may = well
act_sound commands.Logout moment state well may = removed_sound state.connected state well
act_sound (commands.Print files copies form after job note) moment state well may =
    cond_both (nat_lt 0 copies && nat_le copies COPIES_LIMIT) _ (refuses CopyRange state) (λ (act : Act). IsWellFormed act.state) (λ fits. plays_sound Queue (plans.Print files (request_of copies form after job note)) moment state well (may.0, asked fits) _ refl) (λ other. well)
  where
    asked : (nat_lt 0 copies && nat_le copies COPIES_LIMIT) ≡ true → IsRequest (request_of copies form after job note)
    asked fits =
        let both = and_parts (nat_lt 0 copies) (nat_le copies COPIES_LIMIT) fits in
        let low = both.0 in
        let high = both.1 in
        record {
          some = grind (arith, nat_tests);
          few = grind (arith, nat_tests);
          form = may.1.on_form;
          after = may.1.on_day;
          job = may.1.in_job;
          note = may.1.with_note;
        }
act_sound commands.Remark moment state well may = well
act_sound (commands.Rename from to) moment state well may = plays_sound Files (plans.Rename from to) moment state well may _ refl
act_sound (commands.Set files keep) moment state well may =
    changes_sound (remarks.Keep keep) files state (kept_within keep may.1) well
act_sound (commands.Take file) moment state well may = well
act_sound (commands.TypeOut files) moment state well may =
    changes_sound (remarks.Read (moment_of moment)) files state (moment_within moment) well
act_sound (commands.Undelete files) moment state well may = changes_sound (remarks.Deleted false) files state refl well
