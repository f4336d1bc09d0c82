-- What a line of PRINT asks for can be asked for, and what a line of DEFINE names is a logical name.
use Rattle.std.proofs.Common.{◌≡◌, ℕ, ◌-◌, ◌<◌, ◌||◌, ◌&&◌, ◌==◌, Bool, true, false, nat_le, if◌then◌else◌, List, [], length, take, drop, Option, Some, None, is_none, option_and_then, unwrap_or, slice_get, Ok, Err, refl, ap, sym, subst, ◌∙◌, arith}
use Rattle.std.specs.List.{list_all, prefix_len}
use Rattle.std.specs.Option.{option_map_or}
use Rattle.std.proofs.lemmas.Bool.Decides.{nat_tests}
use Rattle.cm_lists.proofs.Ascii.{up}
use Rattle.std.proofs.lemmas.Bool.{cond_both}
use Rattle.cm_text.specs.Bytes.{is_name, is_text}
use Rattle.cm_text.specs.declared.name.TheConstants.{NAME_LIMIT}
use Rattle.cm_fields.specs.declared.code.Code.TheVariants.{NoField}
use Rattle.cm_fields.specs.declared.trial.Try.TheVariants.{Accept}
use Rattle.cm_fields.specs.declared.value.Value.{Value}
use Rattle.cm_fields.specs.declared.value.Value.TheVariants as values
use Rattle.cm_files.specs.declared.flags.Flags.{Flags}
use Rattle.cm_files.specs.Catalogue.{Catalogue}
use Rattle.cm_files.specs.LogicalName.{is_logical_name}
use Rattle.cm_hooks.specs.declared.answer.Answer.TheVariants.{Yes, No}
use Rattle.cm_hooks.specs.Field.{hook_of, judged}
use Rattle.cm_blocks.specs.declared.field.Ending.{Ending}
use Rattle.cm_blocks.specs.declared.function.Function.{Function}
use Rattle.cm_blocks.specs.declared.function.Function.TheVariants as functions
use Rattle.cm_blocks.specs.declared.node.Block.{Block}
use Rattle.cm_blocks.specs.declared.node.Node.{Node}
use Rattle.cm_blocks.specs.Parse.{IsParse}
use Rattle.cm_blocks.specs.Setting.{setting}
use Rattle.cm_blocks.specs.FieldView.{FieldView}
use Rattle.cm_blocks.specs.Trial.{table_of, trial}
use Rattle.cm_blocks.proofs.Values.{hook_says}
use Rattle.cm_state.proofs.Branches.{all_pass_at}
use Rattle.ex_grammar.specs.ExecRules.{exec_meanings, logical_verdict, rule_verdict}
use Rattle.ex_grammar.specs.Graph.{append_blocks, build_blocks, define_blocks, delete_blocks, directory_nodes, exec_graph, exec_nodes, first_nodes, last_nodes, listing_nodes, print_blocks, retention_nodes, set_blocks, source_nodes, switch_blocks, target_blocks, type_blocks}
use Rattle.ex_grammar.specs.Words.{value}
use Rattle.ex_store.specs.declared.limits.TheConstants.{FORMS}
use Rattle.ex_store.specs.Plan.{may_be_job}
use Rattle.ex_store.specs.WellFormed.{is_day, is_file_name}
use Rattle.ex_commands.specs.declared.commands.define.TheConstants.{NAME_RULE}
use Rattle.ex_commands.specs.declared.commands.print.TheConstants.{AFTER_NODE, FORMS_NODE, FORM_RULE, JOBNAME_NODE, NORMAL, NOTE_NODE}
use Rattle.ex_commands.specs.Answer.{MayAsk}
use Rattle.ex_commands.specs.Commands.Define.{logical_by}
use Rattle.ex_commands.specs.Commands.Print.{after_in, form_by, form_in, job_in, note_in, quoted_by, word_by}
use Rattle.ex_commands.specs.Line.{day_by, last_at, said_of, upper}
use Rattle.ex_commands.specs.NameParts.{IsSaid, IsSaidIn}
use Rattle.ex_commands.proofs.Forms.{is_finished, note_formed}
use Rattle.ex_commands.proofs.Fits.{IsAtNode, IsRead, after_node, at_node, job_node, names_are_short, note_node, reads_value, switches, value_at_node}
use Rattle.ex_commands.proofs.Judgements.{accepted_plain, date_is_plain, number_is_plain, quoted_plain, switch_plain, word_is_plain}
use Rattle.ex_commands.proofs.UpperNames.{job_formed, logical_up}
use Rattle.cm_blocks.proofs.Places.{run_of}
use Rattle.cm_blocks.proofs.Fields.{StandsIn}

-- where no default can stand, a field is said in the line
record IsPlainly (text : List ℕ) (field : FieldView) (said : List ℕ) (at end : ℕ) : Type 0 where
  typed : field.defaulted ≡ false
  said_is : said ≡ text
  at_is : at ≡ field.start
  end_is : end ≡ field.end

plainly : (default : Option (List ℕ)) (text : List ℕ) (field : FieldView) (said : List ℕ) (at end : ℕ) → default ≡ None
    → StandsIn field.defaulted default text field said at end → IsPlainly text field said at end
plainly default text field said at end none stands = by field.defaulted refl stands
  where
    by : (test : Bool) → field.defaulted ≡ test → StandsIn test default text field said at end → IsPlainly text field said at end
    by false typed stands = record { typed = typed; said_is = stands.0; at_is = stands.1; end_is = stands.2 }
    by true typed stands = let some = stands.1 in cc

said_plainly : (text : List ℕ) (field : FieldView) → field.defaulted ≡ false → said_of exec_graph text field ≡ text
said_plainly text field typed = rw typed refl

-- the form
form_may : (found : Option FieldView) → IsSaidIn found
    → unwrap_or (option_and_then (λ (field : FieldView). form_by field.value) found) NORMAL < FORMS
form_may None said = omega arith
form_may (Some field) said = by field.value said
  where
    by : (value : Value) → IsSaid value → unwrap_or (form_by value) NORMAL < FORMS
    by (values.Hook id form) said =
        cond_both (id == FORM_RULE) (Some form) None (λ (it : Option ℕ). unwrap_or it NORMAL < FORMS) said.form (λ other. omega arith)
    by value said = omega arith

-- the day
day_may : (found : Option FieldView) → ((field : FieldView) → found ≡ Some field → IsSaid field.value)
    → is_day (option_and_then (λ (field : FieldView). day_by field.value) found) ≡ true
day_may None said = refl
day_may (Some field) said = by field.value (said field refl)
  where
    by : (value : Value) → IsSaid value → is_day (day_by value) ≡ true
    by (values.Date day) said = said
    by value said = refl

-- the job
job_by_may : (c : Catalogue) (text : List ℕ) (field : FieldView) → IsAtNode c text (value functions.Word switches) field
    → may_be_job (word_by (said_of exec_graph text field) field.value) ≡ true
unfolding trial
job_by_may c text field at = by field.value refl
  where
    by : (it : Value) → field.value ≡ it → may_be_job (word_by (said_of exec_graph text field) it) ≡ true
    by (values.Word place) is =
        let tried = at.tried in
        let plain = plainly tried.node.default text field tried.said tried.at tried.end at.plain tried.stands in
        let accepts : trial (setting exec_graph c exec_meanings) functions.Word tried.block.flags (drop tried.at text) tried.at
        ≡ Accept (values.Word place) tried.looked tried.end =
        ap (λ (block : Block). trial (setting exec_graph c exec_meanings) block.function tried.block.flags (drop tried.at text) tried.at) (sym at.block_is)
        ∙ ap (λ (said : List ℕ). trial (setting exec_graph c exec_meanings) tried.block.function tried.block.flags (drop tried.at said) tried.at) (sym plain.said_is)
        ∙ tried.accepts ∙ ap (λ (it : Value). Accept it tried.looked tried.end) is in
        subst (λ (said : List ℕ). is_file_name (upper said place) ≡ true) (sym (said_plainly text field plain.typed))
        (job_formed text tried.at place tried.looked tried.end accepts)
    by it is = refl

job_may : (c : Catalogue) (text : List ℕ) (found : Option FieldView)
    → ((field : FieldView) → found ≡ Some field → IsAtNode c text (value functions.Word switches) field)
    → may_be_job (option_and_then (λ (field : FieldView). word_by (said_of exec_graph text field) field.value) found) ≡ true
job_may c text None at = refl
job_may c text (Some field) at = job_by_may c text field (at field refl)

-- the note
abbrev IsNote : List ℕ → Type 0
IsNote note = (nat_le (length note) NAME_LIMIT && list_all is_text note) ≡ true

note_by_may : (c : Catalogue) (text : List ℕ) (field : FieldView) → list_all is_finished text ≡ true
    → IsAtNode c text (value functions.Quoted switches) field → IsNote (quoted_by (said_of exec_graph text field) field.value)
unfolding trial
note_by_may c text field line at = by field.value refl
  where
    by : (it : Value) → field.value ≡ it → IsNote (quoted_by (said_of exec_graph text field) it)
    by (values.Quoted place) is =
        let tried = at.tried in
        let plain = plainly tried.node.default text field tried.said tried.at tried.end at.plain tried.stands in
        let accepts : trial (setting exec_graph c exec_meanings) functions.Quoted tried.block.flags (drop tried.at text) tried.at
        ≡ Accept (values.Quoted place) tried.looked tried.end =
        ap (λ (block : Block). trial (setting exec_graph c exec_meanings) block.function tried.block.flags (drop tried.at text) tried.at) (sym at.block_is)
        ∙ ap (λ (said : List ℕ). trial (setting exec_graph c exec_meanings) tried.block.function tried.block.flags (drop tried.at said) tried.at) (sym plain.said_is)
        ∙ tried.accepts ∙ ap (λ (it : Value). Accept it tried.looked tried.end) is in
        subst (λ (said : List ℕ). IsNote (quoted_by said (values.Quoted place))) (sym (said_plainly text field plain.typed))
        (note_formed text tried.at place tried.looked tried.end line accepts)
    by it is = refl

note_may : (c : Catalogue) (text : List ℕ) (found : Option FieldView) → list_all is_finished text ≡ true
    → ((field : FieldView) → found ≡ Some field → IsAtNode c text (value functions.Quoted switches) field)
    → IsNote (option_map_or (λ (field : FieldView). quoted_by (said_of exec_graph text field) field.value) found [])
note_may c text None line at = refl
note_may c text (Some field) line at = note_by_may c text field line (at field refl)

-- all that a line of PRINT asks for
pub may_ask : {node : ℕ} (c : Catalogue) (text : List ℕ) (fields : List FieldView) (ends : Ending)
    → list_all is_finished text ≡ true
    → IsParse (setting exec_graph c exec_meanings) node text fields ends
    → MayAsk (form_in fields) (after_in fields)
    (job_in (record { graph = exec_graph; catalogue = c; text = text; fields = fields }))
    (note_in (record { graph = exec_graph; catalogue = c; text = text; fields = fields }))
may_ask c text fields ends plain parse = record {
  on_form = form_may (last_at FORMS_NODE fields) (names_are_short c text fields ends parse).form;
  on_day = day_may (last_at AFTER_NODE fields) (λ field is.
      value_at_node c text (value functions.Date switches) refl field (at_node c text fields ends AFTER_NODE _ after_node parse field is));
  in_job = job_may c text (last_at JOBNAME_NODE fields) (λ field is. at_node c text fields ends JOBNAME_NODE _ job_node parse field is);
  with_note = note_may c text (last_at NOTE_NODE fields) plain
      (λ field is. at_node c text fields ends NOTE_NODE _ note_node parse field is);
}

-- no default is where a rule is asked
is_plain_function : Function → Bool
is_plain_function (functions.Hook id) = false
is_plain_function function = true

abbrev asks_plainly : Node → Bool
asks_plainly node = is_none node.default || list_all (λ (block : Block). is_plain_function block.function) node.chain

nodes_ask_plainly : list_all asks_plainly exec_graph.nodes ≡ true
unfolding is_plain_function exec_graph exec_nodes first_nodes source_nodes target_blocks append_blocks delete_blocks type_blocks listing_nodes define_blocks build_blocks last_nodes print_blocks switch_blocks directory_nodes retention_nodes set_blocks
nodes_ask_plainly = refl

-- the function of a field that a rule judged
hook_function : (c : Catalogue) (function : Function) (flags : Flags) (rest : List ℕ) (at id size looked end : ℕ) → reads_value function ≡ true
    → trial (setting exec_graph c exec_meanings) function flags rest at ≡ Accept (values.Hook id size) looked end → function ≡ functions.Hook id
unfolding trial
hook_function c (functions.Switch table) flags rest at id size looked end reads is =
    absurd (accepted_plain _ _ _ _ (switch_plain (table_of exec_graph table) rest at) is)
hook_function c functions.Number flags rest at id size looked end reads is = absurd (accepted_plain _ _ _ _ (number_is_plain rest at) is)
hook_function c functions.Word flags rest at id size looked end reads is = absurd (accepted_plain _ _ _ _ (word_is_plain rest at) is)
hook_function c functions.Quoted flags rest at id size looked end reads is = absurd (accepted_plain _ _ _ _ (quoted_plain rest at) is)
hook_function c functions.Date flags rest at id size looked end reads is = absurd (accepted_plain _ _ _ _ (date_is_plain rest at) is)
hook_function c (functions.Hook other) flags rest at id size looked end reads is =
    let run = run_of is_name (hook_of rule_verdict other) rest at (values.Hook id size) looked end is in
    let it = hook_says rule_verdict other (take (prefix_len is_name rest) rest) (values.Hook id size) run.decided in
    let same : values.Hook id size ≡ values.Hook other it.0 = it.1 in
    let ids : other ≡ id = cc in
    ap functions.Hook ids
hook_function c function flags rest at id size looked end reads is = cc

logical_run : (run : List ℕ) (value : Value) → hook_of rule_verdict NAME_RULE run ≡ Ok value → is_logical_name run ≡ true
unfolding hook_of
logical_run run value is = by (length run == 0) is
  where
    judges : (test : Bool) → is_logical_name run ≡ test → judged NAME_RULE (if test then Yes (length run) else No) ≡ Ok value
        → is_logical_name run ≡ true
    judges true test is = test
    judges false test is = cc

    by : (none : Bool) → (if none then Err NoField else judged NAME_RULE (logical_verdict run)) ≡ Ok value → is_logical_name run ≡ true
    by true is = cc
    by false is = judges (is_logical_name run) refl is

-- so a field that a rule judged is said in the line
undefaulted : (node : Node) (block : Block) (place : ℕ) → is_plain_function block.function ≡ false → slice_get node.chain place ≡ Some block
    → asks_plainly node ≡ true → node.default ≡ None
undefaulted node block place asked there asks = choose node.default (list_all (λ (block : Block). is_plain_function block.function) node.chain) refl asks
  where
    choose : (default : Option (List ℕ)) (all : Bool) → list_all (λ (block : Block). is_plain_function block.function) node.chain ≡ all
        → (is_none default || all) ≡ true → default ≡ None
    choose None all is either = refl
    choose (Some text) true is either =
        let plain = all_pass_at (λ (block : Block). is_plain_function block.function) node.chain place block is there in cc
    choose (Some text) false is either = cc

-- a logical name that a field is
pub logical_named : (c : Catalogue) (text : List ℕ) (field : FieldView) → IsRead c text reads_value field → (name : List ℕ)
    → logical_by (said_of exec_graph text field) field field.value ≡ Some name → is_logical_name name ≡ true
unfolding trial is_plain_function
logical_named c text field read name is = by field.value refl is
  where
    by : (it : Value) → field.value ≡ it → logical_by (said_of exec_graph text field) field it ≡ Some name → is_logical_name name ≡ true
    by (values.Hook id size) value_is named = rule (id == NAME_RULE) refl named
      where
        rule : (test : Bool) → (id == NAME_RULE) ≡ test
            → (if test then Some (upper (said_of exec_graph text field) (record { start = field.start; end = field.end })) else None) ≡ Some name
            → is_logical_name name ≡ true
        rule false test named = cc
        rule true test named =
            let tried = read.tried in
            let accepts = tried.accepts ∙ ap (λ (it : Value). Accept it tried.looked tried.end) value_is in
            let function = hook_function c tried.block.function tried.block.flags (drop tried.at tried.said) tried.at id size tried.looked tried.end
            read.by_function accepts in
            let first : id ≡ NAME_RULE = grind (arith, nat_tests) in
            let asks = all_pass_at asks_plainly exec_graph.nodes field.node tried.node nodes_ask_plainly tried.node_is in
            let none : tried.node.default ≡ None = undefaulted tried.node tried.block field.block (ap is_plain_function function) tried.block_is asks in
            let plain = plainly tried.node.default text field tried.said tried.at tried.end none tried.stands in
            let hooked : trial (setting exec_graph c exec_meanings) (functions.Hook NAME_RULE) tried.block.flags (drop tried.at text) tried.at
            ≡ Accept (values.Hook id size) tried.looked tried.end =
            ap (λ (f : Function). trial (setting exec_graph c exec_meanings) f tried.block.flags (drop tried.at text) tried.at)
            (ap functions.Hook (sym first) ∙ sym function)
            ∙ ap (λ (said : List ℕ). trial (setting exec_graph c exec_meanings) tried.block.function tried.block.flags (drop tried.at said) tried.at) (sym plain.said_is)
            ∙ accepts in
            let run = run_of is_name (hook_of rule_verdict NAME_RULE) (drop tried.at text) tried.at (values.Hook id size) tried.looked tried.end hooked in
            let logical = logical_run (take (prefix_len is_name (drop tried.at text)) (drop tried.at text)) (values.Hook id size) run.decided in
            let start = plain.at_is in
            let stop = plain.end_is in
            let last = run.last in
            let size_is : field.end - field.start ≡ prefix_len is_name (drop tried.at text) = omega arith in
            let bytes : take (field.end - field.start) (drop field.start text) ≡ take (prefix_len is_name (drop tried.at text)) (drop tried.at text) =
            ap (λ (n : ℕ). take n (drop field.start text)) size_is
            ∙ ap (λ (n : ℕ). take (prefix_len is_name (drop tried.at text)) (drop n text)) (sym start) in
            let same : upper (said_of exec_graph text field) (record { start = field.start; end = field.end }) ≡ name = cc in
            subst (λ (it : List ℕ). is_logical_name it ≡ true) same
            (subst (λ (said : List ℕ). is_logical_name (upper said (record { start = field.start; end = field.end })) ≡ true)
            (sym (said_plainly text field plain.typed))
            (subst (λ (it : List ℕ). is_logical_name (up it) ≡ true) (sym bytes)
            (logical_up (take (prefix_len is_name (drop tried.at text)) (drop tried.at text)) ∙ logical)))
    by it value_is named = cc
