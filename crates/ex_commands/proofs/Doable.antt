-- What a line commands can be done.
use Rattle.std.proofs.Common.{◌≡◌, ℕ, ◌==◌, true, if◌then◌else◌, List, drop, Option, Some, None, option_and_then, unwrap_or, slice_get, refl, ap, sym, subst, ◌∙◌}
use Rattle.std.specs.Option.{option_map_or}
use Rattle.std.specs.List.{list_all}
use Rattle.std.proofs.lemmas.Bool.{cond_both, not-true, or_left, or_right}
use Rattle.cm_files.specs.Catalogue.{IsCatalogue, is_directory_name}
use Rattle.cm_blocks.specs.declared.field.Ending.{Ending}
use Rattle.cm_blocks.specs.declared.function.Role.TheVariants as roles
use Rattle.cm_blocks.specs.Parse.{IsParse}
use Rattle.cm_blocks.specs.declared.node.Block.{Block}
use Rattle.cm_blocks.specs.declared.node.Node.{Node}
use Rattle.cm_blocks.specs.Setting.{Setting, setting}
use Rattle.cm_blocks.specs.FieldView.{FieldView}
use Rattle.cm_state.specs.Roles.{field_of}
use Rattle.ex_grammar.specs.ExecRules.{exec_meanings}
use Rattle.ex_grammar.specs.Graph.{exec_graph}
use Rattle.ex_grammar.specs.declared.code.TheConstants.{APPEND, BUILD, CONNECT, COPY, DEFINE, DELETE, DIRECTORY, EXPUNGE, INFORMATION, LOGOUT, PRINT, REMARK, RENAME, SET, TAKE, TYPE, UNDELETE}
use Rattle.ex_grammar.specs.declared.node.TheConstants.{COMMANDS}
use Rattle.ex_store.specs.declared.place.Place.{Place}
use Rattle.ex_store.specs.Plan.{IsOneFile, IsSource, IsTarget}
use Rattle.ex_store.specs.State.{State, catalogue_of, has_directory}
use Rattle.ex_commands.specs.declared.command.Command.{Command}
use Rattle.ex_commands.specs.declared.command.Command.TheVariants as commands
use Rattle.ex_commands.specs.Answer.{IsThere, MayAct, MayAsk}
use Rattle.ex_commands.specs.Command.{command_of, named}
use Rattle.ex_commands.specs.Commands.Copy.{copies, is_token}
use Rattle.ex_commands.specs.Commands.Define.{define_of, logical_in}
use Rattle.ex_commands.specs.Commands.Print.{after_in, copies_in, form_in, job_in, note_in, print_of}
use Rattle.ex_commands.specs.Commands.Directory.{everything}
use Rattle.ex_commands.specs.Commands.Set.{set_of}
use Rattle.ex_commands.specs.Line.{Line, between, count_in, directory_in, flags_of, has_subs, keyword_code, on, place_in}
use Rattle.ex_commands.proofs.Subcommands.{IsKept, field_kept}
use Rattle.ex_commands.proofs.Fits.{files_names, files_read, names_are_short, reads_files, reads_source, source_names, source_read, value_read}
use Rattle.ex_commands.proofs.Forms.{is_finished}
use Rattle.ex_commands.proofs.Printable.{logical_named, may_ask}
use Rattle.ex_commands.proofs.Resolutions.{state_has}
use Rattle.ex_commands.proofs.Targets.{directory_formed, directory_there, field_meant, field_one, field_target, place_there, trial_old}
use Rattle.cm_blocks.proofs.Fields.{IsTried}
use Rattle.ex_commands.proofs.Verbs.{grown_target, made_target, names_grown, names_made, names_old, old_directory}

-- a line of the grammar over the catalogue of a state
abbrev line_over : State → List ℕ → List FieldView → Line
line_over state text fields = record { graph = exec_graph; catalogue = catalogue_of state; text = text; fields = fields }

-- the premise of all that follows
record IsTyped (state : State) (text : List ℕ) (fields : List FieldView) : Type 0 where
  lawful : IsCatalogue (catalogue_of state)
  ends : Ending
  parse : IsParse (setting exec_graph (catalogue_of state) exec_meanings) COMMANDS text fields ends
  asks : MayAsk (form_in fields) (after_in fields) (job_in (line_over state text fields)) (note_in (line_over state text fields))

-- a command on what may be said
on_may : {A : Type 0} (state : State) (command : A → Command) (said : Option A)
    → ((it : A) → said ≡ Some it → MayAct (command it) state) → MayAct (on command said) state
on_may state command None may = tt
on_may state command (Some it) may = may it refl

-- a field that is there, of a role
of_field : {A : Type 0} (field : Option FieldView) (mean : FieldView → Option A) (it : A) → option_and_then mean field ≡ Some it
    → (found : FieldView) × (field ≡ Some found) × (mean found ≡ Some it)
of_field None mean it is = cc
of_field (Some found) mean it is = (found, refl, is)

-- the files of a line are in a directory that is there
files_there : (state : State) (text : List ℕ) (fields : List FieldView) → IsTyped state text fields → (place : Place)
    → place_in (line_over state text fields) (field_of roles.Files fields) ≡ Some place → IsSource place state
files_there state text fields typed place is =
    let it = of_field (field_of roles.Files fields) _ place is in
    let read = files_read (catalogue_of state) text fields typed.ends typed.parse it.0 it.1 in
    place_there state _ _ it.0.value place (field_meant (catalogue_of state) typed.lawful text it.0 reads_files files_names read) it.2

source_there : (state : State) (text : List ℕ) (fields : List FieldView) → IsTyped state text fields → (field : FieldView) (place : Place)
    → field_of roles.Source fields ≡ Some field → place_in (line_over state text fields) (Some field) ≡ Some place → IsSource place state
source_there state text fields typed field place found is =
    let read = source_read (catalogue_of state) text fields typed.ends typed.parse field found in
    place_there state _ _ field.value place (field_meant (catalogue_of state) typed.lawful text field reads_source source_names read) is

-- so are those of the source
sources_there : (state : State) (text : List ℕ) (fields : List FieldView) → IsTyped state text fields → (place : Place)
    → place_in (line_over state text fields) (field_of roles.Source fields) ≡ Some place → IsSource place state
sources_there state text fields typed place is =
    let it = of_field (field_of roles.Source fields) _ place is in
    source_there state text fields typed it.0 place it.1 it.2

-- after COPY and RENAME files can be made of the target
target_there : (state : State) (text : List ℕ) (fields : List FieldView) → IsTyped state text fields → (verb : FieldView)
    → field_of roles.Verb fields ≡ Some verb → names_made (keyword_code verb.value) ≡ true → (place : Place)
    → place_in (line_over state text fields) (field_of roles.Target fields) ≡ Some place → IsTarget place state.directories
target_there state text fields typed verb verb_is made place is =
    let it = of_field (field_of roles.Target fields) _ place is in
    let read = made_target (catalogue_of state) text fields typed.ends verb it.0 typed.parse verb_is made it.1 in
    field_target state typed.lawful text it.0 (flags_of exec_graph it.0) place read it.2

-- after APPEND it is one file
one_there : (state : State) (text : List ℕ) (fields : List FieldView) → IsTyped state text fields → (verb : FieldView)
    → field_of roles.Verb fields ≡ Some verb → names_grown (keyword_code verb.value) ≡ true → (place : Place)
    → place_in (line_over state text fields) (field_of roles.Target fields) ≡ Some place
    → IsOneFile place state.directories
one_there state text fields typed verb verb_is grown place is =
    let it = of_field (field_of roles.Target fields) _ place is in
    let read = grown_target (catalogue_of state) text fields typed.ends verb it.0 typed.parse verb_is grown it.1 in
    field_one state typed.lawful text it.0 (flags_of exec_graph it.0) place read it.2

-- the directory of BUILD has a name that it may have
build_may : (state : State) (text : List ℕ) (fields : List FieldView) → IsTyped state text fields → (name : List ℕ)
    → directory_in (line_over state text fields) (field_of roles.Files fields) ≡ Some name → is_directory_name name ≡ true
build_may state text fields typed name is =
    let it = of_field (field_of roles.Files fields) _ name is in
    let read = files_read (catalogue_of state) text fields typed.ends typed.parse it.0 it.1 in
    directory_formed state typed.lawful _ it.0.value name (field_meant (catalogue_of state) typed.lawful text it.0 reads_files files_names read) it.2

-- or all files of the connected directory, which is there
all_there : (state : State) (text : List ℕ) (fields : List FieldView) → IsTyped state text fields
    → IsSource (unwrap_or (place_in (line_over state text fields) (field_of roles.Files fields)) (everything (catalogue_of state))) state
all_there state text fields typed = by (place_in (line_over state text fields) (field_of roles.Files fields)) refl
  where
    by : (said : Option Place) → place_in (line_over state text fields) (field_of roles.Files fields) ≡ said
        → IsSource (unwrap_or said (everything (catalogue_of state))) state
    by None said = state_has state (catalogue_of state).connected typed.lawful.connected_within
    by (Some place) said = files_there state text fields typed place said

-- a field is of one block
same_block : (s : Setting) (text : List ℕ) (field : FieldView) (first second : IsTried s text field) → first.block ≡ second.block
same_block s text field first second =
    let node : Some first.node ≡ Some second.node = sym first.node_is ∙ second.node_is in
    let same : first.node ≡ second.node = cc in
    let block : Some first.block ≡ Some second.block =
    sym first.block_is ∙ ap (λ (node : Node). slice_get node.chain field.block) same ∙ second.block_is in
    cc

-- that of CONNECT and EXPUNGE is there
old_may : (state : State) (text : List ℕ) (fields : List FieldView) → IsTyped state text fields → (verb : FieldView)
    → field_of roles.Verb fields ≡ Some verb → names_old (keyword_code verb.value) ≡ true → (name : List ℕ)
    → directory_in (line_over state text fields) (field_of roles.Files fields) ≡ Some name → has_directory name state.directories ≡ true
old_may state text fields typed verb verb_is old name is =
    let it = of_field (field_of roles.Files fields) _ name is in
    let read = files_read (catalogue_of state) text fields typed.ends typed.parse it.0 it.1 in
    let after = old_directory (catalogue_of state) text fields typed.ends verb it.0 typed.parse verb_is old it.1 in
    let tried = read.tried in
    let same = same_block (setting exec_graph (catalogue_of state) exec_meanings) text it.0 tried after.tried in
    let plain = trial_old (catalogue_of state) tried.block.function tried.block.flags (drop tried.at tried.said) tried.at it.0.value tried.looked tried.end
    (files_names tried.block.function read.by_function)
    (ap (λ (block : Block). block.flags.new) same ∙ not-true after.tried.block.flags.new after.read) tried.accepts in
    directory_there state _ it.0.value name plain
    (field_meant (catalogue_of state) typed.lawful text it.0 reads_files files_names read) it.2

-- a command from files to others
between_may : (state : State) (command : Place → Place → Command) (from to : Option Place)
    → ((source target : Place) → from ≡ Some source → to ≡ Some target → MayAct (command source target) state)
    → MayAct (between command from to) state
between_may state command None None may = tt
between_may state command None (Some target) may = tt
between_may state command (Some source) None may = tt
between_may state command (Some source) (Some target) may = may source target refl refl

-- COPY
copies_may : (state : State) (text : List ℕ) (fields : List FieldView) → IsTyped state text fields → (verb : FieldView)
    → field_of roles.Verb fields ≡ Some verb → names_made (keyword_code verb.value) ≡ true
    → MayAct (copies (line_over state text fields) (field_of roles.Source fields)
    (place_in (line_over state text fields) (field_of roles.Target fields))) state
copies_may state text fields typed verb verb_is made = by (field_of roles.Source fields) refl
  where
    by : (from : Option FieldView) → field_of roles.Source fields ≡ from
        → MayAct (copies (line_over state text fields) from (place_in (line_over state text fields) (field_of roles.Target fields))) state
    by None found = tt
    by (Some from) found =
        cond_both (is_token from.value) _ _ (λ (command : Command). MayAct command state) (λ token. on_may state commands.CopyTty (place_in (line_over state text fields) (field_of roles.Target fields))
        (λ place is. target_there state text fields typed verb verb_is made place is)) (λ files. between_may state commands.Copy (place_in (line_over state text fields) (Some from))
        (place_in (line_over state text fields) (field_of roles.Target fields))
        (λ source target source_is target_is. (
          source_there state text fields typed from source found source_is,
          target_there state text fields typed verb verb_is made target target_is,
        )))

-- RENAME
renames_may : (state : State) (text : List ℕ) (fields : List FieldView) → IsTyped state text fields → (verb : FieldView)
    → field_of roles.Verb fields ≡ Some verb → names_made (keyword_code verb.value) ≡ true
    → MayAct (between commands.Rename (place_in (line_over state text fields) (field_of roles.Source fields))
    (place_in (line_over state text fields) (field_of roles.Target fields))) state
renames_may state text fields typed verb verb_is made =
    between_may state commands.Rename _ _
    (λ source target source_is target_is. (
      sources_there state text fields typed source source_is,
      target_there state text fields typed verb verb_is made target target_is,
    ))

-- APPEND
appends_may : (state : State) (text : List ℕ) (fields : List FieldView) → IsTyped state text fields → (verb : FieldView)
    → field_of roles.Verb fields ≡ Some verb → names_grown (keyword_code verb.value) ≡ true
    → MayAct (between commands.Append (place_in (line_over state text fields) (field_of roles.Source fields))
    (place_in (line_over state text fields) (field_of roles.Target fields))) state
appends_may state text fields typed verb verb_is grown =
    between_may state commands.Append _ _
    (λ source target source_is target_is. (
      sources_there state text fields typed source source_is,
      one_there state text fields typed verb verb_is grown target target_is,
    ))

there_may : (state : State) (said : Option (List ℕ)) → ((name : List ℕ) → said ≡ Some name → has_directory name state.directories ≡ true)
    → IsThere said state
there_may state None may = tt
there_may state (Some name) may = may name refl

-- DEFINE
defines_may : (state : State) (text : List ℕ) (fields : List FieldView) → IsTyped state text fields → (verb : FieldView)
    → field_of roles.Verb fields ≡ Some verb → (keyword_code verb.value == DEFINE) ≡ true
    → MayAct (define_of (line_over state text fields)) state
defines_may state text fields typed verb verb_is named =
    on_may state (λ name. commands.Define name (directory_in (line_over state text fields) (field_of roles.Files fields))) _
    (λ name name_is. by (directory_in (line_over state text fields) (field_of roles.Files fields)) refl name name_is)
  where
    by : (directory : Option (List ℕ)) → directory_in (line_over state text fields) (field_of roles.Files fields) ≡ directory
        → (name : List ℕ) → logical_in (line_over state text fields) (field_of roles.Value fields) ≡ Some name
        → MayAct (commands.Define name directory) state
    by None is name name_is = tt
    by (Some directory) is name name_is =
        let it = of_field (field_of roles.Value fields) _ name name_is in (
          logical_named (catalogue_of state) text it.0 (value_read (catalogue_of state) text fields typed.ends typed.parse it.0 it.1) name it.2,
          old_may state text fields typed verb verb_is (or_right _ _ named) directory is,
        )

-- PRINT
prints_may : (state : State) (text : List ℕ) (fields : List FieldView) → IsTyped state text fields
    → MayAct (print_of (line_over state text fields)) state
prints_may state text fields typed =
    on_may state (λ files. commands.Print files (copies_in fields) (form_in fields) (after_in fields) (job_in (line_over state text fields))
    (note_in (line_over state text fields))) _
    (λ files is. (files_there state text fields typed files is, typed.asks))

-- SET
sets_may : (state : State) (text : List ℕ) (fields : List FieldView) → IsTyped state text fields
    → MayAct (set_of (line_over state text fields)) state
sets_may state text fields typed =
    on_may state (λ files. on (commands.Set files) (count_in (field_of roles.Value fields))) _
    (λ files files_is. on_may state (commands.Set files) (count_in (field_of roles.Value fields))
    (λ keep keep_is. (files_there state text fields typed files files_is, subst IsKept keep_is kept)))
  where
    kept : IsKept (count_in (field_of roles.Value fields))
    kept =
        field_kept (field_of roles.Value fields) (names_are_short (catalogue_of state) text fields typed.ends typed.parse).value

-- the command of a keyword
named_may : (state : State) (text : List ℕ) (fields : List FieldView) → IsTyped state text fields → (verb : FieldView)
    → field_of roles.Verb fields ≡ Some verb → MayAct (named (line_over state text fields) (keyword_code verb.value)) state
named_may state text fields typed verb verb_is =
    choose APPEND _ _ (λ is. appends_may state text fields typed verb verb_is is)
    (choose BUILD _ _ (λ is. on_may state (λ directory. commands.Build directory None (has_subs (line_over state text fields))) _
    (λ name is. (build_may state text fields typed name is, tt)))
    (choose CONNECT _ _ (λ is. on_may state commands.Connect _
    (old_may state text fields typed verb verb_is (or_left _ _ (or_left _ _ is))))
    (choose COPY _ _ (λ is. copies_may state text fields typed verb verb_is (or_left _ _ is))
    (choose DEFINE _ _ (λ is. defines_may state text fields typed verb verb_is is)
    (choose DELETE _ _ (λ is. on_may state commands.Delete _ (files_there state text fields typed))
    (choose DIRECTORY _ _ (λ is. all_there state text fields typed)
    (choose EXPUNGE _ _ (λ is. there_may state _ (old_may state text fields typed verb verb_is (or_left _ _ (or_right _ _ is))))
    (choose INFORMATION _ _ (λ is. tt)
    (choose LOGOUT _ _ (λ is. tt)
    (choose PRINT _ _ (λ is. prints_may state text fields typed)
    (choose REMARK _ _ (λ is. tt)
    (choose RENAME _ _ (λ is. renames_may state text fields typed verb verb_is (or_right _ _ is))
    (choose SET _ _ (λ is. sets_may state text fields typed)
    (choose TAKE _ _ (λ is. on_may state commands.Take _ (files_there state text fields typed))
    (choose TYPE _ _ (λ is. on_may state commands.TypeOut _ (files_there state text fields typed))
    (choose UNDELETE _ _ (λ is. on_may state commands.Undelete _ (files_there state text fields typed)) tt))))))))))))))))
  where
    choose : (wanted : ℕ) (first later : Command) → ((keyword_code verb.value == wanted) ≡ true → MayAct first state) → MayAct later state
        → MayAct (if keyword_code verb.value == wanted then first else later) state
    choose wanted first later may rest =
        cond_both (keyword_code verb.value == wanted) first later (λ (command : Command). MayAct command state) may (λ other. rest)

pub line_may_act : (state : State) (text : List ℕ) (fields : List FieldView) (ends : Ending) → list_all is_finished text ≡ true
    → IsCatalogue (catalogue_of state)
    → IsParse (setting exec_graph (catalogue_of state) exec_meanings) COMMANDS text fields ends
    → MayAct (command_of (line_over state text fields)) state
unfolding command_of
line_may_act state text fields ends plain lawful parse = by (field_of roles.Verb fields) refl
  where
    by : (verb : Option FieldView) → field_of roles.Verb fields ≡ verb
        → MayAct (option_map_or (λ (verb : FieldView). named (line_over state text fields) (keyword_code verb.value)) verb commands.Empty) state
    by None is = tt
    by (Some verb) is =
        named_may state text fields
        (record { lawful = lawful; ends = ends; parse = parse; asks = may_ask (catalogue_of state) text fields ends plain parse }) verb is
