-- [command]
-- A line with a verb commands something: its keyword is that of a command, and its line has the fields that it wants.
-- Write is_empty command ≡ false for command ≢ Empty: it is refl.
use Rattle.std.proofs.Common.{◌≡◌, ◌≢◌, ◌⊎◌, inl, inr, ℕ, ◌<◌, ◌≤◌, ◌||◌, ◌==◌, Bool, true, false, not, if◌then◌else◌, List, length, drop, get_or, Option, Some, None, slice_get, Ok, refl, ap, sym, ◌∙◌, arith}
use Rattle.std.specs.List.{list_all}
use Rattle.std.specs.Option.{option_map_or}
use Rattle.std.proofs.lemmas.Bool.Decides.{nat_tests}
use Rattle.std.proofs.lemmas.Option.{slice_get_cases}
use Rattle.cm_lists.proofs.Bools.{or_from_either}
use Rattle.std.proofs.lemmas.Bool.{cond_both}
use Rattle.cm_tables.specs.declared.entry.Entry.{Entry}
use Rattle.cm_tables.specs.Look.{found_at, is_recognised, look}
use Rattle.cm_tables.specs.Order.{table_fault}
use Rattle.cm_tables.proofs.FoundLemmas.{found_is_recognised}
use Rattle.cm_fields.specs.declared.trial.Try.TheVariants.{Accept}
use Rattle.cm_fields.specs.declared.value.Span.{Span}
use Rattle.cm_fields.specs.declared.value.Value.{Value}
use Rattle.cm_fields.specs.declared.value.Value.TheVariants as values
use Rattle.cm_files.specs.declared.flags.Flags.{Flags}
use Rattle.cm_files.specs.Catalogue.{Catalogue}
use Rattle.cm_blocks.specs.declared.field.Ending.TheVariants as ending
use Rattle.cm_blocks.specs.declared.function.Function.{Function}
use Rattle.cm_blocks.specs.declared.function.Function.TheVariants as functions
use Rattle.cm_blocks.specs.declared.function.Role.TheVariants as roles
use Rattle.cm_blocks.specs.declared.node.Block.{Block}
use Rattle.cm_blocks.specs.Keyword.{code_at, entry_position}
use Rattle.cm_blocks.specs.Parse.{IsParse}
use Rattle.cm_blocks.specs.Setting.{setting}
use Rattle.cm_blocks.specs.FieldView.{FieldView}
use Rattle.cm_blocks.specs.Trial.{table_of, trial}
use Rattle.cm_state.specs.Roles.{field_of}
use Rattle.ex_grammar.specs.ExecRules.{exec_meanings}
use Rattle.ex_grammar.specs.Graph.{append_blocks, build_blocks, define_blocks, delete_blocks, directory_nodes, exec_graph, exec_nodes, first_nodes, last_nodes, listing_nodes, print_blocks, retention_nodes, set_blocks, source_nodes, switch_blocks, target_blocks, type_blocks}
use Rattle.ex_grammar.specs.Tables.{command_entries, exec_tables, file_entries, set_entries}
use Rattle.ex_grammar.specs.declared.code.TheConstants.{APPEND, BUILD, CONNECT, COPY, DEFINE, DELETE, DIRECTORY, EXPUNGE, INFORMATION, LOGOUT, PRINT, REMARK, RENAME, SET, TAKE, TYPE, UNDELETE}
use Rattle.ex_grammar.specs.declared.node.TheConstants.{COMMANDS}
use Rattle.ex_grammar.proofs.Faultless.{commands_have_no_fault}
use Rattle.ex_store.specs.declared.place.Place.{Place}
use Rattle.ex_commands.specs.declared.command.Command.{Command}
use Rattle.ex_commands.specs.declared.command.Command.TheVariants as commands
use Rattle.ex_commands.specs.declared.commands.define.TheConstants.{NAME_RULE}
use Rattle.ex_commands.specs.Command.{command_of, named}
use Rattle.ex_commands.specs.Commands.Copy.{copies, is_token}
use Rattle.ex_commands.specs.Commands.Define.{logical_by, logical_in}
use Rattle.ex_commands.specs.Commands.Print.{after_in, copies_in, form_in, job_in, note_in}
use Rattle.ex_commands.specs.Commands.Set.{set_of}
use Rattle.ex_commands.specs.Line.{Line, between, count_by, count_in, directory_by, directory_in, flags_of, has_subs, keyword_code, on, place_by, place_in, said_of, upper}
use Rattle.cm_blocks.proofs.Values.{is_directory, is_files, is_fixed, is_ruled, meant_found, meant_within, trial_says}
use Rattle.cm_state.proofs.Branches.{Branch, IsOf, all_pass_at, or_right}
use Rattle.cm_state.proofs.Ways.{IsThere, IsWay, there_after, verb_keyword}
use Rattle.ex_commands.proofs.Verbs.{begins, command_table}

-- the codes of the commands
abbrev is_command : ℕ → Bool
is_command code =
    code == APPEND || (code == BUILD || (code == CONNECT || (code == COPY || (code == DEFINE || (code == DELETE
    || (code == DIRECTORY || (code == EXPUNGE || (code == INFORMATION || (code == LOGOUT || (code == PRINT
    || (code == REMARK || (code == RENAME || (code == SET || (code == TAKE || (code == TYPE || (code == UNDELETE
    || false))))))))))))))))

-- an entry that can be meant is that of a command
abbrev is_commanding : Entry → Bool
is_commanding entry = not (is_recognised entry.flag) || is_command entry.code

entries_command : list_all is_commanding (table_of exec_graph command_table) ≡ true
unfolding exec_graph exec_tables command_entries
entries_command = refl

no_fault : table_fault (table_of exec_graph command_table) ≡ None
unfolding exec_graph exec_tables
no_fault = commands_have_no_fault

-- what a run of bytes means in a table without fault, where each entry that can be meant is that of a command
meant_commands : (table : List Entry) (run : List ℕ) (place : ℕ) → table_fault table ≡ None
    → list_all is_commanding table ≡ true → entry_position table run ≡ Ok place
    → is_command (code_at table place) ≡ true
meant_commands table run place none all is = by (slice_get_cases table place).1
  where
    found : found_at (look table run) ≡ Some place
    found = meant_found table run place is

    by : ((entry : Entry) × (place < length table) × (slice_get table place ≡ Some entry)
        × (get_or table place entry ≡ entry))
        ⊎ ((length table ≤ place) × (slice_get table place ≡ None)) → is_command (code_at table place) ≡ true
    by (inl there) =
        let entry = there.0 in
        let recognised = found_is_recognised table run place entry none found there.2 in
        let commanding = all_pass_at is_commanding table place entry all there.2 in
        ap (λ (it : Option Entry). is_command (option_map_or (λ (entry : Entry). entry.code) it 0)) there.2
        ∙ or_right (not (is_recognised entry.flag)) (is_command entry.code) (ap not recognised) commanding
    by (inr past) =
        let within = meant_within table run place none is in
        let most = past.0 in
        absurd (omega (arith, within, most))

-- the verb of a line that is done, with its fields
record IsTyped (c : Catalogue) (text : List ℕ) (fields : List FieldView) (verb : FieldView) : Type 0 where
  parse : IsParse (setting exec_graph c exec_meanings) COMMANDS text fields ending.Done
  verb_is : field_of roles.Verb fields ≡ Some verb

verb_commands : (c : Catalogue) (text : List ℕ) (fields : List FieldView) (verb : FieldView)
    → IsTyped c text fields verb → is_command (keyword_code verb.value) ≡ true
verb_commands c text fields verb typed =
    let key = verb_keyword (setting exec_graph c exec_meanings) COMMANDS command_table begins keyword_code
    (λ place number. refl) text fields ending.Done verb typed.parse typed.verb_is in
    ap (λ (value : Value). is_command (keyword_code value)) key.value_is
    ∙ meant_commands (table_of exec_graph command_table) key.run key.place no_fault entries_command key.meant

-- what reads files, a directory, and the name of DEFINE
abbrev reads_files : Function → Bool
reads_files functions.InFile = true
reads_files functions.OutFile = true
reads_files functions.AnyFile = true
reads_files function = false

abbrev reads_source : Function → Bool
reads_source (functions.Token phrase) = true
reads_source functions.InFile = true
reads_source function = false

abbrev reads_directory : Function → Bool
reads_directory functions.User = true
reads_directory functions.Directory = true
reads_directory function = false

abbrev reads_name : Function → Bool
reads_name (functions.Hook rule) = rule == NAME_RULE
reads_name function = false

-- what reads a number of generations
abbrev reads_count : Function → Bool
reads_count (functions.Hook rule) = true
reads_count function = false

abbrev is_judged : Value → Bool
is_judged (values.Hook id number) = true
is_judged value = false

judged_by : (rule : ℕ) (value : Value) → is_ruled rule value ≡ true → is_judged value ≡ true
judged_by rule (values.Hook id number) is = refl
judged_by rule value is = cc

-- what they read
files_value : (c : Catalogue) (function : Function) (flags : Flags) (rest : List ℕ) (at : ℕ) (value : Value)
    (looked end : ℕ) → reads_files function ≡ true
    → trial (setting exec_graph c exec_meanings) function flags rest at ≡ Accept value looked end
    → is_files value ≡ true
files_value c functions.InFile flags rest at value looked end reads is =
    trial_says (setting exec_graph c exec_meanings) functions.InFile flags rest at value looked end refl is
files_value c functions.OutFile flags rest at value looked end reads is =
    trial_says (setting exec_graph c exec_meanings) functions.OutFile flags rest at value looked end refl is
files_value c functions.AnyFile flags rest at value looked end reads is =
    trial_says (setting exec_graph c exec_meanings) functions.AnyFile flags rest at value looked end refl is
files_value c function flags rest at value looked end reads is = cc

token_of : (value : Value) → is_fixed value ≡ true → is_token value ≡ true
token_of values.Token is = refl
token_of value is = cc

source_value : (c : Catalogue) (function : Function) (flags : Flags) (rest : List ℕ) (at : ℕ) (value : Value)
    (looked end : ℕ) → reads_source function ≡ true
    → trial (setting exec_graph c exec_meanings) function flags rest at ≡ Accept value looked end
    → (is_token value || is_files value) ≡ true
source_value c (functions.Token phrase) flags rest at value looked end reads is =
    or_from_either (is_token value) (is_files value)
    (inl (token_of value
    (trial_says (setting exec_graph c exec_meanings) (functions.Token phrase) flags rest at value looked end refl is)))
source_value c functions.InFile flags rest at value looked end reads is =
    or_from_either (is_token value) (is_files value)
    (inr (trial_says (setting exec_graph c exec_meanings) functions.InFile flags rest at value looked end refl is))
source_value c function flags rest at value looked end reads is = cc

directory_value : (c : Catalogue) (function : Function) (flags : Flags) (rest : List ℕ) (at : ℕ) (value : Value)
    (looked end : ℕ) → reads_directory function ≡ true
    → trial (setting exec_graph c exec_meanings) function flags rest at ≡ Accept value looked end
    → is_directory value ≡ true
directory_value c functions.User flags rest at value looked end reads is =
    trial_says (setting exec_graph c exec_meanings) functions.User flags rest at value looked end refl is
directory_value c functions.Directory flags rest at value looked end reads is =
    trial_says (setting exec_graph c exec_meanings) functions.Directory flags rest at value looked end refl is
directory_value c function flags rest at value looked end reads is = cc

name_value : (c : Catalogue) (function : Function) (flags : Flags) (rest : List ℕ) (at : ℕ) (value : Value)
    (looked end : ℕ) → reads_name function ≡ true
    → trial (setting exec_graph c exec_meanings) function flags rest at ≡ Accept value looked end
    → is_ruled NAME_RULE value ≡ true
name_value c (functions.Hook rule) flags rest at value looked end reads is =
    let same : rule ≡ NAME_RULE = grind (arith, nat_tests) in
    ap (λ (n : ℕ). is_ruled n value) (sym same)
    ∙ trial_says (setting exec_graph c exec_meanings) (functions.Hook rule) flags rest at value looked end refl is
name_value c function flags rest at value looked end reads is = cc

count_value : (c : Catalogue) (function : Function) (flags : Flags) (rest : List ℕ) (at : ℕ) (value : Value)
    (looked end : ℕ) → reads_count function ≡ true
    → trial (setting exec_graph c exec_meanings) function flags rest at ≡ Accept value looked end
    → is_judged value ≡ true
count_value c (functions.Hook rule) flags rest at value looked end reads is =
    judged_by rule value (trial_says (setting exec_graph c exec_meanings) (functions.Hook rule) flags rest at value looked end refl is)
count_value c function flags rest at value looked end reads is = cc

-- what they mean
place_meant : (c : Catalogue) (flags : Flags) (text : List ℕ) (value : Value) → is_files value ≡ true
    → (place : Place) × (place_by c flags text value ≡ Some place)
place_meant c flags text (values.File kind spec directory) is = (_, refl)
place_meant c flags text value is = cc

directory_meant : (c : Catalogue) (text : List ℕ) (value : Value) → is_directory value ≡ true
    → (name : List ℕ) × (directory_by c text value ≡ Some name)
directory_meant c text (values.User directory) is = (_, refl)
directory_meant c text (values.Directory directory) is = (_, refl)
directory_meant c text (values.NewDirectory place) is = (_, refl)
directory_meant c text value is = cc

name_meant : (text : List ℕ) (field : FieldView) (value : Value) → is_ruled NAME_RULE value ≡ true
    → (name : List ℕ) × (logical_by text field value ≡ Some name)
name_meant text field (values.Hook id size) is =
    let place : Span = record { start = field.start; end = field.end } in (upper text place, rw is refl)
name_meant text field value is = cc

count_meant : (value : Value) → is_judged value ≡ true → (count : ℕ) × (count_by value ≡ Some count)
count_meant (values.Hook id count) is = (count, refl)
count_meant value is = cc

-- the ways to the fields that commands want: what COPY reads, what others read, what they write, ..
abbrev copied_way : Branch
copied_way = record {
  names = λ (code : ℕ). code == COPY;
  inside = λ (node : ℕ). node == 1 || node == 2;
  role = roles.Source;
  reads = λ (block : Block). reads_source block.function;
}

abbrev source_way : Branch
source_way = record {
  names = λ (code : ℕ). code == APPEND || code == RENAME;
  inside = λ (node : ℕ). node == 6 || node == 7 || node == 10 || node == 11;
  role = roles.Source;
  reads = λ (block : Block). reads_files block.function;
}

abbrev target_way : Branch
target_way = record {
  names = λ (code : ℕ). code == APPEND || code == COPY || code == RENAME;
  inside = λ (node : ℕ).
      node == 1 || node == 2 || node == 3 || node == 4 || node == 6 || node == 7 || node == 8 || node == 9 || node == 10
      || node == 11 || node == 12;
  role = roles.Target;
  reads = λ (block : Block). reads_files block.function;
}

-- .. the files, the directory, the logical name and the number that they work on
abbrev files_way : Branch
files_way = record {
  names = λ (code : ℕ). code == DELETE || code == PRINT || code == SET || code == TAKE || code == TYPE || code == UNDELETE;
  inside = λ (node : ℕ).
      node == 13 || node == 14 || node == 15 || node == 16 || node == 19 || node == 20 || node == 21
      || node == 22 || node == 37 || node == 38 || node == 51 || node == 52 || node == 53 || node == 54;
  role = roles.Files;
  reads = λ (block : Block). reads_files block.function;
}

abbrev directory_way : Branch
directory_way = record {
  names = λ (code : ℕ). code == BUILD || code == CONNECT;
  inside = λ (node : ℕ). node == 17 || node == 18 || node == 33 || node == 34;
  role = roles.Files;
  reads = λ (block : Block). reads_directory block.function;
}

abbrev name_way : Branch
name_way = record {
  names = λ (code : ℕ). code == DEFINE;
  inside = λ (node : ℕ). node == 28 || node == 29;
  role = roles.Value;
  reads = λ (block : Block). reads_name block.function;
}

abbrev count_way : Branch
count_way = record {
  names = λ (code : ℕ). code == SET;
  inside = λ (node : ℕ). node == 51 || node == 52 || node == 53 || node == 54 || node == 55 || node == 56;
  role = roles.Value;
  reads = λ (block : Block). reads_count block.function;
}

copied_is_way : IsWay exec_graph command_table copied_way
unfolding exec_graph exec_nodes first_nodes source_nodes target_blocks append_blocks delete_blocks type_blocks listing_nodes define_blocks build_blocks last_nodes print_blocks switch_blocks directory_nodes retention_nodes set_blocks exec_tables command_entries
copied_is_way = record { none = refl; nodes = refl; commands = refl; other = refl }

source_is_way : IsWay exec_graph command_table source_way
unfolding exec_graph exec_nodes first_nodes source_nodes target_blocks append_blocks delete_blocks type_blocks listing_nodes define_blocks build_blocks last_nodes print_blocks switch_blocks directory_nodes retention_nodes set_blocks exec_tables command_entries
source_is_way = record { none = refl; nodes = refl; commands = refl; other = refl }

target_is_way : IsWay exec_graph command_table target_way
unfolding exec_graph exec_nodes first_nodes source_nodes target_blocks append_blocks delete_blocks type_blocks listing_nodes define_blocks build_blocks last_nodes print_blocks switch_blocks directory_nodes retention_nodes set_blocks exec_tables command_entries
target_is_way = record { none = refl; nodes = refl; commands = refl; other = refl }

files_is_way : IsWay exec_graph command_table files_way
unfolding exec_graph exec_nodes first_nodes source_nodes target_blocks append_blocks delete_blocks type_blocks listing_nodes define_blocks build_blocks last_nodes print_blocks switch_blocks directory_nodes retention_nodes set_blocks exec_tables command_entries set_entries file_entries table_fault
files_is_way = record { none = refl; nodes = refl; commands = refl; other = refl }

count_is_way : IsWay exec_graph command_table count_way
unfolding exec_graph exec_nodes first_nodes source_nodes target_blocks append_blocks delete_blocks type_blocks listing_nodes define_blocks build_blocks last_nodes print_blocks switch_blocks directory_nodes retention_nodes set_blocks exec_tables command_entries set_entries file_entries table_fault
count_is_way = record { none = refl; nodes = refl; commands = refl; other = refl }

directory_is_way : IsWay exec_graph command_table directory_way
unfolding exec_graph exec_nodes first_nodes source_nodes target_blocks append_blocks delete_blocks type_blocks listing_nodes define_blocks build_blocks last_nodes print_blocks switch_blocks directory_nodes retention_nodes set_blocks exec_tables command_entries
directory_is_way = record { none = refl; nodes = refl; commands = refl; other = refl }

name_is_way : IsWay exec_graph command_table name_way
unfolding exec_graph exec_nodes first_nodes source_nodes target_blocks append_blocks delete_blocks type_blocks listing_nodes define_blocks build_blocks last_nodes print_blocks switch_blocks directory_nodes retention_nodes set_blocks exec_tables command_entries
name_is_way = record { none = refl; nodes = refl; commands = refl; other = refl }

-- a line of the grammar
abbrev line_in : Catalogue → List ℕ → List FieldView → Line
line_in c text fields = record { graph = exec_graph; catalogue = c; text = text; fields = fields }

-- the value of a field by the function that read it
value_of : (c : Catalogue) (text : List ℕ) (reads : Function → Bool) (test : Value → Bool)
    → ((function : Function) (flags : Flags) (rest : List ℕ) (at : ℕ) (value : Value) (looked end : ℕ)
    → reads function ≡ true
    → trial (setting exec_graph c exec_meanings) function flags rest at ≡ Accept value looked end → test value ≡ true)
    → (field : FieldView) → IsOf (setting exec_graph c exec_meanings) text (λ (block : Block). reads block.function) field → test field.value ≡ true
value_of c text reads test law field of =
    let tried = of.tried in
    law tried.block.function tried.block.flags (drop tried.at tried.said) tried.at field.value tried.looked tried.end
    of.read tried.accepts

-- the files of a role
files_there : (c : Catalogue) (text : List ℕ) (fields : List FieldView) (way : Branch)
    → ((field : FieldView) → IsOf (setting exec_graph c exec_meanings) text way.reads field → is_files field.value ≡ true) → IsThere (setting exec_graph c exec_meanings) text way fields
    → (place : Place) × (place_in (line_in c text fields) (field_of way.role fields) ≡ Some place)
files_there c text fields way law there =
    let field = there.field in
    let meant = place_meant c (flags_of exec_graph field) (said_of exec_graph text field) field.value
    (law field there.of) in
    (meant.0, ap (place_in (line_in c text fields)) there.found ∙ meant.1)

-- it commands nothing
abbrev is_empty : Command → Bool
is_empty commands.Empty = true
is_empty command = false

on_said : {A : Type 0} (command : A → Command) (said : Option A) (it : A) → said ≡ Some it
    → is_empty (command it) ≡ false → is_empty (on command said) ≡ false
on_said {A} command said it is some = ap (λ (found : Option A). is_empty (on command found)) is ∙ some

between_said : (command : Place → Place → Command) (from to : Option Place) (source target : Place) → from ≡ Some source
    → to ≡ Some target → is_empty (command source target) ≡ false → is_empty (between command from to) ≡ false
between_said command from to source target from_is to_is some =
    ap (λ (it : Option Place). is_empty (between command it to)) from_is
    ∙ ap (λ (it : Option Place). is_empty (between command (Some source) it)) to_is ∙ some

module _ (c : Catalogue) (text : List ℕ) (fields : List FieldView) (verb : FieldView)
    (typed : IsTyped c text fields verb) where
  -- the field at the end of a way
  there : (way : Branch) → IsWay exec_graph command_table way → (wanted : ℕ) → way.names wanted ≡ true
      → (keyword_code verb.value == wanted) ≡ true → IsThere (setting exec_graph c exec_meanings) text way fields
  there way is_way wanted names is =
      let same : keyword_code verb.value ≡ wanted = grind (arith, nat_tests) in
      there_after (setting exec_graph c exec_meanings) COMMANDS command_table begins keyword_code
      (λ place number. refl) text way is_way fields verb typed.parse typed.verb_is (ap way.names same ∙ names)

  -- APPEND, COPY and RENAME
  target : (wanted : ℕ) → target_way.names wanted ≡ true → (keyword_code verb.value == wanted) ≡ true
      → (place : Place) × (place_in (line_in c text fields) (field_of roles.Target fields) ≡ Some place)
  target wanted names is =
      files_there c text fields target_way (value_of c text reads_files is_files (files_value c))
      (there target_way target_is_way wanted names is)

  source : (wanted : ℕ) → source_way.names wanted ≡ true → (keyword_code verb.value == wanted) ≡ true
      → (place : Place) × (place_in (line_in c text fields) (field_of roles.Source fields) ≡ Some place)
  source wanted names is =
      files_there c text fields source_way (value_of c text reads_files is_files (files_value c))
      (there source_way source_is_way wanted names is)

  moves : (command : Place → Place → Command) (wanted : ℕ) → source_way.names wanted ≡ true
      → target_way.names wanted ≡ true → ((from to : Place) → is_empty (command from to) ≡ false)
      → (keyword_code verb.value == wanted) ≡ true
      → is_empty (between command (place_in (line_in c text fields) (field_of roles.Source fields))
      (place_in (line_in c text fields) (field_of roles.Target fields))) ≡ false
  moves command wanted reads writes some is =
      let from = source wanted reads is in
      let to = target wanted writes is in
      between_said command _ _ from.0 to.0 from.1 to.1 (some from.0 to.0)

  copies_more : (keyword_code verb.value == COPY) ≡ true
      → is_empty (copies (line_in c text fields) (field_of roles.Source fields)
      (place_in (line_in c text fields) (field_of roles.Target fields))) ≡ false
  copies_more is =
      let from = there copied_way copied_is_way COPY refl is in
      let to = target COPY refl is in
      let read = value_of c text reads_source (λ (value : Value). is_token value || is_files value) (source_value c)
      from.field from.of in
      ap (λ (it : Option FieldView). is_empty (copies (line_in c text fields) it
      (place_in (line_in c text fields) (field_of roles.Target fields)))) from.found
      ∙ cond_both (is_token from.field.value) (on commands.CopyTty (place_in (line_in c text fields) (field_of roles.Target fields))) (between commands.Copy (place_in (line_in c text fields) (Some from.field))
      (place_in (line_in c text fields) (field_of roles.Target fields))) (λ (command : Command). is_empty command ≡ false) (λ token. on_said commands.CopyTty (place_in (line_in c text fields) (field_of roles.Target fields)) to.0 to.1
      refl) (λ other. (
      let meant = place_meant c (flags_of exec_graph from.field) (said_of exec_graph text from.field) from.field.value
      (or_right (is_token from.field.value) (is_files from.field.value) other read) in
      between_said commands.Copy (place_in (line_in c text fields) (Some from.field)) _ meant.0 to.0 meant.1 to.1 refl
      ))

  -- DELETE, PRINT, SET, TAKE, TYPE and UNDELETE
  works : (command : Place → Command) (wanted : ℕ) → files_way.names wanted ≡ true
      → ((files : Place) → is_empty (command files) ≡ false) → (keyword_code verb.value == wanted) ≡ true
      → is_empty (on command (place_in (line_in c text fields) (field_of roles.Files fields))) ≡ false
  works command wanted names some is =
      let files = files_there c text fields files_way (value_of c text reads_files is_files (files_value c))
      (there files_way files_is_way wanted names is) in
      on_said command _ files.0 files.1 (some files.0)

  sets : (keyword_code verb.value == SET) ≡ true → is_empty (set_of (line_in c text fields)) ≡ false
  sets is =
      let it = there count_way count_is_way SET refl is in
      let count = count_meant it.field.value
      (value_of c text reads_count is_judged (count_value c) it.field it.of) in
      works (λ files. on (commands.Set files) (count_in (field_of roles.Value fields))) SET refl
      (λ files. on_said (commands.Set files) _ count.0 (ap count_in it.found ∙ count.1) refl) is

  -- BUILD and CONNECT
  enters : (command : List ℕ → Command) (wanted : ℕ) → directory_way.names wanted ≡ true
      → ((name : List ℕ) → is_empty (command name) ≡ false) → (keyword_code verb.value == wanted) ≡ true
      → is_empty (on command (directory_in (line_in c text fields) (field_of roles.Files fields))) ≡ false
  enters command wanted names some is =
      let it = there directory_way directory_is_way wanted names is in
      let meant = directory_meant c (said_of exec_graph text it.field) it.field.value
      (value_of c text reads_directory is_directory (directory_value c) it.field it.of) in
      on_said command _ meant.0 (ap (directory_in (line_in c text fields)) it.found ∙ meant.1) (some meant.0)

  -- DEFINE
  defines : (command : List ℕ → Command) → ((name : List ℕ) → is_empty (command name) ≡ false)
      → (keyword_code verb.value == DEFINE) ≡ true
      → is_empty (on command (logical_in (line_in c text fields) (field_of roles.Value fields))) ≡ false
  defines command some is =
      let it = there name_way name_is_way DEFINE refl is in
      let meant = name_meant (said_of exec_graph text it.field) it.field it.field.value
      (value_of c text reads_name (is_ruled NAME_RULE) (name_value c) it.field it.of) in
      on_said command _ meant.0 (ap (logical_in (line_in c text fields)) it.found ∙ meant.1) (some meant.0)

  -- each command in its turn
  named_more : is_empty (named (line_in c text fields) (keyword_code verb.value)) ≡ false
  named_more =
      choose APPEND _ _ _ (moves commands.Append APPEND refl refl (λ from to. refl))
      (choose BUILD _ _ _ (enters (λ name. commands.Build name None (has_subs (line_in c text fields))) BUILD refl
      (λ name. refl))
      (choose CONNECT _ _ _ (enters commands.Connect CONNECT refl (λ name. refl))
      (choose COPY _ _ _ copies_more
      (choose DEFINE _ _ _ (defines (λ name. commands.Define name
      (directory_in (line_in c text fields) (field_of roles.Files fields))) (λ name. refl))
      (choose DELETE _ _ _ (works commands.Delete DELETE refl (λ files. refl))
      (choose DIRECTORY _ _ _ (λ is. refl)
      (choose EXPUNGE _ _ _ (λ is. refl)
      (choose INFORMATION _ _ _ (λ is. refl)
      (choose LOGOUT _ _ _ (λ is. refl)
      (choose PRINT _ _ _ (works (λ files. commands.Print files (copies_in fields) (form_in fields) (after_in fields)
      (job_in (line_in c text fields)) (note_in (line_in c text fields))) PRINT refl (λ files. refl))
      (choose REMARK _ _ _ (λ is. refl)
      (choose RENAME _ _ _ (moves commands.Rename RENAME refl refl (λ from to. refl))
      (choose SET _ _ _ sets
      (choose TAKE _ _ _ (works commands.Take TAKE refl (λ file. refl))
      (choose TYPE _ _ _ (works commands.TypeOut TYPE refl (λ files. refl))
      (choose UNDELETE _ _ _ (works commands.Undelete UNDELETE refl (λ files. refl))
      (λ (none : false ≡ true). cc)))))))))))))))))
      (verb_commands c text fields verb typed)
    where
      choose : (wanted : ℕ) (rest : Bool) (first later : Command)
          → ((keyword_code verb.value == wanted) ≡ true → is_empty first ≡ false)
          → (rest ≡ true → is_empty later ≡ false) → (keyword_code verb.value == wanted || rest) ≡ true
          → is_empty (if keyword_code verb.value == wanted then first else later) ≡ false
      choose wanted rest first later here there known =
          cond_both (keyword_code verb.value == wanted) first later (λ (command : Command). is_empty command ≡ false) here (λ other. there (or_right (keyword_code verb.value == wanted) rest other known))

-- a line with a verb commands something
pub verb_is_obeyed : (c : Catalogue) (text : List ℕ) (fields : List FieldView) (verb : FieldView)
    → IsParse (setting exec_graph c exec_meanings) COMMANDS text fields ending.Done
    → field_of roles.Verb fields ≡ Some verb → command_of (line_in c text fields) ≢ commands.Empty
unfolding command_of
verb_is_obeyed c text fields verb parse is = λ same. (
    let some = named_more c text fields verb (record { parse = parse; verb_is = is }) in
    let command : command_of (line_in c text fields) ≡ named (line_in c text fields) (keyword_code verb.value) =
    ap (λ (found : Option FieldView).
    option_map_or (λ (verb : FieldView). named (line_in c text fields) (keyword_code verb.value)) found commands.Empty)
    is in
    let never : is_empty (command_of (line_in c text fields)) ≡ false = ap is_empty command ∙ some in
    let empty : is_empty (command_of (line_in c text fields)) ≡ true = ap is_empty same in
    cc
    )

-- and one without commands nothing
pub no_verb_no_command : (line : Line) → field_of roles.Verb line.fields ≡ None → command_of line ≡ commands.Empty
unfolding command_of
no_verb_no_command line none =
    ap (λ (found : Option FieldView).
    option_map_or (λ (verb : FieldView). named line (keyword_code verb.value)) found commands.Empty) none
