-- What the blocks of the EXEC's grammar read, by what their fields are for.
-- What the concrete grammar must be is a Bool test over all its blocks (fits), true by refl. One block of one node
-- (at_node) is found by refl.
use Rattle.std.proofs.Common.{◌≡◌, ℕ, ◌+◌, ◌≤◌, ◌||◌, ◌==◌, Bool, true, false, not, if◌then◌else◌, List, length, take, drop, Option, Some, None, slice_get, Ok, Err, refl, ap, sym, subst, ◌∙◌, arith}
use Rattle.std.specs.List.{list_all, prefix_len}
use Rattle.std.proofs.lemmas.List.{length-take}
use Rattle.std.proofs.lemmas.List.Sums.{prefix_len-le-length}
use Rattle.std.proofs.lemmas.Bool.Decides.{nat_tests}
use Rattle.cm_lists.proofs.Elements.{slice_get_of_one}
use Rattle.cm_text.specs.Bytes.{is_name}
use Rattle.cm_text.specs.declared.name.TheConstants.{NAME_LIMIT}
use Rattle.cm_fields.specs.declared.code.Code.TheVariants.{NoField}
use Rattle.cm_fields.specs.declared.trial.Try.TheVariants.{Accept}
use Rattle.cm_fields.specs.declared.value.FileKind.TheVariants.{In, Out, Any}
use Rattle.cm_fields.specs.declared.trial.Try.{Try}
use Rattle.cm_fields.specs.declared.value.Value.{Value}
use Rattle.cm_fields.specs.declared.value.Value.TheVariants as values
use Rattle.cm_files.proofs.LogicalNames.{short_name}
use Rattle.cm_files.specs.declared.flags.Flags.{Flags}
use Rattle.cm_files.specs.Catalogue.{Catalogue}
use Rattle.cm_files.specs.Fields.{directory_of, file_of, has_colon_after, is_file, is_plain_path, user_of}
use Rattle.cm_files.specs.LogicalName.{is_logical_name}
use Rattle.cm_hooks.specs.declared.answer.Answer.TheVariants.{Yes, No}
use Rattle.cm_hooks.specs.Field.{hook_of, judged}
use Rattle.cm_blocks.specs.declared.field.Ending.{Ending}
use Rattle.cm_blocks.specs.declared.function.Function.{Function}
use Rattle.cm_blocks.specs.declared.function.Function.TheVariants.{Switch, Number, Word, Quoted, Token, Date, User, Directory, InFile, OutFile, AnyFile, Hook}
use Rattle.cm_blocks.specs.declared.function.Role.{Role}
use Rattle.cm_blocks.specs.declared.function.Role.TheVariants as roles
use Rattle.cm_blocks.specs.declared.node.Block.{Block}
use Rattle.cm_blocks.specs.declared.node.Node.{Node}
use Rattle.cm_blocks.specs.Parse.{IsParse}
use Rattle.cm_blocks.specs.Setting.{Setting, setting}
use Rattle.cm_blocks.specs.FieldView.{FieldView}
use Rattle.cm_blocks.specs.Trial.{table_of, trial}
use Rattle.cm_blocks.proofs.Values.{hook_says}
use Rattle.cm_state.proofs.Branches.{all_pass_at}
use Rattle.cm_state.specs.Roles.{field_of, is_role}
use Rattle.ex_grammar.specs.ExecRules.{exec_meanings, logical_verdict, rule_verdict}
use Rattle.ex_grammar.specs.Graph.{append_blocks, build_blocks, define_blocks, delete_blocks, directory_nodes, exec_graph, exec_nodes, first_nodes, last_nodes, listing_nodes, print_blocks, retention_nodes, set_blocks, source_nodes, switch_blocks, target_blocks, type_blocks}
use Rattle.ex_grammar.specs.Words.{hook, only, value}
use Rattle.ex_commands.specs.declared.commands.define.TheConstants.{NAME_RULE}
use Rattle.ex_commands.specs.declared.commands.print.TheConstants.{AFTER_NODE, FORMS_NODE, FORM_RULE, JOBNAME_NODE, NOTE_NODE}
use Rattle.ex_commands.specs.Line.{last_at}
use Rattle.ex_commands.proofs.LastFields.{last_tried}
use Rattle.ex_commands.specs.NameParts.{IsLogical, IsLogicalIn, IsReadable, IsSaid, IsSaidIn}
use Rattle.ex_commands.proofs.Judgements.{IsPlain, PlainIfAccept, accepted_plain, date_is_plain, hook_said, number_is_plain, plain_said, quoted_plain, switch_plain, word_is_plain}
use Rattle.cm_blocks.proofs.Places.{IsRun, run_of, token_says, user_says}
use Rattle.ex_commands.proofs.ShortParts.{directory_said, file_said}
use Rattle.cm_blocks.proofs.Fields.{IsTried, StandsIn, first_tried}

-- what is read from: the terminal, or files that are there
abbrev pub reads_source : Function → Bool
reads_source (Token text) = true
reads_source InFile = true
reads_source function = false

-- what is written: files that are made, or a file that is there already or not
abbrev pub reads_target : Function → Bool
reads_target OutFile = true
reads_target AnyFile = true
reads_target function = false

-- files that are made
abbrev pub reads_made : Function → Bool
reads_made OutFile = true
reads_made function = false

-- one file, by its name and without wildcards
abbrev pub reads_one : Function → Flags → Bool
reads_one AnyFile flags = not (flags.wild || flags.default_all || flags.from_source)
reads_one function flags = false

-- one file that is there, without wildcards
abbrev pub reads_single : Function → Flags → Bool
reads_single InFile flags = not (flags.wild || flags.all_generations || flags.default_all)
reads_single function flags = false

-- what a command works on: files, users or directories
abbrev pub reads_files : Function → Bool
reads_files InFile = true
reads_files AnyFile = true
reads_files User = true
reads_files Directory = true
reads_files function = false

-- what names files, users or directories
abbrev pub reads_places : Function → Bool
reads_places function = reads_source function || reads_target function || reads_files function

-- a switch, or a value
abbrev pub reads_value : Function → Bool
reads_value (Switch table) = true
reads_value Number = true
reads_value Word = true
reads_value Quoted = true
reads_value Date = true
reads_value (Hook id) = true
reads_value function = false

-- a function that a field of this role may have
abbrev pub fits_role : Role → Function → Bool
fits_role roles.Source function = reads_source function
fits_role roles.Target function = reads_target function
fits_role roles.Files function = reads_files function
fits_role roles.Value function = reads_value function
fits_role role function = true

abbrev pub fits : Block → Bool
fits block = fits_role block.role block.function

abbrev pub node_fits : Node → Bool
node_fits node = list_all fits node.chain

pub nodes_fit : list_all node_fits exec_graph.nodes ≡ true
unfolding exec_graph exec_nodes first_nodes source_nodes target_blocks append_blocks delete_blocks type_blocks listing_nodes define_blocks build_blocks last_nodes print_blocks switch_blocks directory_nodes retention_nodes set_blocks
nodes_fit = refl

-- a field's block fits its role
pub field_fits : (c : Catalogue) (text : List ℕ) (field : FieldView)
    → (tried : IsTried (setting exec_graph c exec_meanings) text field) → fits_role field.role tried.block.function ≡ true
field_fits c text field tried =
    let node = all_pass_at node_fits exec_graph.nodes field.node tried.node nodes_fit tried.node_is in
    ap (λ (role : Role). fits_role role tried.block.function) tried.role
    ∙ all_pass_at fits tried.node.chain field.block tried.block node tried.block_is

-- a role by its number
source_fits : (role : Role) (function : Function) → is_role roles.Source role ≡ true → fits_role role function ≡ true
    → reads_source function ≡ true
source_fits roles.Source function same fits = fits
source_fits role function same fits = cc

target_fits : (role : Role) (function : Function) → is_role roles.Target role ≡ true → fits_role role function ≡ true
    → reads_target function ≡ true
target_fits roles.Target function same fits = fits
target_fits role function same fits = cc

files_fits : (role : Role) (function : Function) → is_role roles.Files role ≡ true → fits_role role function ≡ true
    → reads_files function ≡ true
files_fits roles.Files function same fits = fits
files_fits role function same fits = cc

value_fits : (role : Role) (function : Function) → is_role roles.Value role ≡ true → fits_role role function ≡ true
    → reads_value function ≡ true
value_fits roles.Value function same fits = fits
value_fits role function same fits = cc

-- the fields of a parse by their roles, and what their blocks read
pub record IsRead (c : Catalogue) (text : List ℕ) (reads : Function → Bool) (field : FieldView) : Type 0 where
  pub tried : IsTried (setting exec_graph c exec_meanings) text field
  pub by_function : reads tried.block.function ≡ true

read_by : {node : ℕ} (c : Catalogue) (text : List ℕ) (fields : List FieldView) (ends : Ending) (role : Role) (reads : Function → Bool)
    → ((other : Role) (function : Function) → is_role role other ≡ true → fits_role other function ≡ true → reads function ≡ true)
    → IsParse (setting exec_graph c exec_meanings) node text fields ends
    → (field : FieldView) → field_of role fields ≡ Some field → IsRead c text reads field
read_by {node} c text fields ends role reads fitting parse field is =
    let found = first_tried (setting exec_graph c exec_meanings) text node 0 (λ (field : FieldView). is_role role field.role) fields field parse.follow is in
    record {
      tried = found.0;
      by_function = fitting field.role found.0.block.function found.1 (field_fits c text field found.0);
    }

pub source_read : {node : ℕ} (c : Catalogue) (text : List ℕ) (fields : List FieldView) (ends : Ending)
    → IsParse (setting exec_graph c exec_meanings) node text fields ends
    → (field : FieldView) → field_of roles.Source fields ≡ Some field → IsRead c text reads_source field
source_read c text fields ends = read_by c text fields ends roles.Source reads_source source_fits

pub target_read : {node : ℕ} (c : Catalogue) (text : List ℕ) (fields : List FieldView) (ends : Ending)
    → IsParse (setting exec_graph c exec_meanings) node text fields ends
    → (field : FieldView) → field_of roles.Target fields ≡ Some field → IsRead c text reads_target field
target_read c text fields ends = read_by c text fields ends roles.Target reads_target target_fits

pub files_read : {node : ℕ} (c : Catalogue) (text : List ℕ) (fields : List FieldView) (ends : Ending)
    → IsParse (setting exec_graph c exec_meanings) node text fields ends
    → (field : FieldView) → field_of roles.Files fields ≡ Some field → IsRead c text reads_files field
files_read c text fields ends = read_by c text fields ends roles.Files reads_files files_fits

pub value_read : {node : ℕ} (c : Catalogue) (text : List ℕ) (fields : List FieldView) (ends : Ending)
    → IsParse (setting exec_graph c exec_meanings) node text fields ends
    → (field : FieldView) → field_of roles.Value fields ≡ Some field → IsRead c text reads_value field
value_read c text fields ends = read_by c text fields ends roles.Value reads_value value_fits

-- what such a function accepts has short parts
trial_said : (s : Setting) (function : Function) (flags : Flags) (rest : List ℕ) (at : ℕ) (value : Value) (looked end : ℕ)
    → reads_places function ≡ true
    → trial s function flags rest at ≡ Accept value looked end → IsSaid value
unfolding trial
trial_said s (Token text) flags rest at value looked end reads is =
    subst IsSaid (sym (token_says text rest at value looked end is)) tt
trial_said s User flags rest at value looked end reads is =
    let run = run_of is_plain_path (user_of s.catalogue (has_colon_after rest)) rest at value looked end is in
    subst IsSaid (sym (user_says s.catalogue (has_colon_after rest) _ value run.decided).2) tt
trial_said s Directory flags rest at value looked end reads is =
    let run = run_of is_file (directory_of flags.new s.catalogue at) rest at value looked end is in
    directory_said flags.new s.catalogue at _ value run.decided
trial_said s InFile flags rest at value looked end reads is =
    let run = run_of is_file (file_of s.catalogue In flags at) rest at value looked end is in
    file_said s.catalogue In flags at _ value run.decided
trial_said s OutFile flags rest at value looked end reads is =
    let run = run_of is_file (file_of s.catalogue Out flags at) rest at value looked end is in
    file_said s.catalogue Out flags at _ value run.decided
trial_said s AnyFile flags rest at value looked end reads is =
    let run = run_of is_file (file_of s.catalogue Any flags at) rest at value looked end is in
    file_said s.catalogue Any flags at _ value run.decided
trial_said s function flags rest at value looked end reads is = cc

hook_short : (run : List ℕ) (value : Value) → hook_of rule_verdict NAME_RULE run ≡ Ok value → length run ≤ NAME_LIMIT
unfolding hook_of
hook_short run value is = by (length run == 0) is
  where
    judges : (test : Bool) → is_logical_name run ≡ test → judged NAME_RULE (if test then Yes (length run) else No) ≡ Ok value
        → length run ≤ NAME_LIMIT
    judges true test is = short_name run test
    judges false test is = cc

    by : (test : Bool) → (if test then Err NoField else judged NAME_RULE (logical_verdict run)) ≡ Ok value → length run ≤ NAME_LIMIT
    by true is = cc
    by false is = judges (is_logical_name run) refl is

-- what the rule of logical names takes is no longer than a name
abbrev IsSized : ℕ → ℕ → Value → Type 0
IsSized at end (values.Hook id size) = (id == NAME_RULE) ≡ true → end ≤ at + NAME_LIMIT
IsSized at end value = Unit {0}

plain_sized : (at end : ℕ) (value : Value) → IsPlain value → IsSized at end value
plain_sized at end (values.Switch entry code) plain = tt
plain_sized at end (values.Number number) plain = tt
plain_sized at end (values.Date day) plain = tt
plain_sized at end (values.Quoted place) plain = tt
plain_sized at end (values.Word place) plain = tt
plain_sized at end value plain = absurd plain

hook_sized : (id : ℕ) (rest : List ℕ) (at : ℕ) (value : Value) (end : ℕ) → IsRun is_name (hook_of rule_verdict id) rest at value end
    → IsSized at end value
hook_sized id rest at value end run =
    let it = hook_says rule_verdict id (take (prefix_len is_name rest) rest) value run.decided in
    subst (IsSized at end) (sym it.1)
    (λ named. (
    let first : id ≡ NAME_RULE = grind (arith, nat_tests) in
    let judged : hook_of rule_verdict NAME_RULE (take (prefix_len is_name rest) rest) ≡ Ok value =
    ap (λ (n : ℕ). hook_of rule_verdict n (take (prefix_len is_name rest) rest)) (sym first) ∙ run.decided in
    let short = hook_short (take (prefix_len is_name rest) rest) value judged in
    let most = prefix_len-le-length is_name rest in
    let size = length-take (prefix_len is_name rest) rest in
    let last = run.last in
    omega arith
    ))

plain_both : (answer : Try) (at : ℕ) (value : Value) (looked end : ℕ) → PlainIfAccept answer → answer ≡ Accept value looked end
    → IsSaid value × IsSized at end value
plain_both answer at value looked end plain is =
    let it = accepted_plain answer value looked end plain is in (plain_said value it, plain_sized at end value it)

-- what is accepted as a switch or as a value
value_said : (c : Catalogue) (function : Function) (flags : Flags) (rest : List ℕ) (at : ℕ) (value : Value) (looked end : ℕ)
    → reads_value function ≡ true → trial (setting exec_graph c exec_meanings) function flags rest at ≡ Accept value looked end
    → IsSaid value × IsSized at end value
unfolding trial
value_said c (Switch table) flags rest at value looked end reads is =
    plain_both _ at value looked end (switch_plain (table_of exec_graph table) rest at) is
value_said c Number flags rest at value looked end reads is = plain_both _ at value looked end (number_is_plain rest at) is
value_said c Word flags rest at value looked end reads is = plain_both _ at value looked end (word_is_plain rest at) is
value_said c Quoted flags rest at value looked end reads is = plain_both _ at value looked end (quoted_plain rest at) is
value_said c Date flags rest at value looked end reads is = plain_both _ at value looked end (date_is_plain rest at) is
value_said c (Hook id) flags rest at value looked end reads is =
    let run = run_of is_name (hook_of rule_verdict id) rest at value looked end is in
    (hook_said id (take (prefix_len is_name rest) rest) value run.decided, hook_sized id rest at value end run)
value_said c function flags rest at value looked end reads is = cc

-- where a field of that size stands
place_short : (test : Bool) (default : Option (List ℕ)) (text : List ℕ) (field : FieldView) (said : List ℕ) (at end : ℕ)
    → StandsIn test default text field said at end → end ≤ at + NAME_LIMIT → field.end ≤ field.start + NAME_LIMIT
place_short false default text field said at end stands short = (let first = stands.1 in let last = stands.2 in omega arith)
place_short true default text field said at end stands short = (let last = stands.3 in omega arith)

-- of all that is read as a name
field_said : (c : Catalogue) (text : List ℕ) (field : FieldView) (reads : Function → Bool)
    → ((function : Function) → reads function ≡ true → reads_places function ≡ true)
    → IsRead c text reads field → IsSaid field.value
field_said c text field reads named read =
    let tried = read.tried in
    trial_said (setting exec_graph c exec_meanings) tried.block.function tried.block.flags (drop tried.at tried.said) tried.at field.value
    tried.looked tried.end (named tried.block.function read.by_function) tried.accepts

-- of a value's field
placed : (field : FieldView) (default : Option (List ℕ)) (text said : List ℕ) (at end : ℕ) (value : Value)
    → StandsIn field.defaulted default text field said at end → IsSized at end value → IsLogical field value
placed field default text said at end (values.Hook id size) stands sized =
    λ named. place_short field.defaulted default text field said at end stands (sized named)
placed field default text said at end value stands sized = tt

value_both : (c : Catalogue) (text : List ℕ) (field : FieldView) → IsRead c text reads_value field
    → IsSaid field.value × IsLogical field field.value
value_both c text field read =
    let tried = read.tried in
    let both = value_said c tried.block.function tried.block.flags (drop tried.at tried.said) tried.at field.value tried.looked tried.end
    read.by_function tried.accepts in
    (both.0, placed field tried.node.default text tried.said tried.at tried.end field.value tried.stands both.1)

pub source_names : (function : Function) → reads_source function ≡ true → reads_places function ≡ true
source_names (Token text) reads = refl
source_names InFile reads = refl
source_names function reads = cc

target_names : (function : Function) → reads_target function ≡ true → reads_places function ≡ true
target_names OutFile reads = refl
target_names AnyFile reads = refl
target_names function reads = cc

pub files_names : (function : Function) → reads_files function ≡ true → reads_places function ≡ true
files_names InFile reads = refl
files_names AnyFile reads = refl
files_names User reads = refl
files_names Directory reads = refl
files_names function reads = cc

-- of a field that may not be there
said_in : (fields : List FieldView) (role : Role) → ((field : FieldView) → field_of role fields ≡ Some field → IsSaid field.value)
    → IsSaidIn (field_of role fields)
said_in fields role said = by (field_of role fields) refl
  where
    by : (found : Option FieldView) → field_of role fields ≡ found → IsSaidIn found
    by None found = tt
    by (Some field) found = said field found

logical_in : (fields : List FieldView) (role : Role)
    → ((field : FieldView) → field_of role fields ≡ Some field → IsLogical field field.value) → IsLogicalIn (field_of role fields)
logical_in fields role logical = by (field_of role fields) refl
  where
    by : (found : Option FieldView) → field_of role fields ≡ found → IsLogicalIn found
    by None found = tt
    by (Some field) found = logical field found

-- the node of the switches
abbrev pub switches : ℕ
switches = 39

-- the value of a switch, by the one block of its node
pub record IsAtNode (c : Catalogue) (text : List ℕ) (it : Block) (field : FieldView) : Type 0 where
  pub tried : IsTried (setting exec_graph c exec_meanings) text field
  pub block_is : tried.block ≡ it
  pub plain : tried.node.default ≡ None

pub at_node : {node : ℕ} (c : Catalogue) (text : List ℕ) (fields : List FieldView) (ends : Ending) (number : ℕ) (it : Block)
    → slice_get exec_graph.nodes number ≡ Some (only it) → IsParse (setting exec_graph c exec_meanings) node text fields ends
    → (field : FieldView) → last_at number fields ≡ Some field → IsAtNode c text it field
at_node {node} c text fields ends number it node_is parse field is =
    let found = last_tried (setting exec_graph c exec_meanings) text node 0 number fields field parse.follow is in
    let here : field.node ≡ number = (let test = found.1 in grind (arith, nat_tests)) in
    let both : Some found.0.node ≡ Some (only it) =
    sym found.0.node_is ∙ ap (λ (n : ℕ). slice_get exec_graph.nodes n) here ∙ node_is in
    let same : found.0.node ≡ only it = cc in
    record {
      tried = found.0;
      block_is = slice_get_of_one it found.0.block field.block
          (sym (ap (λ (node : Node). slice_get node.chain field.block) same) ∙ found.0.block_is);
      plain = ap (λ (node : Node). node.default) same;
    }

pub after_node : slice_get exec_graph.nodes AFTER_NODE ≡ Some (only (value Date switches))
unfolding exec_graph exec_nodes first_nodes source_nodes target_blocks append_blocks delete_blocks type_blocks listing_nodes define_blocks build_blocks last_nodes print_blocks switch_blocks directory_nodes retention_nodes set_blocks
after_node = refl

pub forms_node : slice_get exec_graph.nodes FORMS_NODE ≡ Some (only (hook FORM_RULE switches))
unfolding exec_graph exec_nodes first_nodes source_nodes target_blocks append_blocks delete_blocks type_blocks listing_nodes define_blocks build_blocks last_nodes print_blocks switch_blocks directory_nodes retention_nodes set_blocks
forms_node = refl

pub job_node : slice_get exec_graph.nodes JOBNAME_NODE ≡ Some (only (value Word switches))
unfolding exec_graph exec_nodes first_nodes source_nodes target_blocks append_blocks delete_blocks type_blocks listing_nodes define_blocks build_blocks last_nodes print_blocks switch_blocks directory_nodes retention_nodes set_blocks
job_node = refl

pub note_node : slice_get exec_graph.nodes NOTE_NODE ≡ Some (only (value Quoted switches))
unfolding exec_graph exec_nodes first_nodes source_nodes target_blocks append_blocks delete_blocks type_blocks listing_nodes define_blocks build_blocks last_nodes print_blocks switch_blocks directory_nodes retention_nodes set_blocks
note_node = refl

-- what it says, where it is of such a function
pub value_at_node : (c : Catalogue) (text : List ℕ) (it : Block) → reads_value it.function ≡ true → (field : FieldView)
    → IsAtNode c text it field → IsSaid field.value
value_at_node c text it reads field at =
    let tried = at.tried in
    let by_function : reads_value tried.block.function ≡ true = ap (λ (block : Block). reads_value block.function) at.block_is ∙ reads in
    (value_said c tried.block.function tried.block.flags (drop tried.at tried.said) tried.at field.value tried.looked tried.end
    by_function tried.accepts).0

said_at : (fields : List FieldView) (number : ℕ) → ((field : FieldView) → last_at number fields ≡ Some field → IsSaid field.value)
    → IsSaidIn (last_at number fields)
said_at fields number said = by (last_at number fields) refl
  where
    by : (found : Option FieldView) → last_at number fields ≡ found → IsSaidIn found
    by None found = tt
    by (Some field) found = said field found

-- what is read as a name in a line of the grammar is no longer than one, and its numbers are in range
pub names_are_short : {node : ℕ} (c : Catalogue) (text : List ℕ) (fields : List FieldView) (ends : Ending)
    → IsParse (setting exec_graph c exec_meanings) node text fields ends → IsReadable fields
names_are_short c text fields ends parse = record {
  source = said_in fields roles.Source (λ field is. field_said c text field reads_source source_names (source_read c text fields ends parse field is));
  target = said_in fields roles.Target (λ field is. field_said c text field reads_target target_names (target_read c text fields ends parse field is));
  files = said_in fields roles.Files (λ field is. field_said c text field reads_files files_names (files_read c text fields ends parse field is));
  value = said_in fields roles.Value (λ field is. (value_both c text field (value_read c text fields ends parse field is)).0);
  logical = logical_in fields roles.Value (λ field is. (value_both c text field (value_read c text fields ends parse field is)).1);
  form = said_at fields FORMS_NODE (λ field is.
      value_at_node c text (hook FORM_RULE switches) refl field (at_node c text fields ends FORMS_NODE _ forms_node parse field is));
  job = said_at fields JOBNAME_NODE (λ field is.
      value_at_node c text (value Word switches) refl field (at_node c text fields ends JOBNAME_NODE _ job_node parse field is));
}
