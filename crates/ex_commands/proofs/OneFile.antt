-- A line of TAKE means one file.
-- That a field without wildcards means one file is two facts: at most one, by the generations (Single), and at least
-- one, since resolve is not NoFile.
use Rattle.std.proofs.Common.{◌≡◌, ℕ, zero, suc, ◌<◌, ◌||◌, ◌&&◌, ◌==◌, Bool, true, false, not, if◌then◌else◌, List, [], ◌∷◌, length, map, filter, drop, Option, Some, None, option_and_then, option_map, slice_get, unwrap_or, Ok, refl, ap, sym, subst, ◌∙◌, arith}
use Rattle.std.specs.List.{list_any, prefix_len}
use Rattle.std.specs.Option.{option_map_or}
use Rattle.std.proofs.lemmas.Bool.{cond_both, not-true, or_parts}
use Rattle.std.proofs.lemmas.Bool.Decides.{nat_tests}
use Rattle.std.proofs.lemmas.List.{length-map}
use Rattle.std.proofs.lemmas.List.Elements.{filter_agree}
use Rattle.cm_lists.proofs.Ascii.{up}
use Rattle.cm_lists.proofs.Bools.{second_of_not_and}
use Rattle.cm_lists.proofs.Filters.{filter-map, filter_same}
use Rattle.cm_lists.proofs.Quantifiers.{all_kept}
use Rattle.cm_fields.specs.declared.trial.Try.TheVariants.{Accept}
use Rattle.cm_fields.specs.declared.value.FileKind.TheVariants.{In}
use Rattle.cm_fields.specs.declared.value.Span.{Span}
use Rattle.cm_fields.specs.declared.value.Spec.{Spec}
use Rattle.cm_fields.specs.declared.value.Value.{Value}
use Rattle.cm_fields.specs.declared.value.Value.TheVariants as values
use Rattle.cm_files.specs.declared.flags.Flags.{Flags}
use Rattle.cm_files.specs.declared.row.FileRow.{FileRow}
use Rattle.cm_files.specs.Catalogue.{rows_of}
use Rattle.cm_files.specs.Fields.{file_of, is_file, moved, moved_spec}
use Rattle.cm_files.specs.Pattern.{is_wild, matches}
use Rattle.cm_files.specs.Resolve.{has_bad_copy, has_wild, is_all, wanted_by, wanted_kind, wanted_name}
use Rattle.cm_files.specs.Selection.{is_seen, is_selected, name_matches, selected, selects}
use Rattle.cm_files.specs.Spec.{part, read_spec}
use Rattle.cm_blocks.specs.declared.field.Ending.{Ending}
use Rattle.cm_blocks.specs.declared.function.Function.{Function}
use Rattle.cm_blocks.specs.declared.function.Function.TheVariants.{InFile}
use Rattle.cm_blocks.specs.declared.function.Role.TheVariants as roles
use Rattle.cm_blocks.specs.declared.node.Block.{Block}
use Rattle.cm_blocks.specs.declared.node.Node.{Node}
use Rattle.cm_blocks.specs.FieldView.{FieldView}
use Rattle.cm_blocks.specs.Parse.{IsParse}
use Rattle.cm_blocks.specs.Setting.{setting}
use Rattle.cm_blocks.specs.Trial.{trial}
use Rattle.cm_blocks.specs.Words.{no_flags}
use Rattle.cm_state.specs.Roles.{field_of}
use Rattle.ex_grammar.specs.ExecRules.{exec_meanings}
use Rattle.ex_grammar.specs.Graph.{exec_graph}
use Rattle.ex_grammar.specs.declared.code.TheConstants.{APPEND, BUILD, CONNECT, COPY, DEFINE, DELETE, DIRECTORY, EXPUNGE, INFORMATION, LOGOUT, PRINT, REMARK, RENAME, SET, TAKE, TYPE, UNDELETE}
use Rattle.ex_grammar.specs.declared.node.TheConstants.{COMMANDS}
use Rattle.ex_store.specs.declared.directory.Directory.{Directory}
use Rattle.ex_store.specs.declared.place.Place.{Place}
use Rattle.ex_store.specs.declared.row.Row.{Row}
use Rattle.ex_store.specs.Plan.{sources}
use Rattle.ex_store.specs.Rows.{is_in, rows_in}
use Rattle.ex_store.specs.Selection.{is_selected_by, wanted_of}
use Rattle.ex_store.specs.Selection as selections
use Rattle.ex_store.specs.State.{State, catalogue_of, file_row}
use Rattle.ex_store.specs.WellFormed.{IsWellFormed}
use Rattle.ex_store.proofs.CatalogueLaws.{catalogue_lawful}
use Rattle.ex_store.proofs.RowsInLaws.{rows_at_number, rows_of_catalogue}
use Rattle.ex_commands.specs.declared.command.Command.{Command}
use Rattle.ex_commands.specs.declared.command.Command.TheVariants as commands
use Rattle.ex_commands.specs.Command.{command_of, named}
use Rattle.ex_commands.specs.Commands.Copy.{copies, is_token}
use Rattle.ex_commands.specs.Commands.Print.{after_in, copies_in, form_in, job_in, note_in}
use Rattle.ex_commands.specs.Line.{Line, between, count_in, directory_in, directory_name, flags_of, has_subs, keyword_code, on, place_by, place_in, said_of, upper}
use Rattle.ex_store.proofs.SelectionLaws.{selected_all}
use Rattle.cm_state.proofs.Branches.{IsOf}
use Rattle.ex_commands.proofs.Fits.{reads_single}
use Rattle.ex_commands.proofs.Places.{spec_kind, spec_name}
use Rattle.ex_commands.proofs.Resolutions.{resolves}
use Rattle.cm_blocks.proofs.Places.{file_says, run_of}
use Rattle.ex_commands.proofs.Single.{selected_same, single, up_matches}
use Rattle.ex_commands.proofs.Targets.{SaysParts, run_says, run_text}
use Rattle.cm_blocks.proofs.Fields.{IsTried}
use Rattle.ex_commands.proofs.Verbs.{is_single, names_take, take_file}

-- a directory of the catalogue is one of the state
record IsNumbered (directories : List Directory) (number : ℕ) : Type 0 where
  directory : Directory
  there : slice_get directories number ≡ Some directory
  name : unwrap_or (slice_get (map (λ (each : Directory). each.name) directories) number) [] ≡ directory.name

numbered : (directories : List Directory) (number : ℕ) → number < length (map (λ (each : Directory). each.name) directories)
    → IsNumbered directories number
numbered [] number below = absurd (omega arith)
numbered (first ∷ more) zero below = record { directory = first; there = refl; name = refl }
numbered (first ∷ more) (suc number) below =
    let rest = numbered more number (omega arith) in
    record { directory = rest.directory; there = rest.there; name = rest.name }

-- as many files are meant as rows of the catalogue are selected
meant_inside : (deleted : Bool) (place : Place) (state : State) (row : Row) → is_in place.directory row ≡ true
    → is_selected_by deleted place state row
    ≡ is_selected (wanted_of deleted place) (map (file_row state.directories) (rows_in place.directory state.rows))
    (file_row state.directories row)
unfolding is_selected_by
meant_inside deleted place state row is =
    ap (λ inside. inside && is_selected (wanted_of deleted place) (map (file_row state.directories) (rows_in place.directory state.rows)) (file_row state.directories row)) is

meant_count : (place : Place) (state : State)
    → length (sources place state)
    ≡ length (selected (wanted_of place.flags.deleted place) (map (file_row state.directories) (rows_in place.directory state.rows)))
meant_count place state =
    let inside = rows_in place.directory state.rows in
    let f = file_row state.directories in
    let test = is_selected (wanted_of place.flags.deleted place) (map f inside) in
    let same = filter_same (is_in place.directory) (is_selected_by place.flags.deleted place state) (λ row. test (f row))
    (meant_inside place.flags.deleted place state) inside (all_kept (is_in place.directory) state.rows) in
    ap length (sym (selected_all place.flags.deleted place state))
    ∙ ap length same
    ∙ sym (length-map (filter (λ row. test (f row)) inside) f)
    ∙ ap length (sym (filter-map test f inside))

rows_meant : (state : State) → IsWellFormed state → (number : ℕ) → number < length (catalogue_of state).directories
    → map (file_row state.directories) (rows_in (directory_name (catalogue_of state) number) state.rows)
    ≡ rows_of (catalogue_of state) number
rows_meant state well number below =
    let it = numbered state.directories number below in
    ap (λ name. map (file_row state.directories) (rows_in name state.rows)) it.name
    ∙ ap (map (file_row state.directories)) (sym (rows_at_number state well number it.directory it.there))
    ∙ sym (rows_of_catalogue state number)

-- what a specification looks for by its parts, the place looks for that is made of it
name_seen : (flags : Flags) (text run : List ℕ) (at : ℕ) (spec : Spec) → read_spec run ≡ Ok spec → has_wild run spec.name ≡ false
    → SaysParts text at run → (directory : List ℕ) (row : FileRow) (place : Place) → place.flags ≡ flags
    → name_matches (selections.wanted_name place (option_map (upper text) (option_map (moved at) spec.name))) row.name
    ≡ name_matches (wanted_name flags run spec.name) row.name
name_seen flags text run at spec read plain says directory row place same = by spec.name refl plain
  where
    by : (name : Option Span) → spec.name ≡ name → has_wild run name ≡ false
        → name_matches (selections.wanted_name place (option_map (upper text) (option_map (moved at) name))) row.name
        ≡ name_matches (wanted_name flags run name) row.name
    by None is plain = ap (λ (flags : Flags). name_matches (wanted_name flags run None) row.name) same
    by (Some piece) is plain =
        let found = spec_name run spec piece read is in
        ap (λ (it : List ℕ). matches (up it) row.name) (says piece found.0.order found.0.within)
        ∙ up_matches (part run piece) row.name plain

kind_seen : (flags : Flags) (text run : List ℕ) (at : ℕ) (spec : Spec) → read_spec run ≡ Ok spec → has_wild run spec.kind ≡ false
    → SaysParts text at run → (directory : List ℕ) (row : FileRow) (place : Place) → place.flags ≡ flags
    → matches (selections.wanted_kind place (option_map (upper text) (option_map (moved at) spec.kind))) row.kind
    ≡ matches (wanted_kind flags run spec.kind) row.kind
kind_seen flags text run at spec read plain says directory row place same = by spec.kind refl plain
  where
    by : (kind : Option Span) → spec.kind ≡ kind → has_wild run kind ≡ false
        → matches (selections.wanted_kind place (option_map (upper text) (option_map (moved at) kind))) row.kind
        ≡ matches (wanted_kind flags run kind) row.kind
    by None is plain = ap (λ (flags : Flags). matches (wanted_kind flags run None) row.kind) same
    by (Some piece) is plain =
        let found = spec_kind run spec piece read is in
        ap (λ (it : List ℕ). matches (up it) row.kind) (says piece found.order found.within)
        ∙ up_matches (part run piece) row.kind plain

-- what is looked for is one file
fixed_name : (flags : Flags) (run : List ℕ) (name : Option Span) → flags.default_all ≡ false → has_wild run name ≡ false
    → option_map_or (λ pattern. not (list_any is_wild pattern)) (wanted_name flags run name) true ≡ true
fixed_name flags run None all plain = rw all refl
fixed_name flags run (Some piece) all plain = ap not plain

fixed_kind : (flags : Flags) (run : List ℕ) (kind : Option Span) → flags.default_all ≡ false → has_wild run kind ≡ false
    → list_any is_wild (wanted_kind flags run kind) ≡ false
fixed_kind flags run None all plain = rw all refl
fixed_kind flags run (Some piece) all plain = plain

-- the place that a specification is made to
abbrev place_of : State → Flags → List ℕ → ℕ → Spec → ℕ → Place
place_of state flags text at spec number =
    record {
      directory = directory_name (catalogue_of state) number;
      name = option_map (upper text) (option_map (moved at) spec.name);
      kind = option_map (upper text) (option_map (moved at) spec.kind);
      generation = spec.generation;
      flags = flags;
    }

seen_alike : (state : State) (flags : Flags) (text run : List ℕ) (at : ℕ) (spec : Spec) (number : ℕ) → read_spec run ≡ Ok spec
    → has_wild run spec.name ≡ false → has_wild run spec.kind ≡ false → SaysParts text at run → (row : FileRow)
    → is_seen (wanted_of flags.deleted (place_of state flags text at spec number)) row ≡ is_seen (wanted_by flags run spec) row
unfolding is_seen
seen_alike state flags text run at spec number read names kinds says row =
    let place = place_of state flags text at spec number in
    let name = name_seen flags text run at spec read names says place.directory row place refl in
    let kind = kind_seen flags text run at spec read kinds says place.directory row place refl in
    rw (name, kind) refl

-- a file that is read without wildcards
file_single : (state : State) → IsWellFormed state → (flags : Flags) (text run : List ℕ) (at : ℕ) (value : Value) (place : Place)
    → not (flags.wild || flags.all_generations || flags.default_all) ≡ true
    → file_of (catalogue_of state) In flags at run ≡ Ok value → SaysParts text at run
    → place_by (catalogue_of state) flags text value ≡ Some place → length (sources place state) ≡ 1
file_single state well flags text run at value place few is says placed =
    let lawful = catalogue_lawful state well in
    let of = file_says (catalogue_of state) In flags at run value is in
    let it = resolves (catalogue_of state) lawful In flags run of.spec of.directory of.resolved in
    let none = or_parts (flags.wild || flags.all_generations) flags.default_all (not-true _ few) in
    let both = or_parts flags.wild flags.all_generations none.0 in
    let kept = or_parts (has_wild run of.spec.directory) _ (or_parts _ (has_bad_copy In run of.spec) it.wild).0 in
    let plain = second_of_not_and flags.wild _ both.0 kept.1 in
    let parts = or_parts (has_wild run of.spec.name || has_wild run of.spec.kind) (is_all of.spec.generation) plain in
    let names = or_parts (has_wild run of.spec.name) (has_wild run of.spec.kind) parts.0 in
    let made : place_by (catalogue_of state) flags text (values.File In (moved_spec at of.spec) of.directory) ≡ Some place =
    ap (place_by (catalogue_of state) flags text) (sym of.value_is) ∙ placed in
    let same : ◌≡◌ {A = Place} (place_of state flags text at of.spec of.directory) place = cc in
    let wanted = wanted_by flags run of.spec in
    let rows = rows_of (catalogue_of state) of.directory in
    let most = single (catalogue_of state) lawful of.directory wanted (record {
      name = fixed_name flags run of.spec.name none.1 names.0;
      kind = fixed_kind flags run of.spec.kind none.1 names.1;
      generation = parts.1;
      one = both.1;
    }) in
    let some : selects wanted rows ≡ true = it.reads refl in
    let one : length (selected wanted rows) ≡ 1 = grind (arith, nat_tests) in
    let meant = wanted_of flags.deleted (place_of state flags text at of.spec of.directory) in
    let alike = filter_agree (is_selected meant rows) (is_selected wanted rows)
    (selected_same meant wanted (seen_alike state flags text run at of.spec of.directory of.read names.0 names.1 says) refl refl rows) rows in
    subst (λ (place : Place). length (sources place state) ≡ 1) same
    (meant_count (place_of state flags text at of.spec of.directory) state
    ∙ ap (λ each. length (selected meant each)) (rows_meant state well of.directory it.within)
    ∙ ap length alike ∙ one)

trial_single : (state : State) → IsWellFormed state → (function : Function) (flags : Flags) (rest : List ℕ) (at : ℕ)
    (text : List ℕ) (value : Value) (looked end : ℕ) (place : Place) → reads_single function flags ≡ true
    → ((prefix_len is_file rest == length rest) ≡ false → SaysParts text at (run_text is_file rest))
    → trial (setting exec_graph (catalogue_of state) exec_meanings) function flags rest at ≡ Accept value looked end
    → place_by (catalogue_of state) flags text value ≡ Some place → length (sources place state) ≡ 1
unfolding trial
trial_single state well InFile flags rest at text value looked end place reads says is placed =
    let run = run_of is_file (file_of (catalogue_of state) In flags at) rest at value looked end is in
    file_single state well flags text (run_text is_file rest) at value place reads run.decided (says run.ends) placed
trial_single state well function flags rest at text value looked end place reads says is placed = cc

-- the flags under which a field was read are those of its block
flags_are : (state : State) (text : List ℕ) (field : FieldView)
    → (tried : IsTried (setting exec_graph (catalogue_of state) exec_meanings) text field)
    → flags_of exec_graph field ≡ tried.block.flags
flags_are state text field tried =
    ap (λ (node : Option Node). option_map_or (λ (block : Block). block.flags) (option_and_then (λ (node : Node). slice_get node.chain field.block) node) no_flags) tried.node_is
    ∙ ap (λ (block : Option Block). option_map_or (λ (block : Block). block.flags) block no_flags) tried.block_is

field_single : (state : State) → IsWellFormed state → (text : List ℕ) (field : FieldView) (place : Place)
    → IsOf (setting exec_graph (catalogue_of state) exec_meanings) text is_single field
    → place_by (catalogue_of state) (flags_of exec_graph field) (said_of exec_graph text field) field.value ≡ Some place
    → length (sources place state) ≡ 1
field_single state well text field place read placed =
    let tried = read.tried in
    let flags = flags_are state text field tried in
    let by_block : place_by (catalogue_of state) tried.block.flags (said_of exec_graph text field) field.value ≡ Some place =
    ap (λ (flags : Flags). place_by (catalogue_of state) flags (said_of exec_graph text field) field.value) (sym flags) ∙ placed in
    trial_single state well tried.block.function tried.block.flags (drop tried.at tried.said) tried.at (said_of exec_graph text field)
    field.value tried.looked tried.end place read.read (run_says (catalogue_of state) text field tried) tried.accepts by_block

one_of : (rows : List Row) → length rows ≡ 1 → (row : Row) × (rows ≡ row ∷ [])
one_of [] is = absurd (omega arith)
one_of (row ∷ []) is = (row, refl)
one_of (row ∷ other ∷ more) is = absurd (omega arith)

-- what a command says of files: TAKE means one
abbrev MeansOne : State → Command → Type 0
MeansOne state (commands.Take file) = (row : Row) × (sources file state ≡ row ∷ [])
MeansOne state command = Unit {0}

on_means : {A : Type 0} (state : State) (command : A → Command) (said : Option A)
    → ((it : A) → said ≡ Some it → MeansOne state (command it)) → MeansOne state (on command said)
on_means state command None means = tt
on_means state command (Some it) means = means it refl

between_means : (state : State) (command : Place → Place → Command) (from to : Option Place)
    → ((source target : Place) → MeansOne state (command source target)) → MeansOne state (between command from to)
between_means state command None None means = tt
between_means state command None (Some target) means = tt
between_means state command (Some source) None means = tt
between_means state command (Some source) (Some target) means = means source target

copies_means : (state : State) (line : Line) (from : Option FieldView) (to : Option Place) → MeansOne state (copies line from to)
copies_means state line None to = tt
copies_means state line (Some from) to =
    cond_both (is_token from.value) _ _ (MeansOne state) (λ token. on_means state commands.CopyTty to (λ place is. tt)) (λ files. between_means state commands.Copy (place_in line (Some from)) to (λ source target. tt))

-- the line that is in a session
abbrev line_over : State → List ℕ → List FieldView → Line
line_over state text fields = record { graph = exec_graph; catalogue = catalogue_of state; text = text; fields = fields }

takes_means : (state : State) → IsWellFormed state → (text : List ℕ) (fields : List FieldView) (ends : Ending) (verb : FieldView)
    → IsParse (setting exec_graph (catalogue_of state) exec_meanings) COMMANDS text fields ends
    → field_of roles.Verb fields ≡ Some verb → names_take (keyword_code verb.value) ≡ true
    → MeansOne state (on commands.Take (place_in (line_over state text fields) (field_of roles.Files fields)))
takes_means state well text fields ends verb parse verb_is named = by (field_of roles.Files fields) refl
  where
    by : (field : Option FieldView) → field_of roles.Files fields ≡ field
        → MeansOne state (on commands.Take (place_in (line_over state text fields) field))
    by None found = tt
    by (Some field) found =
        on_means state commands.Take _
        (λ place placed. one_of (sources place state)
        (field_single state well text field place
        (take_file (catalogue_of state) text fields ends verb field parse verb_is named found) placed))

named_means : (state : State) → IsWellFormed state → (text : List ℕ) (fields : List FieldView) (ends : Ending) (verb : FieldView)
    → IsParse (setting exec_graph (catalogue_of state) exec_meanings) COMMANDS text fields ends
    → field_of roles.Verb fields ≡ Some verb → MeansOne state (named (line_over state text fields) (keyword_code verb.value))
named_means state well text fields ends verb parse verb_is =
    choose APPEND _ _ (λ is. between_means state commands.Append _ _ (λ source target. tt))
    (choose BUILD _ _ (λ is. on_means state (λ directory. commands.Build directory None (has_subs (line_over state text fields))) _ (λ name is. tt))
    (choose CONNECT _ _ (λ is. on_means state commands.Connect _ (λ name is. tt))
    (choose COPY _ _ (λ is. copies_means state (line_over state text fields) _ _)
    (choose DEFINE _ _ (λ is. on_means state
    (λ name. commands.Define name (directory_in (line_over state text fields) (field_of roles.Files fields))) _ (λ name is. tt))
    (choose DELETE _ _ (λ is. on_means state commands.Delete _ (λ files is. tt))
    (choose DIRECTORY _ _ (λ is. tt)
    (choose EXPUNGE _ _ (λ is. tt)
    (choose INFORMATION _ _ (λ is. tt)
    (choose LOGOUT _ _ (λ is. tt)
    (choose PRINT _ _ (λ is. on_means state
    (λ files. commands.Print files (copies_in fields) (form_in fields) (after_in fields) (job_in (line_over state text fields))
    (note_in (line_over state text fields))) _ (λ files is. tt))
    (choose REMARK _ _ (λ is. tt)
    (choose RENAME _ _ (λ is. between_means state commands.Rename _ _ (λ source target. tt))
    (choose SET _ _ (λ is. on_means state (λ files. on (commands.Set files) (count_in (field_of roles.Value fields))) _
    (λ files is. on_means state (commands.Set files) _ (λ keep is. tt)))
    (choose TAKE _ _ (λ is. takes_means state well text fields ends verb parse verb_is is)
    (choose TYPE _ _ (λ is. on_means state commands.TypeOut _ (λ files is. tt))
    (choose UNDELETE _ _ (λ is. on_means state commands.Undelete _ (λ files is. tt)) tt))))))))))))))))
  where
    choose : (wanted : ℕ) (first later : Command) → ((keyword_code verb.value == wanted) ≡ true → MeansOne state first)
        → MeansOne state later → MeansOne state (if keyword_code verb.value == wanted then first else later)
    choose wanted first later means rest =
        cond_both (keyword_code verb.value == wanted) first later (MeansOne state) means (λ other. rest)

line_means : (state : State) → IsWellFormed state → (text : List ℕ) (fields : List FieldView) (ends : Ending)
    → IsParse (setting exec_graph (catalogue_of state) exec_meanings) COMMANDS text fields ends
    → MeansOne state (command_of (line_over state text fields))
unfolding command_of
line_means state well text fields ends parse = by (field_of roles.Verb fields) refl
  where
    by : (verb : Option FieldView) → field_of roles.Verb fields ≡ verb
        → MeansOne state (option_map_or (λ (verb : FieldView). named (line_over state text fields) (keyword_code verb.value)) verb commands.Empty)
    by None is = tt
    by (Some verb) is = named_means state well text fields ends verb parse is

pub line_takes_one : (state : State) → IsWellFormed state → (text : List ℕ) (fields : List FieldView) (ends : Ending) (file : Place)
    → IsParse (setting exec_graph (catalogue_of state) exec_meanings) COMMANDS text fields ends
    → command_of (line_over state text fields) ≡ commands.Take file → (row : Row) × (sources file state ≡ row ∷ [])
line_takes_one state well text fields ends file parse is = subst (MeansOne state) is (line_means state well text fields ends parse)
