-- What a line commands that begins as the lines that are generated do: neither LOGOUT nor TAKE.
use Rattle.std.proofs.Common.{◌≡◌, ℕ, ◌==◌, Bool, true, false, cond, not, List, [], ◌∷◌, ◌++◌, Option, Some, None, refl, ap, ◌∙◌}
use Rattle.std.specs.Option.{option_map_or}
use Rattle.std.proofs.lemmas.Bool.{and_parts}
use Rattle.cm_files.specs.Catalogue.{Catalogue}
use Rattle.cm_blocks.specs.declared.field.Ending.{Ending}
use Rattle.cm_blocks.specs.declared.function.Role.{Role}
use Rattle.cm_blocks.specs.declared.function.Role.TheVariants as roles
use Rattle.cm_blocks.specs.FieldView.{FieldView}
use Rattle.cm_blocks.specs.Parse.{IsParse}
use Rattle.cm_blocks.specs.Setting.{setting}
use Rattle.cm_state.specs.Roles.{field_of, is_role}
use Rattle.ex_grammar.specs.ExecRules.{exec_meanings}
use Rattle.ex_grammar.specs.Graph.{exec_graph}
use Rattle.ex_grammar.specs.declared.code.TheConstants.{APPEND, BUILD, CONNECT, COPY, DEFINE, DELETE, DIRECTORY, EXPUNGE, INFORMATION, LOGOUT, PRINT, REMARK, RENAME, SET, TAKE, TYPE, UNDELETE}
use Rattle.ex_grammar.specs.declared.node.TheConstants.{COMMANDS}
use Rattle.ex_store.specs.declared.place.Place.{Place}
use Rattle.ex_commands.specs.Command.{command_of, named}
use Rattle.ex_commands.specs.Commands.Copy.{copies, is_token}
use Rattle.ex_commands.specs.Commands.Print.{after_in, copies_in, form_in, job_in, note_in}
use Rattle.ex_commands.specs.Line.{Line, between, both, count_in, directory_in, has_subs, keyword_code, on}
use Rattle.ex_commands.specs.declared.command.Command.{Command}
use Rattle.ex_commands.specs.declared.command.Command.TheVariants as commands
use Rattle.ex_program.proofs.Fronts.{Front, first_verb, is_harmless, letters}

abbrev pub is_safe : Command → Bool
is_safe commands.Logout = false
is_safe (commands.Take file) = false
is_safe command = true

choose : (test : Bool) (first later : Command) → is_safe first ≡ true → is_safe later ≡ true → is_safe (cond test first later) ≡ true
choose true first later one other = one
choose false first later one other = other

pass : (test : Bool) (first later : Command) → not test ≡ true → is_safe later ≡ true → is_safe (cond test first later) ≡ true
pass true first later none other = absurd (cc)
pass false first later none other = other

on_safe : {A : Type 0} (command : A → Command) (said : Option A) → ((it : A) → is_safe (command it) ≡ true) → is_safe (on command said) ≡ true
on_safe command None each = refl
on_safe command (Some it) each = each it

between_safe : (command : Place → Place → Command) (from to : Option Place) → ((a b : Place) → is_safe (command a b) ≡ true)
    → is_safe (between command from to) ≡ true
between_safe command from to each = on_safe (λ (files : Place × Place). command files.0 files.1) (both from to) (λ files. each files.0 files.1)

copies_safe : (line : Line) (from : Option FieldView) (to : Option Place) → is_safe (copies line from to) ≡ true
copies_safe line None to = refl
copies_safe line (Some from) to =
    choose (is_token from.value) _ _ (on_safe commands.CopyTty to (λ it. refl)) (between_safe commands.Copy _ to (λ a b. refl))

named_safe : (line : Line) (code : ℕ) → is_harmless code ≡ true → is_safe (named line code) ≡ true
named_safe line code harmless =
    let both = and_parts (not (code == LOGOUT)) (not (code == TAKE)) harmless in
    choose (code == APPEND) _ _ (between_safe commands.Append _ _ (λ a b. refl))
    (choose (code == BUILD) _ _ (on_safe (λ directory. commands.Build directory None (has_subs line)) _ (λ it. refl))
    (choose (code == CONNECT) _ _ (on_safe commands.Connect _ (λ it. refl))
    (choose (code == COPY) _ _ (copies_safe line _ _)
    (choose (code == DEFINE) _ _
    (on_safe (λ name. commands.Define name (directory_in line (field_of roles.Files line.fields))) _ (λ it. refl))
    (choose (code == DELETE) _ _ (on_safe commands.Delete _ (λ it. refl))
    (choose (code == DIRECTORY) _ _ refl
    (choose (code == EXPUNGE) _ _ refl
    (choose (code == INFORMATION) _ _ refl
    (pass (code == LOGOUT) _ _ both.0
    (choose (code == PRINT) _ _
    (on_safe (λ files. commands.Print files (copies_in line.fields) (form_in line.fields) (after_in line.fields) (job_in line) (note_in line)) _ (λ it. refl))
    (choose (code == REMARK) _ _ refl
    (choose (code == RENAME) _ _ (between_safe commands.Rename _ _ (λ a b. refl))
    (choose (code == SET) _ _
    (on_safe (λ files. on (commands.Set files) (count_in (field_of roles.Value line.fields))) _ (λ files. on_safe (commands.Set files) _ (λ it. refl)))
    (pass (code == TAKE) _ _ both.1
    (choose (code == TYPE) _ _ (on_safe commands.TypeOut _ (λ it. refl))
    (choose (code == UNDELETE) _ _ (on_safe commands.Undelete _ (λ it. refl)) refl))))))))))))))))

-- so it is of such a line
pub line_safe : (c : Catalogue) (f : Front) (rest : List ℕ) (line : Line) (ends : Ending)
    → IsParse (setting exec_graph c exec_meanings) COMMANDS (letters f ++ rest) line.fields ends → is_safe (command_of line) ≡ true
unfolding command_of
line_safe c f rest line ends parse = by line.fields parse where
  by : (fields : List FieldView) → IsParse (setting exec_graph c exec_meanings) COMMANDS (letters f ++ rest) fields ends
      → is_safe (option_map_or (λ (verb : FieldView). named line (keyword_code verb.value)) (field_of roles.Verb fields) commands.Empty) ≡ true
  by [] parse = refl
  by (first ∷ more) parse =
      let verb = first_verb c f rest first parse.follow.0 in
      let found : field_of roles.Verb (first ∷ more) ≡ Some first
      = ap (λ (role : Role). cond (is_role roles.Verb role) (Some first) (field_of roles.Verb more)) verb.role in
      ap (λ (it : Option FieldView). is_safe (option_map_or (λ (verb : FieldView). named line (keyword_code verb.value)) it commands.Empty)) found
      ∙ named_safe line (keyword_code first.value) verb.harmless
