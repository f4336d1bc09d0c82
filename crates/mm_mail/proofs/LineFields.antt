-- What the fields of a line of mail can be: its number is one that a message may have, and its receiver is there.
use Rattle.std.proofs.Common.{◌≡◌, ℕ, ◌<◌, ◌≤◌, ◌||◌, ◌&&◌, ◌==◌, nat_le, nat_lt, Bool, true, false, if◌then◌else◌, List, [], ◌∷◌, drop, length, take, Option, Some, None, option_map, Ok, Err, refl, ap, sym, subst, ◌∙◌, arith}
use Rattle.std.specs.Char.{is_ascii_digit}
use Rattle.std.specs.List.{list_all, prefix_len}
use Rattle.std.specs.Str.Parse.{digits_value}
use Rattle.std.proofs.lemmas.Bool.{and_parts, cond_both}
use Rattle.std.proofs.lemmas.Bool.Decides.{nat_tests}
use Rattle.cm_text.specs.Bytes.{is_name}
use Rattle.cm_tables.specs.Order.{table_fault}
use Rattle.cm_fields.specs.declared.code.Code.TheVariants.{NoField}
use Rattle.cm_fields.specs.declared.trial.Try.TheVariants.{Accept}
use Rattle.cm_fields.specs.declared.value.Value.{Value}
use Rattle.cm_fields.specs.declared.value.Value.TheVariants as values
use Rattle.cm_files.specs.declared.flags.Flags.{Flags}
use Rattle.cm_files.specs.Catalogue.{Catalogue}
use Rattle.cm_files.specs.Fields.{has_colon_after, is_plain_path, user_of}
use Rattle.cm_hooks.specs.declared.answer.Answer.{Answer}
use Rattle.cm_hooks.specs.declared.answer.Answer.TheVariants.{No, NoBecause, Yes}
use Rattle.cm_hooks.specs.Field.{hook_of, judged}
use Rattle.cm_blocks.specs.declared.field.Ending.TheVariants as ending
use Rattle.cm_blocks.specs.declared.function.Function.{Function}
use Rattle.cm_blocks.specs.declared.function.Function.TheVariants as functions
use Rattle.cm_blocks.specs.declared.function.Role.TheVariants as roles
use Rattle.cm_blocks.specs.declared.node.Block.{Block}
use Rattle.cm_blocks.specs.FieldView.{FieldView}
use Rattle.cm_blocks.specs.Parse.{IsParse}
use Rattle.cm_blocks.specs.Setting.{Setting, setting}
use Rattle.cm_blocks.specs.Trial.{trial}
use Rattle.cm_blocks.specs.Words.{block, confirm, node}
use Rattle.cm_blocks.proofs.Places.{run_of, user_says}
use Rattle.cm_state.specs.Roles.{field_of}
use Rattle.cm_state.specs.SessionState.{SessionState, text_of}
use Rattle.cm_state.proofs.Branches.{Begins, Branch, IsBranch, IsOf}
use Rattle.cm_state.proofs.Ways.{after_verb}
use Rattle.ex_commands.specs.Line.{keyword_code}
use Rattle.ex_commands.proofs.Resolutions.{state_has, user_within}
use Rattle.ex_store.specs.State.{State, catalogue_of}
use Rattle.mm_mail.specs.Command.{MayAct, by_verb, command_of, named, number_by, on, receiver_by, subject_in}
use Rattle.mm_mail.specs.Graph.{blocks, command_entries, mail_graph, mail_nodes}
use Rattle.mm_mail.specs.MailRules.{mail_meanings, mail_verdict}
use Rattle.mm_mail.specs.declared.command.Command.{Command}
use Rattle.mm_mail.specs.declared.command.Command.TheVariants as commands
use Rattle.mm_mail.specs.declared.grammar.TheConstants.{COMMANDS, DELETE, HEADERS, LINE_END, QUIT, READ, SEND}
use Rattle.mm_mail.specs.declared.message_name.TheConstants.{MOST_MESSAGES}

-- a line begins with a command
begins : Begins mail_graph COMMANDS 0
unfolding mail_graph mail_nodes blocks command_entries table_fault
begins = record {
  end = confirm LINE_END;
  keyword = block (functions.Key 0) roles.Verb LINE_END;
  node = node (confirm LINE_END ∷ block (functions.Key 0) roles.Verb LINE_END ∷ []);
  node_is = refl;
  chain_is = refl;
  end_function = refl;
  end_role = refl;
  key_function = refl;
  key_role = refl;
  one_verb = refl;
}

-- after DELETE and READ the value is read by the hook, and after SEND a user is read
abbrev reads_number : Function → Bool
reads_number (functions.Hook rule) = true
reads_number function = false

abbrev reads_user : Function → Bool
reads_user functions.User = true
reads_user function = false

abbrev number_branch : Branch
number_branch = record {
  names = λ (code : ℕ). code == DELETE || code == READ;
  inside = λ (node : ℕ). node == 1 || node == 2 || node == 5;
  role = roles.Value;
  reads = λ (block : Block). reads_number block.function;
}

abbrev user_branch : Branch
user_branch = record {
  names = λ (code : ℕ). code == SEND;
  inside = λ (node : ℕ). node == 3 || node == 4 || node == 5 || node == 6 || node == 7;
  role = roles.Files;
  reads = λ (block : Block). reads_user block.function;
}

number_is : IsBranch mail_graph 0 number_branch
unfolding mail_graph mail_nodes blocks command_entries
number_is = record { none = refl; nodes = refl; commands = refl; other = refl }

user_is : IsBranch mail_graph 0 user_branch
unfolding mail_graph mail_nodes blocks command_entries
user_is = record { none = refl; nodes = refl; commands = refl; other = refl }

-- what a value is: a number that a message may have, and a directory of the catalogue
abbrev IsFew : Value → Type 0
IsFew (values.Hook id number) = number ≤ MOST_MESSAGES
IsFew value = Unit {0}

abbrev IsUser : Catalogue → Value → Type 0
IsUser c (values.User directory) = directory < length c.directories
IsUser c value = Unit {0}

abbrev FewIfYes : Answer → Type 0
FewIfYes (Yes number) = number ≤ MOST_MESSAGES
FewIfYes No = Unit {0}
FewIfYes (NoBecause reason) = Unit {0}

verdict_few : (atom : List ℕ) → FewIfYes (mail_verdict atom)
unfolding mail_verdict
verdict_few atom =
    cond_both (list_all is_ascii_digit atom && nat_lt 0 (digits_value 10 atom) && nat_le (digits_value 10 atom) MOST_MESSAGES)
    (Yes (digits_value 10 atom)) No FewIfYes
    (λ is. let last = (and_parts _ (nat_le (digits_value 10 atom) MOST_MESSAGES) is).1 in grind (arith, nat_tests)) (λ other. tt)

judged_few : (id : ℕ) (answer : Answer) (value : Value) → FewIfYes answer → judged id answer ≡ Ok value → IsFew value
judged_few id (Yes number) value few is = let same : values.Hook id number ≡ value = cc in subst IsFew same few
judged_few id No value few is = cc
judged_few id (NoBecause reason) value few is = cc

hook_few : (id : ℕ) (run : List ℕ) (value : Value) → hook_of (λ id atom. mail_verdict atom) id run ≡ Ok value → IsFew value
unfolding hook_of
hook_few id run value is = by (length run == 0) is
  where
    by : (none : Bool) → (if none then Err NoField else judged id (mail_verdict run)) ≡ Ok value → IsFew value
    by true is = cc
    by false is = judged_few id (mail_verdict run) value (verdict_few run) is

number_value : (c : Catalogue) (function : Function) (flags : Flags) (rest : List ℕ) (at : ℕ) (value : Value) (looked end : ℕ)
    → reads_number function ≡ true → trial (setting mail_graph c mail_meanings) function flags rest at ≡ Accept value looked end
    → IsFew value
unfolding trial
number_value c (functions.Hook id) flags rest at value looked end reads is =
    let run = run_of is_name (hook_of (λ id atom. mail_verdict atom) id) rest at value looked end is in
    hook_few id (take (prefix_len is_name rest) rest) value run.decided
number_value c function flags rest at value looked end reads is = cc

user_value : (c : Catalogue) (function : Function) (flags : Flags) (rest : List ℕ) (at : ℕ) (value : Value) (looked end : ℕ)
    → reads_user function ≡ true → trial (setting mail_graph c mail_meanings) function flags rest at ≡ Accept value looked end
    → IsUser c value
unfolding trial
user_value c functions.User flags rest at value looked end reads is =
    let run = run_of is_plain_path (user_of c (has_colon_after rest)) rest at value looked end is in
    let it = user_says c (has_colon_after rest) (take (prefix_len is_plain_path rest) rest) value run.decided in
    subst (IsUser c) (sym it.2) (user_within c (take (prefix_len is_plain_path rest) rest) it.0 it.1)
user_value c function flags rest at value looked end reads is = cc

-- the line that a session holds
module _ (state : State) (session : SessionState)
    (parse : IsParse (setting mail_graph (catalogue_of state) mail_meanings) COMMANDS (text_of session) session.fields ending.Done) where
  abbrev s : Setting
  s = setting mail_graph (catalogue_of state) mail_meanings

  after : (branch : Branch) → IsBranch mail_graph 0 branch → (verb field : FieldView) → field_of roles.Verb session.fields ≡ Some verb
      → branch.names (keyword_code verb.value) ≡ true → field_of branch.role session.fields ≡ Some field
      → IsOf s (text_of session) branch.reads field
  after branch is verb field =
      after_verb s COMMANDS 0 begins keyword_code (λ place number. refl) (text_of session) branch is session.fields ending.Done verb field parse

  few : (verb field : FieldView) → field_of roles.Verb session.fields ≡ Some verb → number_branch.names (keyword_code verb.value) ≡ true
      → field_of roles.Value session.fields ≡ Some field → IsFew field.value
  few verb field verb_is names is =
      let of = after number_branch number_is verb field verb_is names is in
      number_value (catalogue_of state) of.tried.block.function of.tried.block.flags (drop of.tried.at of.tried.said) of.tried.at field.value
      of.tried.looked of.tried.end of.read of.tried.accepts

  user : (verb field : FieldView) → field_of roles.Verb session.fields ≡ Some verb → user_branch.names (keyword_code verb.value) ≡ true
      → field_of roles.Files session.fields ≡ Some field → IsUser (catalogue_of state) field.value
  user verb field verb_is names is =
      let of = after user_branch user_is verb field verb_is names is in
      user_value (catalogue_of state) of.tried.block.function of.tried.block.flags (drop of.tried.at of.tried.said) of.tried.at field.value
      of.tried.looked of.tried.end of.read of.tried.accepts

  -- a command on a number
  number_may : (command : ℕ → Command) → ((number : ℕ) → number ≤ MOST_MESSAGES → MayAct (command number) state) → (value : Value)
      → IsFew value → MayAct (on command (number_by (Some value))) state
  number_may command may (values.Hook id number) few = may number few
  number_may command may value few = tt

  numbered_may : (command : ℕ → Command) → ((number : ℕ) → number ≤ MOST_MESSAGES → MayAct (command number) state) → (verb : FieldView)
      → field_of roles.Verb session.fields ≡ Some verb → number_branch.names (keyword_code verb.value) ≡ true
      → (found : Option FieldView) → field_of roles.Value session.fields ≡ found
      → MayAct (on command (number_by (option_map (λ (field : FieldView). field.value) found))) state
  numbered_may command may verb verb_is names None is = tt
  numbered_may command may verb verb_is names (Some field) is = number_may command may field.value (few verb field verb_is names is)

  -- and one on a receiver
  user_may : (value : Value) → IsUser (catalogue_of state) value
      → MayAct (on (λ (receiver : List ℕ). commands.Send receiver (subject_in session)) (receiver_by (catalogue_of state) (Some value))) state
  user_may (values.User directory) within = state_has state directory within
  user_may value within = tt

  sent_may : (verb : FieldView) → field_of roles.Verb session.fields ≡ Some verb → user_branch.names (keyword_code verb.value) ≡ true
      → (found : Option FieldView) → field_of roles.Files session.fields ≡ found
      → MayAct (on (λ (receiver : List ℕ). commands.Send receiver (subject_in session))
      (receiver_by (catalogue_of state) (option_map (λ (field : FieldView). field.value) found))) state
  sent_may verb verb_is names None is = tt
  sent_may verb verb_is names (Some field) is = user_may field.value (user verb field verb_is names is)

  -- by the keyword
  named_may : (verb : FieldView) → field_of roles.Verb session.fields ≡ Some verb → (code : ℕ) → keyword_code verb.value ≡ code
      → MayAct (named code (catalogue_of state) session) state
  named_may verb verb_is code same =
      let P : Command → Type 0 = λ command. MayAct command state in
      cond_both (code == DELETE) _ _ P
      (λ is. numbered_may commands.Delete (λ number few. few) verb verb_is (rw (same, is) refl) _ refl)
      (λ other. cond_both (code == HEADERS) _ _ P (λ is. tt)
      (λ other. cond_both (code == QUIT) _ _ P (λ is. tt)
      (λ other. cond_both (code == READ) _ _ P
      (λ is. numbered_may commands.Read (λ number few. few) verb verb_is (reads_named code is verb same) _ refl)
      (λ other. cond_both (code == SEND) _ _ P (λ is. sent_may verb verb_is (rw (same, is) refl) _ refl) (λ other. tt)))))
    where
      reads_named : (code : ℕ) → (code == READ) ≡ true → (verb : FieldView) → keyword_code verb.value ≡ code
          → number_branch.names (keyword_code verb.value) ≡ true
      reads_named code is verb same =
          let read : code ≡ READ = grind (arith, nat_tests, is) in
          ap (λ (it : ℕ). number_branch.names it) (same ∙ read)

  verb_may : (verb : FieldView) → field_of roles.Verb session.fields ≡ Some verb → (value : Value) → verb.value ≡ value
      → MayAct (by_verb (Some value) (catalogue_of state) session) state
  verb_may verb verb_is (values.Key entry code) same = named_may verb verb_is code (ap keyword_code same)
  verb_may verb verb_is value same = tt

  pub line_may : MayAct (command_of (catalogue_of state) session) state
  line_may = by (field_of roles.Verb session.fields) refl
    where
      by : (found : Option FieldView) → field_of roles.Verb session.fields ≡ found
          → MayAct (by_verb (option_map (λ (field : FieldView). field.value) found) (catalogue_of state) session) state
      by None is = tt
      by (Some verb) is = verb_may verb is verb.value refl
