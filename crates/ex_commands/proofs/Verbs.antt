-- What is after the keywords of some commands: by which blocks the fields of a role are read there.
-- A law of some verbs is a Branch of cm_state, an instance for each.
use Rattle.std.proofs.Common.{◌≡◌, ℕ, ◌||◌, ◌==◌, Bool, true, not, List, Some, refl}
use Rattle.cm_files.specs.Catalogue.{Catalogue}
use Rattle.cm_blocks.specs.declared.field.Ending.{Ending}
use Rattle.cm_blocks.specs.declared.function.Role.TheVariants as roles
use Rattle.cm_blocks.specs.declared.node.Block.{Block}
use Rattle.cm_blocks.specs.FieldView.{FieldView}
use Rattle.cm_blocks.specs.Parse.{IsParse}
use Rattle.cm_blocks.specs.Setting.{setting}
use Rattle.cm_state.specs.Roles.{field_of}
use Rattle.cm_state.proofs.Branches.{Begins, Branch, IsBranch, IsOf}
use Rattle.cm_state.proofs.Ways.{after_verb}
use Rattle.ex_grammar.specs.ExecRules.{exec_meanings}
use Rattle.ex_grammar.specs.Graph.{append_blocks, build_blocks, define_blocks, delete_blocks, directory_nodes, exec_graph, exec_nodes, first_nodes, last_nodes, listing_nodes, print_blocks, retention_nodes, set_blocks, source_nodes, switch_blocks, target_blocks, type_blocks}
use Rattle.ex_grammar.specs.Tables.{build_entries, command_entries, directory_entries, exec_tables, file_entries, set_entries, switch_entries, topic_entries}
use Rattle.cm_tables.specs.Order.{table_fault}
use Rattle.ex_grammar.specs.Words.{confirm, either, keyword}
use Rattle.ex_grammar.specs.declared.code.TheConstants.{APPEND, CONNECT, COPY, DEFINE, EXPUNGE, RENAME, TAKE}
use Rattle.ex_grammar.specs.declared.node.TheConstants.{COMMANDS}
use Rattle.ex_commands.specs.Line.{keyword_code}
use Rattle.ex_commands.proofs.Fits.{reads_made, reads_one, reads_single}

-- the table of the commands
abbrev pub command_table : ℕ
command_table = 0

-- a line begins with a command
pub begins : Begins exec_graph COMMANDS command_table
unfolding exec_graph exec_nodes first_nodes source_nodes target_blocks append_blocks delete_blocks type_blocks listing_nodes define_blocks build_blocks last_nodes print_blocks switch_blocks directory_nodes retention_nodes set_blocks exec_tables command_entries topic_entries directory_entries build_entries switch_entries set_entries file_entries table_fault
begins = record {
  end = confirm;
  keyword = keyword command_table roles.Verb;
  node = either confirm (keyword command_table roles.Verb);
  node_is = refl;
  chain_is = refl;
  end_function = refl;
  end_role = refl;
  key_function = refl;
  key_role = refl;
  one_verb = refl;
}

-- after such a command the field of the role is read by such a block
after : (c : Catalogue) (text : List ℕ) (branch : Branch) → IsBranch exec_graph command_table branch → (fields : List FieldView)
    (ends : Ending) (verb field : FieldView) → IsParse (setting exec_graph c exec_meanings) COMMANDS text fields ends
    → field_of roles.Verb fields ≡ Some verb → branch.names (keyword_code verb.value) ≡ true
    → field_of branch.role fields ≡ Some field → IsOf (setting exec_graph c exec_meanings) text branch.reads field
after c text =
    after_verb (setting exec_graph c exec_meanings) COMMANDS command_table begins keyword_code (λ place number. refl) text

-- CONNECT, EXPUNGE and DEFINE: a directory that is there
abbrev pub names_old : ℕ → Bool
names_old code = code == CONNECT || code == EXPUNGE || code == DEFINE

abbrev pub is_old : Block → Bool
is_old block = not block.flags.new

abbrev old_branch : Branch
old_branch = record {
  names = names_old;
  inside = λ (node : ℕ).
      node == 5 || node == 17 || node == 18 || node == 28 || node == 29 || node == 30 || node == 31 || node == 32 || node == 35
      || node == 36;
  role = roles.Files;
  reads = is_old;
}

old_is : IsBranch exec_graph command_table old_branch
unfolding exec_graph exec_nodes first_nodes source_nodes target_blocks append_blocks delete_blocks type_blocks listing_nodes define_blocks build_blocks last_nodes print_blocks switch_blocks directory_nodes retention_nodes set_blocks exec_tables command_entries topic_entries directory_entries build_entries switch_entries
old_is = record { none = refl; nodes = refl; commands = refl; other = refl }

pub old_directory : (c : Catalogue) (text : List ℕ) (fields : List FieldView) (ends : Ending) (verb field : FieldView)
    → IsParse (setting exec_graph c exec_meanings) COMMANDS text fields ends → field_of roles.Verb fields ≡ Some verb
    → names_old (keyword_code verb.value) ≡ true → field_of roles.Files fields ≡ Some field → IsOf (setting exec_graph c exec_meanings) text is_old field
old_directory c text = after c text old_branch old_is

-- COPY and RENAME: files that are made
abbrev pub names_made : ℕ → Bool
names_made code = code == COPY || code == RENAME

abbrev pub is_made : Block → Bool
is_made block = reads_made block.function

abbrev made_branch : Branch
made_branch = record {
  names = names_made;
  inside = λ (node : ℕ).
      node == 1 || node == 2 || node == 3 || node == 4 || node == 5 || node == 10 || node == 11 || node == 12;
  role = roles.Target;
  reads = is_made;
}

made_is : IsBranch exec_graph command_table made_branch
unfolding exec_graph exec_nodes first_nodes source_nodes target_blocks append_blocks delete_blocks type_blocks listing_nodes define_blocks build_blocks last_nodes print_blocks switch_blocks directory_nodes retention_nodes set_blocks exec_tables command_entries topic_entries directory_entries build_entries switch_entries
made_is = record { none = refl; nodes = refl; commands = refl; other = refl }

pub made_target : (c : Catalogue) (text : List ℕ) (fields : List FieldView) (ends : Ending) (verb field : FieldView)
    → IsParse (setting exec_graph c exec_meanings) COMMANDS text fields ends → field_of roles.Verb fields ≡ Some verb
    → names_made (keyword_code verb.value) ≡ true → field_of roles.Target fields ≡ Some field
    → IsOf (setting exec_graph c exec_meanings) text is_made field
made_target c text = after c text made_branch made_is

-- APPEND: one file
abbrev pub names_grown : ℕ → Bool
names_grown code = code == APPEND

abbrev pub is_one : Block → Bool
is_one block = reads_one block.function block.flags

abbrev grown_branch : Branch
grown_branch = record {
  names = names_grown;
  inside = λ (node : ℕ). node == 5 || node == 6 || node == 7 || node == 8 || node == 9;
  role = roles.Target;
  reads = is_one;
}

grown_is : IsBranch exec_graph command_table grown_branch
unfolding exec_graph exec_nodes first_nodes source_nodes target_blocks append_blocks delete_blocks type_blocks listing_nodes define_blocks build_blocks last_nodes print_blocks switch_blocks directory_nodes retention_nodes set_blocks exec_tables command_entries topic_entries directory_entries build_entries switch_entries
grown_is = record { none = refl; nodes = refl; commands = refl; other = refl }

pub grown_target : (c : Catalogue) (text : List ℕ) (fields : List FieldView) (ends : Ending) (verb field : FieldView)
    → IsParse (setting exec_graph c exec_meanings) COMMANDS text fields ends → field_of roles.Verb fields ≡ Some verb
    → names_grown (keyword_code verb.value) ≡ true → field_of roles.Target fields ≡ Some field
    → IsOf (setting exec_graph c exec_meanings) text is_one field
grown_target c text = after c text grown_branch grown_is

-- TAKE: one file that is there
abbrev pub names_take : ℕ → Bool
names_take code = code == TAKE

abbrev pub is_single : Block → Bool
is_single block = reads_single block.function block.flags

abbrev take_branch : Branch
take_branch = record {
  names = names_take;
  inside = λ (node : ℕ). node == 5 || node == 21 || node == 22;
  role = roles.Files;
  reads = is_single;
}

take_is : IsBranch exec_graph command_table take_branch
unfolding exec_graph exec_nodes first_nodes source_nodes target_blocks append_blocks delete_blocks type_blocks listing_nodes define_blocks build_blocks last_nodes print_blocks switch_blocks directory_nodes retention_nodes set_blocks exec_tables command_entries topic_entries directory_entries build_entries switch_entries
take_is = record { none = refl; nodes = refl; commands = refl; other = refl }

pub take_file : (c : Catalogue) (text : List ℕ) (fields : List FieldView) (ends : Ending) (verb field : FieldView)
    → IsParse (setting exec_graph c exec_meanings) COMMANDS text fields ends → field_of roles.Verb fields ≡ Some verb
    → names_take (keyword_code verb.value) ≡ true → field_of roles.Files fields ≡ Some field
    → IsOf (setting exec_graph c exec_meanings) text is_single field
take_file c text = after c text take_branch take_is
