-- Defaults that their nodes do not take, whatever files there are and whatever fields of its own a program has.
use Rattle.std.specs.Prelude.{ℕ, Bool, true, false, not, ◌&&◌, List, Option}
use Rattle.std.specs.List.{list_all, position_from}
use Rattle.std.specs.Option.{option_map, option_map_or}
use Rattle.cm_fields.specs.declared.code.Code.TheVariants.{NotConfirmed}
use Rattle.cm_files.specs.OneDirectory.{no_files}
use Rattle.cm_hooks.specs.Meanings.{no_meanings}
use Rattle.cm_blocks.specs.declared.chain.Walk.{Walk}
use Rattle.cm_blocks.specs.declared.chain.Walk.TheVariants.{Takes, Wants, Fails}
use Rattle.cm_blocks.specs.declared.function.Function.{Function}
use Rattle.cm_blocks.specs.declared.function.Function.TheVariants.{User, Directory, InFile, OutFile, AnyFile, Hook}
use Rattle.cm_blocks.specs.declared.grammar.GrammarFault.{GrammarFault}
use Rattle.cm_blocks.specs.declared.grammar.GrammarFault.TheVariants.{BadDefault}
use Rattle.cm_blocks.specs.declared.node.Block.{Block}
use Rattle.cm_blocks.specs.declared.node.Node.{Node}
use Rattle.cm_blocks.specs.Chain.{default_place, default_rest, walk}
use Rattle.cm_blocks.specs.Fault.{grammar_fault, or_fault}
use Rattle.cm_blocks.specs.Grammar.{Graph}
use Rattle.cm_blocks.specs.Setting.{Setting, setting}

-- neither the catalogue nor what hooks mean decides what the function takes
abbrev pub is_plain : Function → Bool
is_plain User = false
is_plain Directory = false
is_plain InFile = false
is_plain OutFile = false
is_plain AnyFile = false
is_plain (Hook id) = false
is_plain function = true

abbrev pub is_plain_block : Block → Bool
is_plain_block block = is_plain block.function

-- the grammar where there is no file, and no hook takes anything
abbrev pub bare : Graph → Setting
bare graph = setting graph no_files no_meanings

-- a block accepts
abbrev pub is_takes : Walk → Bool
is_takes (Takes block role next value looked end) = true
is_takes (Wants block) = false
is_takes (Fails code) = false

-- the blocks of a node, in a setting, take this text as its default
abbrev pub takes_default : Setting → Node → List ℕ → Bool
takes_default s node text =
    is_takes (walk s (default_rest node.raw text) (default_place node.raw text) 0 0 NotConfirmed node.chain)

-- all blocks of the node are plain, and they do not take its default
abbrev pub has_bad_default : Graph → Node → Bool
has_bad_default graph node =
    list_all is_plain_block node.chain
    && option_map_or (λ (text : List ℕ). not (takes_default (bare graph) node text)) node.default false

-- [default-fault] the number of the first such node
unfoldable pub bad_default : Graph → Option ℕ
bad_default graph = position_from (has_bad_default graph) 0 graph.nodes

abbrev pub default_fault : Graph → Option GrammarFault
default_fault graph = option_map BadDefault (bad_default graph)

-- the first fault of all; that of a default comes last
abbrev pub first_fault : Graph → Option GrammarFault
first_fault graph = or_fault (grammar_fault graph) (default_fault graph)
