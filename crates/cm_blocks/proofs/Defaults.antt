-- [default] The defaults of nodes.
use Rattle.std.proofs.Common.{◌≡◌, ℕ, zero, suc, true, List, [], ◌∷◌, Option, None, Some, slice_get, ap, sym, ◌∙◌, arith}
use Rattle.std.specs.List.{list_all}
use Rattle.std.specs.Option.{option_map_or}
use Rattle.std.specs.Str.{IsAscii}
use Rattle.std.proofs.lemmas.Bool.{and_parts}
use Rattle.std.proofs.lemmas.Bool.Decides.{nat_tests}
use Rattle.cm_text.specs.Bytes.{is_shown, is_shown_byte}
use Rattle.cm_blocks.specs.declared.node.Node.{Node}
use Rattle.cm_blocks.specs.Fault.{grammar_fault}
use Rattle.cm_blocks.specs.Grammar.{Graph}
use Rattle.cm_blocks.proofs.Wells.{default_shown}

-- printing bytes are ASCII
shown_is_ascii : (text : List ℕ) → is_shown text ≡ true → IsAscii text
shown_is_ascii [] shown i = omega arith
shown_is_ascii (byte ∷ more) shown zero =
    let first = (and_parts (is_shown_byte byte) (list_all is_shown_byte more) shown).0 in grind (arith, nat_tests)
shown_is_ascii (byte ∷ more) shown (suc i) =
    shown_is_ascii more (and_parts (is_shown_byte byte) (list_all is_shown_byte more) shown).1 i

-- the default of a node is ASCII
pub default_is_ascii : (graph : Graph) (place : ℕ) (node : Node) (text : List ℕ) → grammar_fault graph ≡ None
    → slice_get graph.nodes place ≡ Some node → node.default ≡ Some text → IsAscii text
default_is_ascii graph place node text none found is =
    shown_is_ascii text (sym (ap (λ (default : Option (List ℕ)). option_map_or is_shown default true) is)
    ∙ default_shown graph place node none found)
