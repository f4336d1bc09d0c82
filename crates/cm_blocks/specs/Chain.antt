-- What the chain of a node makes of a text from a place on, and what that costs (COMND's function blocks).
use Rattle.std.specs.Prelude.{ℕ, ◌+◌, ◌<◌, ◌≤◌, ◌==◌, ◌&&◌, max, Bool, true, false, not, if◌then◌else◌, List, [], ◌∷◌, length, drop, Option, Some, None, unwrap_or, slice_get}
use Rattle.cm_text.specs.Text.{finished}
use Rattle.cm_text.specs.declared.text.TheConstants.{TEXT_LIMIT}
use Rattle.cm_fields.specs.Code.{is_own}
use Rattle.cm_fields.specs.declared.code.Code.{Code}
use Rattle.cm_fields.specs.declared.code.Code.TheVariants.{NotConfirmed}
use Rattle.cm_fields.specs.declared.trial.Try.{Try}
use Rattle.cm_fields.specs.declared.trial.Try.TheVariants.{Accept, Refuse, More}
use Rattle.cm_fields.specs.declared.value.Value.{Value}
use Rattle.cm_fields.specs.declared.value.Value.TheVariants.{Confirm}
use Rattle.cm_fields.specs.Skip.{skip}
use Rattle.cm_blocks.specs.declared.chain.Walk.{Walk}
use Rattle.cm_blocks.specs.declared.chain.Walk.TheVariants.{Takes, Wants, Fails}
use Rattle.cm_blocks.specs.declared.field.Chain.{Chain}
use Rattle.cm_blocks.specs.declared.field.Chain.TheVariants as chain
use Rattle.cm_blocks.specs.declared.node.Block.{Block}
use Rattle.cm_blocks.specs.declared.node.Node.{Node}
use Rattle.cm_blocks.specs.Grammar.{Graph}
use Rattle.cm_blocks.specs.Setting.{Setting}
use Rattle.cm_blocks.specs.FieldView.{FieldView}
use Rattle.cm_blocks.specs.Trial.{looked_of, next_of, price, trial}

-- the later of two codes, unless the earlier alone is a reason of the program's own
abbrev pub later_code : Code → Code → Code
later_code before code = if is_own before && not (is_own code) then before else code

-- what a refusal makes of the code before it
abbrev pub code_of : Code → Try → Code
code_of before (Accept value looked end) = before
code_of before (Refuse code looked) = later_code before code
code_of before More = before

-- what the block of this number answers ends the walk, unless it refuses; so many bytes decide this and all
-- refusals before it
abbrev pub or_later : Graph → ℕ → ℕ → Block → Try → Walk → Walk
or_later graph number looked block (Accept value seen end) later =
    Takes number block.role (next_of graph block value) value looked end
or_later graph number looked block (Refuse code seen) later = later
or_later graph number looked block More later = Wants number

-- the first block that does not refuse, from a number on; where all refuse, the code of the last, or the last reason of
-- the program's own
abbrev pub walk : Setting → List ℕ → ℕ → ℕ → ℕ → Code → List Block → Walk
walk s rest at number looked code [] = Fails code
walk s rest at number looked code (block ∷ more) =
    let answer = trial s block.function block.flags rest at in
    let seen = max looked (looked_of (length rest) answer) in
    or_later s.graph number seen block answer (walk s rest at (number + 1) seen (code_of code answer) more)

-- what is taken was decided within a text
abbrev pub IsNear : Walk → Type 0
IsNear (Takes block role next value looked end) = looked ≤ TEXT_LIMIT
IsNear (Wants block) = Unit {0}
IsNear (Fails code) = Unit {0}

-- nothing after a block that does not refuse
abbrev pub or_stop : Try → ℕ → ℕ
or_stop (Accept value looked end) later = 0
or_stop (Refuse code looked) later = later
or_stop More later = 0

-- what the blocks cost that are tried: those up to the first that does not refuse, or all
abbrev pub spent : Setting → List ℕ → ℕ → List Block → ℕ
spent s rest at [] = 0
spent s rest at (block ∷ more) =
    price (length rest) (trial s block.function block.flags rest at)
    + or_stop (trial s block.function block.flags rest at) (spent s rest at more)

abbrev pub is_confirm : Value → Bool
is_confirm Confirm = true
is_confirm value = false

-- a field, or the end of the line; a field of the default is at its place with no bytes, and the end of the line
-- decides it
abbrev pub answered : Bool → ℕ → ℕ → Walk → Chain
answered on_default node start (Takes block role next value looked end) =
    if is_confirm value then chain.Done (if on_default then start else end)
    else chain.Field (record {
      node = node;
      block = block;
      value = value;
      start = start;
      end = if on_default then start else end;
      need = if on_default then start + 1 else start + looked;
      defaulted = on_default;
      role = role;
      next = next;
    })
answered on_default node start (Wants block) = chain.Open (record { node = node; block = Some block; at = start })
answered on_default node start (Fails code) = chain.Fault (record { code = code; node = node; at = start })

-- on the text
abbrev pub typed : ℕ → ℕ → Walk → Chain
typed = answered false

-- on the default
abbrev pub defaulted : ℕ → ℕ → Walk → Chain
defaulted = answered true

-- what a chain answers, and the bytes that its blocks looked at, with one for each block
pub record Counted : Type 0 where
  pub chain : Chain
  pub spent : ℕ

-- the blocks on the text
abbrev pub on_text : Setting → ℕ → Node → List ℕ → ℕ → Counted
on_text s number node rest start = record {
  chain = typed number start (walk s rest start 0 0 NotConfirmed node.chain);
  spent = spent s rest start node.chain;
}

-- the default, finished as a line of its own, past its blanks and comments
abbrev pub default_place : Bool → List ℕ → ℕ
default_place raw text = unwrap_or (skip raw (finished text) 0) 0

abbrev pub default_rest : Bool → List ℕ → List ℕ
default_rest raw text = drop (default_place raw text) (finished text)

-- [default] the blocks on the default
abbrev pub on_default : Setting → ℕ → Node → ℕ → List ℕ → Counted
on_default s number node start text = record {
  chain = defaulted number start
      (walk s (default_rest node.raw text) (default_place node.raw text) 0 0 NotConfirmed node.chain);
  spent = spent s (default_rest node.raw text) (default_place node.raw text) node.chain;
}

-- a carriage return is there
abbrev pub is_line_end : List ℕ → Bool
is_line_end [] = false
is_line_end (byte ∷ rest) = byte == 13

abbrev pub by_default : Setting → ℕ → Node → List ℕ → ℕ → Option (List ℕ) → Counted
by_default s number node rest start None = on_text s number node rest start
by_default s number node rest start (Some text) =
    if is_line_end rest then on_default s number node start text else on_text s number node rest start

-- past the blanks and comments; in a comment that is not ended the line is open
abbrev pub past_skip : Setting → ℕ → Node → List ℕ → ℕ → Option ℕ → Counted
past_skip s number node text at None =
    record { chain = chain.Open (record { node = number; block = None; at = at }); spent = 0 }
past_skip s number node text at (Some start) = by_default s number node (drop start text) start node.default

-- where there is no such node no block takes anything
abbrev pub at_node : Setting → ℕ → List ℕ → ℕ → Option Node → Counted
at_node s number text at None =
    record { chain = chain.Fault (record { code = NotConfirmed; node = number; at = at }); spent = 0 }
at_node s number text at (Some node) = past_skip s number node text at (skip node.raw text at)

-- what the chain of a node makes of a text from a place on
unfoldable pub chain_at : Setting → ℕ → List ℕ → ℕ → Counted
chain_at s number text at = at_node s number text at (slice_get s.graph.nodes number)

-- a field leads to a node of the grammar, lies after the place and in the text, and needs its own bytes
pub record Leads (nodes at size : ℕ) (field : FieldView) : Type 0 where
  pub next : field.next < nodes
  pub start : at ≤ field.start
  pub end : field.start ≤ field.end
  pub within : field.end ≤ size
  pub need : field.start < field.need
  pub covered : field.end ≤ field.need

abbrev pub ChainLeads : ℕ → ℕ → ℕ → Chain → Type 0
ChainLeads nodes at size (chain.Field field) = Leads nodes at size field
ChainLeads nodes at size (chain.Done place) = Unit {0}
ChainLeads nodes at size (chain.Fault fault) = Unit {0}
ChainLeads nodes at size (chain.Open open_at) = Unit {0}
