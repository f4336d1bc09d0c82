-- [completion] What the block that a line waits at completes whole is put in.
-- An outcome is a word by cases on what the block reads, with the outcome of its own trial as an argument. Each
-- function of insertion.rt ensures such a word.
use Rattle.std.proofs.Common.{◌≡◌, ℕ, suc, ◌+◌, ◌≤◌, true, false, ◌&&◌, nat_lt, nat_le, List, [], ◌∷◌, ◌++◌, length, drop, Option, Some, None, slice_get, refl, ap, ◌∙◌, arith, length-append}
use Rattle.std.proofs.lemmas.Bool.Decides.{nat_tests}
use Rattle.cm_lists.proofs.Elements.{drop_suc_of_some}
use Rattle.cm_text.specs.Text.{IsLine}
use Rattle.cm_text.specs.declared.text.TheConstants.{LINE_LIMIT}
use Rattle.cm_blocks.specs.declared.field.Ending.TheVariants as ending
use Rattle.cm_blocks.specs.declared.node.Block.{Block}
use Rattle.cm_blocks.specs.declared.node.Node.{Node}
use Rattle.cm_blocks.specs.FieldView.{FieldView}
use Rattle.cm_blocks.specs.Setting.{Setting}
use Rattle.cm_recognise.specs.declared.insertion.Insertion.{Insertion}
use Rattle.cm_recognise.specs.declared.insertion.Mode.{Mode}
use Rattle.cm_recognise.specs.declared.insertion.Mode.TheVariants as modes
use Rattle.cm_recognise.specs.declared.outcome.Outcome.{Outcome}
use Rattle.cm_recognise.specs.declared.outcome.Outcome.TheVariants.{Whole}
use Rattle.cm_recognise.specs.Insertion.{after, asked, at_block, default_put, first_put, fitted, insertion, is_asked, or_put, put_in}
use Rattle.cm_recognise.specs.Outcome.{outcome}
use Rattle.cm_recognise.specs.Sound.{Waits}
use Rattle.cm_recognise.proofs.Continuations.{chain_goes_on}

-- the blocks are asked, where the key finds no default
blocks_asked : (s : Setting) (fields : List FieldView) (mode : Mode) (node : Node) (b : ℕ) (atom : List ℕ) (at : ℕ)
    → (mode ≡ modes.Escape → default_put atom node.default ≡ None)
    → asked s fields mode node b atom at ≡ first_put s fields mode atom at (drop b node.chain)
blocks_asked s fields modes.Escape node b atom at no_default =
    ap (λ (put : Option Insertion). or_put put (first_put s fields modes.Escape atom at (drop b node.chain))) (no_default refl)
blocks_asked s fields modes.Part node b atom at no_default = refl

-- and the first of them puts in what completes its field whole
first_puts : (s : Setting) (fields : List FieldView) (mode : Mode) (block : Block) (more : List Block) (atom : List ℕ) (at : ℕ) (bytes : List ℕ)
    (next : ℕ) → is_asked mode block.function ≡ true → outcome s fields mode block atom at ≡ Whole bytes next
    → first_put s fields mode atom at (block ∷ more) ≡ Some (record { bytes = bytes ++ after s.graph next; bell = false })
first_puts s fields mode block more atom at bytes next asks is =
    rw asks (ap (λ (outcome : Outcome). or_put (put_in s.graph outcome) (first_put s fields mode atom at more)) is)

pub whole_is_put_in : (s : Setting) (fields : List FieldView) (line : List ℕ) → IsLine line → (number b at start : ℕ) (block : Block)
    → (waits : Waits s number b block line at start) → (mode : Mode) → is_asked mode block.function ≡ true
    → (mode ≡ modes.Escape → default_put (drop start line) waits.node.default ≡ None)
    → (bytes : List ℕ) (next : ℕ) → outcome s fields mode block (drop start line) start ≡ Whole bytes next
    → length line + length (bytes ++ after s.graph next) ≤ LINE_LIMIT
    → insertion s fields (ending.Open (record { node = number; block = Some b; at = start })) line mode
    ≡ record { bytes = bytes ++ after s.graph next; bell = false }
unfolding insertion
whole_is_put_in s fields line is_line number b at start block waits mode asks no_default bytes next is fits =
    let within = (chain_goes_on s number b block line [] at start is_line.plain tt waits).within in
    let size = length-append bytes (after s.graph next) in
    let room : (nat_lt (length line) LINE_LIMIT && nat_le start (length line)) ≡ true = grind (arith, nat_tests) in
    let most : nat_le (length line + length (bytes ++ after s.graph next)) LINE_LIMIT ≡ true = grind (arith, nat_tests) in
    let atom = drop start line in
    let put : at_block s fields mode line start (Some b) (slice_get s.graph.nodes number)
    ≡ Some (record { bytes = bytes ++ after s.graph next; bell = false }) =
    ap (at_block s fields mode line start (Some b)) waits.node_is ∙ blocks_asked s fields mode waits.node b atom start no_default
    ∙ ap (first_put s fields mode atom start) (drop_suc_of_some waits.node.chain b block waits.block_is)
    ∙ first_puts s fields mode block (drop (suc b) waits.node.chain) atom start bytes next asks is in
    rw room (ap (fitted (length line)) put ∙ rw most refl)
