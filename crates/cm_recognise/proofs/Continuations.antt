-- A line that waits at a block goes on with a field of it, where the function of the block takes what is put in.
use Rattle.std.proofs.Common.{◌≡◌, ℕ, zero, suc, ◌+◌, ◌≤◌, max, Bool, true, false, if◌then◌else◌, List, [], ◌∷◌, ◌++◌, length, drop, Option, Some, None, slice_get, refl, ap, sym, subst, ◌∙◌, arith}
use Rattle.std.proofs.lemmas.Bool.Decides.{nat_tests}
use Rattle.std.proofs.lemmas.List.{drop-append-le}
use Rattle.cm_text.specs.Bytes.{is_line_byte, is_text}
use Rattle.cm_fields.specs.declared.code.Code.{Code}
use Rattle.cm_fields.specs.declared.code.Code.TheVariants.{NotConfirmed}
use Rattle.cm_fields.specs.declared.trial.Try.{Try}
use Rattle.cm_fields.specs.declared.trial.Try.TheVariants.{Accept, Refuse, More}
use Rattle.cm_fields.specs.declared.value.Value.{Value}
use Rattle.cm_fields.specs.Local.{Stays}
use Rattle.cm_fields.specs.BeforeField.{BeginsOther}
use Rattle.cm_fields.specs.Skip.{skip}
use Rattle.cm_fields.proofs.FieldStarts.{skip_goes_on}
use Rattle.cm_fields.proofs.Skips.{skip_within}
use Rattle.cm_blocks.specs.declared.chain.Walk.{Walk}
use Rattle.cm_blocks.specs.declared.chain.Walk.TheVariants.{Takes, Wants, Fails}
use Rattle.cm_blocks.specs.declared.field.Chain.{Chain}
use Rattle.cm_blocks.specs.declared.field.Chain.TheVariants as chain
use Rattle.cm_blocks.specs.declared.field.Open.{Open}
use Rattle.cm_blocks.specs.declared.node.Block.{Block}
use Rattle.cm_blocks.specs.declared.node.Node.{Node}
use Rattle.cm_blocks.specs.Chain.{Counted, at_node, by_default, chain_at, code_of, is_confirm, is_line_end, later_code, on_text, or_later, past_skip, typed, walk}
use Rattle.cm_blocks.specs.Setting.{Setting}
use Rattle.cm_blocks.specs.Trial.{looked_of, next_of, trial}
use Rattle.cm_blocks.proofs.Needs.{walk_step}
use Rattle.cm_blocks.proofs.Trials.{trial_is_local}
use Rattle.cm_recognise.specs.Sound.{TakesField, Waits}
use Rattle.cm_recognise.proofs.Texts.{AreLineBytes, line_append, line_drop}

-- the line does not end before its own bytes
no_end : (text : List ℕ) → AreLineBytes text → is_line_end text ≡ false
unfolding is_line_byte is_text
no_end [] all = refl
no_end (byte ∷ text) all = let here = all.0 in grind (arith, nat_tests)

-- a walk that waits at a block has come to it
wants_from : (s : Setting) (rest : List ℕ) (at number looked : ℕ) (code : Code) (blocks : List Block) (b : ℕ)
    → walk s rest at number looked code blocks ≡ Wants b → number ≤ b
wants_from s rest at number looked code [] b is = cc
wants_from s rest at number looked code (block ∷ blocks) b is =
    by (trial s block.function block.flags rest at) (λ seen later. wants_from s rest at (number + 1) seen later blocks b) is
  where
    by : (answer : Try) → ((seen : ℕ) (later : Code) → walk s rest at (number + 1) seen later blocks ≡ Wants b → number + 1 ≤ b)
        → or_later s.graph number (max looked (looked_of (length rest) answer)) block answer
        (walk s rest at (number + 1) (max looked (looked_of (length rest) answer)) (code_of code answer) blocks) ≡ Wants b
        → number ≤ b
    by (Accept value seen end) after is = cc
    by (Refuse refusal seen) after is = let further = after (max looked seen) (later_code code refusal) is in omega arith
    by More after is = let same : number ≡ b = cc in omega arith

-- the function of the block at a place wants more, and where it takes a field of the longer text, so does the walk
record Goes (s : Setting) (rest more : List ℕ) (at number looked : ℕ) (code : Code) (blocks : List Block) (place : ℕ)
    (block : Block) : Type 0 where
  wants : trial s block.function block.flags rest at ≡ More
  takes : (value : Value) (seen end : ℕ) → trial s block.function block.flags (rest ++ more) at ≡ Accept value seen end
      → (last : ℕ) × (walk s (rest ++ more) at number looked code blocks
      ≡ Takes (number + place) block.role (next_of s.graph block value) value last end)

walk_goes : (s : Setting) (rest more : List ℕ) (at number looked : ℕ) (code : Code) (blocks : List Block) (place : ℕ)
    (block : Block) → slice_get blocks place ≡ Some block → walk s rest at number looked code blocks ≡ Wants (number + place)
    → Goes s rest more at number looked code blocks place block
walk_goes s rest more at number looked code [] place block found is = cc
walk_goes s rest more at number looked code (first ∷ blocks) zero block found is =
    by (trial s block.function block.flags rest at) refl (subst At same is)
  where
    same : first ≡ block
    same = cc

    At : Block → Type 0
    At first = walk s rest at number looked code (first ∷ blocks) ≡ Wants (number + 0)

    here : number ≡ number + 0
    here = omega arith

    takes : (value : Value) (seen end : ℕ) → trial s block.function block.flags (rest ++ more) at ≡ Accept value seen end
        → (last : ℕ) × (walk s (rest ++ more) at number looked code (first ∷ blocks)
        ≡ Takes (number + 0) block.role (next_of s.graph block value) value last end)
    takes value seen end accepts = (
      max looked seen,
      ap (λ (first : Block). walk s (rest ++ more) at number looked code (first ∷ blocks)) same
          ∙ walk_step s (rest ++ more) at number looked code block blocks (Accept value seen end) accepts
          ∙ ap (λ (b : ℕ). Takes b block.role (next_of s.graph block value) value (max looked seen) end) here,
    )

    by : (answer : Try) → trial s block.function block.flags rest at ≡ answer
        → walk s rest at number looked code (block ∷ blocks) ≡ Wants (number + 0)
        → Goes s rest more at number looked code (first ∷ blocks) 0 block
    by (Accept value seen end) t is =
        let step = sym (walk_step s rest at number looked code block blocks (Accept value seen end) t) ∙ is in cc
    by (Refuse refusal seen) t is =
        let step = sym (walk_step s rest at number looked code block blocks (Refuse refusal seen) t) ∙ is in
        let further = wants_from s rest at (number + 1) (max looked seen) (later_code code refusal) blocks (number + 0) step in
        absurd (omega arith)
    by More t is = record { wants = t; takes = takes }
walk_goes s rest more at number looked code (first ∷ blocks) (suc place) block found is =
    by (trial s first.function first.flags rest at) refl
    (λ seen later. walk_goes s rest more at (number + 1) seen later blocks place block found)
  where
    here : number + 1 + place ≡ number + suc place
    here = omega arith

    by : (answer : Try) → trial s first.function first.flags rest at ≡ answer
        → ((seen : ℕ) (later : Code) → walk s rest at (number + 1) seen later blocks ≡ Wants (number + 1 + place)
        → Goes s rest more at (number + 1) seen later blocks place block)
        → Goes s rest more at number looked code (first ∷ blocks) (suc place) block
    by (Accept value seen end) t after =
        let step = sym (walk_step s rest at number looked code first blocks (Accept value seen end) t) ∙ is in cc
    by More t after =
        let step = sym (walk_step s rest at number looked code first blocks More t) ∙ is in
        let same : number ≡ number + suc place = cc in
        absurd (omega arith)
    by (Refuse refusal seen) t after =
        let step = sym (walk_step s rest at number looked code first blocks (Refuse refusal seen) t) ∙ is in
        let goes = after (max looked seen) (later_code code refusal) (step ∙ ap Wants (sym here)) in
        let stays : trial s first.function first.flags (rest ++ more) at ≡ Refuse refusal seen =
        subst (λ (answer : Try). Stays answer (trial s first.function first.flags (rest ++ more) at)) t
        ((trial_is_local s first.function first.flags).stays rest more at) in
        record {
          wants = goes.wants;
          takes = λ value looked_at end accepts.
              let taken = goes.takes value looked_at end accepts in (
                taken.0,
                walk_step s (rest ++ more) at number looked code first blocks (Refuse refusal seen) stays ∙ taken.1
                    ∙ ap (λ (b : ℕ). Takes b block.role (next_of s.graph block value) value taken.0 end) here,
              );
        }

-- a chain that waits has a walk that waits
record Wait (number start b at : ℕ) (walked : Walk) : Type 0 where
  walk_waits : walked ≡ Wants b
  start_is : start ≡ at

typed_waits : (number start b at : ℕ) (walked : Walk)
    → typed number start walked ≡ chain.Open (record { node = number; block = Some b; at = at }) → Wait number start b at walked
typed_waits number start b at (Takes block role next value looked end) is = by (is_confirm value) is
  where
    by : (test : Bool) → (if test then chain.Done end
        else chain.Field (record { node = number; block = block; value = value; start = start; end = end; need = start + looked; defaulted = false; role = role; next = next }))
        ≡ chain.Open (record { node = number; block = Some b; at = at }) → Wait number start b at (Takes block role next value looked end)
    by true is = cc
    by false is = cc
typed_waits number start b at (Wants block) is =
    let places : ◌≡◌ {A = Open} (record { node = number; block = Some block; at = start }) (record { node = number; block = Some b; at = at })
    = cc in
    let blocks : ◌≡◌ {A = Option ℕ} (Some block) (Some b) = ap (λ (place : Open). place.block) places in
    let same : block ≡ b = cc in
    record { walk_waits = ap Wants same; start_is = ap (λ (place : Open). place.at) places }
typed_waits number start b at (Fails code) is = cc

-- what the function of the block takes of the longer text is the field of the chain
record FieldOf (s : Setting) (number b : ℕ) (block : Block) (start : ℕ) (value : Value) (end : ℕ) (answer : Chain) : Type 0 where
  need : ℕ
  is : answer ≡ chain.Field (record { node = number; block = b; value = value; start = start; end = end; need = need; defaulted = false; role = block.role; next = next_of s.graph block value })

takes_field : (s : Setting) (number b : ℕ) (block : Block) (start : ℕ) (value : Value) (end next : ℕ) (answer : Chain)
    → FieldOf s number b block start value end answer → next_of s.graph block value ≡ next → TakesField number b start end next answer
takes_field s number b block start value end next answer of leads =
    record { field = _; is = of.is; node = refl; block = refl; begins = refl; ends = refl; typed = refl; leads = leads }

typed_takes : (s : Setting) (number b : ℕ) (block : Block) (start : ℕ) (value : Value) (last end : ℕ) → is_confirm value ≡ false
    → FieldOf s number b block start value end (typed number start (Takes b block.role (next_of s.graph block value) value last end))
typed_takes s number b block start value last end field = record { need = start + last; is = rw field refl }

-- the trial of the block on what is typed, and the chain on the line that goes on with what it takes
pub record GoesOn (s : Setting) (number b : ℕ) (block : Block) (line more : List ℕ) (at start : ℕ) : Type 0 where
  pub within : start ≤ length line
  pub wants : trial s block.function block.flags (drop start line) start ≡ More
  pub takes : (value : Value) (seen end next : ℕ)
      → trial s block.function block.flags (drop start line ++ more) start ≡ Accept value seen end → is_confirm value ≡ false
      → next_of s.graph block value ≡ next
      → ((raw : Bool) → start ≡ length line → BeginsOther raw more)
      → TakesField number b start end next (chain_at s number (line ++ more) at).chain

default_goes : (s : Setting) (number : ℕ) (node : Node) (rest : List ℕ) (start : ℕ) (default : Option (List ℕ)) → is_line_end rest ≡ false
    → by_default s number node rest start default ≡ on_text s number node rest start
default_goes s number node rest start None ends = refl
default_goes s number node rest start (Some text) ends = rw ends refl

node_goes : (s : Setting) (number b : ℕ) (node : Node) (block : Block) (line more : List ℕ) (at start : ℕ) (found : Option ℕ)
    → slice_get s.graph.nodes number ≡ Some node → slice_get node.chain b ≡ Some block → at ≤ length line
    → AreLineBytes line → AreLineBytes more → skip node.raw line at ≡ found
    → (past_skip s number node line at found).chain ≡ chain.Open (record { node = number; block = Some b; at = start })
    → GoesOn s number b block line more at start
unfolding chain_at
node_goes s number b node block line more at start None node_is block_is within text rest skips is =
    let places : ◌≡◌ {A = Open} (record { node = number; block = None; at = at }) (record { node = number; block = Some b; at = start })
    = cc in
    let never : ◌≡◌ {A = Option ℕ} None (Some b) = ap (λ (place : Open). place.block) places in
    cc
node_goes s number b node block line more at start (Some place) node_is block_is within text rest skips is =
    let typed_is : (on_text s number node (drop place line) place).chain ≡ chain.Open (record { node = number; block = Some b; at = start })
    = sym (ap (λ (counted : Counted). counted.chain)
    (default_goes s number node (drop place line) place node.default (no_end (drop place line) (line_drop place line text)))) ∙ is in
    let waits = typed_waits number place b start (walk s (drop place line) place 0 0 NotConfirmed node.chain) typed_is in
    let same = waits.start_is in
    by place same skips waits.walk_waits
  where
    by : (place : ℕ) → place ≡ start → skip node.raw line at ≡ Some place
        → walk s (drop place line) place 0 0 NotConfirmed node.chain ≡ Wants b → GoesOn s number b block line more at start
    by place same skips waits =
        let reached = skip_within node.raw line at start within (skips ∙ ap Some same) in
        let walked : walk s (drop start line) start 0 0 NotConfirmed node.chain ≡ Wants (0 + b) =
        ap (λ (p : ℕ). walk s (drop p line) p 0 0 NotConfirmed node.chain) (sym same) ∙ waits ∙ ap Wants (omega arith) in
        let goes = walk_goes s (drop start line) more start 0 0 NotConfirmed node.chain b block block_is walked in
        record {
          within = reached.1;
          wants = goes.wants;
          takes = λ value seen end next accepts field leads begins.
              let taken = goes.takes value seen end accepts in
              let whole : drop start (line ++ more) ≡ drop start line ++ more = drop-append-le start line more reached.1 in
              let from = skip_goes_on node.raw line more at start within (skips ∙ ap Some same) (begins node.raw) in
              let ends = no_end (drop start (line ++ more)) (line_drop start (line ++ more) (line_append line more text rest)) in
              let walk_is : walk s (drop start (line ++ more)) start 0 0 NotConfirmed node.chain
              ≡ Takes b block.role (next_of s.graph block value) value taken.0 end =
              ap (λ (rest : List ℕ). walk s rest start 0 0 NotConfirmed node.chain) whole ∙ taken.1
              ∙ ap (λ (b : ℕ). Takes b block.role (next_of s.graph block value) value taken.0 end) (omega arith) in
              let answer : (chain_at s number (line ++ more) at).chain
              ≡ typed number start (Takes b block.role (next_of s.graph block value) value taken.0 end) =
              ap (λ (found : Option Node). (at_node s number (line ++ more) at found).chain) node_is
              ∙ ap (λ (found : Option ℕ). (past_skip s number node (line ++ more) at found).chain) from
              ∙ ap (λ (counted : Counted). counted.chain) (default_goes s number node (drop start (line ++ more)) start node.default ends)
              ∙ ap (typed number start) walk_is in
              subst (TakesField number b start end next) (sym answer)
              (takes_field s number b block start value end next _ (typed_takes s number b block start value taken.0 end field) leads);
        }

pub chain_goes_on : (s : Setting) (number b : ℕ) (block : Block) (line more : List ℕ) (at start : ℕ) → AreLineBytes line → AreLineBytes more
    → Waits s number b block line at start → GoesOn s number b block line more at start
unfolding chain_at
chain_goes_on s number b block line more at start text rest waits =
    node_goes s number b waits.node block line more at start (skip waits.node.raw line at) waits.node_is waits.block_is waits.place
    text rest refl
    (sym (ap (λ (found : Option Node). (at_node s number line at found).chain) waits.node_is) ∙ waits.waits)
