-- What the blocks of a node take as its default: whichever refused before, and, where they are plain, in any setting.
use Rattle.std.proofs.Common.{◌≡◌, ℕ, ◌+◌, ◌<◌, max, Bool, true, List, [], ◌∷◌, length, drop, get_or, refl, ap, sym, subst, ◌∙◌}
use Rattle.std.proofs.lemmas.List.{drop_more}
use Rattle.std.proofs.lemmas.Bool.{and_parts}
use Rattle.std.specs.List.{list_all}
use Rattle.cm_fields.specs.declared.code.Code.{Code}
use Rattle.cm_fields.specs.declared.code.Code.TheVariants.{NotConfirmed}
use Rattle.cm_fields.specs.declared.trial.Try.{Try}
use Rattle.cm_fields.specs.declared.trial.Try.TheVariants.{Accept, Refuse, More}
use Rattle.cm_files.specs.declared.flags.Flags.{Flags}
use Rattle.cm_files.specs.Catalogue.{Catalogue}
use Rattle.cm_files.specs.OneDirectory.{no_files}
use Rattle.cm_hooks.specs.Meanings.{no_meanings}
use Rattle.cm_blocks.specs.declared.chain.Walk.{Walk}
use Rattle.cm_blocks.specs.declared.function.Function.{Function}
use Rattle.cm_blocks.specs.declared.function.Function.TheVariants.{Key, Switch, Noise, Number, Numeral, Word, Run, Quoted, LongQuoted, Token, Date, User, Directory, InFile, OutFile, AnyFile, Text, Comma, Confirm, Hook}
use Rattle.cm_blocks.specs.declared.node.Block.{Block}
use Rattle.cm_blocks.specs.declared.node.Node.{Node}
use Rattle.cm_blocks.specs.Chain.{code_of, default_place, default_rest, or_later, walk}
use Rattle.cm_blocks.specs.Default.{bare, is_plain, is_plain_block, is_takes, takes_default}
use Rattle.cm_blocks.specs.Grammar.{Graph}
use Rattle.cm_blocks.specs.Setting.{Setting, setting}
use Rattle.cm_blocks.specs.Trial.{looked_of, trial}

-- whether blocks take a text does not turn on what refused it before
walk_takes : (s : Setting) (rest : List ℕ) (at number looked other seen : ℕ) (code reason : Code) (blocks : List Block)
    → is_takes (walk s rest at number looked code blocks) ≡ is_takes (walk s rest at other seen reason blocks)
walk_takes s rest at number looked other seen code reason [] = refl
walk_takes s rest at number looked other seen code reason (block ∷ more) =
    by (trial s block.function block.flags rest at)
    (λ number looked other seen code reason. walk_takes s rest at number looked other seen code reason more)
  where
    by : (answer : Try)
        → ((number looked other seen : ℕ) (code reason : Code)
        → is_takes (walk s rest at number looked code more) ≡ is_takes (walk s rest at other seen reason more))
        → is_takes (or_later s.graph number (max looked (looked_of (length rest) answer)) block answer
        (walk s rest at (number + 1) (max looked (looked_of (length rest) answer)) (code_of code answer) more))
        ≡ is_takes (or_later s.graph other (max seen (looked_of (length rest) answer)) block answer
        (walk s rest at (other + 1) (max seen (looked_of (length rest) answer)) (code_of reason answer) more))
    by (Accept value size end) later = refl
    by (Refuse refusal size) later =
        later (number + 1) (max looked size) (other + 1) (max seen size) (code_of code (Refuse refusal size))
        (code_of reason (Refuse refusal size))
    by More later = refl

-- where the first of blocks refuses, those after it take what all of them take
first_refuses : (s : Setting) (rest : List ℕ) (at : ℕ) (block : Block) (more : List Block) (code : Code) (looked : ℕ)
    → trial s block.function block.flags rest at ≡ Refuse code looked
    → is_takes (walk s rest at 0 0 NotConfirmed (block ∷ more)) ≡ is_takes (walk s rest at 0 0 NotConfirmed more)
first_refuses s rest at block more code looked refused =
    rw refused
    (walk_takes s rest at 1 (max 0 looked) 0 0 (code_of NotConfirmed (Refuse code looked)) NotConfirmed more)

-- the same of the blocks from a number on
pub later_takes : (graph : Graph) (names : Catalogue) (rest : List ℕ) (at : ℕ) (blocks : List Block) (i : ℕ) (block : Block)
    (code : Code) (looked : ℕ) (taken : Bool) → i < length blocks → block ≡ get_or blocks i block → names ≡ no_files
    → Refuse code looked ≡ trial (setting graph names no_meanings) block.function block.flags rest at
    → is_takes (walk (bare graph) rest at 0 0 NotConfirmed (drop i blocks)) ≡ taken
    → is_takes (walk (bare graph) rest at 0 0 NotConfirmed (drop (i + 1) blocks)) ≡ taken
later_takes graph names rest at blocks i block code looked taken within here nothing refused walked =
    let cut = drop_more blocks i block within ∙ ap (λ (it : Block). it ∷ drop (i + 1) blocks) (sym here) in
    let refuses = subst
    (λ (it : Catalogue). Refuse code looked ≡ trial (setting graph it no_meanings) block.function block.flags rest at)
    nothing refused in
    sym (first_refuses (bare graph) rest at block (drop (i + 1) blocks) code looked (sym refuses))
    ∙ sym (ap (λ (left : List Block). is_takes (walk (bare graph) rest at 0 0 NotConfirmed left)) cut) ∙ walked

-- what a plain function makes of a text turns on the grammar alone
pub plain_trials : (s t : Setting) → s.graph ≡ t.graph → (function : Function) → is_plain function ≡ true
    → (flags : Flags) (rest : List ℕ) (at : ℕ) → trial s function flags rest at ≡ trial t function flags rest at
unfolding trial
plain_trials s t same (Key table) plain flags rest at = rw same refl
plain_trials s t same (Switch table) plain flags rest at = rw same refl
plain_trials s t same (Noise text) plain flags rest at = refl
plain_trials s t same Number plain flags rest at = refl
plain_trials s t same (Numeral numbers) plain flags rest at = refl
plain_trials s t same Word plain flags rest at = refl
plain_trials s t same (Run set) plain flags rest at = refl
plain_trials s t same Quoted plain flags rest at = refl
plain_trials s t same LongQuoted plain flags rest at = refl
plain_trials s t same (Token text) plain flags rest at = refl
plain_trials s t same Date plain flags rest at = refl
plain_trials s t same User plain flags rest at = cc
plain_trials s t same Directory plain flags rest at = cc
plain_trials s t same InFile plain flags rest at = cc
plain_trials s t same OutFile plain flags rest at = cc
plain_trials s t same AnyFile plain flags rest at = cc
plain_trials s t same Text plain flags rest at = refl
plain_trials s t same Comma plain flags rest at = refl
plain_trials s t same Confirm plain flags rest at = refl
plain_trials s t same (Hook id) plain flags rest at = cc

-- so plain blocks answer in every setting of a grammar as in the bare one
plain_walk : (s : Setting) (rest : List ℕ) (at number looked : ℕ) (code : Code) (blocks : List Block)
    → list_all is_plain_block blocks ≡ true
    → walk s rest at number looked code blocks ≡ walk (bare s.graph) rest at number looked code blocks
plain_walk s rest at number looked code [] plain = refl
plain_walk s rest at number looked code (block ∷ more) plain =
    let parts = and_parts (is_plain_block block) (list_all is_plain_block more) plain in
    let same = plain_trials s (bare s.graph) refl block.function parts.0 block.flags rest at in
    let answer = trial (bare s.graph) block.function block.flags rest at in
    let seen = max looked (looked_of (length rest) answer) in
    rw same
    (ap (λ (later : Walk). or_later s.graph number seen block answer later)
    (plain_walk s rest at (number + 1) seen (code_of code answer) more parts.1))

pub plain_takes : (s : Setting) (node : Node) (text : List ℕ) → list_all is_plain_block node.chain ≡ true
    → takes_default s node text ≡ takes_default (bare s.graph) node text
plain_takes s node text plain =
    ap is_takes (plain_walk s (default_rest node.raw text) (default_place node.raw text) 0 0 NotConfirmed node.chain plain)
