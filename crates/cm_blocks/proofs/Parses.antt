-- [key-parse] Each text has exactly one parse, in which no option stands twice, and the parse of the empty line is open
-- at the first block.
use Rattle.std.proofs.Common.{◌≡◌, ℕ, zero, suc, ◌<◌, ◌==◌, true, false, List, [], ◌∷◌, ◌++◌, length, Option, Some, None, slice_get, get_or, refl, ap, sym, subst, ◌∙◌, arith, append_assoc, append-nil}
use Rattle.std.proofs.lemmas.Bool.Decides.{nat_tests}
use Rattle.cm_fields.specs.declared.code.Code.{Code}
use Rattle.cm_fields.specs.declared.code.Code.TheVariants.{NotConfirmed}
use Rattle.cm_fields.specs.declared.trial.Try.TheVariants.{More}
use Rattle.cm_fields.specs.Phrase.{token}
use Rattle.cm_files.specs.declared.flags.Flags.{Flags}
use Rattle.cm_blocks.specs.declared.chain.Walk.TheVariants.{Wants}
use Rattle.cm_blocks.specs.declared.field.Chain.{Chain}
use Rattle.cm_blocks.specs.declared.field.Chain.TheVariants as chain
use Rattle.cm_blocks.specs.declared.field.Ending.{Ending}
use Rattle.cm_blocks.specs.declared.field.TheConstants.{FIELD_LIMIT}
use Rattle.cm_blocks.specs.declared.function.Function.{Function}
use Rattle.cm_blocks.specs.declared.function.Function.TheVariants.{Key, Switch, Noise, Number, Numeral, Word, Run, Quoted, LongQuoted, Token, Date, User, Directory, InFile, OutFile, AnyFile, Text, Comma, Confirm, Hook}
use Rattle.cm_blocks.specs.declared.node.Block.{Block}
use Rattle.cm_blocks.specs.declared.node.Node.{Node}
use Rattle.cm_blocks.specs.Chain.{at_node, by_default, chain_at, typed, walk}
use Rattle.cm_blocks.specs.Fault.{grammar_fault, has_phrase}
use Rattle.cm_blocks.specs.Once.{AreApart, repeats, unless_repeated}
use Rattle.cm_blocks.specs.Parse.{IsLast, IsParse, Parse, Parses, after_chain, answer_at, ending_of, node_after, open_at, parse_from, parse_of, place_after, with_fields}
use Rattle.cm_blocks.specs.Setting.{Setting}
use Rattle.cm_blocks.specs.FieldView.{FieldView}
use Rattle.cm_blocks.specs.Trial.{trial}
use Rattle.cm_blocks.specs.Well.{IsWell}
use Rattle.cm_blocks.proofs.Onces.{apart_at, lets_through, stands}
use Rattle.cm_blocks.proofs.Wells.{well_node}

-- the same fields, before which these stand
joined : (before : List FieldView) (field : FieldView) (fields : List FieldView)
    → (before ++ field ∷ []) ++ fields ≡ before ++ field ∷ fields
joined before field fields = append_assoc before (field ∷ []) fields

none_more : (s : Setting) (text : List ℕ) (before : List FieldView) (node at : ℕ)
    → answer_at s text (before ++ []) node at ≡ answer_at s text before node at
none_more s text before node at =
    ap (λ (fields : List FieldView). answer_at s text fields node at) (append-nil before)

-- the parse from a place on is one
parses_from : (s : Setting) (text : List ℕ) (before : List FieldView) (room node at : ℕ)
    → Parses s text before room node at (parse_from s text before room node at).fields
    (parse_from s text before room node at).ending
parses_from s text before zero node at =
    record { few = omega arith; follow = tt; once = tt; ending = ap ending_of (sym (none_more s text before node at)); last = λ below. absurd (omega arith) }
parses_from s text before (suc room) node at =
    by (answer_at s text before node at) refl (λ field. parses_from s text (before ++ field ∷ []) room field.next field.end)
  where
    after : FieldView → Parse
    after field = parse_from s text (before ++ field ∷ []) room field.next field.end

    stop : (answer : Chain) → answer_at s text before node at ≡ answer → IsLast answer
        → Parses s text before (suc room) node at [] (ending_of answer)
    stop answer is last =
        let whole = none_more s text before node at ∙ is in
        record { few = omega arith; follow = tt; once = tt; ending = ap ending_of (sym whole); last = λ below. subst IsLast (sym whole) last }

    by : (answer : Chain) → answer_at s text before node at ≡ answer
        → ((field : FieldView) → Parses s text (before ++ field ∷ []) room field.next field.end (after field).fields (after field).ending)
        → Parses s text before (suc room) node at (after_chain after answer).fields (after_chain after answer).ending
    by (chain.Field field) is later =
        let rest = later field in
        let it = stands s.graph before (chain_at s node text at).chain field is in
        let whole = joined before field (after field).fields in
        let last : List FieldView → Chain =
        λ (fields : List FieldView). answer_at s text fields (node_after field.next (after field).fields) (place_after field.end (after field).fields) in
        record {
          few = omega (arith, rest.few);
          follow = (it.is, rest.follow);
          once = (it.once, rest.once);
          ending = rest.ending ∙ ap (λ (fields : List FieldView). ending_of (last fields)) whole;
          last = λ below. subst (λ (fields : List FieldView). IsLast (last fields)) whole (rest.last (omega arith));
        }
    by (chain.Done place) is later = stop (chain.Done place) is tt
    by (chain.Fault fault) is later = stop (chain.Fault fault) is tt
    by (chain.Open place) is later = stop (chain.Open place) is tt

pub parse_of_parses : (s : Setting) (node : ℕ) (text : List ℕ)
    → IsParse s node text (parse_of s node text).fields (parse_of s node text).ending
unfolding parse_of
parse_of_parses s node text = parses_from s text [] FIELD_LIMIT node 0

-- any parse from a place on is that one
only_from : (s : Setting) (text : List ℕ) (before : List FieldView) (room node at : ℕ) (fields : List FieldView) (ends : Ending)
    → Parses s text before room node at fields ends
    → let parse : Parse = record { fields = fields; ending = ends } in parse ≡ parse_from s text before room node at
only_from s text before zero node at [] ends parses =
    ap (λ (e : Ending). let parse : Parse = record { fields = []; ending = e } in parse)
    (parses.ending ∙ ap ending_of (none_more s text before node at))
only_from s text before zero node at (field ∷ fields) ends parses = absurd (omega (arith, parses.few))
only_from s text before (suc room) node at [] ends parses =
    by (answer_at s text before node at) refl (subst IsLast (none_more s text before node at) (parses.last (omega arith)))
    (parses.ending ∙ ap ending_of (none_more s text before node at))
  where
    by : (answer : Chain) → answer_at s text before node at ≡ answer → IsLast (answer_at s text before node at)
        → ends ≡ ending_of (answer_at s text before node at)
        → let parse : Parse = record { fields = []; ending = ends } in
        parse ≡ after_chain (λ field. parse_from s text (before ++ field ∷ []) room field.next field.end) answer
    by (chain.Field field) is last ending = absurd (subst IsLast is last)
    by (chain.Done place) is last ending = let e = ending ∙ ap ending_of is in ap (λ (e : Ending). let parse : Parse = record { fields = []; ending = e } in parse) e
    by (chain.Fault fault) is last ending = let e = ending ∙ ap ending_of is in ap (λ (e : Ending). let parse : Parse = record { fields = []; ending = e } in parse) e
    by (chain.Open place) is last ending = let e = ending ∙ ap ending_of is in ap (λ (e : Ending). let parse : Parse = record { fields = []; ending = e } in parse) e
only_from s text before (suc room) node at (field ∷ fields) ends parses =
    let whole = sym (joined before field fields) in
    let last : List FieldView → Chain =
    λ (it : List FieldView). answer_at s text it (node_after field.next fields) (place_after field.end fields) in
    let rest = only_from s text (before ++ field ∷ []) room field.next field.end fields ends
    (record {
      few = omega (arith, parses.few);
      follow = parses.follow.1;
      once = parses.once.1;
      ending = parses.ending ∙ ap (λ (it : List FieldView). ending_of (last it)) whole;
      last = λ below. subst (λ (it : List FieldView). IsLast (last it)) whole (parses.last (omega arith));
    }) in
    ap (with_fields (field ∷ [])) rest
    ∙ sym (ap (after_chain (λ (field : FieldView). parse_from s text (before ++ field ∷ []) room field.next field.end))
    (lets_through s.graph before (chain_at s node text at).chain field parses.follow.0 parses.once.0))

pub parses_are_parse_of : (s : Setting) (node : ℕ) (text : List ℕ) (fields : List FieldView) (ends : Ending)
    → IsParse s node text fields ends → (fields ≡ (parse_of s node text).fields) × (ends ≡ (parse_of s node text).ending)
unfolding parse_of
parses_are_parse_of s node text fields ends parses =
    let same = only_from s text [] FIELD_LIMIT node 0 fields ends parses in
    (ap (λ (parse : Parse). parse.fields) same, ap (λ (parse : Parse). parse.ending) same)

-- nothing is decided of no bytes
token_wants : (phrase : List ℕ) (at : ℕ) → has_phrase (Token phrase) ≡ true → token phrase [] at ≡ More
unfolding token
token_wants [] at phrase = cc
token_wants (letter ∷ phrase) at is =
    let some : (0 == length (letter ∷ phrase)) ≡ false = grind (arith, nat_tests) in rw some refl

trial_wants : (s : Setting) (function : Function) (flags : Flags) (at : ℕ) → has_phrase function ≡ true
    → trial s function flags [] at ≡ More
unfolding trial
trial_wants s (Token text) flags at phrase = token_wants text at phrase
trial_wants s (Noise text) flags at phrase = refl
trial_wants s (Key table) flags at phrase = refl
trial_wants s (Switch table) flags at phrase = refl
trial_wants s Number flags at phrase = refl
trial_wants s (Numeral numbers) flags at phrase = refl
trial_wants s Word flags at phrase = refl
trial_wants s (Run set) flags at phrase = refl
trial_wants s Quoted flags at phrase = refl
trial_wants s LongQuoted flags at phrase = refl
trial_wants s Date flags at phrase = refl
trial_wants s User flags at phrase = refl
trial_wants s Directory flags at phrase = refl
trial_wants s InFile flags at phrase = refl
trial_wants s OutFile flags at phrase = refl
trial_wants s AnyFile flags at phrase = refl
trial_wants s Text flags at phrase = refl
trial_wants s Comma flags at phrase = refl
trial_wants s Confirm flags at phrase = refl
trial_wants s (Hook id) flags at phrase = refl

walk_wants : (s : Setting) (graph_node : Node) (at looked : ℕ) (code : Code) → IsWell s.graph graph_node
    → walk s [] at 0 looked code graph_node.chain ≡ Wants 0
walk_wants s graph_node at looked code well = by graph_node.chain well.some (λ k d below. (well.blocks k d below).phrase)
  where
    by : (blocks : List Block) → 0 < length blocks → ((k : ℕ) (d : Block) → k < length blocks → has_phrase (get_or blocks k d).function ≡ true)
        → walk s [] at 0 looked code blocks ≡ Wants 0
    by [] some phrases = absurd (omega arith)
    by (block ∷ blocks) some phrases =
        let wants = trial_wants s block.function block.flags at (phrases 0 block (omega arith)) in
        rw wants refl

some_at : (nodes : List Node) (number : ℕ) → number < length nodes → (node : Node) × (slice_get nodes number ≡ Some node)
some_at [] number below = absurd (omega arith)
some_at (node ∷ nodes) zero below = (node, refl)
some_at (node ∷ nodes) (suc number) below = some_at nodes number (omega arith)

node_starts : (s : Setting) (number : ℕ) (node : Node) → IsWell s.graph node
    → (at_node s number [] 0 (Some node)).chain ≡ chain.Open (record { node = number; block = Some 0; at = 0 })
node_starts s number node well = by node.default
  where
    by : (default : Option (List ℕ)) → (by_default s number node [] 0 default).chain ≡ chain.Open (record { node = number; block = Some 0; at = 0 })
    by None = ap (typed number 0) (walk_wants s node 0 0 NotConfirmed well)
    by (Some text) = ap (typed number 0) (walk_wants s node 0 0 NotConfirmed well)

chain_starts : (s : Setting) (number : ℕ) → grammar_fault s.graph ≡ None → number < length s.graph.nodes
    → (chain_at s number [] 0).chain ≡ chain.Open (record { node = number; block = Some 0; at = 0 })
unfolding chain_at
chain_starts s number none below =
    let found = some_at s.graph.nodes number below in
    subst (λ (node : Option Node). (at_node s number [] 0 node).chain ≡ chain.Open (record { node = number; block = Some 0; at = 0 }))
    (sym found.1) (node_starts s number found.0 (well_node s.graph number found.0 none found.1))

-- the parse of the empty line
start_from : (s : Setting) (room number : ℕ) → (chain_at s number [] 0).chain ≡ chain.Open (record { node = number; block = Some 0; at = 0 })
    → parse_from s [] [] room number 0 ≡ record { fields = []; ending = open_at number 0 }
start_from s room number is = by room (ap (unless_repeated s.graph []) is)
  where
    by : (room : ℕ) → answer_at s [] [] number 0 ≡ chain.Open (record { node = number; block = Some 0; at = 0 })
        → parse_from s [] [] room number 0 ≡ record { fields = []; ending = open_at number 0 }
    by zero is = ap (λ (answer : Chain). let parse : Parse = record { fields = []; ending = ending_of answer } in parse) is
    by (suc room) is = ap (after_chain (λ (field : FieldView). parse_from s [] (field ∷ []) room field.next field.end)) is

pub start_is_open : (s : Setting) → grammar_fault s.graph ≡ None → (number : ℕ) → number < length s.graph.nodes
    → parse_of s number [] ≡ record { fields = []; ending = open_at number 0 }
unfolding parse_of
start_is_open s none number below = start_from s FIELD_LIMIT number (chain_starts s number none below)

-- none of the fields of a parse repeats one before it
pub has_none_twice : (s : Setting) (node : ℕ) (text : List ℕ) (before after : List FieldView) (field : FieldView)
    → (parse_of s node text).fields ≡ before ++ field ∷ after → repeats s.graph before field ≡ false
has_none_twice s node text before after field is =
    apart_at s.graph [] before after field
    (subst (AreApart s.graph []) is (parse_of_parses s node text).once)
