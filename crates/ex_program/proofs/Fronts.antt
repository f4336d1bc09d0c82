-- Lines whose first letters are those of the lines that are generated: none of them commands LOGOUT or TAKE.
use Rattle.std.proofs.Common.{◌≡◌, ℕ, suc, ◌+◌, arith, ◌==◌, Bool, true, not, ◌&&◌, List, [], ◌∷◌, ◌++◌, take, Result, Ok, Err, refl, ap, sym, ◌∙◌}
use Rattle.std.specs.List.{enumerate_from, list_all, prefix_len}
use Rattle.cm_text.specs.Bytes.{is_blank, is_word}
use Rattle.cm_text.specs.Case.{begins_with, equals}
use Rattle.cm_fields.specs.declared.code.Code.{Code}
use Rattle.cm_fields.specs.declared.trial.Try.{Try}
use Rattle.cm_fields.specs.declared.trial.Try.TheVariants.{Accept, More, Refuse}
use Rattle.cm_fields.specs.declared.value.Value.{Value}
use Rattle.cm_fields.specs.declared.value.Value.TheVariants as values
use Rattle.cm_files.specs.Catalogue.{Catalogue}
use Rattle.cm_tables.specs.declared.entry.Entry.{Entry}
use Rattle.cm_blocks.specs.declared.field.Chain.{Chain}
use Rattle.cm_blocks.specs.declared.field.Chain.TheVariants as chain
use Rattle.cm_blocks.specs.declared.function.Role.TheVariants as roles
use Rattle.cm_blocks.specs.declared.chain.Walk.TheVariants.{Fails}
use Rattle.cm_blocks.specs.Chain.{chain_at, or_later, typed}
use Rattle.cm_blocks.specs.FieldView.{FieldView}
use Rattle.cm_blocks.specs.Keyword.{code_at, entry_position, key, key_value}
use Rattle.cm_blocks.specs.Setting.{setting}
use Rattle.cm_blocks.specs.Trial.{table_of, trial}
use Rattle.ex_grammar.specs.ExecRules.{exec_meanings}
use Rattle.ex_grammar.specs.Graph.{exec_graph, exec_nodes, first_nodes, source_nodes}
use Rattle.ex_grammar.specs.Tables.{command_entries, exec_tables}
use Rattle.ex_grammar.specs.Words.{keyword}
use Rattle.ex_grammar.specs.declared.code.TheConstants.{LOGOUT, TAKE}
use Rattle.ex_grammar.specs.declared.node.TheConstants.{COMMANDS}
use Rattle.ex_commands.specs.Line.{keyword_code}
use Rattle.cm_blocks.proofs.Places.{run_of}
use Rattle.ex_commands.proofs.Verbs.{command_table}
use Rattle.cm_blocks.proofs.Values.{meant_found}
use Rattle.ex_program.proofs.Heads.{found_good, passes}

-- C, D, E, I and U, and LI, with which a line of a file begins
pub data Front : Type 0 where
  OfC : Front
  OfD : Front
  OfE : Front
  OfI : Front
  OfU : Front
  OfLi : Front

abbrev pub letters : Front → List ℕ
letters OfC = 67 ∷ []
letters OfD = 68 ∷ []
letters OfE = 69 ∷ []
letters OfI = 73 ∷ []
letters OfU = 85 ∷ []
letters OfLi = 76 ∷ 73 ∷ []

-- the codes of all commands but LOGOUT and TAKE
abbrev pub is_harmless : ℕ → Bool
is_harmless code = not (code == LOGOUT) && not (code == TAKE)

abbrev table : List Entry
table = table_of exec_graph command_table

all_harmless : (f : Front) → list_all (passes is_harmless table (letters f)) (enumerate_from 0 table) ≡ true
unfolding exec_graph exec_tables command_entries begins_with equals
all_harmless OfC = refl
all_harmless OfD = refl
all_harmless OfE = refl
all_harmless OfI = refl
all_harmless OfU = refl
all_harmless OfLi = refl

take_one : (n byte : ℕ) (rest : List ℕ) → take (1 + n) (byte ∷ rest) ≡ byte ∷ take n rest
take_one n byte rest = let more : 1 + n ≡ suc n = omega arith in ap (λ (count : ℕ). take count (byte ∷ rest)) more

-- a word that begins so
word_begins : (f : Front) (rest : List ℕ) → (run : List ℕ)
    × (take (prefix_len is_word (letters f ++ rest)) (letters f ++ rest) ≡ letters f ++ run)
unfolding is_word
word_begins OfC rest = (take (prefix_len is_word rest) rest, take_one (prefix_len is_word rest) 67 rest)
word_begins OfD rest = (take (prefix_len is_word rest) rest, take_one (prefix_len is_word rest) 68 rest)
word_begins OfE rest = (take (prefix_len is_word rest) rest, take_one (prefix_len is_word rest) 69 rest)
word_begins OfI rest = (take (prefix_len is_word rest) rest, take_one (prefix_len is_word rest) 73 rest)
word_begins OfU rest = (take (prefix_len is_word rest) rest, take_one (prefix_len is_word rest) 85 rest)
word_begins OfLi rest = (
  take (prefix_len is_word rest) rest,
  take_one (1 + prefix_len is_word rest) 76 (73 ∷ rest) ∙ ap (λ (run : List ℕ). 76 ∷ run) (take_one (prefix_len is_word rest) 73 rest),
)

-- the chain of the first node comes to the keyword
abbrev keyed : List ℕ → Try
keyed text = key table text 0

record IsOnKey (c : Catalogue) (text : List ℕ) : Type 0 where
  seen : ℕ
  code : Code
  is : (chain_at (setting exec_graph c exec_meanings) COMMANDS text 0).chain
      ≡ typed COMMANDS 0 (or_later exec_graph 1 seen (keyword command_table roles.Verb) (keyed text) (Fails code))

on_key : (c : Catalogue) (f : Front) (rest : List ℕ) → IsOnKey c (letters f ++ rest)
unfolding chain_at trial exec_graph exec_nodes first_nodes source_nodes is_blank
on_key c OfC rest = record { seen = _; code = _; is = refl }
on_key c OfD rest = record { seen = _; code = _; is = refl }
on_key c OfE rest = record { seen = _; code = _; is = refl }
on_key c OfI rest = record { seen = _; code = _; is = refl }
on_key c OfU rest = record { seen = _; code = _; is = refl }
on_key c OfLi rest = record { seen = _; code = _; is = refl }

-- which reads a command
pub record IsVerb (first : FieldView) : Type 0 where
  pub role : first.role ≡ roles.Verb
  pub harmless : is_harmless (keyword_code first.value) ≡ true

key_means : (f : Front) (rest : List ℕ) (value : Value) (looked end : ℕ) → keyed (letters f ++ rest) ≡ Accept value looked end
    → (place : ℕ) × (value ≡ values.Key place (code_at table place)) × (is_harmless (code_at table place) ≡ true)
key_means f rest value looked end is =
    let run = run_of is_word (λ run. key_value table (entry_position table run)) (letters f ++ rest) 0 value looked end is in
    by (entry_position table (take (prefix_len is_word (letters f ++ rest)) (letters f ++ rest))) refl run.decided where
      by : (found : Result ℕ Code) → entry_position table (take (prefix_len is_word (letters f ++ rest)) (letters f ++ rest)) ≡ found
          → key_value table found ≡ Ok value
          → (place : ℕ) × (value ≡ values.Key place (code_at table place)) × (is_harmless (code_at table place) ≡ true)
      by (Ok place) meant same =
          let begins = word_begins f rest in
          let value_is : values.Key place (code_at table place) ≡ value = cc in
          let there = meant_found table (letters f ++ begins.0) place (ap (λ word. entry_position table word) (sym begins.1) ∙ meant) in
          (place, sym value_is, found_good is_harmless table (letters f) begins.0 (all_harmless f) place there)
      by (Err code) meant same = absurd (cc)

pub first_verb : (c : Catalogue) (f : Front) (rest : List ℕ) (first : FieldView)
    → (chain_at (setting exec_graph c exec_meanings) COMMANDS (letters f ++ rest) 0).chain ≡ chain.Field first → IsVerb first
first_verb c f rest first is = by (keyed (letters f ++ rest)) refl where
  on : IsOnKey c (letters f ++ rest)
  on = on_key c f rest

  chain_of : Try → Chain
  chain_of answer = typed COMMANDS 0 (or_later exec_graph 1 on.seen (keyword command_table roles.Verb) answer (Fails on.code))

  by : (answer : Try) → keyed (letters f ++ rest) ≡ answer → IsVerb first
  by (Accept value looked end) answers =
      let it = key_means f rest value looked end answers in
      let field : chain_of (Accept (values.Key it.0 (code_at table it.0)) looked end) ≡ chain.Field first
      = ap (λ value. chain_of (Accept value looked end)) (sym it.1) ∙ ap chain_of (sym answers) ∙ sym on.is ∙ is in
      let role : roles.Verb ≡ first.role = cc in
      let value : values.Key it.0 (code_at table it.0) ≡ first.value = cc in
      record { role = sym role; harmless = ap (λ value. is_harmless (keyword_code value)) (sym value) ∙ it.2 }
  by (Refuse code looked) answers =
      let never : chain_of (Refuse code looked) ≡ chain.Field first = ap chain_of (sym answers) ∙ sym on.is ∙ is in absurd (cc)
  by More answers = let never : chain_of More ≡ chain.Field first = ap chain_of (sym answers) ∙ sym on.is ∙ is in absurd (cc)
