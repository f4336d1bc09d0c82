-- Every function is local: keywords, switches, and with those of the crates below each function of a block.
use Rattle.std.proofs.Common.{◌≡◌, ℕ, ◌-◌, List, length, drop, subst, length-drop}
use Rattle.cm_text.specs.Bytes.{is_word}
use Rattle.cm_text.specs.ByteSets.{has_byte}
use Rattle.cm_dates.specs.Date.{date_of}
use Rattle.cm_fields.specs.declared.trial.Try.{Try}
use Rattle.cm_fields.specs.declared.value.FileKind.TheVariants.{In, Out, Any}
use Rattle.cm_fields.specs.Local.{IsLocal, IsSeen}
use Rattle.cm_fields.specs.Numeral.{numeral_of}
use Rattle.cm_fields.specs.Run.{number_of, run_of, word_of}
use Rattle.cm_fields.specs.Text.{is_inside, text_of}
use Rattle.cm_fields.proofs.Marks.{comma_is_local, confirm_is_local}
use Rattle.cm_fields.proofs.Phrases.{noise_is_local, token_is_local}
use Rattle.cm_fields.proofs.QuotedTexts.{long_quoted_is_local, quoted_is_local}
use Rattle.cm_fields.proofs.Runs.{run_is_local}
use Rattle.cm_files.specs.declared.flags.Flags.{Flags}
use Rattle.cm_files.proofs.Trials.{directory_is_local, file_is_local, user_is_local}
use Rattle.cm_hooks.specs.Field.{hook_of}
use Rattle.cm_blocks.specs.declared.function.Function.{Function}
use Rattle.cm_blocks.specs.declared.function.Function.TheVariants.{Key, Switch, Noise, Number, Numeral, Word, Run, Quoted, LongQuoted, Token, Date, User, Directory, InFile, OutFile, AnyFile, Text, Comma, Confirm, Hook}
use Rattle.cm_blocks.specs.Keyword.{entry_position, key_value}
use Rattle.cm_blocks.specs.Setting.{Setting}
use Rattle.cm_blocks.specs.Trial.{table_of, trial}
use Rattle.cm_blocks.proofs.Switches.{switch_is_local}

pub trial_is_local : (s : Setting) (function : Function) (flags : Flags) → IsLocal (trial s function flags)
unfolding trial
trial_is_local s (Key table) flags =
    run_is_local is_word (λ at run. key_value (table_of s.graph table) (entry_position (table_of s.graph table) run))
trial_is_local s (Switch table) flags = switch_is_local (table_of s.graph table)
trial_is_local s (Noise text) flags = noise_is_local text
trial_is_local s Number flags = run_is_local is_word (λ at. number_of)
trial_is_local s (Numeral numbers) flags = run_is_local is_word (λ at. numeral_of numbers)
trial_is_local s Word flags = run_is_local is_word word_of
trial_is_local s (Run set) flags = run_is_local (has_byte set) run_of
trial_is_local s Quoted flags = quoted_is_local
trial_is_local s LongQuoted flags = long_quoted_is_local
trial_is_local s (Token text) flags = token_is_local text
trial_is_local s Date flags = run_is_local is_word (λ at. date_of)
trial_is_local s User flags = user_is_local s.catalogue
trial_is_local s Directory flags = directory_is_local flags.new s.catalogue
trial_is_local s InFile flags = file_is_local s.catalogue In flags
trial_is_local s OutFile flags = file_is_local s.catalogue Out flags
trial_is_local s AnyFile flags = file_is_local s.catalogue Any flags
trial_is_local s Text flags = run_is_local is_inside text_of
trial_is_local s Comma flags = comma_is_local
trial_is_local s Confirm flags = confirm_is_local
trial_is_local s (Hook id) flags = run_is_local (s.meanings.bytes id).test (λ at. hook_of s.meanings.verdict id)

-- the same of an answer to what is in a text from a place on
pub seen_from : (trial : List ℕ → ℕ → Try) → IsLocal trial → (text : List ℕ) (at : ℕ) (answer : Try)
    → answer ≡ trial (drop at text) at → IsSeen (length text - at) answer
seen_from trial local text at answer is =
    let size = length-drop at text in
    rw is (subst (λ n. IsSeen n (trial (drop at text) at)) size (local.seen (drop at text) at))
