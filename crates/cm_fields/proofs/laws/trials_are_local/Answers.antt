use Rattle.cm_text.specs.Bytes.{is_word}
use Rattle.cm_text.specs.ByteSets.{has_byte}
use Rattle.cm_fields.specs.Numeral.{numeral_of}
use Rattle.cm_fields.specs.Run.{number_of, run_of, word_of}
use Rattle.cm_fields.specs.Text.{is_inside, text_of}
use Rattle.cm_fields.proofs.Marks.{comma_is_local, confirm_is_local}
use Rattle.cm_fields.proofs.Phrases.{noise_is_local, token_is_local}
use Rattle.cm_fields.proofs.QuotedTexts.{long_quoted_is_local, quoted_is_local}
use Rattle.cm_fields.proofs.Runs.{run_is_local}
use Rattle.cm_fields.proofs.laws.trials_are_local.Goals as goal

pub returns-clause-noise : goal.returns-clause-noise
returns-clause-noise c = noise_is_local

pub returns-clause-token : goal.returns-clause-token
returns-clause-token c = token_is_local

pub returns-clause-number : goal.returns-clause-number
returns-clause-number c = run_is_local is_word (λ at. number_of)

pub returns-clause-numeral : goal.returns-clause-numeral
returns-clause-numeral c numbers = run_is_local is_word (λ at. numeral_of numbers)

pub returns-clause-word : goal.returns-clause-word
returns-clause-word c = run_is_local is_word word_of

pub returns-clause-run : goal.returns-clause-run
returns-clause-run c set = run_is_local (has_byte set) run_of

pub returns-clause-quoted : goal.returns-clause-quoted
returns-clause-quoted c = quoted_is_local

pub returns-clause-long_quoted : goal.returns-clause-long_quoted
returns-clause-long_quoted c = long_quoted_is_local

pub returns-clause-text : goal.returns-clause-text
returns-clause-text c = run_is_local is_inside text_of

pub returns-clause-comma : goal.returns-clause-comma
returns-clause-comma c = comma_is_local

pub returns-clause-confirm : goal.returns-clause-confirm
returns-clause-confirm c = confirm_is_local
