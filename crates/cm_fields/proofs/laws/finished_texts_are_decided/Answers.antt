use Rattle.std.proofs.Common.{refl}
use Rattle.cm_text.specs.Bytes.{is_word}
use Rattle.cm_text.specs.ByteSets.{has_byte}
use Rattle.cm_fields.specs.Numeral.{numeral_of}
use Rattle.cm_fields.specs.Run.{number_of, run_of, word_of}
use Rattle.cm_fields.specs.Text.{is_inside, text_of}
use Rattle.cm_fields.proofs.LineEnds.{comma_decides, confirm_decides, long_quoted_decides, noise_decides, quoted_decides, run_decides, token_decides}
use Rattle.cm_fields.proofs.laws.finished_texts_are_decided.Goals as goal

pub returns-clause-noise : goal.returns-clause-noise
returns-clause-noise c = noise_decides

pub returns-clause-token : goal.returns-clause-token
returns-clause-token c = token_decides

pub returns-clause-number : goal.returns-clause-number
unfolding is_word
returns-clause-number c = run_decides is_word (λ at. number_of) refl

pub returns-clause-numeral : goal.returns-clause-numeral
unfolding is_word
returns-clause-numeral c numbers = run_decides is_word (λ at. numeral_of numbers) refl

pub returns-clause-word : goal.returns-clause-word
unfolding is_word
returns-clause-word c = run_decides is_word word_of refl

pub returns-clause-run : goal.returns-clause-run
returns-clause-run c set outside = run_decides (has_byte set) run_of outside

pub returns-clause-quoted : goal.returns-clause-quoted
returns-clause-quoted c = quoted_decides

pub returns-clause-long_quoted : goal.returns-clause-long_quoted
returns-clause-long_quoted c = long_quoted_decides

pub returns-clause-text : goal.returns-clause-text
returns-clause-text c = run_decides is_inside text_of refl

pub returns-clause-comma : goal.returns-clause-comma
returns-clause-comma c = comma_decides

pub returns-clause-confirm : goal.returns-clause-confirm
returns-clause-confirm c = confirm_decides
