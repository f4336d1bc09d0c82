-- Words, and what they ask for, as a program holds them: texts that are lent.
use Rattle.std.specs.Prelude.{option_copied}
use Rattle.ex_system.specs.Form.{Form, Three, Two}
use Rattle.ex_system.specs.declared.form.Form as asked
use Rattle.ex_system.specs.declared.words.Pair as pairs
use Rattle.ex_system.specs.declared.words.Triple as triples

abbrev pub pair_view : pairs.Pair → Two
pair_view it = record { first = it.first.now; second = it.second.now }

abbrev pub triple_view : triples.Triple → Three
triple_view it = record { first = it.first.now; second = it.second.now; third = it.third.now }

abbrev pub form_view : asked.Form → Form
form_view form = record { logs = form.logs; input = option_copied form.input; out = form.out.now }
