use Rattle.eg_router.proofs.Fields.{address_is, name_is, text_is}
use Rattle.eg_router.proofs.laws.the_fields_are_what_was_written.Goals as goal

pub returns-clause-address : goal.returns-clause-address
returns-clause-address c = address_is

pub returns-clause-text : goal.returns-clause-text
returns-clause-text c = text_is

pub returns-clause-name : goal.returns-clause-name
returns-clause-name c = name_is
