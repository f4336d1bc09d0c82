use Rattle.std.proofs.Common.{◌∙◌}
use Rattle.cm_fields.proofs.QuotedNames.{byte_pushed}
use Rattle.cm_fields.proofs.quotes.+push_unquoted.Goals as goal

pub returns-in-len1-up : goal.returns-in-len1-up
returns-in-len1-up t c =
    c.push_unquoted.ensures
    ∙ byte_pushed c.push.result c.args.name.now c.push.new.self c.args.text.now c.after_byte.result.now
    c.in-len1-up.len_at_least c.push.ensures.fits c.push.ensures.pushed c.push.ensures.full c.requires.within
    c.after_byte.ensures.said
