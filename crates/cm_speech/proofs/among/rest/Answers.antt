use Rattle.std.proofs.Common.{length, rules}
use Rattle.std.proofs.lemmas.Str.{IsAscii-drop, IsCharBoundary-from_ascii}
use Rattle.cm_text.specs.BeginLaws.{begins-le}
use Rattle.cm_speech.proofs.Lawful.{name_is_ascii}
use Rattle.cm_speech.proofs.among.rest.Goals as goal

pub range_from-requires : goal.range_from-requires
range_from-requires c =
    λ _. IsCharBoundary-from_ascii _ _ (name_is_ascii _ c.requires.name) (begins-le _ _ c.requires.begins)

pub returns-clause-ascii : goal.returns-clause-ascii
returns-clause-ascii c =
    let name = c.args.name.now in
    let rest = IsAscii-drop name (length c.args.atom.now) (name_is_ascii name c.requires.name) in
    search (rules, rest)
