use Rattle.std.proofs.Common.{ℕ, List, map, take, ap, ◌∙◌}
use Rattle.std.specs.Char.{to_ascii_uppercase}
use Rattle.std.proofs.lemmas.List.{take_min}
use Rattle.cm_text.specs.declared.name.TheConstants.{NAME_LIMIT}
use Rattle.eg_router.specs.Command.{upper}
use Rattle.eg_router.proofs.command.name_of.Goals as goal

pub returns : goal.returns
returns c =
    let text : List ℕ = c.said_by-said.result.now in
    c.upper.ensures
    ∙ ap (λ (size : ℕ). map to_ascii_uppercase (take size text)) c.min.ensures
    ∙ ap (map to_ascii_uppercase) (take_min NAME_LIMIT text)
    ∙ ap upper c.said_by-said.ensures.value
