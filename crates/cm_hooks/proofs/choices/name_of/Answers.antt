use Rattle.std.proofs.Common.{◌∙◌, List, ℕ, Some, ap, map, sym}
use Rattle.std.specs.Borrow.{Bor}
use Rattle.cm_hooks.specs.AmongLaws.{name_short, text_at}
use Rattle.cm_hooks.proofs.choices.name_of.Goals as goal

pub new-requires : goal.new-requires
new-requires c =
    name_short (map (λ (name : Bor (List ℕ)). name.now) c.args.names.now) c.args.number _ c.requires.names
    (text_at (λ (name : Bor (List ℕ)). name.now) c.args.names.now c.args.number _ c.requires.number)

pub returns : goal.returns
returns c =
    text_at (λ (name : Bor (List ℕ)). name.now) c.args.names.now c.args.number _ c.requires.number
    ∙ ap Some (sym c.new.ensures)
