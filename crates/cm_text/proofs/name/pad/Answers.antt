use Rattle.std.proofs.Common.{ℕ, ◌++◌, ◌∙◌, List, ap, drop, length, replicate}
use Rattle.std.proofs.lemmas.List.{drop-replicate}
use Rattle.cm_text.specs.declared.name.TheConstants.{NAME_LIMIT}
use Rattle.cm_text.proofs.name.pad.Goals as goal

pub returns : goal.returns
returns c =
    let text : List ℕ = c.args.text.now in
    ap (λ (it : List ℕ). it ++ drop (length text) (replicate NAME_LIMIT 0)) c.copy_from_slice.ensures.after
    ∙ ap (λ (it : List ℕ). text ++ it) (drop-replicate (length text) NAME_LIMIT 0)
