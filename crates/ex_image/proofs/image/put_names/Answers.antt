use Rattle.std.proofs.Common.{List, ℕ, [], ◌∷◌, ◌++◌, ap, map, subst, ◌∙◌}
use Rattle.std.specs.List.{flat_map}
use Rattle.ex_image.specs.Image.{logical_record}
use Rattle.ex_image.specs.Record.{Connected, line_text, record_text}
use Rattle.ex_image.specs.Writing.{Appends}
use Rattle.ex_image.proofs.Appends.{appends_both, appends_early}
use Rattle.ex_image.proofs.image.put_names.Goals as goal

pub returns-in-Failed : goal.returns-in-Failed
returns-in-Failed g c = appends_early _ _ _ _ _ c.in-Failed.ensures

pub returns : goal.returns
returns g c =
    appends_both _ _ _ _ _ _ _ c.in_default.ensures
    (subst (λ line. Appends g.T.Target.tells (g.T.Target.outside c.put_after.new.target)
    (g.T.Target.outside c.put_after-2.new.target)
    (line ++ flat_map record_text (map logical_record c.args.parts.now.logical)) c.put_after-2.result)
    (c.as_bytes.ensures ∙ c.connected_line-line.ensures
    ∙ ap (λ (name : List ℕ). line_text (Connected name) ++ 10 ∷ []) c.connected.ensures) c.put_after-2.ensures)
