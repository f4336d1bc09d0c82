use Rattle.std.proofs.Common.{◌+◌, refl, ap, ◌∙◌}
use Rattle.std.specs.List.{prefix_len}
use Rattle.std.proofs.lemmas.List.{take_rest}
use Rattle.cm_text.specs.Bytes.{is_blank}
use Rattle.cm_fields.proofs.Ends.{after_blanks}
use Rattle.cm_fields.proofs.skipped.skip.Goals as goal

pub loop-size-init : goal.loop-size-init
loop-size-init c =
    let text = c.args.text.now in
    let size = c.blank_run.ensures.value ∙ ap (prefix_len is_blank) (take_rest text c.args.at) in
    after_blanks c.args.raw text c.args.at c.blank_run.result (c.args.at + c.blank_run.result) size refl
