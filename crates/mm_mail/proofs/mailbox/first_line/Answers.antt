use Rattle.std.proofs.Common.{ℕ, ap, take, ◌∙◌}
use Rattle.std.proofs.lemmas.List.{take_min}
use Rattle.mm_mail.specs.declared.mailbox.TheConstants.{HEADER_BYTES}
use Rattle.mm_mail.proofs.mailbox.first_line.Goals as goal

pub returns : goal.returns
returns c =
    let bytes = c.args.bytes.now in
    let size = c.line_length.result in
    ap (λ (n : ℕ). take n (take size bytes)) c.min.ensures
    ∙ take_min HEADER_BYTES (take size bytes)
    ∙ ap (λ (n : ℕ). take HEADER_BYTES (take n bytes)) c.line_length.ensures.size
