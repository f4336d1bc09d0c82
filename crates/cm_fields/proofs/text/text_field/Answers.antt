use Rattle.std.proofs.Common.{◌≡◌, ◌==◌, true, false, drop, take, refl, ap, sym, ◌∙◌, rules}
use Rattle.std.specs.List.{list_any, prefix_len}
use Rattle.std.proofs.lemmas.List.{take_rest}
use Rattle.cm_fields.specs.Text.{is_inside, text_of}
use Rattle.cm_fields.proofs.Ends.{ended_says, open_wants}
use Rattle.cm_fields.proofs.text.text_field.Goals as goal

pub returns-then-not-has_end : goal.returns-then-not-has_end
returns-then-not-has_end c =
    let rest = drop c.args.at c.args.text.now in
    let same : c.has_end.result ≡ list_any (λ byte. byte == 13) rest =
    c.has_end.ensures ∙ ap (list_any (λ byte. byte == 13)) (take_rest c.args.text.now c.args.at) in
    let none : c.has_end.result ≡ false = search rules in
    sym (open_wants rest c.args.at (sym same ∙ none))

pub returns : goal.returns
returns c =
    let rest = drop c.args.at c.args.text.now in
    let whole = take_rest c.args.text.now c.args.at in
    let same : c.has_end.result ≡ list_any (λ byte. byte == 13) rest =
    c.has_end.ensures ∙ ap (list_any (λ byte. byte == 13)) whole in
    let ends : c.has_end.result ≡ true = search rules in
    let size : c.inside_run-size.result ≡ prefix_len is_inside rest =
    c.inside_run-size.ensures.value ∙ ap (prefix_len is_inside) whole in
    let run : c.text_of.result ≡ text_of c.args.at (take (prefix_len is_inside rest) rest) =
    c.text_of.ensures ∙ rw (whole, size) refl in
    c.said.ensures ∙ rw (run, size) (sym (ended_says rest c.args.at (sym same ∙ ends)))
