use Rattle.std.proofs.Common.{arith, sym}
use Rattle.std.proofs.lemmas.List.{length-take-le, take_all}
use Rattle.cm_text.specs.declared.name.TheConstants.{NAME_LIMIT}
use Rattle.cm_fields.proofs.outside.first_bytes.Goals as goal

pub returns-then-text-le-NAME_LIMIT-clause-value : goal.returns-then-text-le-NAME_LIMIT-clause-value
returns-then-text-le-NAME_LIMIT-clause-value c =
    sym (take_all NAME_LIMIT c.args.text.now (omega (arith, c.if-text-le-NAME_LIMIT.true)))

pub slice_bounds-result-end : goal.slice_bounds-result-end
slice_bounds-result-end c =
    sym (length-take-le NAME_LIMIT c.args.text.now (omega (arith, c.if-text-le-NAME_LIMIT.false)))

pub returns-else-text-le-NAME_LIMIT-clause-within : goal.returns-else-text-le-NAME_LIMIT-clause-within
returns-else-text-le-NAME_LIMIT-clause-within c =
    let size = length-take-le NAME_LIMIT c.args.text.now (omega (arith, c.if-text-le-NAME_LIMIT.false)) in
    omega (arith, size)
