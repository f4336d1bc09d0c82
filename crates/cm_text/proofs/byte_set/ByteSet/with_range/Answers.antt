use Rattle.std.proofs.Common.{◌∙◌, ℕ, ap, arith}
use Rattle.cm_text.specs.ByteSets.{has_byte, with_range}
use Rattle.cm_text.proofs.SetBits.{no_range, range_below, range_in, range_is, range_within}
use Rattle.cm_text.proofs.byte_set.ByteSet.with_range.Goals as goal

pub returns-then-first-last-clause-value : goal.returns-then-first-last-clause-value
returns-then-first-last-clause-value c =
    no_range _ _ _ c.if-first-last.true ∙ ap (λ (set : ℕ). with_range set c.args.first c.args.last) c.self.view_is

pub returns-then-first-last-clause-bytes : goal.returns-then-first-last-clause-bytes
returns-then-first-last-clause-bytes c byte =
    ap (λ (set : ℕ). has_byte set byte)
    (no_range _ _ _ c.if-first-last.true ∙ ap (λ (set : ℕ). with_range set c.args.first c.args.last) c.self.view_is)
    ∙ range_in c.args.self c.args.first c.args.last byte

pub overflow_sub-result-3 : goal.overflow_sub-result-3
overflow_sub-result-3 c = range_within c.args.first c.args.last (omega (arith, c.if-first-last.false)) c.requires

pub invariant_of-result-2 : goal.invariant_of-result-2
invariant_of-result-2 c =
    range_below c.self.inside.bits c.args.first c.args.last c.self.invariant (omega (arith, c.if-first-last.false)) c.requires

pub returns-clause-value : goal.returns-clause-value
returns-clause-value c =
    range_is c.self.inside.bits c.args.first c.args.last (omega (arith, c.if-first-last.false)) c.requires
    ∙ ap (λ (set : ℕ). with_range set c.args.first c.args.last) c.self.view_is

pub returns-clause-bytes : goal.returns-clause-bytes
returns-clause-bytes c byte =
    ap (λ (set : ℕ). has_byte set byte)
    (range_is c.self.inside.bits c.args.first c.args.last (omega (arith, c.if-first-last.false)) c.requires
    ∙ ap (λ (set : ℕ). with_range set c.args.first c.args.last) c.self.view_is)
    ∙ range_in c.args.self c.args.first c.args.last byte
