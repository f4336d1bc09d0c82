use Rattle.std.proofs.Common.{ℕ, ◌∙◌, List, ap, arith}
use Rattle.std.specs.List.{fold}
use Rattle.std.proofs.lemmas.List.{take_all}
use Rattle.cm_text.specs.ByteSets.{has_byte, set_of, with_byte}
use Rattle.cm_text.proofs.SetBits.{set_has}
use Rattle.cm_text.proofs.byte_set.ByteSet.of.Goals as goal

pub returns-clause-bytes : goal.returns-clause-bytes
unfolding set_of
returns-clause-bytes c byte =
    let bytes : List ℕ = c.args.bytes.now in
    ap (λ (set : ℕ). has_byte set byte)
    (c.loop-byte.invariant
    ∙ ap (λ (some : List ℕ). fold with_byte 0 some) (take_all c.loop-byte.byte-index bytes (omega (arith, c.loop-byte-test.false))))
    ∙ set_has bytes byte
