use Rattle.std.proofs.Common.{◌≡◌, ◌∷◌, [], arith, append_assoc, bytes_eq, false, refl, take}
use Rattle.std.proofs.lemmas.Slice.Eq.{bytes_eq-Decides}
use Rattle.std.specs.Net.Addr.{ipv6_segments}
use Rattle.std.specs.Net.Text.{ipv6_text}
use Rattle.cm_net.proofs.pieces.push_ipv6.Goals as goal

pub returns-in-Some-clause-bytes : goal.returns-in-Some-clause-bytes
unfolding ipv6_text
returns-in-Some-clause-bytes c =
    let mapped = (bytes_eq-Decides _ _).1 (c.in-Some.ensures.found.0 refl) in
    rw (mapped, ← c.in-Some.ensures.value, c.push_dotted.ensures.bytes, c.push_str.ensures.bytes, c.octets.ensures) (simp append_assoc)

pub returns-in-None-clause-bytes : goal.returns-in-None-clause-bytes
unfolding ipv6_text
returns-in-None-clause-bytes c =
    let segments = ipv6_segments c.args.address in
    let other : bytes_eq (take 6 segments) (0 ∷ 0 ∷ 0 ∷ 0 ∷ 0 ∷ 0xffff ∷ []) ≡ false =
    grind (arith, bytes_eq-Decides (take 6 segments) (0 ∷ 0 ∷ 0 ∷ 0 ∷ 0 ∷ 0xffff ∷ []), c.in-None.ensures.found) in
    rw (other, c.push_compressed.ensures.bytes, c.segments.ensures) refl
