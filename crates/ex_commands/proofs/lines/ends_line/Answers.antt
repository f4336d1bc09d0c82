use Rattle.std.proofs.Common.{◌≡◌, ℕ, suc, ◌-◌, ◌==◌, true, List, [], ◌∷◌, length, Option, Some, None, slice_get, refl, ap, sym, ◌∙◌, arith}
use Rattle.std.specs.List.{last_or}
use Rattle.std.specs.Option.{option_map_or}
use Rattle.ex_commands.specs.Replies.{ends_line}
use Rattle.ex_commands.proofs.lines.ends_line.Goals as goal

-- the last element of a list is at its last place
last_at : {X : Type 0} (other : Option X) (first : X) (more : List X)
    → last_or other (first ∷ more) ≡ slice_get (first ∷ more) (length more)
last_at other first [] = refl
last_at other first (second ∷ more) =
    let next : suc (length more) ≡ length (second ∷ more) = omega arith in
    last_at (Some first) second more ∙ ap (slice_get (first ∷ second ∷ more)) next

ends_by : (bytes : List ℕ) (byte : ℕ) → Some byte ≡ slice_get bytes (length bytes - 1) → (byte == 10) ≡ ends_line bytes
ends_by [] byte is = cc
ends_by (first ∷ more) byte is =
    let at : length (first ∷ more) - 1 ≡ length more = omega arith in
    ap (λ (last : Option ℕ). option_map_or (λ (byte : ℕ). byte == 10) last true)
    (is ∙ ap (slice_get (first ∷ more)) at ∙ sym (last_at None first more))

pub returns-in-Some : goal.returns-in-Some
returns-in-Some c = ends_by c.args.bytes.now c.in-Some.byte.now c.in-Some.ensures.value
