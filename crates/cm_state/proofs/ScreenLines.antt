-- [key-echo] Lines on the screen, and the join bytes that go.
use Rattle.std.proofs.Common.{◌≡◌, ℕ, zero, suc, ◌+◌, ◌<◌, false, List, [], ◌∷◌, ◌++◌, length, take, drop, get_or, refl, ap, ◌∙◌, append-nil}
use Rattle.std.proofs.lemmas.List.{take_more}
use Rattle.std.proofs.Math.Seq.{drop-length}
use Rattle.std.proofs.lemmas.Grind.{flat_map-append}
use Rattle.cm_text.specs.ScreenBytes.{shown_byte}
use Rattle.cm_line.specs.declared.key.KeyClass.{KeyClass}
use Rattle.cm_state.specs.Echo.{has_join, left, screen_line, takes_join}

-- one byte more on the screen
pub shown_more : (line : List ℕ) (i : ℕ) (d : ℕ) → i < length line
    → screen_line (take (i + 1) line) ≡ screen_line (take i line) ++ shown_byte (get_or line i d)
shown_more line i d within =
    ap screen_line (take_more line i d within)
    ∙ flat_map-append shown_byte (take i line) (get_or line i d ∷ [])
    ∙ ap (λ (shown : List ℕ). screen_line (take i line) ++ shown) (append-nil (shown_byte (get_or line i d)))

-- nothing is after the end of a line
pub none_goes : (line : List ℕ) → has_join (drop (length line) line) ≡ false
none_goes line = ap has_join (drop-length line)

-- and nothing in an empty one
nothing_after : (size : ℕ) → has_join (drop size []) ≡ false
nothing_after zero = refl
nothing_after (suc size) = refl

pub nothing_goes : (class : KeyClass) → takes_join class [] ≡ false
nothing_goes class = nothing_after (left class [])
