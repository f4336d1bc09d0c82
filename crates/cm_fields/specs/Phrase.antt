-- Guide words and fixed texts (.CMNOI, .CMTOK). Letters have no case.
use Rattle.std.specs.Prelude.{ℕ, ◌+◌, ◌==◌, not, ◌||◌, ◌&&◌, Bool, if◌then◌else◌, true, false, List, [], ◌∷◌, length, take, slice_get}
use Rattle.std.specs.Char.{to_ascii_lowercase}
use Rattle.std.specs.List.{prefix_len, common_prefix_len}
use Rattle.std.specs.Option.{option_map_or}
use Rattle.cm_text.specs.Case.{begins_with}
use Rattle.cm_fields.specs.declared.code.Code.TheVariants.{BadNoise, NotToken}
use Rattle.cm_fields.specs.declared.trial.Try.{Try}
use Rattle.cm_fields.specs.declared.trial.Try.TheVariants.{Accept, Refuse, More}
use Rattle.cm_fields.specs.declared.value.Value.TheVariants.{Noise, Token}

-- neither a closing parenthesis nor the end of the line
abbrev pub is_inside : ℕ → Bool
is_inside byte = not (byte == 41 || byte == 13)

-- after the opening parenthesis: a beginning of the phrase, and the closing parenthesis, which decides, as
-- the end of the line does
unfoldable pub typed_noise : List ℕ → List ℕ → ℕ → Try
typed_noise phrase inside at =
    let size = prefix_len is_inside inside in
    if size == length inside then More
    else (if option_map_or (λ byte. byte == 41) (slice_get inside size) false && begins_with phrase (take size inside)
    then Accept (Noise true) (size + 2) (at + (size + 2)) else Refuse BadNoise (size + 2))

-- with no parenthesis the guide word is absent, and the field has no bytes
abbrev pub noise : List ℕ → List ℕ → ℕ → Try
noise phrase [] at = More
noise phrase (byte ∷ rest) at = if byte == 40 then typed_noise phrase rest at else Accept (Noise false) 1 at

abbrev pub same_letter : ℕ → ℕ → Bool
same_letter byte other = to_ascii_lowercase byte == to_ascii_lowercase other

-- all bytes of the phrase; the first that differs decides
unfoldable pub token : List ℕ → List ℕ → ℕ → Try
token phrase rest at =
    let size = common_prefix_len same_letter phrase rest in
    if size == length phrase then Accept Token size (at + size)
    else (if size == length rest then More else Refuse NotToken (size + 1))
