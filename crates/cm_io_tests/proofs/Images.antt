-- The pieces of an image, one by one.
use Rattle.std.proofs.Common.{ℕ, zero, suc, ◌≡◌, ◌≤◌, ◌≢◌, ◌-◌, refl, arith, List, [], ◌∷◌, ◌++◌, drop, take, map, length, get_or, append_assoc, Bor}
use Rattle.std.proofs.lemmas.List.{take_all}
use Rattle.std.specs.List.{concat}
use Rattle.cm_io_tests.specs.Image.{pieces}

-- the next piece comes before the others
pub next_piece : (bytes : List ℕ) (many : ℕ) (pieces : List (Bor (List ℕ))) (d : Bor (List ℕ)) (put : List ℕ)
    → 1 ≤ length pieces → many ≢ 0 → put ≡ bytes ++ (get_or pieces 0 d).now
    → put
    ++ concat (take (many - 1) (map (λ piece. piece.now) (take (length pieces - 1) (drop 1 pieces))))
    ≡ bytes ++ concat (take many (map (λ piece. piece.now) pieces))
next_piece bytes many [] d put some there is = absurd (omega (arith, some))
next_piece bytes zero (piece ∷ pieces) d put some there is = absurd (there refl)
next_piece bytes (suc many) (piece ∷ pieces) d put some there is =
    let less : suc many - 1 ≡ many = omega arith in
    rw (is, less, take_all (length (piece ∷ pieces) - 1) pieces (omega arith))
    (append_assoc bytes piece.now (concat (take many (map (λ it. it.now) pieces))))

-- all pieces
pub all_pieces : (image : List ℕ) (many : ℕ) → many ≡ length (pieces image) → take many (pieces image) ≡ pieces image
all_pieces image many is = take_all many (pieces image) (omega (arith, is))
