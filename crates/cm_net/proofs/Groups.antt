-- Segments that are written one after another.
use Rattle.std.proofs.Common.{◌≡◌, ℕ, suc, ◌+◌, ◌<◌, List, [], ◌∷◌, ◌++◌, length, drop, get_or, sym, ap, ◌∙◌, add-one, append_assoc, drop-cons}
use Rattle.std.specs.List.{flat_map}
use Rattle.std.specs.Net.Text.{hex}

-- a segment that has been written is no longer left
pub group_written : (before after whole segments : List ℕ) (i : ℕ) → i < length segments
    → after ≡ (before ++ 58 ∷ []) ++ hex (get_or segments i 0)
    → before ++ flat_map (λ t. 58 ∷ hex t) (drop i segments) ≡ whole
    → after ++ flat_map (λ t. 58 ∷ hex t) (drop (i + 1) segments) ≡ whole
group_written before after whole segments i within is left =
    let segment = get_or segments i 0 in
    let rest : List ℕ = flat_map (λ t. 58 ∷ hex t) (drop (suc i) segments) in
    let next : flat_map (λ t. 58 ∷ hex t) (drop (i + 1) segments) ≡ rest =
    ap (λ n. flat_map (λ t. 58 ∷ hex t) (drop n segments)) (add-one i) in
    let cut : flat_map (λ t. 58 ∷ hex t) (drop i segments) ≡ (58 ∷ hex segment) ++ rest =
    ap (λ (it : List ℕ). flat_map (λ t. 58 ∷ hex t) it) (drop-cons segments i 0 within) in
    ap (λ (it : List ℕ). it ++ flat_map (λ t. 58 ∷ hex t) (drop (i + 1) segments)) is
    ∙ ap (λ (it : List ℕ). ((before ++ 58 ∷ []) ++ hex segment) ++ it) next
    ∙ append_assoc (before ++ 58 ∷ []) (hex segment) rest
    ∙ append_assoc before (58 ∷ []) (hex segment ++ rest)
    ∙ sym (ap (λ (it : List ℕ). before ++ it) cut) ∙ left
