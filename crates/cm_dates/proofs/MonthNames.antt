-- The months and their names.
-- The twelve months are twelve records of refl, under unfolding of month_of, month_name, equals and is_word. The loop
-- over 1..=12 has drop (month - 1) months in its invariant, and two answers (month_found, month_passed).
use Rattle.std.proofs.Common.{◌≡◌, ℕ, zero, suc, ◌+◌, ◌-◌, ◌≤◌, true, false, not, if◌then◌else◌, List, [], ◌∷◌, length, get_or, drop, Some, refl, ap, ◌∙◌, arith, drop-cons}
use Rattle.std.specs.Int.{IsInRange}
use Rattle.std.specs.List.{list_all}
use Rattle.cm_text.specs.Bytes.{is_word}
use Rattle.cm_text.specs.Case.{equals}
use Rattle.cm_dates.specs.Date.{is_hyphen, month_among, month_name, month_of, months}

-- the names from this month on
here : (month : ℕ) → 1 ≤ month → month ≤ 12 → drop (month - 1) months ≡ month_name month ∷ drop (month + 1 - 1) months
unfolding month_name
here month first last =
    let next : suc (month - 1) ≡ month + 1 - 1 = omega arith in
    drop-cons months (month - 1) [] (omega arith) ∙ ap (λ place. get_or months (month - 1) [] ∷ drop place months) next

pub month_found : (month : ℕ) (letters : List ℕ) → 1 ≤ month → month ≤ 12 → equals (month_name month) letters ≡ true
    → month_among (drop (month - 1) months) month letters ≡ Some month
month_found month letters first last same =
    ap (λ names. month_among names month letters) (here month first last)
    ∙ ap (λ test. if test then Some month else month_among (drop (month + 1 - 1) months) (month + 1) letters) same

pub month_passed : (month : ℕ) (letters : List ℕ) → 1 ≤ month → month ≤ 12 → equals (month_name month) letters ≡ false
    → month_among (drop (month - 1) months) month letters
    ≡ month_among (drop (month + 1 - 1) months) (month + 1) letters
month_passed month letters first last other =
    ap (λ names. month_among names month letters) (here month first last)
    ∙ ap (λ test. if test then Some month else month_among (drop (month + 1 - 1) months) (month + 1) letters) other

-- the name of a month is three word bytes with no hyphen, and those of that month
pub record IsName (month : ℕ) : Type 0 where
  pub size : length (month_name month) ≡ 3
  pub words : list_all is_word (month_name month) ≡ true
  pub plain : list_all (λ byte. not (is_hyphen byte)) (month_name month) ≡ true
  pub same : month_of (month_name month) ≡ Some month

pub is_name : (month : ℕ) → IsInRange 1 12 month → IsName month
unfolding month_name month_of equals is_word
is_name zero range = absurd (omega (arith, range.0))
is_name (suc zero) range =
    record { size = refl; words = refl; plain = refl; same = refl }
is_name (suc (suc zero)) range =
    record { size = refl; words = refl; plain = refl; same = refl }
is_name (suc (suc (suc zero))) range =
    record { size = refl; words = refl; plain = refl; same = refl }
is_name (suc (suc (suc (suc zero)))) range =
    record { size = refl; words = refl; plain = refl; same = refl }
is_name (suc (suc (suc (suc (suc zero))))) range =
    record { size = refl; words = refl; plain = refl; same = refl }
is_name (suc (suc (suc (suc (suc (suc zero)))))) range =
    record { size = refl; words = refl; plain = refl; same = refl }
is_name (suc (suc (suc (suc (suc (suc (suc zero))))))) range =
    record { size = refl; words = refl; plain = refl; same = refl }
is_name (suc (suc (suc (suc (suc (suc (suc (suc zero)))))))) range =
    record { size = refl; words = refl; plain = refl; same = refl }
is_name (suc (suc (suc (suc (suc (suc (suc (suc (suc zero))))))))) range =
    record { size = refl; words = refl; plain = refl; same = refl }
is_name (suc (suc (suc (suc (suc (suc (suc (suc (suc (suc zero)))))))))) range =
    record { size = refl; words = refl; plain = refl; same = refl }
is_name (suc (suc (suc (suc (suc (suc (suc (suc (suc (suc (suc zero))))))))))) range =
    record { size = refl; words = refl; plain = refl; same = refl }
is_name (suc (suc (suc (suc (suc (suc (suc (suc (suc (suc (suc (suc zero)))))))))))) range =
    record { size = refl; words = refl; plain = refl; same = refl }
is_name (suc (suc (suc (suc (suc (suc (suc (suc (suc (suc (suc (suc (suc month))))))))))))) range =
    absurd (omega (arith, range.1))
