-- A user, a directory or a file that is completed whole is taken.
use Rattle.std.proofs.Common.{◌≡◌, ℕ, ◌+◌, Bool, true, false, ◌&&◌, if◌then◌else◌, List, [], ◌∷◌, ◌++◌, length, Some, None, Result, Ok, refl, ap, sym, subst, ◌∙◌, append_assoc, append-nil}
use Rattle.std.specs.List.{list_all}
use Rattle.std.proofs.lemmas.Bool.{and_parts}
use Rattle.cm_lists.proofs.Prefixes.{prefix_len_drop}
use Rattle.cm_text.specs.Case.{begins_with}
use Rattle.cm_fields.specs.declared.code.Code.{Code}
use Rattle.cm_fields.specs.declared.trial.Try.{Try}
use Rattle.cm_fields.specs.declared.trial.Try.TheVariants.{Accept, Refuse, More}
use Rattle.cm_fields.specs.declared.value.Value.{Value}
use Rattle.cm_fields.specs.Local.{IsLocal, Stays}
use Rattle.cm_fields.specs.Try.{by_run, said}
use Rattle.cm_recognise.specs.declared.outcome.Outcome.TheVariants.{Whole}
use Rattle.cm_recognise.specs.Candidates.{if_begins}
use Rattle.cm_recognise.specs.Outcome.{plain_outcome}
use Rattle.cm_recognise.proofs.Plains.{EndsAt, IsOwn, run_whole}

-- what is typed, completed, and a space and more after it are a field that ends with the completion
pub record TakesNamed (trial : List ℕ → ℕ → Try) (atom bytes more : List ℕ) (at : ℕ) : Type 0 where
  pub value : Value
  pub seen : ℕ
  pub accepts : trial (atom ++ (bytes ++ 32 ∷ more)) at ≡ Accept value seen (at + length (atom ++ bytes))
  pub own : IsOwn value

-- the trial takes what is typed and a space
pub plain_named : (trial : List ℕ → ℕ → Try) → IsLocal trial → (atom bytes more : List ℕ) (at next after : ℕ)
    → EndsAt (at + length atom) (trial (atom ++ 32 ∷ []) at) → plain_outcome next (trial (atom ++ 32 ∷ []) at) ≡ Whole bytes after
    → TakesNamed trial atom bytes more at × (next ≡ after)
plain_named trial local atom bytes more at next after ends is = by (trial (atom ++ 32 ∷ []) at) refl ends is
  where
    by : (answer : Try) → trial (atom ++ 32 ∷ []) at ≡ answer → EndsAt (at + length atom) answer
        → plain_outcome next answer ≡ Whole bytes after → TakesNamed trial atom bytes more at × (next ≡ after)
    by (Refuse code looked) tried ends is = cc
    by More tried ends is = cc
    by (Accept value looked end) tried ends is =
        let none : [] ≡ bytes = cc in
        let same : next ≡ after = cc in
        let stays : trial ((atom ++ 32 ∷ []) ++ more) at ≡ Accept value looked end =
        subst (λ (answer : Try). Stays answer (trial ((atom ++ 32 ∷ []) ++ more) at)) tried (local.stays (atom ++ 32 ∷ []) more at) in
        let text : (atom ++ 32 ∷ []) ++ more ≡ atom ++ 32 ∷ more = append_assoc atom (32 ∷ []) more in
        let place : end ≡ at + length (atom ++ []) = ends.0 ∙ ap (λ (text : List ℕ). at + length text) (sym (append-nil atom)) in
        let plain : TakesNamed trial atom [] more at = record {
          value = value;
          seen = looked;
          accepts = ap (λ (text : List ℕ). trial text at) (sym text) ∙ stays ∙ ap (Accept value looked) place;
          own = ends.1;
        } in
        (subst (λ (bytes : List ℕ). TakesNamed trial atom bytes more at) none plain, same)

-- a run that is decided so
pub run_named : (is_part : ℕ → Bool) (decide : List ℕ → Result Value Code) (atom bytes more : List ℕ) (at : ℕ) (value : Value)
    → list_all is_part (atom ++ bytes) ≡ true → is_part 32 ≡ false → decide (atom ++ bytes) ≡ Ok value → IsOwn value
    → TakesNamed (by_run is_part decide) atom bytes more at
run_named is_part decide atom bytes more at value all space decided own =
    let run = prefix_len_drop is_part is_part (λ byte is. is) 0 (atom ++ bytes) all in
    let taken = run_whole is_part decide (atom ++ bytes) 32 more at run space in
    record {
      value = value;
      seen = length (atom ++ bytes) + 1;
      accepts = ap (λ (text : List ℕ). by_run is_part decide text at) (sym (append_assoc atom bytes (32 ∷ more))) ∙ taken
          ∙ ap (said at (length (atom ++ bytes)) (length (atom ++ bytes) + 1)) decided;
      own = own;
    }

-- a text that is listed and begins with what is typed
pub record Listed (typed text found : List ℕ) (listed : Bool) : Type 0 where
  pub same : text ≡ found
  pub listed_is : listed ≡ true
  pub begins : begins_with found typed ≡ true

pub listed_of : (typed : List ℕ) (listed : Bool) (text found : List ℕ) → if_begins typed listed text ≡ Some found
    → Listed typed text found listed
listed_of typed listed text found is = by (listed && begins_with text typed) refl is
  where
    by : (test : Bool) → (listed && begins_with text typed) ≡ test → (if test then Some text else None) ≡ Some found
        → Listed typed text found listed
    by true passes is =
        let same : text ≡ found = cc in
        let parts = and_parts listed (begins_with text typed) passes in
        record {
          same = same;
          listed_is = parts.0;
          begins = subst (λ (text : List ℕ). begins_with text typed ≡ true) same parts.1;
        }
    by false passes is = cc
