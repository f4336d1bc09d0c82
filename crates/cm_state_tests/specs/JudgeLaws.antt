-- What the rules of the tests complete they take: they complete nothing whole. And the names that they list.
use Rattle.std.proofs.Common.{◌≡◌, ℕ, zero, suc, ◌<◌, ◌≤◌, ◌==◌, Bool, true, false, cond, List, [], None, Some, length, replicate, slice_get, refl, arith}
use Rattle.std.specs.Prelude.{codes}
use Rattle.std.specs.List.{list_all}
use Rattle.std.proofs.lemmas.List.{length-replicate}
use Rattle.std.proofs.lemmas.Option.{slice_get_past}
use Rattle.cm_lists.proofs.Bools.{cond_each}
use Rattle.cm_text.specs.Bytes.{is_name, is_word}
use Rattle.cm_hooks.specs.declared.answer.Tail.TheVariants as tails
use Rattle.cm_hooks.specs.FieldBytes.{FieldBytes}
use Rattle.cm_hooks.specs.Meanings.{Completes, IsLawful}
use Rattle.cm_state_tests.specs.Judges.{bytes, completion, help, long_name, long_names, name_of, names, port, ports, verdict}

-- what goes on with .100 has points
with_points : (id : ℕ) → (id == 4) ≡ true → list_all (bytes id).test (codes ".100") ≡ true
unfolding is_name is_word
with_points id is = rw is refl

-- and a Z is a byte of each field
with_z : (id : ℕ) → list_all (bytes id).test (codes "Z") ≡ true
unfolding is_name is_word
with_z id = cond_each (λ (it : FieldBytes). list_all it.test (codes "Z") ≡ true) (id == 4) _ _ refl refl

pub judges_lawful : IsLawful (record {
  bytes = bytes;
  names = names;
  verdict = verdict;
  completion = λ id atom. completion id;
  help = help;
})
judges_lawful = record { completes = λ id atom short. by id atom (id == 4) refl }
  where
    by : (id : ℕ) (atom : List ℕ) (four : Bool) → (id == 4) ≡ four
        → Completes (bytes id).test (verdict id) atom
        (cond (id == 1) (tails.Part (codes "Z")) (cond four (tails.Part (codes ".100")) tails.None))
    by id atom true is =
        cond_each (Completes (bytes id).test (verdict id) atom) (id == 1) _ _ (with_z id) (with_points id is)
    by id atom false is = cond_each (Completes (bytes id).test (verdict id) atom) (id == 1) _ _ (with_z id) tt

-- the names that are listed, by their numbers
port_at : (number : ℕ) → number < 3 → slice_get ports number ≡ Some (port number)
port_at zero within = refl
port_at (suc zero) within = refl
port_at (suc (suc zero)) within = refl
port_at (suc (suc (suc number))) within = absurd (omega (arith, within))

long_at : (number : ℕ) → number < 4 → slice_get long_names number ≡ Some (long_name number)
long_at zero within = refl
long_at (suc zero) within = refl
long_at (suc (suc zero)) within = refl
long_at (suc (suc (suc zero))) within = refl
long_at (suc (suc (suc (suc number)))) within = absurd (omega (arith, within))

lamp_at : (count number : ℕ) → number < count → slice_get (replicate count (codes "lamp")) number ≡ Some (codes "lamp")
lamp_at zero number within = absurd (omega (arith, within))
lamp_at (suc count) zero within = refl
lamp_at (suc count) (suc number) within = lamp_at count number (omega (arith, within))

pub name_at : (id number : ℕ) → number < length (names id) → slice_get (names id) number ≡ Some (name_of id number)
name_at id number within = by (id == 4) (id == 5) (id == 6) within
  where
    by : (four five six : Bool)
        → number < length (cond four ports (cond five (replicate 61 (codes "lamp")) (cond six long_names [])))
        → slice_get (cond four ports (cond five (replicate 61 (codes "lamp")) (cond six long_names []))) number
        ≡ Some (cond four (port number) (cond five (codes "lamp") (long_name number)))
    by true five six within = port_at number within
    by false true six within =
        let size = length-replicate 61 (codes "lamp") in lamp_at 61 number (omega (arith, within, size))
    by false false true within = long_at number within
    by false false false within = absurd (omega (arith, within))

-- there is none from their number on
pub name_past : (id number : ℕ) → length (names id) ≤ number → slice_get (names id) number ≡ None
name_past id number past = slice_get_past (names id) number past
