-- The keys with which the typing of a file ends.
use Rattle.std.proofs.Common.{◌≡◌, ◌≢◌, ℕ, ◌==◌, ◌||◌, Bool, true, false, cond, List, Option, None, Some, length, slice_get, codes, ◌-◌, arith, refl, sym, ◌∙◌}
use Rattle.std.proofs.lemmas.Bool.Decides.{nat_tests}
use Rattle.cm_text.specs.ScreenBytes.{control_c, end_of_line}
use Rattle.ex_commands.specs.FileTyping.{adding, echo_of, echo_text, is_typed, rubbing, turn_of}
use Rattle.ex_commands.specs.declared.data.DataTurn.TheVariants as turns
use Rattle.ex_commands.specs.declared.data.Echo.{Echo}
use Rattle.ex_commands.specs.declared.data.Echo.TheVariants as echoes
use Rattle.ex_commands.proofs.LineEnds.{Ended, ended_after, eol_ends}

-- one of two echoes writes nothing where neither does
choice_keeps : (test : Bool) (one other : Echo) → turn_of one ≢ turns.Write → turn_of other ≢ turns.Write
    → turn_of (cond test one other) ≢ turns.Write
choice_keeps true one other here there = here
choice_keeps false one other here there = there

rubbing_keeps : (last : Option ℕ) → turn_of (rubbing last) ≢ turns.Write
rubbing_keeps None = λ is. cc
rubbing_keeps (Some last) = choice_keeps (last == 10) echoes.Bell echoes.Rubout (λ is. cc) (λ is. cc)

last_keeps : (key : ℕ) → key ≢ 26 → (test : Bool) → (key == 26) ≡ test
    → turn_of (cond test echoes.Written (cond (key == 3) echoes.Dropped echoes.Bell)) ≢ turns.Write
last_keeps key other true is = let same : key ≡ 26 = grind (arith, nat_tests) in absurd (other same)
last_keeps key other false is = choice_keeps (key == 3) echoes.Dropped echoes.Bell (λ is. cc) (λ is. cc)

-- control-Z alone writes the file
pub others_keep : (bytes : List ℕ) (key : ℕ) → key ≢ 26 → turn_of (echo_of bytes key) ≢ turns.Write
unfolding echo_of
others_keep bytes key other =
    choice_keeps (is_typed key) (adding bytes (echoes.Byte key)) _ (choice_keeps _ (echoes.Byte key) echoes.Bell (λ is. cc) (λ is. cc))
    (choice_keeps (key == 13 || key == 10) (adding bytes echoes.Line) _ (choice_keeps _ echoes.Line echoes.Bell (λ is. cc) (λ is. cc))
    (choice_keeps (key == 127) (rubbing (slice_get bytes (length bytes - 1))) _ (rubbing_keeps (slice_get bytes (length bytes - 1)))
    (last_keeps key other (key == 26) refl)))

-- so a key that writes it is control-Z
pub writes_at : (bytes : List ℕ) (key : ℕ) → turn_of (echo_of bytes key) ≡ turns.Write → key ≡ 26
writes_at bytes key is = by (key == 26) refl where
  by : (test : Bool) → (key == 26) ≡ test → key ≡ 26
  by true same = grind (arith, nat_tests, same)
  by false other =
      absurd (others_keep bytes key (λ same. let both : false ≡ true = sym other ∙ grind (arith, nat_tests, same) in cc) is)

-- a key with which the typing ends shows the end of a line
echo_ends : (echo : Echo) → turn_of echo ≢ turns.More → Ended (echo_text echo)
unfolding echo_text
echo_ends (echoes.Byte byte) ends = absurd (ends refl)
echo_ends echoes.Line ends = absurd (ends refl)
echo_ends echoes.Bell ends = absurd (ends refl)
echo_ends echoes.Rubout ends = absurd (ends refl)
echo_ends echoes.Written ends = ended_after (codes "^Z") end_of_line eol_ends
echo_ends echoes.Dropped ends = ended_after control_c end_of_line eol_ends

pub last_key_ends : (bytes : List ℕ) (key : ℕ) → turn_of (echo_of bytes key) ≢ turns.More → Ended (echo_text (echo_of bytes key))
last_key_ends bytes key ends = echo_ends (echo_of bytes key) ends
