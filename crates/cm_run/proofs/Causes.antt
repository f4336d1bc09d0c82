-- [run-cause] Causes of calls that follow one another.
use Rattle.std.specs.Prelude.{Bool, true, false, List, [], ◌∷◌, length, ◌<◌, ◌+◌}
use Rattle.std.proofs.Common.{arith, ◌≡◌, ◌≤◌, ℕ, refl, ap, sym, subst, ◌∙◌}
use Rattle.std.specs.Prelude.{Result, Ok, Err}
use Rattle.cm_lists.proofs.Pieces.{length_of_cons}
use Rattle.cm_io.specs.Fault.{Rose, next_count}
use Rattle.cm_run.specs.declared.stop.Stop.{Stop}
use Rattle.cm_run.specs.declared.stop.Stop.TheVariants as stop
use Rattle.cm_run.specs.Cause.{Counts, KeyCount, KeystrokeCause, ObeyCause, OverCount, RunCause, StopCause, counts}

-- after a call at which no count rose
pub obey_cause_on : (a b c : ℕ) (result : Result Unit Stop) → b ≡ a → ObeyCause b c result → ObeyCause a c result
obey_cause_on a b c result stays cause = subst (λ n. ObeyCause n c result) stays cause

pub keystroke_run : (a b c : Counts) (result : Result Unit Stop) → b ≡ a → KeystrokeCause b c result → RunCause a c result
unfolding KeystrokeCause RunCause
keystroke_run a b c (Ok value) stays cause = cause ∙ stays
keystroke_run a b c (Err stop.Screen) stays cause = subst (λ from. StopCause from c stop.Screen) stays cause
keystroke_run a b c (Err stop.Log) stays cause = subst (λ from. StopCause from c stop.Log) stays cause
keystroke_run a b c (Err stop.Memory) stays cause = cause ∙ stays
keystroke_run a b c (Err stop.Keys) stays cause = absurd cause
keystroke_run a b c (Err stop.Limit) stays cause = absurd cause

-- acts after an echo and a log line at which no count rose
pub acts_cause : (keys screen screen' screen'' log log' : ℕ) (result : Result Unit Stop) → ObeyCause screen' screen'' result
    → screen' ≡ screen → log' ≡ log → KeystrokeCause (counts screen log keys) (counts screen'' log' keys) result
unfolding ObeyCause KeystrokeCause
acts_cause keys screen screen' screen'' log log' (Ok value) cause shown put = let same : screen'' ≡ screen = cause ∙ shown in cc
acts_cause keys screen screen' screen'' log log' (Err stop.Screen) cause shown put =
    (subst (λ n. Rose n screen'') shown cause, ap (λ n. counts screen'' n keys) put)
acts_cause keys screen screen' screen'' log log' (Err stop.Memory) cause shown put = let same : screen'' ≡ screen = cause ∙ shown in cc
acts_cause keys screen screen' screen'' log log' (Err stop.Log) cause shown put = absurd cause
acts_cause keys screen screen' screen'' log log' (Err stop.Keys) cause shown put = absurd cause
acts_cause keys screen screen' screen'' log log' (Err stop.Limit) cause shown put = absurd cause

-- the screen failed at an echo
pub echo_cause : (keys screen screen' log : ℕ) → Rose screen screen' → KeystrokeCause (counts screen log keys) (counts screen' log keys) (Err stop.Screen)
unfolding KeystrokeCause
echo_cause keys screen screen' log rose = (rose, refl)

-- the log failed after one
pub log_cause : (keys screen screen' log log' : ℕ) → Rose log log' → screen' ≡ screen → KeystrokeCause (counts screen log keys) (counts screen' log' keys) (Err stop.Log)
unfolding KeystrokeCause
log_cause keys screen screen' log log' rose shown = (rose, ap (λ n. counts n log' keys) shown)

-- no count rose in a run
pub run_quiet : (screen screen' log log' keys keys' : ℕ) (value : Unit) → screen' ≡ screen → log' ≡ log → keys' ≡ keys
    → RunCause (counts screen log keys) (counts screen' log' keys') (Ok value)
unfolding RunCause
run_quiet screen screen' log log' keys keys' value a b c = cc

pub run_limit : (screen screen' log log' keys keys' : ℕ) → screen' ≡ screen → log' ≡ log → keys' ≡ keys
    → RunCause (counts screen log keys) (counts screen' log' keys') (Err stop.Limit)
unfolding RunCause
run_limit screen screen' log log' keys keys' a b c = cc

-- or that of the keys alone
pub run_unread : (screen screen' log log' keys keys' keys'' : ℕ) → screen' ≡ screen → log' ≡ log → keys' ≡ keys → Rose keys' keys''
    → RunCause (counts screen log keys) (counts screen' log' keys'') (Err stop.Keys)
unfolding RunCause
run_unread screen screen' log log' keys keys' keys'' a b c rose =
    (subst (λ n. Rose n keys'') c rose, ap (λ n. counts n log' keys'') a ∙ ap (λ n. counts screen n keys'') b)

-- how many keys were taken where the application has ended the run
pub count_over : (limit before now turn : ℕ) (ended : Bool) (value : Unit) → before ≡ now + turn → turn ≤ limit → ended ≡ true → KeyCount limit before now ended (Ok value)
unfolding KeyCount
count_over limit before now turn ended value taken most is =
    let within : before ≤ now + limit = omega arith in subst (λ it. OverCount limit before now it) (sym is) within

over : (limit before now : ℕ) (ended : Bool) → before < now + limit → OverCount limit before now ended
over limit before now true below = omega arith
over limit before now false below = below

-- where none is left
pub count_end : (limit before turn : ℕ) (keys left : List ℕ) (ended : Bool) (value : Unit) → before ≡ length keys + turn → turn < limit → keys ≡ [] → left ≡ []
    → KeyCount limit before (length left) ended (Ok value)
unfolding KeyCount
count_end limit before turn keys left ended value taken below none end =
    let no_keys : length keys ≡ 0 = ap length none in
    let no_left : length left ≡ 0 = ap length end in
    over limit before (length left) ended (omega arith)

-- where they could not be read on
pub count_unread : (limit before turn : ℕ) (keys left : List ℕ) (ended : Bool) → before ≡ length keys + turn → turn < limit → left ≡ keys
    → KeyCount limit before (length left) ended (Err stop.Keys)
unfolding KeyCount
count_unread limit before turn keys left ended taken below same =
    let as_many : length left ≡ length keys = ap length same in omega arith

-- at the limit
pub count_limit : (limit before now turn : ℕ) (ended : Bool) → before ≡ now + turn → turn ≤ limit → limit ≤ turn → ended ≡ false → KeyCount limit before now ended (Err stop.Limit)
unfolding KeyCount
count_limit limit before now turn ended taken most least is = (omega arith, is)

within : (limit before now : ℕ) (ended : Bool) (why : Stop) (a b : Counts) → before ≤ now + limit → KeystrokeCause a b (Err why) → KeyCount limit before now ended (Err why)
unfolding KeyCount KeystrokeCause
within limit before now ended stop.Screen a b most cause = most
within limit before now ended stop.Log a b most cause = most
within limit before now ended stop.Memory a b most cause = most
within limit before now ended stop.Keys a b most cause = absurd cause
within limit before now ended stop.Limit a b most cause = absurd cause

-- where a key is cut short
pub count_cut : (limit before turn : ℕ) (keys left : List ℕ) (key : ℕ) (ended : Bool) (why : Stop) (a b : Counts) → before ≡ length keys + turn → turn < limit → keys ≡ key ∷ left
    → KeystrokeCause a b (Err why) → KeyCount limit before (length left) ended (Err why)
count_cut limit before turn keys left key ended why a b taken below first cause =
    let as_many : length keys ≡ length left + 1 = length_of_cons keys left key first in
    within limit before (length left) ended why a b (omega arith) cause

-- where the first prompt is
pub count_prompt : (limit before screen screen' log : ℕ) (ended : Bool) (why : Stop) → ObeyCause screen screen' (Err why) → KeyCount limit before before ended (Err why)
count_prompt limit before screen screen' log ended why cause =
    within limit before before ended why (counts screen log 0) (counts screen' log 0) (omega arith)
    (acts_cause 0 screen screen screen' log log (Err why) cause refl refl)

pub counts_same : (screen screen' log log' keys keys' : ℕ) → screen' ≡ screen → log' ≡ log → keys' ≡ keys → counts screen' log' keys' ≡ counts screen log keys
counts_same screen screen' log log' keys keys' a b c = cc

-- one get a turn was asked, and no more turns than the limit says
pub asked_more : (before gets now turn : ℕ) → gets ≤ before + turn → now ≡ next_count gets → now ≤ before + (turn + 1)
asked_more before gets now turn few is = omega (arith, few, is)

pub asked_last : (limit before gets now turn : ℕ) → gets ≤ before + turn → turn < limit → now ≡ next_count gets
    → now ≤ before + limit
asked_last limit before gets now turn few below is = omega (arith, few, below, is)
