-- How a run ends where nothing outside failed.
use Rattle.std.proofs.Common.{◌≡◌, ◌⊎◌, ℕ, ◌+◌, ◌<◌, ◌≤◌, IsTrue, Bool, true, false, List, [], ◌∷◌, ◌++◌, length, Result, Ok, Err, refl, sym, ap, ◌∙◌, subst, inl, inr, arith, length-append}
use Rattle.std.proofs.lemmas.List.{nil_from_length}
use Rattle.cm_io.specs.Contents.{Contents}
use Rattle.cm_run.specs.Cause.{Counts, KeyCount, OverCount}
use Rattle.cm_run.specs.Cut.{Traces}
use Rattle.cm_run.specs.Event.{Event, keys_of, state_after}
use Rattle.cm_run.specs.Moments.{RunsTo}
use Rattle.cm_run.specs.Observation.{Between, Observation, Performs}
use Rattle.cm_run.specs.Progress.{progress}
use Rattle.cm_run.specs.Trace.{RunState, keys_trace, starting}
use Rattle.cm_run.specs.declared.stop.Stop.{Stop}
use Rattle.cm_run.specs.declared.stop.Stop.TheVariants as stop
use Rattle.cm_run.proofs.Prefixes.{GoesOn, run_leads, runs_on}
use Rattle.cm_run.proofs.Progress.{progress-append, progress_ended}
use Rattle.ex_store.specs.State.{State}
use Rattle.ex_system.specs.Quiet.{IsQuiet}
use Rattle.ex_run.specs.Cause.{StatusCause}
use Rattle.ex_run.specs.Closing.{Closes, Ends}
use Rattle.ex_system.specs.Saving.{HostCause}
use Rattle.ex_system.specs.Start.{IsRun}
use Rattle.cm_io.specs.declared.status.Status.{Status}
use Rattle.cm_io.specs.declared.status.Status.TheVariants as status
use Rattle.ex_system.specs.Disk.{Disk}
use Rattle.ex_system.proofs.Starts.{not_quiet}
use Rattle.ex_system.specs.Form.{Form}
use Rattle.ex_run.specs.Over.{Over, has_ended, left_of, trace_of}
use Rattle.ex_run.specs.Scene.{Scene, Telling, seen}
use Rattle.ex_run.specs.Course.{AreQuiet, Ran}
use Rattle.ex_run.specs.declared.program.TheConstants.{KEY_LIMIT}
use Rattle.ex_run.proofs.Ends.{closes_done, is_not}

-- it is Done, or was halted by the limit of keys, or memory ran out
abbrev IsQuietEnd : Status → Type 0
IsQuietEnd result = (result ≡ status.Done) ⊎ (result ≡ status.KeyLimit) ⊎ (result ≡ status.NoMemory)

module _ (f g : Counts) (h k : ℕ) (screen : IsQuiet f.screen g.screen) (log : IsQuiet f.log g.log) (keys : IsQuiet f.keys g.keys)
    (host : IsQuiet h k) where
  cut : StatusCause f g status.WriteFault → ⊥
  cut (inl rose) = not_quiet f.screen g.screen rose.0 screen
  cut (inr rose) = not_quiet f.log g.log rose.0 log

  quiet_end : (result : Status) → IsRun result → StatusCause f g result → HostCause h k result → IsQuietEnd result
  quiet_end status.Done run cause host_cause = inl refl
  quiet_end status.KeyLimit run cause host_cause = inr (inl refl)
  quiet_end status.NoMemory run cause host_cause = inr (inr refl)
  quiet_end status.ReadFault run cause host_cause = absurd (not_quiet f.keys g.keys cause.0 keys)
  quiet_end status.WriteFault run cause host_cause = absurd (cut cause)
  quiet_end status.HostFault run cause host_cause = absurd (not_quiet h k host_cause host)
  quiet_end status.Stopped run cause host_cause = absurd cause
  quiet_end result run cause host_cause = absurd run

-- a run that closed as KeyLimit was cut short by the limit
ends_limit : (ended : Bool) (before now : Contents) (f g : ℕ) (result : Status) → Ends ended before now f g result → result ≡ status.KeyLimit → ⊥
ends_limit true before now f g result ends is =
    is_not result status.Done status.KeyLimit ends.0 is (λ (same : status.Done ≡ status.KeyLimit). cc) (λ (same : status.HostFault ≡ status.KeyLimit). cc)
ends_limit false before now f g result (inl ends) is =
    is_not result status.Done status.KeyLimit ends.0 is (λ (same : status.Done ≡ status.KeyLimit). cc) (λ (same : status.HostFault ≡ status.KeyLimit). cc)
ends_limit false before now f g result (inr ends) is =
    is_not result status.WriteFault status.KeyLimit ends.0 is (λ (same : status.WriteFault ≡ status.KeyLimit). cc) (λ (same : status.HostFault ≡ status.KeyLimit). cc)

closes_limit : (why : Result Unit Stop) (ended : Bool) (before now : Contents) (f g : ℕ) (result : Status) → Closes why ended before now f g result
    → result ≡ status.KeyLimit → why ≡ Err stop.Limit
unfolding Closes
closes_limit (Ok value) ended before now f g result closes is = absurd (ends_limit ended before now f g result closes is)
closes_limit (Err stop.Limit) ended before now f g result closes is = refl
closes_limit (Err stop.Keys) ended before now f g result closes is =
    absurd (is_not result status.ReadFault status.KeyLimit closes.0 is (λ (same : status.ReadFault ≡ status.KeyLimit). cc) (λ (same : status.HostFault ≡ status.KeyLimit). cc))
closes_limit (Err stop.Memory) ended before now f g result closes is =
    absurd (is_not result status.NoMemory status.KeyLimit closes.0 is (λ (same : status.NoMemory ≡ status.KeyLimit). cc) (λ (same : status.HostFault ≡ status.KeyLimit). cc))
closes_limit (Err stop.Screen) ended before now f g result closes is =
    absurd (is_not result status.WriteFault status.KeyLimit closes.0 is (λ (same : status.WriteFault ≡ status.KeyLimit). cc) (λ (same : status.HostFault ≡ status.KeyLimit). cc))
closes_limit (Err stop.Log) ended before now f g result closes is =
    absurd (is_not result status.WriteFault status.KeyLimit closes.0 is (λ (same : status.WriteFault ≡ status.KeyLimit). cc) (λ (same : status.HostFault ≡ status.KeyLimit). cc))

-- one that closed as NoMemory was for lack of memory
ends_memory : (ended : Bool) (before now : Contents) (f g : ℕ) (result : Status) → Ends ended before now f g result → result ≡ status.NoMemory → ⊥
ends_memory true before now f g result ends is =
    is_not result status.Done status.NoMemory ends.0 is (λ (same : status.Done ≡ status.NoMemory). cc) (λ (same : status.HostFault ≡ status.NoMemory). cc)
ends_memory false before now f g result (inl ends) is =
    is_not result status.Done status.NoMemory ends.0 is (λ (same : status.Done ≡ status.NoMemory). cc) (λ (same : status.HostFault ≡ status.NoMemory). cc)
ends_memory false before now f g result (inr ends) is =
    is_not result status.WriteFault status.NoMemory ends.0 is (λ (same : status.WriteFault ≡ status.NoMemory). cc) (λ (same : status.HostFault ≡ status.NoMemory). cc)

pub closes_memory : (why : Result Unit Stop) (ended : Bool) (before now : Contents) (f g : ℕ) (result : Status) → Closes why ended before now f g result
    → result ≡ status.NoMemory → why ≡ Err stop.Memory
unfolding Closes
closes_memory (Ok value) ended before now f g result closes is = absurd (ends_memory ended before now f g result closes is)
closes_memory (Err stop.Memory) ended before now f g result closes is = refl
closes_memory (Err stop.Keys) ended before now f g result closes is =
    absurd (is_not result status.ReadFault status.NoMemory closes.0 is (λ (same : status.ReadFault ≡ status.NoMemory). cc) (λ (same : status.HostFault ≡ status.NoMemory). cc))
closes_memory (Err stop.Limit) ended before now f g result closes is =
    absurd (is_not result status.KeyLimit status.NoMemory closes.0 is (λ (same : status.KeyLimit ≡ status.NoMemory). cc) (λ (same : status.HostFault ≡ status.NoMemory). cc))
closes_memory (Err stop.Screen) ended before now f g result closes is =
    absurd (is_not result status.WriteFault status.NoMemory closes.0 is (λ (same : status.WriteFault ≡ status.NoMemory). cc) (λ (same : status.HostFault ≡ status.NoMemory). cc))
closes_memory (Err stop.Log) ended before now f g result closes is =
    absurd (is_not result status.WriteFault status.NoMemory closes.0 is (λ (same : status.WriteFault ≡ status.NoMemory). cc) (λ (same : status.HostFault ≡ status.NoMemory). cc))

-- then as many keys were taken
limit_count : (before now : ℕ) (ended : Bool) → KeyCount KEY_LIMIT before now ended (Err stop.Limit) → before ≡ now + KEY_LIMIT
unfolding KeyCount
limit_count before now ended count = count.0

-- a run that went to its end, at as many keys as it takes, ended over them
module _ {S : Type 0} (o : Over S) (logging : Bool) (start : State) (moments taken rest : List ℕ) (left : S) where
  abbrev events : List ℕ → List (Event S)
  events keys = trace_of o logging start moments keys

  ended_over : (next : RunState S) → has_ended o next.state ≡ false
      → left ≡ state_after next.state (keys_trace o.means logging next rest) → has_ended o left ≡ true
      → length (keys_of (keys_trace o.means logging next rest)) ≡ 0 → ⊥
  ended_over next going leads ended none = by rest leads none where
    by : (after : List ℕ) → left ≡ state_after next.state (keys_trace o.means logging next after)
        → length (keys_of (keys_trace o.means logging next after)) ≡ 0 → ⊥
    by [] leads none = let both : true ≡ false = sym ended ∙ ap (λ (it : S). has_ended o it) leads ∙ going in cc
    by (key ∷ keys) leads none = let empty = nil_from_length (keys_of (keys_trace o.means logging next (key ∷ keys))) none in cc

  not_over_by : (more : List ℕ) → length taken ≡ KEY_LIMIT → GoesOn o.means logging (o.begins start) (events (taken ++ rest)) taken rest
      → keys_of (events (taken ++ rest)) ++ more ≡ taken ++ rest → left ≡ state_after (o.begins start) (events (taken ++ rest))
      → (ended : Bool) → has_ended o left ≡ ended → KeyCount KEY_LIMIT (length (taken ++ rest)) (length more) ended (Ok tt) → ⊥
  unfolding KeyCount
  not_over_by more limit on keys leads false is count =
      omega (
        arith,
        count,
        limit,
        length-append taken rest,
        ap length keys,
        length-append (keys_of (events (taken ++ rest))) more,
        ap length on.keys,
        length-append taken (keys_of (keys_trace o.means logging on.next rest)),
      )
  not_over_by more limit on keys leads true is count =
      ended_over on.next on.going (leads ∙ on.left) is
      (omega (
        arith,
        count,
        limit,
        length-append taken rest,
        ap length keys,
        length-append (keys_of (events (taken ++ rest))) more,
        ap length on.keys,
        length-append taken (keys_of (keys_trace o.means logging on.next rest)),
      ))

  not_over : (all more : List ℕ) → taken ++ rest ≡ all → length taken ≡ KEY_LIMIT
      → has_ended o (left_of o logging start moments taken) ≡ false → keys_of (events all) ++ more ≡ all
      → left ≡ state_after (o.begins start) (events all)
      → KeyCount KEY_LIMIT (length all) (length more) (has_ended o left) (Ok tt) → ⊥
  not_over all more joined limit going keys leads count =
      not_over_by more limit
      (runs_on o.means logging (o.begins start) moments taken rest going)
      (subst (λ (it : List ℕ). keys_of (events it) ++ more ≡ it) (sym joined) keys)
      (subst (λ (it : List ℕ). left ≡ state_after (o.begins start) (events it)) (sym joined) leads)
      (has_ended o left) refl
      (subst (λ (it : List ℕ). KeyCount KEY_LIMIT (length it) (length more) (has_ended o left) (Ok tt)) (sym joined) count)

-- nor did it end over the keys that were taken, where it has not over as many as it takes
more_after : (first after taken rest : List ℕ) → first ++ after ≡ taken ++ rest → length first ≤ length taken → (more : List ℕ) × (taken ≡ first ++ more)
more_after [] after taken rest joined few = (taken, refl)
more_after (key ∷ first) after [] rest joined few = absurd (omega (arith, few))
more_after (key ∷ first) after (other ∷ taken) rest joined few =
    let same : key ≡ other = cc in
    let tails : first ++ after ≡ taken ++ rest = cc in
    let found = more_after first after taken rest tails (omega (arith, few)) in
    (found.0, ap (λ keys. other ∷ keys) found.1 ∙ ap (λ it. it ∷ (first ++ found.0)) (sym same))

module _ {S : Type 0} (o : Over S) (logging : Bool) (start : State) (taken rest : List ℕ) (left : S) where
  stays_over : (moments keys more : List ℕ) → left ≡ (progress o.means (starting o.means (o.begins start) moments) keys).state
      → has_ended o left ≡ true → taken ≡ keys ++ more → has_ended o (left_of o logging start moments taken) ≡ true
  stays_over moments keys more leads ended is =
      let from = starting o.means (o.begins start) moments in
      let there : has_ended o (progress o.means from keys).state ≡ true = ap (λ (it : S). has_ended o it) (sym leads) ∙ ended in
      let same : left_of o logging start moments taken ≡ (progress o.means from keys).state =
      run_leads o.means logging (o.begins start) moments taken
      ∙ ap (λ (it : List ℕ). (progress o.means from it).state) is
      ∙ ap (λ (at : RunState S). at.state) (progress-append o.means keys more from ∙ progress_ended o.means (progress o.means from keys) more there) in
      ap (λ (it : S). has_ended o it) same ∙ there

  not_run_over : (all last : List ℕ) → taken ++ rest ≡ all → length taken ≡ KEY_LIMIT → (run : RunsTo o.means (o.begins start) left all last)
      → has_ended o (left_of o logging start run.moments taken) ≡ false → KeyCount KEY_LIMIT (length all) (length last) (has_ended o left) (Ok tt) → ⊥
  unfolding KeyCount
  not_run_over all last joined many run going count = by (has_ended o left) refl count where
    by : (ended : Bool) → has_ended o left ≡ ended → OverCount KEY_LIMIT (length all) (length last) ended → ⊥
    by false is few =
        omega (arith, few, many, ap length (run.last is), ap length joined, length-append taken rest)
    by true is few =
        let sizes = length-append run.keys last in
        let whole = ap length run.joined in
        let found = more_after run.keys last taken rest (run.joined ∙ sym joined) (omega (arith, few, many, sizes, whole)) in
        let over : has_ended o (left_of o logging start run.moments taken) ≡ true = stays_over run.moments run.keys found.0 run.leads is found.1 in
        let both : true ≡ false = sym over ∙ going in cc

performed : {S : Type 0} (before now : Observation S) (events : List (Event S)) → Traces before now events (Ok tt) → Between before now events
unfolding Traces Performs
performed before now events traces = traces

-- a run of which the keys tell
module _ {S : Type 0} (known : Telling) (tells : IsTrue known.keys) (o : Over S) (form : Form) (start : State) (left : S) (a b : Scene) (before now : Disk)
    (result : Status) (ran : Ran known o form start left a b result) (run : IsRun result) (cause : StatusCause a.faults b.faults result)
    (host_cause : HostCause before.faults now.faults result) (quiet : AreQuiet a b before now) where
  ends : IsQuietEnd result
  ends = quiet_end a.faults b.faults before.faults now.faults quiet.screen quiet.log quiet.keys quiet.host result run cause host_cause

  -- with fewer keys than a run takes it is Done
  pub quiet_done : length a.keys < KEY_LIMIT → (result ≡ status.Done) ⊎ (result ≡ status.NoMemory)
  quiet_done few = by ends where
    by : IsQuietEnd result → (result ≡ status.Done) ⊎ (result ≡ status.NoMemory)
    by (inl done) = inl done
    by (inr (inr memory)) = inr memory
    by (inr (inl limit)) = absurd (omega (
      arith,
      few,
      limit_count (length a.keys) (length ran.at.keys) (has_ended o left)
          (subst (λ (why : Result Unit Stop). KeyCount KEY_LIMIT (length a.keys) (length ran.at.keys) (has_ended o left) why)
          (closes_limit ran.stop (has_ended o left) ran.at.screen b.screen ran.at.faults.screen b.faults.screen result ran.closes limit)
          (ran.count tells)),
    ))

  -- with as many keys as a run takes, over which it has not ended, it is halted
  halted : ((ran.stop ≡ Ok tt) → KeyCount KEY_LIMIT (length a.keys) (length ran.at.keys) (has_ended o left) (Ok tt) → ⊥)
      → (result ≡ status.KeyLimit) ⊎ (result ≡ status.NoMemory)
  halted never = by ends where
    by : IsQuietEnd result → (result ≡ status.KeyLimit) ⊎ (result ≡ status.NoMemory)
    by (inr (inr memory)) = inr memory
    by (inr (inl limit)) = inl limit
    by (inl done) =
        let closed = closes_done ran.stop (has_ended o left) ran.at.screen b.screen ran.at.faults.screen b.faults.screen result ran.closes done in
        absurd (never closed.stop
        (subst (λ (why : Result Unit Stop). KeyCount KEY_LIMIT (length a.keys) (length ran.at.keys) (has_ended o left) why) closed.stop (ran.count tells)))

  pub quiet_limit : (leads : ran.stop ≡ Ok tt → RunsTo o.means (o.begins start) left a.keys ran.at.keys) (taken rest : List ℕ)
      → taken ++ rest ≡ a.keys → length taken ≡ KEY_LIMIT
      → ((moments : List ℕ) → (IsTrue known.clock → moments ≡ a.moments) → has_ended o (left_of o form.logs start moments taken) ≡ false)
      → (result ≡ status.KeyLimit) ⊎ (result ≡ status.NoMemory)
  quiet_limit leads taken rest all many going = by known.clock refl where
    by : (clock : Bool) → known.clock ≡ clock → (result ≡ status.KeyLimit) ⊎ (result ≡ status.NoMemory)
    by true is = halted (λ outcome count.
        let traces = subst (λ (why : Result Unit Stop). Traces (seen a (o.begins start)) (seen ran.at left) (trace_of o form.logs start a.moments a.keys) why)
        outcome (ran.traces (tells, is)) in
        let between = performed (seen a (o.begins start)) (seen ran.at left) (trace_of o form.logs start a.moments a.keys) traces in
        not_over o form.logs start a.moments taken rest left a.keys ran.at.keys all many (going a.moments (λ tell. refl)) between.keys between.state count)
    by false is = halted (λ outcome count.
        let run = leads outcome in
        not_run_over o form.logs start taken rest left a.keys ran.at.keys all many run
        (going run.moments (λ tell. let both : true ≡ false = sym tell ∙ is in absurd (cc))) count)
