-- [run-trace] A run in its course: some of its trace has happened, and the rest is left.
-- A loop has Ahead as its invariant: some events are done, and the rest is what the definition says from here on.
use Rattle.std.proofs.Common.{◌≡◌, ℕ, Bool, true, false, List, [], ◌∷◌, ◌++◌, refl, sym, subst, ◌∙◌, arith, append_assoc}
use Rattle.std.specs.Prelude.{Result, Ok, Err}
use Rattle.std.proofs.lemmas.List.{append-nil}
use Rattle.cm_io.specs.Fault.{next_count}
use Rattle.cm_io.specs.Contents.{Contents}
use Rattle.cm_io.proofs.Additions.{add_none}
use Rattle.cm_run.specs.declared.stop.Stop.{Stop}
use Rattle.cm_run.specs.declared.stop.Stop.TheVariants as stop
use Rattle.cm_run.specs.Event.{Event, Ask, Key, End}
use Rattle.cm_run.specs.Observation.{Observation, Performs, observation}
use Rattle.cm_run.specs.Cut.{EndCut, KeyCut, LimitCut, Traces}
use Rattle.cm_run.specs.Semantics.{Semantics}
use Rattle.cm_run.specs.Trace.{RunState, is_ended, key_trace, keys_trace, step, unless}
use Rattle.cm_run.proofs.Joins.{performs_both, performs_none, traces_both, traces_cut}

pub record Ahead {S : Type 0} (a b : Observation S) (rest whole : List (Event S)) : Type 0 where
  pub done : List (Event S)
  pub performs : Performs a b done
  pub joined : done ++ rest ≡ whole

-- at first all is left
pub ahead_first : {S : Type 0} (a : Observation S) (whole : List (Event S)) → Ahead a a whole whole
ahead_first a whole = record { done = []; performs = performs_none a; joined = refl }

-- more has happened
pub ahead_more : {S : Type 0} (a b c : Observation S) (events more whole : List (Event S)) → Ahead a b (events ++ more) whole → Performs b c events → Ahead a c more whole
ahead_more a b c events more whole ahead performs = record {
  done = ahead.done ++ events;
  performs = performs_both a b c ahead.done events performs ahead.performs;
  joined = append_assoc ahead.done events more ∙ ahead.joined;
}

-- what is left goes to its end, or is cut
pub ahead_trace : {S : Type 0} (a b c : Observation S) (rest whole : List (Event S)) (result : Result Unit Stop) → Ahead a b rest whole → Traces b c rest result → Traces a c whole result
ahead_trace a b c rest whole result ahead traces =
    subst (λ events. Traces a c events result) ahead.joined (traces_both a b c ahead.done rest result traces ahead.performs)

-- nothing is left
pub ahead_all : {S : Type 0} (a b : Observation S) (whole : List (Event S)) (value : Unit) → Ahead a b [] whole → Traces a b whole (Ok value)
unfolding Traces
ahead_all a b whole value ahead =
    subst (λ events. Performs a b events) (sym (append-nil ahead.done) ∙ ahead.joined) ahead.performs

module _ {S : Type 0} (m : Semantics S) (logging : Bool) (at : RunState S) (screen log : Contents) (moments : List ℕ) (trials : ℕ) (state : S) where
  -- a key is asked for
  asks : (keys : List ℕ) (gets : ℕ)
      → Performs (observation screen log keys gets moments trials state) (observation screen log keys (next_count gets) moments trials state) (Ask ∷ [])
  unfolding Performs
  asks keys gets = record {
    screen = sym (add_none screen);
    log = sym (add_none log);
    keys = refl;
    gets = refl;
    moments = refl;
    trials = omega arith;
    state = refl;
  }

  -- and taken
  takes : (key : ℕ) (keys : List ℕ) (gets : ℕ)
      → Performs (observation screen log (key ∷ keys) gets moments trials state) (observation screen log keys (next_count gets) moments trials state) (Ask ∷ Key key ∷ [])
  unfolding Performs
  takes key keys gets = record {
    screen = sym (add_none screen);
    log = sym (add_none log);
    keys = refl;
    gets = refl;
    moments = refl;
    trials = omega arith;
    state = refl;
  }

  -- or none is left
  ends : (gets : ℕ)
      → Performs (observation screen log [] gets moments trials state) (observation screen log [] (next_count gets) moments trials state) (Ask ∷ End ∷ [])
  unfolding Performs
  ends gets = record {
    screen = sym (add_none screen);
    log = sym (add_none log);
    keys = refl;
    gets = refl;
    moments = refl;
    trials = omega arith;
    state = refl;
  }

  -- the keys are read to their end
  pub run_ends : (a : Observation S) (whole : List (Event S)) (ended : Bool) (keys left : List ℕ) (gets gets' : ℕ) (value : Unit)
      → Ahead a (observation screen log keys gets moments trials state) (unless ended (keys_trace m logging at keys)) whole
      → ended ≡ false → keys ≡ [] → left ≡ [] → gets' ≡ next_count gets
      → Traces a (observation screen log left gets' moments trials state) whole (Ok value)
  unfolding Traces
  run_ends a whole ended keys left gets gets' value ahead is none end asked =
      let now : Ahead a (observation screen log [] gets moments trials state) (Ask ∷ End ∷ []) whole
      = subst (λ xs. Ahead a (observation screen log xs gets moments trials state) (keys_trace m logging at xs) whole) none
      (subst (λ b. Ahead a (observation screen log keys gets moments trials state) (unless b (keys_trace m logging at keys)) whole) is ahead) in
      let same : observation screen log [] (next_count gets) moments trials state ≡ observation screen log left gets' moments trials state = cc in
      subst (λ b. Traces a b whole (Ok value)) same
      (ahead_trace a (observation screen log [] gets moments trials state) (observation screen log [] (next_count gets) moments trials state)
      (Ask ∷ End ∷ []) whole (Ok value) now (ends gets))

  -- the key is not given, by how many are left
  fails : (keys : List ℕ) (gets : ℕ)
      → Traces (observation screen log keys gets moments trials state) (observation screen log keys (next_count gets) moments trials state)
      (keys_trace m logging at keys) (Err stop.Keys)
  unfolding Traces
  fails [] gets = record {
    done = Ask ∷ [];
    cut = EndCut;
    rest = [];
    cause = refl;
    split = refl;
    stands = asks [] gets;
  }
  fails (key ∷ keys) gets = record {
    done = Ask ∷ [];
    cut = KeyCut key;
    rest = key_trace m logging at key ++ unless (is_ended (m.mode_of (step m at key).state)) (keys_trace m logging (step m at key) keys);
    cause = refl;
    split = refl;
    stands = asks (key ∷ keys) gets;
  }

  -- the keys could not be read on
  pub run_fails : (a : Observation S) (whole : List (Event S)) (ended : Bool) (keys left : List ℕ) (gets gets' : ℕ)
      → Ahead a (observation screen log keys gets moments trials state) (unless ended (keys_trace m logging at keys)) whole
      → ended ≡ false → left ≡ keys → gets' ≡ next_count gets
      → Traces a (observation screen log left gets' moments trials state) whole (Err stop.Keys)
  run_fails a whole ended keys left gets gets' ahead is same asked =
      let now : Ahead a (observation screen log keys gets moments trials state) (keys_trace m logging at keys) whole
      = subst (λ b. Ahead a (observation screen log keys gets moments trials state) (unless b (keys_trace m logging at keys)) whole) is ahead in
      let end : observation screen log keys (next_count gets) moments trials state ≡ observation screen log left gets' moments trials state = cc in
      subst (λ b. Traces a b whole (Err stop.Keys)) end
      (ahead_trace a (observation screen log keys gets moments trials state) (observation screen log keys (next_count gets) moments trials state)
      (keys_trace m logging at keys) whole (Err stop.Keys) now (fails keys gets))

  -- as many keys are taken as the limit says: the next is not asked for
  halts : (keys : List ℕ) (gets : ℕ)
      → Traces (observation screen log keys gets moments trials state) (observation screen log keys gets moments trials state)
      (keys_trace m logging at keys) (Err stop.Limit)
  unfolding Traces
  halts [] gets = record {
    done = [];
    cut = LimitCut;
    rest = End ∷ [];
    cause = refl;
    split = refl;
    stands = performs_none (observation screen log [] gets moments trials state);
  }
  halts (key ∷ keys) gets = record {
    done = [];
    cut = LimitCut;
    rest = Key key ∷ (key_trace m logging at key ++ unless (is_ended (m.mode_of (step m at key).state)) (keys_trace m logging (step m at key) keys));
    cause = refl;
    split = refl;
    stands = performs_none (observation screen log (key ∷ keys) gets moments trials state);
  }

  pub run_halts : (a : Observation S) (whole : List (Event S)) (ended : Bool) (keys : List ℕ) (gets : ℕ)
      → Ahead a (observation screen log keys gets moments trials state) (unless ended (keys_trace m logging at keys)) whole
      → ended ≡ false → Traces a (observation screen log keys gets moments trials state) whole (Err stop.Limit)
  run_halts a whole ended keys gets ahead is =
      ahead_trace a (observation screen log keys gets moments trials state) (observation screen log keys gets moments trials state)
      (keys_trace m logging at keys) whole (Err stop.Limit)
      (subst (λ b. Ahead a (observation screen log keys gets moments trials state) (unless b (keys_trace m logging at keys)) whole) is ahead)
      (halts keys gets)

  -- the application has ended the run
  pub run_over : (a : Observation S) (whole : List (Event S)) (ended : Bool) (keys : List ℕ) (gets : ℕ) (value : Unit)
      → Ahead a (observation screen log keys gets moments trials state) (unless ended (keys_trace m logging at keys)) whole
      → ended ≡ true → Traces a (observation screen log keys gets moments trials state) whole (Ok value)
  run_over a whole ended keys gets value ahead is =
      ahead_all a (observation screen log keys gets moments trials state) whole value
      (subst (λ b. Ahead a (observation screen log keys gets moments trials state) (unless b (keys_trace m logging at keys)) whole) is ahead)

  -- a key is taken: what is left begins with its trace
  taken : (a : Observation S) (whole : List (Event S)) (ended : Bool) (keys left : List ℕ) (gets gets' key : ℕ)
      → Ahead a (observation screen log keys gets moments trials state) (unless ended (keys_trace m logging at keys)) whole
      → ended ≡ false → keys ≡ key ∷ left → gets' ≡ next_count gets
      → Ahead a (observation screen log left gets' moments trials state)
      (key_trace m logging at key ++ unless (is_ended (m.mode_of (step m at key).state)) (keys_trace m logging (step m at key) left)) whole
  taken a whole ended keys left gets gets' key ahead is first asked =
      let rest = key_trace m logging at key ++ unless (is_ended (m.mode_of (step m at key).state)) (keys_trace m logging (step m at key) left) in
      let now : Ahead a (observation screen log (key ∷ left) gets moments trials state) (Ask ∷ Key key ∷ rest) whole
      = subst (λ xs. Ahead a (observation screen log xs gets moments trials state) (keys_trace m logging at xs) whole) first
      (subst (λ b. Ahead a (observation screen log keys gets moments trials state) (unless b (keys_trace m logging at keys)) whole) is ahead) in
      subst (λ n. Ahead a (observation screen log left n moments trials state) rest whole) (sym asked)
      (ahead_more a (observation screen log (key ∷ left) gets moments trials state) (observation screen log left (next_count gets) moments trials state)
      (Ask ∷ Key key ∷ []) rest whole now (takes key left gets))

  -- it is done, and the next is left
  pub run_goes_on : (a b : Observation S) (whole : List (Event S)) (ended : Bool) (keys left : List ℕ) (gets gets' key : ℕ) (next : RunState S) (value : Unit)
      → Ahead a (observation screen log keys gets moments trials state) (unless ended (keys_trace m logging at keys)) whole
      → ended ≡ false → keys ≡ key ∷ left → gets' ≡ next_count gets
      → Traces (observation screen log left gets' moments trials state) b (key_trace m logging at key) (Ok value)
      → next ≡ step m at key
      → Ahead a b (unless (is_ended (m.mode_of next.state)) (keys_trace m logging next left)) whole
  unfolding Traces
  run_goes_on a b whole ended keys left gets gets' key next value ahead is first asked traces leads =
      subst (λ to. Ahead a b (unless (is_ended (m.mode_of to.state)) (keys_trace m logging to left)) whole) (sym leads)
      (ahead_more a (observation screen log left gets' moments trials state) b (key_trace m logging at key)
      (unless (is_ended (m.mode_of (step m at key).state)) (keys_trace m logging (step m at key) left)) whole
      (taken a whole ended keys left gets gets' key ahead is first asked) traces)

  -- or it is cut
  pub run_stops : (a b : Observation S) (whole : List (Event S)) (ended : Bool) (keys left : List ℕ) (gets gets' key : ℕ) (why : Stop)
      → Ahead a (observation screen log keys gets moments trials state) (unless ended (keys_trace m logging at keys)) whole
      → ended ≡ false → keys ≡ key ∷ left → gets' ≡ next_count gets
      → Traces (observation screen log left gets' moments trials state) b (key_trace m logging at key) (Err why)
      → Traces a b whole (Err why)
  run_stops a b whole ended keys left gets gets' key why ahead is first asked traces =
      ahead_trace a (observation screen log left gets' moments trials state) b
      (key_trace m logging at key ++ unless (is_ended (m.mode_of (step m at key).state)) (keys_trace m logging (step m at key) left)) whole (Err why)
      (taken a whole ended keys left gets gets' key ahead is first asked)
      (traces_cut (observation screen log left gets' moments trials state) b (key_trace m logging at key)
      (unless (is_ended (m.mode_of (step m at key).state)) (keys_trace m logging (step m at key) left)) why traces)
