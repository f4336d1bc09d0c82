-- Where the keys that were taken lead, and what they met.
-- Went says what the keys taken did, over any beginning of them (append_cancel_right). progress stops at the end, so
-- keys split with no premise (progress-append). A law over runs is one induction over the keys: no key, a run that has
-- ended, a key and the rest.
use Rattle.std.proofs.Common.{◌≡◌, ℕ, Bool, true, false, cond, List, [], ◌∷◌, ◌++◌, refl, ap, sym, subst, ◌∙◌, append_assoc}
use Rattle.std.specs.Prelude.{None}
use Rattle.std.proofs.lemmas.List.{append_cancel_right}
use Rattle.cm_state.specs.SessionState.{SessionState, at_start}
use Rattle.cm_state.specs.declared.prompt.Prompt.TheVariants.{Main}
use Rattle.cm_run.specs.Semantics.{Semantics, setting_of}
use Rattle.cm_run.specs.Progress.{MeetSound, progress}
use Rattle.cm_run.specs.Sound.{IsSound}
use Rattle.cm_run.specs.Trace.{RunState, is_ended, line_start, run_state, starting, step}

module _ {S : Type 0} (m : Semantics S) where
  -- a run that has ended stays where it is
  pub progress_ended : (at : RunState S) (keys : List ℕ) → is_ended (m.mode_of at.state) ≡ true → progress m at keys ≡ at
  unfolding progress
  progress_ended at [] is = refl
  progress_ended at (key ∷ keys) is = ap (λ test. cond test at (progress m (step m at key) keys)) is

  -- one that goes on takes the key
  pub progress_key : (at : RunState S) (key : ℕ) (keys : List ℕ) → is_ended (m.mode_of at.state) ≡ false
      → progress m at (key ∷ keys) ≡ progress m (step m at key) keys
  unfolding progress
  progress_key at key keys going = ap (λ test. cond test at (progress m (step m at key) keys)) going

  -- keys in two parts
  pub progress-append : (first more : List ℕ) (at : RunState S) → progress m at (first ++ more) ≡ progress m (progress m at first) more
  unfolding progress
  progress-append [] more at = refl
  progress-append (key ∷ first) more at = by (is_ended (m.mode_of at.state)) refl (progress-append first more (step m at key))
    where
      by : (test : Bool) → is_ended (m.mode_of at.state) ≡ test
          → progress m (step m at key) (first ++ more) ≡ progress m (progress m (step m at key) first) more
          → cond test at (progress m (step m at key) (first ++ more)) ≡ progress m (cond test at (progress m (step m at key) first)) more
      by true is later = sym (progress_ended at more is)
      by false is later = later

  -- a key more meets what is sound
  sound_more : (keys : List ℕ) (at : RunState S) (key : ℕ) → MeetSound m at keys
      → (is_ended (m.mode_of (progress m at keys).state) ≡ false → IsSound (setting_of m (progress m at keys).state))
      → MeetSound m at (keys ++ key ∷ [])
  unfolding progress MeetSound
  sound_more [] at key met now = λ going. (now going, tt)
  sound_more (first ∷ keys) at key met now = λ going. (
    (met going).0,
    sound_more keys (step m at first) key (met going).1
        (subst (λ (to : RunState S). is_ended (m.mode_of to.state) ≡ false → IsSound (setting_of m to.state))
        (ap (λ test. cond test at (progress m (step m at first) keys)) going) now),
  )

  -- and so do the first of them
  pub sound_first : (first rest : List ℕ) (at : RunState S) → MeetSound m at (first ++ rest) → MeetSound m at first
  unfolding MeetSound
  sound_first [] rest at met = tt
  sound_first (key ∷ first) rest at met = λ going. ((met going).0, sound_first first rest (step m at key) (met going).1)

  -- of these keys some were taken: they lead here, and what each met was sound
  pub record RunSoFar (start at : RunState S) (before now : List ℕ) : Type 0 where
    pub keys : List ℕ
    pub joined : keys ++ now ≡ before
    pub leads : progress m start keys ≡ at
    pub sound : MeetSound m start keys

  -- none is taken
  pub so_far_first : (state : S) (moments before : List ℕ) (session first : SessionState) → first ≡ at_start 0 Main None
      → session ≡ line_start (m.mode_of state) first → RunSoFar (starting m state moments) (run_state session state moments) before before
  unfolding progress MeetSound
  so_far_first state moments before session first starts opens = record {
    keys = [];
    joined = refl;
    leads = sym (ap (λ it. run_state it state moments) (opens ∙ ap (λ it. line_start (m.mode_of state) it) starts));
    sound = tt;
  }

  module _ (start at : RunState S) (before now : List ℕ) (so_far : RunSoFar start at before now) where
    -- one more is
    pub so_far_on : (later : List ℕ) (key : ℕ) (next : RunState S) → is_ended (m.mode_of at.state) ≡ false → now ≡ key ∷ later
        → IsSound (setting_of m at.state) → next ≡ step m at key → RunSoFar start next before later
    unfolding progress
    so_far_on later key next going got is leads = record {
      keys = so_far.keys ++ key ∷ [];
      joined = append_assoc so_far.keys (key ∷ []) later ∙ ap (λ left. so_far.keys ++ left) (sym got) ∙ so_far.joined;
      leads = progress-append so_far.keys (key ∷ []) start ∙ ap (λ to. progress m to (key ∷ [])) so_far.leads
          ∙ progress_key at key [] going ∙ sym leads;
      sound = sound_more so_far.keys start key so_far.sound
          (λ on. subst (λ (to : RunState S). IsSound (setting_of m to.state)) (sym so_far.leads) is);
    }

    -- what the first of those that were taken met is sound
    pub went_sound : (later : List ℕ) → later ≡ now → (first rest : List ℕ) → (first ++ rest) ++ later ≡ before → MeetSound m start first
    went_sound later same first rest all =
        let joined : (first ++ rest) ++ now ≡ before = ap (λ left. (first ++ rest) ++ left) (sym same) ∙ all in
        let taken : so_far.keys ≡ first ++ rest = append_cancel_right so_far.keys (first ++ rest) now (so_far.joined ∙ sym joined) in
        sound_first first rest start (subst (λ keys. MeetSound m start keys) taken so_far.sound)

    -- and of one that is taken besides
    pub went_cut : (later : List ℕ) (key : ℕ) → is_ended (m.mode_of at.state) ≡ false → now ≡ key ∷ later
        → IsSound (setting_of m at.state) → RunSoFar start (step m at key) before later
    went_cut later key going got is = so_far_on later key (step m at key) going got is refl
