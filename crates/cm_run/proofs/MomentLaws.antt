-- Where a run leads at the moments that were given.
-- What a clock gave is a list of moments before any one or more to come (Leads), since the last is given again. So a
-- key more is one append_assoc.
use Rattle.std.proofs.Common.{◌≡◌, ℕ, Bool, true, false, List, [], ◌∷◌, ◌++◌, refl, ap, sym, subst, ◌∙◌, append_assoc}
use Rattle.std.specs.Prelude.{None}
use Rattle.cm_state.specs.SessionState.{SessionState, at_start}
use Rattle.cm_state.specs.declared.prompt.Prompt.TheVariants.{Main}
use Rattle.cm_state.specs.declared.turn.Turn.{Turn}
use Rattle.cm_run.specs.Semantics.{Semantics, setting_of}
use Rattle.cm_run.specs.Moments.{Leads, RunsTo, given_if}
use Rattle.cm_run.specs.Sound.{IsSound}
use Rattle.cm_run.specs.Trace.{RunState, is_ended, line_start, moment_at, moment_if, moments_later, run_state, starting, step, step_of, turn_outcome}
use Rattle.cm_run.proofs.Progress.{RunSoFar, so_far_first, so_far_on}

-- a moment that is taken is the first of those to come, and no moment is 0
pub first_given : (takes : Bool) (given moment : ℕ) (more : List ℕ) → (takes ≡ false → given ≡ 0)
    → given ≡ moment_if takes (given_if takes given ++ moment ∷ more)
first_given true given moment more none = refl
first_given false given moment more none = none refl

-- and the others are to come after it
pub others_given : (takes : Bool) (given moment : ℕ) (more : List ℕ)
    → moment ∷ more ≡ moments_later takes (given_if takes given ++ moment ∷ more)
others_given true given moment more = refl
others_given false given moment more = refl

module _ {S : Type 0} (m : Semantics S) where
  -- the keys so far lead here, where some moments were given, whatever is to come after them
  pub record Gone (start : S) (session : SessionState) (state : S) (before now : List ℕ) : Type 0 where
    pub given : List ℕ
    pub so_far : (moment : ℕ) (more : List ℕ)
        → RunSoFar m (starting m start (given ++ moment ∷ more)) (run_state session state (moment ∷ more)) before now

  -- at first none is
  pub gone_first : (start : S) (before : List ℕ) (session first : SessionState) → first ≡ at_start 0 Main None
      → session ≡ line_start (m.mode_of start) first → Gone start session start before before
  gone_first start before session first starts opens = record {
    given = [];
    so_far = λ moment more. so_far_first m start (moment ∷ more) before session first starts opens;
  }

  module _ (start : S) (session : SessionState) (state : S) (before now : List ℕ) (gone : Gone start session state before now) where
    -- so it is where more were given
    further : (given : List ℕ) (moment : ℕ) (more : List ℕ)
        → RunSoFar m (starting m start ((gone.given ++ given) ++ moment ∷ more)) (run_state session state (given ++ moment ∷ more)) before now
    further [] moment more =
        subst (λ (moments : List ℕ). RunSoFar m (starting m start moments) (run_state session state (moment ∷ more)) before now)
        (sym (append_assoc gone.given [] (moment ∷ more))) (gone.so_far moment more)
    further (first ∷ given) moment more =
        subst (λ (moments : List ℕ). RunSoFar m (starting m start moments) (run_state session state (first ∷ (given ++ moment ∷ more))) before now)
        (sym (append_assoc gone.given (first ∷ given) (moment ∷ more))) (gone.so_far first (given ++ moment ∷ more))

    -- a key more
    pub gone_on : (later : List ℕ) (key : ℕ) (next : SessionState) (left : S) → is_ended (m.mode_of state) ≡ false → now ≡ key ∷ later
        → IsSound (setting_of m state) → Leads (λ moments. step m (run_state session state moments) key) next left
        → Gone start next left before later
    gone_on later key next left going got is leads = record {
      given = gone.given ++ leads.given;
      so_far = λ moment more.
          so_far_on m _ (run_state session state (leads.given ++ moment ∷ more)) before now (further leads.given moment more) later key
          (run_state next left (moment ∷ more)) going got is (leads.leads moment more);
    }

    -- and the end
    pub runs_to : (last : List ℕ) → last ≡ now → (is_ended (m.mode_of state) ≡ false → last ≡ []) → RunsTo m start state before last
    runs_to last same none =
        let so_far = gone.so_far 0 [] in
        record {
          moments = gone.given ++ 0 ∷ [];
          keys = so_far.keys;
          joined = ap (λ left. so_far.keys ++ left) same ∙ so_far.joined;
          leads = ap (λ (at : RunState S). at.state) (sym so_far.leads);
          last = none;
        }

  -- what a turn of the key leads to, by what it is
  abbrev By : SessionState → S → Turn → SessionState → S → Type 0
  By session state it next left = Leads (λ moments. step_of m session state moments (turn_outcome m state session (moment_at m state moments) it)) next left

  pub turned : (session next : SessionState) (state left : S) (it other : Turn) → it ≡ other → By session state other next left → By session state it next left
  turned session next state left it other same leads = subst (λ (to : Turn). By session state to next left) (sym same) leads
