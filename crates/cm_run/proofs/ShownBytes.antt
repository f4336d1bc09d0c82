-- Bytes that are shown, and nothing else.
use Rattle.std.proofs.Common.{◌≡◌, ℕ, List, [], ◌∷◌, refl, ap, sym, ◌∙◌, arith}
use Rattle.std.specs.Prelude.{Ok, Err}
use Rattle.std.proofs.lemmas.List.{append-nil}
use Rattle.cm_io.specs.Contents.{Contents, AddsPart, add}
use Rattle.cm_io.proofs.Additions.{add_none}
use Rattle.cm_run.specs.declared.stop.Stop.TheVariants as stop
use Rattle.cm_run.specs.Event.{Screen}
use Rattle.cm_run.specs.Observation.{Performs, observation}
use Rattle.cm_run.specs.Cut.{ScreenCut, Traces}

module _ {S : Type 0} (screen now log : Contents) (keys : List ℕ) (gets : ℕ) (moments : List ℕ) (trials : ℕ) (state : S) where
  shown : (part : List ℕ) → now ≡ add screen part
      → Performs (observation screen log keys gets moments trials state) (observation now log keys gets moments trials state) (Screen part ∷ [])
  unfolding Performs
  shown part put = record {
    screen = put ∙ ap (λ bytes. add screen bytes) (sym (append-nil part));
    log = sym (add_none log);
    keys = refl;
    gets = refl;
    moments = refl;
    trials = omega arith;
    state = refl;
  }

  -- all of them
  pub shows_whole : (bytes : List ℕ) (value : Unit) → now ≡ add screen bytes
      → Traces (observation screen log keys gets moments trials state) (observation now log keys gets moments trials state) (Screen bytes ∷ []) (Ok value)
  unfolding Traces
  shows_whole bytes value put = shown bytes put

  -- or a part of them
  pub shows_part : (bytes : List ℕ) → AddsPart screen now bytes
      → Traces (observation screen log keys gets moments trials state) (observation now log keys gets moments trials state) (Screen bytes ∷ []) (Err stop.Screen)
  unfolding Traces
  shows_part bytes adds = record {
    done = [];
    cut = ScreenCut adds.part adds.is_part.rest;
    rest = [];
    cause = refl;
    split = ap (λ text. Screen text ∷ []) adds.is_part.joined;
    stands = shown adds.part adds.added;
  }
