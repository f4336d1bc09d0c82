-- What a writer tells after it has held bytes, or given them to its sink.
use Rattle.std.proofs.Common.{arith, ◌≡◌, ℕ, ◌≤◌, List, [], ◌++◌, refl, ap, sym, subst, ◌∙◌}
use Rattle.std.proofs.lemmas.List.{append-nil}
use Rattle.std.specs.Borrow.{MutBor}
use Rattle.cm_io.specs.declared.sink.Put.{Put}
use Rattle.cm_io.specs.declared.sink.Put.TheVariants.{Done, Failed}
use Rattle.cm_io.specs.declared.sink.Sink.{Ghosts}
use Rattle.cm_io.specs.declared.writer.Writer.{Writer}
use Rattle.cm_io.specs.Contents.{Contents, Adds, add}
use Rattle.cm_io.specs.Fault.{PutCause}
use Rattle.cm_io.specs.Writer.{Begins, Finishes, Gives, Outlet, Puts, PutsOn, Writes, outlet}
use Rattle.cm_io.proofs.Additions.{add_none}
use Rattle.cm_io.proofs.Texts.{writes_both}

-- the outlet as it was, but for what is held
abbrev Holding : Outlet → Outlet → List ℕ → Type 0
Holding before now held = now ≡ record before { held = held }

held_puts : (before now : Outlet) (text : List ℕ) (outcome : Put) → before.outcome ≡ outcome
    → Holding before now (before.held ++ text) → PutsOn outcome before now text
held_puts before now text Done is holds = rw holds (record {
  given = [];
  rest = before.held ++ text;
  joined = refl;
  added = sym (add_none before.contents);
  rise = omega arith;
  cause = rw is refl;
  holds = rw is refl;
})
held_puts before now text Failed is holds = rw holds (record { contents = refl; faults = refl; outcome = is })

-- a text that is held
pub holds_more : {T : Type 0} (s : Ghosts T) (a b : Writer T) (text : List ℕ)
    → b.sink.ghost_name ≡ a.sink.ghost_name → b.sink.now ≡ a.sink.now → b.outcome ≡ a.outcome
    → b.held ≡ a.held ++ text → Writes s a b text
holds_more s a b text same sink outcome held = record {
  same = same;
  puts = held_puts (outlet s a) (outlet s b) text a.outcome refl (rw (sink, outcome, held) refl);
}

-- a sink that was given bytes
given_puts : (begun now : Contents) (faults last : ℕ) (held bytes left text : List ℕ) (outcome : Put)
    → Adds begun now bytes outcome → faults ≤ last → PutCause faults last outcome → bytes ≡ held ++ text
    → left ≡ []
    → Gives (record { contents = begun; faults = faults; held = held; outcome = Done })
    (record { contents = now; faults = last; held = left; outcome = outcome }) text
given_puts begun now faults last held bytes left text Done adds later cause all none = record {
  given = bytes;
  rest = [];
  joined = append-nil bytes ∙ all;
  added = adds;
  rise = later;
  cause = cause;
  holds = sym none;
}
given_puts begun now faults last held bytes left text Failed adds later cause all none = record {
  given = adds.part;
  rest = adds.is_part.rest;
  joined = adds.is_part.joined ∙ all;
  added = adds.added;
  rise = later;
  cause = cause;
  holds = tt;
}

-- so where no put had failed
gives : {T : Type 0} (s : Ghosts T) (a b : Writer T) (bytes text : List ℕ) → b.sink.ghost_name ≡ a.sink.ghost_name
    → a.outcome ≡ Done → Adds (s.contents a.sink.now) (s.contents b.sink.now) bytes b.outcome
    → s.faults a.sink.now ≤ s.faults b.sink.now → PutCause (s.faults a.sink.now) (s.faults b.sink.now) b.outcome
    → bytes ≡ a.held ++ text → b.held ≡ [] → Writes s a b text
gives s a b bytes text same done adds later cause all none = record {
  same = same;
  puts = rw done (given_puts (s.contents a.sink.now) (s.contents b.sink.now) (s.faults a.sink.now)
      (s.faults b.sink.now) a.held bytes b.held text b.outcome adds later cause all none);
}

-- what is held is given to the sink
pub hands_on : {T : Type 0} (s : Ghosts T) (a b : Writer T) → b.sink.ghost_name ≡ a.sink.ghost_name
    → a.outcome ≡ Done → Adds (s.contents a.sink.now) (s.contents b.sink.now) a.held b.outcome
    → s.faults a.sink.now ≤ s.faults b.sink.now → PutCause (s.faults a.sink.now) (s.faults b.sink.now) b.outcome
    → b.held ≡ [] → Writes s a b []
hands_on s a b same done adds later cause none =
    gives s a b a.held [] same done adds later cause (sym (append-nil a.held)) none

-- a text is given to the sink, where nothing is held
pub passes : {T : Type 0} (s : Ghosts T) (a b : Writer T) (text : List ℕ) → b.sink.ghost_name ≡ a.sink.ghost_name
    → a.outcome ≡ Done → a.held ≡ [] → Adds (s.contents a.sink.now) (s.contents b.sink.now) text b.outcome
    → s.faults a.sink.now ≤ s.faults b.sink.now → PutCause (s.faults a.sink.now) (s.faults b.sink.now) b.outcome
    → b.held ≡ a.held → Writes s a b text
passes s a b text same done empty adds later cause held =
    gives s a b text text same done adds later cause (ap (λ bytes. bytes ++ text) (sym empty)) (held ∙ empty)

-- after a failure nothing is given, whatever is held
pub gives_nothing : {T : Type 0} (s : Ghosts T) (a b : Writer T) (text : List ℕ)
    → b.sink.ghost_name ≡ a.sink.ghost_name → b.sink.now ≡ a.sink.now → b.outcome ≡ a.outcome
    → a.outcome ≡ Failed → Writes s a b text
gives_nothing s a b text same sink outcome failed = record {
  same = same;
  puts = rw failed (record { contents = ap s.contents sink; faults = ap s.faults sink; outcome = outcome ∙ failed });
}

-- where nothing is held any more, the sink has got all of a text, or a part of it and failed
all_puts : (begun now : Contents) (faults last : ℕ) (text held : List ℕ) (outcome : Put)
    → Gives (record { contents = begun; faults = faults; held = []; outcome = Done })
    (record { contents = now; faults = last; held = held; outcome = outcome }) text
    → held ≡ [] → Puts begun now faults last text outcome
all_puts begun now faults last text held Done told none =
    let all : told.given ≡ text =
    sym (append-nil told.given) ∙ ap (λ bytes. told.given ++ bytes) (sym (told.holds ∙ none)) ∙ told.joined in
    record { bytes = told.added ∙ ap (λ bytes. add begun bytes) all; rise = told.rise; cause = told.cause }
all_puts begun now faults last text held Failed told none = record {
  bytes = record {
    part = told.given;
    is_part = record { rest = told.rest; joined = told.joined };
    added = told.added;
  };
  rise = told.rise;
  cause = told.cause;
}

-- what was written by a writer that began on a sink, and is finished, is put as a sink puts it
pub finish_puts : {T : Type 0} (s : Ghosts T) (sink : MutBor T) (a b c : Writer T) (text : List ℕ) (outcome : Put)
    → Finishes s b c outcome → Writes s a b text → Begins s sink a
    → Puts (s.contents sink.now) (s.contents c.sink.now) (s.faults sink.now) (s.faults c.sink.now) text outcome
finish_puts s sink a b c text outcome finishes writes begun =
    let both = writes_both s a b c text [] finishes.writes writes in
    let first : Outlet =
    record { contents = s.contents sink.now; faults = s.faults sink.now; held = []; outcome = Done } in
    let puts : PutsOn first.outcome first (outlet s c) (text ++ []) =
    subst (λ (at : Outlet). PutsOn at.outcome at (outlet s c) (text ++ [])) begun.begins both.puts in
    let told : Gives first (outlet s c) text = subst (λ bytes. Gives first (outlet s c) bytes) (append-nil text) puts in
    rw finishes.went
    (all_puts (s.contents sink.now) (s.contents c.sink.now) (s.faults sink.now) (s.faults c.sink.now) text c.held
    c.outcome told finishes.none)
