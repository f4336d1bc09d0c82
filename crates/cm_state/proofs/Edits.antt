-- [key-line] What a key makes of a session, over the steps of the code.
-- A key is one lemma over the steps of the code (takes): each premise is a step's clause, as self.new ≡ record self.old
-- { .. }, and cc joins them. edit_and_parse has the answers, and Session::key has none. A completion is said of the
-- ending held (completion), by met_completion of the line that the key meets. apply_edit gives kept front and bell as
-- one value, since a match that joins loses both. Lemmas on the edit take the class as an argument (edited_as), and one
-- subst along class ≡ class_at .. brings it home; whole speaks of the edit by End. What one class needs is a premise on
-- it, which Line::class ensures and each function down to edit hands on.
use Rattle.std.proofs.Common.{◌≡◌, ℕ, ◌<◌, Bool, true, false, List, [], length, None, Option, refl, ap, sym, subst, ◌∙◌, if◌then◌else◌}
use Rattle.cm_text.specs.Text.{finished}
use Rattle.cm_line.specs.declared.key.KeyClass.{KeyClass}
use Rattle.cm_line.specs.declared.key.KeyClass.TheVariants.{End}
use Rattle.cm_line.specs.Keys.{class_at, is_end}
use Rattle.cm_blocks.specs.declared.field.Ending.{Ending}
use Rattle.cm_blocks.specs.Fault.{grammar_fault}
use Rattle.cm_blocks.specs.FieldView.{FieldView}
use Rattle.cm_blocks.specs.KeptParse.{BeginsWith, common, cost, cost_after, decided_within, kept}
use Rattle.cm_blocks.specs.Parse.{IsClosed, IsParse, Parse, open_at, parse_of}
use Rattle.cm_blocks.specs.Setting.{Setting}
use Rattle.cm_blocks.proofs.Closure.{finished_closes}
use Rattle.cm_blocks.proofs.Parses.{parse_of_parses}
use Rattle.cm_blocks.proofs.KeptFields.{kept_begins}
use Rattle.cm_state.specs.Edit.{before_fault, completed, completion, edit, edited, edited_as, parsed_again}
use Rattle.cm_state.specs.SessionState.{SessionState, IsReady, at_start, line_before, parse_held, text_of}
use Rattle.cm_state.specs.Stack.{Starts}
use Rattle.cm_state.specs.declared.prompt.Prompt.{Prompt}
use Rattle.cm_state.proofs.Starts.{kept_starts, met_ending, met_fields, none_costs, none_starts}

-- a key after a finished text meets an empty line
abbrev pub Reopens : SessionState → SessionState → Type 0
Reopens old reopened =
    reopened ≡ record old {
      line = line_before old;
      is_finished = false;
      fields = if old.is_finished then [] else old.fields;
      ending = if old.is_finished then open_at old.node 0 else old.ending;
    }

-- the line is edited, with what a key puts in that completes it
abbrev pub AppliesEdit : Setting → SessionState → SessionState → KeyClass → ℕ → Type 0
AppliesEdit s reopened applied class key =
    applied ≡ record reopened {
      line = edit class key reopened.line reopened.recall (completion s class reopened.fields reopened.ending reopened.line).bytes;
      is_finished = is_end class;
      recall = None;
    }

-- the edited line with its parse is what the key leaves
edited_with_parse : (s : Setting) (old now : SessionState) (class : KeyClass) (key : ℕ)
    → now ≡ record old {
      line = edit class key (line_before old) old.recall (completed s old class).bytes;
      is_finished = is_end class;
      fields = now.fields;
      ending = now.ending;
      recall = if is_end class then before_fault
          (edit class key (line_before old) old.recall (completed s old class).bytes) now.ending else
          None;
    }
    → parse_held now ≡ parse_of s now.node (text_of now) → now ≡ edited_as s old class key
unfolding edited_as
edited_with_parse s old now class key same parse =
    let line = edit class key (line_before old) old.recall (completed s old class).bytes in
    let node : now.node ≡ old.node = ap (λ (h : SessionState). h.node) same in
    let text : text_of now ≡ (if is_end class then finished line else line) = ap text_of same in
    let whole : parse_held now ≡ parse_of s old.node (if is_end class then finished line else line) = cc in
    let fields : now.fields ≡ (parse_of s old.node (if is_end class then finished line else line)).fields =
    ap (λ (parse : Parse). parse.fields) whole in
    let ending : now.ending ≡ (parse_of s old.node (if is_end class then finished line else line)).ending =
    ap (λ (parse : Parse). parse.ending) whole in
    cc

-- what is held is the parse of the text, and so ready for a key
pub record Stands (s : Setting) (now : SessionState) : Type 0 where
  pub parse : IsParse s now.node (text_of now) now.fields now.ending
  pub ready : IsReady s now

stands : (s : Setting) (now : SessionState) → now.node < length s.graph.nodes
    → parse_held now ≡ parse_of s now.node (text_of now)
    → Stands s now
stands s now below parse = record {
  parse =
      subst (λ (parse : Parse). IsParse s now.node (text_of now) parse.fields parse.ending) (sym parse)
      (parse_of_parses s now.node (text_of now));
  ready = record {
    node = below;
    parse = λ unfinished.
        parse ∙ ap (λ (test : Bool). parse_of s now.node (if test then finished now.line else now.line)) unfinished;
  };
}

-- the fields that are left before the parse goes on are those that are kept
pub record Trims (s : Setting) (old trimmed : SessionState) : Type 0 where
  pub node : trimmed.node ≡ old.node
  pub fields : trimmed.fields ≡ kept s old.node (line_before old) (text_of trimmed)

pub trims : (s : Setting) (old reopened applied trimmed : SessionState) (class : KeyClass) (key size : ℕ)
    → grammar_fault s.graph ≡ None
    → IsReady s old
    → Reopens old reopened
    → AppliesEdit s reopened applied class key
    → size ≡ common reopened.line (text_of applied)
    → trimmed ≡ record applied { fields = decided_within size applied.fields } → Trims s old trimmed
unfolding kept
trims s old reopened applied trimmed class key size none ready reopen apply front keep =
    let text : text_of trimmed ≡ text_of applied = ap text_of keep in
    let line : reopened.line ≡ line_before old = ap (λ (h : SessionState). h.line) reopen in
    let same : size ≡ common (line_before old) (text_of trimmed) = cc in
    let node : trimmed.node ≡ old.node = cc in
    let met : applied.fields ≡ (parse_of s old.node (line_before old)).fields =
    ap (λ (h : SessionState). h.fields) apply ∙ ap (λ (h : SessionState). h.fields) reopen
    ∙ met_fields s old none ready in
    let fields : trimmed.fields ≡ decided_within size applied.fields = ap (λ (h : SessionState). h.fields) keep in
    record { node = node; fields = cc }

-- after them the parse goes on
pub trimmed_starts : (s : Setting) (old trimmed : SessionState) → grammar_fault s.graph ≡ None → IsReady s old
    → Trims s old trimmed
    → Starts s trimmed.node (text_of trimmed) trimmed.fields
trimmed_starts s old trimmed none ready trim =
    rw (trim.fields, trim.node) (kept_starts s none old.node ready.node (line_before old) (text_of trimmed))

-- what a key puts in is what completes the line that it meets
pub met_completion : (s : Setting) (old reopened : SessionState) (class : KeyClass) → grammar_fault s.graph ≡ None
    → IsReady s old
    → Reopens old reopened → completion s class reopened.fields reopened.ending reopened.line ≡ completed s old class
met_completion s old reopened class none ready reopen =
    let line : reopened.line ≡ line_before old = ap (λ (h : SessionState). h.line) reopen in
    let ends : reopened.ending ≡ (parse_of s old.node (line_before old)).ending =
    ap (λ (h : SessionState). h.ending) reopen ∙ met_ending s old none ready in
    let fields : reopened.fields ≡ (parse_of s old.node (line_before old)).fields =
    ap (λ (h : SessionState). h.fields) reopen ∙ met_fields s old none ready in
    ap (λ (fields : List FieldView). completion s class fields reopened.ending reopened.line) fields
    ∙ ap (λ (ends : Ending). completion s class (parse_of s old.node (line_before old)).fields ends reopened.line) ends
    ∙ ap (λ (line : List ℕ).
    completion s class (parse_of s old.node (line_before old)).fields (parse_of s old.node (line_before old)).ending line) line

-- the line with its parse, over the steps: the line is reopened, edited, and its parse held
edited_is : (s : Setting) (old reopened applied trimmed now : SessionState) (class : KeyClass) (key size : ℕ)
    → class ≡ class_at (line_before old) key
    → completion s class reopened.fields reopened.ending reopened.line ≡ completed s old class
    → Reopens old reopened
    → AppliesEdit s reopened applied class key
    → trimmed ≡ record applied { fields = decided_within size applied.fields }
    → now.recall ≡ (if trimmed.is_finished then before_fault trimmed.line now.ending else None)
    → now ≡ record trimmed { fields = now.fields; ending = now.ending; recall = now.recall }
    → parse_held now ≡ parse_of s now.node (text_of now) → now ≡ edited s old key
edited_is s old reopened applied trimmed now class key size is met reopen apply keep recall same parse =
    subst (λ (it : KeyClass). now ≡ edited_as s old it key) is (edited_with_parse s old now class key (cc) parse)

-- what the key leaves, and what it costs
pub record EditsAndParses (s : Setting) (old now : SessionState) (key spent : ℕ) : Type 0 where
  pub edited : now ≡ edited s old key
  pub stands : Stands s now
  pub keeps : BeginsWith (kept s old.node (line_before old) (text_of now)) now.fields
  pub cost : spent ≡ cost s old.node (line_before old) (text_of now)

pub edits_and_parses : (s : Setting) (old reopened applied trimmed now : SessionState) (class : KeyClass)
    (key size spent : ℕ)
    → grammar_fault s.graph ≡ None → IsReady s old → class ≡ class_at (line_before old) key
    → Reopens old reopened
    → AppliesEdit s reopened applied class key
    → trimmed ≡ record applied { fields = decided_within size applied.fields }
    → Trims s old trimmed
    → now.recall ≡ (if trimmed.is_finished then before_fault trimmed.line now.ending else None)
    → now ≡ record trimmed { fields = now.fields; ending = now.ending; recall = now.recall }
    → parse_held now ≡ parse_of s trimmed.node (text_of trimmed)
    → spent ≡ cost_after s trimmed.node (text_of trimmed) trimmed.fields
    → EditsAndParses s old now key spent
unfolding cost
edits_and_parses s old reopened applied trimmed now class key size spent none ready is reopen apply keep trim rest same
    held costs =
    let node : now.node ≡ trimmed.node = ap (λ (h : SessionState). h.node) same in
    let text : text_of now ≡ text_of trimmed = ap text_of same in
    let parse : parse_held now ≡ parse_of s now.node (text_of now) = rw (node, text) held in
    let start : now.node ≡ old.node = node ∙ trim.node in
    let fields : now.fields ≡ (parse_of s old.node (text_of now)).fields =
    ap (λ (parse : Parse). parse.fields) (parse ∙ ap (λ (node : ℕ). parse_of s node (text_of now)) start) in
    record {
      edited =
          edited_is s old reopened applied trimmed now class key size is
          (met_completion s old reopened class none ready reopen)
          reopen apply keep rest same parse;
      stands = stands s now (rw start ready.node) parse;
      keeps =
          subst (BeginsWith (kept s old.node (line_before old) (text_of now))) (sym fields)
          (kept_begins s none old.node (line_before old) (text_of now));
      cost = rw text (costs ∙ rw (trim.fields, trim.node) refl);
    }

-- a whole line after a start
pub record Finishes (s : Setting) (start now : SessionState) (line : List ℕ) (spent : ℕ) : Type 0 where
  pub edited : now ≡ edited_as s start End 13
  pub parse : IsParse s start.node (finished line) now.fields now.ending
  pub ready : IsReady s now
  pub decided : IsClosed now.ending
  pub cost : spent ≡ cost s start.node [] (finished line)

-- the line in place of the empty one of a start
abbrev Fills : SessionState → SessionState → ℕ → Prompt → Option (List ℕ) → List ℕ → Type 0
Fills started entered node prompt bytes line =
    (started ≡ at_start node prompt bytes) × (entered ≡ record started
    { line = line; is_finished = true; recall = None })

filled : (started entered : SessionState) (node : ℕ) (prompt : Prompt) (bytes : Option (List ℕ)) (line : List ℕ)
    → Fills started entered node prompt bytes line
    → entered ≡ record (at_start node prompt None) { line = line; is_finished = true }
filled started entered node prompt bytes line fills =
    fills.1 ∙ ap (λ (h : SessionState). let filled : SessionState =
    record h { line = line; is_finished = true; recall = None } in filled) fills.0

pub whole_starts : (s : Setting) (started entered : SessionState) (node : ℕ) (prompt : Prompt)
    (bytes : Option (List ℕ)) (line : List ℕ)
    → grammar_fault s.graph ≡ None → node < length s.graph.nodes → Fills started entered node prompt bytes line
    → Starts s entered.node (text_of entered) entered.fields
whole_starts s started entered node prompt bytes line none below fills =
    let is = filled started entered node prompt bytes line fills in
    subst (λ (h : SessionState). Starts s h.node (text_of h) h.fields) (sym is)
    (none_starts s none node below (finished line))

pub finishes : (s : Setting) (started entered now : SessionState) (node : ℕ) (prompt : Prompt)
    (bytes : Option (List ℕ)) (line : List ℕ) (spent : ℕ)
    → grammar_fault s.graph ≡ None → node < length s.graph.nodes → Fills started entered node prompt bytes line
    → now.recall ≡ (if entered.is_finished then before_fault entered.line now.ending else None)
    → now ≡ record entered { fields = now.fields; ending = now.ending; recall = now.recall }
    → parse_held now ≡ parse_of s entered.node (text_of entered)
    → spent ≡ cost_after s entered.node (text_of entered) entered.fields
    → Finishes s (record (at_start node prompt bytes) { line = line }) now line spent
finishes s started entered now node prompt bytes line spent none below fills rest same held costs =
    let is = filled started entered node prompt bytes line fills in
    let start : SessionState = record (at_start node prompt bytes) { line = line } in
    let at : now.node ≡ node = cc in
    let text : text_of now ≡ finished line = cc in
    let whole : parse_held now ≡ parse_of s node (finished line) = cc in
    let parse : parse_held now ≡ parse_of s now.node (text_of now) = rw (at, text) whole in
    let held = stands s now (rw at below) parse in
    record {
      edited = edited_with_parse s start now End 13 (cc) parse;
      parse = rw (at, text) at held.parse;
      ready = held.ready;
      decided =
          subst IsClosed (ap (λ (parse : Parse). parse.ending) (sym whole)) (finished_closes s none node line);
      cost =
          costs ∙ ap (λ (h : SessionState). cost_after s h.node (text_of h) h.fields) is
          ∙ sym (none_costs s none node below (finished line));
    }

-- a text that is parsed afresh
pub record ParsesAgain (s : Setting) (old now : SessionState) (spent : ℕ) : Type 0 where
  pub session : now ≡ parsed_again s old
  pub stands : Stands s now
  pub cost : spent ≡ cost s old.node [] (text_of old)

pub again_starts : (s : Setting) (old emptied : SessionState) → grammar_fault s.graph ≡ None
    → old.node < length s.graph.nodes → emptied ≡ record old { fields = [] }
    → Starts s emptied.node (text_of emptied) emptied.fields
again_starts s old emptied none below empty =
    subst (λ (h : SessionState). Starts s h.node (text_of h) h.fields) (sym empty)
    (none_starts s none old.node below (text_of old))

-- the session with this parse of its text
with_parse : SessionState → Parse → SessionState
with_parse held parse = record held {
  fields = parse.fields;
  ending = parse.ending;
  recall = if held.is_finished then before_fault held.line parse.ending else held.recall;
}

parsed_is : (s : Setting) (old emptied parsed now : SessionState)
    → emptied ≡ record old { fields = [] }
    → parse_held parsed ≡ parse_of s emptied.node (text_of emptied)
    → parsed ≡ record emptied { fields = parsed.fields; ending = parsed.ending }
    → now ≡ record parsed {
      recall =
          if parsed.is_finished then before_fault parsed.line parsed.ending else parsed.recall;
    }
    → now ≡ parsed_again s old
unfolding parsed_again with_parse
parsed_is s old emptied parsed now empty held same refused =
    let whole : parse_held parsed ≡ parse_of s old.node (text_of old) =
    held ∙ ap (λ (h : SessionState). parse_of s h.node (text_of h)) empty in
    let over : parsed ≡ record old { fields = parsed.fields; ending = parsed.ending } =
    same ∙ ap (λ (h : SessionState). let it : SessionState =
    record h { fields = parsed.fields; ending = parsed.ending } in it) empty in
    refused
    ∙ ap (λ (h : SessionState). let it : SessionState =
    record h { recall = if h.is_finished then before_fault h.line h.ending else h.recall } in it) over
    ∙ ap (λ (parse : Parse). with_parse old parse) whole

pub parses_again : (s : Setting) (old emptied parsed now : SessionState) (spent : ℕ)
    → grammar_fault s.graph ≡ None → old.node < length s.graph.nodes
    → emptied ≡ record old { fields = [] }
    → parse_held parsed ≡ parse_of s emptied.node (text_of emptied)
    → parsed ≡ record emptied { fields = parsed.fields; ending = parsed.ending }
    → now ≡ record parsed {
      recall =
          if parsed.is_finished then before_fault parsed.line parsed.ending else parsed.recall;
    }
    → spent ≡ cost_after s emptied.node (text_of emptied) emptied.fields
    → ParsesAgain s old now spent
unfolding parsed_again
parses_again s old emptied parsed now spent none below empty held same refused costs =
    let is = parsed_is s old emptied parsed now empty held same refused in
    let node : now.node ≡ old.node = ap (λ (h : SessionState). h.node) is in
    let text : text_of now ≡ text_of old = ap text_of is in
    let parse : parse_held now ≡ parse_of s old.node (text_of old) = ap parse_held is in
    record {
      session = is;
      stands = stands s now (rw node below) (rw (node, text) parse);
      cost =
          costs ∙ ap (λ (h : SessionState). cost_after s h.node (text_of h) h.fields) empty
          ∙ sym (none_costs s none old.node below (text_of old));
    }
