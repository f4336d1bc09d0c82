-- What a key makes of a line is a line.
use Rattle.std.proofs.Common.{◌≡◌, ℕ, zero, suc, ◌-◌, Bool, true, false, List, [], ◌∷◌, ◌++◌, length, take, Option, Some, None, IfSome, nat_lt, unwrap_or, refl, subst, sym, append-nil, arith, if◌then◌else◌, length-append}
use Rattle.std.specs.List.{AllByRecursion}
use Rattle.std.proofs.lemmas.Bool.Decides.{nat_tests}
use Rattle.std.proofs.lemmas.List.{length-take}
use Rattle.cm_lists.proofs.Bools.{cond_each}
use Rattle.cm_text.specs.Bytes.{is_line_byte, is_text}
use Rattle.cm_text.specs.declared.text.TheConstants.{JOIN, LINE_LIMIT}
use Rattle.cm_text.specs.Text.{IsLine, joined}
use Rattle.cm_text.proofs.LineBytes.{join_in_line, text_in_line}
use Rattle.cm_line.specs.declared.key.KeyClass.{KeyClass}
use Rattle.cm_line.specs.declared.key.KeyClass.TheVariants.{Text, End, Join, Rub, Word, Erase, Show, Back, Stop, Escape, Part, Help, Other}
use Rattle.cm_line.specs.Keys.{class_at, is_end}
use Rattle.cm_line.specs.Word.{word_start}
use Rattle.cm_line.proofs.ClassLaws.{text_at}
use Rattle.cm_files.specs.Catalogue.{IsCatalogue}
use Rattle.cm_hooks.specs.Meanings.{IsLawful}
use Rattle.cm_blocks.specs.declared.field.Ending.{Ending}
use Rattle.cm_blocks.specs.declared.field.Ending.TheVariants as ending
use Rattle.cm_blocks.specs.Fault.{grammar_fault}
use Rattle.cm_blocks.specs.FieldView.{FieldView}
use Rattle.cm_blocks.specs.Parse.{parse_of}
use Rattle.cm_blocks.specs.Setting.{Setting}
use Rattle.cm_blocks.specs.Well.{AreTables}
use Rattle.cm_recognise.specs.declared.insertion.Mode.TheVariants as modes
use Rattle.cm_recognise.proofs.Lines.{line_goes_on}
use Rattle.cm_state.specs.Edit.{before_fault, completed, completion, edit, edited, edited_as}
use Rattle.cm_state.specs.SessionState.{SessionState, line_before}

-- bytes of a line
abbrev pub AreLineBytes : List ℕ → Type 0
AreLineBytes bytes = AllByRecursion (λ byte. is_line_byte byte ≡ true) bytes

prefix_is_plain : (size : ℕ) (bytes : List ℕ) → AreLineBytes bytes → AreLineBytes (take size bytes)
prefix_is_plain zero bytes plain = tt
prefix_is_plain (suc size) [] plain = tt
prefix_is_plain (suc size) (byte ∷ bytes) plain = (plain.0, prefix_is_plain size bytes plain.1)

longer_is_plain : (bytes : List ℕ) (byte : ℕ) → AreLineBytes bytes → is_line_byte byte ≡ true → AreLineBytes (bytes ++ byte ∷ [])
longer_is_plain [] byte plain text = (text, tt)
longer_is_plain (first ∷ bytes) byte plain text = (plain.0, longer_is_plain bytes byte plain.1 text)

pub prefix_is_line : (size : ℕ) (line : List ℕ) → IsLine line → IsLine (take size line)
prefix_is_line size line is =
    record { short = omega (arith, length-take size line); plain = prefix_is_plain size line is.plain }

pushed_is_line : (line : List ℕ) (byte : ℕ) (fits : Bool) → fits ≡ nat_lt (length line) LINE_LIMIT
    → is_text byte ≡ true → IsLine line
    → IsLine (if fits then line ++ byte ∷ [] else line)
pushed_is_line line byte true fits text is =
    record {
      short = grind (arith, nat_tests, length-append line (byte ∷ []));
      plain =
          longer_is_plain line byte is.plain (text_in_line byte text);
    }
pushed_is_line line byte false fits text is = is

recall_is_line : (line : List ℕ) (recall : Option (List ℕ)) → IsLine line → IfSome recall IsLine
    → IsLine (unwrap_or recall line)
recall_is_line line None is recall_is = is
recall_is_line line (Some bytes) is recall_is = recall_is

joined_is_line : (line : List ℕ) → IsLine line → IsLine (joined line)
joined_is_line line is = record {
  short =
      omega (arith, is.short, length-append (take (length line - 1) line) (JOIN ∷ []), length-take (length line - 1) line);
  plain =
      longer_is_plain (take (length line - 1) line) JOIN (prefix_is_plain (length line - 1) line is.plain) join_in_line;
}

edit_by_class : (class : KeyClass) (key : ℕ) (line : List ℕ) (recall : Option (List ℕ)) (inserted : List ℕ)
    → (class ≡ Text → is_text key ≡ true) → IsLine line → IfSome recall IsLine → IsLine (line ++ inserted)
    → IsLine (edit class key line recall inserted)
edit_by_class Text key line recall inserted text is recall_is longer_is =
    pushed_is_line line key (nat_lt (length line) LINE_LIMIT) refl (text refl) is
edit_by_class Rub key line recall inserted text is recall_is longer_is =
    prefix_is_line (length line - 1) line is
edit_by_class Word key line recall inserted text is recall_is longer_is =
    prefix_is_line (word_start line) line is
edit_by_class Erase key line recall inserted text is recall_is longer_is =
    record { short = omega arith; plain = tt }
edit_by_class Stop key line recall inserted text is recall_is longer_is =
    record { short = omega arith; plain = tt }
edit_by_class Back key line recall inserted text is recall_is longer_is =
    recall_is_line line recall is recall_is
edit_by_class Join key line recall inserted text is recall_is longer_is = joined_is_line line is
edit_by_class End key line recall inserted text is recall_is longer_is = is
edit_by_class Show key line recall inserted text is recall_is longer_is = is
edit_by_class Escape key line recall inserted text is recall_is longer_is = longer_is
edit_by_class Part key line recall inserted text is recall_is longer_is = longer_is
edit_by_class Help key line recall inserted text is recall_is longer_is = is
edit_by_class Other key line recall inserted text is recall_is longer_is = is

pub edit_is_line : (held : SessionState) (key : ℕ) (inserted : List ℕ) → IsLine (line_before held)
    → IfSome held.recall IsLine
    → IsLine (line_before held ++ inserted) → IsLine (edit (class_at (line_before held) key) key (line_before held) held.recall inserted)
edit_is_line held key inserted is recall longer =
    edit_by_class (class_at (line_before held) key) key (line_before held) held.recall inserted
    (text_at (line_before held) key) is recall longer

-- with what a key puts in that completes it, it is a line
completed_is_line : (s : Setting) → grammar_fault s.graph ≡ None → IsCatalogue s.catalogue → AreTables s.graph.tables
    → IsLawful s.meanings → (class : KeyClass) (fields : List FieldView) (ends : Ending) (line : List ℕ) → IsLine line
    → IsLine (line ++ (completion s class fields ends line).bytes)
completed_is_line s none named tables lawful Escape fields ends line is =
    line_goes_on s fields ends line modes.Escape none named tables lawful is
completed_is_line s none named tables lawful Part fields ends line is =
    line_goes_on s fields ends line modes.Part none named tables lawful is
completed_is_line s none named tables lawful Text fields ends line is = subst IsLine (sym (append-nil line)) is
completed_is_line s none named tables lawful Join fields ends line is = subst IsLine (sym (append-nil line)) is
completed_is_line s none named tables lawful End fields ends line is = subst IsLine (sym (append-nil line)) is
completed_is_line s none named tables lawful Rub fields ends line is = subst IsLine (sym (append-nil line)) is
completed_is_line s none named tables lawful Word fields ends line is = subst IsLine (sym (append-nil line)) is
completed_is_line s none named tables lawful Erase fields ends line is = subst IsLine (sym (append-nil line)) is
completed_is_line s none named tables lawful Show fields ends line is = subst IsLine (sym (append-nil line)) is
completed_is_line s none named tables lawful Back fields ends line is = subst IsLine (sym (append-nil line)) is
completed_is_line s none named tables lawful Stop fields ends line is = subst IsLine (sym (append-nil line)) is
completed_is_line s none named tables lawful Help fields ends line is = subst IsLine (sym (append-nil line)) is
completed_is_line s none named tables lawful Other fields ends line is = subst IsLine (sym (append-nil line)) is

pub edited_is_line : (s : Setting) → grammar_fault s.graph ≡ None → IsCatalogue s.catalogue → AreTables s.graph.tables
    → IsLawful s.meanings → (held : SessionState) (key : ℕ) → IsLine (line_before held) → IfSome held.recall IsLine
    → IsLine (edited s held key).line
unfolding edited_as
edited_is_line s none named tables lawful held key is recall =
    edit_is_line held key (completed s held (class_at (line_before held) key)).bytes is recall
    (completed_is_line s none named tables lawful (class_at (line_before held) key) (parse_of s held.node (line_before held)).fields
    (parse_of s held.node (line_before held)).ending (line_before held) is)

-- the bytes before a fault are a line
before_is_line : (line : List ℕ) (ends : Ending) → IsLine line → IfSome (before_fault line ends) IsLine
before_is_line line (ending.Open place) is = tt
before_is_line line ending.Done is = tt
before_is_line line (ending.Fault fault) is = prefix_is_line fault.at line is

pub edited_recall_is_line : (s : Setting) → grammar_fault s.graph ≡ None → IsCatalogue s.catalogue
    → AreTables s.graph.tables → IsLawful s.meanings → (held : SessionState) (key : ℕ) → IsLine (line_before held)
    → IfSome held.recall IsLine → IfSome (edited s held key).recall IsLine
unfolding edited_as
edited_recall_is_line s none named tables lawful held key is recall =
    cond_each (λ (recall : Option (List ℕ)). IfSome recall IsLine) (is_end (class_at (line_before held) key)) _ None
    (before_is_line (edited s held key).line _ (edited_is_line s none named tables lawful held key is recall)) tt

-- control-H has a line to bring back after a finished one alone, so that the next key meets an empty one
pub edited_recall_after_an_end : (s : Setting) (held : SessionState) (key : ℕ)
    → IfSome (edited s held key).recall (λ (bytes : List ℕ). line_before (edited s held key) ≡ [])
unfolding edited_as
edited_recall_after_an_end s held key = by (is_end (class_at (line_before held) key)) _ _ _
  where
    of_end : (line : List ℕ) (ends : Ending) → IfSome (before_fault line ends)
        (λ (bytes : List ℕ). ◌≡◌ {A = List ℕ} [] [])
    of_end line (ending.Open place) = tt
    of_end line ending.Done = tt
    of_end line (ending.Fault fault) = refl

    by : (finished : Bool) (line : List ℕ) (ends : Ending) (now : List ℕ)
        → IfSome (if finished then before_fault line ends else None)
        (λ (bytes : List ℕ). (if finished then [] else now) ≡ [])
    by true line ends now = of_end line ends
    by false line ends now = tt
