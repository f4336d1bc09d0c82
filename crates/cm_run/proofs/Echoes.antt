-- What the echo of a key makes of a display that shows prompt and line.
use Rattle.std.proofs.Common.{◌≡◌, ℕ, ◌-◌, ◌≤◌, ◌==◌, Bool, true, false, List, [], ◌∷◌, ◌++◌, length, take, drop, map, nat_lt, Option, Some, None, IfSome, is_some, unwrap_or, if◌then◌else◌, inl, inr, refl, ap, sym, subst, ◌∙◌, arith, append_assoc, append-nil, length-append}
use Rattle.std.specs.Prelude.{slice_get}
use Rattle.std.proofs.lemmas.Bool.Decides.{nat_tests}
use Rattle.std.specs.List.{AllByRecursion}
use Rattle.std.proofs.lemmas.List.{length-drop, length-map, length-take, take-append-drop, take_all}
use Rattle.std.proofs.Math.Seq.{drop-append_seam, take-append_seam}
use Rattle.cm_lists.proofs.Bools.{cond_each}
use Rattle.cm_text.specs.Bytes.{is_line_byte, is_text}
use Rattle.cm_text.specs.declared.text.TheConstants.{JOIN, LINE_LIMIT}
use Rattle.cm_text.specs.ScreenBytes.{bell, control_c, end_of_line, join_shown, question, rubout, screen_byte, shown_byte}
use Rattle.cm_text.specs.Text.{IsLine, joined}
use Rattle.cm_text.proofs.LineBytes.{text_in_line, texts_in_line}
use Rattle.cm_io.specs.Display.{ArePrinted, IsDisplay, is_printed}
use Rattle.cm_io.specs.Pieces.{times}
use Rattle.cm_line.specs.declared.key.KeyClass.{KeyClass}
use Rattle.cm_line.specs.declared.key.KeyClass.TheVariants.{Text, End, Join, Rub, Word, Erase, Show, Back, Stop, Escape, Part, Help, Other}
use Rattle.cm_line.specs.Keys.{class_at, is_end}
use Rattle.cm_line.proofs.ClassLaws.{text_at}
use Rattle.cm_line.specs.Word.{unblanked, without_word, word_start}
use Rattle.cm_fields.specs.declared.code.Code.{Code}
use Rattle.cm_fields.specs.Code.{code_text}
use Rattle.cm_blocks.specs.declared.field.Ending.{Ending}
use Rattle.cm_blocks.specs.declared.field.Ending.TheVariants as ending
use Rattle.cm_blocks.specs.Parse.{parse_of}
use Rattle.cm_blocks.specs.FieldView.{FieldView}
use Rattle.cm_blocks.specs.Grammar.{Graph}
use Rattle.cm_blocks.specs.Setting.{Setting}
use Rattle.cm_help.specs.Help.{help_text}
use Rattle.cm_recognise.specs.declared.insertion.Mode.TheVariants as modes
use Rattle.cm_recognise.proofs.Lines.{insertion_is_typed, insertion_on_screen}
use Rattle.cm_state.specs.declared.prompt.Prompt.{Prompt}
use Rattle.cm_state.specs.declared.prompt.Prompt.TheVariants.{Main, Sub}
use Rattle.cm_state.specs.Echo.{again, awaited, complaint, echo, echo_of, has_join, missing, omission, prompt_text, refusal, ring, screen_line, taken_away, takes_join, with_prompt}
use Rattle.cm_state.specs.Edit.{before_fault, completed, completion, edit, edited, edited_as}
use Rattle.cm_state.specs.SessionState.{SessionState, at_start, line_before}
use Rattle.cm_state.proofs.Lines.{edited_is_line, edited_recall_is_line, edited_recall_after_an_end, prefix_is_line}
use Rattle.cm_run.specs.Shows.{EndsLine, IsClear, Shows, ShowsAfter, row_after}
use Rattle.cm_run.specs.Sound.{IsSound}
use Rattle.cm_run.proofs.Lines.{byte_is_printed, text_shown, text_unless}
use Rattle.cm_run.proofs.Rows.{row_append, row_plain}

none_is_line : IsLine []
none_is_line = record { short = omega arith; plain = tt }

-- a line without its last word is no longer than it
without_word-le : (line : List ℕ) → without_word line ≤ length line
without_word-le line = grind arith

word_start-le : (line : List ℕ) → word_start line ≤ length line
unfolding word_start
word_start-le line = omega (arith, without_word-le (take (unblanked line) line), length-take (unblanked line) line)

-- the session that a key of a class leaves
abbrev left_by : KeyClass → ℕ → ℕ → Prompt → List ℕ → Option (List ℕ) → List ℕ → List FieldView → Ending → SessionState
left_by class key node prompt line recall inserted fields ends = record {
  node = node;
  prompt = prompt;
  line = edit class key line recall inserted;
  is_finished = is_end class;
  fields = fields;
  ending = ends;
  recall = if is_end class then before_fault (edit class key line recall inserted) ends else None;
}

-- what a key puts in is bytes of a line, and shown as it is
pub record Completes (bytes : List ℕ) : Type 0 where
  pub plain : AllByRecursion (λ byte. is_line_byte byte ≡ true) bytes
  pub shown : screen_line bytes ≡ bytes

completion_completes : (s : Setting) → IsSound s → (class : KeyClass) (fields : List FieldView) (ends : Ending) (line : List ℕ)
    → Completes (completion s class fields ends line).bytes
completion_completes s sound Escape fields ends line = record {
  plain = texts_in_line _ (insertion_is_typed s sound.grammar sound.catalogue sound.tables sound.meanings fields ends line modes.Escape);
  shown = insertion_on_screen s sound.grammar sound.catalogue sound.tables sound.meanings fields ends line modes.Escape;
}
completion_completes s sound Part fields ends line = record {
  plain = texts_in_line _ (insertion_is_typed s sound.grammar sound.catalogue sound.tables sound.meanings fields ends line modes.Part);
  shown = insertion_on_screen s sound.grammar sound.catalogue sound.tables sound.meanings fields ends line modes.Part;
}
completion_completes s sound class fields ends line = record { plain = tt; shown = refl }

-- a key leaves a session as clear as before
pub key_clears : (s : Setting) → IsSound s → (held : SessionState) (key : ℕ) → IsClear held → IsClear (edited s held key)
unfolding edited_as
key_clears s sound held key clear =
    let line : IsLine (edited s held key).line =
    edited_is_line s sound.grammar sound.catalogue sound.tables sound.meanings held key clear.line clear.recall in
    record {
      prompt = clear.prompt;
      line = cond_each IsLine (is_end (class_at (line_before held) key)) [] _ none_is_line line;
      recall = edited_recall_is_line s sound.grammar sound.catalogue sound.tables sound.meanings held key clear.line clear.recall;
      empty = edited_recall_after_an_end s held key;
    }

-- and so is one that begins
pub start_is_clear : (node : ℕ) (prompt : Prompt) (recall : Option (List ℕ)) → ArePrinted (prompt_text prompt) → IfSome recall IsLine
    → IsClear (at_start node prompt recall)
start_is_clear node prompt None printed is = record { prompt = printed; line = none_is_line; recall = tt; empty = tt }
start_is_clear node prompt (Some bytes) printed is = record { prompt = printed; line = none_is_line; recall = is; empty = refl }

-- two prompts are printed
pub prompts_printed : ArePrinted (prompt_text Main) × ArePrinted (prompt_text Sub)
unfolding prompt_text is_printed
prompts_printed = ((refl, tt), (refl, (refl, tt)))

module _ {D : Type 0} (feed : D → List ℕ → D) (Holds : D → List ℕ → Type 0) (is_display : IsDisplay feed Holds) where
  -- no bytes leave the text
  pub fed_none : (display : D) (text : List ℕ) → Holds display text → Holds (feed display []) text
  fed_none display text holds =
      subst (λ shown. Holds (feed display []) shown) (append-nil text) (is_display.texts display text [] tt holds)

  -- the end of a line begins a row that holds nothing
  holds_end : (display : D) (bytes : List ℕ) → Holds (feed display (bytes ++ end_of_line)) []
  unfolding end_of_line
  holds_end display bytes =
      subst (λ shown. Holds (feed display shown) []) (append_assoc bytes (13 ∷ []) (10 ∷ []))
      (is_display.line_feeds display (bytes ++ 13 ∷ []))

  -- a byte of a line is added to the row, or begins one
  byte_goes : (display : D) (row : List ℕ) (byte : ℕ) → is_line_byte byte ≡ true → Holds display row
      → Holds (feed display (shown_byte byte)) (if byte == JOIN then [] else row ++ screen_byte byte ∷ [])
  unfolding shown_byte join_shown end_of_line
  byte_goes display row byte line holds = by (byte == JOIN) refl
    where
      by : (joins : Bool) → (byte == JOIN) ≡ joins
          → Holds (feed display (if joins then 45 ∷ 13 ∷ 10 ∷ [] else screen_byte byte ∷ [])) (if joins then [] else row ++ screen_byte byte ∷ [])
      by true is = is_display.line_feeds display (45 ∷ 13 ∷ [])
      by false is = is_display.texts display row (screen_byte byte ∷ []) (byte_is_printed byte (text_unless byte line is), tt) holds

  -- and so do several
  line_goes : (line : List ℕ) (display : D) (row : List ℕ) → AllByRecursion (λ byte. is_line_byte byte ≡ true) line → Holds display row
      → Holds (feed display (screen_line line)) (row_after row line)
  line_goes [] display row plain holds = fed_none display row holds
  line_goes (byte ∷ line) display row plain holds =
      let longer_row : List ℕ = if byte == JOIN then [] else row ++ screen_byte byte ∷ [] in
      subst (λ (after : D). Holds after (row_after longer_row line)) (sym (is_display.turns display (shown_byte byte) (screen_line line)))
      (line_goes line (feed display (shown_byte byte)) longer_row plain.1 (byte_goes display row byte plain.0 holds))

  grown : (display : D) (prompt line bytes : List ℕ) → AllByRecursion (λ byte. is_line_byte byte ≡ true) bytes
      → Holds display (row_after prompt line) → Holds (feed display (screen_line bytes)) (row_after prompt (line ++ bytes))
  grown display prompt line bytes plain holds =
      subst (λ row. Holds (feed display (screen_line bytes)) row) (sym (row_append prompt line bytes))
      (line_goes bytes display (row_after prompt line) plain holds)

  -- a byte that is added to the line, or a bell where the line is full
  pub byte_shown : (fits : Bool) (display : D) (prompt line : List ℕ) (byte : ℕ) → is_text byte ≡ true
      → Holds display (row_after prompt line)
      → Holds (feed display (if fits then screen_byte byte ∷ [] else bell)) (row_after prompt (if fits then line ++ byte ∷ [] else line))
  byte_shown true display prompt line byte text holds =
      subst (λ shown. Holds (feed display shown) (row_after prompt (line ++ byte ∷ [])))
      (append-nil (shown_byte byte) ∙ text_shown byte text)
      (grown display prompt line (byte ∷ []) (text_in_line byte text, tt) holds)
  byte_shown false display prompt line byte text holds = is_display.bells display (row_after prompt line) holds

  -- prompt and line, shown again on rows of their own
  pub again_shown : (display : D) (before : List ℕ) (prompt : Prompt) (line : List ℕ) → ArePrinted (prompt_text prompt) → IsLine line
      → Holds (feed display (before ++ again prompt line)) (row_after (prompt_text prompt) line)
  unfolding again with_prompt
  again_shown display before prompt line printed is =
      let parts : before ++ (end_of_line ++ (prompt_text prompt ++ screen_line line))
      ≡ ((before ++ end_of_line) ++ prompt_text prompt) ++ screen_line line =
      sym (append_assoc before end_of_line (prompt_text prompt ++ screen_line line))
      ∙ sym (append_assoc (before ++ end_of_line) (prompt_text prompt) (screen_line line)) in
      subst (λ bytes. Holds (feed display bytes) (row_after (prompt_text prompt) line)) (sym parts)
      (subst (λ (after : D). Holds after (row_after (prompt_text prompt) line))
      (sym (is_display.turns display ((before ++ end_of_line) ++ prompt_text prompt) (screen_line line)))
      (line_goes line (feed display ((before ++ end_of_line) ++ prompt_text prompt)) (prompt_text prompt) is.plain
      (subst (λ (after : D). Holds after (prompt_text prompt)) (sym (is_display.turns display (before ++ end_of_line) (prompt_text prompt)))
      (is_display.texts (feed display (before ++ end_of_line)) [] (prompt_text prompt) printed (holds_end display before)))))

  -- bytes without a join byte are taken off the row
  rubbed_shown : (display : D) (row gone : List ℕ) (count : ℕ) → count ≡ length gone → Holds display (row ++ map screen_byte gone)
      → Holds (feed display (times count rubout)) row
  rubbed_shown display row gone count is holds =
      let shown : List ℕ = map screen_byte gone in
      let size : length shown ≡ length gone = length-map gone screen_byte in
      let whole = length-append row shown in
      let within : count ≤ length (row ++ shown) = omega (arith, is, size, whole) in
      let rest : length (row ++ shown) - count ≡ length row = omega (arith, is, size, whole) in
      subst (λ left. Holds (feed display (times count rubout)) left)
      (ap (λ n. take n (row ++ shown)) rest ∙ take-append_seam row shown)
      (is_display.rubouts count display (row ++ shown) within holds)

  -- the bytes at the end of a line are taken off, or the line is shown again, or a bell where there are none
  pub taken_shown : (display : D) (prompt : Prompt) (line : List ℕ) (size : ℕ) → size ≤ length line → ArePrinted (prompt_text prompt)
      → IsLine line → Holds display (row_after (prompt_text prompt) line)
      → Holds (feed display (taken_away (has_join (drop size line)) prompt (length line) (take size line)))
      (row_after (prompt_text prompt) (take size line))
  taken_shown display prompt line size within printed is holds = by (length line == 0) refl (has_join (drop size line)) refl
    where
      kept : List ℕ
      kept = take size line

      gone : List ℕ
      gone = drop size line

      none : length line ≡ 0 → kept ≡ line
      none empty = take_all size line (omega arith)

      count : length line - length kept ≡ length gone
      count = omega (arith, within, length-take size line, length-drop size line)

      parts : has_join gone ≡ false
          → row_after (prompt_text prompt) line ≡ row_after (prompt_text prompt) kept ++ map screen_byte gone
      parts plain =
          ap (row_after (prompt_text prompt)) (sym (take-append-drop size line))
          ∙ row_append (prompt_text prompt) kept gone
          ∙ row_plain (row_after (prompt_text prompt) kept) gone plain

      by : (test : Bool) → (length line == 0) ≡ test → (joins : Bool) → has_join gone ≡ joins
          → Holds (feed display (if test then bell else (if joins then again prompt kept else times (length line - length kept) rubout)))
          (row_after (prompt_text prompt) kept)
      by true is_empty joins has =
          subst (λ line. Holds (feed display bell) (row_after (prompt_text prompt) line)) (sym (none (grind (arith, nat_tests))))
          (is_display.bells display (row_after (prompt_text prompt) line) holds)
      by false is_empty true has = again_shown display [] prompt kept printed (prefix_is_line size line is)
      by false is_empty false has =
          rubbed_shown display (row_after (prompt_text prompt) kept) gone (length line - length kept) count
          (subst (λ row. Holds display row) (parts has) holds)

  -- a line that is continued begins a row that holds nothing
  join_shown_after : (display : D) (prompt line : List ℕ) → Holds (feed display end_of_line) (row_after prompt (joined line))
  join_shown_after display prompt line =
      subst (λ row. Holds (feed display end_of_line) row) (sym (row_append prompt (take (length line - 1) line) (JOIN ∷ [])))
      (holds_end display [])

  -- what control-H brings back is added to a line that is empty, or a bell where there is nothing
  pub recall_shown : (display : D) (prompt line : List ℕ) (recall : Option (List ℕ)) → IfSome recall IsLine
      → IfSome recall (λ (bytes : List ℕ). line ≡ []) → Holds display (row_after prompt line)
      → Holds (feed display (if is_some recall then screen_line (unwrap_or recall line) else bell)) (row_after prompt (unwrap_or recall line))
  recall_shown display prompt line None is empty holds = is_display.bells display (row_after prompt line) holds
  recall_shown display prompt line (Some bytes) is empty holds =
      grown display prompt [] bytes is.plain (subst (λ line. Holds display (row_after prompt line)) empty holds)

  -- a bell, or nothing
  ring_shown : (rings_bell : Bool) (display : D) (text : List ℕ) → Holds display text → Holds (feed display (ring rings_bell)) text
  unfolding ring
  ring_shown true display text holds = is_display.bells display text holds
  ring_shown false display text holds = fed_none display text holds

  -- what completes the line is added to it
  pub inserted_shown : (display : D) (prompt line bytes : List ℕ) (rings_bell : Bool) → Completes bytes
      → Holds display (row_after prompt line)
      → Holds (feed display (drop (length line) (line ++ bytes) ++ ring rings_bell)) (row_after prompt (line ++ bytes))
  inserted_shown display prompt line bytes rings_bell completes holds =
      let row = row_after prompt (line ++ bytes) in
      let grows : Holds (feed display bytes) row =
      subst (λ shown. Holds (feed display shown) row) completes.shown (grown display prompt line bytes completes.plain holds) in
      subst (λ shown. Holds (feed display (shown ++ ring rings_bell)) row) (sym (drop-append_seam line bytes))
      (subst (λ (after : D). Holds after row) (sym (is_display.turns display bytes (ring rings_bell)))
      (ring_shown rings_bell (feed display bytes) row grows))

  -- the end of a line, with or without a complaint after it
  -- a text after another, on a line of its own
  text_shown_below : (display : D) (front text : List ℕ)
      → Holds (feed display (end_of_line ++ (front ++ (text ++ end_of_line)))) []
  text_shown_below display front text =
      subst (λ bytes. Holds (feed display bytes) [])
      (append_assoc (end_of_line ++ front) text end_of_line ∙ append_assoc end_of_line front (text ++ end_of_line))
      (holds_end display ((end_of_line ++ front) ++ text))

  refusal_shown : (display : D) (code : Code) → Holds (feed display (end_of_line ++ refusal code)) []
  unfolding refusal
  refusal_shown display code = text_shown_below display question (code_text code)

  omission_shown : (display : D) (name : Option (List ℕ)) (code : Code)
      → Holds (feed display (end_of_line ++ omission name code)) []
  omission_shown display None code = refusal_shown display code
  omission_shown display (Some name) code = text_shown_below display missing name

  pub end_shown : (display : D) (graph : Graph) (line : List ℕ) (ends : Ending)
      → Holds (feed display (end_of_line ++ complaint graph line ends)) []
  unfolding complaint
  end_shown display graph line (ending.Open place) = subst (λ bytes. Holds (feed display bytes) []) (sym (append-nil end_of_line)) (holds_end display [])
  end_shown display graph line ending.Done = subst (λ bytes. Holds (feed display bytes) []) (sym (append-nil end_of_line)) (holds_end display [])
  end_shown display graph line (ending.Fault fault) =
      cond_each (λ bytes. Holds (feed display (end_of_line ++ bytes)) []) (fault.at == length line) _ _
      (omission_shown display (awaited (slice_get graph.nodes fault.node)) fault.code)
      (refusal_shown display fault.code)

  module _ (s : Setting) (key : ℕ) (display : D) (node : ℕ) (prompt : Prompt) (line : List ℕ) (recall : Option (List ℕ)) (rings_bell : Bool)
      (fields : List FieldView) (ends : Ending) where
    -- after the echo of a key, by its class
    by_class : (class : KeyClass) (inserted : List ℕ) → (class ≡ Text → is_text key ≡ true) → ArePrinted (prompt_text prompt) → IsLine line
        → IfSome recall IsLine → IfSome recall (λ (bytes : List ℕ). line ≡ []) → Completes inserted
        → Holds display (row_after (prompt_text prompt) line)
        → ShowsAfter Holds class
        (feed display (echo_of s class key (length line) (takes_join class line) (is_some recall) rings_bell
        (left_by class key node prompt line recall inserted fields ends)))
        (left_by class key node prompt line recall inserted fields ends)
    by_class Text inserted text printed is recall_is empty completes holds =
        byte_shown (nat_lt (length line) LINE_LIMIT) display (prompt_text prompt) line key (text refl) holds
    by_class Rub inserted text printed is recall_is empty completes holds =
        taken_shown display prompt line (length line - 1) (omega arith) printed is holds
    by_class Word inserted text printed is recall_is empty completes holds =
        taken_shown display prompt line (word_start line) (word_start-le line) printed is holds
    by_class Erase inserted text printed is recall_is empty completes holds =
        taken_shown display prompt line 0 (omega arith) printed is holds
    by_class Show inserted text printed is recall_is empty completes holds = again_shown display [] prompt line printed is
    by_class Help inserted text printed is recall_is empty completes holds =
        again_shown display (question ++ help_text s fields ends line) prompt line printed is
    by_class Back inserted text printed is recall_is empty completes holds =
        recall_shown display (prompt_text prompt) line recall recall_is empty holds
    by_class Stop inserted text printed is recall_is empty completes holds = holds_end display control_c
    by_class Escape inserted text printed is recall_is empty completes holds =
        inserted_shown display (prompt_text prompt) line inserted rings_bell completes holds
    by_class Part inserted text printed is recall_is empty completes holds =
        inserted_shown display (prompt_text prompt) line inserted rings_bell completes holds
    by_class Join inserted text printed is recall_is empty completes holds = join_shown_after display (prompt_text prompt) line
    by_class End inserted text printed is recall_is empty completes holds = end_shown display s.graph line ends
    by_class Other inserted text printed is recall_is empty completes holds =
        is_display.bells display (row_after (prompt_text prompt) line) holds

  -- the echo of a key leaves prompt and line on the display
  pub key_shows : (s : Setting) → IsSound s → (held : SessionState) (key : ℕ) → IsClear held → (display : D) → Shows Holds display held
      → ShowsAfter Holds (class_at (line_before held) key) (feed display (echo s held key)) (edited s held key)
  unfolding echo edited_as
  key_shows s sound held key clear display shows =
      let class : KeyClass = class_at (line_before held) key in
      let ends : Ending = (parse_of s held.node (line_before held)).ending in
      by_class s key display held.node held.prompt (line_before held) held.recall (completed s held class).bell _ _ class
      (completed s held class).bytes (text_at (line_before held) key) clear.prompt clear.line clear.recall clear.empty
      (completion_completes s sound class (parse_of s held.node (line_before held)).fields ends (line_before held)) shows

  -- a line begins after its prompt
  pub start_shows : (display : D) → Holds display [] → (node : ℕ) (prompt : Prompt) (recall : Option (List ℕ)) → ArePrinted (prompt_text prompt)
      → Shows Holds (feed display (prompt_text prompt)) (at_start node prompt recall)
  start_shows display holds node prompt recall printed = is_display.texts display [] (prompt_text prompt) printed holds

  -- a reply that ends its line
  pub reply_shows : (display : D) (bytes : List ℕ) → EndsLine bytes → Holds display [] → Holds (feed display bytes) []
  reply_shows display bytes (inl none) holds = subst (λ bytes. Holds (feed display bytes) []) (sym none) (fed_none display [] holds)
  reply_shows display bytes (inr ended) holds = subst (λ bytes. Holds (feed display bytes) []) ended.ends (is_display.line_feeds display ended.front)
