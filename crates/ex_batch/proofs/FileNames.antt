-- What a word says as the name of a file.
use Rattle.std.proofs.Common.{◌≡◌, ℕ, ◌==◌, Bool, true, false, List, length, take, Result, Err, refl, sym, ap, ◌∙◌, subst}
use Rattle.std.specs.Prelude.{if◌then◌else◌}
use Rattle.std.specs.List.{prefix_len}
use Rattle.cm_text.specs.Text.{finished}
use Rattle.cm_fields.specs.declared.code.Code.{Code}
use Rattle.cm_fields.specs.declared.code.Code.TheVariants.{SpecShape}
use Rattle.cm_fields.specs.declared.trial.Try.{Try}
use Rattle.cm_fields.specs.declared.trial.Try.TheVariants.{Accept, More, Refuse}
use Rattle.cm_fields.specs.declared.value.FileKind.TheVariants.{In}
use Rattle.cm_fields.specs.declared.value.Value.{Value}
use Rattle.cm_files.specs.Catalogue.{Catalogue}
use Rattle.cm_files.specs.Fields.{file, file_of, is_file}
use Rattle.cm_blocks.specs.Words.{no_flags}
use Rattle.ex_store.specs.declared.place.Place.{Place}
use Rattle.ex_commands.specs.Line.{place_by}
use Rattle.ex_commands.specs.NameParts.{IsSaid}
use Rattle.cm_blocks.proofs.Places.{run_of}
use Rattle.ex_commands.proofs.ShortParts.{file_said}
use Rattle.ex_batch.specs.ControlFile.{place_or_shape, place_said}

-- the names in it are short
pub word_said : (c : Catalogue) (text : List ℕ) (value : Value) (looked end : ℕ) (said : Try) → said ≡ file c In no_flags text 0
    → said ≡ Accept value looked end → IsSaid value
word_said c text value looked end said of is =
    let run = run_of is_file (file_of c In no_flags 0) text 0 value looked end (sym of ∙ is) in
    file_said c In no_flags 0 (take (prefix_len is_file text) text) value run.decided

module _ (c : Catalogue) (word text : List ℕ) (said : Try) (is : text ≡ finished word) (of : said ≡ file c In no_flags text 0) where
  whole : said ≡ file c In no_flags (finished word) 0
  whole = of ∙ ap (λ (it : List ℕ). file c In no_flags it 0) is

  -- it ends before the word does
  pub said_short : (value : Value) (looked end : ℕ) → said ≡ Accept value looked end → (end == length word) ≡ false
      → Err SpecShape ≡ place_said c word (file c In no_flags (finished word) 0)
  said_short value looked end some short =
      subst (λ (it : Try). Err SpecShape ≡ place_said c word it) (sym some ∙ whole) (by (end == length word) short)
    where
      by : (test : Bool) → test ≡ false
          → Err SpecShape ≡ (if test then place_or_shape (place_by c no_flags (finished word) value) else Err SpecShape)
      by true is = absurd (cc)
      by false is = refl

  -- it takes the whole word
  pub said_whole : (value : Value) (looked end : ℕ) (result : Result Place Code) → said ≡ Accept value looked end
      → (end == length word) ≡ true → result ≡ place_or_shape (place_by c no_flags text value)
      → result ≡ place_said c word (file c In no_flags (finished word) 0)
  said_whole value looked end result some all gives =
      subst (λ (it : Try). result ≡ place_said c word it) (sym some ∙ whole) (by (end == length word) all)
    where
      by : (test : Bool) → test ≡ true
          → result ≡ (if test then place_or_shape (place_by c no_flags (finished word) value) else Err SpecShape)
      by true is_true = gives ∙ ap (λ (it : List ℕ). place_or_shape (place_by c no_flags it value)) is
      by false is_true = absurd (cc)

  -- it is refused
  pub said_refused : (code : Code) (looked : ℕ) → said ≡ Refuse code looked
      → Err code ≡ place_said c word (file c In no_flags (finished word) 0)
  said_refused code looked some = subst (λ (it : Try). Err code ≡ place_said c word it) (sym some ∙ whole) refl

  -- it goes on
  pub said_more : said ≡ More → Err SpecShape ≡ place_said c word (file c In no_flags (finished word) 0)
  said_more some = subst (λ (it : Try). Err SpecShape ≡ place_said c word it) (sym some ∙ whole) refl
