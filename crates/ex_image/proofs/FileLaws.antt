-- The fields of files and of requests: their readers and their writers.
use Rattle.std.proofs.Common.{◌≡◌, ℕ, zero, suc, ◌<◌, ℤ, pos, negsuc, Bool, true, false, nat_lt, cond, List, ◌∷◌, ◌++◌, codes, Option, Some, None, Result, Ok, refl, ap, subst, sym, ◌∙◌, arith}
use Rattle.std.specs.Char.{is_ascii_digit}
use Rattle.std.specs.Fmt.{decimal}
use Rattle.std.specs.List.{list_all}
use Rattle.std.specs.Option.{option_map}
use Rattle.std.specs.Str.{bytes_eq}
use Rattle.std.proofs.lemmas.Bool.{and_from, and_parts, le-leb, ltb-true}
use Rattle.std.proofs.lemmas.Slice.Eq.{bytes_eq-Decides}
use Rattle.cm_lists.proofs.Quantifiers.{all_joined, all_weaker}
use Rattle.cm_lists.proofs.Texts.{by_word}
use Rattle.cm_text.specs.Bytes.{is_name}
use Rattle.ex_store.specs.declared.key.FullName.{FullName}
use Rattle.ex_store.specs.declared.limits.TheConstants.{FORMS}
use Rattle.ex_store.specs.Forms.{form_text}
use Rattle.ex_store.specs.WellFormed.{is_file_name, is_file_type}
use Rattle.cm_io.specs.declared.status.Kind.{Kind}
use Rattle.cm_io.specs.declared.status.Kind.TheVariants.{Form}
use Rattle.ex_image.specs.Fields.{◌>>=◌, after_of, file_of, form_of, mark_of, optional_of}
use Rattle.ex_image.specs.Grammar.{is_short, is_short_day, is_short_optional}
use Rattle.ex_image.specs.Record.{after_text, file_text, mark_text, optional_text}
use Rattle.ex_image.proofs.FieldLaws.{file_name_names, file_type_names, is_dark, name_dark, kind_spelling, name_spelling, number_digits, number_spelling, point_no_name}
use Rattle.ex_image.proofs.Spellings.{IsSpelling, by_part, by_rest, done, part_again}

-- a full name by its parts
abbrev full_name : List ℕ → List ℕ → List ℕ → ℕ → FullName
full_name directory name kind generation =
    record { key = record { directory = directory; name = name; kind = kind }; generation = generation }

-- a full name that may be read as one in this directory
pub record IsFile (directory : List ℕ) (full : FullName) : Type 0 where
  pub directory_is : full.key.directory ≡ directory
  pub name : is_file_name full.key.name ≡ true
  pub kind : is_file_type full.key.kind ≡ true
  pub generation : is_short full.generation ≡ true

-- the parts of a full name make its text
file_end : (directory bytes name after kind rest : List ℕ) (generation : ℕ) (full : FullName)
    → bytes ≡ name ++ 46 ∷ after → after ≡ kind ++ 46 ∷ rest → rest ≡ decimal generation
    → is_file_name name ≡ true → is_file_type kind ≡ true → is_short generation ≡ true
    → done (full_name directory name kind generation) ≡ done full → (bytes ≡ file_text full) × IsFile directory full
file_end directory bytes name after kind rest generation full one two three named typed short is =
    let same : full_name directory name kind generation ≡ full = cc in
    subst (λ full. (bytes ≡ file_text full) × IsFile directory full) same (
      one ∙ ap (λ after. name ++ 46 ∷ after) (two ∙ ap (λ rest. kind ++ 46 ∷ rest) three),
      record { directory_is = refl; name = named; kind = typed; generation = short },
    )

file_takes : (directory bytes : List ℕ) (full : FullName) → file_of directory bytes ≡ Ok full
    → (bytes ≡ file_text full) × IsFile directory full
unfolding file_of
file_takes directory bytes full is =
    by_part _ _ _ _ name_spelling 46 Form bytes _ full _ is λ name after one named is.
    by_part _ _ _ _ kind_spelling 46 Form after _ full _ is λ kind rest two typed is.
    by_rest _ _ _ _ number_spelling rest _ full _ is λ generation three short is.
    file_end directory bytes name after kind rest generation full one two three named typed short is

file_again : (directory : List ℕ) (full : FullName) → IsFile directory full
    → file_of directory (file_text full) ≡ Ok full
unfolding file_of
file_again directory full good =
    rw (
      part_again _ _ _ _ name_spelling 46 Form point_no_name full.key.name
          (full.key.kind ++ 46 ∷ decimal full.generation) good.name,
      part_again _ _ _ _ kind_spelling 46 Form point_no_name full.key.kind (decimal full.generation) good.kind,
      number_spelling.again full.generation good.generation,
      good.directory_is,
    ) refl

file_only : (directory : List ℕ) (full : FullName) → IsFile directory full → list_all is_dark (file_text full) ≡ true
file_only directory full good =
    all_joined is_dark full.key.name 46 (full.key.kind ++ 46 ∷ decimal full.generation)
    (all_weaker is_name is_dark name_dark full.key.name (file_name_names full.key.name good.name)) refl
    (all_joined is_dark full.key.kind 46 (decimal full.generation)
    (all_weaker is_name is_dark name_dark full.key.kind (file_type_names full.key.kind good.kind)) refl
    (number_spelling.only full.generation good.generation))

pub file_spelling : (directory : List ℕ) → IsSpelling (file_of directory) file_text (IsFile directory) is_dark
file_spelling directory =
    record { takes = file_takes directory; again = file_again directory; only = file_only directory }

-- what a text says that is one of a few words
chosen : {A : Type 0} (bytes word : List ℕ) (x : A) (other : Result A Kind) (y : A) (P : Type 0)
    → cond (bytes_eq bytes word) (done x) other ≡ done y → (bytes ≡ word → x ≡ y → P) → (other ≡ done y → P) → P
chosen bytes word x other y P is this that =
    by_word bytes word (done x) other (done y) P is (λ same is. let e : x ≡ y = cc in this same e) that

mark_takes : (bytes : List ℕ) (mark : Bool) → mark_of bytes ≡ Ok mark → (bytes ≡ mark_text mark) × Unit {0}
unfolding mark_of
mark_takes bytes mark is =
    chosen bytes (codes "U") false _ mark _ is (λ word e. (word ∙ ap mark_text e, tt)) λ is.
    chosen bytes (codes "D") true _ mark _ is (λ word e. (word ∙ ap mark_text e, tt)) λ is.
    absurd (cc)

mark_again : (mark : Bool) → Unit {0} → mark_of (mark_text mark) ≡ Ok mark
unfolding mark_of
mark_again true good = refl
mark_again false good = refl

mark_only : (mark : Bool) → Unit {0} → list_all is_dark (mark_text mark) ≡ true
mark_only true good = refl
mark_only false good = refl

pub mark_spelling : IsSpelling mark_of mark_text (λ mark. Unit {0}) is_dark
mark_spelling = record { takes = mark_takes; again = mark_again; only = mark_only }

abbrev pub is_form : ℕ → Bool
is_form form = nat_lt form FORMS

form_takes : (bytes : List ℕ) (form : ℕ) → form_of bytes ≡ Ok form → (bytes ≡ form_text form) × (is_form form ≡ true)
unfolding form_of
form_takes bytes form is =
    chosen bytes (form_text 0) 0 _ form _ is (λ word e. (word ∙ ap form_text e, ap is_form (sym e))) λ is.
    chosen bytes (form_text 1) 1 _ form _ is (λ word e. (word ∙ ap form_text e, ap is_form (sym e))) λ is.
    chosen bytes (form_text 2) 2 _ form _ is (λ word e. (word ∙ ap form_text e, ap is_form (sym e))) λ is.
    absurd (cc)

form_again : (form : ℕ) → is_form form ≡ true → form_of (form_text form) ≡ Ok form
unfolding form_of
form_again zero good = refl
form_again (suc zero) good = refl
form_again (suc (suc zero)) good = refl
form_again (suc (suc (suc form))) good = absurd (large (ltb-true (suc (suc (suc form))) FORMS good))
  where
    large : suc (suc (suc form)) < 3 → ⊥
    large less = omega arith

form_only : (form : ℕ) → is_form form ≡ true → list_all is_dark (form_text form) ≡ true
form_only zero good = refl
form_only (suc zero) good = refl
form_only (suc (suc form)) good = refl

pub form_spelling : IsSpelling form_of form_text (λ form. is_form form ≡ true) is_dark
form_spelling = record { takes = form_takes; again = form_again; only = form_only }

-- a number or a hyphen
optional_takes : (bytes : List ℕ) (number : Option ℕ) → optional_of bytes ≡ Ok number
    → (bytes ≡ optional_text number) × (is_short_optional number ≡ true)
unfolding optional_of
optional_takes bytes number is =
    chosen bytes (codes "-") None _ number _ is
    (λ word e. (word ∙ ap optional_text e, ap is_short_optional (sym e))) λ is.
    by_rest _ _ _ _ number_spelling bytes _ number _ is λ found text short is.
    some_end bytes found number text short is
  where
    some_end : (bytes : List ℕ) (found : ℕ) (number : Option ℕ) → bytes ≡ decimal found → is_short found ≡ true
        → done (Some found) ≡ done number → (bytes ≡ optional_text number) × (is_short_optional number ≡ true)
    some_end bytes found number text short is =
        let same : Some found ≡ number = cc in
        (text ∙ ap optional_text same, subst (λ number. is_short_optional number ≡ true) same short)

hyphen_no_number : (number : ℕ) → is_short number ≡ true → bytes_eq (decimal number) (codes "-") ≡ false
hyphen_no_number number short =
    by (bytes_eq (decimal number) (codes "-")) (bytes_eq-Decides (decimal number) (codes "-")).0
  where
    by : (same : Bool) → (same ≡ true → decimal number ≡ codes "-") → same ≡ false
    by true means =
        let digit : list_all is_ascii_digit (codes "-") ≡ true =
        subst (λ bytes. list_all is_ascii_digit bytes ≡ true) (means refl) (number_digits number short) in
        absurd (cc)
    by false means = refl

optional_again : (number : Option ℕ) → is_short_optional number ≡ true → optional_of (optional_text number) ≡ Ok number
unfolding optional_of
optional_again None good = refl
optional_again (Some number) good = rw (hyphen_no_number number good, number_spelling.again number good) refl

optional_only : (number : Option ℕ) → is_short_optional number ≡ true → list_all is_dark (optional_text number) ≡ true
optional_only None good = refl
optional_only (Some number) good = number_spelling.only number good

pub optional_spelling : IsSpelling optional_of optional_text (λ number. is_short_optional number ≡ true) is_dark
optional_spelling = record { takes = optional_takes; again = optional_again; only = optional_only }

-- a day of ten digits
short_day : (day : Option ℕ) → is_short_optional day ≡ true → is_short_day (option_map pos day) ≡ true
short_day None short = refl
short_day (Some day) short = and_from _ _ (le-leb 0 day (omega arith)) short

pub day_short : (day : ℕ) → is_short_day (Some (pos day)) ≡ true → is_short day ≡ true
day_short day short = (and_parts _ _ short).1

day_text : (day : Option ℕ) → optional_text day ≡ after_text (option_map pos day)
day_text None = refl
day_text (Some day) = refl

after_takes : (bytes : List ℕ) (after : Option ℤ) → after_of bytes ≡ Ok after
    → (bytes ≡ after_text after) × (is_short_day after ≡ true)
unfolding after_of
after_takes bytes after is =
    by_rest _ _ _ _ optional_spelling bytes _ after _ is λ day text short is.
    after_end day text short is
  where
    after_end : (day : Option ℕ) → bytes ≡ optional_text day → is_short_optional day ≡ true
        → done (option_map pos day) ≡ done after → (bytes ≡ after_text after) × (is_short_day after ≡ true)
    after_end day text short is =
        let same : option_map pos day ≡ after = cc in (
          text ∙ (day_text day ∙ ap after_text same),
          subst (λ after. is_short_day after ≡ true) same (short_day day short),
        )

after_again : (after : Option ℤ) → is_short_day after ≡ true → after_of (after_text after) ≡ Ok after
unfolding after_of
after_again None good = ap (λ read. read >>= λ day. done (option_map pos day)) (optional_again None refl)
after_again (Some (pos day)) good =
    ap (λ read. read >>= λ day. done (option_map pos day)) (optional_again (Some day) (day_short day good))
after_again (Some (negsuc day)) good = absurd (cc)

after_only : (after : Option ℤ) → is_short_day after ≡ true → list_all is_dark (after_text after) ≡ true
after_only None good = refl
after_only (Some (pos day)) good = number_spelling.only day (day_short day good)
after_only (Some (negsuc day)) good = absurd (cc)

pub after_spelling : IsSpelling after_of after_text (λ after. is_short_day after ≡ true) is_dark
after_spelling = record { takes = after_takes; again = after_again; only = after_only }
