-- What the keys of a generated run make of the line under edit, as far as its first letters go.
-- That no generated line is LOGOUT is an abstract run over kinds of beginning (go), refl but for digits.
use Rattle.std.proofs.Common.{◌≡◌, ◌⊎◌, inl, inr, ℕ, zero, suc, ◌-◌, ◌==◌, ◌&&◌, ◌||◌, not, nat_lt, Bool, true, false, cond, if◌then◌else◌, List, [], ◌∷◌, ◌++◌, length, length-append, slice_get, take, Option, Some, None, refl, sym, ap, subst, ◌∙◌, arith}
use Rattle.std.specs.Option.{option_map_or}
use Rattle.std.proofs.lemmas.Bool.{and_parts}
use Rattle.std.proofs.lemmas.Bool.Decides.{nat_tests}
use Rattle.cm_text.specs.Bytes.{is_text}
use Rattle.cm_text.specs.Text.{ends_in_hyphen, joined}
use Rattle.cm_text.specs.declared.text.TheConstants.{JOIN, LINE_LIMIT}
use Rattle.cm_line.specs.declared.key.KeyClass.{KeyClass}
use Rattle.cm_line.specs.declared.key.KeyClass.TheVariants.{Text, End, Join, Rub, Word, Escape, Other}
use Rattle.cm_line.specs.Keys.{class_at, class_of, is_end}
use Rattle.cm_line.specs.Word.{word_start}
use Rattle.cm_state.specs.Edit.{edit}

-- the letters with which the lines of a generated run begin
abbrev pub is_letter : ℕ → Bool
is_letter byte = byte == 67 || (byte == 68 || (byte == 69 || (byte == 73 || byte == 85)))

-- where in a line a key is: at its start, after such a letter, after one more byte, after an L, or after LI
pub data Where : Type 0 where
  Fresh : Where
  Begun : Where
  Far : Where
  Ell : Where
  Lined : Where

-- where a key leads, if it may be there
abbrev pub begins_by : ℕ → Option Where
begins_by key =
    if is_letter key then Some Begun
    else (if key == 76 then Some Ell else (if key == 26 then Some Fresh
    else (if key == 127 then Some Fresh else (if key == 23 then Some Fresh else None))))

abbrev pub goes_on_by : ℕ → Option Where
goes_on_by key =
    if key == 13 then Some Fresh
    else (if key == 27 then Some Begun else (if key == 127 then Some Fresh else (if key == 23 then Some Fresh
    else (if is_text key then Some Far else None))))

abbrev pub far_by : ℕ → Option Where
far_by key =
    if key == 13 then Some Fresh
    else (if key == 27 then Some Far else (if key == 127 then Some Begun else (if key == 23 then Some Fresh
    else (if is_text key then Some Far else None))))

abbrev pub lines_by : ℕ → Option Where
lines_by key = if key == 13 then Some Fresh else (if is_text key && not (key == 45) then Some Lined else None)

abbrev pub go : Where → ℕ → Option Where
go Fresh key = begins_by key
go Begun key = goes_on_by key
go Far key = far_by key
go Ell key = if key == 73 then Some Lined else None
go Lined key = lines_by key

-- what the line is there
abbrev pub Headed : List ℕ → Type 0
Headed line = (first : ℕ) × (rest : List ℕ) × (is_letter first ≡ true) × (line ≡ first ∷ rest)

abbrev pub Long : List ℕ → Type 0
Long line = (first : ℕ) × (second : ℕ) × (rest : List ℕ) × (is_letter first ≡ true) × (line ≡ first ∷ second ∷ rest)

abbrev pub Listed : List ℕ → Type 0
Listed line = (rest : List ℕ) × (line ≡ 76 ∷ 73 ∷ rest) × (ends_in_hyphen line ≡ false)

abbrev pub Is : Where → List ℕ → Type 0
Is Fresh line = (line ≡ []) ⊎ Headed line
Is Begun line = Headed line
Is Far line = Long line
Is Ell line = (line ≡ 76 ∷ []) ⊎ Headed line
Is Lined line = Listed line ⊎ Headed line

-- a letter is one of five
equal : (key n : ℕ) → (key == n) ≡ true → key ≡ n
equal key n same = grind (arith, nat_tests, same)

pick : (P : ℕ → Type 0) (key n : ℕ) (rest : Bool) → P n → (rest ≡ true → P key) → ((key == n) || rest) ≡ true → P key
pick P key n rest here later is = by (key == n) refl is where
  by : (test : Bool) → (key == n) ≡ test → (test || rest) ≡ true → P key
  by true same is = subst P (sym (equal key n same)) here
  by false other is = later is

pub by_letter : (P : ℕ → Type 0) → P 67 → P 68 → P 69 → P 73 → P 85 → (key : ℕ) → is_letter key ≡ true → P key
by_letter P c d e i u key is =
    pick P key 67 _ c (pick P key 68 _ d (pick P key 69 _ e (pick P key 73 _ i (λ last. subst P (sym (equal key 85 last)) u)))) is

-- the class of a key
class_known : (line : List ℕ) (key : ℕ) (class : KeyClass) → class_of key ≡ class → is_end class ≡ false → class_at line key ≡ class
unfolding class_at
class_known line key class is none =
    ap (λ (it : KeyClass). cond (is_end it && ends_in_hyphen line) Join it) is
    ∙ ap (λ (test : Bool). cond (test && ends_in_hyphen line) Join class) none

text_class : (line : List ℕ) (key : ℕ) → is_text key ≡ true → class_at line key ≡ Text
unfolding class_of
text_class line key is = class_known line key Text (rw is refl) refl

letter_class : (line : List ℕ) (key : ℕ) → is_letter key ≡ true → class_at line key ≡ Text
unfolding is_text
letter_class line key is = text_class line key (by_letter (λ it. is_text it ≡ true) refl refl refl refl refl key is)

-- the outcome of a key: the line goes on so, or it is finished
abbrev pub is_edit : KeyClass → Bool
is_edit Text = true
is_edit Rub = true
is_edit Word = true
is_edit Escape = true
is_edit Other = true
is_edit Join = true
is_edit class = false

pub record Edits (line inserted : List ℕ) (recall : Option (List ℕ)) (key : ℕ) (to : Where) : Type 0 where
  pub class : KeyClass
  pub class_is : class_at line key ≡ class
  pub edits : is_edit class ≡ true
  pub there : Is to (edit class key line recall inserted)

pub record Ends (line : List ℕ) (key : ℕ) (to : Where) : Type 0 where
  pub class_is : class_at line key ≡ End
  pub to_is : to ≡ Fresh
  pub begins : Is Lined line

-- a line with a byte more ends in a hyphen where the byte is one
last_of : (bytes : List ℕ) (key : ℕ) → slice_get (bytes ++ key ∷ []) (length bytes) ≡ Some key
last_of [] key = refl
last_of (byte ∷ bytes) key = last_of bytes key

hyphen_last : (bytes : List ℕ) (key : ℕ) → ends_in_hyphen (bytes ++ key ∷ []) ≡ (key == 45)
hyphen_last bytes key =
    let size : length (bytes ++ key ∷ []) - 1 ≡ length bytes = omega (arith, length-append bytes (key ∷ [])) in
    ap (λ (n : ℕ). option_map_or (λ (byte : ℕ). byte == 45) (slice_get (bytes ++ key ∷ []) n) false) size
    ∙ ap (λ (it : Option ℕ). option_map_or (λ (byte : ℕ). byte == 45) it false) (last_of bytes key)

not_so : (test : Bool) → not test ≡ true → test ≡ false
not_so true is = absurd (cc)
not_so false is = refl

module _ (inserted : List ℕ) (recall : Option (List ℕ)) where
  -- a byte more, where one fits
  more_headed : (line : List ℕ) (key : ℕ) → Headed line → Headed (edit Text key line recall inserted)
  more_headed line key it =
      subst (λ (line : List ℕ). Headed (edit Text key line recall inserted)) (sym it.3) (by (nat_lt (length (it.0 ∷ it.1)) LINE_LIMIT)) where
        by : (test : Bool) → Headed (cond test ((it.0 ∷ it.1) ++ key ∷ []) (it.0 ∷ it.1))
        by true = (it.0, it.1 ++ key ∷ [], it.2, refl)
        by false = (it.0, it.1, it.2, refl)

  -- two at least after a letter
  longer : (line : List ℕ) (key : ℕ) → Headed line → Long (edit Text key line recall inserted)
  longer line key it = subst (λ (line : List ℕ). Long (edit Text key line recall inserted)) (sym it.3) (by it.1) where
    by : (rest : List ℕ) → Long (edit Text key (it.0 ∷ rest) recall inserted)
    by [] = (it.0, key, [], it.2, refl)
    by (second ∷ rest) = fits (nat_lt (length (it.0 ∷ second ∷ rest)) LINE_LIMIT) where
      fits : (test : Bool) → Long (cond test ((it.0 ∷ second ∷ rest) ++ key ∷ []) (it.0 ∷ second ∷ rest))
      fits true = (it.0, second, rest ++ key ∷ [], it.2, refl)
      fits false = (it.0, second, rest, it.2, refl)

  -- fewer bytes
  fewer : (n : ℕ) (line : List ℕ) → Is Fresh line → Is Fresh (take n line)
  fewer n line (inl none) = inl (ap (λ it. take n it) none ∙ by n) where
    by : (n : ℕ) → take {A = ℕ} n [] ≡ []
    by zero = refl
    by (suc n) = refl
  fewer n line (inr it) = subst (λ (line : List ℕ). Is Fresh (take n line)) (sym it.3) (by n) where
    by : (n : ℕ) → Is Fresh (take n (it.0 ∷ it.1))
    by zero = inl refl
    by (suc n) = inr (it.0, take n it.1, it.2, refl)

  -- a join byte in the place of a hyphen
  join_headed : (line : List ℕ) → Headed line → ends_in_hyphen line ≡ true → Headed (joined line)
  join_headed line it hyphen =
      subst (λ (line : List ℕ). Headed (joined line)) (sym it.3) (by it.1 (subst (λ (line : List ℕ). ends_in_hyphen line ≡ true) it.3 hyphen)) where
        none : (first : ℕ) → is_letter first ≡ true → (first == 45) ≡ false
        none first is = by_letter (λ it. (it == 45) ≡ false) refl refl refl refl refl first is

        by : (rest : List ℕ) → ends_in_hyphen (it.0 ∷ rest) ≡ true → Headed (joined (it.0 ∷ rest))
        by [] hyphen = let both : true ≡ false = sym hyphen ∙ none it.0 it.2 in absurd (cc)
        by (second ∷ rest) hyphen =
            let more : length (it.0 ∷ second ∷ rest) - 1 ≡ suc (length rest) = omega arith in
            (it.0, take (length rest) (second ∷ rest) ++ JOIN ∷ [], it.2, ap (λ (n : ℕ). take n (it.0 ∷ second ∷ rest) ++ JOIN ∷ []) more)

  -- where a choice of where to go leads
  split : (A : Type 0) (test : Bool) (to v : Where) (later : Option Where) → cond test (Some to) later ≡ Some v → (test ≡ true → to ≡ v → A)
      → (later ≡ Some v → A) → A
  split A true to v later is here there = let same : to ≡ v = cc in here refl same
  split A false to v later is here there = there is

  abbrev Comes : List ℕ → ℕ → Where → Type 0
  Comes line key v = Ends line key v ⊎ Edits line inserted recall key v

  edits_to : (line : List ℕ) (key : ℕ) (class : KeyClass) (to v : Where) → to ≡ v → class_at line key ≡ class → is_edit class ≡ true
      → Is to (edit class key line recall inserted) → Comes line key v
  edits_to line key class to v same class_is edits there =
      subst (λ (v : Where). Comes line key v) same (inr (record { class = class; class_is = class_is; edits = edits; there = there }))

  rub_class : (line : List ℕ) (key : ℕ) → (key == 127) ≡ true → class_at line key ≡ Rub
  unfolding class_of is_text
  rub_class line key is = class_known line key Rub (ap class_of (equal key 127 is)) refl

  word_class : (line : List ℕ) (key : ℕ) → (key == 23) ≡ true → class_at line key ≡ Word
  unfolding class_of is_text
  word_class line key is = class_known line key Word (ap class_of (equal key 23 is)) refl

  after_fresh : (v : Where) (line : List ℕ) (key : ℕ) → begins_by key ≡ Some v → Is Fresh line → Comes line key v
  unfolding class_of is_text
  after_fresh v line key is at =
      split _ (is_letter key) Begun v _ is (λ letter to. edits_to line key Text Begun v to (letter_class line key letter) refl (lettered at letter))
      (λ is. split _ (key == 76) Ell v _ is (λ ell to. edits_to line key Text Ell v to (text_class line key (ap is_text (equal key 76 ell))) refl (other at (equal key 76 ell)))
      (λ is. split _ (key == 26) Fresh v _ is (λ same to. edits_to line key Other Fresh v to (class_known line key Other (ap class_of (equal key 26 same)) refl) refl at)
      (λ is. split _ (key == 127) Fresh v _ is (λ same to. edits_to line key Rub Fresh v to (rub_class line key same) refl (fewer (length line - 1) line at))
      (λ is. split _ (key == 23) Fresh v _ is (λ same to. edits_to line key Word Fresh v to (word_class line key same) refl (fewer (word_start line) line at))
      (λ is. absurd (cc)))))) where
        lettered : Is Fresh line → is_letter key ≡ true → Headed (edit Text key line recall inserted)
        lettered (inl none) is = subst (λ (line : List ℕ). Headed (edit Text key line recall inserted)) (sym none) (key, [], is, refl)
        lettered (inr it) is = more_headed line key it

        other : Is Fresh line → key ≡ 76 → Is Ell (edit Text key line recall inserted)
        other (inl none) is = inl (ap (λ (line : List ℕ). edit Text key line recall inserted) none ∙ ap (λ (byte : ℕ). byte ∷ []) is)
        other (inr it) is = inr (more_headed line key it)

  after_end : (v : Where) (line : List ℕ) (key : ℕ) → (key == 13) ≡ true → Fresh ≡ v → Is Lined line → Comes line key v
  unfolding class_of class_at is_text
  after_end v line key is to at = by (ends_in_hyphen line) refl at where
    class : class_of key ≡ End
    class = ap class_of (equal key 13 is)

    by : (hyphen : Bool) → ends_in_hyphen line ≡ hyphen → Is Lined line → Comes line key v
    by false none at =
        inl (record {
          class_is = ap (λ (it : KeyClass). cond (is_end it && ends_in_hyphen line) Join it) class
              ∙ ap (λ (test : Bool). cond (true && test) Join End) none;
          to_is = sym to;
          begins = at;
        })
    by true some (inl it) = let both : true ≡ false = sym some ∙ it.2 in absurd (cc)
    by true some (inr it) =
        edits_to line key Join Fresh v to
        (ap (λ (it : KeyClass). cond (is_end it && ends_in_hyphen line) Join it) class ∙ ap (λ (test : Bool). cond (true && test) Join End) some) refl
        (inr (join_headed line it some))

  after_begun : (v : Where) (line : List ℕ) (key : ℕ) → goes_on_by key ≡ Some v → Headed line → Comes line key v
  unfolding class_of is_text
  after_begun v line key is at =
      split _ (key == 13) Fresh v _ is (λ same to. after_end v line key same to (inr at))
      (λ is. split _ (key == 27) Begun v _ is (λ same to. edits_to line key Escape Begun v to (class_known line key Escape (ap class_of (equal key 27 same)) refl) refl inserted_headed)
      (λ is. split _ (key == 127) Fresh v _ is (λ same to. edits_to line key Rub Fresh v to (rub_class line key same) refl (fewer (length line - 1) line (inr at)))
      (λ is. split _ (key == 23) Fresh v _ is (λ same to. edits_to line key Word Fresh v to (word_class line key same) refl (fewer (word_start line) line (inr at)))
      (λ is. split _ (is_text key) Far v _ is (λ same to. edits_to line key Text Far v to (text_class line key same) refl (longer line key at))
      (λ is. absurd (cc)))))) where
        inserted_headed : Headed (line ++ inserted)
        inserted_headed = (at.0, at.1 ++ inserted, at.2, ap (λ (it : List ℕ). it ++ inserted) at.3)

  after_far : (v : Where) (line : List ℕ) (key : ℕ) → far_by key ≡ Some v → Long line → Comes line key v
  unfolding class_of is_text
  after_far v line key is at =
      split _ (key == 13) Fresh v _ is (λ same to. after_end v line key same to (inr headed))
      (λ is. split _ (key == 27) Far v _ is (λ same to. edits_to line key Escape Far v to (class_known line key Escape (ap class_of (equal key 27 same)) refl) refl inserted_long)
      (λ is. split _ (key == 127) Begun v _ is (λ same to. edits_to line key Rub Begun v to (rub_class line key same) refl shorter)
      (λ is. split _ (key == 23) Fresh v _ is (λ same to. edits_to line key Word Fresh v to (word_class line key same) refl (fewer (word_start line) line (inr headed)))
      (λ is. split _ (is_text key) Far v _ is (λ same to. edits_to line key Text Far v to (text_class line key same) refl (longer line key headed))
      (λ is. absurd (cc)))))) where
        headed : Headed line
        headed = (at.0, at.1 ∷ at.2, at.3, at.4)

        inserted_long : Long (line ++ inserted)
        inserted_long = (at.0, at.1, at.2 ++ inserted, at.3, ap (λ (it : List ℕ). it ++ inserted) at.4)

        shorter : Headed (take (length line - 1) line)
        shorter =
            let more : length (at.0 ∷ at.1 ∷ at.2) - 1 ≡ suc (length at.2) = omega arith in (
              at.0,
              take (length at.2) (at.1 ∷ at.2),
              at.3,
              ap (λ (line : List ℕ). take (length line - 1) line) at.4 ∙ ap (λ (n : ℕ). take n (at.0 ∷ at.1 ∷ at.2)) more,
            )

  after_ell : (v : Where) (line : List ℕ) (key : ℕ) → go Ell key ≡ Some v → Is Ell line → Comes line key v
  unfolding is_text
  after_ell v line key is at =
      split _ (key == 73) Lined v _ is (λ same to. edits_to line key Text Lined v to (text_class line key (ap is_text (equal key 73 same))) refl (listed at (equal key 73 same)))
      (λ is. absurd (cc)) where
        listed : Is Ell line → key ≡ 73 → Is Lined (edit Text key line recall inserted)
        listed (inl one) same =
            let line_is : edit Text key line recall inserted ≡ 76 ∷ 73 ∷ []
            = ap (λ (line : List ℕ). edit Text key line recall inserted) one ∙ ap (λ (byte : ℕ). 76 ∷ byte ∷ []) same in
            inl ([], line_is, ap (λ (it : List ℕ). ends_in_hyphen it) line_is)
        listed (inr it) same = inr (more_headed line key it)

  after_lined : (v : Where) (line : List ℕ) (key : ℕ) → lines_by key ≡ Some v → Is Lined line → Comes line key v
  after_lined v line key is at =
      split _ (key == 13) Fresh v _ is (λ same to. after_end v line key same to at)
      (λ is. split _ (is_text key && not (key == 45)) Lined v _ is
      (λ both to. let parts = and_parts (is_text key) (not (key == 45)) both in
      edits_to line key Text Lined v to (text_class line key parts.0) refl (listed at (not_so (key == 45) parts.1)))
      (λ is. absurd (cc))) where
        listed : Is Lined line → (key == 45) ≡ false → Is Lined (edit Text key line recall inserted)
        listed (inr it) other = inr (more_headed line key it)
        listed (inl it) other = by (nat_lt (length line) LINE_LIMIT) where
          by : (fits : Bool) → Is Lined (cond fits (line ++ key ∷ []) line)
          by true = inl (it.0 ++ key ∷ [], ap (λ (line : List ℕ). line ++ key ∷ []) it.1, hyphen_last line key ∙ other)
          by false = inl it

  -- the outcome of a key
  pub after : (w v : Where) (line : List ℕ) (key : ℕ) → go w key ≡ Some v → Is w line → Comes line key v
  after Fresh v line key is at = after_fresh v line key is at
  after Begun v line key is at = after_begun v line key is at
  after Far v line key is at = after_far v line key is at
  after Ell v line key is at = after_ell v line key is at
  after Lined v line key is at = after_lined v line key is at
