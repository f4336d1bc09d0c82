-- A text of a MAC address has its digits and dividers in their places, and what has them is one.
use Rattle.std.proofs.Common.{◌≡◌, ℕ, ◌+◌, ◌*◌, ◌/◌, ◌^◌, ◌<◌, ◌%◌, ◌⊎◌, inr, List, [], ◌∷◌, ◌++◌, length, get_or, refl, sym, ◌∙◌, subst, arith}
use Rattle.std.specs.Char.{digit_value}
use Rattle.std.specs.Str.Parse.{digits_value}
use Rattle.std.proofs.lemmas.Slice.Eq.{text_from_reads}
use borrow.Author.Count.{below_more, below_none}
use Rattle.std.proofs.lemmas.Str.{digit_value-digit_char}
use Rattle.std.specs.Char.{digit_char}
use Rattle.cm_net.specs.Written.{pair_text, pairs_text}
use Rattle.cm_net.specs.Mac.{IsPair, IsPairs, colon, hyphen}
use Rattle.cm_net.specs.MacShape.{HasMacShape, FitsPlace, octet_at}

octet_value : (x y : ℕ) → digit_value x * 16 + digit_value y ≡ digits_value 16 (x ∷ y ∷ [])
octet_value x y = omega arith

-- the octets where their digits are
abbrev octets_at : List ℕ → List ℕ
octets_at text =
    octet_at text 0 ∷ octet_at text 3 ∷ octet_at text 6 ∷ octet_at text 9 ∷ octet_at text 12 ∷ octet_at text 15 ∷ []

-- six pairs with a divider between each two, and their values
abbrev spelled : (divider : ℕ) (a b c d e f : List ℕ) → List ℕ
spelled divider a b c d e f =
    a ++ divider ∷ b ++ divider ∷ c ++ divider ∷ d ++ divider ∷ e ++ divider ∷ f

abbrev values : (a b c d e f : List ℕ) → List ℕ
values a b c d e f =
    digits_value 16 a ∷ digits_value 16 b ∷ digits_value 16 c ∷ digits_value 16 d ∷ digits_value 16 e ∷ digits_value 16 f ∷ []

pub pairs_of_shape : (text : List ℕ) → HasMacShape text
    → IsPairs text (octet_at text 0 ∷ octet_at text 3 ∷ octet_at text 6 ∷ octet_at text 9 ∷ octet_at text 12 ∷ octet_at text 15 ∷ [])
pairs_of_shape text shape =
    let at : (place : ℕ) → place < 17 → FitsPlace text place = shape.placed in
    let pair : (place : ℕ) → place + 1 < 17 → place % 3 ≡ 0 → IsPair (get_or text place 0 ∷ get_or text (place + 1) 0 ∷ []) = (λ place within third. record {
      two = refl;
      digits = ((at place (omega arith)).digit (omega arith), ((at (place + 1) within).digit (omega arith), tt));
    }) in
    record {
      divider = get_or text 2 0;
      a = get_or text 0 0 ∷ get_or text 1 0 ∷ [];
      b = get_or text 3 0 ∷ get_or text 4 0 ∷ [];
      c = get_or text 6 0 ∷ get_or text 7 0 ∷ [];
      d = get_or text 9 0 ∷ get_or text 10 0 ∷ [];
      e = get_or text 12 0 ∷ get_or text 13 0 ∷ [];
      f = get_or text 15 0 ∷ get_or text 16 0 ∷ [];
      divides = shape.divides;
      pairs = (pair 0 (omega arith) refl, pair 3 (omega arith) refl, pair 6 (omega arith) refl, pair 9 (omega arith) refl, pair 12 (omega arith) refl, pair 15 (omega arith) refl);
      spelled = text_from_reads text _ shape.size (
        refl,
        (refl, (refl, (refl, (refl, ((at 5 (omega arith)).divided refl, (refl, (refl, ((at 8 (omega arith)).divided refl, (refl, (refl, ((at 11 (omega arith)).divided refl, (refl, (refl, ((at 14 (omega arith)).divided refl, (refl, (refl, tt)))))))))))))))),
      );
      value = (
          let value = λ (place : ℕ). octet_value (get_or text place 0) (get_or text (place + 1) 0) in
          cc (value 0, value 3, value 6, value 9, value 12, value 15));
    }

-- a fact of each text of two digits
of_pair : (P : List ℕ → Type 0) (text : List ℕ) → IsPair text
    → ((x y : ℕ) → digit_value x < 16 → digit_value y < 16 → P (x ∷ y ∷ [])) → P text
of_pair P [] pair each = absurd (let two = pair.two in omega arith)
of_pair P (x ∷ []) pair each = absurd (let two = pair.two in omega arith)
of_pair P (x ∷ y ∷ []) pair each = each x y pair.digits.0 pair.digits.1.0
of_pair P (x ∷ y ∷ z ∷ more) pair each = absurd (let two = pair.two in omega arith)

-- a digit stands where no divider is wanted, and a divider where it is
digit_here : (text : List ℕ) (place : ℕ) → (place % 3 ≡ 2 → ⊥) → digit_value (get_or text place 0) < 16 → FitsPlace text place
digit_here text place other fits = record { divided = λ third. absurd (other third); digit = λ _. fits }

divider_here : (text : List ℕ) (place : ℕ) → place % 3 ≡ 2 → get_or text place 0 ≡ get_or text 2 0 → FitsPlace text place
divider_here text place third same = record { divided = λ _. same; digit = λ other. absurd (other third) }

-- what the text of six pairs shows: its shape, and the octets
record Shows (text octets : List ℕ) : Type 0 where
  shape : HasMacShape text
  octets_are : octets ≡ octets_at text

shown : (divider : ℕ) (a b c d e f : List ℕ) → (divider ≡ hyphen) ⊎ (divider ≡ colon) → IsPair a → IsPair b → IsPair c
    → IsPair d → IsPair e → IsPair f → Shows (spelled divider a b c d e f) (values a b c d e f)
shown divider a b c d e f divides pa pb pc pd pe pf =
    of_pair (λ a. Shows (spelled divider a b c d e f) (values a b c d e f)) a pa λ a0 a1 ha0 ha1. let a = a0 ∷ a1 ∷ [] in
    of_pair (λ b. Shows (spelled divider a b c d e f) (values a b c d e f)) b pb λ b0 b1 hb0 hb1. let b = b0 ∷ b1 ∷ [] in
    of_pair (λ c. Shows (spelled divider a b c d e f) (values a b c d e f)) c pc λ c0 c1 hc0 hc1. let c = c0 ∷ c1 ∷ [] in
    of_pair (λ d. Shows (spelled divider a b c d e f) (values a b c d e f)) d pd λ d0 d1 hd0 hd1. let d = d0 ∷ d1 ∷ [] in
    of_pair (λ e. Shows (spelled divider a b c d e f) (values a b c d e f)) e pe λ e0 e1 he0 he1. let e = e0 ∷ e1 ∷ [] in
    of_pair (λ f. Shows (spelled divider a b c d e f) (values a b c d e f)) f pf λ f0 f1 hf0 hf1. let f = f0 ∷ f1 ∷ [] in
    let text : List ℕ = spelled divider a b c d e f in
    let P : ℕ → Type 0 = λ place. FitsPlace text place in
    let digit = digit_here text in
    let not_0 : 0 ≡ 2 → ⊥ = (λ (same : 0 ≡ 2). omega arith) in
    let not_1 : 1 ≡ 2 → ⊥ = (λ (same : 1 ≡ 2). omega arith) in
    let third : (place : ℕ) → place % 3 ≡ 2 → get_or text place 0 ≡ divider → FitsPlace text place = λ place is same. divider_here text place is same in
    record {
      shape = record {
        size = refl;
        divides = divides;
        placed =
            below_more P 16 (below_more P 15 (below_more P 14 (below_more P 13 (below_more P 12 (below_more P 11 (below_more P 10
            (below_more P 9 (below_more P 8 (below_more P 7 (below_more P 6 (below_more P 5 (below_more P 4 (below_more P 3
            (below_more P 2 (below_more P 1 (below_more P 0 (below_none P)
            (digit 0 not_0 ha0)) (digit 1 not_1 ha1)) (third 2 refl refl)) (digit 3 not_0 hb0)) (digit 4 not_1 hb1)) (third 5 refl refl))
            (digit 6 not_0 hc0)) (digit 7 not_1 hc1)) (third 8 refl refl)) (digit 9 not_0 hd0)) (digit 10 not_1 hd1)) (third 11 refl refl))
            (digit 12 not_0 he0)) (digit 13 not_1 he1)) (third 14 refl refl)) (digit 15 not_0 hf0)) (digit 16 not_1 hf1);
      };
      octets_are = cc (octet_value a0 a1, octet_value b0 b1, octet_value c0 c1, octet_value d0 d1, octet_value e0 e1, octet_value f0 f1);
    }

pairs_show : (text octets : List ℕ) → IsPairs text octets → Shows text octets
pairs_show text octets is =
    let pairs = is.pairs in
    let seen = shown is.divider is.a is.b is.c is.d is.e is.f is.divides pairs.0 pairs.1 pairs.2 pairs.3 pairs.4 pairs.5 in
    subst (λ (it : List ℕ). Shows it octets) (sym is.spelled)
    (subst (λ (it : List ℕ). Shows (spelled is.divider is.a is.b is.c is.d is.e is.f) it) (sym is.value) seen)

pub shape_of_pairs : (text octets : List ℕ) → IsPairs text octets → HasMacShape text
shape_of_pairs text octets is = (pairs_show text octets is).shape

-- a text writes the octets of one MAC address at most
pub one_mac : (text octets other : List ℕ) → IsPairs text octets → IsPairs text other → octets ≡ other
one_mac text octets other is also = (pairs_show text octets is).octets_are ∙ sym (pairs_show text other also).octets_are

-- what is written is read
pair_read : (n : ℕ) → n < 2 ^ 8 → IsPair (pair_text n)
pair_read n few = record {
  two = refl;
  digits = (
      let high = digit_value-digit_char (n / 16) (omega arith) in
      let low = digit_value-digit_char (n % 16) (omega arith) in
      (omega (arith, high), (omega (arith, low), tt)));
}

pair_value : (n : ℕ) → n < 2 ^ 8 → digits_value 16 (pair_text n) ≡ n
pair_value n few =
    let high = digit_value-digit_char (n / 16) (omega arith) in
    let low = digit_value-digit_char (n % 16) (omega arith) in
    sym (octet_value (digit_char (n / 16)) (digit_char (n % 16))) ∙ omega (arith, high, low)

pub mac_read : (octets : List ℕ) → length octets ≡ 6 → ((place : ℕ) → get_or octets place 0 < 2 ^ 8)
    → IsPairs (pairs_text octets) octets
mac_read octets six fits =
    let pair : (place : ℕ) → IsPair (pair_text (get_or octets place 0)) = λ place. pair_read (get_or octets place 0) (fits place) in
    let same : (place : ℕ) → get_or octets place 0 ≡ digits_value 16 (pair_text (get_or octets place 0)) =
    λ place. sym (pair_value (get_or octets place 0) (fits place)) in
    record {
      divider = colon;
      a = pair_text (get_or octets 0 0);
      b = pair_text (get_or octets 1 0);
      c = pair_text (get_or octets 2 0);
      d = pair_text (get_or octets 3 0);
      e = pair_text (get_or octets 4 0);
      f = pair_text (get_or octets 5 0);
      divides = inr refl;
      pairs = (pair 0, pair 1, pair 2, pair 3, pair 4, pair 5);
      spelled = refl;
      value = text_from_reads octets _ six (same 0, (same 1, (same 2, (same 3, (same 4, (same 5, tt))))));
    }
