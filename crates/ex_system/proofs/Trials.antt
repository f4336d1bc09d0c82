-- Messages that are tried.
use Rattle.std.proofs.Common.{◌≡◌, ◌⊎◌, ℕ, List, [], ◌++◌, sym, ap, ◌∙◌, subst, inl, inr, append_assoc}
use Rattle.std.proofs.lemmas.List.{append-nil}
use Rattle.cm_io.specs.Contents.{Contents, add}
use Rattle.cm_io.specs.Fault.{Rose}
use Rattle.cm_io.proofs.Additions.{add_append}
use Rattle.ex_system.specs.Trying.{Tried}

-- bytes that are put and a message after them are one message
pub tried_joined : (before now : Contents) (f g : ℕ) (first message : List ℕ) → Tried before now f g first message → Tried before now f g [] (first ++ message)
tried_joined before now f g first message tried = record {
  part = first ++ tried.part;
  is_part = record { rest = tried.is_part.rest; joined = append_assoc first tried.part tried.is_part.rest ∙ ap (λ bytes. first ++ bytes) tried.is_part.joined };
  contents = tried.contents;
  whole = joined tried.whole;
} where
  joined : ((tried.part ≡ message) × (g ≡ f)) ⊎ Rose f g → ((first ++ tried.part ≡ first ++ message) × (g ≡ f)) ⊎ Rose f g
  joined (inl all) = inl (ap (λ bytes. first ++ bytes) all.0, all.1)
  joined (inr rose) = inr rose

-- a message after what was shown, with no fault till then
pub tried_since : (before middle now : Contents) (f g h : ℕ) (given first message : List ℕ) → middle ≡ add before given → g ≡ f
    → Tried middle now g h first message → Tried before now f h (given ++ first) message
tried_since before middle now f g h given first message put same tried = record {
  part = tried.part;
  is_part = tried.is_part;
  contents = tried.contents ∙ ap (λ contents. add contents (first ++ tried.part)) put ∙ sym (add_append before given (first ++ tried.part))
      ∙ ap (λ bytes. add before bytes) (sym (append_assoc given first tried.part));
  whole = later tried.whole;
} where
  later : ((tried.part ≡ message) × (h ≡ g)) ⊎ Rose g h → ((tried.part ≡ message) × (h ≡ f)) ⊎ Rose f h
  later (inl all) = inl (all.0, all.1 ∙ same)
  later (inr rose) = inr (subst (λ count. Rose count h) same rose)

-- the same of a message right after what was shown
pub tried_after : (before middle now : Contents) (f g h : ℕ) (given message : List ℕ) → middle ≡ add before given → g ≡ f
    → Tried middle now g h [] message → Tried before now f h given message
tried_after before middle now f g h given message put same tried =
    subst (λ bytes. Tried before now f h bytes message) (append-nil given) (tried_since before middle now f g h given [] message put same tried)
