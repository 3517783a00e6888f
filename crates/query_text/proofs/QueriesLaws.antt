-- Several queries, one after the other: what is read is spelled so, what is spelled so is read, and a refusal has its place.
use Rattle.std.proofs.Common.{◌≡◌, ℕ, zero, suc, ◌<◌, ◌≤◌, false, inl, inr, List, [], ◌∷◌, ◌++◌, length, Ok, refl, sym, ap, ◌∙◌, subst, arith}
use Rattle.std.specs.Prelude.{codes}
use Rattle.definitions_queries.specs.Tokens.{Placed}
use Rattle.definitions_queries.specs.Queries.{Query}
use Rattle.definitions_queries.specs.Grammar.{Part, either, nothing, the, body_part, SpellsAll, IsSpelled}
use Rattle.query_text.specs.Reading.{Reader, next, ◌>>=◌, give, if_next, is_reserved, the_reserved, selected_at, body_at, end_at, nothing_more, one_query_more, others_at, others, queries_at}
use Rattle.query_text.proofs.ReaderLaws.{Goes, begins, Apart, Lawful, LawfulAt, Example, Lawful-give, Lawful-next, LawfulAt-next, LawfulAt-if, Example-next}
use Rattle.query_text.proofs.ListLaws.{the_reserved-none, Firm, Apart-firm, Apart-give, Firm-next, Firm-if, reserved_refused, Lawful-shortens, next_same, chosen_same, LawfulAt-same}
use Rattle.query_text.proofs.LawfulParts.{any, but_end, Lawful-selected, Lawful-body, Lawful-end, Firm-end}
use Rattle.query_text.proofs.SoundParts.{Sound, Sound-next, Sound-give, Sound-reserved, selected-sound, body-sound, end-sound}
use Rattle.query_text.proofs.CompleteParts.{Yields, Yields-next, Yields-give, Yields-on, not-reserved, selected-complete, body-complete}

-- ---- one step of the reader

abbrev pub after_semicolon : Reader (List Query) → Unit {0} → Reader (List Query)
after_semicolon later u = if_next (the_reserved (codes "select")) (λ _. selected_at >>= λ query. later >>= λ more. give (query ∷ more)) nothing_more

-- the step reads alike with readers that are alike on shorter lists
step_same : (f g : Reader (List Query)) (tokens : List Placed) → ((x : List Placed) → length x < length tokens → f x ≡ g x) → one_query_more f tokens ≡ one_query_more g tokens
step_same f g [] same = refl
step_same f g (token ∷ []) same = chosen_same (the_reserved (codes ";") token) (after_semicolon f) (after_semicolon g) nothing_more token [] (λ u. refl)
step_same f g (token ∷ second ∷ tokens) same =
    chosen_same (the_reserved (codes ";") token) (after_semicolon f) (after_semicolon g) nothing_more token (second ∷ tokens) (λ u.
    chosen_same (the_reserved (codes "select") second) (λ _. selected_at >>= λ query. f >>= λ more. give (query ∷ more)) (λ _. selected_at >>= λ query. g >>= λ more. give (query ∷ more)) nothing_more second tokens (λ u.
    next_same (selected_at tokens) (λ query. f >>= λ more. give (query ∷ more)) (λ query. g >>= λ more. give (query ∷ more))
    (λ query middle e. ap (λ read. next read (λ more. give (query ∷ more))) (same middle (omega (arith, Lawful-shortens selected_at but_end Lawful-selected tokens query middle e))))))

others_at-enough : (n m : ℕ) (tokens : List Placed) → length tokens ≤ n → length tokens ≤ m → others_at n tokens ≡ others_at m tokens
unfolding others_at
others_at-enough zero zero tokens p q = refl
others_at-enough zero (suc m) [] p q = refl
others_at-enough zero (suc m) (token ∷ tokens) p q = absurd (omega arith)
others_at-enough (suc n) zero [] p q = refl
others_at-enough (suc n) zero (token ∷ tokens) p q = absurd (omega arith)
others_at-enough (suc n) (suc m) tokens p q = step_same (others_at n) (others_at m) tokens (λ x less. others_at-enough n m x (omega arith) (omega arith))

pub others-is : (tokens : List Placed) → others tokens ≡ one_query_more others tokens
unfolding others others_at
others-is [] = refl
others-is (token ∷ rest) =
    others_at-enough (length (token ∷ rest)) (suc (length rest)) (token ∷ rest) (omega arith) (omega arith)
    ∙ step_same (others_at (length rest)) others (token ∷ rest) (λ x less. others_at-enough (length rest) (length x) x (omega arith) (omega arith))

-- ---- lawful

Lawful-nothing_more : Lawful nothing_more any
Lawful-nothing_more = Lawful-next end_at (λ _. give []) any any Lawful-end (λ u. Lawful-give [] any) (λ u. Apart-give any any [] (λ token e. e))

Firm-nothing_more : (test : Goes) → Firm test nothing_more
Firm-nothing_more test = Firm-next test end_at (λ _. give []) (Firm-end test)

Firm-others : Firm but_end others
Firm-others tokens a rest e =
    Firm-if but_end (the_reserved (codes ";")) (after_semicolon others) nothing_more (reserved_refused but_end (codes ";") refl) (Firm-nothing_more but_end) tokens a rest
    (sym (others-is tokens) ∙ e)

Example-others : Example others any
unfolding others others_at end_at
Example-others = record { ending = []; value = []; ends = ends }
  where
    ends : (more : List Placed) → begins any more ≡ false → others more ≡ Ok ([], more)
    ends [] e = refl
    ends (token ∷ more) e = absurd cc

Apart-after : (query : Query) → Apart but_end any (others >>= λ more. give (query ∷ more))
Apart-after query = Apart-firm but_end any _ (Firm-next but_end others _ Firm-others)

LawfulAt-others : (n : ℕ) (tokens : List Placed) → length tokens < n → LawfulAt others any tokens
LawfulAt-others zero tokens lt = absurd (omega arith)
LawfulAt-others (suc n) tokens lt =
    LawfulAt-same (one_query_more others) others any tokens (λ x. sym (others-is x))
    (LawfulAt-if (the_reserved (codes ";")) (after_semicolon others) nothing_more (is_reserved (codes ";")) any tokens (the_reserved-none (codes ";"))
    (Apart-firm (is_reserved (codes ";")) any nothing_more (Firm-nothing_more (is_reserved (codes ";"))))
    (λ token rest u is.
    LawfulAt-if (the_reserved (codes "select")) (λ _. selected_at >>= λ query. others >>= λ more. give (query ∷ more)) nothing_more (is_reserved (codes "select")) any rest (the_reserved-none (codes "select"))
    (Apart-firm (is_reserved (codes "select")) any nothing_more (Firm-nothing_more (is_reserved (codes "select"))))
    (λ second last u is_too.
    LawfulAt-next selected_at (λ query. others >>= λ more. give (query ∷ more)) but_end any last (Lawful-selected.at last)
    (λ query middle e. LawfulAt-next others (λ more. give (query ∷ more)) any any middle
    (LawfulAt-others n middle (omega (arith, ap length is, ap length is_too, Lawful-shortens selected_at but_end Lawful-selected last query middle e)))
    (λ more end e. (Lawful-give (query ∷ more) any).at end) (λ more. Apart-give any any (query ∷ more) (λ token e. e)) (λ more. (Lawful-give (query ∷ more) any).example))
    Apart-after
    (λ query. Example-next others (λ more. give (query ∷ more)) any any Example-others (λ more. Apart-give any any (query ∷ more) (λ token e. e)) (λ more. (Lawful-give (query ∷ more) any).example)))
    (Lawful-nothing_more.at rest))
    (Lawful-nothing_more.at tokens))

Lawful-others : Lawful others any
Lawful-others = record { at = λ tokens. LawfulAt-others (suc (length tokens)) tokens (omega arith); example = Example-others }

pub Lawful-queries : Lawful queries_at any
unfolding queries_at
Lawful-queries =
    Lawful-next _ _ but_end any Lawful-body
    (λ query. Lawful-next others (λ more. give (query ∷ more)) any any Lawful-others (λ more. Lawful-give (query ∷ more) any) (λ more. Apart-give any any (query ∷ more) (λ token e. e)))
    Apart-after

-- ---- the queries after the first one

-- `;` and further queries, or the end
abbrev pub Ends : List Query → List Placed → Type 0
Ends [] tokens = either nothing (the (codes ";")) tokens []
Ends (query ∷ more) tokens = (middle : List Placed) × the (codes ";") tokens middle × SpellsAll middle (query ∷ more)

join : (query : Query) (more : List Query) (tokens middle : List Placed) → body_part query tokens middle → Ends more middle → SpellsAll tokens (query ∷ more)
join query [] tokens middle h e = (middle, h, e)
join query (second ∷ more) tokens middle h e = (middle, h, (e.0, e.1, e.2))

-- the first query, and what follows it
pub record Split (query : Query) (more : List Query) (tokens : List Placed) : Type 0 where
  pub middle : List Placed
  pub first : body_part query tokens middle
  pub ends : Ends more middle

pub split_all : (query : Query) (more : List Query) (tokens : List Placed) → SpellsAll tokens (query ∷ more) → Split query more tokens
split_all query [] tokens h = record { middle = h.0; first = h.1; ends = h.2 }
split_all query (second ∷ more) tokens h = record { middle = h.0; first = h.1; ends = (h.2.0, h.2.1, h.2.2) }

pub ends-stop : (more : List Query) (tokens : List Placed) → Ends more tokens → begins but_end tokens ≡ false
ends-stop [] tokens (inl e) = ap (begins but_end) e
ends-stop [] tokens (inr h) = not-reserved but_end (codes ";") tokens [] refl h
ends-stop (query ∷ more) tokens h = not-reserved but_end (codes ";") tokens h.0 refl h.1

-- ---- sound

abbrev WholeEnds : List Query → Part
WholeEnds more tokens rest = Ends more tokens × (rest ≡ [])

others_at-sound : (n : ℕ) → Sound (others_at n) WholeEnds
unfolding others_at
others_at-sound zero = Sound-next _ _ _ WholeEnds end-sound (λ u. Sound-give _ _ (λ m1 tokens h. (inl h.0, h.1)))
others_at-sound (suc n) =
    Sound-reserved (codes ";") _ _ WholeEnds
    (λ u. Sound-reserved (codes "select") _ _ _
    (λ u. Sound-next _ _ _ _ selected-sound (λ query. Sound-next _ _ WholeEnds _ (others_at-sound n) (λ more.
    Sound-give _ _ (λ m4 m3 h3 m2 h2 m1 selected tokens semicolon. ((m1, semicolon, join query more m1 m3 (h2 m1 selected) h3.0), h3.1)))))
    (Sound-next _ _ _ _ end-sound (λ u. Sound-give _ _ (λ m2 m1 h tokens semicolon. (inr (subst (λ m. the (codes ";") tokens m) h.0 semicolon), h.1)))))
    (Sound-next _ _ _ WholeEnds end-sound (λ u. Sound-give _ _ (λ m1 tokens h. (inl h.0, h.1))))

others-sound : Sound others WholeEnds
unfolding others
others-sound tokens = others_at-sound (length tokens) tokens

pub queries-sound : Sound queries_at (λ queries tokens rest. SpellsAll tokens queries × (rest ≡ []))
unfolding queries_at
queries-sound =
    Sound-next _ _ _ _ body-sound (λ query. Sound-next _ _ WholeEnds _ others-sound (λ more.
    Sound-give _ _ (λ m2 m1 h2 tokens h1. (join query more tokens m1 h1 h2.0, h2.1))))

-- ---- complete

step_yields : (tokens rest : List Placed) (more : List Query) → Yields (one_query_more others) tokens more rest → Yields others tokens more rest
step_yields tokens rest more y = record { is = others-is tokens ∙ y.is }

end-yields : Yields (after_semicolon others tt) [] [] []
unfolding end_at
end-yields = record { is = refl }

none-yields : Yields others [] [] []
unfolding others others_at end_at
none-yields = record { is = refl }

others-complete : (more : List Query) (tokens : List Placed) → Ends more tokens → Yields others tokens more []
others-complete [] tokens (inl e) = subst (λ t. Yields others t [] []) (sym e) none-yields
others-complete [] tokens (inr h) = step_yields tokens [] [] (Yields-on (codes ";") (after_semicolon others) nothing_more tokens [] [] [] h (λ u. end-yields))
others-complete (query ∷ more) tokens (m1, semicolon, spells) =
    let s = split_all query more m1 spells in
    step_yields tokens [] (query ∷ more)
    (Yields-on (codes ";") (after_semicolon others) nothing_more tokens m1 [] (query ∷ more) semicolon (λ u.
    Yields-on (codes "select") (λ _. selected_at >>= λ query. others >>= λ more. give (query ∷ more)) nothing_more m1 (s.first).0 [] (query ∷ more) (s.first).1 (λ u.
    Yields-next selected_at (λ query. others >>= λ more. give (query ∷ more)) (s.first).0 s.middle [] query (query ∷ more)
    (selected-complete query (s.first).0 s.middle (s.first).2 (ends-stop more s.middle s.ends))
    (Yields-next others (λ more. give (query ∷ more)) s.middle [] [] more (query ∷ more) (others-complete more s.middle s.ends) (Yields-give (query ∷ more) [] [] refl)))))

pub queries-complete : (queries : List Query) (tokens : List Placed) → SpellsAll tokens queries → Yields queries_at tokens queries []
unfolding queries_at
queries-complete [] tokens h = absurd h
queries-complete (query ∷ more) tokens h =
    let s = split_all query more tokens h in
    Yields-next body_at (λ query. others >>= λ more. give (query ∷ more)) tokens s.middle [] query (query ∷ more) (body-complete query tokens s.middle s.first (ends-stop more s.middle s.ends))
    (Yields-next others (λ more. give (query ∷ more)) s.middle [] [] more (query ∷ more) (others-complete more s.middle s.ends) (Yields-give (query ∷ more) [] [] refl))

-- ---- each query is spelled

-- a query that is read may also end there
pub body-spelled : (query : Query) (tokens middle : List Placed) → body_part query tokens middle → begins but_end middle ≡ false → IsSpelled query
body-spelled query tokens middle h stops =
    let took = (Lawful-body.at tokens).ok query middle (body-complete query tokens middle h stops).is in
    (took.front ++ [], ([], body-sound (took.front ++ []) query [] (took.again [] (inr refl)), inl refl))
