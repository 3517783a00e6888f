-- A text says just one value or has just one refusal, if its tokens are read lawfully.
use Rattle.std.proofs.Common.{append_assoc, ◌≡◌, ℕ, zero, suc, ◌<◌, ◌-◌, ◌⊎◌, inl, inr, List, [], ◌∷◌, ◌++◌, length, Option, Some, None, Ok, Err, refl, sym, ap, ◌∙◌, subst, arith}
use Rattle.std.proofs.lemmas.List.{append-nil}
use Rattle.definitions_queries.specs.Tokens.{Token, Placed}
use Rattle.definitions_queries.specs.Grammar.{Language, Spelled, Spells, SpellsAll, IsViable}
use Rattle.definitions_queries.specs.Lexing as cuts
use Rattle.definitions_queries.specs.Lexing.{Cut, LexicalFault, LexicalError, cut, rest_after, is_white_space, GoesOn, AreTokens}
use Rattle.definitions_queries.specs.Texts.{Says, Refusal, lexical, syntax, FirstWrong, RefusedAs, IsRefused, HasOneOutcome}
use Rattle.query_text.specs.declared.stop.Stop.{Stop}
use Rattle.query_text.specs.declared.stop.Stop.TheVariants as stops
use Rattle.query_text.specs.Reading.{place_of, Read, Reader, query_at, queries_at}
use Rattle.query_text.specs.Readers.{StopsAs}
use Rattle.query_text.specs.Errors.{end_refusal, refusal_at, stop_refusal, Refuses}
use Rattle.query_text.proofs.ReaderLaws.{pair_is, head_of, Lawful, Refused}
use Rattle.query_text.proofs.LawfulParts.{any, Lawful-query}
use Rattle.query_text.proofs.SoundParts.{query-sound}
use Rattle.query_text.proofs.CompleteParts.{Yields, query-complete}
use Rattle.query_text.proofs.QueriesLaws.{Lawful-queries, queries-sound, queries-complete}
use Rattle.query_text.proofs.CuttingLemmas.{cut-less, length-rest_after}

-- a reader reads just what the tokens spell, to their end
pub record ReadsWhole {A : Type 0} (spells : List Placed → A → Type 0) (p : Reader A) : Type 0 where
  pub lawful : Lawful p any
  pub sound : (tokens : List Placed) (value : A) (rest : List Placed) → p tokens ≡ Ok (value, rest) → spells tokens value × (rest ≡ [])
  pub complete : (value : A) (tokens : List Placed) → spells tokens value → Yields p tokens value []

pub reads-query : ReadsWhole Spells query_at
reads-query = record { lawful = Lawful-query; sound = query-sound; complete = query-complete }

pub reads-queries : ReadsWhole SpellsAll queries_at
reads-queries = record { lawful = Lawful-queries; sound = queries-sound; complete = queries-complete }

-- tokens spell at most one value
one_value_of : {A : Type 0} (spells : List Placed → A → Type 0) (p : Reader A) → ReadsWhole spells p → (tokens : List Placed) (a b : A) → spells tokens a → spells tokens b → a ≡ b
one_value_of spells p r tokens a b h k = (pair_is a b [] [] (sym (r.complete a tokens h).is ∙ (r.complete b tokens k).is)).0

-- ---- where tokens are refused

pub record StopsAt (language : Language) (tokens : List Placed) (place : Option ℕ) : Type 0 where
  pub front : List Placed
  pub rest : List Placed
  pub is : tokens ≡ front ++ rest
  pub place_is : place ≡ place_of rest
  pub viable : IsViable language front
  pub dead : (token : Placed) (after : List Placed) → rest ≡ token ∷ after → IsViable language (front ++ token ∷ []) → ⊥
  pub outside : language tokens → ⊥

dead_at : {A : Type 0} (spells : List Placed → A → Type 0) (p : Reader A) → ReadsWhole spells p → (tokens : List Placed) (place : Option ℕ) (r : Refused p any tokens place) (token : Placed) (after : List Placed) → r.rest ≡ token ∷ after
    → (more : List Placed) (value : A) → spells ((r.front ++ token ∷ []) ++ more) value → ⊥
dead_at spells p reads tokens place r token after is more value h =
    let whole : (r.front ++ token ∷ []) ++ more ≡ r.front ++ (token ∷ more) = append_assoc r.front (token ∷ []) more in
    let bad : p (r.front ++ (token ∷ more)) ≡ Err place = r.again (token ∷ more) (ap head_of (sym is)) in
    let good : p (r.front ++ (token ∷ more)) ≡ Ok (value, []) = (reads.complete value (r.front ++ (token ∷ more)) (subst (λ t. spells t value) whole h)).is in
    let wrong = sym bad ∙ good in
    absurd cc

refused_tokens : {A : Type 0} (spells : List Placed → A → Type 0) (p : Reader A) → ReadsWhole spells p → (tokens : List Placed) (place : Option ℕ) → p tokens ≡ Err place → StopsAt (Spelled spells) tokens place
refused_tokens spells p reads tokens place e =
    let r = (reads.lawful.at tokens).err place e in
    record {
      front = r.front;
      rest = r.rest;
      is = r.is;
      place_is = r.place_is;
      viable = (r.ending ++ [], (r.value, (reads.sound (r.front ++ (r.ending ++ [])) r.value [] (r.ends [] refl)).0));
      dead = λ token after is viable. dead_at spells p reads tokens place r token after is viable.0 (viable.1).0 (viable.1).1;
      outside = λ found. (let wrong = sym e ∙ (reads.complete found.0 tokens found.1).is in absurd cc);
    }

wrong_at : (language : Language) (text : List ℕ) (tokens : List Placed) (error : Option LexicalError) (at : ℕ) → AreTokens text tokens error → StopsAt language tokens (Some at) → IsRefused language text (syntax at)
wrong_at language text tokens error at cuts s = go s.rest refl
  where
    go : (rest : List Placed) → s.rest ≡ rest → IsRefused language text (syntax at)
    go [] is = let wrong = s.place_is ∙ ap place_of is in absurd cc
    go (first ∷ after) is =
        let place : Some at ≡ Some first.at = s.place_is ∙ ap place_of is in (
          tokens,
          error,
          cuts,
          inl (record {
            before = s.front;
            wrong = first;
            after = after;
            all = s.is ∙ ap (λ (r : List Placed). s.front ++ r) is;
            place = (let same : at ≡ first.at = cc in sym same);
            viable = s.viable;
            not_viable = s.dead first after is;
          }),
        )

ended_at : (language : Language) (text : List ℕ) (tokens : List Placed) (error : Option LexicalError) → AreTokens text tokens error → StopsAt language tokens None → IsRefused language text (end_refusal error (length text))
ended_at language text tokens error cuts s = go s.rest refl error cuts
  where
    go : (rest : List Placed) → s.rest ≡ rest → (error : Option LexicalError) → AreTokens text tokens error → IsRefused language text (end_refusal error (length text))
    go (first ∷ after) is error cuts = let wrong = s.place_is ∙ ap place_of is in absurd cc
    go [] is None cuts =
        let whole : tokens ≡ s.front = s.is ∙ ap (λ (r : List Placed). s.front ++ r) is ∙ append-nil s.front in
        (tokens, None, cuts, inr (refl, refl, record { viable = subst (λ t. IsViable language t) (sym whole) s.viable; outside = s.outside }))
    go [] is (Some error) cuts =
        let whole : tokens ≡ s.front = s.is ∙ ap (λ (r : List Placed). s.front ++ r) is ∙ append-nil s.front in
        (tokens, Some error, cuts, (refl, subst (λ t. IsViable language t) (sym whole) s.viable))

placed_refusal : (language : Language) (text : List ℕ) (tokens : List Placed) (error : Option LexicalError) (at : Option ℕ) → AreTokens text tokens error → StopsAt language tokens at → IsRefused language text (refusal_at at error (length text))
placed_refusal language text tokens error (Some at) cuts s = wrong_at language text tokens error at cuts s
placed_refusal language text tokens error None cuts s = ended_at language text tokens error cuts s

pub stopped : {A : Type 0} (spells : List Placed → A → Type 0) (p : Reader A) → ReadsWhole spells p → (text : List ℕ) (tokens : List Placed) (error : Option LexicalError) (stop : Stop) → AreTokens text tokens error
    → StopsAs stop (p tokens) → Refuses (Spelled spells) text (stop_refusal stop error (length text))
stopped spells p reads text tokens error (stops.Syntax at) cuts f = placed_refusal (Spelled spells) text tokens error at cuts (refused_tokens spells p reads tokens at f)
stopped spells p reads text tokens error stops.Memory cuts f = tt

-- ---- what a reader of tokens gave

pub read_is : {A : Type 0} (spells : List Placed → A → Type 0) (p : Reader A) → ReadsWhole spells p → (text : List ℕ) (tokens : List Placed) (value : A) → AreTokens text tokens None → p tokens ≡ Ok (value, []) → Says spells text value
read_is spells p reads text tokens value cuts e = (tokens, cuts, (reads.sound tokens value [] e).0)

whole_viable : {A : Type 0} (spells : List Placed → A → Type 0) (tokens : List Placed) (value : A) → spells tokens value → IsViable (Spelled spells) tokens
whole_viable spells tokens value h = ([], (value, subst (λ ts. spells ts value) (sym (append-nil tokens)) h))

pub error_after : {A : Type 0} (spells : List Placed → A → Type 0) (p : Reader A) → ReadsWhole spells p → (text : List ℕ) (tokens : List Placed) (error : LexicalError) (value : A) → AreTokens text tokens (Some error)
    → p tokens ≡ Ok (value, []) → IsRefused (Spelled spells) text (lexical error)
error_after spells p reads text tokens error value cuts e = (tokens, Some error, cuts, (refl, whole_viable spells tokens value (reads.sound tokens value [] e).0))

-- ---- the tokens of a text are one list

abbrev pub SameEnd : List Placed → List Placed → Option LexicalError → Option LexicalError → Type 0
SameEnd ts us f g = (ts ≡ us) × (f ≡ g)

same_placed : (t u : Placed) → t.at ≡ u.at → t.token ≡ u.token → t ≡ u
same_placed t u e f = let placed : ℕ → Token → Placed = λ at kind. record { at = at; token = kind } in ap (λ at. placed at t.token) e ∙ ap (λ kind. placed u.at kind) f

same_error : (f g : LexicalError) → f.at ≡ g.at → f.fault ≡ g.fault → f ≡ g
same_error f g e h = let error : ℕ → LexicalFault → LexicalError = λ at kind. record { at = at; fault = kind } in ap (λ at. error at f.fault) e ∙ ap (λ kind. error g.at kind) h

token-is : (t u : Token) (x y : List ℕ) → cuts.token t x ≡ cuts.token u y → (t ≡ u) × (x ≡ y)
token-is t u x y e = (cc, cc)

fault-is : (f g : LexicalFault) → cuts.fault f ≡ cuts.fault g → f ≡ g
fault-is f g e = cc

pub one_end : (len : ℕ) (text : List ℕ) (ts us : List Placed) (f g : Option LexicalError) → GoesOn len text ts f → GoesOn len text us g → SameEnd ts us f g
one_end len text [] [] None None p q = (refl, refl)
one_end len text [] [] None (Some g) p q = let wrong = sym p ∙ q.0 in absurd cc
one_end len text [] [] (Some f) None p q = let wrong = sym p.0 ∙ q in absurd cc
one_end len text [] [] (Some f) (Some g) p q = (refl, ap (λ x. Some x) (same_error f g (p.1 ∙ sym q.1) (fault-is f.fault g.fault (sym p.0 ∙ q.0))))
one_end len text [] (u ∷ us) None g p q = let wrong = sym p ∙ q.1 in absurd cc
one_end len text [] (u ∷ us) (Some f) g p q = let wrong = sym p.0 ∙ q.1 in absurd cc
one_end len text (t ∷ ts) [] f None p q = let wrong = sym p.1 ∙ q in absurd cc
one_end len text (t ∷ ts) [] f (Some g) p q = let wrong = sym p.1 ∙ q.0 in absurd cc
one_end len text (t ∷ ts) (u ∷ us) f g p q =
    let same = token-is t.token u.token p.0 q.0 (sym p.1 ∙ q.1) in
    let rest = one_end len (rest_after is_white_space p.0) ts us f g p.3 (subst (λ next. GoesOn len (rest_after is_white_space next) us g) (sym same.1) q.3) in
    (ap (λ x. x ∷ ts) (same_placed t u (p.2 ∙ sym q.2) same.0) ∙ ap (λ xs. u ∷ xs) rest.0, rest.1)

-- a text that says a value has these tokens, no error, and is read
pub spelled : {A : Type 0} (spells : List Placed → A → Type 0) (p : Reader A) → ReadsWhole spells p → (text : List ℕ) (tokens : List Placed) (error : Option LexicalError) (value : A) → AreTokens text tokens error → Says spells text value
    → (error ≡ None) × (p tokens ≡ Ok (value, []))
spelled spells p reads text tokens error value cuts says =
    let same = one_end (length text) (rest_after is_white_space text) tokens says.0 error None cuts says.1 in
    (same.1, (reads.complete value tokens (subst (λ ts. spells ts value) (sym same.0) says.2)).is)

-- tokens that are read are not refused
pub not_stopped : {A : Type 0} (read : Read A) (value : A) (error : Option LexicalError) (len : ℕ) (stop : Stop) → StopsAs stop read → read ≡ Ok (value, []) → stop_refusal stop error len ≡ None
not_stopped read value error len (stops.Syntax at) f e = let wrong = sym f ∙ e in absurd cc
not_stopped read value error len stops.Memory f e = refl

-- ---- a text has tokens

record Tokens (len : ℕ) (text : List ℕ) : Type 0 where
  tokens : List Placed
  error : Option LexicalError
  goes : GoesOn len text tokens error

has_tokens : (len n : ℕ) (text : List ℕ) → length text < n → Tokens len text
has_tokens len zero text less = absurd (omega arith)
has_tokens len (suc n) text less = go (cut text) refl (λ next small. has_tokens len n next small)
  where
    go : (c : Cut) → cut text ≡ c → ((next : List ℕ) → length next < n → Tokens len next) → Tokens len text
    go cuts.end e later = record { tokens = []; error = None; goes = e }
    go (cuts.fault kind) e later = let found : LexicalError = record { at = len - length text; fault = kind } in record { tokens = []; error = Some found; goes = (e, refl) }
    go (cuts.token first next) e later =
        let rest = later (rest_after is_white_space next) (omega (arith, cut-less text next first e, length-rest_after is_white_space next)) in
        let placed : Placed = record { at = len - length text; token = first } in
        record { tokens = placed ∷ rest.tokens; error = rest.error; goes = (next, e, refl, rest.goes) }

-- ---- one outcome

viable-front : {A : Type 0} (spells : List Placed → A → Type 0) (x y : List Placed) → IsViable (Spelled spells) (x ++ y) → IsViable (Spelled spells) x
viable-front spells x y (more, (value, h)) = (y ++ more, (value, subst (λ ts. spells ts value) (append_assoc x y more) h))

-- the first token that doesn't go on is one
first_one : (V : List Placed → Type 0) → ((x y : List Placed) → V (x ++ y) → V x) → (b1 b2 a1 a2 : List Placed) (w1 w2 : Placed) → b1 ++ w1 ∷ a1 ≡ b2 ++ w2 ∷ a2
    → V b1 → V b2 → (V (b1 ++ w1 ∷ []) → ⊥) → (V (b2 ++ w2 ∷ []) → ⊥) → w1 ≡ w2
first_one V front [] [] a1 a2 w1 w2 e v1 v2 n1 n2 = cc
first_one V front [] (t ∷ b2) a1 a2 w1 w2 e v1 v2 n1 n2 = let same : t ≡ w1 = cc in absurd (n1 (subst (λ x. V (x ∷ [])) same (front (t ∷ []) b2 v2)))
first_one V front (t ∷ b1) [] a1 a2 w1 w2 e v1 v2 n1 n2 = let same : t ≡ w2 = cc in absurd (n2 (subst (λ x. V (x ∷ [])) same (front (t ∷ []) b1 v1)))
first_one V front (t ∷ b1) (u ∷ b2) a1 a2 w1 w2 e v1 v2 n1 n2 =
    let same : u ≡ t = cc in
    let tails : b1 ++ w1 ∷ a1 ≡ b2 ++ w2 ∷ a2 = cc in
    first_one (λ x. V (t ∷ x)) (λ x y. front (t ∷ x) y) b1 b2 a1 a2 w1 w2 tails v1 (subst (λ h. V (h ∷ b2)) same v2) n1 (λ v. n2 (subst (λ h. V (h ∷ (b2 ++ w2 ∷ []))) (sym same) v))

wrong_viable : {A : Type 0} (spells : List Placed → A → Type 0) (tokens : List Placed) (at : ℕ) → FirstWrong (Spelled spells) tokens at → IsViable (Spelled spells) tokens → ⊥
wrong_viable spells tokens at f v =
    let whole : tokens ≡ (f.before ++ f.wrong ∷ []) ++ f.after = f.all ∙ sym (append_assoc f.before (f.wrong ∷ []) f.after) in
    f.not_viable (viable-front spells (f.before ++ f.wrong ∷ []) f.after (subst (λ t. IsViable (Spelled spells) t) whole v))

-- no text says a value and is refused
never_both : {A : Type 0} (spells : List Placed → A → Type 0) (text : List ℕ) (value : A) (refusal : Refusal) → Says spells text value → IsRefused (Spelled spells) text refusal → ⊥
never_both {A} spells text value refusal p (tokens, error, cuts, how) =
    let same = one_end (length text) (rest_after is_white_space text) p.0 tokens None error p.1 cuts in
    no_refusal refusal error same.1 how (subst (λ ts. spells ts value) same.0 p.2)
  where
    no_refusal : (refusal : Refusal) (error : Option LexicalError) → None ≡ error → RefusedAs (Spelled spells) text tokens error refusal → spells tokens value → ⊥
    no_refusal (lexical found) error e (is, viable) h = let wrong = e ∙ is in absurd cc
    no_refusal (syntax at) error e (inl f) h = wrong_viable spells tokens at f (whole_viable spells tokens value h)
    no_refusal (syntax at) error e (inr (is, place, u)) h = u.outside (value, h)

same_refusal : {A : Type 0} (spells : List Placed → A → Type 0) (text : List ℕ) (tokens : List Placed) (error : Option LexicalError) (r s : Refusal) → RefusedAs (Spelled spells) text tokens error r → RefusedAs (Spelled spells) text tokens error s → r ≡ s
same_refusal spells text tokens error (lexical f) (lexical g) p q = let same : f ≡ g = (let both = sym p.0 ∙ q.0 in cc) in ap lexical same
same_refusal spells text tokens error (lexical f) (syntax b) p (inl q) = absurd (wrong_viable spells tokens b q p.1)
same_refusal spells text tokens error (lexical f) (syntax b) p (inr q) = let wrong = sym p.0 ∙ q.0 in absurd cc
same_refusal spells text tokens error (syntax a) (lexical g) (inl p) q = absurd (wrong_viable spells tokens a p q.1)
same_refusal spells text tokens error (syntax a) (lexical g) (inr p) q = let wrong = sym p.0 ∙ q.0 in absurd cc
same_refusal spells text tokens error (syntax a) (syntax b) (inl p) (inl q) =
    let same = first_one (λ t. IsViable (Spelled spells) t) (viable-front spells) p.before q.before p.after q.after p.wrong q.wrong (sym p.all ∙ q.all) p.viable q.viable p.not_viable q.not_viable in
    ap syntax (sym p.place ∙ ap (λ (w : Placed). w.at) same ∙ q.place)
same_refusal spells text tokens error (syntax a) (syntax b) (inl p) (inr q) = absurd (wrong_viable spells tokens a p (q.2).viable)
same_refusal spells text tokens error (syntax a) (syntax b) (inr p) (inl q) = absurd (wrong_viable spells tokens b q (p.2).viable)
same_refusal spells text tokens error (syntax a) (syntax b) (inr p) (inr q) = ap syntax (p.1 ∙ sym q.1)

one_refusal : {A : Type 0} (spells : List Placed → A → Type 0) (text : List ℕ) (r s : Refusal) → IsRefused (Spelled spells) text r → IsRefused (Spelled spells) text s → r ≡ s
one_refusal spells text r s (tokens, error, cuts, p) (others, other, cuts_too, q) =
    let same = one_end (length text) (rest_after is_white_space text) others tokens other error cuts_too cuts in
    same_refusal spells text tokens error r s p (subst (λ f. RefusedAs (Spelled spells) text tokens f s) same.1 (subst (λ ts. RefusedAs (Spelled spells) text ts other s) same.0 q))

one_value : {A : Type 0} (spells : List Placed → A → Type 0) (p : Reader A) → ReadsWhole spells p → (text : List ℕ) (a b : A) → Says spells text a → Says spells text b → a ≡ b
one_value spells p reads text a b says also =
    let same = one_end (length text) (rest_after is_white_space text) says.0 also.0 None None says.1 also.1 in
    one_value_of spells p reads also.0 a b (subst (λ ts. spells ts a) same.0 says.2) also.2

abbrev SomeOutcome : {A : Type 0} → (List Placed → A → Type 0) → List ℕ → Type 0
SomeOutcome {A} spells text = ((value : A) × Says spells text value) ⊎ ((refusal : Refusal) × IsRefused (Spelled spells) text refusal)

some_outcome : {A : Type 0} (spells : List Placed → A → Type 0) (p : Reader A) → ReadsWhole spells p → (text : List ℕ) → SomeOutcome spells text
some_outcome {A} spells p reads text = go t.error t.goes (p t.tokens) refl
  where
    t : Tokens (length text) (rest_after is_white_space text)
    t = has_tokens (length text) (suc (length (rest_after is_white_space text))) (rest_after is_white_space text) (omega arith)

    go : (error : Option LexicalError) → AreTokens text t.tokens error → (read : Read A) → p t.tokens ≡ read → SomeOutcome spells text
    go error cuts (Err place) e = inr (refusal_at place error (length text), placed_refusal (Spelled spells) text t.tokens error place cuts (refused_tokens spells p reads t.tokens place e))
    go None cuts (Ok found) e = inl (found.0, (t.tokens, cuts, (reads.sound t.tokens found.0 found.1 e).0))
    go (Some error) cuts (Ok found) e = inr (lexical error, (t.tokens, Some error, cuts, (refl, whole_viable spells t.tokens found.0 (reads.sound t.tokens found.0 found.1 e).0)))

-- a text either says just one value, or is refused in just one way
pub one_outcome : {A : Type 0} (spells : List Placed → A → Type 0) (p : Reader A) → ReadsWhole spells p → (text : List ℕ) → HasOneOutcome spells text
one_outcome spells p reads text = record {
  some = some_outcome spells p reads text;
  one_value = one_value spells p reads text;
  one_refusal = one_refusal spells text;
  never_both = never_both spells text;
}
