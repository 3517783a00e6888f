-- What every reader of tokens keeps: it stops at the first token with which the tokens are no prefix of what it reads.
use Rattle.std.proofs.Common.{◌≡◌, ℕ, Bool, false, ◌⊎◌, inl, inr, List, [], ◌∷◌, ◌++◌, Option, Some, None, Ok, Err, refl, sym, ap, ◌∙◌, subst, append_assoc}
use Rattle.definitions_queries.specs.Tokens.{Token, Placed}
use Rattle.query_text.specs.Reading.{place_of, Read, Reader, next, ◌>>=◌, give, taken, one, if_next, more}

abbrev pub head_of : List Placed → Option Placed
head_of [] = None
head_of (token ∷ tokens) = Some token

-- a test of tokens: those with which a part may go on
abbrev pub Goes : Type 0
Goes = Token → Bool

abbrev pub begins : Goes → List Placed → Bool
begins goes [] = false
begins goes (token ∷ tokens) = goes token.token

-- what may stand in place of the rest behind a part
abbrev pub May : Goes → List Placed → List Placed → Type 0
May goes rest more = (head_of more ≡ head_of rest) ⊎ (begins goes more ≡ false)

-- a reader took a front of the tokens, whatever follows them
pub record Took {A : Type 0} (p : Reader A) (goes : Goes) (tokens : List Placed) (a : A) (rest : List Placed) : Type 0 where
  pub front : List Placed
  pub is : tokens ≡ front ++ rest
  pub again : (more : List Placed) → May goes rest more → p (front ++ more) ≡ Ok (a, more)

-- a reader refused the first token of the rest, whatever follows it, and the front has an ending
pub record Refused {A : Type 0} (p : Reader A) (goes : Goes) (tokens : List Placed) (place : Option ℕ) : Type 0 where
  pub front : List Placed
  pub rest : List Placed
  pub is : tokens ≡ front ++ rest
  pub place_is : place ≡ place_of rest
  pub again : (more : List Placed) → head_of more ≡ head_of rest → p (front ++ more) ≡ Err place
  pub ending : List Placed
  pub value : A
  pub ends : (more : List Placed) → begins goes more ≡ false → p (front ++ (ending ++ more)) ≡ Ok (value, more)

-- some text of the part
pub record Example {A : Type 0} (p : Reader A) (goes : Goes) : Type 0 where
  pub ending : List Placed
  pub value : A
  pub ends : (more : List Placed) → begins goes more ≡ false → p (ending ++ more) ≡ Ok (value, more)

pub record LawfulAt {A : Type 0} (p : Reader A) (goes : Goes) (tokens : List Placed) : Type 0 where
  pub ok : (a : A) (rest : List Placed) → p tokens ≡ Ok (a, rest) → Took p goes tokens a rest
  pub err : (place : Option ℕ) → p tokens ≡ Err place → Refused p goes tokens place

pub record Lawful {A : Type 0} (p : Reader A) (goes : Goes) : Type 0 where
  pub at : (tokens : List Placed) → LawfulAt p goes tokens
  pub example : Example p goes

-- no text of the part, with what may follow it, begins with a token of the test
abbrev pub Apart : {A : Type 0} → Goes → Goes → Reader A → Type 0
Apart {A} test goes p = (tokens : List Placed) (a : A) (rest : List Placed) → p tokens ≡ Ok (a, rest) → begins goes rest ≡ false → begins test tokens ≡ false

-- ---- small facts

abbrev value_in : {A : Type 0} → A → Read A → A
value_in a (Ok found) = found.0
value_in a (Err place) = a

abbrev rest_in : {A : Type 0} → List Placed → Read A → List Placed
rest_in rest (Ok found) = found.1
rest_in rest (Err place) = rest

abbrev pub found_in : {A : Type 0} → A → List Placed → Read A
found_in a rest = Ok (a, rest)

pub pair_is : {A : Type 0} (a b : A) (x y : List Placed) → found_in a x ≡ found_in b y → (a ≡ b) × (x ≡ y)
pair_is a b x y e = (ap (value_in a) e, ap (rest_in x) e)

pub next_ok : {A B : Type 0} (r : Read A) (f : A → Reader B) (b : B) (rest : List Placed) → next r f ≡ Ok (b, rest)
    → (a : A) × (middle : List Placed) × (r ≡ Ok (a, middle)) × (f a middle ≡ Ok (b, rest))
next_ok (Ok x) f b rest e = (x.0, x.1, refl, e)
next_ok (Err place) f b rest e = absurd cc

pub next_err : {A B : Type 0} (r : Read A) (f : A → Reader B) (place : Option ℕ) → next r f ≡ Err place
    → (r ≡ Err place) ⊎ ((a : A) × (middle : List Placed) × (r ≡ Ok (a, middle)) × (f a middle ≡ Err place))
next_err (Ok x) f place e = inr (x.0, x.1, refl, e)
next_err (Err other) f place e = inl cc

head-append : (front more rest : List Placed) → head_of more ≡ head_of rest → head_of (front ++ more) ≡ head_of (front ++ rest)
head-append [] more rest e = e
head-append (token ∷ front) more rest e = refl

-- ---- one part and then another

took_next : {A B : Type 0} (p : Reader A) (f : A → Reader B) (g1 g2 : Goes) (tokens middle rest : List Placed) (a : A) (b : B)
    → Apart g1 g2 (f a) → Took p g1 tokens a middle → Took (f a) g2 middle b rest → Took (p >>= f) g2 tokens b rest
took_next p f g1 g2 tokens middle rest a b apart t u =
    let step = λ (more : List Placed) (may : May g2 rest more).
    let second : f a (u.front ++ more) ≡ Ok (b, more) = u.again more may in
    let first : p (t.front ++ (u.front ++ more)) ≡ Ok (a, u.front ++ more) = t.again (u.front ++ more) (elim may as (λ _. May g1 middle (u.front ++ more)) [
      | inl same ↦ inl (head-append u.front more rest same ∙ ap head_of (sym u.is))
      | inr stops ↦ inr (apart (u.front ++ more) b more second stops)
    ]) in
    let goal : (p >>= f) ((t.front ++ u.front) ++ more) ≡ Ok (b, more) = rw (append_assoc t.front u.front more, first) second in
    goal
    in
    record { front = t.front ++ u.front; is = t.is ∙ ap (λ (x : List Placed). t.front ++ x) u.is ∙ sym (append_assoc t.front u.front rest); again = step }

refused_first : {A B : Type 0} (p : Reader A) (f : A → Reader B) (g1 g2 : Goes) (tokens : List Placed) (place : Option ℕ)
    → ((a : A) → Apart g1 g2 (f a)) → ((a : A) → Example (f a) g2) → Refused p g1 tokens place → Refused (p >>= f) g2 tokens place
refused_first {A} {B} p f g1 g2 tokens place apart example r =
    let last : Example (f r.value) g2 = example r.value in
    let step = λ (more : List Placed) (stops : begins g2 more ≡ false).
    let second : f r.value (last.ending ++ more) ≡ Ok (last.value, more) = last.ends more stops in
    let first : p (r.front ++ (r.ending ++ (last.ending ++ more))) ≡ Ok (r.value, last.ending ++ more) =
    r.ends (last.ending ++ more) (apart r.value (last.ending ++ more) last.value more second stops) in
    let goal : (p >>= f) (r.front ++ ((r.ending ++ last.ending) ++ more)) ≡ Ok (last.value, more) = rw (append_assoc r.ending last.ending more, first) second in
    goal
    in
    record {
      front = r.front;
      rest = r.rest;
      is = r.is;
      place_is = r.place_is;
      again = λ more same. ap (λ (read : Read A). next read f) (r.again more same);
      ending = r.ending ++ last.ending;
      value = last.value;
      ends = step;
    }

refused_next : {A B : Type 0} (p : Reader A) (f : A → Reader B) (g1 g2 : Goes) (tokens middle : List Placed) (a : A) (place : Option ℕ)
    → Apart g1 g2 (f a) → Took p g1 tokens a middle → Refused (f a) g2 middle place → Refused (p >>= f) g2 tokens place
refused_next p f g1 g2 tokens middle a place apart t r =
    let again = λ (more : List Placed) (same : head_of more ≡ head_of r.rest).
    let second : f a (r.front ++ more) ≡ Err place = r.again more same in
    let first : p (t.front ++ (r.front ++ more)) ≡ Ok (a, r.front ++ more) =
    t.again (r.front ++ more) (inl (head-append r.front more r.rest same ∙ ap head_of (sym r.is))) in
    let goal : (p >>= f) ((t.front ++ r.front) ++ more) ≡ Err place = rw (append_assoc t.front r.front more, first) second in
    goal
    in
    let ends = λ (more : List Placed) (stops : begins g2 more ≡ false).
    let second : f a (r.front ++ (r.ending ++ more)) ≡ Ok (r.value, more) = r.ends more stops in
    let first : p (t.front ++ (r.front ++ (r.ending ++ more))) ≡ Ok (a, r.front ++ (r.ending ++ more)) =
    t.again (r.front ++ (r.ending ++ more)) (inr (apart (r.front ++ (r.ending ++ more)) r.value more second stops)) in
    let goal : (p >>= f) ((t.front ++ r.front) ++ (r.ending ++ more)) ≡ Ok (r.value, more) = rw (append_assoc t.front r.front (r.ending ++ more), first) second in
    goal
    in
    record {
      front = t.front ++ r.front;
      rest = r.rest;
      is = t.is ∙ ap (λ (x : List Placed). t.front ++ x) r.is ∙ sym (append_assoc t.front r.front r.rest);
      place_is = r.place_is;
      again = again;
      ending = r.ending;
      value = r.value;
      ends = ends;
    }

pub LawfulAt-next : {A B : Type 0} (p : Reader A) (f : A → Reader B) (g1 g2 : Goes) (tokens : List Placed)
    → LawfulAt p g1 tokens → ((a : A) (middle : List Placed) → p tokens ≡ Ok (a, middle) → LawfulAt (f a) g2 middle)
    → ((a : A) → Apart g1 g2 (f a)) → ((a : A) → Example (f a) g2) → LawfulAt (p >>= f) g2 tokens
LawfulAt-next p f g1 g2 tokens first second apart example = record {
  ok = λ b rest e.
      let x = next_ok (p tokens) f b rest e in
      took_next p f g1 g2 tokens x.1 rest x.0 b (apart x.0) (first.ok x.0 x.1 x.2) ((second x.0 x.1 x.2).ok b rest x.3);
  err = λ place e. elim (next_err (p tokens) f place e) [
    | inl refused ↦ refused_first p f g1 g2 tokens place apart example (first.err place refused)
    | inr x ↦ refused_next p f g1 g2 tokens x.1 x.0 place (apart x.0) (first.ok x.0 x.1 x.2) ((second x.0 x.1 x.2).err place x.3)
  ];
}

pub Example-next : {A B : Type 0} (p : Reader A) (f : A → Reader B) (g1 g2 : Goes)
    → Example p g1 → ((a : A) → Apart g1 g2 (f a)) → ((a : A) → Example (f a) g2) → Example (p >>= f) g2
Example-next p f g1 g2 e apart example =
    let last = example e.value in
    let step = λ (more : List Placed) (stops : begins g2 more ≡ false).
    let second : f e.value (last.ending ++ more) ≡ Ok (last.value, more) = last.ends more stops in
    let first : p (e.ending ++ (last.ending ++ more)) ≡ Ok (e.value, last.ending ++ more) =
    e.ends (last.ending ++ more) (apart e.value (last.ending ++ more) last.value more second stops) in
    let goal : (p >>= f) ((e.ending ++ last.ending) ++ more) ≡ Ok (last.value, more) = rw (append_assoc e.ending last.ending more, first) second in
    goal
    in
    record { ending = e.ending ++ last.ending; value = last.value; ends = step }

-- a part that may go on, and then another
pub Lawful-next : {A B : Type 0} (p : Reader A) (f : A → Reader B) (g1 g2 : Goes)
    → Lawful p g1 → ((a : A) → Lawful (f a) g2) → ((a : A) → Apart g1 g2 (f a)) → Lawful (p >>= f) g2
Lawful-next p f g1 g2 first second apart = record {
  at = λ tokens. LawfulAt-next p f g1 g2 tokens (first.at tokens) (λ a middle e. (second a).at middle) apart (λ a. (second a).example);
  example = Example-next p f g1 g2 first.example apart (λ a. (second a).example);
}

-- the test that no token passes
abbrev pub none : Goes
none token = false

begins-none : (tokens : List Placed) → begins none tokens ≡ false
begins-none [] = refl
begins-none (token ∷ tokens) = refl

-- a part that ends by itself, and then another
pub Lawful-then : {A B : Type 0} (p : Reader A) (f : A → Reader B) (goes : Goes)
    → Lawful p none → ((a : A) → Lawful (f a) goes) → Lawful (p >>= f) goes
Lawful-then p f goes first second = Lawful-next p f none goes first second (λ a tokens b rest e stops. begins-none tokens)

-- ---- without a token

pub Lawful-give : {A : Type 0} (a : A) (goes : Goes) → Lawful (give a) goes
Lawful-give a goes = record {
  at = λ tokens. record {
    ok = λ b rest e.
        let x = pair_is a b tokens rest e in
        record { front = []; is = x.1; again = λ more may. ap (λ y. Ok (y, more)) x.0 };
    err = λ place e. absurd cc;
  };
  example = record { ending = []; value = a; ends = λ more stops. refl };
}

-- with more tokens that a part may go on with
pub Lawful-weaken : {A : Type 0} (p : Reader A) (g1 g2 : Goes) → ((token : Token) → g2 token ≡ false → g1 token ≡ false) → Lawful p g1 → Lawful p g2
Lawful-weaken p g1 g2 less l =
    let stops : (more : List Placed) → begins g2 more ≡ false → begins g1 more ≡ false = elim [ [] ↦ λ e. refl | token ∷ more ↦ λ e. less token.token e ] in
    record {
      at = λ tokens. record {
        ok = λ a rest e. let t = (l.at tokens).ok a rest e in record { front = t.front; is = t.is; again = λ more may. t.again more (elim may as (λ _. May g1 rest more) [ inl same ↦ inl same | inr e ↦ inr (stops more e) ]) };
        err = λ place e. let r = (l.at tokens).err place e in record {
          front = r.front;
          rest = r.rest;
          is = r.is;
          place_is = r.place_is;
          again = r.again;
          ending = r.ending;
          value = r.value;
          ends = λ more e. r.ends more (stops more e);
        };
      };
      example = record { ending = l.example.ending; value = l.example.value; ends = λ more e. l.example.ends more (stops more e) };
    }

-- ---- one token

abbrev pub refused_at : {A : Type 0} → Option ℕ → Read A
refused_at place = Err place

place_in : {A : Type 0} (a b : Option ℕ) → refused_at {A = A} a ≡ refused_at b → a ≡ b
place_in a b e = cc

one-took : {A : Type 0} (wanted : Placed → Option A) (goes : Goes) (token : Placed) (tokens : List Placed) (o : Option A) → wanted token ≡ o
    → (a : A) (rest : List Placed) → taken o token tokens ≡ Ok (a, rest) → Took (one wanted) goes (token ∷ tokens) a rest
one-took wanted goes token tokens (Some b) is a rest e =
    let x = pair_is b a tokens rest e in
    record { front = token ∷ []; is = ap (λ (r : List Placed). token ∷ r) x.1; again = λ more may. rw is (ap (λ y. Ok (y, more)) x.0) }
one-took wanted goes token tokens None is a rest e = absurd cc

one-again : {A : Type 0} (wanted : Placed → Option A) (tokens more : List Placed) (place : Option ℕ) → one wanted tokens ≡ Err place → head_of more ≡ head_of tokens → one wanted more ≡ Err place
one-again wanted [] [] place e same = e
one-again wanted [] (token ∷ more) place e same = absurd cc
one-again wanted (token ∷ tokens) [] place e same = absurd cc
one-again {A} wanted (token ∷ tokens) (other ∷ more) place e same =
    let first : other ≡ token = cc in
    rw first (go (wanted token) e)
  where
    go : (o : Option A) → taken o token tokens ≡ Err place → taken o token more ≡ Err place
    go (Some a) e = absurd cc
    go None e = e

one-place : {A : Type 0} (wanted : Placed → Option A) (tokens : List Placed) (place : Option ℕ) → one wanted tokens ≡ Err place → place ≡ place_of tokens
one-place {A} wanted [] place e = sym (place_in {A = A} None place e)
one-place {A} wanted (token ∷ tokens) place e = go (wanted token) e
  where
    go : (o : Option A) → taken o token tokens ≡ Err place → place ≡ Some token.at
    go (Some a) e = absurd cc
    go None e = sym (place_in {A = A} (Some token.at) place e)

-- one token, where there is such a token
pub Lawful-one : {A : Type 0} (wanted : Placed → Option A) (goes : Goes) (token : Placed) (a : A) → wanted token ≡ Some a → Lawful (one wanted) goes
Lawful-one {A} wanted goes sample a is =
    let ends : (more : List Placed) → begins goes more ≡ false → one wanted ((sample ∷ []) ++ more) ≡ Ok (a, more) = λ more stops. rw is refl in
    record {
      at = λ tokens. record {
        ok = took tokens;
        err = λ place e. record {
          front = [];
          rest = tokens;
          is = refl;
          place_is = one-place wanted tokens place e;
          again = λ more same. one-again wanted tokens more place e same;
          ending = sample ∷ [];
          value = a;
          ends = ends;
        };
      };
      example = record { ending = sample ∷ []; value = a; ends = ends };
    }
  where
    took : (tokens : List Placed) (b : A) (rest : List Placed) → one wanted tokens ≡ Ok (b, rest) → Took (one wanted) goes tokens b rest
    took [] b rest e = absurd cc
    took (token ∷ tokens) b rest e = one-took wanted goes token tokens (wanted token) refl b rest e

-- ---- two ways

-- what a wanted next token stands for
abbrev pub ahead : {A : Type 0} → (Placed → Option A) → List Placed → Option A
ahead wanted [] = None
ahead wanted (token ∷ tokens) = wanted token

-- the tokens behind the next one
abbrev behind : List Placed → List Placed
behind [] = []
behind (token ∷ tokens) = tokens

pub if_off : {A B : Type 0} (wanted : Placed → Option A) (on : A → Reader B) (off : Reader B) (tokens : List Placed) → ahead wanted tokens ≡ None → if_next wanted on off tokens ≡ off tokens
if_off wanted on off [] e = refl
if_off wanted on off (token ∷ tokens) e = rw e refl

pub if_on : {A B : Type 0} (wanted : Placed → Option A) (on : A → Reader B) (off : Reader B) (token : Placed) (tokens : List Placed) (a : A) → wanted token ≡ Some a
    → if_next wanted on off (token ∷ tokens) ≡ on a tokens
if_on wanted on off token tokens a e = rw e refl

ahead-same : {A : Type 0} (wanted : Placed → Option A) (more tokens : List Placed) → head_of more ≡ head_of tokens → ahead wanted more ≡ ahead wanted tokens
ahead-same wanted [] [] e = refl
ahead-same wanted [] (token ∷ tokens) e = absurd cc
ahead-same wanted (token ∷ more) [] e = absurd cc
ahead-same wanted (other ∷ more) (token ∷ tokens) e = let first : other ≡ token = cc in ap wanted first

pub ahead-none : {A : Type 0} (wanted : Placed → Option A) (test : Goes) → ((token : Placed) → test token.token ≡ false → wanted token ≡ None) → (tokens : List Placed) → begins test tokens ≡ false → ahead wanted tokens ≡ None
ahead-none wanted test means [] e = refl
ahead-none wanted test means (token ∷ tokens) e = means token e

LawfulAt-off : {A B : Type 0} (wanted : Placed → Option A) (on : A → Reader B) (off : Reader B) (goes : Goes)
    → ((tokens : List Placed) (b : B) (rest : List Placed) → off tokens ≡ Ok (b, rest) → begins goes rest ≡ false → ahead wanted tokens ≡ None)
    → (tokens : List Placed) → ahead wanted tokens ≡ None → LawfulAt off goes tokens → LawfulAt (if_next wanted on off) goes tokens
LawfulAt-off wanted on off goes apart tokens not l = record {
  ok = λ b rest e.
      let t = l.ok b rest (sym (if_off wanted on off tokens not) ∙ e) in
      let again = λ (more : List Placed) (may : May goes rest more).
      let given : off (t.front ++ more) ≡ Ok (b, more) = t.again more may in
      let still : ahead wanted (t.front ++ more) ≡ None = (elim may as (λ _. ahead wanted (t.front ++ more) ≡ None) [
        | inl same ↦ ahead-same wanted (t.front ++ more) tokens (head-append t.front more rest same ∙ ap head_of (sym t.is)) ∙ not
        | inr stops ↦ apart (t.front ++ more) b more given stops
      ]) in
      if_off wanted on off (t.front ++ more) still ∙ given
      in
      record { front = t.front; is = t.is; again = again };
  err = λ place e.
      let r = l.err place (sym (if_off wanted on off tokens not) ∙ e) in
      let again = λ (more : List Placed) (same : head_of more ≡ head_of r.rest).
      if_off wanted on off (r.front ++ more) (ahead-same wanted (r.front ++ more) tokens (head-append r.front more r.rest same ∙ ap head_of (sym r.is)) ∙ not) ∙ r.again more same in
      let ends = λ (more : List Placed) (stops : begins goes more ≡ false).
      let given = r.ends more stops in
      if_off wanted on off (r.front ++ (r.ending ++ more)) (apart (r.front ++ (r.ending ++ more)) r.value more given stops) ∙ given in
      record { front = r.front; rest = r.rest; is = r.is; place_is = r.place_is; again = again; ending = r.ending; value = r.value; ends = ends };
}

LawfulAt-on : {A B : Type 0} (wanted : Placed → Option A) (on : A → Reader B) (off : Reader B) (goes : Goes) (token : Placed) (tokens : List Placed) (a : A)
    → wanted token ≡ Some a → LawfulAt (on a) goes tokens → LawfulAt (if_next wanted on off) goes (token ∷ tokens)
LawfulAt-on wanted on off goes token tokens a is l = record {
  ok = λ b rest e.
      let t = l.ok b rest (sym (if_on wanted on off token tokens a is) ∙ e) in
      record { front = token ∷ t.front; is = ap (λ (r : List Placed). token ∷ r) t.is; again = λ more may. if_on wanted on off token (t.front ++ more) a is ∙ t.again more may };
  err = λ place e.
      let r = l.err place (sym (if_on wanted on off token tokens a is) ∙ e) in
      record {
        front = token ∷ r.front;
        rest = r.rest;
        is = ap (λ (r : List Placed). token ∷ r) r.is;
        place_is = r.place_is;
        again = λ more same. if_on wanted on off token (r.front ++ more) a is ∙ r.again more same;
        ending = r.ending;
        value = r.value;
        ends = λ more stops. if_on wanted on off token (r.front ++ (r.ending ++ more)) a is ∙ r.ends more stops;
      };
}

-- at one list of tokens: what either way needs
pub LawfulAt-if : {A B : Type 0} (wanted : Placed → Option A) (on : A → Reader B) (off : Reader B) (test goes : Goes) (tokens : List Placed)
    → ((token : Placed) → test token.token ≡ false → wanted token ≡ None)
    → Apart test goes off
    → ((token : Placed) (rest : List Placed) (a : A) → tokens ≡ token ∷ rest → LawfulAt (on a) goes rest) → LawfulAt off goes tokens → LawfulAt (if_next wanted on off) goes tokens
LawfulAt-if {A} {B} wanted on off test goes tokens means apart first second = go tokens refl
  where
    none_ahead : (tokens : List Placed) (b : B) (rest : List Placed) → off tokens ≡ Ok (b, rest) → begins goes rest ≡ false → ahead wanted tokens ≡ None
    none_ahead tokens b rest e stops = ahead-none wanted test means tokens (apart tokens b rest e stops)

    by : (token : Placed) (rest : List Placed) → tokens ≡ token ∷ rest → (o : Option A) → wanted token ≡ o → LawfulAt (if_next wanted on off) goes (token ∷ rest)
    by token rest is (Some a) e = LawfulAt-on wanted on off goes token rest a e (first token rest a is)
    by token rest is None e = LawfulAt-off wanted on off goes none_ahead (token ∷ rest) e (subst (λ x. LawfulAt off goes x) is second)

    go : (x : List Placed) → tokens ≡ x → LawfulAt (if_next wanted on off) goes tokens
    go [] is = LawfulAt-off wanted on off goes none_ahead tokens (ap (ahead wanted) is) second
    go (token ∷ rest) is = subst (λ x. LawfulAt (if_next wanted on off) goes x) (sym is) (by token rest is (wanted token) refl)

pub Example-if : {A B : Type 0} (wanted : Placed → Option A) (on : A → Reader B) (off : Reader B) (test goes : Goes)
    → ((token : Placed) → test token.token ≡ false → wanted token ≡ None) → Apart test goes off → Example off goes → Example (if_next wanted on off) goes
Example-if wanted on off test goes means apart e = record {
  ending = e.ending;
  value = e.value;
  ends = λ more stops. let given = e.ends more stops in if_off wanted on off (e.ending ++ more) (ahead-none wanted test means (e.ending ++ more) (apart (e.ending ++ more) e.value more given stops)) ∙ given;
}

-- on behind a wanted token, which begins no text of the other way, and else off
pub Lawful-if : {A B : Type 0} (wanted : Placed → Option A) (on : A → Reader B) (off : Reader B) (test goes : Goes)
    → ((token : Placed) → test token.token ≡ false → wanted token ≡ None)
    → Apart test goes off → ((a : A) → Lawful (on a) goes) → Lawful off goes → Lawful (if_next wanted on off) goes
Lawful-if wanted on off test goes means apart first second = record {
  at = λ tokens. LawfulAt-if wanted on off test goes tokens means apart (λ token rest a is. (first a).at rest) (second.at tokens);
  example = Example-if wanted on off test goes means apart second.example;
}
