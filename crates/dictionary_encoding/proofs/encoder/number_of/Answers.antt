use Rattle.std.proofs.Common.{◌≡◌, ◌∙◌, ℕ, Vec, Global, true, sym, refl, subst, inl, inr, arith}
use Rattle.std.specs.Str.{bytes_eq}
use Rattle.std.proofs.lemmas.List.Quantifiers.{position-Some}
use Rattle.std.proofs.lemmas.Option.{slice_get-map, slice_get_cases}
use Rattle.std.proofs.lemmas.Slice.Eq.{bytes_eq-Decides}
use Rattle.dictionary_encoding.proofs.encoder.number_of.Goals as goal

pub returns-in-Some-clause-number : goal.returns-in-Some-clause-number
returns-in-Some-clause-number c =
    let keys = c.args.distinct.now.keys in
    let text = c.args.text.now in
    let number = c.in-Some.number in
    elim (slice_get_cases keys number).1 [
      | inl (key, within, at, is) ↦
          let (_, passes, _) = position-Some (λ (k : Vec ℕ Global). bytes_eq text k.items) keys number key (sym c.in-Some.ensures.index) in
          let same : text ≡ key.items = (bytes_eq-Decides text key.items).0 (subst (λ (k : Vec ℕ Global). bytes_eq text k.items ≡ true) is passes) in
          slice_get-map (λ (k : Vec ℕ Global). k.items) keys number ∙ rw (at, same) refl
      | inr (past, none) ↦ absurd (omega (arith, past, c.in-Some.ensures.within))
    ]
