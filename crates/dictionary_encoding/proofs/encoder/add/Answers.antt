use Rattle.std.proofs.Common.{◌≡◌, ◌∙◌, ℕ, Vec, Global, sym, refl}
use Rattle.std.proofs.lemmas.Option.{slice_get-map}
use Rattle.std.proofs.lemmas.Slice.Eq.{bytes_eq-Decides}
use Rattle.dictionary_encoding.proofs.encoder.add.Goals as goal

pub returns-clause-number : goal.returns-clause-number
returns-clause-number c =
    let (key, at, same) = c.in_ok-place.ensures.stored in
    let value = c.in_ok-from_slice.field-0 in
    let text : key.items ≡ c.args.text.now = sym ((bytes_eq-Decides value.items key.items).0 same) ∙ c.in_ok-from_slice.ensures.items in
    slice_get-map (λ (v : Vec ℕ Global). v.items) c.insert_full.new.self.keys c.in_ok-place.place ∙ rw (at, text) refl
