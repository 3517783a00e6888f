use Rattle.std.proofs.Common.{◌≡◌, ℕ, Bool, false, ◌||◌, List, refl, sym}
use Rattle.std.proofs.lemmas.Bool.{false_from_ne_true}
use Rattle.std.proofs.lemmas.Slice.Eq.{bytes_eq-Decides}
use Rattle.std.specs.Str.{bytes_eq}
use Rattle.stream_core.proofs.names.is_keyword.Goals as goal

-- one more keyword that the text is not
none : (keyword text : List ℕ) (rest : Bool) → (text ≡ keyword → ⊥) → false ≡ rest → false ≡ (bytes_eq keyword text || rest)
none keyword text rest differs no_rest =
    let differs_too : bytes_eq keyword text ≡ false = false_from_ne_true _ (λ e. differs (sym ((bytes_eq-Decides keyword text).0 e))) in
    rw differs_too no_rest

pub returns-in_default : goal.returns-in_default
returns-in_default c =
    let n = c.in_default in
    none _ _ _ n.not-select (none _ _ _ n.not-from (none _ _ _ n.not-where₀ (none _ _ _ n.not-and (none _ _ _ n.not-or
    (none _ _ _ n.not-between (none _ _ _ n.not-in (none _ _ _ n.not-group (none _ _ _ n.not-order (none _ _ _ n.not-by
    (none _ _ _ n.not-asc (none _ _ _ n.not-desc (none _ _ _ n.not-sum (none _ _ _ n.not-as refl)))))))))))))
